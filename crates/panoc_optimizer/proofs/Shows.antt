-- The points of the question that a run waits with. Assumes nothing.
use Rattle.std.proofs.Common.{◌≡◌, refl, ap, sym, ◌∙◌, ℕ, Bool, true, false, cond, ◌&&◌, eqb, eqb-true, List, length, Float}
use Rattle.std.proofs.Math.Option.{none, some}
use Rattle.model.proofs.Facts.{and_left, and_right}
use Rattle.board.specs.Board.{vector, U}
use Rattle.board.proofs.Writes.{length_vector}
use Rattle.machine.specs.Shown.{Shown, shown}
use Rattle.machine.specs.InnerRest.{sound}
use Rattle.machine.specs.InnerCalls.{first_point, second_point}
use Rattle.machine.specs.InnerAnswer as Answer
use Rattle.panoc_engine.specs.declared.panoc_cache.Solve.{Solve}
use Rattle.panoc_engine.specs.declared.panoc_cache.Phase.TheVariants as P
use Rattle.panoc_engine.specs.Values.{phase_of}
use Rattle.panoc_engine.specs.Runs.{run_of}
use Rattle.panoc_engine.specs.Places.{place_of, first_places, second_places}
use Rattle.panoc_engine.proofs.Asks.{asks}

module _ (s : Solve) (l xs ys : List Float) where
  -- a run that no start made, or that has ended
  pub points_wild : sound (run_of s l) ≡ false → (let o : Shown = record { number = 6; first = xs; second = ys } in o) ≡ Answer.points (run_of s l) xs ys
  unfolding Answer.points Answer.question_of shown
  points_wild z = rw z refl

  pub points_over : s.phase ≡ P.Over → (let o : Shown = record { number = 6; first = xs; second = ys } in o) ≡ Answer.points (run_of s l) xs ys
  unfolding run_of Answer.points Answer.question_of shown
  points_over e = by (sound (run_of s l))
    where
      by : (t : Bool) → (let o : Shown = record { number = 6; first = xs; second = ys } in o) ≡ shown first_point second_point (cond t (Answer.question_at (run_of s l) (phase_of s.phase)) none) xs ys
      by true = rw e refl
      by false = refl

  module _ (z : sound (run_of s l) ≡ true) (k : s.phase ≡ P.Over → ⊥) where
    at : Answer.points (run_of s l) xs ys ≡ shown first_point second_point (some (asks s l s.phase k).question) xs ys
    unfolding run_of Answer.points Answer.question_of
    at = let e = (asks s l s.phase k).is in rw (z, e) refl

    test : (eqb (length xs) (length (first_point (asks s l s.phase k).question)) && eqb (length ys) (length (second_point (asks s l s.phase k).question)))
        ≡ (eqb (length xs) (first_places s.set.n s.phase) && eqb (length ys) (second_places s.set.n s.phase))
    test =
        let a = ap length (asks s l s.phase k).first ∙ length_vector (place_of s.phase) (first_places s.set.n s.phase) l in
        let b = ap length (asks s l s.phase k).second ∙ length_vector U (second_places s.set.n s.phase) l in
        rw (a, b) refl

    pub points_short : (eqb (length xs) (first_places s.set.n s.phase) && eqb (length ys) (second_places s.set.n s.phase)) ≡ false
        → (let o : Shown = record { number = 8; first = xs; second = ys } in o) ≡ Answer.points (run_of s l) xs ys
    unfolding shown
    points_short t = let e = test ∙ t in sym (at ∙ rw e refl)

    pub points_shown : (xs' ys' : List Float) → xs' ≡ vector (place_of s.phase) (length xs) l → ys' ≡ vector U (length ys) l
        → (eqb (length xs) (first_places s.set.n s.phase) && eqb (length ys) (second_places s.set.n s.phase)) ≡ true
        → (let o : Shown = record { number = 0; first = xs'; second = ys' } in o) ≡ Answer.points (run_of s l) xs ys
    unfolding shown
    points_shown xs' ys' x y t =
        let e = test ∙ t in
        let m = eqb-true (length xs) (first_places s.set.n s.phase) (and_left _ _ t) in
        let n = eqb-true (length ys) (second_places s.set.n s.phase) (and_right (eqb (length xs) (first_places s.set.n s.phase)) _ t) in
        let a = x ∙ ap (λ (i : ℕ). vector (place_of s.phase) i l) m ∙ sym (asks s l s.phase k).first in
        let b = y ∙ ap (λ (i : ℕ). vector U i l) n ∙ sym (asks s l s.phase k).second in
        sym (at ∙ rw (e, a, b) refl)

pub ruleset points = (points_wild, points_over, points_short, points_shown)

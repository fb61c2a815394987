-- The points of the question that a run waits with. Assumes nothing.
use Rattle.std.proofs.Common.{◌≡◌, refl, ap, sym, ◌∙◌, ℕ, ◌+◌, ◌*◌, ◌≤◌, ◌<◌, Bool, true, false, cond, ◌&&◌, eqb, eqb-true, eq-eqb, ne_eqb, List, [], ◌∷◌, length, take, Float, arith}
use Rattle.std.specs.Prelude as Std
use Rattle.std.proofs.Math.Option.{Option, none, some}
use Rattle.model.specs.Process.{LoopQuestion}
use Rattle.model.specs.Loop.{xi_of}
use Rattle.model.specs.Refusals.{xi_length}
use Rattle.board.specs.Firsts.{firsts}
use Rattle.board.specs.Board.{vector, board_of, U, PLUS, STEP, HALF, FPR, BEST, Y}
use Rattle.board.proofs.Writes.{length_vector}
use Rattle.machine.specs.Shown.{Shown, shown}
use Rattle.machine.specs.InnerRest as InnerRest
use Rattle.machine.specs.InnerAnswer as Inner
use Rattle.machine.specs.LoopRest.{sound}
use Rattle.machine.specs.LoopCalls.{first_point, second_point}
use Rattle.machine.specs.LoopAnswer as Answer
use Rattle.machine.proofs.LoopLaws.{sized_n, sized_n1, sound_sized}
use Rattle.panoc_engine.specs.declared.panoc_cache.Phase.{Phase}
use Rattle.panoc_engine.specs.declared.panoc_cache.Phase.TheVariants as P
use Rattle.panoc_engine.specs.Values.{phase_of}
use Rattle.panoc_engine.specs.Runs.{run_of}
use Rattle.alm_engine.specs.declared.alm_cache.Alm.{Alm}
use Rattle.alm_engine.specs.declared.alm_cache.AlmSettings.{AlmSettings}
use Rattle.alm_engine.specs.declared.alm_cache.AlmPhase.{AlmPhase}
use Rattle.alm_engine.specs.declared.alm_cache.AlmPhase.TheVariants as A
use Rattle.alm_engine.specs.Values.{loop_settings_of, loop_phase_of}
use Rattle.alm_engine.specs.LoopBoard.{loop_board_of}
use Rattle.alm_engine.specs.LoopRuns.{loop_run}
use Rattle.alm_engine.proofs.LoopHeld.{inner_vector}
use Rattle.alm_optimizer.specs.declared.showing.Second.{Second}
use Rattle.alm_optimizer.specs.declared.showing.Second.TheVariants.{Nothing, Iterate, Xi}
use Rattle.alm_optimizer.specs.declared.showing.Located.{Located}
use Rattle.alm_optimizer.proofs.Answers.{xi_lies}
use Rattle.alm_optimizer.specs.Points.{inner_points, own_points, second_places, second_in, second_filled, pair_of, lying, roomy}

-- ---- where the points of each question lie
module _ (s : Alm) (l : List Float) (p : 768 ≤ length l) (m : s.set.n ≤ 64) where
  here : (j : ℕ) → j < 9 → vector j s.set.n (take 576 l) ≡ vector j s.set.n l
  here j h = inner_vector l (omega arith) j s.set.n h m

  pub own_lying : (k : AlmPhase) → (k ≡ A.Inner → ⊥) → pair_of (Answer.question_at (loop_run s l) (loop_phase_of k)) ≡ lying s.set (own_points s.set k) l
  unfolding loop_run loop_board_of board_of vector firsts
  own_lying A.Over h = refl
  own_lying A.Time h = refl
  own_lying A.ProjectY h = refl
  own_lying A.Inner h = absurd (h refl)
  own_lying A.F1 h = let e = here BEST (omega arith) in rw e refl
  own_lying A.ProjectC h = refl
  own_lying A.F2 h = let e = here BEST (omega arith) in rw e refl
  own_lying A.LastCost h = let e = here U (omega arith) in rw e refl

  inner_lying : (k : Phase) → pair_of (Answer.carrying (xi_of (loop_run s l).set (loop_run s l).c (loop_run s l).y) (Inner.question_at (loop_run s l).solve (phase_of k))) ≡ lying s.set (inner_points s.set.n s.numbers.penalty k) l
  unfolding loop_run loop_board_of board_of vector firsts
  inner_lying P.Over = refl
  inner_lying P.Cost = let e = here U (omega arith) in rw e refl
  inner_lying P.Gradient = let e = here U (omega arith) in rw e refl
  inner_lying P.Shifted = let e = here U (omega arith) in rw e refl
  inner_lying P.Project = let e = here STEP (omega arith) in rw e refl
  inner_lying P.HalfCost = let e = here HALF (omega arith) in rw e refl
  inner_lying P.DoubledProject = let e = here STEP (omega arith) in rw e refl
  inner_lying P.DoubledCost = let e = here HALF (omega arith) in rw e refl
  inner_lying P.Direction = let e = here U (omega arith) in let d = here FPR (omega arith) in rw (e, d) refl
  inner_lying P.FirstCost = let e = here U (omega arith) in rw e refl
  inner_lying P.FirstGradient = let e = here U (omega arith) in rw e refl
  inner_lying P.FirstProject = let e = here STEP (omega arith) in rw e refl
  inner_lying P.TriedCost = let e = here PLUS (omega arith) in rw e refl
  inner_lying P.TriedGradient = let e = here PLUS (omega arith) in rw e refl
  inner_lying P.TriedProject = let e = here STEP (omega arith) in rw e refl
  inner_lying P.Time = refl
  inner_lying P.LastCost = let e = here BEST (omega arith) in rw e refl

-- ---- they lie within the board
own_room : (s : AlmSettings) (k : AlmPhase) → s.n ≤ 64 → s.n1 ≤ 32 → roomy s (own_points s k)
own_room s A.Over a b = tt
own_room s A.Time a b = (omega arith, a, b)
own_room s A.ProjectY a b = (omega arith, a, b)
own_room s A.Inner a b = tt
own_room s A.F1 a b = (omega arith, a, b)
own_room s A.ProjectC a b = (omega arith, a, b)
own_room s A.F2 a b = (omega arith, a, b)
own_room s A.LastCost a b = (omega arith, a, b)

inner_room : (s : AlmSettings) (c : Float) (k : Phase) → s.n ≤ 64 → s.n1 ≤ 32 → roomy s (inner_points s.n c k)
inner_room s c P.Over a b = tt
inner_room s c P.Cost a b = (omega arith, a, b)
inner_room s c P.Gradient a b = (omega arith, a, b)
inner_room s c P.Shifted a b = (omega arith, a, b)
inner_room s c P.Project a b = (omega arith, a, b)
inner_room s c P.HalfCost a b = (omega arith, a, b)
inner_room s c P.DoubledProject a b = (omega arith, a, b)
inner_room s c P.DoubledCost a b = (omega arith, a, b)
inner_room s c P.Direction a b = (omega arith, a, b)
inner_room s c P.FirstCost a b = (omega arith, a, b)
inner_room s c P.FirstGradient a b = (omega arith, a, b)
inner_room s c P.FirstProject a b = (omega arith, a, b)
inner_room s c P.TriedCost a b = (omega arith, a, b)
inner_room s c P.TriedGradient a b = (omega arith, a, b)
inner_room s c P.TriedProject a b = (omega arith, a, b)
inner_room s c P.Time a b = (omega arith, a, b)
inner_room s c P.LastCost a b = (omega arith, a, b)

-- ---- of the question of a run
module _ (s : Alm) (t : Bool) (e : (l : List Float) → t ≡ sound (loop_run s l)) where
  pub places_unsound : t ≡ false → (l : List Float) → pair_of (Answer.question_of (loop_run s l)) ≡ none
  unfolding Answer.question_of
  places_unsound q l = let x = sym (e l) ∙ q in rw x refl

  module _ (q : t ≡ true) where
    size_n : s.set.n ≤ 64
    unfolding loop_run
    size_n = sized_n (loop_run s []) (sound_sized (loop_run s []) (sym (e []) ∙ q))

    size_n1 : s.set.n1 ≤ 32
    unfolding loop_run
    size_n1 = sized_n1 (loop_run s []) (sound_sized (loop_run s []) (sym (e []) ∙ q))

    at : (l : List Float) → Answer.question_of (loop_run s l) ≡ Answer.question_at (loop_run s l) (loop_phase_of s.phase)
    unfolding loop_run Answer.question_of
    at l = let x = sym (e l) ∙ q in rw x refl

    pub places_own : (s.phase ≡ A.Inner → ⊥) → (o : Std.Option Located) → o ≡ own_points s.set s.phase → (l : List Float) → 768 ≤ length l
        → pair_of (Answer.question_of (loop_run s l)) ≡ lying s.set o l
    places_own h o d l p = ap pair_of (at l) ∙ own_lying s l p size_n s.phase h ∙ ap (λ (x : Std.Option Located). lying s.set x l) (sym d)

    pub room_own : (o : Std.Option Located) → o ≡ own_points s.set s.phase → roomy s.set o
    room_own o d = rw d (own_room s.set s.phase size_n size_n1)

    pub room_inner : (o : Std.Option Located) → o ≡ inner_points s.set.n s.numbers.penalty s.solve.phase → roomy s.set o
    room_inner o d = rw d (inner_room s.set s.numbers.penalty s.solve.phase size_n size_n1)

    module _ (h : s.phase ≡ A.Inner) (r : Bool) (z : (l : List Float) → r ≡ InnerRest.sound (run_of s.solve l)) (l : List Float) where
      same : InnerRest.sound (run_of s.solve l) ≡ InnerRest.sound (loop_run s l).solve
      unfolding loop_run run_of InnerRest.sound
      same = refl

      carried : (x : Bool) → x ≡ r → Answer.question_of (loop_run s l)
          ≡ Answer.carrying (xi_of (loop_run s l).set (loop_run s l).c (loop_run s l).y) (cond x (Inner.question_at (loop_run s l).solve (phase_of s.solve.phase)) none)
      unfolding loop_run Inner.question_of
      carried x f =
          let w = sym (f ∙ z l ∙ same) in
          at l ∙ ap (λ (k : AlmPhase). Answer.question_at (loop_run s l) (loop_phase_of k)) h ∙ rw w refl

      pub places_spent : r ≡ false → pair_of (Answer.question_of (loop_run s l)) ≡ none
      places_spent f = ap pair_of (carried false (sym f))

      pub places_inner : r ≡ true → (o : Std.Option Located) → o ≡ inner_points s.set.n s.numbers.penalty s.solve.phase → 768 ≤ length l
          → pair_of (Answer.question_of (loop_run s l)) ≡ lying s.set o l
      places_inner f o d p = ap pair_of (carried true (sym f)) ∙ inner_lying s l p size_n s.solve.phase ∙ ap (λ (x : Std.Option Located). lying s.set x l) (sym d)

pub ruleset places = (places_unsound, places_own, room_own, room_inner, places_spent, places_inner)

-- ---- the points copied
shown_by : (o : Option LoopQuestion) (xs ys : List Float) → shown first_point second_point o xs ys
    ≡ shown (λ (q : List Float × List Float). q.0) (λ (q : List Float × List Float). q.1) (pair_of o) xs ys
unfolding shown
shown_by none xs ys = refl
shown_by (some q) xs ys = refl

pub xi_places : (s : AlmSettings) (c : Float) (y : List Float) → length y ≡ s.n1 → length (xi_of (loop_settings_of s) c y) ≡ xi_length s.n1 s.n2
unfolding xi_of xi_length
xi_places s c y e = by (eqb s.n1 0 && eqb s.n2 0)
  where
    by : (b : Bool) → length (cond b [] (c ∷ y)) ≡ cond b 0 (s.n1 + 1)
    by true = refl
    by false = omega (arith, e)

second_size : (s : AlmSettings) (k : Second) (l : List Float) → length (second_in s k l) ≡ second_places s k
second_size s Nothing l = refl
second_size s Iterate l = length_vector U s.n l
second_size s (Xi c) l = xi_places s c (vector Y s.n1 l) (length_vector Y s.n1 l)

second_is : (s : AlmSettings) (k : Second) (l ys : List Float) → length ys ≡ second_places s k → second_filled k l ys ≡ second_in s k l
second_is s Nothing l [] e = refl
second_is s Nothing l (y ∷ ys) e = absurd (omega arith)
second_is s Iterate l ys e = ap (λ (n : ℕ). vector U n l) e
second_is s (Xi c) l ys e = xi_lies (loop_settings_of s) Y c l ys e

module _ (s : Alm) (l xs ys : List Float) (o : Std.Option Located) (e : pair_of (Answer.question_of (loop_run s l)) ≡ lying s.set o l) where
  by_pair : Answer.points (loop_run s l) xs ys ≡ shown (λ (q : List Float × List Float). q.0) (λ (q : List Float × List Float). q.1) (lying s.set o l) xs ys
  unfolding Answer.points
  by_pair = shown_by (Answer.question_of (loop_run s l)) xs ys ∙ ap (λ (x : Option (List Float × List Float)). shown (λ (q : List Float × List Float). q.0) (λ (q : List Float × List Float). q.1) x xs ys) e

  pub points_over : o ≡ Std.None → (let w : Shown = record { number = 6; first = xs; second = ys } in w) ≡ Answer.points (loop_run s l) xs ys
  unfolding shown
  points_over d = sym (by_pair ∙ rw d refl)

  module _ (p : Located) (d : o ≡ Std.Some p) where
    test : (eqb (length xs) (length (vector p.from p.places l)) && eqb (length ys) (length (second_in s.set p.second l))) ≡ (eqb (length xs) p.places && eqb (length ys) (second_places s.set p.second))
    test = let a = length_vector p.from p.places l in let b = second_size s.set p.second l in rw (a, b) refl

    points_short : (eqb (length xs) p.places && eqb (length ys) (second_places s.set p.second)) ≡ false
        → (let w : Shown = record { number = 8; first = xs; second = ys } in w) ≡ Answer.points (loop_run s l) xs ys
    unfolding shown
    points_short t = let z = test ∙ t in sym (by_pair ∙ rw (d, z) refl)

    pub points_first : (length xs ≡ p.places → ⊥) → (let w : Shown = record { number = 8; first = xs; second = ys } in w) ≡ Answer.points (loop_run s l) xs ys
    points_first h = let z = ne_eqb (length xs) p.places h in points_short (rw z refl)

    pub points_second : (b : Bool) → b ≡ eqb (length ys) (second_places s.set p.second) → b ≡ false
        → (let w : Shown = record { number = 8; first = xs; second = ys } in w) ≡ Answer.points (loop_run s l) xs ys
    points_second b f g = let z = sym f ∙ g in points_short (rw z (never (eqb (length xs) p.places)))
      where
        never : (c : Bool) → (c && false) ≡ false
        never true = refl
        never false = refl

    module _ (size_first : length xs ≡ p.places) (b : Bool) (f : b ≡ eqb (length ys) (second_places s.set p.second)) (g : b ≡ true) where
      size_second : length ys ≡ second_places s.set p.second
      size_second = eqb-true (length ys) (second_places s.set p.second) (sym f ∙ g)

      t : (eqb (length xs) p.places && eqb (length ys) (second_places s.set p.second)) ≡ true
      t = let a = eq-eqb (length xs) p.places size_first in let c = sym f ∙ g in rw (a, c) refl

      pub first_room : roomy s.set o → 64 * p.from + length xs ≤ 768
      first_room r = let z : roomy s.set (Std.Some p) = rw d at r in let a = z.0 in let b = size_first in omega arith

      pub second_room : roomy s.set o → length ys ≤ 64
      unfolding xi_length
      second_room r = let z : roomy s.set (Std.Some p) = rw d at r in by p.second z.1 z.2 size_second
        where
          few : (b : Bool) → s.set.n1 ≤ 32 → length ys ≡ cond b 0 (s.set.n1 + 1) → length ys ≤ 64
          few true h w = omega arith
          few false h w = omega arith

          by : (k : Second) → s.set.n ≤ 64 → s.set.n1 ≤ 32 → length ys ≡ second_places s.set k → length ys ≤ 64
          by Nothing a b w = omega arith
          by Iterate a b w = omega arith
          by (Xi c) a b w = few (eqb s.set.n1 0 && eqb s.set.n2 0) b w

      pub points_shown : (xs' ys' : List Float) → xs' ≡ vector p.from (length xs) l → ys' ≡ second_filled p.second l ys
          → (let w : Shown = record { number = 0; first = xs'; second = ys' } in w) ≡ Answer.points (loop_run s l) xs ys
      unfolding shown
      points_shown xs' ys' x y =
          let z = test ∙ t in
          let a = x ∙ ap (λ (i : ℕ). vector p.from i l) size_first in
          let b = y ∙ second_is s.set p.second l ys size_second in
          sym (by_pair ∙ rw (d, z, a, b) refl)

pub ruleset points = (points_over, points_first, points_second, first_room, second_room, points_shown)

-- ---- the second point alone
module _ (s : Alm) (l ys : List Float) (o : Std.Option Located) (e : pair_of (Answer.question_of (loop_run s l)) ≡ lying s.set o l) where
  alone_by : (q : Option LoopQuestion) → shown Answer.no_point second_point q [] ys ≡ shown (λ (q : List Float × List Float). []) (λ (q : List Float × List Float). q.1) (pair_of q) [] ys
  unfolding shown
  alone_by none = refl
  alone_by (some q) = refl

  alone : Answer.second_alone (loop_run s l) ys ≡ shown (λ (q : List Float × List Float). []) (λ (q : List Float × List Float). q.1) (lying s.set o l) [] ys
  unfolding Answer.second_alone
  alone = alone_by (Answer.question_of (loop_run s l)) ∙ ap (λ (x : Option (List Float × List Float)). shown (λ (q : List Float × List Float). []) (λ (q : List Float × List Float). q.1) x [] ys) e

  pub second_over : o ≡ Std.None → (let w : Shown = record { number = 6; first = []; second = ys } in w) ≡ Answer.second_alone (loop_run s l) ys
  unfolding shown
  second_over d = sym (alone ∙ rw d refl)

  module _ (p : Located) (d : o ≡ Std.Some p) (b : Bool) (f : b ≡ eqb (length ys) (second_places s.set p.second)) where
    fits : eqb (length ys) (length (second_in s.set p.second l)) ≡ b
    fits = let a = second_size s.set p.second l in rw (a, f) refl

    pub second_short : b ≡ false → (let w : Shown = record { number = 8; first = []; second = ys } in w) ≡ Answer.second_alone (loop_run s l) ys
    unfolding shown
    second_short g = let z = fits ∙ g in sym (alone ∙ rw (d, z) refl)

    module _ (g : b ≡ true) where
      pub alone_room : roomy s.set o → length ys ≤ 64
      alone_room r = second_room s l (vector p.from p.places l) ys o e p d (length_vector p.from p.places l) b f g r

      pub second_shown : (ys' : List Float) → ys' ≡ second_filled p.second l ys → (let w : Shown = record { number = 0; first = []; second = ys' } in w) ≡ Answer.second_alone (loop_run s l) ys
      unfolding shown
      second_shown ys' y =
          let z = fits ∙ g in
          let a = y ∙ second_is s.set p.second l ys (eqb-true (length ys) (second_places s.set p.second) (sym f ∙ g)) in
          sym (alone ∙ rw (d, z, a) refl)

pub ruleset seconds = (second_over, second_short, alone_room, second_shown)

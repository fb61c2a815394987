-- What an answer comes to. Assumes nothing.
use Rattle.std.proofs.Common.{◌≡◌, refl, ap, sym, ◌∙◌, ℕ, zero, suc, ◌+◌, ◌≤◌, Bool, true, false, cond, ◌&&◌, eqb, eqb-true, List, [], ◌∷◌, length, Float, arith}
use Rattle.std.proofs.Math.Option.{Option, none, some}
use Rattle.std.specs.Float.{binary64}
use Rattle.ieee.specs.Numbers.{null}
use Rattle.model.specs.Process.{Kind}
use Rattle.model.specs.Loop.{LoopSettings, xi_of, penalty_of}
use Rattle.model.specs.Refusals as Refusals
use Rattle.model.specs.Refusals.{answer_refusal, fits_kind, fits_length, xi_length}
use Rattle.model.proofs.Facts.{and_left, and_right}
use Rattle.board.specs.Board.{vector, board_of}
use Rattle.machine.specs.Told as Say
use Rattle.machine.specs.LoopRun.{Told, Left}
use Rattle.machine.specs.Waits.{unless_refused, Stays}
use Rattle.machine.proofs.WaitLaws.{unwritten, not_refused}
use Rattle.machine.specs.LoopRest.{Sound}
use Rattle.machine.specs.LoopCalls.{lent_right}
use Rattle.machine.specs.LoopAnswer as Answer
use Rattle.machine.proofs.LoopLaws.{sized_n, sized_n1, sound_sized}
use Rattle.machine.proofs.LoopAnswers.{accepted_at, answered_takes}
use Rattle.panoc_engine.specs.declared.panoc_cache.Reply.{Reply}
use Rattle.panoc_engine.specs.declared.outcome.Refusal.{Refusal}
use Rattle.panoc_engine.specs.Told.{refusal_number}
use Rattle.panoc_engine.specs.Values.{reply_of}
use Rattle.alm_engine.specs.declared.alm_cache.Alm.{Alm}
use Rattle.alm_engine.specs.declared.alm_cache.AlmRun.{AlmRun}
use Rattle.alm_engine.specs.Values.{loop_settings_of}
use Rattle.alm_engine.specs.LoopBoard.{loop_board_of}
use Rattle.alm_engine.specs.LoopRuns.{loop_run}
use Rattle.alm_engine.proofs.LoopHeld.{inner_vector}
use Rattle.alm_optimizer.specs.Calls.{xi_filled}
use Rattle.panoc_engine.proofs.Numbers.{refusal_some}

-- a refused call
pub refused_at : {L : Type 0} (turns : ℕ → L) (l : L) (x y : ℕ) → x ≡ y → (x ≡ 0 → ⊥) → unless_refused y turns l ≡ turns x
refused_at turns l zero y e n = absurd (n refl)
refused_at turns l (suc x) y e n = rw (← e) refl

-- an accepted one, whose lent places have the lengths asked
lengths_at : (w : Option Kind) (a : Refusals.Reply) (vs : ℕ) (t : Bool) → answer_refusal w a vs t ≡ 0 → (t ≡ true) × (answer_refusal w a vs true ≡ 0)
unfolding answer_refusal
lengths_at none a vs t e = absurd (omega arith)
lengths_at (some k) a vs true e = (refl, e)
lengths_at (some k) a vs false e = absurd (by (fits_kind k a) (fits_length k a vs) e)
  where
    by : (c d : Bool) → ◌≡◌ {A = ℕ} (cond c (cond (d && false) 0 8) 7) 0 → ⊥
    by true true w = omega arith
    by true false w = omega arith
    by false d w = omega arith

-- a lent xi filled with the penalty c and vector j
pub xi_lies : (t : LoopSettings) (j : ℕ) (c : Float) (l xs : List Float) → length xs ≡ xi_length t.n1 t.n2 → xi_filled j c l xs ≡ xi_of t c (vector j t.n1 l)
unfolding xi_length xi_of xi_filled
xi_lies t j c l xs e = by (eqb t.n1 0 && eqb t.n2 0) xs e
  where
    by : (b : Bool) (ys : List Float) → length ys ≡ cond b 0 (t.n1 + 1) → xi_filled j c l ys ≡ cond b [] (c ∷ vector j t.n1 l)
    by true [] q = refl
    by true (y ∷ ys) q = absurd (omega arith)
    by false [] q = absurd (omega arith)
    by false (y ∷ ys) q = let z : length ys ≡ t.n1 = omega arith in rw z refl

-- the xi of an end
filled_is : (t : LoopSettings) (c : Float) (l xs : List Float) → length xs ≡ xi_length t.n1 t.n2 → xi_filled 10 c l xs ≡ xi_of t (penalty_of t c) (vector 10 t.n1 l)
unfolding xi_of penalty_of
filled_is t c l xs e = xi_lies t 10 c l xs e ∙ by (eqb t.n1 0 && eqb t.n2 0)
  where
    by : (b : Bool) → cond b [] (c ∷ vector 10 t.n1 l) ≡ cond b [] (cond b null c ∷ vector 10 t.n1 l)
    by true = refl
    by false = refl

module _ (s : Alm) (l : List Float) (a : Reply) (v us xs : List Float) where
  abbrev number : ℕ
  number = Answer.refused_by (loop_run s l) (reply_of a) (length v) (length us) (length xs)

  abbrev left : Left
  left = Answer.answer binary64 (loop_run s l) (reply_of a) v us xs

  -- a refused answer leaves the run and the lent places as they were
  pub answer_turns : (k : Refusal) → refusal_number k ≡ number → Answer.turns (loop_run s l) (refusal_number k) ≡ left
  unfolding Answer.answer
  answer_turns k n = sym (refused_at (Answer.turns (loop_run s l)) (Answer.answered binary64 (loop_run s l) (reply_of a) v) (refusal_number k) number n (refusal_some k))

  pub plan_stays : (k : Refusal) → refusal_number k ≡ number → us ≡ Answer.plan_after left us
  unfolding Say.given
  plan_stays k n = ap (λ (x : Left). Answer.plan_after x us) (answer_turns k n)

  pub xi_stays : (k : Refusal) → refusal_number k ≡ number → xs ≡ Answer.xi_after left xs
  unfolding Say.given
  xi_stays k n = ap (λ (x : Left). Answer.xi_after x xs) (answer_turns k n)

  pub answer_stays : {R : Type 0} (x : R) → Stays number x x
  answer_stays x = unwritten number x

  -- an accepted one
  module _ (n : 0 ≡ number) where
    pub accepted_stays_not : {R : Type 0} (x y : R) → Stays number x y
    accepted_stays_not x y = not_refused number x y (sym n)

    lengths : (lent_right (loop_run s l).set (length us) (length xs) ≡ true) × (answer_refusal (Answer.wanted_by (loop_run s l)) (reply_of a) (length v) true ≡ 0)
    unfolding Answer.refused_by
    lengths = lengths_at (Answer.wanted_by (loop_run s l)) (reply_of a) (length v) (lent_right (loop_run s l).set (length us) (length xs)) (sym n)

    pub accepted_places : answer_refusal (Answer.wanted_by (loop_run s l)) (reply_of a) (length v) true ≡ 0
    accepted_places = lengths.1

    size_us : length us ≡ s.set.n
    unfolding loop_run
    size_us = eqb-true (length us) s.set.n (and_left (eqb (length us) s.set.n) _ lengths.0)

    size_xs : length xs ≡ xi_length s.set.n1 s.set.n2
    unfolding loop_run
    size_xs = eqb-true (length xs) (xi_length s.set.n1 s.set.n2) (and_right (eqb (length us) s.set.n) _ lengths.0)

    sound : Sound (loop_run s l)
    sound = (accepted_at binary64 (loop_run s l) (loop_run s l).phase (reply_of a) (length v) true accepted_places refl).0

    size_n : s.set.n ≤ 64
    unfolding loop_run
    size_n = sized_n (loop_run s l) (sound_sized (loop_run s l) sound)

    pub accepted_us : length us ≤ 64
    accepted_us = let e = size_us in let m = size_n in omega arith

    at_most : (b : Bool) (k m : ℕ) → k ≤ 32 → m ≡ cond b 0 (k + 1) → m ≤ 33
    at_most true k m h e = omega arith
    at_most false k m h e = omega arith

    pub accepted_xs : length xs ≤ 33
    unfolding loop_run xi_length
    accepted_xs = at_most (eqb s.set.n1 0 && eqb s.set.n2 0) s.set.n1 (length xs) (sized_n1 (loop_run s l) (sound_sized (loop_run s l) sound)) size_xs

    pub answer_goes : Answer.answered binary64 (loop_run s l) (reply_of a) v ≡ left
    unfolding Answer.answer
    answer_goes = let z = sym n in rw z refl

    -- t is what the run has told, y its small part and l' its board
    module _ (t : Told) (y : Alm) (l' : List Float) (e : (let z : Left = record { told = t; run = loop_run y l' } in z) ≡ Answer.answered binary64 (loop_run s l) (reply_of a) v) where
      settings : loop_settings_of y.set ≡ loop_settings_of s.set
      unfolding loop_run
      settings = ap (λ (x : Left). x.run.set) e ∙ (answered_takes binary64 (loop_run s l) (reply_of a) v (length v) true accepted_places).settings

      plan_here : 576 ≤ length l' → vector 0 (length us) l' ≡ (loop_run y l').solve.state.at.u
      unfolding loop_run loop_board_of board_of
      plan_here p =
          let z : y.set.n ≡ s.set.n = ap (λ (x : LoopSettings). x.n) settings in
          let m : y.set.n ≤ 64 = let h = size_n in omega (arith, z) in
          ap (λ (k : ℕ). vector 0 k l') (size_us ∙ sym z) ∙ sym (inner_vector l' p 0 y.set.n (omega arith) m)

      pub plan_given : 576 ≤ length l' → Say.given t (vector 0 (length us) l') us ≡ Answer.plan_after left us
      plan_given p = ap (λ (x : List Float). Say.given t x us) (plan_here p) ∙ ap (λ (x : Left). Answer.plan_after x us) (e ∙ answer_goes)

      xi_here : xi_filled 10 y.numbers.penalty l' xs ≡ xi_of (loop_run y l').set (penalty_of (loop_run y l').set (loop_run y l').c) (loop_run y l').y_plus
      unfolding loop_run loop_board_of
      xi_here =
          let z : length xs ≡ xi_length y.set.n1 y.set.n2 = size_xs ∙ ap (λ (x : LoopSettings). xi_length x.n1 x.n2) (sym settings) in
          filled_is (loop_settings_of y.set) y.numbers.penalty l' xs z

      pub xi_given : Say.given t (xi_filled 10 y.numbers.penalty l' xs) xs ≡ Answer.xi_after left xs
      xi_given = ap (λ (x : List Float). Say.given t x xs) xi_here ∙ ap (λ (x : Left). Answer.xi_after x xs) (e ∙ answer_goes)

-- a run by value stays where its parts do
pub run_stays : (k : ℕ) (run : AlmRun) (s : Alm) (l : List Float) → Stays k run.alm s → Stays k run.board l → Stays k run (record { alm = s; board = l })
run_stays k run s l a b = λ j e. let p = a j e in let q = b j e in rw (p, q) refl

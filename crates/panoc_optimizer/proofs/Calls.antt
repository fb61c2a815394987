-- What the calls come to. Assumes nothing.
use Rattle.std.proofs.Common.{◌≡◌, refl, ap, sym, ◌∙◌, ℕ, zero, suc, ◌≤◌, Bool, true, false, cond, ◌&&◌, eqb, eqb-true, leb, leb-true, ltb, List, length, Float, arith}
use Rattle.std.specs.Prelude as Std
use Rattle.std.specs.Float.{binary64}
use Rattle.std.proofs.Math.Option.{Option, none, some}
use Rattle.model.specs.Process.{Kind}
use Rattle.model.specs.State as S
use Rattle.model.specs.Refusals as Refusals
use Rattle.model.specs.Refusals.{inner_refusal, unless, sizes_right, answer_refusal, fits_kind, fits_length}
use Rattle.model.proofs.Facts.{and_left, and_right}
use Rattle.board.specs.Board.{vector, write, board_of, U, BEST}
use Rattle.machine.specs.Told as Say
use Rattle.machine.specs.InnerRun.{Left}
use Rattle.machine.specs.Waits.{unless_refused, Stays}
use Rattle.machine.proofs.WaitLaws.{unwritten, not_refused}
use Rattle.machine.specs.InnerAnswer as Answer
use Rattle.machine.proofs.InnerAnswers.{answered_takes}
use Rattle.panoc_engine.specs.declared.panoc_cache.Settings.{Settings}
use Rattle.panoc_engine.specs.declared.panoc_cache.Solve.{Solve}
use Rattle.panoc_engine.specs.declared.panoc_cache.Reply.{Reply}
use Rattle.panoc_engine.specs.declared.panoc_cache.Run.{Run}
use Rattle.panoc_engine.specs.declared.panoc_cache.Question.{Question}
use Rattle.panoc_engine.specs.declared.panoc_cache.SolverStatus.{SolverStatus}
use Rattle.panoc_engine.specs.declared.refusals.Wanted.{Wanted}
use Rattle.panoc_engine.specs.declared.outcome.Outcome.{Outcome}
use Rattle.panoc_engine.specs.declared.outcome.Stepped.{Stepped}
use Rattle.panoc_engine.specs.declared.panoc_cache.Phase.TheVariants as P
use Rattle.panoc_engine.specs.declared.panoc_cache.Question.TheVariants as Q
use Rattle.panoc_engine.specs.declared.outcome.Refusal.{Refusal}
use Rattle.panoc_engine.specs.declared.outcome.Outcome.TheVariants as O
use Rattle.panoc_engine.specs.Told.{refusal_number}
use Rattle.panoc_engine.specs.Values.{settings_of, reply_of, kind_of, told_of}
use Rattle.panoc_engine.specs.Runs.{run_of, stepped}
use Rattle.panoc_engine.proofs.Answered.{accepted_stands}
use Rattle.panoc_engine.proofs.Held.{holds, wrote_u}
use Rattle.panoc_engine.specs.Blank.{blank}
use Rattle.panoc_engine.proofs.Numbers.{refusal_some}

-- a refused call
refused_at : {L : Type 0} (turns : ℕ → L) (l : L) (x y : ℕ) → x ≡ y → (x ≡ 0 → ⊥) → unless_refused y turns l ≡ turns x
refused_at turns l zero y e n = absurd (n refl)
refused_at turns l (suc x) y e n = rw (← e) refl

-- ---- start
module _ (s : Settings) (u : List Float) where
  -- the lent u has n places, 64 at most
  sized : inner_refusal (settings_of s) u ≡ 0 → sizes_right s.n (length u) ≡ true
  unfolding inner_refusal unless
  sized z = by (sizes_right s.n (length u)) _ refl z
    where
      by : (t : Bool) (k : ℕ) → sizes_right s.n (length u) ≡ t → cond t k 1 ≡ 0 → sizes_right s.n (length u) ≡ true
      by true k q w = q
      by false k q w = absurd (omega arith)

  places : inner_refusal (settings_of s) u ≡ 0 → (length u ≡ s.n) × (s.n ≤ 64)
  unfolding sizes_right
  places z =
      let a = and_right (ltb 0 s.n) (leb s.n 64 && eqb (length u) s.n) (sized z) in
      (eqb-true (length u) s.n (and_right (leb s.n 64) (eqb (length u) s.n) a), leb-true s.n 64 (and_left (leb s.n 64) (eqb (length u) s.n) a))

  pub start_size : 0 ≡ inner_refusal (settings_of s) u → length u ≤ 64
  start_size z = let q = places (sym z) in omega (arith, q.0, q.1)

  pub start_stops : (k : Refusal) (l z : List Float) → l ≡ z → refusal_number k ≡ inner_refusal (settings_of s) u
      → stepped (record { outcome = O.Refused k; state = record (blank s) { phase = P.Over } }) l ≡ Answer.start (settings_of s) u (run_of (blank s) z)
  unfolding run_of Answer.start
  start_stops k l z e n =
      rw e
      (sym
      (refused_at (λ (j : ℕ). let t : Left = record { told = Say.Told.refused j; run = Answer.no_run (settings_of s) (run_of (blank s) z) } in t) _ (refusal_number k) _ n (refusal_some k)))

  pub start_begins : (l z l' : List Float) → l' ≡ write U u l → l ≡ z → 576 ≤ length l → 0 ≡ inner_refusal (settings_of s) u
      → stepped (record { outcome = O.Asked Q.Cost; state = blank s }) l' ≡ Answer.start (settings_of s) u (run_of (blank s) z)
  unfolding run_of Answer.start
  start_begins l z l' d e p n =
      let q = places (sym n) in
      let h = wrote_u (holds s.n l q.1 p) u q.0 d in
      rw (← n, h.is, e) refl

-- ---- answer
accepted_at : (w : Option Kind) (a : Refusals.Reply) (vs : ℕ) (t : Bool) → answer_refusal w a vs t ≡ 0 → (t ≡ true) × (answer_refusal w a vs true ≡ 0)
unfolding answer_refusal
accepted_at none a vs t e = absurd (omega arith)
accepted_at (some k) a vs true e = (refl, e)
accepted_at (some k) a vs false e = absurd (by (fits_kind k a) (fits_length k a vs) e)
  where
    by : (c d : Bool) → ◌≡◌ {A = ℕ} (cond c (cond (d && false) 0 8) 7) 0 → ⊥
    by true true w = omega arith
    by true false w = omega arith
    by false d w = omega arith

module _ (s : Solve) (l : List Float) (a : Reply) (v us : List Float) (w : Std.Option Wanted) (wv : kind_of w ≡ Answer.wanted_by (run_of s l)) where
  refused_is : Answer.refused_by (run_of s l) (reply_of a) (length v) (length us) ≡ answer_refusal (kind_of w) (reply_of a) (length v) (eqb (length us) s.set.n)
  unfolding run_of Answer.refused_by
  refused_is = rw wv refl

  -- a refused one leaves the run and the lent place as they were
  pub answer_turns : (k : Refusal) → refusal_number k ≡ answer_refusal (kind_of w) (reply_of a) (length v) (eqb (length us) s.set.n)
      → Answer.turns (run_of s l) (refusal_number k) ≡ Answer.answer binary64 (run_of s l) (reply_of a) v us
  unfolding Answer.answer
  answer_turns k n =
      sym (refused_at (Answer.turns (run_of s l)) (Answer.answered binary64 (run_of s l) (reply_of a) v) (refusal_number k) _ (n ∙ sym refused_is) (refusal_some k))

  pub plan_stays : (answer_refusal (kind_of w) (reply_of a) (length v) (eqb (length us) s.set.n) ≡ 0 → ⊥) → us ≡ Answer.plan_after (Answer.answer binary64 (run_of s l) (reply_of a) v us) us
  unfolding Answer.answer Say.given
  plan_stays n = ap (λ (x : Left). Answer.plan_after x us) (sym (refused_at (Answer.turns (run_of s l)) (Answer.answered binary64 (run_of s l) (reply_of a) v) _ _ (sym refused_is) n))

  pub answer_stays : {R : Type 0} (x : R) → Stays (Answer.refused_by (run_of s l) (reply_of a) (length v) (length us)) x x
  answer_stays x = unwritten _ x

  pub accepted_stays_not : {R : Type 0} (x y : R) → 0 ≡ answer_refusal (kind_of w) (reply_of a) (length v) (eqb (length us) s.set.n)
      → Stays (Answer.refused_by (run_of s l) (reply_of a) (length v) (length us)) x y
  accepted_stays_not x y n = not_refused _ x y (refused_is ∙ sym n)

  -- an accepted one
  module _ (n : 0 ≡ answer_refusal (kind_of w) (reply_of a) (length v) (eqb (length us) s.set.n)) where
    pub accepted_places : answer_refusal (Answer.wanted_by (run_of s l)) (reply_of a) (length v) true ≡ 0
    accepted_places = rw wv at ((accepted_at (kind_of w) (reply_of a) (length v) _ (sym n)).1)

    accepted_size : length us ≡ s.set.n
    accepted_size = eqb-true (length us) s.set.n ((accepted_at (kind_of w) (reply_of a) (length v) _ (sym n)).0)

    pub accepted_room : 576 ≤ length l → length us ≤ 64
    accepted_room p = let h = accepted_stands s l (reply_of a) (length v) p accepted_places in omega (arith, accepted_size, h.size)

    pub answer_goes : Answer.answered binary64 (run_of s l) (reply_of a) v ≡ Answer.answer binary64 (run_of s l) (reply_of a) v us
    unfolding Answer.answer
    answer_goes = let z = refused_is ∙ sym n in rw z refl

    pub plan_given : (r : Stepped (Outcome Question SolverStatus) Solve) (l' : List Float) → stepped r l' ≡ Answer.answered binary64 (run_of s l) (reply_of a) v
        → Say.given (told_of r.outcome) (vector BEST (length us) l') us ≡ Answer.plan_after (Answer.answer binary64 (run_of s l) (reply_of a) v us) us
    unfolding run_of board_of
    plan_given r l' e =
        let c = (answered_takes binary64 (run_of s l) (reply_of a) v (length v) true accepted_places).settings in
        let z : r.state.set.n ≡ s.set.n = ap (λ (x : Left). x.run.set.n) e ∙ ap (λ (x : S.Settings). x.n) c in
        ap (λ (k : ℕ). Say.given (told_of r.outcome) (vector BEST k l') us) (accepted_size ∙ sym z) ∙ ap (λ (x : Left). Answer.plan_after x us) (e ∙ answer_goes)

pub ruleset answers = (refusal_some, answer_turns, plan_stays, accepted_places, accepted_room, answer_goes, plan_given, answer_stays)

-- a run by value stays where its parts do
pub run_stays : (k : ℕ) (run : Run) (s : Solve) (l : List Float) → Stays k run.solve s → Stays k run.board l → Stays k run (record { solve = s; board = l })
run_stays k run s l a b = λ j e. let p = a j e in let q = b j e in rw (p, q) refl

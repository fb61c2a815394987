-- The number of the question that stands. Assumes nothing.
use Rattle.std.proofs.Common.{◌≡◌, refl, sym, ◌∙◌, ℕ, Bool, true, false, List, Float}
use Rattle.std.proofs.Math.Option.{Option, none, some}
use Rattle.model.specs.Process.{Question}
use Rattle.board.specs.Board.{Board}
use Rattle.machine.specs.InnerAnswer as Inner
use Rattle.machine.specs.LoopRest.{sound}
use Rattle.machine.specs.LoopAnswer.{carrying, question_at, question_of}
use Rattle.machine.specs.LoopNumbers.{question_number}
use Rattle.machine.specs.Standing.{standing, inner_number, inner_standing, loop_number, loop_standing}
use Rattle.panoc_engine.specs.Runs.{run_at}
use Rattle.alm_engine.specs.declared.alm_cache.Alm.{Alm}
use Rattle.alm_engine.specs.declared.alm_cache.AlmPhase.{AlmPhase}
use Rattle.alm_engine.specs.declared.alm_cache.AlmPhase.TheVariants as A
use Rattle.alm_engine.specs.Values.{loop_phase_of, loop_asked_at}
use Rattle.alm_engine.specs.LoopBoard.{loop_board_of}
use Rattle.alm_engine.specs.LoopRuns.{loop_run}

-- a question of the inner solve has its number there
carried : (xi : List Float) (o : Option Question) → standing inner_number o ≡ standing loop_number (carrying xi o)
carried xi none = refl
carried xi (some q) = refl

module _ (s : Alm) (l : List Float) (t : Bool) (z : t ≡ sound (loop_run s l)) where
  pub stands_unsound : t ≡ false → 14 ≡ loop_standing (loop_run s l)
  unfolding question_of
  stands_unsound f = let h = sym z ∙ f in rw h refl

  module _ (f : t ≡ true) where
    at : (k : AlmPhase) → k ≡ s.phase → standing loop_number (question_at (loop_run s l) (loop_phase_of k)) ≡ loop_standing (loop_run s l)
    unfolding question_of loop_run
    at k e = let h = sym z ∙ f in rw (e, h) refl

    pub stands_over : A.Over ≡ s.phase → 14 ≡ loop_standing (loop_run s l)
    stands_over e = at A.Over e

    pub stands_inner : A.Inner ≡ s.phase → (n : ℕ) → ((b : Board) → n ≡ inner_standing (run_at s.solve b)) → n ≡ loop_standing (loop_run s l)
    unfolding loop_run
    stands_inner e n g = g (loop_board_of s.set.n s.set.n1 l).inner ∙ carried _ (Inner.question_of (loop_run s l).solve) ∙ at A.Inner e

    own : (k : AlmPhase) → (k ≡ A.Over → ⊥) → (k ≡ A.Inner → ⊥) → question_number (loop_asked_at k) ≡ standing loop_number (question_at (loop_run s l) (loop_phase_of k))
    own A.Over a b = absurd (a refl)
    own A.Time a b = refl
    own A.ProjectY a b = refl
    own A.Inner a b = absurd (b refl)
    own A.F1 a b = refl
    own A.ProjectC a b = refl
    own A.F2 a b = refl
    own A.LastCost a b = refl

    pub stands_own : (k : AlmPhase) → k ≡ s.phase → (k ≡ A.Over → ⊥) → (k ≡ A.Inner → ⊥) → (n : ℕ) → n ≡ question_number (loop_asked_at k) → n ≡ loop_standing (loop_run s l)
    stands_own k e a b n g = g ∙ own k a b ∙ at k e

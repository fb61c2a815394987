-- The number of the question that stands. Assumes nothing.
use Rattle.std.proofs.Common.{◌≡◌, refl, ap, sym, ◌∙◌, ℕ, Bool, true, false, List, [], Float}
use Rattle.board.specs.Board.{Board}
use Rattle.machine.specs.InnerRest.{sound}
use Rattle.machine.specs.InnerAnswer.{question_at, question_of}
use Rattle.machine.specs.Numbers.{question_number}
use Rattle.machine.specs.Standing.{standing, inner_number, inner_standing}
use Rattle.panoc_engine.specs.declared.panoc_cache.Solve.{Solve}
use Rattle.panoc_engine.specs.declared.panoc_cache.Phase.{Phase}
use Rattle.panoc_engine.specs.declared.panoc_cache.Phase.TheVariants as P
use Rattle.panoc_engine.specs.Values.{phase_of, asked_at}
use Rattle.panoc_engine.specs.Runs.{run_at, run_of}
use Rattle.panoc_engine.proofs.Asks.{number_at}

module _ (s : Solve) (t : Bool) (z : (l : List Float) → t ≡ sound (run_of s l)) (b : Board) where
  sound_is : t ≡ sound (run_at s b)
  unfolding run_of sound
  sound_is = z []

  pub stands_unsound : t ≡ false → 14 ≡ inner_standing (run_at s b)
  unfolding question_of
  stands_unsound f = let h = sym sound_is ∙ f in rw h refl

  pub stands_over : t ≡ true → P.Over ≡ s.phase → 14 ≡ inner_standing (run_at s b)
  unfolding question_of
  stands_over f e = let h = sym sound_is ∙ f in let g = sym e in rw (h, g) refl

  pub stands_at : t ≡ true → (p : Phase) → p ≡ s.phase → (p ≡ P.Over → ⊥) → (n : ℕ) → n ≡ question_number (asked_at p s.forget) → n ≡ inner_standing (run_at s b)
  unfolding question_of
  stands_at f p e k n g =
      let h = sym sound_is ∙ f in
      g ∙ number_at s b p k ∙ ap (λ (q : Phase). standing inner_number (question_at (run_at s b) (phase_of q))) e ∙ rw h refl

-- The question of each phase of an inner solve: where its points lie, and its number. Assumes nothing.
use Rattle.std.proofs.Common.{◌≡◌, refl, ◌<◌, ◌≤◌, List, Float, arith}
use Rattle.std.proofs.Math.Option.{some}
use Rattle.model.specs.Process.{Question}
use Rattle.board.specs.Firsts.{firsts}
use Rattle.board.specs.Board.{Board, vector, board_of, U}
use Rattle.machine.specs.Numbers.{question_number}
use Rattle.machine.specs.InnerCalls.{first_point, second_point}
use Rattle.machine.specs.InnerAnswer.{question_at}
use Rattle.machine.specs.Standing.{standing, inner_number}
use Rattle.panoc_engine.specs.declared.panoc_cache.Solve.{Solve}
use Rattle.panoc_engine.specs.declared.panoc_cache.Phase.{Phase}
use Rattle.panoc_engine.specs.declared.panoc_cache.Phase.TheVariants as P
use Rattle.panoc_engine.specs.Values.{phase_of, asked_at}
use Rattle.panoc_engine.specs.Runs.{run_at, run_of}
use Rattle.panoc_engine.specs.Places.{place_of, first_places, second_places}

-- the question of a phase, and where its points lie
pub record Asks (s : Solve) (l : List Float) (p : Phase) : Type 0 where
  pub question : Question
  pub is : question_at (run_of s l) (phase_of p) ≡ some question
  pub first : first_point question ≡ vector (place_of p) (first_places s.set.n p) l
  pub second : second_point question ≡ vector U (second_places s.set.n p) l
  pub known : place_of p < 9
  pub few : first_places s.set.n p ≤ s.set.n
  pub few_second : second_places s.set.n p ≤ s.set.n

pub asks : (s : Solve) (l : List Float) (p : Phase) → (p ≡ P.Over → ⊥) → Asks s l p
unfolding run_of board_of vector firsts
asks s l P.Over k = absurd (k refl)
asks s l P.Cost k = record { question = _; is = refl; first = refl; second = refl; known = omega arith; few = omega arith; few_second = omega arith }
asks s l P.Gradient k = record { question = _; is = refl; first = refl; second = refl; known = omega arith; few = omega arith; few_second = omega arith }
asks s l P.Shifted k = record { question = _; is = refl; first = refl; second = refl; known = omega arith; few = omega arith; few_second = omega arith }
asks s l P.Project k = record { question = _; is = refl; first = refl; second = refl; known = omega arith; few = omega arith; few_second = omega arith }
asks s l P.HalfCost k = record { question = _; is = refl; first = refl; second = refl; known = omega arith; few = omega arith; few_second = omega arith }
asks s l P.DoubledProject k = record { question = _; is = refl; first = refl; second = refl; known = omega arith; few = omega arith; few_second = omega arith }
asks s l P.DoubledCost k = record { question = _; is = refl; first = refl; second = refl; known = omega arith; few = omega arith; few_second = omega arith }
asks s l P.Direction k = record { question = _; is = refl; first = refl; second = refl; known = omega arith; few = omega arith; few_second = omega arith }
asks s l P.FirstCost k = record { question = _; is = refl; first = refl; second = refl; known = omega arith; few = omega arith; few_second = omega arith }
asks s l P.FirstGradient k = record { question = _; is = refl; first = refl; second = refl; known = omega arith; few = omega arith; few_second = omega arith }
asks s l P.FirstProject k = record { question = _; is = refl; first = refl; second = refl; known = omega arith; few = omega arith; few_second = omega arith }
asks s l P.TriedCost k = record { question = _; is = refl; first = refl; second = refl; known = omega arith; few = omega arith; few_second = omega arith }
asks s l P.TriedGradient k = record { question = _; is = refl; first = refl; second = refl; known = omega arith; few = omega arith; few_second = omega arith }
asks s l P.TriedProject k = record { question = _; is = refl; first = refl; second = refl; known = omega arith; few = omega arith; few_second = omega arith }
asks s l P.Time k = record { question = _; is = refl; first = refl; second = refl; known = omega arith; few = omega arith; few_second = omega arith }
asks s l P.LastCost k = record { question = _; is = refl; first = refl; second = refl; known = omega arith; few = omega arith; few_second = omega arith }

-- its number
pub number_at : (s : Solve) (b : Board) (p : Phase) → (p ≡ P.Over → ⊥) → question_number (asked_at p s.forget) ≡ standing inner_number (question_at (run_at s b) (phase_of p))
number_at s b P.Over k = absurd (k refl)
number_at s b P.Cost k = refl
number_at s b P.Gradient k = refl
number_at s b P.Shifted k = refl
number_at s b P.Project k = refl
number_at s b P.HalfCost k = refl
number_at s b P.DoubledProject k = refl
number_at s b P.DoubledCost k = refl
number_at s b P.Direction k = refl
number_at s b P.FirstCost k = refl
number_at s b P.FirstGradient k = refl
number_at s b P.FirstProject k = refl
number_at s b P.TriedCost k = refl
number_at s b P.TriedGradient k = refl
number_at s b P.TriedProject k = refl
number_at s b P.Time k = refl
number_at s b P.LastCost k = refl

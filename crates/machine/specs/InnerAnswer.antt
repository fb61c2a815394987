-- What the public calls of an inner solve leave, refused or not, as functions of the run. So a call in any form promises one equation. Definitions only.
use Rattle.std.specs.Prelude.{ℕ, true, cond, List, eqb, Float, length}
use Rattle.std.proofs.Math.Option.{Option, none, some}
use Rattle.std.specs.Float.{Format}
use Rattle.model.specs.Process.{Kind, Question, converged}
use Rattle.model.specs.State.{Settings}
use Rattle.model.specs.Refusals.{Reply, answer_refusal, inner_refusal}
use Rattle.machine.specs.Told as Say
use Rattle.machine.specs.Waits.{Moves, taken, unless_refused, of_no_kind}
pub use Rattle.machine.specs.Shown.{Shown}
use Rattle.machine.specs.Shown.{shown}
use Rattle.machine.specs.InnerRun.{Phase, Asked, Run, Left, fails}
use Rattle.machine.specs.InnerMoves as Move
use Rattle.machine.specs.InnerRest.{sound}
use Rattle.machine.specs.InnerCalls.{first_point, second_point}

-- ---- what a run waits for

-- at a phase, n being the number of places
abbrev pub wanted_at : ℕ → Phase → Option Kind
wanted_at n Phase.over = none
wanted_at n Phase.cost = some Kind.number
wanted_at n Phase.gradient = some (Kind.vector n)
wanted_at n Phase.shifted = some (Kind.vector n)
wanted_at n Phase.project = some (Kind.vector n)
wanted_at n Phase.half_cost = some Kind.number
wanted_at n Phase.doubled_project = some (Kind.vector n)
wanted_at n Phase.doubled_cost = some Kind.number
wanted_at n Phase.direction = some (Kind.direction n)
wanted_at n Phase.first_cost = some Kind.number
wanted_at n Phase.first_gradient = some (Kind.vector n)
wanted_at n Phase.first_project = some (Kind.vector n)
wanted_at n Phase.tried_cost = some Kind.number
wanted_at n Phase.tried_gradient = some (Kind.vector n)
wanted_at n Phase.tried_project = some (Kind.vector n)
wanted_at n Phase.time = some Kind.decision
wanted_at n Phase.last_cost = some Kind.number

-- a run that no start made waits for nothing
unfoldable pub wanted_by : Run → Option Kind
wanted_by r = cond (sound r) (wanted_at r.set.n r.phase) none

-- the question of a phase, with its points
abbrev pub question_at : Run → Phase → Option Question
question_at r Phase.over = none
question_at r Phase.cost = some (Question.cost r.state.at.u)
question_at r Phase.gradient = some (Question.gradient r.state.at.u)
question_at r Phase.shifted = some (Question.gradient r.state.at.u)
question_at r Phase.project = some (Question.project r.state.at.gradient_step)
question_at r Phase.half_cost = some (Question.cost r.state.at.half)
question_at r Phase.doubled_project = some (Question.project r.state.at.gradient_step)
question_at r Phase.doubled_cost = some (Question.cost r.state.at.half)
question_at r Phase.direction = some (Question.direction r.forget r.state.residual r.state.at.u)
question_at r Phase.first_cost = some (Question.cost r.state.at.u)
question_at r Phase.first_gradient = some (Question.gradient r.state.at.u)
question_at r Phase.first_project = some (Question.project r.state.at.gradient_step)
question_at r Phase.tried_cost = some (Question.cost r.candidate)
question_at r Phase.tried_gradient = some (Question.gradient r.candidate)
question_at r Phase.tried_project = some (Question.project r.state.at.gradient_step)
question_at r Phase.time = some Question.time
question_at r Phase.last_cost = some (Question.cost r.state.at.best.point)

unfoldable pub question_of : Run → Option Question
question_of r = cond (sound r) (question_at r r.phase) none

-- ---- answer

-- what a refused call leaves: the run as it was
abbrev pub turns : Run → ℕ → Left
turns r k = record { told = Say.Told.refused k; run = r }

-- the number by which the table refuses an answer, 0 for none; vs and us are the lengths of the lent slices
unfoldable pub refused_by : Run → Reply → ℕ → ℕ → ℕ
refused_by r a vs us = answer_refusal (wanted_by r) a vs (eqb us r.set.n)

-- what stands in the lent u, us before
abbrev pub plan_after : Left → List Float → List Float
plan_after l us = Say.given l.told l.run.state.at.best.point us

module _ (f : Format) where
  -- the move that takes the answer at a phase
  abbrev pub move_at : (r : Run) → (p : Phase) → Moves Left (wanted_at r.set.n p)
  move_at r Phase.over = tt
  move_at r Phase.cost = λ x. Move.cost f x r
  move_at r Phase.gradient = λ v. Move.gradient f v r
  move_at r Phase.shifted = λ v. Move.shifted_gradient f v r
  move_at r Phase.project = λ v. Move.project f v r
  move_at r Phase.half_cost = λ x. Move.half_cost f x r
  move_at r Phase.doubled_project = λ v. Move.doubled_project f v r
  move_at r Phase.doubled_cost = λ x. Move.doubled_cost f x r
  move_at r Phase.direction = λ v. Move.directed f v r
  move_at r Phase.first_cost = λ x. Move.first_cost f x r
  move_at r Phase.first_gradient = λ v. Move.first_gradient f v r
  move_at r Phase.first_project = λ v. Move.first_project f v r
  move_at r Phase.tried_cost = λ x. Move.tried_cost f x r
  move_at r Phase.tried_gradient = λ v. Move.tried_gradient f v r
  move_at r Phase.tried_project = λ v. Move.tried_project f v r
  move_at r Phase.time = λ t. Move.timed f t r
  move_at r Phase.last_cost = λ x. Move.last_cost f x r

  -- an answer that nothing refuses, v being the vector lent with it: the move, or the failure
  unfoldable pub answered_at : Run → Phase → Reply → List Float → Left
  answered_at r p a v = taken (λ c. fails c r) (turns r 7) (wanted_at r.set.n p) (move_at r p) a v

  unfoldable pub answered : Run → Reply → List Float → Left
  answered r a v = answered_at r r.phase a v

  -- any answer; us is the lent u
  unfoldable pub answer : Run → Reply → List Float → List Float → Left
  answer r a v us = unless_refused (refused_by r a (length v) (length us)) (turns r) (answered r a v)

  -- any answer that C can give: none is of a kind of no name
  unfoldable pub answer_any : Run → Option Reply → List Float → List Float → Left
  answer_any r none v us = turns r (of_no_kind (wanted_by r))
  answer_any r (some a) v us = answer r a v us

-- ---- start

-- the run of an accepted start: at its first COST. r is what its places held before
abbrev pub begun : Settings → List Float → Run → Run
begun s u r =
    record r {
      phase = Phase.cost;
      set = s;
      status = converged;
      left = 0;
      rounds = 0;
      forget = true;
      state = record r.state { at = record r.state.at { u = u; count = 0 } };
    }

-- "no run": one that has ended
abbrev pub no_run : Settings → Run → Run
no_run s r = record r { phase = Phase.over; set = s }

unfoldable pub start : Settings → List Float → Run → Left
start s u r =
    unless_refused (inner_refusal s u) (λ k. record { told = Say.Told.refused k; run = no_run s r })
    (record { told = Say.Told.asked Asked.cost; run = begun s u r })

-- ---- points: xs and ys are the lent slices
unfoldable pub points : Run → List Float → List Float → Shown
points r xs ys = shown first_point second_point (question_of r) xs ys

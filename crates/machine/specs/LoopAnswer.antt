-- What the public calls of the multiplier loop leave, refused or not, as functions of the run. So a call in any form promises one equation. Definitions only.
use Rattle.std.specs.Prelude.{ℕ, ◌-◌, cond, List, [], Float, length}
use Rattle.std.proofs.Math.Option.{Option, none, some}
use Rattle.std.specs.Float.{Format}
use Rattle.ieee.specs.Numbers.{null}
use Rattle.model.specs.Process.{Kind, Question, LoopQuestion, converged}
use Rattle.model.specs.Loop.{LoopSettings, xi_of, penalty_of}
use Rattle.model.specs.Refusals.{Reply, answer_refusal, loop_refusal, penalty_in, multipliers_in}
use Rattle.machine.specs.Told as Say
use Rattle.machine.specs.Waits.{Moves, taken, unless_refused, of_no_kind}
use Rattle.machine.specs.Shown.{Shown, shown}
use Rattle.machine.specs.InnerAnswer as Inner
use Rattle.machine.specs.LoopRun.{Phase, Run, Left, u_of, plan_of, fails}
use Rattle.machine.specs.LoopMoves as Move
use Rattle.machine.specs.LoopMoves.{opened, begins}
use Rattle.machine.specs.LoopRest.{sound}
use Rattle.machine.specs.LoopCalls.{lent_right, first_point, second_point}

-- ---- what a run waits for

-- at a phase of the loop's own
abbrev pub own_at : LoopSettings → Phase → Option Kind
own_at s Phase.over = none
own_at s Phase.time = some Kind.decision
own_at s Phase.project_y = some (Kind.vector s.n1)
own_at s Phase.inner = none
own_at s Phase.f1 = some (Kind.vector s.n1)
own_at s Phase.project_c = some (Kind.vector s.n1)
own_at s Phase.f2 = some (Kind.vector s.n2)
own_at s Phase.last_cost = some Kind.number

-- at any: what the inner solve waits for, at its
abbrev pub wanted_at : Run → Phase → Option Kind
wanted_at r Phase.inner = Inner.wanted_by r.solve
wanted_at r p = own_at r.set p

-- a run that no start made waits for nothing
unfoldable pub wanted_by : Run → Option Kind
wanted_by r = cond (sound r) (wanted_at r r.phase) none

-- a question of the inner solve, carried with xi
abbrev pub carrying : List Float → Option Question → Option LoopQuestion
carrying xi none = none
carrying xi (some q) = some (LoopQuestion.inner xi q)

-- the question of a phase, with its points
abbrev pub question_at : Run → Phase → Option LoopQuestion
question_at r Phase.over = none
question_at r Phase.time = some LoopQuestion.time
question_at r Phase.project_y = some (LoopQuestion.project_y r.y)
question_at r Phase.inner = carrying (xi_of r.set r.c r.y) (Inner.question_of r.solve)
question_at r Phase.f1 = some (LoopQuestion.f1 (plan_of r))
question_at r Phase.project_c = some (LoopQuestion.project_c r.y_plus)
question_at r Phase.f2 = some (LoopQuestion.f2 (plan_of r))
question_at r Phase.last_cost = some (LoopQuestion.cost (u_of r) (xi_of r.set null r.y))

unfoldable pub question_of : Run → Option LoopQuestion
question_of r = cond (sound r) (question_at r r.phase) none

-- ---- answer

-- what a refused call leaves: the run as it was
abbrev pub turns : Run → ℕ → Left
turns r k = record { told = Say.Told.refused k; run = r }

-- the number by which the table refuses an answer, 0 for none; vs, us and xs are the lengths of the lent slices
unfoldable pub refused_by : Run → Reply → ℕ → ℕ → ℕ → ℕ
refused_by r a vs us xs = answer_refusal (wanted_by r) a vs (lent_right r.set us xs)

-- what stands in the lent u, us before, and in the lent xi, xs before
abbrev pub plan_after : Left → List Float → List Float
plan_after l us = Say.given l.told (u_of l.run) us

abbrev pub xi_after : Left → List Float → List Float
xi_after l xs = Say.given l.told (xi_of l.run.set (penalty_of l.run.set l.run.c) l.run.y_plus) xs

module _ (f : Format) where
  -- the move that takes the answer at a phase of the loop's own
  abbrev pub move_at : (r : Run) → (p : Phase) → Moves Left (own_at r.set p)
  move_at r Phase.over = tt
  move_at r Phase.time = λ t. Move.timed t r
  move_at r Phase.project_y = λ v. Move.project_y v r
  move_at r Phase.inner = tt
  move_at r Phase.f1 = λ v. Move.f1 f v r
  move_at r Phase.project_c = λ v. Move.project_c f v r
  move_at r Phase.f2 = λ v. Move.f2 f v r
  move_at r Phase.last_cost = λ x. Move.last_cost x r

  -- an answer that nothing refuses, v being the vector lent with it: the move, or the failure; at the inner solve's phase what it leaves of that, carried on
  unfoldable pub answered_at : Run → Phase → Reply → List Float → Left
  answered_at r Phase.inner a v = Move.inner f (Inner.answered f r.solve a v) r
  answered_at r p a v = taken (λ c. fails c r) (turns r 7) (own_at r.set p) (move_at r p) a v

  unfoldable pub answered : Run → Reply → List Float → Left
  answered r a v = answered_at r r.phase a v

  -- any answer; us and xs are the lent u and xi
  unfoldable pub answer : Run → Reply → List Float → List Float → List Float → Left
  answer r a v us xs = unless_refused (refused_by r a (length v) (length us) (length xs)) (turns r) (answered r a v)

  -- any answer that C can give: none is of a kind of no name
  unfoldable pub answer_any : Run → Option Reply → List Float → List Float → List Float → Left
  answer_any r none v us xs = turns r (of_no_kind (wanted_by r))
  answer_any r (some a) v us xs = answer r a v us xs

-- ---- start

-- the run of an accepted start before its first outer iteration, after which K - 1 are left. r is what its places held before
abbrev pub begun : LoopSettings → List Float → List Float → Run → Run
begun s u xi r =
    opened u
    (record r {
      set = s;
      status = converged;
      left = s.outer - 1;
      outer = 0;
      inner = 0;
      found = 0;
      c = penalty_in xi;
      akkt = s.akkt;
      delta_y_norm = null;
      f2_norm = null;
      delta_y_norm_plus = null;
      f2_norm_plus = null;
      norm = null;
      y = multipliers_in xi;
      y_plus = multipliers_in xi;
    })

-- "no run": one that has ended
abbrev pub no_run : LoopSettings → Run → Run
no_run s r = record r { phase = Phase.over; set = s }

unfoldable pub start : Format → LoopSettings → List Float → List Float → Run → Left
start f s u xi r =
    unless_refused (loop_refusal f s u xi) (λ k. record { told = Say.Told.refused k; run = no_run s r }) (begins (begun s u xi r))

-- ---- points: xs and ys are the lent slices
unfoldable pub points : Run → List Float → List Float → Shown
points r xs ys = shown first_point second_point (question_of r) xs ys

-- the second point alone: as if the first had no place
abbrev pub no_point : LoopQuestion → List Float
no_point q = []

unfoldable pub second_alone : Run → List Float → Shown
second_alone r ys = shown no_point second_point (question_of r) [] ys

-- What the enums and records of the code stand for in the model and the machine. Definitions only.
use Rattle.std.specs.Prelude.{Bool, true, false, Float}
use Rattle.std.specs.Prelude as Std
use Rattle.std.proofs.Math.Option.{Option, none, some}
use Rattle.model.specs.Process.{Kind}
use Rattle.model.specs.Process as M
use Rattle.model.specs.Refusals as R
use Rattle.model.specs.State as S
use Rattle.machine.specs.InnerRun as Run
use Rattle.panoc_engine.specs.declared.panoc_cache.Settings.{Settings}
use Rattle.panoc_engine.specs.declared.panoc_cache.ExitStatus.{ExitStatus}
use Rattle.panoc_engine.specs.declared.panoc_cache.ExitStatus.TheVariants.{Converged, NotConvergedIterations, NotConvergedOutOfTime}
use Rattle.panoc_engine.specs.declared.panoc_cache.Phase.{Phase}
use Rattle.panoc_engine.specs.declared.panoc_cache.Phase.TheVariants as P
use Rattle.panoc_engine.specs.declared.panoc_cache.Question.{Question}
use Rattle.panoc_engine.specs.declared.panoc_cache.Question.TheVariants as Q
use Rattle.panoc_engine.specs.declared.panoc_cache.Reply.{Reply}
use Rattle.panoc_engine.specs.declared.panoc_cache.Reply.TheVariants.{Number, Vector, Yes, No, Failure}
use Rattle.panoc_engine.specs.declared.refusals.Wanted.{Wanted}
use Rattle.panoc_engine.specs.declared.refusals.Wanted.TheVariants.{Decision}
use Rattle.panoc_engine.specs.declared.panoc_cache.SolverStatus.{SolverStatus}
use Rattle.panoc_engine.specs.declared.outcome.Outcome.{Outcome}
use Rattle.panoc_engine.specs.Told.{telling}

-- the AKKT tolerance, where there is one
abbrev pub akkt_of : Std.Option Float → Option Float
akkt_of Std.None = none
akkt_of (Std.Some t) = some t

-- the settings of a start
abbrev pub settings_of : Settings → S.Settings
settings_of s = record { n = s.n; limit = s.max_iter; limited = s.limited; tolerance = s.tolerance; akkt = akkt_of s.akkt_tolerance }

-- the three ends
abbrev pub status_of : ExitStatus → M.Status
status_of Converged = M.converged
status_of NotConvergedIterations = M.not_converged_iterations
status_of NotConvergedOutOfTime = M.not_converged_out_of_time

-- what a run waits for
abbrev pub phase_of : Phase → Run.Phase
phase_of P.Over = Run.Phase.over
phase_of P.Cost = Run.Phase.cost
phase_of P.Gradient = Run.Phase.gradient
phase_of P.Shifted = Run.Phase.shifted
phase_of P.Project = Run.Phase.project
phase_of P.HalfCost = Run.Phase.half_cost
phase_of P.DoubledProject = Run.Phase.doubled_project
phase_of P.DoubledCost = Run.Phase.doubled_cost
phase_of P.Direction = Run.Phase.direction
phase_of P.FirstCost = Run.Phase.first_cost
phase_of P.FirstGradient = Run.Phase.first_gradient
phase_of P.FirstProject = Run.Phase.first_project
phase_of P.TriedCost = Run.Phase.tried_cost
phase_of P.TriedGradient = Run.Phase.tried_gradient
phase_of P.TriedProject = Run.Phase.tried_project
phase_of P.Time = Run.Phase.time
phase_of P.LastCost = Run.Phase.last_cost

-- the question that it asks there; DIRECTION says whether to forget
abbrev pub asked_at : Phase → Bool → Run.Asked
asked_at P.Over forget = Run.Asked.cost
asked_at P.Cost forget = Run.Asked.cost
asked_at P.Gradient forget = Run.Asked.gradient
asked_at P.Shifted forget = Run.Asked.gradient
asked_at P.Project forget = Run.Asked.project
asked_at P.HalfCost forget = Run.Asked.cost
asked_at P.DoubledProject forget = Run.Asked.project
asked_at P.DoubledCost forget = Run.Asked.cost
asked_at P.Direction forget = Run.Asked.direction forget
asked_at P.FirstCost forget = Run.Asked.cost
asked_at P.FirstGradient forget = Run.Asked.gradient
asked_at P.FirstProject forget = Run.Asked.project
asked_at P.TriedCost forget = Run.Asked.cost
asked_at P.TriedGradient forget = Run.Asked.gradient
asked_at P.TriedProject forget = Run.Asked.project
asked_at P.Time forget = Run.Asked.time
asked_at P.LastCost forget = Run.Asked.cost

-- a question, what an end says, and what a call gives
abbrev pub asked_of : Question → Run.Asked
asked_of Q.Cost = Run.Asked.cost
asked_of Q.Gradient = Run.Asked.gradient
asked_of Q.Project = Run.Asked.project
asked_of (Q.Direction forget) = Run.Asked.direction forget
asked_of Q.Time = Run.Asked.time

abbrev pub numbers_of : SolverStatus → Run.Numbers
numbers_of e = record { status = status_of e.exit_status; iterations = e.iterations.0; norm = e.norm_fpr; cost = e.cost_value }

abbrev pub told_of : Outcome Question SolverStatus → Run.Told
told_of = telling asked_of numbers_of

-- an answer
abbrev pub reply_of : Reply → R.Reply
reply_of (Number x) = R.Reply.number x
reply_of Vector = R.Reply.vector
reply_of Yes = R.Reply.yes
reply_of No = R.Reply.no
reply_of (Failure c) = R.Reply.failure c

-- a yes or a no
abbrev pub decided : Bool → Reply
decided true = Yes
decided false = No

-- what a run waits for; none once it has ended
abbrev pub kind_of : Std.Option Wanted → Option Kind
kind_of Std.None = none
kind_of (Std.Some Wanted.Number) = some Kind.number
kind_of (Std.Some (Wanted.Vector n)) = some (Kind.vector n)
kind_of (Std.Some (Wanted.Direction n)) = some (Kind.direction n)
kind_of (Std.Some Decision) = some Kind.decision

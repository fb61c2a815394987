-- The claim for an inner solve used alone. Definitions only.
use Rattle.std.specs.Prelude.{◌+◌, ◌*◌, ◌≤◌, ◌≡◌, true, List, ◌∷◌, eqb, Float, length}
use Rattle.std.proofs.Math.Option.{some}
use Rattle.std.specs.Float.{Format}
use Rattle.std.specs.Float.Ieee.{lt}
use Rattle.model.specs.Process.{Question, Handed, converged}
use Rattle.model.specs.State.{Settings}
use Rattle.model.specs.Inner.{solve}
use Rattle.model.specs.Refusals.{lent_after, plan_of}
use Rattle.model.specs.Bounds.{weigh, only_cost, only_gradient, only_project, only_direction, only_time}
use Rattle.model.specs.Scoring.{seen}
use Rattle.model.specs.Least.{Scored}
use Rattle.machine.specs.Told as Say
use Rattle.machine.specs.Numbers.{table_number}
use Rattle.machine.specs.InnerRun.{Numbers, Told, Run}
use Rattle.machine.specs.InnerRest.{rest, said}
use Rattle.machine.specs.InnerCalls.{Answers, asking, first_point, second_point, Points}
use Rattle.claim.specs.History.{hands_back, Runs, Call}
use Rattle.claim.specs.Trace.{remaining, Event, trace, total_weight}
use Rattle.claim.specs.Claim.{Each, Follows, ScoresRight, scores, Plan}

-- the calls of an inner solve, each of which lends u
abbrev pub inner_runs : Format → Runs Question Handed
inner_runs f =
    record {
      Run = Run;
      Settings = Settings;
      Lent = List Float;
      Outcome = Told;
      Answers = λ run a v us ws o r. Answers f run a v us ws (record { told = o; run = r });
      settings = λ run. run.set;
      rest = rest f;
      right = λ s us. eqb (length us) s.n;
      said = said;
      written = λ s p us. lent_after plan_of p us;
      hands = hands_back;
      number = table_number;
    }

-- all that has happened in these calls
abbrev pub trace_of : (f : Format) → Settings → List Float → List (Call (inner_runs f)) → List (Event Question)
trace_of f s u cs = trace (inner_runs f) s (solve f s u) cs

-- What is handed back, after these scores: e, and the plan in the lent u.
pub record InnerHands (s : Settings) (scores : List Scored) (e : Numbers) (u : List Float) : Type 0 where
  -- "that plan is the earliest half step of least finite norm scored .. That norm is handed back with it; every entry of the plan is finite"
  pub plan : Plan s.n scores u e.norm
  -- "and "Converged" stands only where that norm is below the tolerance"
  pub converged : e.status ≡ converged → lt e.norm s.tolerance ≡ true
  -- "iterations (steps after the first)": each step scores once, the first one too, and the end once more
  pub iterations : length scores ≡ e.iterations + 2
  pub most : e.iterations ≤ s.limit

-- "For every list of answers from an accepted start, whichever of them are refused and however wrong the model, projection or direction, and for every .. M inner iterations within the limits": the start with s and u returned r, and the calls cs have led to t.
pub record InnerClaim (f : Format) (s : Settings) (u : List Float) (r : Run) (cs : List (Call (inner_runs f))) (t : Run) : Type 0 where
  -- "the run asks, scores, refuses and ends as document 01 says; no more than .. answers are accepted, and after that many the run has ended": "30 + 56M together"
  pub follows : Follows (inner_runs f) s (solve f s u) (30 + 56 * s.limit) r cs t
  -- its questions have document 01's points: those that the call `points` copies out of the run
  pub points : (xs xs' ys ys' : List Float) → Points f t xs xs' ys ys' 0 → (q : Question) → asking (remaining (inner_runs f) s (solve f s u) cs) ≡ some q → (xs' ≡ first_point q) × (ys' ≡ second_point q)
  -- "At most 14 + 22M COST, 3 + 11M GRADIENT, 12 + 21M PROJECT, 1 + M DIRECTION and M TIME"
  pub costs : total_weight (weigh only_cost) (trace_of f s u cs) ≤ 14 + 22 * s.limit
  pub gradients : total_weight (weigh only_gradient) (trace_of f s u cs) ≤ 3 + 11 * s.limit
  pub projections : total_weight (weigh only_project) (trace_of f s u cs) ≤ 12 + 21 * s.limit
  pub directions : total_weight (weigh only_direction) (trace_of f s u cs) ≤ 1 + s.limit
  pub times : total_weight (weigh only_time) (trace_of f s u cs) ≤ s.limit
  -- "what is scored there is the solve's latest accepted PROJECT answer, and its norm is that of the residual, the latest GRADIENT's point minus this answer"
  pub scored : ScoresRight f seen (trace_of f s u cs)
  -- "Where it hands back a plan, that plan is .." what the lent u holds then
  pub plan : Each (λ c before. (e : Numbers) → c.outcome ≡ Say.Told.ended e → InnerHands s (scores (trace_of f s u (c ∷ before))) e c.wrote) cs

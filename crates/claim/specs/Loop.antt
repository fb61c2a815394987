-- The claim for the multiplier loop. Definitions only.
use Rattle.std.specs.Prelude.{◌+◌, ◌*◌, ◌-◌, ◌≤◌, ◌≡◌, true, List, ◌∷◌, ◌⊎◌, Float, length}
use Rattle.std.proofs.Math.Option.{some}
use Rattle.std.specs.Float.{Format}
use Rattle.std.specs.Float.Ieee.{add, mul, lt, le}
use Rattle.model.specs.Constants.{epsilon}
use Rattle.model.specs.Process.{LoopQuestion, LoopHanded, Loop, converged}
use Rattle.model.specs.Loop.{LoopSettings, xi_of, loop}
use Rattle.model.specs.Refusals.{lent_after, loop_plan, loop_xi, penalty_in, multipliers_in}
use Rattle.model.specs.Bounds.{worst_case}
use Rattle.model.specs.Scoring.{seen_in_loop}
use Rattle.model.specs.Plans.{akkt_at}
use Rattle.machine.specs.Told as Say
use Rattle.machine.specs.Numbers.{table_number}
use Rattle.machine.specs.InnerCalls.{asking}
use Rattle.machine.specs.LoopRun.{Numbers, Told, Run}
use Rattle.machine.specs.LoopRest.{rest, said}
use Rattle.machine.specs.LoopCalls.{lent_right, Answers, first_point, second_point, Points}
use Rattle.machine.specs.Machines.{Places}
use Rattle.claim.specs.History.{hands_back, Runs, Call}
use Rattle.claim.specs.Trace.{remaining, Event, trace}
use Rattle.claim.specs.Claim.{Each, Follows, ScoresRight, scores, tally, Plan}

-- document 01's process for the settings s, from u and xi
abbrev pub loop_of : Format → LoopSettings → List Float → List Float → Loop
loop_of f s u xi = loop f s u (penalty_in xi) (multipliers_in xi)

-- "the exit tests of its last outer iteration", on what is handed back
pub record ExitPassed (f : Format) (s : LoopSettings) (e : Numbers) : Type 0 where
  -- "|y_plus - y| ≤ c × δ + 2^-52 (n1 > 0, second iteration on)"
  pub multipliers : (s.n1 ≡ 0) ⊎ ((2 ≤ e.outer) × (le e.delta_y (add f (mul f e.penalty s.delta) (epsilon f)) ≡ true))
  -- "|F2| ≤ δ + 2^-52 (n2 > 0)"
  pub mapping : (s.n2 ≡ 0) ⊎ (le e.f2 (add f s.delta (epsilon f)) ≡ true)
  -- "and the inner AKKT tolerance is ≤ ε + 2^-52"
  pub akkt : le (akkt_at f s (e.outer - 1)) (add f s.epsilon (epsilon f)) ≡ true

-- What is handed back, after these events: e, the plan in the lent u, the penalty and the multipliers in the lent xi.
pub record LoopHands (f : Format) (s : LoopSettings) (es : List (Event LoopQuestion)) (e : Numbers) (w : Places) : Type 0 where
  -- "that plan is the earliest half step of least finite norm scored in its last inner solve .. That norm is handed back with it; every entry of the plan is finite"
  pub plan : Plan s.n (scores es) w.u e.norm
  -- "and "Converged" stands only where that norm is below the tolerance and, under the multiplier loop, the exit tests of its last outer iteration passed"
  pub converged : e.status ≡ converged → (lt e.norm s.tolerance ≡ true) × ExitPassed f s e
  -- "c into place 0, and the multipliers into the part of xi from place 1 on"
  pub multipliers : (y : List Float) × (length y ≡ s.n1) × (w.xi ≡ xi_of s e.penalty y)
  -- the outer iterations are the inner solves begun
  pub outer : e.outer ≡ (tally es).solves
  -- "Inner iterations are counted over all solves": each step after the first scores once; each solve also scores at its first step and at its end
  pub inner : e.inner + 2 * (tally es).solves ≡ (tally es).scores
  -- at least one, at most K
  pub least : 1 ≤ e.outer
  pub most : e.outer ≤ s.outer

-- the calls of a loop, each of which lends u and xi
abbrev pub loop_runs : Format → Runs LoopQuestion LoopHanded
loop_runs f =
    record {
      Run = Run;
      Settings = LoopSettings;
      Lent = Places;
      Outcome = Told;
      Answers = λ run a v w w' o r. Answers f run a v w.u w'.u w.xi w'.xi (record { told = o; run = r });
      settings = λ run. run.set;
      rest = rest f;
      right = λ s w. lent_right s (length w.u) (length w.xi);
      said = said;
      written = λ s p w. record { u = lent_after loop_plan p w.u; xi = lent_after (loop_xi s) p w.xi };
      hands = hands_back;
      number = table_number;
    }

-- all that has happened in these calls
abbrev pub trace_of : (f : Format) → LoopSettings → List Float → List Float → List (Call (loop_runs f)) → List (Event LoopQuestion)
trace_of f s u xi cs = trace (loop_runs f) s (loop_of f s u xi) cs

-- "For every list of answers from an accepted start, whichever of them are refused and however wrong the model, projection or direction, and for every K outer and M inner iterations within the limits": the start with s, u and xi returned r, and the calls cs have led to t.
pub record LoopClaim (f : Format) (s : LoopSettings) (u xi : List Float) (r : Run) (cs : List (Call (loop_runs f))) (t : Run) : Type 0 where
  -- "the run asks, scores, refuses and ends as document 01 says; no more than K × (35 + 56 × M) + 1 answers are accepted, and after that many the run has ended"
  pub follows : Follows (loop_runs f) s (loop_of f s u xi) (worst_case s.outer s.limit) r cs t
  -- its questions have document 01's points: those that the call `points` copies out of the run
  pub points : (xs xs' ys ys' : List Float) → Points f t xs xs' ys ys' 0 → (q : LoopQuestion) → asking (remaining (loop_runs f) s (loop_of f s u xi) cs) ≡ some q → (xs' ≡ first_point q) × (ys' ≡ second_point q)
  -- "what is scored there is the solve's latest accepted PROJECT answer, and its norm is that of the residual, the latest GRADIENT's point minus this answer"
  pub scored : ScoresRight f seen_in_loop (trace_of f s u xi cs)
  -- "Where it hands back a plan, that plan is .." what the lent u holds then
  pub plan : Each (λ c before. (e : Numbers) → c.outcome ≡ Say.Told.ended e → LoopHands f s (trace_of f s u xi (c ∷ before)) e c.wrote) cs

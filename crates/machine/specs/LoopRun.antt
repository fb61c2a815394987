-- The run of the multiplier loop: what it keeps between two calls, its inner solve's run among it, and what a call leaves of it. No type of any code stands here. Definitions only.
use Rattle.std.specs.Prelude.{ℕ, ◌-◌, List, [], ◌∷◌, ◌++◌, Float, take, drop}
use Rattle.ieee.specs.Numbers.{null}
use Rattle.model.specs.Process.{Status}
use Rattle.model.specs.Loop.{LoopSettings, LoopState, Carried, Found, with_multipliers, with_f2}
use Rattle.model.specs.Loop as L
use Rattle.machine.specs.Told as Say
use Rattle.machine.specs.InnerRun as Inner

-- what a run waits for: TIME, the projection on Y, a question of the inner solve, F1, the projection on C, F2, the last COST
pub data Phase : Type 0 where
  over : Phase
  time : Phase
  project_y : Phase
  inner : Phase
  f1 : Phase
  project_c : Phase
  f2 : Phase
  last_cost : Phase

-- a question, less its points: one of the inner solve that the loop carries, or one of its own
pub data Asked : Type 0 where
  inner : Inner.Asked → Asked
  time : Asked
  project_y : Asked
  f1 : Asked
  project_c : Asked
  f2 : Asked
  cost : Asked

-- what an end says: what is handed back with the plan and the multipliers
pub record Numbers : Type 0 where
  pub status : Status
  pub outer : ℕ
  pub inner : ℕ
  pub norm : Float
  pub delta_y : Float
  pub f2 : Float
  pub penalty : Float
  pub cost : Float

abbrev pub Told : Type 0
Told = Say.Told Asked Numbers

-- A run: the end of the last inner solve, or the end that is handed back; how many outer iterations may still begin; how many outer and inner iterations there were, and the steps of the last solve; c and the
-- AKKT tolerance; the infeasibilities of the iteration before and of this one; the norm of the last solve; y, y_plus and F1; the inner solve, whose u is the loop's, whose best half step is the plan and whose
-- candidate's places take F2 and the projection on C; and the places of y, y_plus and F1 that no vector uses, which no move reads or writes.
pub record Run : Type 0 where
  pub phase : Phase
  pub set : LoopSettings
  pub status : Status
  pub left : ℕ
  pub outer : ℕ
  pub inner : ℕ
  pub found : ℕ
  pub c : Float
  pub akkt : Float
  pub delta_y_norm : Float
  pub f2_norm : Float
  pub delta_y_norm_plus : Float
  pub f2_norm_plus : Float
  pub norm : Float
  pub y : List Float
  pub y_plus : List Float
  pub f1 : List Float
  pub solve : Inner.Run
  pub beyond : List Float

-- what a call leaves
pub record Left : Type 0 where
  pub told : Told
  pub run : Run

-- ---- the model's records, as a run has them

-- u, between the solves and at the end; and the last solve's best half step
abbrev pub u_of : Run → List Float
u_of r = r.solve.state.at.u

abbrev pub plan_of : Run → List Float
plan_of r = r.solve.state.at.best.point

-- where the loop stands between two outer iterations
abbrev pub state_of : Run → LoopState
state_of r =
    record {
      u = u_of r;
      c = r.c;
      y = r.y;
      akkt = r.akkt;
      y_plus = r.y_plus;
      delta_y = r.delta_y_norm;
      f2 = r.f2_norm;
      norm = r.norm;
      outer = r.outer;
      inner = r.inner;
    }

-- what an outer iteration carries on while its inner solve runs
abbrev pub carried_of : Run → Carried
carried_of r = L.carried_of (state_of r)

-- what it has found when its inner solve is over; when y_plus is known; when F2 is known too
abbrev pub found_of : Run → Found
found_of r =
    record { from = carried_of r; status = r.status; plan = plan_of r; norm = r.norm; iterations = r.found; y_plus = r.y; delta_y = null; f2 = null }

abbrev pub found_y : Run → Found
found_y r = with_multipliers r.y_plus r.delta_y_norm_plus (found_of r)

abbrev pub found_all : Run → Found
found_all r = with_f2 r.f2_norm_plus (found_y r)

-- ---- a run with its inner solve elsewhere
abbrev pub with_solve : Inner.Run → Run → Run
with_solve i r = record r { solve = i }

-- v written over the first places of l
unfoldable pub written : List Float → List Float → List Float
written [] l = l
written (x ∷ v) [] = []
written (x ∷ v) (y ∷ l) = x ∷ written v l

-- v written over the first of the candidate's places, of which it may take more than n: its further places are the second ones of `beyond`, after u's
abbrev pub scratched : List Float → Run → Run
scratched v r =
    with_solve
    (record r.solve {
      candidate = written v r.solve.candidate;
      beyond = take (64 - r.set.n) r.solve.beyond ++ written (drop r.set.n v) (drop (64 - r.set.n) r.solve.beyond);
    })
    r

-- ---- what a call leaves: a question asked, a refusal that ends the run, a failure that the host reports
abbrev pub asks : Asked → Phase → Run → Left
asks a p r = record { told = Say.Told.asked a; run = record r { phase = p } }

abbrev pub stops : ℕ → Run → Left
stops k r = record { told = Say.Told.refused k; run = record r { phase = Phase.over } }

abbrev pub fails : ℕ → Run → Left
fails c r = record { told = Say.Told.failed c; run = record r { phase = Phase.over } }

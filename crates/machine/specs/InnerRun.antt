-- The run of an inner solve: what it keeps between two calls, and what a call leaves of it. No type of any code stands here. Definitions only.
use Rattle.std.specs.Prelude.{ℕ, Bool, List, Float}
use Rattle.model.specs.Process.{Status}
use Rattle.model.specs.State.{Settings, Iterate, State, onto}
use Rattle.machine.specs.Told as Say

-- what a run waits for: the questions of the start, of a step's half step, of the doubling, DIRECTION, of the first step's move, of a candidate, TIME, the last COST
pub data Phase : Type 0 where
  over : Phase
  cost : Phase
  gradient : Phase
  shifted : Phase
  project : Phase
  half_cost : Phase
  doubled_project : Phase
  doubled_cost : Phase
  direction : Phase
  first_cost : Phase
  first_gradient : Phase
  first_project : Phase
  tried_cost : Phase
  tried_gradient : Phase
  tried_project : Phase
  time : Phase
  last_cost : Phase

-- a question, less its points; DIRECTION says whether to forget
pub data Asked : Type 0 where
  cost : Asked
  gradient : Asked
  project : Asked
  direction : Bool → Asked
  time : Asked

-- what an end says: what is handed back with the plan
pub record Numbers : Type 0 where
  pub status : Status
  pub iterations : ℕ
  pub norm : Float
  pub cost : Float

abbrev pub Told : Type 0
Told = Say.Told Asked Numbers

-- A run: the end that stands for the present step; how many steps may still begin, how many doublings or candidates may follow; what DIRECTION says; where the solve stands; the candidate and the
-- direction; τ, what the next test holds a value to, the norm of the shift of the Lipschitz estimate; and the places that no vector uses, which no move reads or writes.
pub record Run : Type 0 where
  pub phase : Phase
  pub set : Settings
  pub status : Status
  pub left : ℕ
  pub rounds : ℕ
  pub forget : Bool
  pub state : State
  pub candidate : List Float
  pub direction : List Float
  pub tau : Float
  pub rhs : Float
  pub norm_h : Float
  pub beyond : List Float

-- what a call leaves
pub record Left : Type 0 where
  pub told : Told
  pub run : Run

-- ---- a run with its solve elsewhere
abbrev pub with_state : State → Run → Run
with_state s r = record r { state = s }

abbrev pub with_iterate : Iterate → Run → Run
with_iterate i r = record r { state = onto i r.state }

-- ---- what a call leaves: a question asked, a refusal that ends the run, a failure that the host reports
abbrev pub asks : Asked → Phase → Run → Left
asks a p r = record { told = Say.Told.asked a; run = record r { phase = p } }

abbrev pub stops : ℕ → Run → Left
stops k r = record { told = Say.Told.refused k; run = record r { phase = Phase.over } }

abbrev pub fails : ℕ → Run → Left
fails c r = record { told = Say.Told.failed c; run = record r { phase = Phase.over } }

-- How many questions a run asks at most, whatever is answered: document 01, "At most 14 + 22M COST, ..", "at most 4 questions", and the client's K × (35 + 56 × M) + 1. Assumes nothing.
use Prim.Native.Nat.{ℕ, ◌+◌, ◌*◌, ◌≤◌}
use Rattle.std.specs.Prelude.{Bool}
use Rattle.std.proofs.Math.Bool.{true, false}
use Rattle.model.specs.Process.{Answer, Process, ask, score, begin, stop, Question}

-- whatever is answered, the questions asked weigh at most b
abbrev pub AtMost : {Q H : Type 0} → (Q → ℕ) → Process Q H → ℕ → Type 0
AtMost w (ask q k continue) b = (m : ℕ) × (w q + m ≤ b) × ((a : Answer k) → AtMost w (continue a) m)
AtMost w (score half norm p) b = AtMost w p b
AtMost w (begin p) b = AtMost w p b
AtMost w (stop e) b = Unit {0}

-- ---- the inner solve, each kind of question with a weight of its own

pub record Weights : Type 0 where
  pub cost : ℕ
  pub gradient : ℕ
  pub project : ℕ
  pub direction : ℕ
  pub time : ℕ

unfoldable pub weigh : Weights → Question → ℕ
weigh w (Question.cost u) = w.cost
weigh w (Question.gradient u) = w.gradient
weigh w (Question.project u) = w.project
weigh w (Question.direction forget residual u) = w.direction
weigh w Question.time = w.time

-- at most 14 + 22M COST, 3 + 11M GRADIENT, 12 + 21M PROJECT, 1 + M DIRECTION and M TIME
abbrev pub solve_bound : Weights → ℕ → ℕ
solve_bound w M =
    (14 + 22 * M) * w.cost + (3 + 11 * M) * w.gradient + (12 + 21 * M) * w.project + (1 + M) * w.direction + M * w.time

-- how many points a step moves to at most: the first step one, a later one eleven candidates
abbrev pub moves : Bool → ℕ
moves true = 1
moves false = 11

-- a move: COST, GRADIENT, PROJECT
abbrev pub move : Weights → ℕ
move w = w.cost + w.gradient + w.project

-- ---- the same by kind

abbrev pub only_cost : Weights
only_cost = record { cost = 1; gradient = 0; project = 0; direction = 0; time = 0 }

abbrev pub only_gradient : Weights
only_gradient = record { cost = 0; gradient = 1; project = 0; direction = 0; time = 0 }

abbrev pub only_project : Weights
only_project = record { cost = 0; gradient = 0; project = 1; direction = 0; time = 0 }

abbrev pub only_direction : Weights
only_direction = record { cost = 0; gradient = 0; project = 0; direction = 1; time = 0 }

abbrev pub only_time : Weights
only_time = record { cost = 0; gradient = 0; project = 0; direction = 0; time = 1 }

abbrev pub all : Weights
all = record { cost = 1; gradient = 1; project = 1; direction = 1; time = 1 }

-- ---- the loop: K outer iterations of at most 35 + 56M questions each, and the last COST

unfoldable pub worst_case : ℕ → ℕ → ℕ
worst_case K M = K * (35 + 56 * M) + 1

-- The points of the question of a phase: in which vector of the board the first lies, where the second is in u; how many places each has. Definitions only.
use Rattle.std.specs.Prelude.{ℕ}
use Rattle.board.specs.Board.{U, PLUS, STEP, HALF, FPR, BEST}
use Rattle.panoc_engine.specs.declared.panoc_cache.Phase.{Phase}
use Rattle.panoc_engine.specs.declared.panoc_cache.Phase.TheVariants as P

abbrev pub place_of : Phase → ℕ
place_of P.Over = U
place_of P.Cost = U
place_of P.Gradient = U
place_of P.Shifted = U
place_of P.Project = STEP
place_of P.HalfCost = HALF
place_of P.DoubledProject = STEP
place_of P.DoubledCost = HALF
place_of P.Direction = FPR
place_of P.FirstCost = U
place_of P.FirstGradient = U
place_of P.FirstProject = STEP
place_of P.TriedCost = PLUS
place_of P.TriedGradient = PLUS
place_of P.TriedProject = STEP
place_of P.Time = U
place_of P.LastCost = BEST

abbrev pub first_places : ℕ → Phase → ℕ
first_places n P.Time = 0
first_places n _ = n

abbrev pub second_places : ℕ → Phase → ℕ
second_places n P.Direction = n
second_places n _ = 0

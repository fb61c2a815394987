-- What is worked out of the vectors of a board where a formula takes several of them, over any format. Definitions only.
use Rattle.std.specs.Prelude.{ℕ, List, length, Float}
use Rattle.std.specs.Float.{Format}
use Rattle.std.specs.Float.Ieee.{sub}
use Rattle.model.specs.Constants.{one}
use Rattle.model.specs.Vectors.{minus, less_times, plus_times}
use Rattle.board.specs.Board.{U, GRADIENT, PREVIOUS, HALF, FPR, Y, F1, vector}

module _ (f : Format) where
  -- u - half step
  abbrev pub residual : ℕ → List Float → List Float
  residual n l = minus f (vector U n l) (vector HALF n l)

  -- u - (1 - τ) × residual - τ × d
  abbrev pub candidate : Float → List Float → ℕ → List Float → List Float
  candidate τ d n l = less_times f τ (less_times f (sub f (one f) τ) (vector U n l) (vector FPR n l)) d

  -- residual + γ × (gradient - previous gradient)
  abbrev pub akkt_residual : Float → ℕ → List Float → List Float
  akkt_residual γ n l = plus_times f γ (vector FPR n l) (minus f (vector GRADIENT n l) (vector PREVIOUS n l))

  -- y + c × (F1 - p)
  abbrev pub multipliers : Float → List Float → List Float → List Float
  multipliers c p l = plus_times f c (vector Y (length p) l) (minus f (vector F1 (length p) l) p)

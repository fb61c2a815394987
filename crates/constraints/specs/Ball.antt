-- The ball: a centre and a radius. Definitions only.
use Rattle.std.specs.Prelude.{Bool, ◌&&◌, not, cond, List, Float}
use mathlib.Core.List.{zip_with}
use Rattle.std.specs.Float.{Format}
use Rattle.std.specs.Float.Ieee.{add, sub, mul, div, lt}
use Rattle.std.specs.Float.Ieee.Scale.{finite}
use Rattle.ieee.specs.Numbers.{null}
use Rattle.ieee.specs.Sums.{norm}
use Rattle.model.specs.Vectors.{minus, all_finite}

module _ (f : Format) where
  -- the norm of the difference
  unfoldable pub distance : List Float → List Float → Float
  distance centre v = norm f (minus f v centre)

  -- "centre + radius × (difference / distance) at each place", one rounding for each operation
  unfoldable pub pulled : Float → Float → Float → Float → Float
  pulled radius far c x = add f c (mul f radius (div f (sub f x c) far))

  -- "keeps a vector unless its distance from the centre exceeds the radius", so where that is NaN too
  unfoldable pub ball2 : List Float → Float → List Float → List Float
  unfolding zip_with
  ball2 centre radius v = let far = distance centre v in cond (lt radius far) (zip_with (pulled radius far) centre v) v

-- "a centre or radius not finite, or radius below 0", of which none stands
unfoldable pub ball_right : List Float → Float → Bool
ball_right centre radius = finite radius && not (lt radius null) && all_finite centre

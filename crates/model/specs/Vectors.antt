-- Vectors as lists of floats: place by place, and sums from place 0 from left to right, one rounding for each operation. `squares` and `norm` are of the crate ieee. Definitions only.
use Rattle.std.specs.Prelude.{Bool, true, ◌&&◌, cond, Float}
use mathlib.Core.List.{List, [], ◌∷◌, zip_with, map}
use Rattle.std.specs.Float.{Format}
use Rattle.std.specs.Float.Ieee.{add, sub, mul, div, lt}
use Rattle.std.specs.Float.Ieee.Scale.{finite}
use Rattle.ieee.specs.Numbers.{null}
use Rattle.ieee.specs.Sums.{norm}
use Rattle.model.specs.Constants.{epsilon_lipschitz, delta_lipschitz}

-- every entry is finite
unfoldable pub all_finite : List Float → Bool
all_finite [] = true
all_finite (x ∷ v) = finite x && all_finite v

module _ (f : Format) where
  -- a - b
  unfoldable pub minus : List Float → List Float → List Float
  unfolding zip_with
  minus = zip_with (sub f)

  -- a + b
  unfoldable pub plus : List Float → List Float → List Float
  unfolding zip_with
  plus = zip_with (add f)

  -- a - γ × b: a gradient step, or a part of a candidate
  unfoldable pub less_times : Float → List Float → List Float → List Float
  unfolding zip_with
  less_times γ = zip_with (λ x y. sub f x (mul f γ y))

  -- a + γ × b
  unfoldable pub plus_times : Float → List Float → List Float → List Float
  unfolding zip_with
  plus_times γ = zip_with (λ x y. add f x (mul f γ y))

  -- a + b / c
  unfoldable pub plus_over : Float → List Float → List Float → List Float
  unfolding zip_with
  plus_over c = zip_with (λ x y. add f x (div f y c))

  -- acc and then, from left to right, the product of each two entries
  unfoldable pub products_from : Float → List Float → List Float → Float
  products_from acc [] b = acc
  products_from acc (x ∷ a) [] = acc
  products_from acc (x ∷ a) (y ∷ b) = products_from (add f acc (mul f x y)) a b

  -- a · b
  unfoldable pub dot : List Float → List Float → Float
  dot a b = products_from null a b

  -- "The shift at a place s is 1e-6 × s where that exceeds 1e-12, else 1e-12"
  unfoldable pub shift : Float → Float
  shift s = cond (lt (delta_lipschitz f) (mul f (epsilon_lipschitz f) s)) (mul f (epsilon_lipschitz f) s) (delta_lipschitz f)

  unfoldable pub shifts : List Float → List Float
  shifts u = map shift u

  -- the estimate leaves u shifted
  unfoldable pub shifted : List Float → List Float
  shifted u = plus u (shifts u)

  -- "L is the norm of the gradient change over the norm of the shift", which is x
  unfoldable pub estimate : Float → List Float → List Float → Float
  estimate x gradient gradient' = div f (norm f (minus gradient' gradient)) x

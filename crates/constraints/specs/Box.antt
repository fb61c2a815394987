-- The box: a lower and an upper bound for each place. Definitions only.
use Rattle.std.specs.Prelude.{Bool, true, ◌&&◌, not, cond, List, [], ◌∷◌, Float}
use Rattle.std.specs.Float.Ieee.{lt}
use Rattle.std.specs.Float.Ieee.Scale.{finite}

-- "The box puts its bound where an entry lies beyond it and keeps every other entry, NaN too"
unfoldable pub clamped : Float → Float → Float → Float
clamped lower upper x = cond (lt x lower) lower (cond (lt upper x) upper x)

-- at each place
unfoldable pub rectangle : List Float → List Float → List Float → List Float
rectangle [] upper v = []
rectangle (l ∷ lower) [] v = []
rectangle (l ∷ lower) (u ∷ upper) [] = []
rectangle (l ∷ lower) (u ∷ upper) (x ∷ v) = clamped l u x ∷ rectangle lower upper v

-- "a bound not finite, lower above upper", of which neither stands at a place
unfoldable pub bounds_right : Float → Float → Bool
bounds_right lower upper = finite lower && finite upper && not (lt upper lower)

unfoldable pub rectangle_right : List Float → List Float → Bool
rectangle_right [] upper = true
rectangle_right (l ∷ lower) [] = true
rectangle_right (l ∷ lower) (u ∷ upper) = bounds_right l u && rectangle_right lower upper

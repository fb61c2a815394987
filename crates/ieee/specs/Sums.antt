-- Sums of squares from place 0 on, one rounding for each operation, and the norm, their root. A finite one has finite entries, and none is negative. Assumes nothing but the laws of `Finite` and `Order`.
use Rattle.std.specs.Prelude.{List, [], ◌∷◌, T, Float}
use Rattle.std.specs.Float.{Format}
use Rattle.std.specs.Float.Ieee.{add, mul}
use Rattle.std.specs.Float.Ieee.Scale.{finite}
use Rattle.ieee.specs.Numbers.{null}
use Rattle.ieee.specs.Root.{root}

-- acc and then, from left to right, the square of each entry
unfoldable pub squares_from : Format → Float → List Float → Float
squares_from f acc [] = acc
squares_from f acc (x ∷ v) = squares_from f (add f acc (mul f x x)) v

unfoldable pub squares : Format → List Float → Float
squares f v = squares_from f null v

unfoldable pub norm : Format → List Float → Float
norm f v = root f (squares f v)

-- every entry is finite
abbrev pub AllFinite : List Float → Type 0
AllFinite [] = Unit {0}
AllFinite (x ∷ v) = T (finite x) × AllFinite v

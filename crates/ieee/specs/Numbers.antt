-- Zero, the absolute value and the larger of two floats, as Rust's `f64` and `f32` have them. `finite` is `lib.Ieee.Scale`'s. Definitions only.
use Rattle.std.specs.Prelude.{false, cond, pos}
use lib.Ieee.{Float, nan, inf, fin, lt, is_nan}

-- +0
abbrev pub null : Float
null = fin false 0 (pos 0)

-- `abs`: the sign is cleared, of a zero too
unfoldable pub absolute : Float → Float
absolute nan = nan
absolute (inf s) = inf false
absolute (fin s m e) = fin false m e

-- `max`: the larger, and where one is a NaN the other. Of two that are equal, as +0 and -0, it is the first.
unfoldable pub larger : Float → Float → Float
unfolding lt is_nan
larger x y = cond (is_nan x) y (cond (lt x y) y x)

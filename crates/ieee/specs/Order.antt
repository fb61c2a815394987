-- The order of the floats that are not negative, and what keeps a float from being negative. Assumes nothing.
use Rattle.std.specs.Prelude.{Bool, true, not, Float}
use Rattle.std.specs.Float.{nan, inf, fin}

-- ---- signs: nan, or not negative

abbrev pub upward : Float → Bool
upward nan = true
upward (inf s) = not s
upward (fin s m e) = not s

-- The square root at the special values: NaN, the zeros, what is negative, and infinity, told by a test or by the bit pattern. Assumes nothing.
use Rattle.std.specs.Prelude.{◌≡◌, true}
use lib.Ieee.{Float, nan, inf, fin}

-- ---- negative, or a NaN
abbrev pub Neg : Float → Type 0
Neg nan = Unit {0}
Neg (inf s) = s ≡ true
Neg (fin s m e) = s ≡ true

-- A float by its bit pattern, in either format: the size of a number above zero in units of the format's smallest value, and the pattern of so many units. Assumes nothing.
use Rattle.std.specs.Prelude.{◌≡◌, ℕ, suc, ◌+◌, ◌-◌, ◌*◌, ◌/◌, ◌%◌, ◌^◌, cond}
use lib.Dec.{ltb}
use Rattle.std.specs.Float.{Format}
use Rattle.std.specs.Float.Ieee.{prec, low, hid}

-- ---- the size of a number above zero, in units of the format's smallest value, by its pattern
unfoldable pub mag : Format → ℕ → ℕ
mag f b = cond (ltb b (hid f)) b ((hid f + b % hid f) * 2 ^ (b / hid f - 1))

-- The size of the pattern b's number is m * 2 ^ (prec + 1) * 4 ^ j squares of the format's smallest value. It is shut, since `omega` reads no number as large as 2 ^ low.
unfoldable pub Sized : Format → ℕ → ℕ → ℕ → Type 0
Sized f b m j = m * 2 ^ suc (prec f) * (2 ^ j * 2 ^ j) ≡ mag f b * 2 ^ low f

-- Rows of the definitions, by computation: the roots of document 01's bench pieces first. Assumes nothing.
use Rattle.std.specs.Prelude.{◌≡◌, refl, [], ◌∷◌, ◌^◌, ◌-◌, ◌*◌, true, false, pos, negsuc}
use Rattle.std.specs.Float.{binary32, binary64, nan, inf, fin}
use Rattle.std.specs.Float.Ieee.{of_bits, to_bits, add, mul}
use Rattle.ieee.specs.Numbers.{null, absolute, larger}
use Rattle.ieee.specs.Sums.{squares_from, squares, norm}
use Rattle.ieee.specs.Root.{root}
use Rattle.ieee.specs.Rows.{on}

pub four : on binary64 0x4010_0000_0000_0000 ≡ 0x4000_0000_0000_0000
unfolding root of_bits to_bits
four = refl

pub two : on binary64 0x4000_0000_0000_0000 ≡ 0x3FF6_A09E_667F_3BCD
unfolding root of_bits to_bits
two = refl

pub least : on binary64 1 ≡ (1023 - 537) * 2 ^ 52
unfolding root of_bits to_bits
least = refl

pub largest : on binary64 0x7FEF_FFFF_FFFF_FFFF ≡ 0x5FEF_FFFF_FFFF_FFFF
unfolding root of_bits to_bits
largest = refl

pub minus_zero : on binary64 0x8000_0000_0000_0000 ≡ 0x8000_0000_0000_0000
unfolding root of_bits to_bits
minus_zero = refl

-- the same as values: 2 ^ -1074 has the root 2 ^ -537
pub least_value : root binary64 (fin false 1 (negsuc 1073)) ≡ fin false 1 (negsuc 536)
unfolding root
least_value = refl

pub infinite : root binary64 (inf false) ≡ inf false
unfolding root
infinite = refl

pub minus_one : root binary64 (fin true 1 (pos 0)) ≡ nan
unfolding root
minus_one = refl

pub two_short : on binary32 0x4000_0000 ≡ 0x3FB5_04F3
unfolding root of_bits to_bits
two_short = refl

pub least_short : on binary32 1 ≡ 0x1A35_04F3
unfolding root of_bits to_bits
least_short = refl

pub largest_short : on binary32 0x7F7F_FFFF ≡ 0x5F7F_FFFF
unfolding root of_bits to_bits
largest_short = refl

-- ---- neighbours of a square, and the number below 4, whose root lies just under the middle of two floats
pub above_one : on binary64 0x3FF0_0000_0000_0001 ≡ 0x3FF0_0000_0000_0000
unfolding root of_bits to_bits
above_one = refl

pub below_one : on binary64 0x3FEF_FFFF_FFFF_FFFF ≡ 0x3FEF_FFFF_FFFF_FFFF
unfolding root of_bits to_bits
below_one = refl

pub below_four : on binary64 0x400F_FFFF_FFFF_FFFF ≡ 0x3FFF_FFFF_FFFF_FFFF
unfolding root of_bits to_bits
below_four = refl

-- ---- the other definitions
pub larger_drops_nan : larger nan (fin false 1 (pos 0)) ≡ fin false 1 (pos 0)
unfolding larger
larger_drops_nan = refl

pub larger_of_three : larger (fin false 3 (pos 0)) (fin true 5 (pos 0)) ≡ fin false 3 (pos 0)
unfolding larger
larger_of_three = refl

pub absolute_of_minus_zero : absolute (fin true 0 (pos 0)) ≡ null
unfolding absolute
absolute_of_minus_zero = refl

pub norm_of_three_and_four : norm binary64 (fin true 3 (pos 0) ∷ fin false 1 (pos 2) ∷ []) ≡ fin false 5 (pos 0)
unfolding norm squares squares_from root add mul
norm_of_three_and_four = refl

-- Digits, and the numerals that they make. Definitions only.
use Rattle.std.specs.Prelude.{ℕ, zero, suc, ◌+◌, ◌-◌, ◌*◌, ◌/◌, ◌%◌, cond, List, [], ◌∷◌, ◌++◌, ltb}
use Rattle.std.specs.Prelude.{Option, None, Some}

-- what a byte counts as a digit: `0` to `9`, then `a` to `f`; 16 for every other byte
unfoldable pub digit : ℕ → ℕ
digit c = cond (ltb c 48) 16 (cond (ltb c 58) (c - 48) (cond (ltb c 97) 16 (cond (ltb c 103) (c - 87) 16)))

-- the same, with none for every other byte
abbrev pub digit_of : ℕ → Option ℕ
digit_of c = cond (ltb (digit c) 16) (Some (digit c)) None

-- a word as a numeral in base b, behind digits that count a; none where a byte is no digit of the base
unfoldable pub numeral : ℕ → ℕ → List ℕ → Option ℕ
numeral b a [] = Some a
numeral b a (c ∷ w) = cond (ltb (digit c) b) (numeral b (a * b + digit c) w) None

-- the byte of a digit below 16
unfoldable pub glyph : ℕ → ℕ
glyph d = cond (ltb d 10) (48 + d) (87 + d)

-- the last k digits of n in base b, the most significant first
unfoldable pub digits : ℕ → ℕ → ℕ → List ℕ
digits b zero n = []
digits b (suc k) n = digits b k (n / b) ++ (glyph (n % b) ∷ [])

-- how many decimal digits n has, of at most k + 1: at least one
unfoldable pub places_in : ℕ → ℕ → ℕ
places_in zero n = 1
places_in (suc k) n = cond (ltb n 10) 1 (suc (places_in k (n / 10)))

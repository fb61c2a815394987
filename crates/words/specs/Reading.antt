-- What a word reads as: TRANSCRIPT.md, "Words". Definitions only.
use Rattle.std.specs.Prelude.{ℕ, Bool, true, false, cond, if◌then◌else◌, codes, List, [], ◌∷◌, ltb, eqb, length, Float}
use Rattle.std.specs.Prelude.{Option, None, Some}
use Rattle.std.specs.Str.{bytes_eq}
use Rattle.std.specs.Float.{binary64}
use Rattle.std.specs.Float.Ieee.{of_bits}
use Rattle.words.specs.Digits.{numeral}

-- 16 hexadecimal digits in lower case
unfoldable pub hex_of : List ℕ → Option ℕ
hex_of w = cond (eqb (length w) 16) (numeral 16 0 w) None

-- a float by its bits; `of_bits` takes every NaN pattern to nan
unfoldable pub by_bits : Option ℕ → Option Float
by_bits None = None
by_bits (Some b) = Some (of_bits binary64 b)

unfoldable pub float_of : List ℕ → Option Float
float_of w = by_bits (hex_of w)

-- a number below m
unfoldable pub under : ℕ → Option ℕ → Option ℕ
under m None = None
under m (Some n) = cond (ltb n m) (Some n) None

-- nothing follows a zero
unfoldable pub alone : List ℕ → Option ℕ
alone [] = Some 0
alone (c ∷ w) = None

-- a whole number below m: decimal, with no sign and no leading zero
unfoldable pub whole_of : ℕ → List ℕ → Option ℕ
whole_of m [] = None
whole_of m (c ∷ w) = cond (eqb c 48) (alone w) (under m (numeral 10 0 (c ∷ w)))

-- 0 or 1
abbrev pub flag_of : List ℕ → Option Bool
flag_of w = if bytes_eq w (codes "0") then Some false else if bytes_eq w (codes "1") then Some true else None

-- whether a word is a dash
abbrev pub is_dash : List ℕ → Bool
is_dash w = bytes_eq w (codes "-")

-- What is printed: TRANSCRIPT.md, "Words". Definitions only.
use Rattle.std.specs.Prelude.{ℕ, List, [], ◌∷◌, ◌++◌, Float}
use Rattle.std.specs.Float.{binary64}
use Rattle.std.specs.Float.Ieee.{to_bits}
use Rattle.words.specs.Digits.{digits, places_in}

-- a float's bits as 16 hexadecimal digits; `to_bits` gives nan the pattern 7ff8000000000000
unfoldable pub float_word : Float → List ℕ
float_word x = digits 16 16 (to_bits binary64 x)

-- floats, each with a space before it
unfoldable pub floats_text : List Float → List ℕ
floats_text [] = []
floats_text (x ∷ xs) = (32 ∷ float_word x) ++ floats_text xs

-- a whole number below 2 ^ 64 in decimal
unfoldable pub whole_word : ℕ → List ℕ
whole_word n = digits 10 (places_in 19 n) n

-- a word with a whole number behind it, and one with floats behind it
unfoldable pub counted_text : List ℕ → ℕ → List ℕ
counted_text w n = w ++ whole_word n

unfoldable pub point_text : List ℕ → List Float → List ℕ
point_text w xs = w ++ floats_text xs

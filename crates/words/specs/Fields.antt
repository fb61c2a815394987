-- The fields of a line, read one behind the other. Definitions only.
use Rattle.std.specs.Prelude.{ℕ, zero, suc, ◌^◌, ◌≡◌, List, [], ◌∷◌, ◌++◌, Bool, Option, Some, None, option_map, option_and_then, MatchOption, if◌then◌else◌, nat_lt, length}
use Rattle.std.specs.Float.Ieee.{Float}
use Rattle.words.specs.Reading.{whole_of, flag_of, float_of}
use Rattle.words.specs.Values.{tolerance_of}

-- the words that are left
abbrev pub Left : Type 0
Left = List (List ℕ)

-- a field, and what is left behind it; none where no word is left, or one of another form
abbrev pub Field : Type 0 → Type 0
Field A = Option (A × Left)

infixl 10 ◌>>=◌
abbrev pub ◌>>=◌ : {A B : Type 0} → Option A → (A → Option B) → Option B
o >>= f = option_and_then f o

-- the next word, as it reads
unfoldable pub field_by : {A : Type 0} → (List ℕ → Option A) → Left → Field A
field_by read [] = None
field_by read (w ∷ s) = option_map (λ a. (a, s)) (read w)

abbrev pub whole_field : Left → Field ℕ
whole_field s = field_by (whole_of (2 ^ 64)) s

abbrev pub code_field : Left → Field ℕ
code_field s = field_by (whole_of (2 ^ 32)) s

abbrev pub flag_field : Left → Field Bool
flag_field s = field_by flag_of s

abbrev pub float_field : Left → Field Float
float_field s = field_by float_of s

abbrev pub tolerance_field : Left → Field (Option Float)
tolerance_field s = field_by tolerance_of s

-- n floats more, behind those of a list
unfoldable pub floats_field : List Float → ℕ → Left → Field (List Float)
floats_field xs zero s = Some (xs, s)
floats_field xs (suc n) s = do
  (x, s) ← float_field s
  floats_field (xs ++ x ∷ []) n s

-- all that is left as floats, behind those of a list, together at most m
unfoldable pub rest_field : ℕ → List Float → Left → Option (List Float)
rest_field m xs [] = Some xs
rest_field m xs (w ∷ s) = do
  x ← float_of w
  if nat_lt (length xs) m then rest_field m (xs ++ x ∷ []) s else None

-- a value and what is left are those of a field
abbrev pub Gives : {A : Type 0} → Field A → Option A → Left → Type 0
Gives f r s = MatchOption r (f ≡ None) (λ a. f ≡ Some (a, s))

-- Tests in a row, with distinct numbers in any order: which number comes, and what that says of each test. Assumes nothing.
use Rattle.std.specs.Prelude.{ℕ, ◌≡◌, ◌⊎◌, Bool, true, false, ◌&&◌, not, cond, List, [], ◌∷◌, eqb}
use Rattle.model.specs.Refusals.{unless}

-- a test: its number, and whether it passed
pub data Test : Type 0 where
  test : ℕ → Bool → Test

-- the number of the first that failed, 0 for none
abbrev pub first : List Test → ℕ
first [] = 0
first (test n b ∷ ts) = unless b n (first ts)

-- no test has the number k
abbrev pub absent : ℕ → List Test → Bool
absent k [] = true
absent k (test n b ∷ ts) = not (eqb n k) && absent k ts

-- each has a number of its own, and none has 0
abbrev pub distinct : List Test → Bool
distinct [] = true
distinct (test n b ∷ ts) = not (eqb n 0) && (absent n ts && distinct ts)

-- that of k failed and those before it passed
abbrev pub Fails : ℕ → List Test → Type 0
Fails k [] = ⊥
Fails k (test n b ∷ ts) = cond (eqb n k) (b ≡ false) ((b ≡ true) × Fails k ts)

-- all passed
abbrev pub Passed : List Test → Type 0
Passed [] = Unit {0}
Passed (test n b ∷ []) = b ≡ true
Passed (test n b ∷ t ∷ ts) = (b ≡ true) × Passed (t ∷ ts)

-- r is one of their numbers, or 0
abbrev pub Among : ℕ → List Test → Type 0
Among r [] = r ≡ 0
Among r (test n b ∷ ts) = (r ≡ n) ⊎ Among r ts

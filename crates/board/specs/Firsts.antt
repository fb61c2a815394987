-- An array of floats seen as the vector in its first places. Definitions only.
use Rattle.std.specs.Prelude.{ℕ, zero, suc, List, [], ◌∷◌, Float}
use Rattle.std.specs.Float.{nan}

-- the first n places of an array; a place past its end, of which a board that is long enough has none, is nan
unfoldable pub firsts : ℕ → List Float → List Float
firsts zero l = []
firsts (suc n) [] = nan ∷ firsts n []
firsts (suc n) (x ∷ l) = x ∷ firsts n l

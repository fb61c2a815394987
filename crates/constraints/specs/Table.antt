-- The table: "up to 8 sets, each for the next stretch of the vector", what it refuses and what it gives. Definitions only.
use Rattle.std.specs.Prelude.{ℕ, ◌+◌, Bool, true, ◌&&◌, cond, List, [], ◌∷◌, ◌++◌, eqb, leb, Float, length, take, drop}
use Rattle.std.specs.Float.{Format}
use Rattle.constraints.specs.Box.{rectangle, rectangle_right}
use Rattle.constraints.specs.Ball.{ball2, ball_right}

-- a box with its lower and upper bounds, or a ball with its centre and radius
pub data Constraint : Type 0 where
  rectangle_of : List Float → List Float → Constraint
  ball_of : List Float → Float → Constraint

-- a set, and how many places its stretch has
pub record Row : Type 0 where
  pub stretch : ℕ
  pub constraint : Constraint

-- "what its set alone gives"
abbrev pub alone : Format → Constraint → List Float → List Float
alone f (rectangle_of lower upper) v = rectangle lower upper v
alone f (ball_of centre radius) v = ball2 f centre radius v

-- "each stretch gets what its set alone gives"
unfoldable pub cartesian_product : Format → List Row → List Float → List Float
cartesian_product f [] v = []
cartesian_product f (r ∷ t) v = alone f r.constraint (take r.stretch v) ++ cartesian_product f t (drop r.stretch v)

-- ---- 20: "over 8 sets, or the stretches do not exactly fill the vector, or bounds or a centre their stretch"

abbrev pub as_long : ℕ → Constraint → Bool
as_long n (rectangle_of lower upper) = eqb (length lower) n && eqb (length upper) n
as_long n (ball_of centre radius) = eqb (length centre) n

unfoldable pub all_as_long : List Row → Bool
all_as_long [] = true
all_as_long (r ∷ t) = as_long r.stretch r.constraint && all_as_long t

-- the places of all stretches
unfoldable pub filled : List Row → ℕ
filled [] = 0
filled (r ∷ t) = r.stretch + filled t

unfoldable pub sets_right : List Row → ℕ → Bool
sets_right t n = leb (length t) 8 && eqb (filled t) n && all_as_long t

-- ---- 21: "a bound, centre or radius not finite, lower above upper, or radius below 0"

abbrev pub numbers_right : Constraint → Bool
numbers_right (rectangle_of lower upper) = rectangle_right lower upper
numbers_right (ball_of centre radius) = ball_right centre radius

unfoldable pub all_numbers_right : List Row → Bool
all_numbers_right [] = true
all_numbers_right (r ∷ t) = numbers_right r.constraint && all_numbers_right t

-- "20 first": the number of the refusal, 0 for none
unfoldable pub refusal : List Row → ℕ → ℕ
refusal t n = cond (sets_right t n) (cond (all_numbers_right t) 0 21) 20

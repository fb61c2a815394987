-- A table as a host lends it: a record for each set, and beside them all their numbers, set after set. Definitions only.
use Rattle.std.specs.Prelude.{◌≡◌, ℕ, ◌+◌, ◌-◌, Bool, true, ◌&&◌, cond, List, [], ◌∷◌, eqb, leb, Float, length, take, drop, get_or}
use Rattle.std.specs.Prelude as Std
use Rattle.std.specs.Float.{nan, Format}
use Rattle.constraints.specs.declared.cartesian_product.Set.{Set}
use Rattle.constraints.specs.declared.cartesian_product.Refusal.{Refusal}
use Rattle.constraints.specs.declared.cartesian_product.Refusal.TheVariants.{Sets, Bound}
use Rattle.constraints.specs.Table.{Constraint, rectangle_of, ball_of, Row, cartesian_product, refusal}

abbrev pub is_rectangle : Set → Bool
is_rectangle s = eqb s.kind 0

-- a box's numbers are its lower bounds and then its upper ones, a ball's its radius and then its centre
abbrev pub count : Set → ℕ
count s = cond (is_rectangle s) (s.first + s.second) (1 + s.first)

abbrev pub constraint_of : Set → List Float → Constraint
constraint_of s l = cond (is_rectangle s) (rectangle_of (take s.first l) (take s.second (drop s.first l))) (ball_of (take s.first (drop 1 l)) (get_or l 0 nan))

unfoldable pub table_of : List Set → List Float → List Row
table_of [] l = []
table_of (s ∷ t) l = record { stretch = s.stretch; constraint = constraint_of s l } ∷ table_of t (drop (count s) l)

-- what a set says of its numbers: they are as many as its stretch needs
abbrev pub lengths_right : Set → Bool
lengths_right s = eqb s.first s.stretch && cond (is_rectangle s) (eqb s.second s.stretch) true

-- the sets one after the other, where `room` numbers and `left` places are still to be had
unfoldable pub fits : List Set → ℕ → ℕ → Bool
fits [] room left = eqb left 0
fits (s ∷ t) room left = leb s.stretch left && lengths_right s && leb (count s) room && fits t (room - count s) (left - s.stretch)

-- the numbers of all sets; more may be lent, which no set has
unfoldable pub numbers_of_all : List Set → ℕ
numbers_of_all [] = 0
numbers_of_all (s ∷ t) = count s + numbers_of_all t

-- where fewer numbers are lent than the sets have, some bounds or a centre are shorter than their stretch
unfoldable pub lent_refusal : List Set → List Float → ℕ → ℕ
lent_refusal t l n = cond (leb (numbers_of_all t) (length l)) (refusal (table_of t l) n) 20

abbrev pub number_of : Std.Option Refusal → ℕ
number_of Std.None = 0
number_of (Std.Some Sets) = 20
number_of (Std.Some Bound) = 21

-- What a call gives: its refusal, and the vector as it was, or projected where nothing is refused.
pub record Projects (f : Format) (t : List Set) (l : List Float) (before after : List Float) (refused : ℕ) : Type 0 where
  pub number : refused ≡ lent_refusal t l (length before)
  pub vector : after ≡ cond (eqb refused 0) (cartesian_product f (table_of t l) before) before

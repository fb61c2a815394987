-- Exact distances, of rational numbers. Definitions only.
use Rattle.std.specs.Prelude.{ℕ, ◌+◌, ◌-◌, ◌*◌, ◌≤◌, Bool, cond, ℤ}
use Rattle.std.specs.Float.Ieee.{up, down}

-- size / over, below zero where `negative` is set
pub record Rational : Type 0 where
  pub negative : Bool
  pub size : ℕ
  pub over : ℕ

-- what a finite float stands for
abbrev pub exact : Bool → ℕ → ℤ → Rational
exact s m e = record { negative = s; size = m * up e; over = down e }

-- a rational number is plus / over - minus / over
abbrev pub plus : Rational → ℕ
plus q = cond q.negative 0 q.size

abbrev pub minus : Rational → ℕ
minus q = cond q.negative q.size 0

-- p ≤ q
abbrev pub AtMost : Rational → Rational → Type 0
AtMost p q = plus p * q.over + minus q * p.over ≤ plus q * p.over + minus p * q.over

-- the distance of p and q, times both denominators: in whole numbers the larger less the smaller
abbrev pub gap : Rational → Rational → ℕ
gap p q = let a = plus p * q.over + minus q * p.over in let b = plus q * p.over + minus p * q.over in (a - b) + (b - a)

-- q is no nearer to x than c is: |c - x| ≤ |q - x|
abbrev pub NoNearer : Rational → Rational → Rational → Type 0
NoNearer x c q = gap c x * q.over ≤ gap q x * c.over

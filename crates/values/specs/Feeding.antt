-- A list of answers that lies in two lent arrays, given to a machine one after the other. Definitions only.
use Rattle.std.specs.Prelude.{ℕ, cond, List, [], ◌∷◌, take, drop, eqb, Float}
use Rattle.std.proofs.Math.Option.{some}
use Rattle.ieee.specs.Numbers.{null}
use Rattle.model.specs.Refusals.{Reply}
use Rattle.machine.specs.Keeping.{Machine, Input}
use Rattle.machine.specs.Shown.{Shown}

-- the first place, 0 where there is none
abbrev pub first : List Float → Float
first [] = null
first (x ∷ xs) = x

-- an answer of k places: a number where k is 0, which has one place, else a vector
abbrev pub reply_in : ℕ → List Float → Reply
reply_in k xs = cond (eqb k 0) (Reply.number (first xs)) Reply.vector

abbrev pub width : ℕ → ℕ
width k = cond (eqb k 0) 1 k

-- where a run stands: what the last call told, the run, the lent places
pub record Stands (m : Machine) : Type 0 where
  pub told : m.Told
  pub run : m.Run
  pub lent : m.Lent

module _ (m : Machine) where
  -- what a machine is given with an answer, and where it stands after it
  abbrev pub input : m.Lent → Reply → List Float → Input m.Lent
  input l a v = record { reply = some a; vector = v; lent = l }

  abbrev pub next : Stands m → Reply → List Float → Stands m
  next s a v = record { told = m.tells s.run (input s.lent a v); run = m.leaves s.run (input s.lent a v); lent = m.writes s.run (input s.lent a v) }

  -- ks has how many places each answer has, xs the places
  unfoldable pub fed : List ℕ → List Float → Stands m → Stands m
  fed [] xs s = s
  fed (k ∷ ks) xs s = fed ks (drop (width k) xs) (next s (reply_in k xs) (take k xs))

-- what C sees of a call that copies points: its number, and what the two lent slices hold
abbrev pub shown : ℕ → List Float → List Float → Shown
shown r xs ys = record { number = r; first = xs; second = ys }

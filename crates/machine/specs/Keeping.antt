-- Ways to keep a run between two calls, for a run of any kind: an array of its own for each vector, or one flat array for all; and what it is that a host cannot tell one from the other. Definitions only.
use Rattle.std.specs.Prelude.{ℕ, ◌*◌, ◌≡◌, List, [], ◌∷◌, Float, take, drop}
use Rattle.std.proofs.Common.{sym}
use Rattle.std.proofs.Math.Option.{Option}
use mathlib.Core.List.{map}
use Rattle.model.specs.Refusals.{Reply}

-- what a host gives with an answer: the answer (none: of a kind of no name, which C can give), the vector lent with it, and what the lent places hold
pub record Input (Lent : Type 0) : Type 0 where
  pub reply : Option Reply
  pub vector : List Float
  pub lent : Lent

-- A kind of run as a machine: what a start and an answer tell, the run that they leave, and what stands in the lent places then. Its vectors come in the order in which the flat array has them.
pub record Machine : Type 1 where
  pub Run : Type 0
  pub Told : Type 0
  pub Start : Type 0
  pub Lent : Type 0
  pub begins : Start → Told
  pub begun : Start → Run
  pub tells : Run → Input Lent → Told
  pub leaves : Run → Input Lent → Run
  pub writes : Run → Input Lent → Lent
  pub vectors : Run → List (List Float)

-- A way to keep its runs: the states, the run that each stands for, and what stands in the places of each vector, in its array or in its stretch of the flat array.
pub record Keeping (m : Machine) : Type 1 where
  pub State : Type 0
  pub run : State → m.Run
  pub places : State → List (List Float)
  pub holds : (x : State) → places x ≡ m.vectors (run x)

-- ---- the two ways

-- the numbers of the vectors, how many places of its 64 each has, and the run with the vector v j for each number j
pub record Layout (m : Machine) : Type 0 where
  pub numbers : List ℕ
  pub size : m.Run → ℕ → ℕ
  pub with_vectors : (ℕ → List Float) → m.Run → m.Run
  pub back : (v : ℕ → List Float) (r : m.Run) → m.vectors (with_vectors v r) ≡ map v numbers

-- all that is no vector, and the array for each number
pub record Arrays (m : Machine) : Type 0 where
  pub rest : m.Run
  pub array : ℕ → List Float

-- all that is no vector, and the flat array
pub record Flat (m : Machine) : Type 0 where
  pub rest : m.Run
  pub board : List Float

module _ (m : Machine) (l : Layout m) where
  abbrev pub in_array : Arrays m → ℕ → List Float
  in_array x j = take (l.size x.rest j) (x.array j)

  -- vector j stands from place 64 × j on
  abbrev pub in_board : Flat m → ℕ → List Float
  in_board x j = take (l.size x.rest j) (drop (64 * j) x.board)

  abbrev pub arrays : Keeping m
  arrays = record { State = Arrays m; run = λ x. l.with_vectors (in_array x) x.rest; places = λ x. map (in_array x) l.numbers; holds = λ x. sym (l.back (in_array x) x.rest) }

  abbrev pub flat : Keeping m
  flat = record { State = Flat m; run = λ x. l.with_vectors (in_board x) x.rest; places = λ x. map (in_board x) l.numbers; holds = λ x. sym (l.back (in_board x) x.rest) }

-- ---- calls

-- what a host sees of an answer: what it tells, what the lent places hold, and the state after it
pub record Output (Told Lent State : Type 0) : Type 0 where
  pub told : Told
  pub wrote : Lent
  pub state : State

module _ {m : Machine} (k : Keeping m) where
  abbrev pub Seen : Type 0
  Seen = Output m.Told m.Lent k.State

  -- a start w tells t and leaves x
  pub record Begins (w : m.Start) (t : m.Told) (x : k.State) : Type 0 where
    pub told : t ≡ m.begins w
    pub run : k.run x ≡ m.begun w

  -- an answer i on the state x
  pub record Answered (x : k.State) (i : Input m.Lent) (o : Seen) : Type 0 where
    pub told : o.told ≡ m.tells (k.run x) i
    pub run : k.run o.state ≡ m.leaves (k.run x) i
    pub wrote : o.wrote ≡ m.writes (k.run x) i

  -- a list of answers, the first one first, each on the state that the call before left
  abbrev pub Lasts : k.State → List (Input m.Lent) → List Seen → Type 0
  Lasts x [] [] = Unit {0}
  Lasts x [] (o ∷ os) = ⊥
  Lasts x (i ∷ is) [] = ⊥
  Lasts x (i ∷ is) (o ∷ os) = Answered x i o × Lasts o.state is os

  -- P holds of the run after each call
  abbrev pub Each : (m.Run → Type 0) → List Seen → Type 0
  Each P [] = Unit {0}
  Each P (o ∷ os) = P (k.run o.state) × Each P os

module _ {m : Machine} (k l : Keeping m) where
  -- two answers tell the same, leave the same in the lent places, and hold the same in every vector's places
  pub record Same (o : Seen k) (p : Seen l) : Type 0 where
    pub told : o.told ≡ p.told
    pub wrote : o.wrote ≡ p.wrote
    pub vectors : k.places o.state ≡ l.places p.state

  abbrev pub AllSame : List (Seen k) → List (Seen l) → Type 0
  AllSame [] [] = Unit {0}
  AllSame [] (p ∷ ps) = ⊥
  AllSame (o ∷ os) [] = ⊥
  AllSame (o ∷ os) (p ∷ ps) = Same o p × AllSame os ps

  -- so do a start and all the answers that follow it
  pub record Alike (t t' : m.Told) (x : k.State) (y : l.State) (os : List (Seen k)) (ps : List (Seen l)) : Type 0 where
    pub told : t ≡ t'
    pub vectors : k.places x ≡ l.places y
    pub answers : AllSame os ps

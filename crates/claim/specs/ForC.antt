-- A list of calls for C, each on the struct that the call before it left, by the contract of such a call alone; and the calls of a run that they stand for. Definitions only.
use Rattle.std.specs.Prelude.{ℕ, ◌≡◌, List, [], ◌∷◌, Float}
use Rattle.std.proofs.Math.Option.{Option}
use Rattle.model.specs.Refusals.{Reply}
use Rattle.claim.specs.History.{Runs, Call}

-- One call: the answer that kind, number and code stand for (none: a kind of no name), the vector lent with it, what the lent places held before and after it, the number returned, and the struct after it.
pub record CallC (Struct Lent : Type 0) : Type 0 where
  pub reply : Option Reply
  pub vector : List Float
  pub lent : Lent
  pub wrote : Lent
  pub number : ℕ
  pub run : Struct

-- A struct that holds a run of the kind k: the run that it stands for, the contract of a call on it, and what a call tells there, which its contract shows in numbers.
pub record Structs {Q H : Type 0} (k : Runs Q H) : Type 1 where
  pub Struct : Type 0
  pub run : Struct → k.Run
  pub Leaves : Struct → CallC Struct k.Lent → Type 0
  pub tells : Struct → CallC Struct k.Lent → k.Outcome

module _ {Q H : Type 0} {k : Runs Q H} (s : Structs k) where
  abbrev pub CallOf : Type 0
  CallOf = CallC s.Struct k.Lent

  -- the struct that the latest call left, r where there is none
  abbrev pub latest : s.Struct → List CallOf → s.Struct
  latest r [] = r
  latest r (c ∷ cs) = c.run

  -- P holds of each call, on the struct that it was made on
  abbrev pub EachC : (s.Struct → CallOf → Type 0) → s.Struct → List CallOf → Type 0
  EachC P r [] = Unit {0}
  EachC P r (c ∷ cs) = P (latest r cs) c × EachC P r cs

  -- the calls meet their contract: the latest first, the first one on r
  abbrev pub Meet : s.Struct → List CallOf → Type 0
  Meet r cs = EachC s.Leaves r cs

  -- the call of a run that a call stands for
  abbrev pub call_of : s.Struct → CallOf → Call k
  call_of was c = record { reply = c.reply; vector = c.vector; lent = c.lent; wrote = c.wrote; outcome = s.tells was c; run = s.run c.run }

  abbrev pub calls_of : s.Struct → List CallOf → List (Call k)
  calls_of r [] = []
  calls_of r (c ∷ cs) = call_of (latest r cs) c ∷ calls_of r cs

-- From the struct r: the claim for the calls that cs stand for, and each number that C got is that of what was told.
pub record ClaimC {Q H : Type 0} {k : Runs Q H} (s : Structs k) (Claim : k.Run → List (Call k) → k.Run → Type 0) (r : s.Struct) (cs : List (CallC s.Struct k.Lent)) : Type 0 where
  pub claim : Claim (s.run r) (calls_of s r cs) (s.run (latest s r cs))
  pub numbers : EachC s (λ was c. c.number ≡ k.number (s.tells was c)) r cs

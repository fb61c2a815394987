-- A list of calls for C, each of which meets its contract, is a list of calls of the run that the struct stands for. Assumes nothing.
use Rattle.std.specs.Prelude.{◌≡◌, List, [], ◌∷◌}
use Rattle.claim.specs.History.{Runs, Call, AnswersAny, History, begun, more}
use Rattle.claim.specs.ForC.{CallC, Structs, latest, EachC, Meet, calls_of, ClaimC}

-- a call that meets its contract is a call of the run, with the number of what it told; Own is what the machine asks of its runs and keeps
pub record Sound {Q H : Type 0} {k : Runs Q H} (s : Structs k) (Own : k.Run → Type 0) : Type 0 where
  pub meets : (was : s.Struct) (c : CallC s.Struct k.Lent) → Own (s.run was) → s.Leaves was c → AnswersAny k (s.run was) c.reply c.vector c.lent c.wrote (s.tells was c) (s.run c.run)
  pub owns : (was : s.Struct) (c : CallC s.Struct k.Lent) → Own (s.run was) → s.Leaves was c → Own (s.run c.run)
  pub numbered : (was : s.Struct) (c : CallC s.Struct k.Lent) → s.Leaves was c → c.number ≡ k.number (s.tells was c)

module _ {Q H : Type 0} {k : Runs Q H} (s : Structs k) (Own : k.Run → Type 0) (sound : Sound s Own) (r : s.Struct) where
  owned : Own (s.run r) → (cs : List (CallC s.Struct k.Lent)) → Meet s r cs → Own (s.run (latest s r cs))
  owned o [] m = o
  owned o (c ∷ cs) m = sound.owns (latest s r cs) c (owned o cs m.1) m.0

  history_of : Own (s.run r) → (cs : List (CallC s.Struct k.Lent)) → Meet s r cs → History k (s.run r) (calls_of s r cs) (s.run (latest s r cs))
  history_of o [] m = begun
  history_of o (c ∷ cs) m = more (history_of o cs m.1) _ (sound.meets (latest s r cs) c (owned o cs m.1) m.0)

  numbers_of : (cs : List (CallC s.Struct k.Lent)) → Meet s r cs → EachC s (λ was c. c.number ≡ k.number (s.tells was c)) r cs
  numbers_of [] m = tt
  numbers_of (c ∷ cs) m = (sound.numbered (latest s r cs) c m.0, numbers_of cs m.1)

  -- what holds of every list of calls of the run holds of every list of calls for C
  pub claim_for_c : {Claim : k.Run → List (Call k) → k.Run → Type 0} → ((cs : List (Call k)) (t : k.Run) → History k (s.run r) cs t → Claim (s.run r) cs t) → Own (s.run r)
      → (cs : List (CallC s.Struct k.Lent)) → Meet s r cs → ClaimC s Claim r cs
  claim_for_c claim o cs m = record { claim = claim _ _ (history_of o cs m); numbers = numbers_of cs m }

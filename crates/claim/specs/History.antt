-- A list of calls, each on the run that the call before it returned: by the public contracts alone, for any kind of run. The calls by value, in place and for C keep one contract, so each call is any of these, on the run that its numbers and vectors stand for. Definitions only.
use Rattle.std.specs.Prelude.{ℕ, ◌≡◌, Bool, true, false, List, [], ◌∷◌, Float}
use Rattle.std.proofs.Math.Option.{Option, none, some}
use Rattle.model.specs.Process.{Process, stop}
use Rattle.model.specs.Process.{refused as refused_end}
use Rattle.model.specs.Refusals.{Reply, wanted}
use Rattle.machine.specs.Waits.{of_no_kind}
use Rattle.machine.specs.Told.{Told, asked, ended, refused, failed}

-- whether an outcome hands something back
abbrev pub hands_back : {Q E : Type 0} → Told Q E → Bool
hands_back (asked q) = false
hands_back (ended e) = true
hands_back (refused m) = false
hands_back (failed c) = false

-- An answer: what is handed over (none: an answer of a kind of no name, which C can give), and the vector lent with it.
pub record Answer : Type 0 where
  pub reply : Option Reply
  pub vector : List Float

-- A kind of run: the contract of its answer, and what the contract speaks of.
pub record Runs (Q H : Type 0) : Type 1 where
  pub Run : Type 0
  pub Settings : Type 0
  -- what a call lends to be written
  pub Lent : Type 0
  pub Outcome : Type 0
  -- of the run, the answer, the vector lent with it, the lent places before and after, the outcome and the run returned
  pub Answers : Run → Reply → List Float → Lent → Lent → Outcome → Run → Type 0
  -- the settings of a run, and what is left of it
  pub settings : Run → Settings
  pub rest : Run → Process Q H
  -- whether the lent places have the lengths asked
  pub right : Settings → Lent → Bool
  -- what a call says of the process that it has come to, and what stands in the lent places then
  pub said : Process Q H → Outcome
  pub written : Settings → Process Q H → Lent → Lent
  -- whether an outcome hands something back; the table's number of a refusal or a failure, 0 for none
  pub hands : Outcome → Bool
  pub number : Outcome → ℕ

-- One call: what it was handed (no reply: an answer of a kind of no name, which C can give), what the lent places held before and after it, what it said, and the run that it returned.
pub record Call {Q H : Type 0} (k : Runs Q H) : Type 0 where
  pub reply : Option Reply
  pub vector : List Float
  pub lent : k.Lent
  pub wrote : k.Lent
  pub outcome : k.Outcome
  pub run : k.Run

-- an answer meets the contract, on the run r: one of no kind gets 6 or 7, and changes nothing
abbrev pub AnswersAny : {Q H : Type 0} → (k : Runs Q H) → k.Run → Option Reply → List Float → k.Lent → k.Lent → k.Outcome → k.Run → Type 0
AnswersAny k r none v lent wrote o run = (o ≡ k.said (stop (refused_end (of_no_kind (wanted (k.rest r)))))) × (run ≡ r) × (wrote ≡ lent)
AnswersAny k r (some a) v lent wrote o run = k.Answers r a v lent wrote o run

-- the call does
abbrev pub Meets : {Q H : Type 0} → (k : Runs Q H) → k.Run → Call k → Type 0
Meets k r c = AnswersAny k r c.reply c.vector c.lent c.wrote c.outcome c.run

-- "Each answer gets the run that the call before returned, refused or not; nobody else writes it": the calls from the run r to the run t, the latest first.
pub data History {Q H : Type 0} (k : Runs Q H) (r : k.Run) : List (Call k) → k.Run → Type 0 where
  begun : History k r [] r
  more : {t : k.Run} {cs : List (Call k)} → History k r cs t → (c : Call k) → Meets k t c → History k r (c ∷ cs) c.run

-- What a call tells, for a run of any kind: a question, an end, a refusal by the table's number, or the host's failure by its code. Definitions only.
use Rattle.std.specs.Prelude.{ℕ, List, Float}
use Rattle.model.specs.Process.{End, Process}

-- Q is the question, E what an end says
pub data Told (Q E : Type 0) : Type 0 where
  asked : Q → Told Q E
  ended : E → Told Q E
  refused : ℕ → Told Q E
  failed : ℕ → Told Q E

-- ---- what is said of the process that a call has come to

-- an end: tells is what the call says of what is handed back
abbrev pub ending : {Q H E : Type 0} → (H → E) → End H → Told Q E
ending tells (End.handed h) = Told.ended (tells h)
ending tells (End.refused k) = Told.refused k
ending tells (End.failed c) = Told.failed c

-- asks is the question that stands for one of the process
unfoldable pub saying : {Q A H E : Type 0} → (Q → A) → (H → E) → Process Q H → Told A E
saying asks tells (Process.ask q k continue) = Told.asked (asks q)
saying asks tells (Process.score half norm p) = saying asks tells p
saying asks tells (Process.begin p) = saying asks tells p
saying asks tells (Process.stop e) = ending tells e

-- what stands in a lent place after a call: what an end hands back, else what was there
unfoldable pub given : {Q E : Type 0} → Told Q E → List Float → List Float → List Float
given (Told.asked q) handed was = was
given (Told.ended e) handed was = handed
given (Told.refused k) handed was = was
given (Told.failed c) handed was = was

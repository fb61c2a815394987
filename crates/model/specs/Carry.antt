-- What an accepted answer, and the marks that a call passes, leave of each predicate: laws for a list of calls. Assumes nothing.
use Rattle.std.specs.Prelude.{ℕ, true, false, List, Float}
use Rattle.std.proofs.Math.Option.{Option, none, some}
use Rattle.model.specs.Process.{Kind, Answer, End, Process, ask, score, begin, stop}
use Rattle.model.specs.Refusals.{Reply, number, vector, yes, no, failure, as_number, as_vector, as_decision}
use Rattle.model.specs.Paths.{Watch}

-- ---- an accepted answer

-- the answer that a reply gives, v being the vector lent with it; none where it is a failure or of another kind
unfoldable pub answer_of : (k : Kind) → Reply → List Float → Option (Answer k)
answer_of k (number x) v = as_number x k
answer_of k vector v = as_vector v k
answer_of k yes v = as_decision true k
answer_of k no v = as_decision false k
answer_of k (failure c) v = none

-- ---- AtMost

-- what the question that a process waits at weighs
unfoldable pub weight_asked : {Q H : Type 0} → (Q → ℕ) → Process Q H → ℕ
weight_asked w (ask q k continue) = w q
weight_asked w (score half norm p) = 0
weight_asked w (begin p) = 0
weight_asked w (stop e) = 0

-- ---- Along

-- the state after a reply
abbrev pub moved_by : {S A : Type 0} → (A → S) → S → Option A → S
moved_by move x none = x
moved_by move x (some a) = move a

unfoldable pub state_after : {Q H S : Type 0} → Watch Q S → S → Process Q H → Reply → List Float → S
state_after w x (ask q k continue) r v = moved_by (w.answered x q k) x (answer_of k r v)
state_after w x (score half norm p) r v = x
state_after w x (begin p) r v = x
state_after w x (stop e) r v = x

-- the state after the marks that a call passes
unfoldable pub state_past : {Q H S : Type 0} → Watch Q S → S → Process Q H → S
state_past w x (ask q k continue) = x
state_past w x (score half norm p) = state_past w (w.scored x half norm) p
state_past w x (begin p) = state_past w (w.begun x) p
state_past w x (stop e) = x

-- each score among the marks that a call passes is right
abbrev pub MarksRight : {Q H S : Type 0} → Watch Q S → S → Process Q H → Type 0
MarksRight w x (ask q k continue) = Unit {0}
MarksRight w x (score half norm p) = w.right x half norm × MarksRight w (w.scored x half norm) p
MarksRight w x (begin p) = MarksRight w (w.begun x) p
MarksRight w x (stop e) = Unit {0}

-- the end that a call comes to, past the marks
unfoldable pub end_of : {Q H : Type 0} → Process Q H → Option (End H)
end_of (ask q k continue) = none
end_of (score half norm p) = end_of p
end_of (begin p) = end_of p
end_of (stop e) = some e

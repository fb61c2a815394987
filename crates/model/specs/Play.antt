-- A run played on the definitions: what it says after its start and after each answer. Definitions only.
use Rattle.std.specs.Prelude.{ℕ, zero, suc, true, List, [], ◌∷◌, Float, length}
use Rattle.model.specs.Process.{End, Process, ask, score, begin, stop}
use Rattle.model.specs.Refusals.{Reply, wanted, answer_refusal, accept, remains}

-- what a call says: a question, an end, a refusal that changes nothing; the marks it passed stand before it
pub data Line (Q H : Type 0) : Type 0 where
  asked : Q → Line Q H
  scored : List Float → Float → Line Q H
  began : Line Q H
  ended : End H → Line Q H
  turned : ℕ → Line Q H

-- an answer: the reply, and the vector lent with it
pub record Given : Type 0 where
  pub reply : Reply
  pub vector : List Float

unfoldable pub lines : {Q H : Type 0} → Process Q H → List (Line Q H) → List (Line Q H)
lines (ask q k continue) later = asked q ∷ later
lines (score half norm p) later = scored half norm ∷ lines p later
lines (begin p) later = began ∷ lines p later
lines (stop e) later = ended e ∷ later

-- a call on p whose answer leads to q, and then the later calls
unfoldable pub call : {Q H : Type 0} → ℕ → (Process Q H → List (Line Q H)) → Process Q H → Process Q H → List (Line Q H)
call zero later p q = lines q (later (remains q))
call (suc k) later p q = turned (suc k) ∷ later p

-- the answers to a run of which p is left
unfoldable pub answers : {Q H : Type 0} → List Given → Process Q H → List (Line Q H)
answers [] p = []
answers (a ∷ given) p = call (answer_refusal (wanted p) a.reply (length a.vector) true) (answers given) p (accept p a.reply a.vector)

unfoldable pub play : {Q H : Type 0} → Process Q H → List Given → List (Line Q H)
play p given = lines p (answers given (remains p))

-- What document 01 makes of a list of calls from a process: what is left of the process, and what happened on the way. Definitions only.
use Rattle.std.specs.Prelude.{ℕ, zero, suc, ◌+◌, Bool, cond, ◌&&◌, List, [], ◌∷◌, leb, Float, length}
use Rattle.std.proofs.Math.Option.{Option, none, some}
use Rattle.model.specs.Process.{Kind, Answer, Process, ask, score, begin, stop}
use Rattle.model.specs.Refusals.{Reply, wanted, accept, remains, or_refused}
use Rattle.model.specs.Paths.{Watch}
use Rattle.model.specs.Carry.{answer_of, moved_by}
use Rattle.machine.specs.Waits.{any_refusal}
use Rattle.claim.specs.History.{Runs, Call}

-- ---- what is left

-- the number by which the table refuses a call where q is left, 0 for none
unfoldable pub refusal : {Q H : Type 0} → (k : Runs Q H) → k.Settings → Process Q H → Call k → ℕ
refusal k s q c = any_refusal (wanted q) c.reply (length c.vector) (k.right s c.lent)

-- the answer; one of a kind of no name is refused, so what stands for it is never looked at
abbrev pub reply_of : Option Reply → Reply
reply_of none = Reply.vector
reply_of (some a) = a

-- what its answer leads to, where it is accepted
unfoldable pub leads_to : {Q H : Type 0} → (k : Runs Q H) → Process Q H → Call k → Process Q H
leads_to k q c = accept q (reply_of c.reply) c.vector

-- what the call comes to: the refusal, or what its answer leads to
unfoldable pub comes_to : {Q H : Type 0} → (k : Runs Q H) → k.Settings → Process Q H → Call k → Process Q H
comes_to k s q c = or_refused (refusal k s q c) (leads_to k q c)

-- what is new where the table does not refuse, else what was
unfoldable pub where_accepted : {A : Type 0} → ℕ → A → A → A
where_accepted zero new was = new
where_accepted (suc m) new was = was

-- what is left of the process p after a list of calls, the latest first
unfoldable pub remaining : {Q H : Type 0} → (k : Runs Q H) → k.Settings → Process Q H → List (Call k) → Process Q H
remaining k s p [] = remains p
remaining k s p (c ∷ cs) = let q = remaining k s p cs in where_accepted (refusal k s q c) (remains (leads_to k q c)) q

-- ---- what happened

-- a question with its accepted answer, none for a failure; a half step scored, with its norm; the beginning of an inner solve
pub data Event (Q : Type 0) : Type 0 where
  answered : Q → (k : Kind) → Option (Answer k) → Event Q
  scored : List Float → Float → Event Q
  began : Event Q

-- the marks that a call passes, the latest first, before the earlier events
unfoldable pub passed : {Q H : Type 0} → Process Q H → List (Event Q) → List (Event Q)
passed (ask q k continue) es = es
passed (score half norm p) es = passed p (scored half norm ∷ es)
passed (begin p) es = passed p (began ∷ es)
passed (stop e) es = es

unfoldable pub taken : {Q H : Type 0} → Process Q H → Reply → List Float → List (Event Q) → List (Event Q)
taken (ask q k continue) r v es = answered q k (answer_of k r v) ∷ es
taken (score half norm p) r v es = es
taken (begin p) r v es = es
taken (stop e) r v es = es

-- all that happened, the latest first: the start's marks, and for each accepted answer itself and then the marks that it leads past
unfoldable pub trace : {Q H : Type 0} → (k : Runs Q H) → k.Settings → Process Q H → List (Call k) → List (Event Q)
trace k s p [] = passed p []
trace k s p (c ∷ cs) =
    let q = remaining k s p cs in
    where_accepted (refusal k s q c) (passed (leads_to k q c) (taken q (reply_of c.reply) c.vector (trace k s p cs))) (trace k s p cs)

-- what a watch has come to, from x, after these events
unfoldable pub watched : {Q S : Type 0} → Watch Q S → S → List (Event Q) → S
watched w x [] = x
watched w x (answered q k a ∷ es) = moved_by (w.answered (watched w x es) q k) (watched w x es) a
watched w x (scored half norm ∷ es) = w.scored (watched w x es) half norm
watched w x (began ∷ es) = w.begun (watched w x es)

-- ---- accepted answers

-- "Accepted is what gets none of 6 to 8"
unfoldable pub six_to_eight : ℕ → Bool
six_to_eight m = leb 6 m && leb m 8

unfoldable pub turned_down : {Q H : Type 0} → (k : Runs Q H) → Call k → Bool
turned_down k c = six_to_eight (k.number c.outcome)

-- how many were accepted
unfoldable pub accepted : {Q H : Type 0} → (k : Runs Q H) → List (Call k) → ℕ
accepted k [] = 0
accepted k (c ∷ cs) = cond (turned_down k c) (accepted k cs) (suc (accepted k cs))

-- what the questions of the accepted ones weigh
unfoldable pub total_weight : {Q : Type 0} → (Q → ℕ) → List (Event Q) → ℕ
total_weight w [] = 0
total_weight w (answered q k a ∷ es) = w q + total_weight w es
total_weight w (scored half norm ∷ es) = total_weight w es
total_weight w (began ∷ es) = total_weight w es

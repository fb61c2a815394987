-- What a run of any kind waits for, and what an answer leaves of it. L is what a call leaves. Definitions only.
use Rattle.std.specs.Prelude.{ℕ, zero, suc, ◌≡◌, Bool, true, false, List, Float}
use Rattle.std.proofs.Math.Option.{Option, none, some}
use Rattle.model.specs.Process.{Kind, Answer, refused, Process, ask, stop}
use Rattle.model.specs.Refusals.{Reply, as_number, as_vector, as_decision, answer_refusal}
use Rattle.model.specs.Carry.{moved_by}

-- whether an answer is waited for
abbrev pub waiting : Option Kind → Bool
waiting none = false
waiting (some k) = true

-- what follows each answer of the kind that is waited for; nothing where the run has ended
abbrev pub Moves : Type 0 → Option Kind → Type 0
Moves L none = Unit {0}
Moves L (some k) = Answer k → L

-- What an answer leaves: what follows one of the kind that is waited for, v being the vector lent with it, or what a failure leaves by its code. `stays` is what any other answer leaves; the table refuses it.
unfoldable pub taken : {L : Type 0} → (ℕ → L) → L → (w : Option Kind) → Moves L w → Reply → List Float → L
taken fails stays none move a v = stays
taken fails stays (some k) move (Reply.number x) v = moved_by move stays (as_number x k)
taken fails stays (some k) move Reply.vector v = moved_by move stays (as_vector v k)
taken fails stays (some k) move Reply.yes v = moved_by move stays (as_decision true k)
taken fails stays (some k) move Reply.no v = moved_by move stays (as_decision false k)
taken fails stays (some k) move (Reply.failure c) v = fails c

-- the process p waits for what is waited for, and what follows an answer there is what its move has come to; a run that has ended has no process
abbrev pub Follows : {Q H L : Type 0} → (Process Q H → L → Type 0) → (w : Option Kind) → Moves L w → Process Q H → Type 0
Follows Comes none move p = p ≡ stop (refused 6)
Follows {Q} {H} Comes (some k) move p = (q : Q) × (continue : Answer k → Process Q H) × (p ≡ ask q k continue) × ((a : Answer k) → Comes (continue a) (move a))

-- a call that the table refuses by the number k, 0 for none: what a refusal leaves, else l
abbrev pub unless_refused : {L : Type 0} → ℕ → (ℕ → L) → L → L
unless_refused zero turns l = l
unless_refused (suc k) turns l = turns (suc k)

-- where the table refuses a call by the number k, 0 for none, what it leaves, y, is what was there, x
abbrev pub Stays : {R : Type 0} → ℕ → R → R → Type 0
Stays k x y = (j : ℕ) → k ≡ suc j → y ≡ x

-- ---- any answer that C can give: none is of a kind of no name

-- it gets 6 where the run has ended, else 7
unfoldable pub of_no_kind : Option Kind → ℕ
of_no_kind none = 6
of_no_kind (some k) = 7

-- the number by which the table refuses it, 0 for none; vs and lent as in `answer_refusal`
unfoldable pub any_refusal : Option Kind → Option Reply → ℕ → Bool → ℕ
any_refusal w none vs lent = of_no_kind w
any_refusal w (some a) vs lent = answer_refusal w a vs lent

-- What an answer leaves of a run of any kind, where each move is what the process comes to. Assumes nothing.
use Rattle.std.specs.Prelude.{ℕ, ◌≡◌, refl, Bool, true, false, List, Float}
use Rattle.std.proofs.Common.{arith}
use Rattle.std.proofs.Math.Option.{Option, none, some}
use Rattle.model.specs.Process.{Kind, Answer, failed, Process, ask, stop}
use Rattle.model.specs.Refusals.{Reply, wanted, given, may_fail, as_number, as_vector, as_decision, fits_kind, answer_refusal, accept, replied, go_on}
use Rattle.machine.specs.Waits.{Moves, taken, Follows, Stays}

seven_not : {X : Type 0} → ◌≡◌ {A = ℕ} 7 0 → X
seven_not e = absurd (omega arith)

-- a run that has ended takes no answer
pub none_taken : {X : Type 0} (a : Reply) (vs : ℕ) (lent : Bool) → answer_refusal none a vs lent ≡ 0 → X
unfolding answer_refusal
none_taken a vs lent z = absurd (omega arith)

-- what a refused call leaves: all that it does not write; one that is not refused says nothing
pub unwritten : {R : Type 0} (k : ℕ) (x : R) → Stays k x x
unwritten k x = λ j e. refl

pub not_refused : {R : Type 0} (k : ℕ) (x y : R) → k ≡ 0 → Stays k x y
not_refused k x y z = λ j e. absurd (omega (arith, z, e))

module _ {Q H L : Type 0} (Comes : Process Q H → L → Type 0) where
  -- the process waits for what is said
  pub follows_wanted : (w : Option Kind) (move : Moves L w) (p : Process Q H) → Follows Comes w move p → wanted p ≡ w
  unfolding wanted
  follows_wanted none move p e = rw e
  follows_wanted (some k) move p e = rw e.2

  -- an answer of the kind asked
  asked_taken : (fails : ℕ → L) (stays : L) (q : Q) (a : Reply) (v : List Float) (vs : ℕ) (lent : Bool) (k : Kind) (move : Answer k → L) (continue : Answer k → Process Q H)
      → ((c : ℕ) → Comes (stop (failed c)) (fails c)) → ((b : Answer k) → Comes (continue b) (move b)) → answer_refusal (some k) a vs lent ≡ 0
      → Comes (accept (ask q k continue) a v) (taken fails stays (some k) move a v)
  unfolding answer_refusal fits_kind given may_fail as_number as_vector as_decision accept replied go_on taken
  asked_taken fails stays q (Reply.failure c) v vs lent k move continue fail g z = fail c
  asked_taken fails stays q (Reply.number x) v vs lent Kind.number move continue fail g z = g x
  asked_taken fails stays q Reply.vector v vs lent Kind.number move continue fail g z = seven_not z
  asked_taken fails stays q Reply.yes v vs lent Kind.number move continue fail g z = seven_not z
  asked_taken fails stays q Reply.no v vs lent Kind.number move continue fail g z = seven_not z
  asked_taken fails stays q (Reply.number x) v vs lent (Kind.vector n) move continue fail g z = seven_not z
  asked_taken fails stays q Reply.vector v vs lent (Kind.vector n) move continue fail g z = g v
  asked_taken fails stays q Reply.yes v vs lent (Kind.vector n) move continue fail g z = seven_not z
  asked_taken fails stays q Reply.no v vs lent (Kind.vector n) move continue fail g z = seven_not z
  asked_taken fails stays q (Reply.number x) v vs lent (Kind.direction n) move continue fail g z = seven_not z
  asked_taken fails stays q Reply.vector v vs lent (Kind.direction n) move continue fail g z = g v
  asked_taken fails stays q Reply.yes v vs lent (Kind.direction n) move continue fail g z = seven_not z
  asked_taken fails stays q Reply.no v vs lent (Kind.direction n) move continue fail g z = seven_not z
  asked_taken fails stays q (Reply.number x) v vs lent Kind.decision move continue fail g z = seven_not z
  asked_taken fails stays q Reply.vector v vs lent Kind.decision move continue fail g z = seven_not z
  asked_taken fails stays q Reply.yes v vs lent Kind.decision move continue fail g z = g true
  asked_taken fails stays q Reply.no v vs lent Kind.decision move continue fail g z = g false

  -- an answer that nothing refuses leaves what the process comes to
  pub follows_taken : (fails : ℕ → L) (stays : L) (w : Option Kind) (move : Moves L w) (p : Process Q H) (a : Reply) (v : List Float) (vs : ℕ) (lent : Bool)
      → ((c : ℕ) → Comes (stop (failed c)) (fails c)) → Follows Comes w move p → answer_refusal w a vs lent ≡ 0 → Comes (accept p a v) (taken fails stays w move a v)
  follows_taken fails stays none move p a v vs lent fail e z = none_taken a vs lent z
  follows_taken fails stays (some k) move p a v vs lent fail e z = rw e.2 (asked_taken fails stays e.0 a v vs lent k move e.1 fail e.3 z)

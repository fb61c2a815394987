-- Small laws of a kind of run that keeps its contract. Assumes nothing.
use Prim.Native.Nat.{ℕ, zero, suc}
use Rattle.std.proofs.Math.Path.{◌≡◌, refl, ap}
use Rattle.std.proofs.Common.{sym, ◌∙◌, true≢false, arith}
use Rattle.std.proofs.Math.Bool.{false}
use Rattle.model.specs.Process.{Kind, Process, handed, refused, failed, ask, score, begin, stop}
use Rattle.machine.specs.Told.{saying}
use Rattle.machine.specs.Numbers.{table_number}
use Rattle.std.proofs.Math.Option.{Option, none, some}
use Rattle.std.specs.Prelude.{length}
use Rattle.model.specs.Refusals.{Reply, wanted, accept, or_refused}
use Rattle.machine.specs.Waits.{of_no_kind, any_refusal}
use Rattle.model.specs.Carry.{end_of}
use Rattle.claim.specs.History.{Runs, Call, AnswersAny, Meets}
use Rattle.claim.specs.Trace.{reply_of, refusal, leads_to}
use Rattle.claim.specs.Lawful.{Gives, Lawful, ComesTo, back, nothing, refused_by}

-- the table's number is told as it is
pub numbered : {Q A H E : Type 0} (asks : Q → A) (tells : H → E) (q : Process Q H) → table_number (saying asks tells q) ≡ refused_by q
unfolding saying refused_by
numbered asks tells (ask q k continue) = refl
numbered asks tells (score half norm p) = numbered asks tells p
numbered asks tells (begin p) = numbered asks tells p
numbered asks tells (stop (handed h)) = refl
numbered asks tells (stop (refused m)) = refl
numbered asks tells (stop (failed c)) = refl

-- so does one that has come to the same past other marks
pub gives_as : {Q H : Type 0} (k : Runs Q H) (s : k.Settings) {q q' : Process Q H} → end_of q' ≡ end_of q → k.said q' ≡ k.said q → ((was : k.Lent) → k.written s q' was ≡ k.written s q was) → Gives k s q → Gives k s q'
gives_as k s e f w (nothing a b) = nothing (ap k.hands f ∙ a) (λ was. w was ∙ b was)
gives_as k s e f w (back h a b c) = back h (e ∙ a) (f ∙ b) (λ was. w was ∙ c was)

-- an answer of no kind is refused
named_only : {X : Type 0} (w : Option Kind) → of_no_kind w ≡ 0 → X
unfolding of_no_kind
named_only none e = absurd (omega arith)
named_only (some k) e = absurd (omega arith)

module _ {Q H : Type 0} (k : Runs Q H) (law : Lawful k) where
  -- a call that the table refuses, and one that it accepts
  pub refuses : (r : k.Run) (c : Call k) → Meets k r c → (m : ℕ) → refusal k (k.settings r) (k.rest r) c ≡ suc m
      → (c.outcome ≡ k.said (stop (refused (suc m)))) × (c.run ≡ r) × (c.wrote ≡ c.lent)
  unfolding refusal any_refusal
  refuses r c meets m e = by c.reply meets e
    where
      by : (a : Option Reply) → AnswersAny k r a c.vector c.lent c.wrote c.outcome c.run → any_refusal (wanted (k.rest r)) a (length c.vector) (k.right (k.settings r) c.lent) ≡ suc m
          → (c.outcome ≡ k.said (stop (refused (suc m)))) × (c.run ≡ r) × (c.wrote ≡ c.lent)
      by none meets e = (meets.0 ∙ ap (λ (j : ℕ). k.said (stop (refused j))) e, meets.1, meets.2)
      by (some a) meets e = law.refuses r a c.vector c.lent c.wrote c.outcome c.run meets m e

  pub accepts : (r : k.Run) (c : Call k) → Meets k r c → refusal k (k.settings r) (k.rest r) c ≡ 0
      → ComesTo k (k.settings r) (leads_to k (k.rest r) c) c.lent c.wrote c.outcome c.run
  unfolding refusal any_refusal leads_to
  accepts r c meets e = by c.reply meets e
    where
      by : (a : Option Reply) → AnswersAny k r a c.vector c.lent c.wrote c.outcome c.run → any_refusal (wanted (k.rest r)) a (length c.vector) (k.right (k.settings r) c.lent) ≡ 0
          → ComesTo k (k.settings r) (accept (k.rest r) (reply_of a) c.vector) c.lent c.wrote c.outcome c.run
      by none meets e = named_only (wanted (k.rest r)) e
      by (some a) meets e = law.accepts r a c.vector c.lent c.wrote c.outcome c.run meets e

  -- where nothing is handed back the lent places stay
  pub gives_kept : (s : k.Settings) (q : Process Q H) → k.hands (k.said q) ≡ false → (was : k.Lent) → k.written s q was ≡ was
  gives_kept s q e was = by (law.gives s q)
    where
      by : Gives k s q → k.written s q was ≡ was
      by (nothing a b) = b was
      by (back h a b c) = absurd (true≢false (sym (law.hands h) ∙ ap k.hands (sym b) ∙ e))

  pub refused_hands : (s : k.Settings) (m : ℕ) → k.hands (k.said (stop (refused m))) ≡ false
  unfolding end_of
  refused_hands s m = by (law.gives s (stop (refused m)))
    where
      by : Gives k s (stop (refused m)) → k.hands (k.said (stop (refused m))) ≡ false
      by (nothing a b) = a
      by (back h a b c) = let z : ◌≡◌ {A = ℕ} 0 1 = cc in absurd (omega arith)

  -- a start that refuses by no number begins the process
  pub begins : (m : ℕ) (p : Process Q H) (o : k.Outcome) → o ≡ k.said (or_refused m p) → k.number o ≡ 0 → or_refused m p ≡ p
  unfolding or_refused refused_by
  begins zero p o e z = refl
  begins (suc m) p o e z = absurd (omega (arith, ap k.number e, law.numbered (stop (refused (suc m))), z))

-- The machines' starts of psi and d_psi meet what a start is to give, and no answer of an inner solve writes a place that no vector uses, whatever way the run is kept. Assumes nothing.
use Rattle.std.specs.Prelude.{ℕ, zero, suc, ◌≡◌, refl, List, Float, length}
use Rattle.std.proofs.Common.{sym, ap, arith}
use Rattle.std.specs.Float.{Format}
use Rattle.model.specs.Psi.{Sizes}
use Rattle.model.specs.Refusals.{psi_refusal}
use Rattle.machine.specs.Told as Say
use Rattle.machine.specs.Waits.{unless_refused}
use Rattle.machine.specs.PsiRun.{Run, Left, PsiPhase, DPsiPhase, PsiRun, DPsiRun, refuses}
use Rattle.machine.specs.PsiCalls.{Starts, PsiStarts, DPsiStarts, psi_begun, d_psi_begun}
use Rattle.machine.specs.Keeping.{Input, Keeping, Seen, Lasts, Each}
use Rattle.machine.specs.Machines.{Places, inner_machine, loop_machine, psi_start, d_psi_start}
use Rattle.machine.proofs.InnerAnswers.{any_beyond}
use Rattle.machine.proofs.LoopAnswers as Loop
use Rattle.machine.proofs.KeepLaws.{stays}

module _ (s : Sizes) (u xi : List Float) where
  starts : {P V E : Type 0} (over : P) (begins : List Float → Left P V E) (r : Run P V) → ((b : List Float) → (begins b).run.sizes ≡ s) → ((b : List Float) → (begins b).run.beyond ≡ b) → (k : ℕ)
      → psi_refusal s (length u) (length xi) ≡ k → Starts over s u xi begins (unless_refused k (λ j. refuses j (record r { phase = over; sizes = s })) (begins r.beyond))
  starts over begins r a b zero e = record { sizes = a r.beyond; refused = λ j z. absurd (omega (arith, e, z)); accepted = λ z. sym (ap begins (b r.beyond)) }
  starts over begins r a b (suc k) e = record { sizes = refl; refused = λ j z. let q : ◌≡◌ {A = ℕ} k j = omega (arith, e, z) in (ap (λ (i : ℕ). Say.refused (suc i)) q, refl); accepted = λ z. absurd (omega (arith, e, z)) }

  pub psi_starts : (r : PsiRun) → PsiStarts s u xi (psi_start s u xi r)
  unfolding psi_start
  psi_starts r = starts PsiPhase.over (psi_begun s u xi) r (λ b. refl) (λ b. refl) _ refl

  pub d_psi_starts : (r : DPsiRun) → DPsiStarts s u xi (d_psi_start s u xi r)
  unfolding d_psi_start
  d_psi_starts r = starts DPsiPhase.over (d_psi_begun s u xi) r (λ b. refl) (λ b. refl) _ refl

module _ (f : Format) where
  pub beyond_stays : (k : Keeping (inner_machine f)) (x : k.State) (is : List (Input (List Float))) (os : List (Seen k)) → Lasts k x is os → Each k (λ r. r.beyond ≡ (k.run x).beyond) os
  beyond_stays k x is os a = stays k (λ r. r.beyond) (λ r i. any_beyond f r i.reply i.vector i.lent) x (k.run x).beyond refl is os a

  -- of a loop those of y, y_plus and F1
  pub loop_beyond_stays : (k : Keeping (loop_machine f)) (x : k.State) (is : List (Input Places)) (os : List (Seen k)) → Lasts k x is os → Each k (λ r. r.beyond ≡ (k.run x).beyond) os
  loop_beyond_stays k x is os a = stays k (λ r. r.beyond) (λ r i. Loop.any_beyond f r i.reply i.vector i.lent.u i.lent.xi) x (k.run x).beyond refl is os a

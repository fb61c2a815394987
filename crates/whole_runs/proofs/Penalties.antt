-- psi and d_psi: one call more, and the whole run. Assumes nothing.
use Rattle.std.proofs.Common.{◌≡◌, refl, ap, sym, subst, ◌∙◌, ℕ, zero, suc, List, [], length, Float}
use Rattle.std.proofs.Math.Option.{some}
use Rattle.std.specs.Float.{binary64}
use Rattle.model.specs.Psi.{Sizes}
use Rattle.model.specs.Refusals.{Reply, psi_refusal}
use Rattle.machine.specs.Told as Say
use Rattle.machine.specs.PsiRun.{Asked, PsiRun, PsiLeft, DPsiRun, DPsiLeft}
use Rattle.machine.specs.PsiCalls.{PsiStarts, DPsiStarts, psi_answer, psi_answer_any, d_psi_answer, d_psi_answer_any, handed_out}
use Rattle.claim.specs.History.{AnswersAny}
use Rattle.claim.specs.Psi.{psi_runs, d_psi_runs}
use Rattle.claim.specs.History as P
use Rattle.claim.proofs.PsiProof.{psi_claim, psi_no_run, d_psi_claim, d_psi_no_run}
use Rattle.claim.proofs.Meets.{psi_met, Own, begun_owns, d_psi_met, d_psi_owns}
use Rattle.whole_runs.specs.Feed.{Fed}
use Rattle.whole_runs.specs.Whole.{Psi, DPsi}
use Rattle.whole_runs.proofs.Feeds.{ran_refused, ran_fed}

-- ---- psi

-- an answer meets the contract
pub psi_answer_met : (r : PsiRun) (a : Reply) (v : List Float) (l : PsiLeft) → l ≡ psi_answer binary64 a v r → AnswersAny (psi_runs binary64) r (some a) v tt tt l.told l.run
unfolding psi_answer_any
psi_answer_met r a v l e = psi_met binary64 r (some a) v l e

module _ (s : Sizes) (u xi : List Float) (l : PsiLeft) (starts : PsiStarts s u xi l) (list : List P.Answer) where
  -- an accepted start asks COST
  psi_asks : psi_refusal s (length u) (length xi) ≡ 0 → l.told ≡ Say.Told.asked Asked.cost
  psi_asks z = ap (λ (x : PsiLeft). x.told) (starts.accepted z)

  pub psi_refused : (m : ℕ) → l.told ≡ Say.Told.refused m → Psi s u xi list l
  unfolding Say.saying
  psi_refused m t =
      ran_refused (psi_runs binary64) (psi_refusal s (length u) (length xi)) l.told l.run starts tt list (psi_no_run binary64 s u xi l starts) (λ z. let q = sym (psi_asks z) ∙ t in absurd cc)

  pub psi_fed : ((m : ℕ) → l.told ≡ Say.Told.refused m → ⊥) → {l' : PsiLeft} → Fed (psi_runs binary64) l.run l.told tt list [] l'.told tt l'.run → Psi s u xi list l'
  unfolding Say.saying
  psi_fed z h =
      ran_fed (psi_runs binary64) (psi_refusal s (length u) (length xi)) l.told l.run starts tt list (psi_no_run binary64 s u xi l starts) z h
      (λ n. psi_claim binary64 s u xi l starts (rw (psi_asks n) refl) h.history)

-- ---- d_psi

-- an answer meets the contract; y and t keep the n1 places of F1
pub d_psi_answer_met : (r : DPsiRun) (a : Reply) (v us ws : List Float) (l : DPsiLeft) → Own binary64 r → l ≡ d_psi_answer binary64 a v us r → ws ≡ handed_out l us
    → AnswersAny (d_psi_runs binary64) r (some a) v us ws l.told l.run
unfolding d_psi_answer_any
d_psi_answer_met r a v us ws l o e w = d_psi_met binary64 r (some a) v us ws l o e w

pub own_kept : (r : DPsiRun) (a : Reply) (v us : List Float) (l : DPsiLeft) → Own binary64 r → l ≡ d_psi_answer binary64 a v us r → Own binary64 l.run
unfolding d_psi_answer_any
own_kept r a v us l o e = subst (λ (x : DPsiLeft). Own binary64 x.run) (sym e) (d_psi_owns binary64 r (some a) v us o)

module _ (s : Sizes) (u xi : List Float) (l : DPsiLeft) (starts : DPsiStarts s u xi l) where
  -- an accepted start asks GRADIENT
  d_psi_asks : psi_refusal s (length u) (length xi) ≡ 0 → l.told ≡ Say.Told.asked Asked.gradient
  d_psi_asks z = ap (λ (x : DPsiLeft). x.told) (starts.accepted z)

  pub own_begun : ((m : ℕ) → l.told ≡ Say.Told.refused m → ⊥) → Own binary64 l.run
  own_begun k = by (psi_refusal s (length u) (length xi)) refl
    where
      by : (n : ℕ) → psi_refusal s (length u) (length xi) ≡ n → Own binary64 l.run
      by zero z = begun_owns binary64 s u xi l starts (rw (d_psi_asks z) refl)
      by (suc m) z = absurd (k (suc m) ((starts.refused m z).0))

  module _ (us : List Float) (list : List P.Answer) where
    pub d_psi_refused : (m : ℕ) → l.told ≡ Say.Told.refused m → DPsi s u xi list us us l
    unfolding Say.saying
    d_psi_refused m t =
        ran_refused (d_psi_runs binary64) (psi_refusal s (length u) (length xi)) l.told l.run starts us list (d_psi_no_run binary64 s u xi l starts) (λ z. let q = sym (d_psi_asks z) ∙ t in absurd cc)

    pub d_psi_fed : ((m : ℕ) → l.told ≡ Say.Told.refused m → ⊥) → {ws : List Float} {l' : DPsiLeft} → Fed (d_psi_runs binary64) l.run l.told us list [] l'.told ws l'.run → DPsi s u xi list us ws l'
    unfolding Say.saying
    d_psi_fed z h =
        ran_fed (d_psi_runs binary64) (psi_refusal s (length u) (length xi)) l.told l.run starts us list (d_psi_no_run binary64 s u xi l starts) z h
        (λ n. d_psi_claim binary64 s u xi l starts (rw (d_psi_asks n) refl) h.history)

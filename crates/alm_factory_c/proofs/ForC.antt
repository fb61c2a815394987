-- Every list of calls for C of psi, and of d_psi, meets the claim. Assumes nothing.
use Rattle.std.proofs.Common.{◌≡◌, refl, ap, sym, subst, ◌∙◌, ℕ, zero, suc, true, List, length, eqb, Float}
use Rattle.std.proofs.Math.Option.{Option, none, some}
use Rattle.std.specs.Float.{binary64}
use Rattle.model.specs.Refusals.{Reply}
use Rattle.machine.specs.Told as Say
use Rattle.machine.specs.Waits.{any_refusal}
use Rattle.machine.specs.Numbers.{table_number}
use Rattle.machine.specs.PsiRun.{PsiRun, PsiLeft, DPsiRun, DPsiLeft, refuses}
use Rattle.machine.specs.PsiCalls.{waits, psi_kind_at, d_psi_kind_at, ruled, psi_answer, d_psi_answer, psi_answer_any, d_psi_answer_any, handed_out}
use Rattle.alm_factory.specs.declared.records.Sizes.{Sizes}
use Rattle.alm_factory.specs.Values.{sizes_of}
use Rattle.alm_factory.specs.Runs.{psi_run, d_psi_run}
use Rattle.claim.specs.History.{AnswersAny, History}
use Rattle.claim.specs.Psi.{psi_runs, PsiClaim, d_psi_runs, DPsiClaim}
use Rattle.claim.specs.ForC.{CallC, Meet, ClaimC}
use Rattle.claim.proofs.ForC.{Sound, claim_for_c}
use Rattle.claim.proofs.PsiProof.{psi_claim, d_psi_claim}
use Rattle.claim.proofs.Meets.{psi_met, Own, begun_owns, d_psi_met, d_psi_owns}
use Rattle.alm_factory_c.specs.declared.psi.PsiC.{PsiC}
use Rattle.alm_factory_c.specs.declared.d_psi.DPsiC.{DPsiC}
use Rattle.alm_factory_c.specs.Fields.{psi_of, psi_refusal_of, PsiLeaves, PsiBegins, d_psi_of, d_psi_refusal_of, DPsiLeaves, DPsiBegins}
use Rattle.alm_factory_c.specs.ForC.{psi_c, d_psi_c}

-- ---- psi

-- where the table refuses, the machine leaves the run as it was
psi_turned : (r : PsiRun) (a : Option Reply) (v : List Float) (m : ℕ) → any_refusal (waits psi_kind_at r.sizes r.phase) a (length v) true ≡ suc m → psi_answer_any binary64 a v r ≡ refuses (suc m) r
unfolding any_refusal psi_answer_any psi_answer ruled
psi_turned r none v m e = ap (λ (k : ℕ). refuses k r) e
psi_turned r (some a) v m e = rw e refl

module _ (was : PsiC) (c : CallC PsiC (Unit {0})) (l : PsiLeaves c.reply c.vector was c.run c.number) where
  abbrev psi_left : PsiLeft
  psi_left = psi_answer_any binary64 c.reply c.vector (psi_of was)

  -- a call leaves what the machine does
  record PsiSame : Type 0 where
    run : psi_of c.run ≡ psi_left.run
    number : c.number ≡ table_number psi_left.told

  psi_same : PsiSame
  unfolding psi_run
  psi_same = by (psi_refusal_of was c.reply (length c.vector)) refl
    where
      by : (m : ℕ) → psi_refusal_of was c.reply (length c.vector) ≡ m → PsiSame
      by zero e = let h = l.accepted e in record { run = h.run; number = h.number }
      by (suc m) e =
          let h = l.refused m e in
          let t = psi_turned (psi_of was) c.reply c.vector m e in
          record { run = ap psi_of h.1 ∙ ap (λ (x : PsiLeft). x.run) (sym t); number = h.0 ∙ ap (λ (x : PsiLeft). table_number x.told) (sym t) }

psi_sound : Sound psi_c (λ r. Unit {0})
psi_sound =
    record {
      meets = λ was c o l.
          subst (λ (r : PsiRun). AnswersAny (psi_runs binary64) (psi_of was) c.reply c.vector tt tt (psi_left was c l).told r) (sym ((psi_same was c l).run))
          (psi_met binary64 (psi_of was) c.reply c.vector (psi_left was c l) refl);
      owns = λ was c o l. tt;
      numbered = λ was c l. (psi_same was c l).number;
    }

-- After a start that got the number 0, whatever list of calls follows.
pub psi_c_claim : (s : Sizes) (u xi : List Float) (was is : PsiC) → PsiBegins s u xi was is 0 → (cs : List (CallC PsiC (Unit {0}))) → Meet psi_c is cs → ClaimC psi_c (PsiClaim binary64 (sizes_of s) u xi) is cs
psi_c_claim s u xi was is b cs m =
    claim_for_c psi_c (λ r. Unit {0}) psi_sound is
    (λ ds t h.
    subst (λ (r : PsiRun). PsiClaim binary64 (sizes_of s) u xi r ds t) (sym b.kept.run)
    (psi_claim binary64 (sizes_of s) u xi b.left b.starts (sym b.kept.number) (subst (λ (r : PsiRun). History (psi_runs binary64) r ds t) b.kept.run h)))
    tt cs m

-- ---- d_psi
d_psi_turned : (r : DPsiRun) (a : Option Reply) (v us : List Float) (m : ℕ) → any_refusal (waits d_psi_kind_at r.sizes r.phase) a (length v) (eqb (length us) r.sizes.n) ≡ suc m
    → d_psi_answer_any binary64 a v us r ≡ refuses (suc m) r
unfolding any_refusal d_psi_answer_any d_psi_answer ruled
d_psi_turned r none v us m e = ap (λ (k : ℕ). refuses k r) e
d_psi_turned r (some a) v us m e = rw e refl

module _ (was : DPsiC) (c : CallC DPsiC (List Float)) (l : DPsiLeaves c.reply c.vector c.lent c.wrote was c.run c.number) where
  abbrev d_psi_left : DPsiLeft
  d_psi_left = d_psi_answer_any binary64 c.reply c.vector c.lent (d_psi_of was)

  record DPsiSame : Type 0 where
    run : d_psi_of c.run ≡ d_psi_left.run
    wrote : c.wrote ≡ handed_out d_psi_left c.lent
    number : c.number ≡ table_number d_psi_left.told

  d_psi_same : DPsiSame
  unfolding d_psi_run Say.given
  d_psi_same = by (d_psi_refusal_of was c.reply (length c.vector) (length c.lent)) refl
    where
      by : (m : ℕ) → d_psi_refusal_of was c.reply (length c.vector) (length c.lent) ≡ m → DPsiSame
      by zero e = let h = l.accepted e in record { run = h.0.run; wrote = h.1; number = h.0.number }
      by (suc m) e =
          let h = l.refused m e in
          let t = d_psi_turned (d_psi_of was) c.reply c.vector c.lent m e in
          record {
            run = ap d_psi_of h.1 ∙ ap (λ (x : DPsiLeft). x.run) (sym t);
            wrote = h.2 ∙ ap (λ (x : DPsiLeft). handed_out x c.lent) (sym t);
            number = h.0 ∙ ap (λ (x : DPsiLeft). table_number x.told) (sym t);
          }

d_psi_sound : Sound d_psi_c (Own binary64)
d_psi_sound =
    record {
      meets = λ was c o l.
          let s = d_psi_same was c l in
          subst (λ (r : DPsiRun). AnswersAny (d_psi_runs binary64) (d_psi_of was) c.reply c.vector c.lent c.wrote (d_psi_left was c l).told r) (sym s.run)
          (d_psi_met binary64 (d_psi_of was) c.reply c.vector c.lent c.wrote (d_psi_left was c l) o refl s.wrote);
      owns = λ was c o l. subst (Own binary64) (sym ((d_psi_same was c l).run)) (d_psi_owns binary64 (d_psi_of was) c.reply c.vector c.lent o);
      numbered = λ was c l. (d_psi_same was c l).number;
    }

-- After a start that got the number 0, whatever list of calls follows.
pub d_psi_c_claim : (s : Sizes) (u xi : List Float) (was is : DPsiC) → DPsiBegins s u xi was is 0 → (cs : List (CallC DPsiC (List Float))) → Meet d_psi_c is cs → ClaimC d_psi_c (DPsiClaim binary64 (sizes_of s) u xi) is cs
d_psi_c_claim s u xi was is b cs m =
    claim_for_c d_psi_c (Own binary64) d_psi_sound is
    (λ ds t h.
    subst (λ (r : DPsiRun). DPsiClaim binary64 (sizes_of s) u xi r ds t) (sym b.kept.run)
    (d_psi_claim binary64 (sizes_of s) u xi b.left b.starts (sym b.kept.number) (subst (λ (r : DPsiRun). History (d_psi_runs binary64) r ds t) b.kept.run h)))
    (subst (Own binary64) (sym b.kept.run) (begun_owns binary64 (sizes_of s) u xi b.left b.starts (sym b.kept.number))) cs m

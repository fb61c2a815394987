-- Numbers past those that are named, and what a call leaves in the fields. Assumes nothing.
use Rattle.std.proofs.Common.{◌≡◌, refl, sym, ap, subst, true, ◌∙◌, ℕ, ◌≤◌, List, length, eqb, Float, arith}
use Rattle.std.proofs.Math.ListN.{get_or-eq_default}
use Rattle.std.proofs.Math.Option.{Option, none, some}
use Rattle.std.specs.Float.{binary64}
use Rattle.model.specs.Process.{Kind}
use Rattle.model.specs.Refusals.{Reply, answer_refusal}
use Rattle.board.specs.Board.{vector}
use Rattle.machine.specs.Told.{given}
use Rattle.machine.specs.Waits.{of_no_kind, any_refusal}
use Rattle.machine.specs.Numbers.{table_number}
use Rattle.machine.specs.PsiNumbers.{psi_phase_number, d_psi_phase_number}
use Rattle.machine.specs.PsiRun as M
use Rattle.machine.specs.PsiMoves.{psi_move, d_psi_move}
use Rattle.machine.specs.PsiCalls.{waits, psi_kind_at, d_psi_kind_at, psi_answer_any, d_psi_answer_any, handed_out, PsiStarts, DPsiStarts}
use Rattle.panoc_engine.specs.declared.outcome.Refusal.{Refusal}
use Rattle.panoc_engine.specs.Told.{refusal_number}
use Rattle.alm_factory.specs.declared.records.Sizes.{Sizes}
use Rattle.alm_factory.specs.declared.records.Psi.{Psi}
use Rattle.alm_factory.specs.declared.records.PsiMoved.{PsiMoved}
use Rattle.alm_factory.specs.declared.records.PsiPhase.{PsiPhase}
use Rattle.alm_factory.specs.declared.records.PsiPhase.TheVariants as P
use Rattle.alm_factory.specs.declared.records.DPsi.{DPsi}
use Rattle.alm_factory.specs.declared.records.DPsiMoved.{DPsiMoved}
use Rattle.alm_factory.specs.declared.records.DPsiPhase.{DPsiPhase}
use Rattle.alm_factory.specs.declared.records.DPsiPhase.TheVariants as D
use Rattle.alm_factory.specs.Values.{sizes_of, psi_phase_of, d_psi_phase_of, told_of}
use Rattle.alm_factory.specs.Runs as R
use Rattle.alm_factory.specs.Runs.{psi_run, psi_left, d_psi_run, d_psi_left}
use Rattle.panoc_engine.proofs.Numbers.{refusal_some}
use Rattle.alm_factory.proofs.PsiLaws as PsiLaws
use Rattle.alm_factory.proofs.DPsiLaws as DPsiLaws
use Rattle.panoc_fields.proofs.CallLaws.{of_no_kind_some}
use Rattle.alm_factory_c.specs.declared.psi.PsiC.{PsiC}
use Rattle.alm_factory_c.specs.declared.d_psi.DPsiC.{DPsiC}
use Rattle.alm_factory_c.specs.Fields.{psi_phases, psi_at, d_psi_phases, d_psi_at, psi_small, psi_put, PsiKept, PsiLeaves, PsiBegins, psi_refusal_of, d_psi_small, d_psi_put, DPsiKept, DPsiLeaves, DPsiBegins, d_psi_refusal_of}

pub psi_past : (m : ℕ) → 5 ≤ m → P.Over ≡ psi_at m
psi_past m h = sym (get_or-eq_default psi_phases _ {n = m} h)

pub d_psi_past : (m : ℕ) → 7 ≤ m → D.Over ≡ d_psi_at m
d_psi_past m h = sym (get_or-eq_default d_psi_phases _ {n = m} h)

-- a phase is that of its number
psi_round : (p : PsiPhase) → psi_at (psi_phase_number (psi_phase_of p)) ≡ p
psi_round P.Over = refl
psi_round P.Cost = refl
psi_round P.F1 = refl
psi_round P.ProjectC = refl
psi_round P.F2 = refl

d_psi_round : (p : DPsiPhase) → d_psi_at (d_psi_phase_number (d_psi_phase_of p)) ≡ p
d_psi_round D.Over = refl
d_psi_round D.Gradient = refl
d_psi_round D.F1 = refl
d_psi_round D.ProjectC = refl
d_psi_round D.Jf1t = refl
d_psi_round D.F2 = refl
d_psi_round D.Jf2t = refl

-- ---- psi

-- what is put into the fields is kept
psi_kept : (was is : PsiC) (s : Psi) (m : PsiMoved) (b : List Float) (number : ℕ) → is ≡ psi_put m (record was { n = s.sizes.n; n1 = s.sizes.n1; n2 = s.sizes.n2; c = s.c; board = b })
    → number ≡ table_number (told_of m.outcome) → PsiKept (record { told = told_of m.outcome; run = psi_run (record s { phase = m.phase; value = m.value }) b }) was is number
unfolding psi_run
psi_kept was is s m b number e k =
    rw e
    (record {
      number = k;
      outcome = refl;
      told = refl;
      answer = refl;
      phase = refl;
      run = ap (λ (p : PsiPhase). psi_run (record s { phase = p; value = m.value }) b) (psi_round m.phase);
    })

module _ (was : PsiC) (a : Option Reply) (v : List Float) (w : Option Kind) (s : Psi) (i : s ≡ psi_small was) (d : w ≡ waits psi_kind_at (sizes_of s.sizes) (psi_phase_of s.phase)) where
  e : w ≡ waits psi_kind_at (sizes_of (psi_small was).sizes) (psi_phase_of (psi_small was).phase)
  e = d ∙ ap (λ (t : Psi). waits psi_kind_at (sizes_of t.sizes) (psi_phase_of t.phase)) i

  pub psi_of_no_kind : (number : ℕ) → none ≡ a → number ≡ of_no_kind w → PsiLeaves a v was was number
  unfolding any_refusal
  psi_of_no_kind number q z =
      subst (λ (o : Option Reply). PsiLeaves o v was was number) q
      (record { refused = λ k t. (z ∙ ap of_no_kind e ∙ t, refl); accepted = λ t. absurd (of_no_kind_some _ t) })

  pub psi_refused : (b : Reply) (f : Refusal) → some b ≡ a → refusal_number f ≡ answer_refusal w b (length v) true → PsiLeaves a v was was (refusal_number f)
  unfolding any_refusal
  psi_refused b f q z =
      let y : refusal_number f ≡ psi_refusal_of was (some b) (length v) = z ∙ ap (λ (o : Option Kind). answer_refusal o b (length v) true) e in
      subst (λ (o : Option Reply). PsiLeaves o v was was (refusal_number f)) q
      (record { refused = λ k t. (y ∙ t, refl); accepted = λ t. absurd (refusal_some f (y ∙ t)) })

  pub psi_goes : (b : Reply) (is : PsiC) (m : PsiMoved) (l : List Float) (number : ℕ) → some b ≡ a → 0 ≡ answer_refusal w b (length v) true
      → psi_left s m l ≡ psi_move binary64 (psi_phase_of s.phase) b v (psi_run s was.board)
      → is ≡ psi_put m (record was { board = l }) → number ≡ table_number (told_of m.outcome) → PsiLeaves a v was is number
  unfolding any_refusal psi_answer_any
  psi_goes b is m l number q z g p k =
      let y : psi_refusal_of was (some b) (length v) ≡ 0 = sym (z ∙ ap (λ (o : Option Kind). answer_refusal o b (length v) true) e) in
      let h = subst (λ (o : Psi). psi_left o m l ≡ psi_move binary64 (psi_phase_of o.phase) b v (psi_run o was.board)) i g in
      let t = PsiLaws.answered (psi_small was) was.board b v w e l m z h in
      subst (λ (o : Option Reply). PsiLeaves o v was is number) q
      (record {
        refused = λ i r. absurd (omega (arith, y, r));
        accepted = λ r. subst (λ (o : M.PsiLeft). PsiKept o was is number) t (psi_kept was is (psi_small was) m l number p k);
      })

pub psi_begun : (sizes : Sizes) (u xi : List Float) (was is : PsiC) (s : Psi) (m : PsiMoved) (l : List Float) (number : ℕ) → m.phase ≡ s.phase → m.value ≡ s.value
    → PsiStarts (sizes_of sizes) u xi (record { told = told_of m.outcome; run = psi_run s l }) → R.Stays sizes u xi was.board l
    → is ≡ psi_put m (record was { n = s.sizes.n; n1 = s.sizes.n1; n2 = s.sizes.n2; c = s.c; board = l }) → number ≡ table_number (told_of m.outcome) → PsiBegins sizes u xi was is number
psi_begun sizes u xi was is s m l number p x g h e k =
    record {
      left = record { told = told_of m.outcome; run = psi_run (record s { phase = m.phase; value = m.value }) l };
      starts = rw (p, x) g;
      kept = psi_kept was is s m l number e k;
      stays = λ i z. ap (λ (y : PsiC). y.board) e ∙ h i z;
    }

-- ---- d_psi
d_psi_kept : (was is : DPsiC) (s : DPsi) (m : DPsiMoved) (b : List Float) (number : ℕ) → is ≡ d_psi_put m (record was { n = s.sizes.n; n1 = s.sizes.n1; n2 = s.sizes.n2; c = s.c; board = b })
    → number ≡ table_number (told_of m.outcome) → DPsiKept (record { told = told_of m.outcome; run = d_psi_run (record s { phase = m.phase }) b }) is number
unfolding d_psi_run
d_psi_kept was is s m b number e k =
    rw e
    (record {
      number = k;
      outcome = refl;
      told = refl;
      phase = refl;
      run = ap (λ (p : DPsiPhase). d_psi_run (record s { phase = p }) b) (d_psi_round m.phase);
    })

module _ (was : DPsiC) (a : Option Reply) (v us : List Float) (w : Option Kind) (e : w ≡ waits d_psi_kind_at (sizes_of (d_psi_small was).sizes) (d_psi_phase_of (d_psi_small was).phase)) where
  pub d_psi_of_no_kind : (number : ℕ) → none ≡ a → number ≡ of_no_kind w → DPsiLeaves a v us us was was number
  unfolding any_refusal
  d_psi_of_no_kind number q z =
      subst (λ (o : Option Reply). DPsiLeaves o v us us was was number) q
      (record { refused = λ k t. (z ∙ ap of_no_kind e ∙ t, refl, refl); accepted = λ t. absurd (of_no_kind_some _ t) })

  pub d_psi_refused : (b : Reply) (f : Refusal) → some b ≡ a → refusal_number f ≡ answer_refusal w b (length v) (eqb (length us) was.n) → DPsiLeaves a v us us was was (refusal_number f)
  unfolding any_refusal
  d_psi_refused b f q z =
      let y : refusal_number f ≡ d_psi_refusal_of was (some b) (length v) (length us) = z ∙ ap (λ (o : Option Kind). answer_refusal o b (length v) (eqb (length us) was.n)) e in
      subst (λ (o : Option Reply). DPsiLeaves o v us us was was (refusal_number f)) q
      (record { refused = λ k t. (y ∙ t, refl, refl); accepted = λ t. absurd (refusal_some f (y ∙ t)) })

  pub d_psi_accepts : (b : Reply) → 0 ≡ answer_refusal w b (length v) (eqb (length us) was.n) → (R.DPsiAccepts (d_psi_small was) b (length v)) × (length us ≤ 64)
  d_psi_accepts b z = DPsiLaws.accepts (d_psi_small was) b v us w e z

  pub d_psi_goes : (b : Reply) (is : DPsiC) (m : DPsiMoved) (l ws : List Float) (number : ℕ) → some b ≡ a → 0 ≡ answer_refusal w b (length v) (eqb (length us) was.n)
      → d_psi_left (d_psi_small was) m l ≡ d_psi_move binary64 (d_psi_phase_of (d_psi_small was).phase) b v (d_psi_run (d_psi_small was) was.board)
      → ws ≡ given (told_of m.outcome) (vector R.GRADIENT (length us) l) us
      → is ≡ d_psi_put m (record was { board = l }) → number ≡ table_number (told_of m.outcome) → DPsiLeaves a v us ws was is number
  unfolding any_refusal d_psi_answer_any
  d_psi_goes b is m l ws number q z g h p k =
      let y : d_psi_refusal_of was (some b) (length v) (length us) ≡ 0 = sym (z ∙ ap (λ (o : Option Kind). answer_refusal o b (length v) (eqb (length us) was.n)) e) in
      let t = DPsiLaws.answered (d_psi_small was) b v us w e z was.board l m g in
      let x = DPsiLaws.handed (d_psi_small was) b v us w e z was.board l m ws h in
      subst (λ (o : Option Reply). DPsiLeaves o v us ws was is number) q
      (record {
        refused = λ i r. absurd (omega (arith, y, r));
        accepted = λ r. subst (λ (o : M.DPsiLeft). DPsiKept o is number × (ws ≡ handed_out o us)) t (d_psi_kept was is (d_psi_small was) m l number p k, x);
      })

pub d_psi_begun : (sizes : Sizes) (u xi : List Float) (was is : DPsiC) (s : DPsi) (m : DPsiMoved) (l : List Float) (number : ℕ) → m.phase ≡ s.phase
    → DPsiStarts (sizes_of sizes) u xi (record { told = told_of m.outcome; run = d_psi_run s l }) → R.Stays sizes u xi was.board l
    → is ≡ d_psi_put m (record was { n = s.sizes.n; n1 = s.sizes.n1; n2 = s.sizes.n2; c = s.c; board = l }) → number ≡ table_number (told_of m.outcome) → DPsiBegins sizes u xi was is number
d_psi_begun sizes u xi was is s m l number p g h e k =
    record {
      left = record { told = told_of m.outcome; run = d_psi_run (record s { phase = m.phase }) l };
      starts = rw p g;
      kept = d_psi_kept was is s m l number e k;
      stays = λ i z. ap (λ (y : DPsiC). y.board) e ∙ h i z;
    }

-- What a machine's answer gives meets the contract of its kind of run, and so does a call that leaves the same; what an accepted start asks, and what d_psi keeps. Assumes nothing.
use Rattle.std.specs.Prelude.{ℕ, zero, suc, ◌≡◌, refl, Bool, true, false, cond, List, eqb, Float, length}
use Rattle.std.proofs.Common.{ap, sym, subst, ◌∙◌}
use Rattle.std.proofs.Math.Option.{Option, none, some}
use Rattle.std.proofs.lemmas.List.{length-replicate}
use Rattle.std.specs.Float.{Format}
use Rattle.model.specs.Vectors.{plus_over}
use Rattle.model.proofs.Facts.{zip_size}
use Rattle.model.specs.Loop.{LoopSettings}
use Rattle.model.specs.Psi.{Sizes}
use Rattle.model.specs.Refusals.{Reply, answer_refusal, loop_refusal, psi_refusal}
use Rattle.machine.specs.Told as Say
use Rattle.machine.specs.Told.{saying}
use Rattle.machine.specs.InnerRun as Inner
use Rattle.machine.specs.InnerAnswer as InnerAnswer
use Rattle.machine.specs.LoopRun as Loop
use Rattle.machine.specs.LoopAnswer as LoopAnswer
use Rattle.machine.specs.LoopMoves.{begins, iteration, inner_solve}
use Rattle.machine.specs.Numbers.{table_number}
use Rattle.machine.specs.PsiRun.{PsiRun, PsiLeft, DPsiPhase, DPsiRun, DPsiLeft}
use Rattle.machine.specs.PsiMoves.{d_psi_ask_f2, d_psi_got_gradient, d_psi_got_f1, d_psi_got_projection, d_psi_got_jf1t, d_psi_got_f2, d_psi_got_jf2t, d_psi_move}
use Rattle.machine.specs.PsiCalls.{DPsiStarts, psi_answer_any, d_psi_kind_at, ruled, d_psi_refuses, handed_out, d_psi_answer, d_psi_answer_any}
use Rattle.machine.proofs.InnerAnswers as InnerLaw
use Rattle.machine.proofs.LoopAnswers as LoopLaw
use Rattle.machine.proofs.PsiLaws as PsiLaw
use Rattle.claim.specs.History.{AnswersAny}
use Rattle.claim.specs.Inner.{inner_runs}
use Rattle.claim.specs.Loop.{loop_runs}
use Rattle.claim.specs.Psi.{psi_runs, d_psi_runs}

module _ (f : Format) where
  -- ---- an inner solve: the machine's answer meets the contract
  pub inner_meets : (r : Inner.Run) (a : Option Reply) (v us : List Float) → let l = InnerAnswer.answer_any f r a v us in AnswersAny (inner_runs f) r a v us (InnerAnswer.plan_after l us) l.told l.run
  unfolding saying InnerAnswer.answer_any Say.given
  inner_meets r none v us = (rw (InnerLaw.wanted_is f r), refl, refl)
  inner_meets r (some a) v us = InnerLaw.answers f r a v us

  -- so does a call that leaves what the machine's does
  pub inner_met : (r : Inner.Run) (a : Option Reply) (v us ws : List Float) (l : Inner.Left) → l ≡ InnerAnswer.answer_any f r a v us → ws ≡ InnerAnswer.plan_after l us → AnswersAny (inner_runs f) r a v us ws l.told l.run
  inner_met r a v us ws l e w = rw (w, e) (inner_meets r a v us)

  -- ---- the loop
  pub loop_meets : (r : Loop.Run) (a : Option Reply) (v us xs : List Float) → let l = LoopAnswer.answer_any f r a v us xs in
      AnswersAny (loop_runs f) r a v (record { u = us; xi = xs }) (record { u = LoopAnswer.plan_after l us; xi = LoopAnswer.xi_after l xs }) l.told l.run
  unfolding saying LoopAnswer.answer_any Say.given
  loop_meets r none v us xs = (rw (LoopLaw.wanted_is f r), refl, refl)
  loop_meets r (some a) v us xs = LoopLaw.answers f r a v us xs

  pub loop_met : (r : Loop.Run) (a : Option Reply) (v us us' xs xs' : List Float) (l : Loop.Left) → l ≡ LoopAnswer.answer_any f r a v us xs → us' ≡ LoopAnswer.plan_after l us → xs' ≡ LoopAnswer.xi_after l xs
      → AnswersAny (loop_runs f) r a v (record { u = us; xi = xs }) (record { u = us'; xi = xs' }) l.told l.run
  loop_met r a v us us' xs xs' l e w x = rw (w, x, e) (loop_meets r a v us xs)

  -- an accepted start asks something
  cond_table : (t : Bool) (l m : Loop.Left) → table_number l.told ≡ 0 → table_number m.told ≡ 0 → table_number (cond t l m).told ≡ 0
  cond_table true l m e d = e
  cond_table false l m e d = d

  begins_asks : (r : Loop.Run) → table_number (begins r).told ≡ 0
  unfolding begins iteration inner_solve
  begins_asks r = cond_table r.set.limited _ _ refl (cond_table r.set.set_y _ _ refl refl)

  pub start_asks : (s : LoopSettings) (u xi : List Float) (r : Loop.Run) → loop_refusal f s u xi ≡ 0 → table_number (LoopAnswer.start f s u xi r).told ≡ 0
  unfolding LoopAnswer.start
  start_asks s u xi r z = rw z (begins_asks (LoopAnswer.begun s u xi r))

  -- ---- psi
  pub psi_meets : (r : PsiRun) (a : Option Reply) (v : List Float) → let l = psi_answer_any f a v r in AnswersAny (psi_runs f) r a v tt tt l.told l.run
  unfolding saying psi_answer_any
  psi_meets r none v = (rw (PsiLaw.psi_wanted f r), refl, refl)
  psi_meets r (some a) v = PsiLaw.psi_answers f r a v

  pub psi_met : (r : PsiRun) (a : Option Reply) (v : List Float) (l : PsiLeft) → l ≡ psi_answer_any f a v r → AnswersAny (psi_runs f) r a v tt tt l.told l.run
  psi_met r a v l e = rw e (psi_meets r a v)

  -- ---- d_psi: y and t have the n1 places of F1
  abbrev pub Own : DPsiRun → Type 0
  Own r = (length r.y ≡ r.sizes.n1) × (length r.t ≡ r.sizes.n1)

  over_size : (c : Float) (n : ℕ) (a b : List Float) → length a ≡ n → length b ≡ n → length (plus_over f c a b) ≡ n
  unfolding plus_over
  over_size c n a b p q = zip_size _ n a b p q

  cond_own : (t : Bool) (l m : DPsiLeft) → Own l.run → Own m.run → Own (cond t l m).run
  cond_own true l m a b = a
  cond_own false l m a b = b

  f2_own : (r : DPsiRun) → Own r → Own (d_psi_ask_f2 f r).run
  unfolding d_psi_ask_f2
  f2_own r o = cond_own (eqb r.sizes.n2 0) _ _ o o

  move_own : (r : DPsiRun) (p : DPsiPhase) (a : Reply) (v : List Float) (lent : Bool) → Own r → answer_refusal (d_psi_kind_at r.sizes p) a (length v) lent ≡ 0 → Own (d_psi_move f p a v r).run
  unfolding d_psi_move d_psi_kind_at d_psi_got_gradient d_psi_got_f1 d_psi_got_projection d_psi_got_jf1t d_psi_got_f2 d_psi_got_jf2t
  move_own r DPsiPhase.over (Reply.failure c) v lent o e = o
  move_own r DPsiPhase.over a v lent o e = o
  move_own r DPsiPhase.gradient (Reply.failure c) v lent o e = o
  move_own r DPsiPhase.gradient Reply.vector v lent o e = cond_own (eqb r.sizes.n1 0) _ _ (f2_own _ o) o
  move_own r DPsiPhase.gradient a v lent o e = o
  move_own r DPsiPhase.f1 (Reply.failure c) v lent o e = o
  move_own r DPsiPhase.f1 Reply.vector v lent o e = (o.0, over_size r.c r.sizes.n1 v r.y (PsiLaw.accepted_length r.sizes.n1 (length v) lent e) o.0)
  move_own r DPsiPhase.f1 a v lent o e = o
  move_own r DPsiPhase.project_c (Reply.failure c) v lent o e = o
  move_own r DPsiPhase.project_c Reply.vector v lent o e = o
  move_own r DPsiPhase.project_c a v lent o e = o
  move_own r DPsiPhase.jf1t (Reply.failure c) v lent o e = o
  move_own r DPsiPhase.jf1t Reply.vector v lent o e = f2_own _ o
  move_own r DPsiPhase.jf1t a v lent o e = o
  move_own r DPsiPhase.f2 (Reply.failure c) v lent o e = o
  move_own r DPsiPhase.f2 Reply.vector v lent o e = o
  move_own r DPsiPhase.f2 a v lent o e = o
  move_own r DPsiPhase.jf2t (Reply.failure c) v lent o e = o
  move_own r DPsiPhase.jf2t Reply.vector v lent o e = o
  move_own r DPsiPhase.jf2t a v lent o e = o

  pub d_psi_owns : (r : DPsiRun) (a : Option Reply) (v us : List Float) → Own r → Own (d_psi_answer_any f a v us r).run
  unfolding d_psi_answer_any d_psi_answer ruled
  d_psi_owns r none v us o = o
  d_psi_owns r (some a) v us o = by (d_psi_refuses r a (length v) (length us)) refl
    where
      by : (k : ℕ) → d_psi_refuses r a (length v) (length us) ≡ k → Own (ruled k r (d_psi_move f r.phase a v r)).run
      by zero e = move_own r r.phase a v (eqb (length us) r.sizes.n) o (PsiLaw.accepted_at d_psi_kind_at r.sizes r.phase a (length v) (eqb (length us) r.sizes.n) e).1
      by (suc k) e = o

  -- so they have where a start is accepted
  pub begun_owns : (s : Sizes) (u xi : List Float) (l : DPsiLeft) → DPsiStarts s u xi l → table_number l.told ≡ 0 → Own l.run
  begun_owns s u xi l starts e = by (psi_refusal s (length u) (length xi)) refl
    where
      by : (n : ℕ) → psi_refusal s (length u) (length xi) ≡ n → Own l.run
      by zero z = subst (λ (x : DPsiLeft). Own x.run) (sym (starts.accepted z)) ((PsiLaw.started s (length u) xi z).multipliers, length-replicate _ _)
      by (suc m) z = let q : ◌≡◌ {A = ℕ} (suc m) 0 = sym (ap table_number ((starts.refused m z).0)) ∙ e in absurd cc

  pub d_psi_meets : (r : DPsiRun) (a : Option Reply) (v us : List Float) → Own r → let l = d_psi_answer_any f a v us r in AnswersAny (d_psi_runs f) r a v us (handed_out l us) l.told l.run
  unfolding saying d_psi_answer_any Say.given
  d_psi_meets r none v us o = (rw (PsiLaw.d_psi_wanted f r), refl, refl)
  d_psi_meets r (some a) v us o = PsiLaw.d_psi_answers f r a v us o.1

  pub d_psi_met : (r : DPsiRun) (a : Option Reply) (v us ws : List Float) (l : DPsiLeft) → Own r → l ≡ d_psi_answer_any f a v us r → ws ≡ handed_out l us → AnswersAny (d_psi_runs f) r a v us ws l.told l.run
  d_psi_met r a v us ws l o e w = rw (w, e) (d_psi_meets r a v us o)

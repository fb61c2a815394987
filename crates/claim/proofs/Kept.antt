-- The claim holds whatever way a run is kept: by value, in place, or for C. Assumes nothing.
use Rattle.std.specs.Prelude.{◌≡◌, List, [], ◌∷◌, Float}
use Rattle.std.proofs.Common.{ap, sym, ◌∙◌, subst}
use Rattle.std.specs.Float.{Format}
use Rattle.model.specs.State.{Settings}
use Rattle.model.specs.Loop.{LoopSettings}
use Rattle.model.specs.Psi.{Sizes}
use Rattle.machine.specs.Keeping.{Input, Machine, Keeping, Begins, Seen, Answered, Lasts}
use Rattle.machine.specs.InnerRun as Inner
use Rattle.machine.specs.InnerAnswer as InnerAnswer
use Rattle.machine.specs.LoopRun as Loop
use Rattle.machine.specs.LoopAnswer as LoopAnswer
use Rattle.machine.specs.Numbers.{table_number}
use Rattle.machine.specs.Told.{Told}
use Rattle.machine.specs.PsiRun.{Asked, PsiRun, DPsiRun}
use Rattle.machine.specs.Machines.{Places, Given, inner_machine, loop_machine, psi_start, psi_machine, d_psi_start, d_psi_machine}
use Rattle.machine.proofs.InnerAnswers as InnerLaw
use Rattle.machine.proofs.LoopAnswers as LoopLaw
use Rattle.machine.proofs.MachineLaws as MachineLaw
use Rattle.claim.specs.History.{Runs, Call, Meets, AnswersAny, History, begun, more}
use Rattle.claim.specs.Inner.{inner_runs, InnerClaim}
use Rattle.claim.specs.Loop.{loop_runs, LoopClaim}
use Rattle.claim.specs.Psi.{psi_runs, PsiClaim, d_psi_runs, DPsiClaim}
use Rattle.claim.specs.Kept.{Same, kept_call, kept_calls, last_state}
use Rattle.claim.proofs.InnerProof.{inner_claim}
use Rattle.claim.proofs.LoopProof.{loop_claim}
use Rattle.claim.proofs.PsiProof.{psi_claim, d_psi_claim}
use Rattle.claim.proofs.Meets.{inner_meets, loop_meets, psi_meets, Own, begun_owns, d_psi_meets, d_psi_owns}

-- Mine is what the machine asks of its runs and keeps
module _ {Q H : Type 0} {k : Runs Q H} {m : Machine} (same : Same k m) (kept : Keeping m) (Mine : m.Run → Type 0)
    (meets : (r : m.Run) (i : Input m.Lent) → Mine r → AnswersAny k (same.run r) i.reply i.vector (same.lent i.lent) (same.lent (m.writes r i)) (same.outcome (m.tells r i)) (same.run (m.leaves r i)))
    (keeps : (r : m.Run) (i : Input m.Lent) → Mine r → Mine (m.leaves r i)) where
  one : (x : kept.State) (i : Input m.Lent) (o : Seen kept) → Mine (kept.run x) → Answered kept x i o → Meets k (same.run (kept.run x)) (kept_call same kept i o)
  one x i o w a = rw (a.told, a.run, a.wrote) (meets (kept.run x) i w)

  pub history : (r : k.Run) (x : kept.State) (cs : List (Call k)) (is : List (Input m.Lent)) (os : List (Seen kept)) → Mine (kept.run x) → Lasts kept x is os → History k r cs (same.run (kept.run x))
      → History k r (kept_calls same kept is os cs) (same.run (kept.run (last_state same kept x os)))
  history r x cs [] [] w l h = h
  history r x cs [] (o ∷ os) w l h = absurd l
  history r x cs (i ∷ is) [] w l h = absurd l
  history r x cs (i ∷ is) (o ∷ os) w l h =
      history r o.state (kept_call same kept i o ∷ cs) is os (subst Mine (sym l.0.run) (keeps (kept.run x) i w)) l.1 (more h (kept_call same kept i o) (one x i o w l.0))

module _ (f : Format) where
  -- ---- an inner solve
  abbrev pub inner_same : Same (inner_runs f) (inner_machine f)
  inner_same = record { run = λ r. r; lent = λ us. us; outcome = λ t. t }

  pub inner_kept : (kept : Keeping (inner_machine f)) (w : Given Settings Inner.Run) (t : Inner.Told) (x : kept.State) → Begins kept w t x → table_number t ≡ 0
      → (is : List (Input (List Float))) (os : List (Seen kept)) → Lasts kept x is os
      → InnerClaim f w.set w.u (kept.run x) (kept_calls inner_same kept is os []) (kept.run (last_state inner_same kept x os))
  inner_kept kept w t x b z is os l =
      let a = InnerAnswer.start w.set w.u w.before in
      subst (λ (r : Inner.Run). InnerClaim f w.set w.u r (kept_calls inner_same kept is os []) (kept.run (last_state inner_same kept x os))) (sym b.run)
      (inner_claim f w.set w.u a (InnerLaw.starts f w.set w.u w.before) (sym (ap table_number b.told) ∙ z)
      (history inner_same kept (λ r. Unit {0}) (λ r i o. inner_meets f r i.reply i.vector i.lent) (λ r i o. tt) a.run x [] is os tt l
      (subst (λ (r : Inner.Run). History (inner_runs f) a.run [] r) (sym b.run) begun)))

  -- ---- the loop
  abbrev pub loop_same : Same (loop_runs f) (loop_machine f)
  loop_same = record { run = λ r. r; lent = λ w. w; outcome = λ t. t }

  pub loop_kept : (kept : Keeping (loop_machine f)) (w : Given LoopSettings Loop.Run) (t : Loop.Told) (x : kept.State) → Begins kept w t x → table_number t ≡ 0
      → (is : List (Input Places)) (os : List (Seen kept)) → Lasts kept x is os
      → LoopClaim f w.set w.u w.xi (kept.run x) (kept_calls loop_same kept is os []) (kept.run (last_state loop_same kept x os))
  loop_kept kept w t x b z is os l =
      let a = LoopAnswer.start f w.set w.u w.xi w.before in
      subst (λ (r : Loop.Run). LoopClaim f w.set w.u w.xi r (kept_calls loop_same kept is os []) (kept.run (last_state loop_same kept x os))) (sym b.run)
      (loop_claim f w.set w.u w.xi a (LoopLaw.starts f w.set w.u w.xi w.before) (sym (ap table_number b.told) ∙ z)
      (history loop_same kept (λ r. Unit {0}) (λ r i o. loop_meets f r i.reply i.vector i.lent.u i.lent.xi) (λ r i o. tt) a.run x [] is os tt l
      (subst (λ (r : Loop.Run). History (loop_runs f) a.run [] r) (sym b.run) begun)))

  -- ---- psi
  abbrev pub psi_same : Same (psi_runs f) (psi_machine f)
  psi_same = record { run = λ r. r; lent = λ w. w; outcome = λ t. t }

  pub psi_kept : (kept : Keeping (psi_machine f)) (w : Given Sizes PsiRun) (t : Told Asked Float) (x : kept.State) → Begins kept w t x → table_number t ≡ 0
      → (is : List (Input (Unit {0}))) (os : List (Seen kept)) → Lasts kept x is os
      → PsiClaim f w.set w.u w.xi (kept.run x) (kept_calls psi_same kept is os []) (kept.run (last_state psi_same kept x os))
  psi_kept kept w t x b z is os l =
      let a = psi_start w.set w.u w.xi w.before in
      subst (λ (r : PsiRun). PsiClaim f w.set w.u w.xi r (kept_calls psi_same kept is os []) (kept.run (last_state psi_same kept x os))) (sym b.run)
      (psi_claim f w.set w.u w.xi a (MachineLaw.psi_starts w.set w.u w.xi w.before) (sym (ap table_number b.told) ∙ z)
      (history psi_same kept (λ r. Unit {0}) (λ r i o. psi_meets f r i.reply i.vector) (λ r i o. tt) a.run x [] is os tt l
      (subst (λ (r : PsiRun). History (psi_runs f) a.run [] r) (sym b.run) begun)))

  -- ---- d_psi
  abbrev pub d_psi_same : Same (d_psi_runs f) (d_psi_machine f)
  d_psi_same = record { run = λ r. r; lent = λ w. w; outcome = λ t. t }

  pub d_psi_kept : (kept : Keeping (d_psi_machine f)) (w : Given Sizes DPsiRun) (t : Told Asked (Unit {0})) (x : kept.State) → Begins kept w t x → table_number t ≡ 0
      → (is : List (Input (List Float))) (os : List (Seen kept)) → Lasts kept x is os
      → DPsiClaim f w.set w.u w.xi (kept.run x) (kept_calls d_psi_same kept is os []) (kept.run (last_state d_psi_same kept x os))
  d_psi_kept kept w t x b z is os l =
      let a = d_psi_start w.set w.u w.xi w.before in
      let starts = MachineLaw.d_psi_starts w.set w.u w.xi w.before in
      let asks = sym (ap table_number b.told) ∙ z in
      subst (λ (r : DPsiRun). DPsiClaim f w.set w.u w.xi r (kept_calls d_psi_same kept is os []) (kept.run (last_state d_psi_same kept x os))) (sym b.run)
      (d_psi_claim f w.set w.u w.xi a starts asks
      (history d_psi_same kept (Own f) (λ r i o. d_psi_meets f r i.reply i.vector i.lent o) (λ r i o. d_psi_owns f r i.reply i.vector i.lent o) a.run x [] is os
      (subst (Own f) (sym b.run) (begun_owns f w.set w.u w.xi a starts asks)) l
      (subst (λ (r : DPsiRun). History (d_psi_runs f) a.run [] r) (sym b.run) begun)))

-- Every list of calls for C of a loop meets the claim. Assumes nothing.
use Rattle.std.proofs.Common.{◌≡◌, refl, ap, sym, subst, ◌∙◌, ℕ, zero, suc, List, length, Float}
use Rattle.std.proofs.Math.Option.{Option, none, some}
use Rattle.std.specs.Float.{binary64}
use Rattle.model.specs.Loop.{LoopSettings}
use Rattle.model.specs.Refusals.{Reply}
use Rattle.machine.specs.Told as Say
use Rattle.machine.specs.Waits.{any_refusal}
use Rattle.machine.specs.Numbers.{table_number}
use Rattle.machine.specs.LoopRun.{Run, Left}
use Rattle.machine.specs.LoopAnswer.{wanted_by, start, turns, refused_by, answer, answer_any, plan_after, xi_after}
use Rattle.machine.specs.LoopCalls.{lent_right}
use Rattle.machine.specs.Machines.{Places}
use Rattle.machine.proofs.LoopAnswers as LoopLaw
use Rattle.alm_engine.specs.LoopRuns.{loop_run}
use Rattle.alm_fields.specs.declared.fields.AlmC.{AlmC}
use Rattle.alm_fields.specs.Fields.{Seen, loop_run_at, refusal_at, answer_at, Leaves}
use Rattle.claim.specs.History.{AnswersAny, History}
use Rattle.claim.specs.Loop.{loop_runs, LoopClaim}
use Rattle.claim.specs.ForC.{CallC, Meet, ClaimC}
use Rattle.claim.proofs.ForC.{Sound, claim_for_c}
use Rattle.claim.proofs.LoopProof.{loop_claim}
use Rattle.claim.proofs.Meets.{loop_met}
use Rattle.whole_runs.specs.ForC.{loop_c, LoopBegun}

-- where the table refuses, the machine leaves the run as it was
turned : (r : Run) (a : Option Reply) (v us xs : List Float) (m : ℕ) → any_refusal (wanted_by r) a (length v) (lent_right r.set (length us) (length xs)) ≡ suc m → answer_any binary64 r a v us xs ≡ turns r (suc m)
unfolding any_refusal answer_any answer refused_by
turned r none v us xs m e = ap (turns r) e
turned r (some a) v us xs m e = rw e refl

module _ (was : AlmC) (c : CallC AlmC Places) (l : Leaves c.reply c.vector c.lent.u c.wrote.u c.lent.xi c.wrote.xi was c.run c.number) where
  abbrev here : Run
  here = loop_run_at was.inner was.alm was.board

  abbrev left : Left
  left = answer_at was c.reply c.vector c.lent.u c.lent.xi

  -- a call leaves what the machine does
  record Same : Type 0 where
    run : loop_run_at c.run.inner c.run.alm c.run.board ≡ left.run
    plan : c.wrote.u ≡ plan_after left c.lent.u
    xi : c.wrote.xi ≡ xi_after left c.lent.xi
    number : c.number ≡ table_number left.told

  same : Same
  unfolding loop_run Say.given
  same = by (refusal_at was c.reply (length c.vector) (length c.lent.u) (length c.lent.xi)) refl
    where
      by : (m : ℕ) → refusal_at was c.reply (length c.vector) (length c.lent.u) (length c.lent.xi) ≡ m → Same
      by zero e =
          let h = l.accepted e in
          record { run = ap (λ (x : Seen). x.run) h.0; plan = h.1; xi = h.2; number = ap (λ (x : Seen). x.number) h.0 }
      by (suc m) e =
          let h = l.refused m e in
          let t = turned here c.reply c.vector c.lent.u c.lent.xi m e in
          record {
            run = ap (λ (x : AlmC). loop_run_at x.inner x.alm x.board) h.1 ∙ ap (λ (x : Left). x.run) (sym t);
            plan = h.2 ∙ ap (λ (x : Left). plan_after x c.lent.u) (sym t);
            xi = h.3 ∙ ap (λ (x : Left). xi_after x c.lent.xi) (sym t);
            number = h.0 ∙ ap (λ (x : Left). table_number x.told) (sym t);
          }

loop_sound : Sound loop_c (λ r. Unit {0})
loop_sound =
    record {
      meets = λ was c o l.
          let s = same was c l in
          subst (λ (r : Run). AnswersAny (loop_runs binary64) (here was c l) c.reply c.vector c.lent c.wrote (left was c l).told r) (sym s.run)
          (loop_met binary64 (here was c l) c.reply c.vector c.lent.u c.wrote.u c.lent.xi c.wrote.xi (left was c l) refl s.plan s.xi);
      owns = λ was c o l. tt;
      numbered = λ was c l. (same was c l).number;
    }

-- After a start that got the number 0, whatever list of calls follows.
pub loop_c_claim : (set : LoopSettings) (u xi : List Float) (r₀ : Run) (was is : AlmC) → LoopBegun set u xi r₀ was is
    → (cs : List (CallC AlmC Places)) → Meet loop_c is cs → ClaimC loop_c (LoopClaim binary64 set u xi) is cs
loop_c_claim set u xi r₀ was is b cs m =
    let a : Left = start binary64 set u xi r₀ in
    let e : loop_run_at is.inner is.alm is.board ≡ a.run = ap (λ (x : Seen). x.run) b in
    claim_for_c loop_c (λ r. Unit {0}) loop_sound is
    (λ ds t h.
    subst (λ (r : Run). LoopClaim binary64 set u xi r ds t) (sym e)
    (loop_claim binary64 set u xi a (LoopLaw.starts binary64 set u xi r₀) (sym (ap (λ (x : Seen). x.number) b)) (subst (λ (r : Run). History (loop_runs binary64) r ds t) e h)))
    tt cs m

-- Every list of calls for C of an inner solve meets the claim. Assumes nothing.
use Rattle.std.proofs.Common.{◌≡◌, refl, ap, sym, subst, ◌∙◌, ℕ, zero, suc, List, length, eqb, Float}
use Rattle.std.proofs.Math.Option.{Option, none, some}
use Rattle.std.specs.Float.{binary64}
use Rattle.model.specs.Refusals.{Reply}
use Rattle.machine.specs.Told as Say
use Rattle.machine.specs.Waits.{any_refusal}
use Rattle.machine.specs.Numbers.{table_number}
use Rattle.machine.specs.InnerRun.{Run, Left}
use Rattle.machine.specs.InnerAnswer.{wanted_by, start, turns, refused_by, answer, answer_any, plan_after}
use Rattle.machine.proofs.InnerAnswers as InnerLaw
use Rattle.panoc_engine.specs.declared.panoc_cache.Settings.{Settings}
use Rattle.panoc_engine.specs.Values.{settings_of}
use Rattle.panoc_engine.specs.Runs.{run_of}
use Rattle.panoc_engine.specs.Blank.{blank}
use Rattle.panoc_fields.specs.declared.fields.InnerC.{InnerC}
use Rattle.panoc_fields.specs.Fields.{Seen, run_at, refusal_at, answer_at, Leaves}
use Rattle.claim.specs.History.{AnswersAny, History}
use Rattle.claim.specs.Inner.{inner_runs, InnerClaim}
use Rattle.claim.specs.ForC.{CallC, Meet, ClaimC}
use Rattle.claim.proofs.ForC.{Sound, claim_for_c}
use Rattle.claim.proofs.InnerProof.{inner_claim}
use Rattle.claim.proofs.Meets.{inner_met}
use Rattle.whole_runs.specs.ForC.{inner_c, Begun}

-- where the table refuses, the machine leaves the run as it was
turned : (r : Run) (a : Option Reply) (v us : List Float) (m : ℕ) → any_refusal (wanted_by r) a (length v) (eqb (length us) r.set.n) ≡ suc m → answer_any binary64 r a v us ≡ turns r (suc m)
unfolding any_refusal answer_any answer refused_by
turned r none v us m e = ap (turns r) e
turned r (some a) v us m e = rw e refl

module _ (was : InnerC) (c : CallC InnerC (List Float)) (l : Leaves c.reply c.vector c.lent c.wrote was c.run c.number) where
  abbrev left : Left
  left = answer_at was c.reply c.vector c.lent

  -- a call leaves what the machine does
  record Same : Type 0 where
    run : run_at c.run.inner c.run.board ≡ left.run
    wrote : c.wrote ≡ plan_after left c.lent
    number : c.number ≡ table_number left.told

  same : Same
  unfolding run_of Say.given
  same = by (refusal_at was c.reply (length c.vector) (length c.lent)) refl
    where
      by : (m : ℕ) → refusal_at was c.reply (length c.vector) (length c.lent) ≡ m → Same
      by zero e = let h = l.accepted e in record { run = ap (λ (x : Seen). x.run) h.0; wrote = h.1; number = ap (λ (x : Seen). x.number) h.0 }
      by (suc m) e =
          let h = l.refused m e in
          let t = turned (run_at was.inner was.board) c.reply c.vector c.lent m e in
          record {
            run = ap (λ (x : InnerC). run_at x.inner x.board) h.1 ∙ ap (λ (x : Left). x.run) (sym t);
            wrote = h.2 ∙ ap (λ (x : Left). plan_after x c.lent) (sym t);
            number = h.0 ∙ ap (λ (x : Left). table_number x.told) (sym t);
          }

inner_sound : Sound inner_c (λ r. Unit {0})
inner_sound =
    record {
      meets = λ was c o l.
          let s = same was c l in
          subst (λ (r : Run). AnswersAny (inner_runs binary64) (run_at was.inner was.board) c.reply c.vector c.lent c.wrote (left was c l).told r) (sym s.run)
          (inner_met binary64 (run_at was.inner was.board) c.reply c.vector c.lent c.wrote (left was c l) refl s.wrote);
      owns = λ was c o l. tt;
      numbered = λ was c l. (same was c l).number;
    }

-- After a start that got the number 0, whatever list of calls follows.
pub inner_c_claim : (set : Settings) (u : List Float) (was is : InnerC) → Begun set u was is → (cs : List (CallC InnerC (List Float))) → Meet inner_c is cs → ClaimC inner_c (InnerClaim binary64 (settings_of set) u) is cs
inner_c_claim set u was is b cs m =
    let a : Left = start (settings_of set) u (run_of (blank set) was.board) in
    let e : run_at is.inner is.board ≡ a.run = ap (λ (x : Seen). x.run) b in
    claim_for_c inner_c (λ r. Unit {0}) inner_sound is
    (λ ds t h.
    subst (λ (r : Run). InnerClaim binary64 (settings_of set) u r ds t) (sym e)
    (inner_claim binary64 (settings_of set) u a (InnerLaw.starts binary64 (settings_of set) u (run_of (blank set) was.board)) (sym (ap (λ (x : Seen). x.number) b)) (subst (λ (r : Run). History (inner_runs binary64) r ds t) e h)))
    tt cs m

-- What is put into the fields is seen there. Assumes nothing.
use Rattle.std.proofs.Common.{◌≡◌, refl, ap, ◌∙◌, Bool, ℕ, List, Float}
use Rattle.machine.specs.Numbers.{question_number, phase_number, flag_number, flag_of, status_number}
use Rattle.machine.proofs.NumberLaws.{flag_back}
use Rattle.machine.specs.InnerRun as M
use Rattle.panoc_engine.specs.declared.panoc_cache.ExitStatus.{ExitStatus}
use Rattle.panoc_engine.specs.declared.panoc_cache.Phase.{Phase}
use Rattle.panoc_engine.specs.declared.panoc_cache.Phase.TheVariants as P
use Rattle.panoc_engine.specs.declared.panoc_cache.Question.{Question}
use Rattle.panoc_engine.specs.declared.panoc_cache.SolverStatus.{SolverStatus}
use Rattle.panoc_engine.specs.declared.panoc_cache.Moved.{Moved}
use Rattle.panoc_engine.specs.declared.panoc_cache.Moved.TheVariants.{To, Refused}
use Rattle.panoc_engine.specs.declared.panoc_cache.Tested.{Tested}
use Rattle.panoc_engine.specs.declared.outcome.Outcome.{Outcome}
use Rattle.panoc_engine.specs.declared.outcome.Refusal.{Refusal}
use Rattle.panoc_engine.specs.declared.outcome.Outcome.TheVariants as O
use Rattle.panoc_engine.specs.Told.{refusal_number}
use Rattle.panoc_engine.specs.Values.{phase_of, status_of, asked_of, asked_at}
use Rattle.panoc_engine.specs.Runs.{run_of, leaves, moved, tested, ended}
use Rattle.panoc_fields.specs.declared.fields.InnerFields.{InnerFields}
use Rattle.panoc_fields.specs.Fields.{Seen, solve_at, seen, exact, telling, status_at}
use Rattle.panoc_fields.proofs.NumberLaws.{phase_back, status_back}

module _ (was : InnerFields) (l : List Float) where
  -- a question asked at a phase
  pub goes : (p : Phase) (q : Question) (m : ℕ) → asked_of q ≡ asked_at p (flag_of was.forget) → m ≡ question_number (asked_of q) → seen 0 (telling p 0 m was) l ≡ exact (moved (solve_at was) (To p) l) was.end
  unfolding run_of leaves
  goes p q m e i =
      rw (i, e)
      (ap
      (λ (x : Phase).
      let t : Seen =
      record {
        number = 0;
        outcome = 0;
        told = question_number (asked_at p (flag_of was.forget));
        phase = phase_number (phase_of p);
        end = was.end;
        run = run_of (record (solve_at was) { phase = x }) l;
      } in
      t) (phase_back p))

  pub stops : (k : Refusal) (m : ℕ) → m ≡ refusal_number k → seen m (telling P.Over 2 m was) l ≡ exact (moved (solve_at was) (Refused k) l) was.end
  unfolding run_of leaves
  stops k m e = rw e refl

  pub fails : (c : ℕ) → seen 9 (telling P.Over 3 c was) l ≡ exact (ended (solve_at was) (O.Failed c) l) was.end
  unfolding run_of
  fails c = refl

  pub ends : (e : SolverStatus) (m : ℕ) → m ≡ status_number (status_of e.exit_status)
      → seen 0 (telling P.Over 1 m (record was { end = record { iterations = e.iterations.0; norm_fpr = e.norm_fpr; cost_value = e.cost_value } })) l ≡ exact (ended (solve_at was) (O.Ended e) l) was.end
  unfolding run_of
  ends e m i = rw i refl

  pub says : (q : Question) (m : ℕ) → m ≡ question_number (asked_of q) → seen 0 (telling P.Over 0 m was) l ≡ exact (ended (solve_at was) (O.Asked q) l) was.end
  unfolding run_of
  says q m e = rw e refl

  pub refuses : (k : Refusal) → moved (solve_at was) (Refused k) l ≡ ended (solve_at was) (O.Refused k) l
  unfolding run_of leaves
  refuses k = refl

pub flag_kept : (b : Bool) (m : ℕ) → m ≡ flag_number b → flag_of m ≡ b
flag_kept b m e = ap flag_of e ∙ flag_back b

pub status_kept : (e : ExitStatus) (m : ℕ) → m ≡ status_number (status_of e) → status_at m ≡ e
status_kept e m i = ap status_at i ∙ status_back e

-- the same of what a function has put there
module _ (was is : InnerFields) (l : List Float) where
  pub goes_to : (m : Moved) (p : Phase) (q : Question) (f : Bool) (k : ℕ) → m ≡ To p → f ≡ flag_of was.forget → asked_of q ≡ asked_at p f → k ≡ question_number (asked_of q) → is ≡ telling p 0 k was
      → seen 0 is l ≡ exact (moved (solve_at was) m l) was.end
  goes_to m p q f k z b e i t = rw (z, t) (goes was l p q k (e ∙ ap (asked_at p) b) i)

  module _ (o : Outcome Question SolverStatus) where
    pub ends_so : (e : SolverStatus) (k : ℕ) → o ≡ O.Ended e → k ≡ status_number (status_of e.exit_status)
        → is ≡ telling P.Over 1 k (record was { end = record { iterations = e.iterations.0; norm_fpr = e.norm_fpr; cost_value = e.cost_value } }) → seen 0 is l ≡ exact (ended (solve_at was) o l) was.end
    ends_so e k z i t = rw (z, t) (ends was l e k i)

    pub refuses_so : (k : Refusal) (r : ℕ) → o ≡ O.Refused k → seen r is l ≡ exact (moved (solve_at was) (Refused k) l) was.end → seen r is l ≡ exact (ended (solve_at was) o l) was.end
    refuses_so k r z t = rw z (t ∙ ap (λ (x : M.Left). exact x was.end) (refuses was l k))

    pub fails_so : (c : ℕ) → o ≡ O.Failed c → is ≡ telling P.Over 3 c was → seen 9 is l ≡ exact (ended (solve_at was) o l) was.end
    fails_so c z t = rw (z, t) (fails was l c)

    pub says_so : (q : Question) (k : ℕ) → o ≡ O.Asked q → k ≡ question_number (asked_of q) → is ≡ telling P.Over 0 k was → seen 0 is l ≡ exact (ended (solve_at was) o l) was.end
    says_so q k z i t = rw (z, t) (says was l q k i)

  pub tests_so : (r : Tested) (k m : ℕ) → m ≡ status_number (status_of r.counts.status)
      → seen k is l
      ≡ exact (moved (solve_at (record was { norms = r.norms; left = r.counts.left; iterations = r.counts.iterations.0; status = m; rounds = r.counts.rounds })) r.moved l) was.end
      → seen k is l ≡ exact (tested (solve_at was) r l) was.end
  tests_so r k m i t =
      t
      ∙ ap
      (λ (x : ExitStatus).
      exact
      (moved (record (solve_at was) { norms = r.norms; counts = record { left = r.counts.left; iterations = record { 0 = r.counts.iterations.0 }; status = x; rounds = r.counts.rounds } })
      r.moved l) was.end) (status_kept r.counts.status m i)

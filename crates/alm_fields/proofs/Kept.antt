-- What is put into the fields is seen there. Assumes nothing.
use Rattle.std.proofs.Common.{◌≡◌, refl, ap, ◌∙◌, ℕ, List, Float}
use Rattle.model.specs.Loop.{inner_settings}
use Rattle.machine.specs.Numbers.{status_number}
use Rattle.machine.specs.LoopNumbers.{question_number}
use Rattle.machine.specs.LoopRun as L
use Rattle.machine.specs.LoopMoves as Move
use Rattle.panoc_engine.specs.declared.panoc_cache.ExitStatus.{ExitStatus}
use Rattle.panoc_engine.specs.declared.outcome.Outcome.{Outcome}
use Rattle.panoc_engine.specs.declared.outcome.Refusal.{Refusal}
use Rattle.panoc_engine.specs.declared.outcome.Outcome.TheVariants as O
use Rattle.panoc_engine.specs.Told.{refusal_number}
use Rattle.panoc_engine.specs.Values.{status_of}
use Rattle.panoc_fields.specs.declared.fields.InnerFields.{InnerFields}
use Rattle.panoc_fields.proofs.NumberLaws.{status_back}
use Rattle.alm_engine.specs.declared.alm_cache.AlmPhase.{AlmPhase}
use Rattle.alm_engine.specs.declared.alm_cache.AlmPhase.TheVariants as P
use Rattle.alm_engine.specs.declared.alm_cache.AlmMoved.{AlmMoved}
use Rattle.alm_engine.specs.declared.alm_cache.AlmMoved.TheVariants.{To, Refused}
use Rattle.alm_engine.specs.declared.alm_cache.AlmQuestion.{AlmQuestion}
use Rattle.alm_engine.specs.declared.alm_cache.AlmOptimizerStatus.{AlmOptimizerStatus}
use Rattle.alm_engine.specs.declared.alm_cache.AlmCounts.{AlmCounts}
use Rattle.alm_engine.specs.Values.{loop_asked_of, loop_asked_at}
use Rattle.alm_engine.specs.LoopRuns.{loop_run, loop_leaves, loop_moved, loop_ended}
use Rattle.alm_fields.specs.declared.fields.AlmFields.{AlmFields}
use Rattle.alm_fields.specs.Fields.{alm_at, loop_run_at, seen, exact, saying, going, counting}

module _ (i : InnerFields) (a : AlmFields) (l : List Float) where
  -- an inner solve begins
  pub begins : seen 0 (saying 0 0 (record i { phase = 1; n = a.n; max_iter = a.max_inner_iterations; limited = a.limited; tolerance = a.tolerance; has_akkt = 1; akkt_tolerance = a.numbers.akkt_tolerance; left = 0; iterations = 0; status = 0; rounds = 0; forget = 1 }))
      (going P.Inner a) l ≡ exact (Move.inner_solve (loop_run_at i a l)) a.end
  unfolding loop_run inner_settings Move.inner_solve
  begins = refl

  pub begun_so : (p h s f q : ℕ) (i' : InnerFields) (a' : AlmFields) → p ≡ 1 → h ≡ 1 → s ≡ 0 → f ≡ 1 → q ≡ 0
      → i' ≡ saying 0 q (record i { phase = p; n = a.n; max_iter = a.max_inner_iterations; limited = a.limited; tolerance = a.tolerance; has_akkt = h; akkt_tolerance = a.numbers.akkt_tolerance; left = 0; iterations = 0; status = s; rounds = 0; forget = f })
      → a' ≡ going P.Inner a → seen 0 i' a' l ≡ exact (Move.inner_solve (loop_run_at i a l)) a.end
  begun_so p h s f q i' a' e1 e2 e3 e4 e5 t u = rw (t, u, e1, e2, e3, e4, e5) begins

  begins_at : Move.inner_solve (loop_run_at i a l) ≡ loop_leaves (To P.Inner) (loop_run_at i a l)
  unfolding loop_leaves
  begins_at = refl

  -- a question asked at a phase of the loop's own
  goes : (p : AlmPhase) (m : ℕ) → (p ≡ P.Inner → ⊥) → m ≡ question_number (loop_asked_at p) → seen 0 (saying 0 m i) (going p a) l ≡ exact (loop_leaves (To p) (loop_run_at i a l)) a.end
  unfolding loop_run loop_leaves
  goes P.Over m h e = rw e refl
  goes P.Time m h e = rw e refl
  goes P.ProjectY m h e = rw e refl
  goes P.Inner m h e = absurd (h refl)
  goes P.F1 m h e = rw e refl
  goes P.ProjectC m h e = rw e refl
  goes P.F2 m h e = rw e refl
  goes P.LastCost m h e = rw e refl

  pub stops : (k : Refusal) (m : ℕ) → m ≡ refusal_number k → seen m (saying 2 m i) (going P.Over a) l ≡ exact (loop_moved (alm_at i a) (Refused k) l) a.end
  unfolding loop_run loop_leaves
  stops k m e = rw e refl

  refuses : (k : Refusal) → loop_moved (alm_at i a) (Refused k) l ≡ loop_ended (alm_at i a) (O.Refused k) l
  unfolding loop_run loop_leaves
  refuses k = refl

  fails : (c : ℕ) → seen 9 (saying 3 c i) (going P.Over a) l ≡ exact (loop_ended (alm_at i a) (O.Failed c) l) a.end
  unfolding loop_run
  fails c = refl

  abbrev ending : AlmOptimizerStatus → AlmFields
  ending e =
      record a {
        end =
            record {
              outer_iterations = e.num_outer_iterations.0;
              inner_iterations = e.num_inner_iterations.0;
              norm_fpr = e.last_problem_norm_fpr;
              delta_y_norm = e.delta_y_norm;
              f2_norm = e.f2_norm;
              penalty = e.penalty;
              cost = e.cost;
            };
      }

  ends : (e : AlmOptimizerStatus) (m : ℕ) → m ≡ status_number (status_of e.exit_status) → seen 0 (saying 1 m i) (going P.Over (ending e)) l ≡ exact (loop_ended (alm_at i a) (O.Ended e) l) a.end
  unfolding loop_run
  ends e m q = rw q refl

  says : (q : AlmQuestion) (m : ℕ) → m ≡ question_number (loop_asked_of q) → seen 0 (saying 0 m i) (going P.Over a) l ≡ exact (loop_ended (alm_at i a) (O.Asked q) l) a.end
  unfolding loop_run
  says q m e = rw e refl

  -- the counts
  pub counts_kept : (c : AlmCounts) → loop_run_at i (counting c a) l ≡ loop_run (record (alm_at i a) { counts = c }) l
  unfolding loop_run
  counts_kept c =
      ap
      (λ (x : ExitStatus).
      loop_run (record (alm_at i a) { counts = record { left = c.left; outer = record { 0 = c.outer.0 }; inner = record { 0 = c.inner.0 }; found = record { 0 = c.found.0 }; status = x } }) l)
      (status_back c.status)

-- the same of what a function has put there: i' and a' are what it has left
module _ (i i' : InnerFields) (a a' : AlmFields) (l : List Float) where
  pub begins_so : (p : AlmPhase) (k : ℕ) → p ≡ P.Inner → seen k i' a' l ≡ exact (Move.inner_solve (loop_run_at i a l)) a.end → seen k i' a' l ≡ exact (loop_moved (alm_at i a) (To p) l) a.end
  begins_so p k z t = rw z (t ∙ ap (λ (x : L.Left). exact x a.end) (begins_at i a l))

  pub goes_so : (p : AlmPhase) (q : AlmQuestion) (k : ℕ) → (p ≡ P.Inner → ⊥) → loop_asked_of q ≡ loop_asked_at p → k ≡ question_number (loop_asked_of q) → i' ≡ saying 0 k i → a' ≡ going p a
      → seen 0 i' a' l ≡ exact (loop_moved (alm_at i a) (To p) l) a.end
  goes_so p q k h e w t u = rw (t, u) (goes i a l p k h (w ∙ ap question_number e))

  module _ (o : Outcome AlmQuestion AlmOptimizerStatus) where
    pub ends_so : (e : AlmOptimizerStatus) (k : ℕ) → o ≡ O.Ended e → k ≡ status_number (status_of e.exit_status) → i' ≡ saying 1 k i → a' ≡ going P.Over (ending i a l e)
        → seen 0 i' a' l ≡ exact (loop_ended (alm_at i a) o l) a.end
    ends_so e k z w t u = rw (z, t, u) (ends i a l e k w)

    pub refuses_so : (k : Refusal) (r : ℕ) → o ≡ O.Refused k → seen r i' a' l ≡ exact (loop_moved (alm_at i a) (Refused k) l) a.end → seen r i' a' l ≡ exact (loop_ended (alm_at i a) o l) a.end
    refuses_so k r z t = rw z (t ∙ ap (λ (x : L.Left). exact x a.end) (refuses i a l k))

    pub fails_so : (c : ℕ) → o ≡ O.Failed c → i' ≡ saying 3 c i → a' ≡ going P.Over a → seen 9 i' a' l ≡ exact (loop_ended (alm_at i a) o l) a.end
    fails_so c z t u = rw (z, t, u) (fails i a l c)

    pub says_so : (q : AlmQuestion) (k : ℕ) → o ≡ O.Asked q → k ≡ question_number (loop_asked_of q) → i' ≡ saying 0 k i → a' ≡ going P.Over a → seen 0 i' a' l ≡ exact (loop_ended (alm_at i a) o l) a.end
    says_so q k z w t u = rw (z, t, u) (says i a l q k w)

  -- a record that has counts: b has its other numbers
  pub moves_so : (m : AlmMoved) (c : AlmCounts) (b b' : AlmFields) (k : ℕ) → b' ≡ counting c b → b.end ≡ a.end → seen k i' a' l ≡ exact (loop_moved (alm_at i b') m l) b'.end
      → seen k i' a' l ≡ exact (loop_leaves m (loop_run (record (alm_at i b) { counts = c }) l)) a.end
  moves_so m c b b' k e h t =
      t
      ∙ ap (λ (x : AlmFields). exact (loop_moved (alm_at i x) m l) x.end) e
      ∙ rw (h, counts_kept i b l c) refl

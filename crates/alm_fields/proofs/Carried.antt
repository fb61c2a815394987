-- What an answer to the inner solve leaves of the loop's fields. Assumes nothing.
use Rattle.std.proofs.Common.{◌≡◌, refl, ap, sym, subst, ◌∙◌, ℕ, ◌≤◌, true, List, ◌++◌, length, take, drop, Float, arith}
use Rattle.std.proofs.lemmas.List.{take-append-drop}
use Rattle.std.specs.Float.{binary64}
use Rattle.model.specs.Process.{Status, converged, not_converged_iterations, not_converged_out_of_time}
use Rattle.model.specs.Refusals.{Reply, answer_refusal}
use Rattle.machine.specs.Told.{asked, ended, refused, failed}
use Rattle.machine.specs.InnerRun as M
use Rattle.machine.specs.InnerRest.{Counted}
use Rattle.machine.specs.InnerAnswer as Inner
use Rattle.machine.specs.Numbers.{status_number}
use Rattle.machine.specs.LoopRun as L
use Rattle.machine.specs.LoopMoves as Move
use Rattle.machine.specs.LoopMoves.{carried}
use Rattle.machine.specs.LoopAnswer.{wanted_by, answered}
use Rattle.panoc_engine.specs.declared.panoc_cache.SolverStatus.{SolverStatus}
use Rattle.panoc_engine.specs.declared.outcome.Outcome.TheVariants as O
use Rattle.panoc_engine.specs.Values.{numbers_of, status_of}
use Rattle.panoc_engine.proofs.Answered.{failure_taken}
use Rattle.panoc_fields.specs.declared.fields.InnerEnd.{InnerEnd}
use Rattle.panoc_fields.specs.declared.fields.InnerFields.{InnerFields}
use Rattle.panoc_fields.specs.Fields.{solve_at, run_at, status_at}
use Rattle.panoc_fields.specs.Fields as Solve
use Rattle.alm_engine.specs.declared.alm_cache.AlmPhase.TheVariants as P
use Rattle.alm_engine.specs.declared.alm_cache.Alm.{Alm}
use Rattle.alm_engine.specs.declared.alm_cache.Weighed.{Weighed}
use Rattle.alm_engine.specs.LoopRuns.{loop_run, Stands, weighed, loop_ended}
use Rattle.alm_engine.proofs.Lent.{inner_accepted, inner_counted, inner_stands, inner_carried}
use Rattle.alm_fields.specs.declared.fields.AlmFields.{AlmFields}
use Rattle.alm_fields.specs.Fields.{phase_at, alm_at, loop_run_at, solver_status_at, Tells, seen, exact}

-- an end that comes in as it went out
status_said : (e : Status) → status_of (status_at (status_number e)) ≡ e
status_said converged = refl
status_said not_converged_iterations = refl
status_said not_converged_out_of_time = refl

-- ---- what it has told
module _ (n : ℕ) (was : InnerEnd) (i : InnerFields) (a : AlmFields) (l : List Float) where
  -- another question: the loop tells it as the inner solve has
  pub carried_asked : (t : M.Told) → Tells t n was i → a.phase ≡ 3 → i.outcome ≡ 0 → seen n i a l ≡ exact (carried binary64 t (loop_run_at i a l)) a.end
  unfolding loop_run carried
  carried_asked (asked k) g e q = rw (g.number, g.outcome, g.told, e) refl
  carried_asked (ended k) g e q = absurd (let z = g.outcome in omega (arith, q, z))
  carried_asked (refused k) g e q = absurd (let z = g.outcome in omega (arith, q, z))
  carried_asked (failed k) g e q = absurd (let z = g.outcome in omega (arith, q, z))

  -- its end
  ended_is : (t : M.Told) → Tells t n was i → i.outcome ≡ 1 → Move.ask_f1 binary64 (Move.solved (numbers_of (solver_status_at i)) (loop_run_at i a l)) ≡ carried binary64 t (loop_run_at i a l)
  unfolding carried
  ended_is (asked k) g q = absurd (let z = g.outcome in omega (arith, q, z))
  ended_is (ended k) g q =
      let z : status_of (status_at i.told) ≡ k.status = ap (λ (m : ℕ). status_of (status_at m)) g.told ∙ status_said k.status in
      ap
      (λ (s : Status).
      Move.ask_f1 binary64 (Move.solved (record { status = s; iterations = i.end.iterations; norm = i.end.norm_fpr; cost = i.end.cost_value }) (loop_run_at i a l))) z
      ∙ ap
      (λ (w : InnerEnd).
      Move.ask_f1 binary64 (Move.solved (record { status = k.status; iterations = w.iterations; norm = w.norm_fpr; cost = w.cost_value }) (loop_run_at i a l))) g.end
  ended_is (refused k) g q = absurd (let z = g.outcome in omega (arith, q, z))
  ended_is (failed k) g q = absurd (let z = g.outcome in omega (arith, q, z))

  -- a refusal or a failure
  pub carried_stops : (t : M.Told) → Tells t n was i → (m : ℕ) → m ≡ 0 → (i.outcome ≡ 0 → ⊥) → (i.outcome ≡ 1 → ⊥) → seen n i (record a { phase = m }) l ≡ exact (carried binary64 t (loop_run_at i a l)) a.end
  unfolding loop_run carried
  carried_stops (asked k) g m e p q = absurd (p g.outcome)
  carried_stops (ended k) g m e p q = absurd (q g.outcome)
  carried_stops (refused k) g m e p q = rw (g.number, g.outcome, g.told, e) refl
  carried_stops (failed k) g m e p q = rw (g.number, g.outcome, g.told, e) refl

  counted : (t : M.Told) → Tells t n was i → Counted t → i.outcome ≡ 1 → i.end.iterations ≤ 10000
  counted (asked k) g c q = absurd (let z = g.outcome in omega (arith, q, z))
  counted (ended k) g c q = let z = ap (λ (w : InnerEnd). w.iterations) g.end in omega (arith, z, c)
  counted (refused k) g c q = absurd (let z = g.outcome in omega (arith, q, z))
  counted (failed k) g c q = absurd (let z = g.outcome in omega (arith, q, z))

  -- r, i', a' and l' are what is left of an end
  pub carried_ends : (t : M.Told) → Tells t n was i → i.outcome ≡ 1 → (s : Alm) (x : SolverStatus) (w : Weighed) (r : ℕ) (i' : InnerFields) (a' : AlmFields) (l' : List Float) → s ≡ alm_at i a → x ≡ solver_status_at i
      → weighed s w l' ≡ Move.ask_f1 binary64 (Move.solved (numbers_of x) (loop_run s l)) → seen r i' a' l' ≡ exact (weighed (alm_at i a) w l') a.end
      → seen r i' a' l' ≡ exact (carried binary64 t (loop_run_at i a l)) a.end
  carried_ends t g q s x w r i' a' l' e f h k =
      let z : weighed (alm_at i a) w l' ≡ Move.ask_f1 binary64 (Move.solved (numbers_of x) (loop_run_at i a l))
      = subst (λ (y : Alm). weighed y w l' ≡ Move.ask_f1 binary64 (Move.solved (numbers_of x) (loop_run y l))) e h in
      k
      ∙ ap (λ (y : L.Left). exact y a.end) (z ∙ ap (λ (y : SolverStatus). Move.ask_f1 binary64 (Move.solved (numbers_of y) (loop_run_at i a l))) f ∙ ended_is t g q)

-- what it has told is what C sees of it
tells_of : (n : ℕ) (i : InnerFields) (m : List Float) (left : M.Left) (was : InnerEnd) → Solve.seen n i m ≡ Solve.exact left was → Tells left.told n was i
tells_of n i m left was g =
    record {
      number = ap (λ (x : Solve.Seen). x.number) g;
      outcome = ap (λ (x : Solve.Seen). x.outcome) g;
      told = ap (λ (x : Solve.Seen). x.told) g;
      end = ap (λ (x : Solve.Seen). x.end) g;
    }

-- ---- the answer q, v being the vector lent with it: n, i1 and m are what the inner solve's call has left
module _ (i i1 : InnerFields) (a : AlmFields) (l m : List Float) (q : Reply) (v : List Float) (vs n : ℕ) (p : 768 ≤ length l) (e : phase_at a.phase ≡ P.Inner)
    (z : answer_refusal (wanted_by (loop_run_at i a l)) q vs true ≡ 0) where
  abbrev left : M.Left
  left = Inner.answered binary64 (run_at i (take 576 l)) q v

  module _ (g : Solve.seen n i1 m ≡ Solve.exact left i.end) where
    leaves_is : (let y : M.Left = record { told = left.told; run = run_at i1 m } in y) ≡ left
    leaves_is = ap (λ (r : M.Run). let y : M.Left = record { told = left.told; run = r } in y) (ap (λ (x : Solve.Seen). x.run) g)

    pub carry_stands : length m ≡ length (take 576 l) → Stands (alm_at i1 a) (m ++ drop 576 l)
    carry_stands k = inner_stands (alm_at i a) l q v m vs left.told (solve_at i1) p e z leaves_is k

    pub carry_counted : i1.outcome ≡ 1 → i1.end.iterations ≤ 10000
    carry_counted = counted n i.end i1 a l left.told (tells_of n i1 m left i.end g) (inner_counted (alm_at i a) l q v m vs left.told (solve_at i1) p e z leaves_is)

    pub carry_so : length m ≡ length (take 576 l) → (i2 : InnerFields) (a2 : AlmFields) (l2 : List Float) (r : ℕ)
        → ((t : M.Told) (was : InnerEnd) → Tells t n was i1 → seen r i2 a2 l2 ≡ exact (carried binary64 t (loop_run_at i1 a (m ++ drop 576 l))) a.end)
        → seen r i2 a2 l2 ≡ exact (answered binary64 (loop_run_at i a l) q v) a.end
    carry_so k i2 a2 l2 r h =
        h left.told i.end (tells_of n i1 m left i.end g)
        ∙ ap (λ (x : L.Left). exact x a.end) (inner_carried (alm_at i a) l q v m vs left.told (solve_at i1) p e z leaves_is k)

-- the host's failure ends both
module _ (i : InnerFields) (a : AlmFields) (l v : List Float) (vs c : ℕ) (p : 768 ≤ length l) (e : phase_at a.phase ≡ P.Inner)
    (z : answer_refusal (wanted_by (loop_run_at i a l)) (Reply.failure c) vs true ≡ 0) where
  abbrev over : InnerFields
  over = record i { phase = 0 }

  fails_is : loop_ended (alm_at over a) (O.Failed c) l ≡ carried binary64 (failed c) (loop_run_at over a l)
  unfolding loop_run carried
  fails_is = refl

  pub failure_carried : loop_ended (alm_at over a) (O.Failed c) l ≡ answered binary64 (loop_run_at i a l) (Reply.failure c) v
  failure_carried =
      let w = failure_taken (solve_at i) (take 576 l) c vs v (inner_accepted (alm_at i a) l (Reply.failure c) vs e z) in
      fails_is
      ∙ ap (λ (x : List Float). carried binary64 (failed c) (loop_run_at over a x)) (sym (take-append-drop 576 l))
      ∙ inner_carried (alm_at i a) l (Reply.failure c) v (take 576 l) vs (failed c) (solve_at over) p e z w refl

-- An answer that nothing refuses is of the kind that its phase waits for, and what an arm of the loop's own leaves is the machine's. Assumes nothing.
use Rattle.std.proofs.Common.{◌≡◌, ap, sym, subst, ◌∙◌, ℕ, ◌≤◌, Bool, true, false, refl, List, length, Float, arith}
use Rattle.std.specs.Float.{binary64}
use Rattle.model.specs.Refusals.{Reply, answer_refusal, fits_kind, fits_length, fits_places, given, as_number, as_vector, as_decision, may_fail}
use Rattle.machine.specs.LoopRun as L
use Rattle.machine.specs.LoopMoves as Move
use Rattle.machine.specs.LoopAnswer.{wanted_at, wanted_by, answered}
use Rattle.panoc_engine.specs.declared.outcome.Outcome.{Outcome}
use Rattle.panoc_engine.specs.declared.outcome.Outcome.TheVariants as O
use Rattle.panoc_engine.specs.Values.{reply_of, decided}
use Rattle.panoc_fields.specs.declared.fields.InnerFields.{InnerFields}
use Rattle.alm_engine.specs.declared.alm_cache.Alm.{Alm}
use Rattle.alm_engine.specs.declared.alm_cache.AlmPhase.{AlmPhase}
use Rattle.alm_engine.specs.declared.alm_cache.AlmPhase.TheVariants as P
use Rattle.alm_engine.specs.declared.alm_cache.AlmMoved.{AlmMoved}
use Rattle.alm_engine.specs.declared.alm_cache.AlmQuestion.{AlmQuestion}
use Rattle.alm_engine.specs.declared.alm_cache.AlmOptimizerStatus.{AlmOptimizerStatus}
use Rattle.alm_engine.specs.declared.alm_cache.Iterated.{Iterated}
use Rattle.alm_engine.specs.declared.alm_cache.Weighed.{Weighed}
use Rattle.alm_engine.specs.Values.{loop_phase_of}
use Rattle.alm_engine.specs.LoopRuns.{loop_run, Stands, loop_moved, iterated, weighed, loop_ended}
use Rattle.alm_engine.proofs.Accepted.{accepts_at, vector_stands, accepted_y, accepted_f1, accepted_c, accepted_f2, number_last_cost, vector_project_y, vector_f1, vector_project_c, vector_f2, decision_time, failure_taken}
use Rattle.alm_fields.specs.declared.fields.AlmFields.{AlmFields}
use Rattle.alm_fields.specs.Fields.{phase_at, alm_at, loop_run_at, seen, exact}
use Rattle.alm_fields.proofs.Carried.{failure_carried}

-- ---- the kind that a phase waits for
ended_not : ◌≡◌ {A = ℕ} 6 0 → ⊥
ended_not e = omega (arith, e)

kind_not : ◌≡◌ {A = ℕ} 7 0 → ⊥
kind_not e = omega (arith, e)

module _ (r : L.Run) where
  numbered : (x : Float) (p : AlmPhase) → answer_refusal (wanted_at r (loop_phase_of p)) (Reply.number x) 0 true ≡ 0 → (p ≡ P.Inner → ⊥) → (p ≡ P.LastCost → ⊥) → ⊥
  unfolding answer_refusal fits_kind fits_length fits_places given as_number as_vector as_decision may_fail
  numbered x P.Inner e h k = h refl
  numbered x P.LastCost e h k = k refl
  numbered x P.Over e h k = ended_not e
  numbered x P.Time e h k = kind_not e
  numbered x P.ProjectY e h k = kind_not e
  numbered x P.F1 e h k = kind_not e
  numbered x P.ProjectC e h k = kind_not e
  numbered x P.F2 e h k = kind_not e

  vectored : (vs : ℕ) (p : AlmPhase) → answer_refusal (wanted_at r (loop_phase_of p)) Reply.vector vs true ≡ 0 → (p ≡ P.Inner → ⊥) → (p ≡ P.ProjectY → ⊥) → (p ≡ P.F1 → ⊥) → (p ≡ P.ProjectC → ⊥) → (p ≡ P.F2 → ⊥) → ⊥
  unfolding answer_refusal fits_kind fits_length fits_places given as_number as_vector as_decision may_fail
  vectored vs P.Inner e h0 h1 h2 h3 h4 = h0 refl
  vectored vs P.ProjectY e h0 h1 h2 h3 h4 = h1 refl
  vectored vs P.F1 e h0 h1 h2 h3 h4 = h2 refl
  vectored vs P.ProjectC e h0 h1 h2 h3 h4 = h3 refl
  vectored vs P.F2 e h0 h1 h2 h3 h4 = h4 refl
  vectored vs P.Over e h0 h1 h2 h3 h4 = ended_not e
  vectored vs P.Time e h0 h1 h2 h3 h4 = kind_not e
  vectored vs P.LastCost e h0 h1 h2 h3 h4 = kind_not e

  decides : (t : Bool) (p : AlmPhase) → answer_refusal (wanted_at r (loop_phase_of p)) (reply_of (decided t)) 0 true ≡ 0 → (p ≡ P.Inner → ⊥) → (p ≡ P.Time → ⊥) → ⊥
  unfolding answer_refusal fits_kind fits_length fits_places given as_number as_vector as_decision may_fail
  decides t P.Inner e h k = h refl
  decides t P.Time e h k = k refl
  decides true P.Over e h k = ended_not e
  decides false P.Over e h k = ended_not e
  decides true P.ProjectY e h k = kind_not e
  decides false P.ProjectY e h k = kind_not e
  decides true P.F1 e h k = kind_not e
  decides false P.F1 e h k = kind_not e
  decides true P.ProjectC e h k = kind_not e
  decides false P.ProjectC e h k = kind_not e
  decides true P.F2 e h k = kind_not e
  decides false P.F2 e h k = kind_not e
  decides true P.LastCost e h k = kind_not e
  decides false P.LastCost e h k = kind_not e

module _ (i : InnerFields) (a : AlmFields) (l : List Float) where
  abbrev phase : AlmPhase
  phase = phase_at a.phase

  abbrev Accepted : Reply → ℕ → Type 0
  Accepted q vs = answer_refusal (wanted_by (loop_run_at i a l)) q vs true ≡ 0

  waits_at : (q : Reply) (vs : ℕ) → Accepted q vs → answer_refusal (wanted_at (loop_run_at i a l) (loop_phase_of phase)) q vs true ≡ 0
  waits_at q vs z = (accepts_at (alm_at i a) l q vs z phase refl).1

  pub number_only : (x : Float) → Accepted (Reply.number x) 0 → (phase ≡ P.Inner → ⊥) → (phase ≡ P.LastCost → ⊥) → ⊥
  number_only x z = numbered (loop_run_at i a l) x phase (waits_at (Reply.number x) 0 z)

  pub vector_only : (vs : ℕ) → Accepted Reply.vector vs → (phase ≡ P.Inner → ⊥) → (phase ≡ P.ProjectY → ⊥) → (phase ≡ P.F1 → ⊥) → (phase ≡ P.ProjectC → ⊥) → (phase ≡ P.F2 → ⊥) → ⊥
  vector_only vs z = vectored (loop_run_at i a l) vs phase (waits_at Reply.vector vs z)

  pub decision_only : (t : Bool) → Accepted (reply_of (decided t)) 0 → (phase ≡ P.Inner → ⊥) → (phase ≡ P.Time → ⊥) → ⊥
  decision_only t z = decides (loop_run_at i a l) t phase (waits_at (reply_of (decided t)) 0 z)

  -- ---- an arm of the loop's own: s is the small part that it has taken out
  module _ (s : Alm) (y : s ≡ alm_at i a) where
    module _ (vs : ℕ) (p : 768 ≤ length l) (z : Accepted Reply.vector vs) where
      pub fits_y : phase ≡ P.ProjectY → (Stands s l) × (vs ≡ s.set.n1)
      fits_y e = subst (λ (x : Alm). (Stands x l) × (vs ≡ x.set.n1)) (sym y) (vector_stands (alm_at i a) l vs p z, accepted_y (alm_at i a) l vs z e)

      pub fits_f1 : phase ≡ P.F1 → (Stands s l) × (vs ≡ s.set.n1)
      fits_f1 e = subst (λ (x : Alm). (Stands x l) × (vs ≡ x.set.n1)) (sym y) (vector_stands (alm_at i a) l vs p z, accepted_f1 (alm_at i a) l vs z e)

      pub fits_c : phase ≡ P.ProjectC → (Stands s l) × (vs ≡ s.set.n1)
      fits_c e = subst (λ (x : Alm). (Stands x l) × (vs ≡ x.set.n1)) (sym y) (vector_stands (alm_at i a) l vs p z, accepted_c (alm_at i a) l vs z e)

      pub fits_f2 : phase ≡ P.F2 → (Stands s l) × (vs ≡ s.set.n2)
      fits_f2 e = subst (λ (x : Alm). (Stands x l) × (vs ≡ x.set.n2)) (sym y) (vector_stands (alm_at i a) l vs p z, accepted_f2 (alm_at i a) l vs z e)

    -- r, i', a' and l' are what it has left
    module _ (i' : InnerFields) (a' : AlmFields) (l' v : List Float) (r : ℕ) where
      arm : (q : Reply) (f g : Alm → L.Left) → f s ≡ g s → seen r i' a' l' ≡ exact (f (alm_at i a)) a.end → g (alm_at i a) ≡ answered binary64 (loop_run_at i a l) q v
          → seen r i' a' l' ≡ exact (answered binary64 (loop_run_at i a l) q v) a.end
      arm q f g w t k = t ∙ ap (λ (x : L.Left). exact x a.end) (subst (λ (x : Alm). f x ≡ g x) y w ∙ k)

      pub last_cost_so : (x : Float) (o : Outcome AlmQuestion AlmOptimizerStatus) → phase ≡ P.LastCost → loop_ended s o l' ≡ Move.last_cost x (loop_run s l)
          → seen r i' a' l' ≡ exact (loop_ended (alm_at i a) o l') a.end → seen r i' a' l' ≡ exact (answered binary64 (loop_run_at i a l) (Reply.number x) v) a.end
      last_cost_so x o e w t =
          arm (Reply.number x) (λ (s : Alm). loop_ended s o l') (λ (s : Alm). Move.last_cost x (loop_run s l)) w t (number_last_cost (alm_at i a) l v x e)

      pub project_y_so : (m : AlmMoved) → phase ≡ P.ProjectY → loop_moved s m l' ≡ Move.project_y v (loop_run s l)
          → seen r i' a' l' ≡ exact (loop_moved (alm_at i a) m l') a.end → seen r i' a' l' ≡ exact (answered binary64 (loop_run_at i a l) Reply.vector v) a.end
      project_y_so m e w t = arm Reply.vector (λ (s : Alm). loop_moved s m l') (λ (s : Alm). Move.project_y v (loop_run s l)) w t (vector_project_y (alm_at i a) l v e)

      pub f1_so : (m : AlmMoved) → phase ≡ P.F1 → loop_moved s m l' ≡ Move.f1 binary64 v (loop_run s l)
          → seen r i' a' l' ≡ exact (loop_moved (alm_at i a) m l') a.end → seen r i' a' l' ≡ exact (answered binary64 (loop_run_at i a l) Reply.vector v) a.end
      f1_so m e w t = arm Reply.vector (λ (s : Alm). loop_moved s m l') (λ (s : Alm). Move.f1 binary64 v (loop_run s l)) w t (vector_f1 (alm_at i a) l v e)

      pub project_c_so : (m : Weighed) → phase ≡ P.ProjectC → weighed s m l' ≡ Move.project_c binary64 v (loop_run s l)
          → seen r i' a' l' ≡ exact (weighed (alm_at i a) m l') a.end → seen r i' a' l' ≡ exact (answered binary64 (loop_run_at i a l) Reply.vector v) a.end
      project_c_so m e w t = arm Reply.vector (λ (s : Alm). weighed s m l') (λ (s : Alm). Move.project_c binary64 v (loop_run s l)) w t (vector_project_c (alm_at i a) l v e)

      pub f2_so : (m : Weighed) → phase ≡ P.F2 → weighed s m l' ≡ Move.f2 binary64 v (loop_run s l)
          → seen r i' a' l' ≡ exact (weighed (alm_at i a) m l') a.end → seen r i' a' l' ≡ exact (answered binary64 (loop_run_at i a l) Reply.vector v) a.end
      f2_so m e w t = arm Reply.vector (λ (s : Alm). weighed s m l') (λ (s : Alm). Move.f2 binary64 v (loop_run s l)) w t (vector_f2 (alm_at i a) l v e)

      pub time_so : (b : Bool) (m : Iterated) → phase ≡ P.Time → iterated s m l' ≡ Move.timed b (loop_run s l)
          → seen r i' a' l' ≡ exact (iterated (alm_at i a) m l') a.end → seen r i' a' l' ≡ exact (answered binary64 (loop_run_at i a l) (reply_of (decided b)) v) a.end
      time_so b m e w t =
          arm (reply_of (decided b)) (λ (s : Alm). iterated s m l') (λ (s : Alm). Move.timed b (loop_run s l)) w t (decision_time (alm_at i a) l v b e)

  -- ---- the host's failure
  module _ (i' : InnerFields) (a' : AlmFields) (v : List Float) (vs c r : ℕ) (z : Accepted (Reply.failure c) vs) where
    pub failure_own : (phase ≡ P.Inner → ⊥) → seen r i' a' l ≡ exact (loop_ended (alm_at i a) (O.Failed c) l) a.end → seen r i' a' l ≡ exact (answered binary64 (loop_run_at i a l) (Reply.failure c) v) a.end
    failure_own h t = t ∙ ap (λ (x : L.Left). exact x a.end) (failure_taken (alm_at i a) l c vs v z h)

    pub failure_inner : 768 ≤ length l → phase ≡ P.Inner → (m : ℕ) → m ≡ 0 → seen r i' a' l ≡ exact (loop_ended (alm_at (record i { phase = m }) a) (O.Failed c) l) a.end
        → seen r i' a' l ≡ exact (answered binary64 (loop_run_at i a l) (Reply.failure c) v) a.end
    failure_inner p e m k t =
        t
        ∙ ap (λ (m : ℕ). exact (loop_ended (alm_at (record i { phase = m }) a) (O.Failed c) l) a.end) k
        ∙ ap (λ (x : L.Left). exact x a.end) (failure_carried i a l v vs c p e z)

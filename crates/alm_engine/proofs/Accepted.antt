-- Which move of the machine takes an answer, by the phase of the loop. Assumes nothing.
use Rattle.std.proofs.Common.{◌≡◌, refl, ap, sym, ◌∙◌, ℕ, ◌≤◌, Bool, true, false, cond, ◌&&◌, eqb, eqb-true, List, length, Float, arith}
use Rattle.std.specs.Float.{binary64}
use Rattle.model.specs.Refusals.{Reply, answer_refusal, fits_kind, fits_length, fits_places, as_number, as_vector, as_decision, given}
use Rattle.machine.specs.Waits.{taken}
use Rattle.machine.specs.LoopRun as L
use Rattle.machine.specs.LoopMoves as Move
use Rattle.machine.specs.LoopRest.{Sound, is_last}
use Rattle.machine.specs.LoopAnswer.{wanted_at, wanted_by, turns, answered_at, answered}
use Rattle.machine.proofs.LoopLaws.{sized_n, sized_n1, sized_n2, counts_outer, counts_inner, counts_found, sound_ready}
use Rattle.machine.proofs.LoopAnswers.{accepted_at}
use Rattle.panoc_engine.specs.declared.outcome.Outcome.TheVariants as O
use Rattle.panoc_engine.specs.Values.{reply_of, decided}
use Rattle.alm_engine.specs.declared.alm_cache.Alm.{Alm}
use Rattle.alm_engine.specs.declared.alm_cache.AlmPhase.{AlmPhase}
use Rattle.alm_engine.specs.declared.alm_cache.AlmPhase.TheVariants as P
use Rattle.alm_engine.specs.Values.{loop_phase_of}
use Rattle.alm_engine.specs.LoopRuns.{loop_run, Stands, loop_ended}

-- the phase of a run
pub at_phase : (s : Alm) (l : List Float) (a : Reply) (v : List Float) (p : AlmPhase) → s.phase ≡ p → answered binary64 (loop_run s l) a v ≡ answered_at binary64 (loop_run s l) (loop_phase_of p) a v
unfolding loop_run answered
at_phase s l a v p e = ap (λ (q : AlmPhase). answered_at binary64 (loop_run s l) (loop_phase_of q) a v) e

module _ (s : Alm) (l v : List Float) where
  -- ---- a number
  pub number_last_cost : (x : Float) → s.phase ≡ P.LastCost → Move.last_cost x (loop_run s l) ≡ answered binary64 (loop_run s l) (Reply.number x) v
  unfolding answered_at taken as_number
  number_last_cost x e = sym (at_phase s l (Reply.number x) v P.LastCost e)

  -- ---- a vector
  pub vector_project_y : s.phase ≡ P.ProjectY → Move.project_y v (loop_run s l) ≡ answered binary64 (loop_run s l) Reply.vector v
  unfolding answered_at taken as_vector
  vector_project_y e = sym (at_phase s l Reply.vector v P.ProjectY e)

  pub vector_f1 : s.phase ≡ P.F1 → Move.f1 binary64 v (loop_run s l) ≡ answered binary64 (loop_run s l) Reply.vector v
  unfolding answered_at taken as_vector
  vector_f1 e = sym (at_phase s l Reply.vector v P.F1 e)

  pub vector_project_c : s.phase ≡ P.ProjectC → Move.project_c binary64 v (loop_run s l) ≡ answered binary64 (loop_run s l) Reply.vector v
  unfolding answered_at taken as_vector
  vector_project_c e = sym (at_phase s l Reply.vector v P.ProjectC e)

  pub vector_f2 : s.phase ≡ P.F2 → Move.f2 binary64 v (loop_run s l) ≡ answered binary64 (loop_run s l) Reply.vector v
  unfolding answered_at taken as_vector
  vector_f2 e = sym (at_phase s l Reply.vector v P.F2 e)

  -- ---- a yes or a no
  pub decision_time : (t : Bool) → s.phase ≡ P.Time → Move.timed t (loop_run s l) ≡ answered binary64 (loop_run s l) (reply_of (decided t)) v
  unfolding answered_at taken as_decision
  decision_time true e = sym (at_phase s l Reply.yes v P.Time e)
  decision_time false e = sym (at_phase s l Reply.no v P.Time e)

-- ---- an answer of another kind, which the table refuses
module _ (r : L.Run) (v : List Float) where
  other_number : (x : Float) (p : AlmPhase) → (p ≡ P.LastCost → ⊥) → (p ≡ P.Inner → ⊥) → turns r 7 ≡ answered_at binary64 r (loop_phase_of p) (Reply.number x) v
  unfolding answered_at taken as_number
  other_number x P.LastCost h i = absurd (h refl)
  other_number x P.Inner h i = absurd (i refl)
  other_number x _ h i = refl

  other_vector : (p : AlmPhase) → (p ≡ P.ProjectY → ⊥) → (p ≡ P.F1 → ⊥) → (p ≡ P.ProjectC → ⊥) → (p ≡ P.F2 → ⊥) → (p ≡ P.Inner → ⊥) → turns r 7 ≡ answered_at binary64 r (loop_phase_of p) Reply.vector v
  unfolding answered_at taken as_vector
  other_vector P.ProjectY a b c d i = absurd (a refl)
  other_vector P.F1 a b c d i = absurd (b refl)
  other_vector P.ProjectC a b c d i = absurd (c refl)
  other_vector P.F2 a b c d i = absurd (d refl)
  other_vector P.Inner a b c d i = absurd (i refl)
  other_vector _ a b c d i = refl

  other_decision : (t : Bool) (p : AlmPhase) → (p ≡ P.Time → ⊥) → (p ≡ P.Inner → ⊥) → turns r 7 ≡ answered_at binary64 r (loop_phase_of p) (reply_of (decided t)) v
  unfolding answered_at taken as_decision
  other_decision t P.Time h i = absurd (h refl)
  other_decision t P.Inner h i = absurd (i refl)
  other_decision true _ h i = refl
  other_decision false _ h i = refl

module _ (s : Alm) (l v : List Float) where
  pub number_else : (x : Float) → (s.phase ≡ P.LastCost → ⊥) → (s.phase ≡ P.Inner → ⊥) → turns (loop_run s l) 7 ≡ answered binary64 (loop_run s l) (Reply.number x) v
  number_else x h i = other_number (loop_run s l) v x s.phase h i ∙ sym (at_phase s l (Reply.number x) v s.phase refl)

  pub vector_else : (s.phase ≡ P.ProjectY → ⊥) → (s.phase ≡ P.F1 → ⊥) → (s.phase ≡ P.ProjectC → ⊥) → (s.phase ≡ P.F2 → ⊥) → (s.phase ≡ P.Inner → ⊥)
      → turns (loop_run s l) 7 ≡ answered binary64 (loop_run s l) Reply.vector v
  vector_else a b c d i = other_vector (loop_run s l) v s.phase a b c d i ∙ sym (at_phase s l Reply.vector v s.phase refl)

  pub decision_else : (t : Bool) → (s.phase ≡ P.Time → ⊥) → (s.phase ≡ P.Inner → ⊥) → turns (loop_run s l) 7 ≡ answered binary64 (loop_run s l) (reply_of (decided t)) v
  decision_else t h i = other_decision (loop_run s l) v t s.phase h i ∙ sym (at_phase s l (reply_of (decided t)) v s.phase refl)

-- ---- what an answer that nothing refuses says of the run
length_of : (n vs : ℕ) → ◌≡◌ {A = ℕ} (cond (eqb vs n && true) 0 8) 0 → vs ≡ n
length_of n vs e = by (eqb vs n) refl e
  where
    by : (t : Bool) → eqb vs n ≡ t → ◌≡◌ {A = ℕ} (cond (t && true) 0 8) 0 → vs ≡ n
    by true q z = eqb-true vs n q
    by false q z = absurd (omega arith)

module _ (s : Alm) (l : List Float) where
  -- it is accepted at the run's phase
  pub accepts_at : (a : Reply) (vs : ℕ) → answer_refusal (wanted_by (loop_run s l)) a vs true ≡ 0 → (p : AlmPhase) → s.phase ≡ p
      → Sound (loop_run s l) × (answer_refusal (wanted_at (loop_run s l) (loop_phase_of p)) a vs true ≡ 0)
  unfolding loop_run
  accepts_at a vs z p e = accepted_at binary64 (loop_run s l) (loop_phase_of p) a vs true z (ap loop_phase_of e)

  -- a start made the run, where there is an iteration before the question
  pub stands_at : 768 ≤ length l → Sound (loop_run s l) → is_last (loop_phase_of s.phase) ≡ false → Stands s l
  unfolding loop_run
  stands_at p h q =
      let r = sound_ready (loop_run s l) h q in
      record {
        size = sized_n (loop_run s l) r.0;
        size_y = sized_n1 (loop_run s l) r.0;
        size_f2 = sized_n2 (loop_run s l) r.0;
        outer = let x = counts_outer (loop_run s l) r.1 in omega arith;
        inner = counts_inner (loop_run s l) r.1;
        found = counts_found (loop_run s l) r.1;
        places = p;
      }

  open_vector : (vs : ℕ) (p : AlmPhase) → answer_refusal (wanted_at (loop_run s l) (loop_phase_of p)) Reply.vector vs true ≡ 0 → is_last (loop_phase_of p) ≡ false
  unfolding answer_refusal fits_kind given as_vector
  open_vector vs P.Over z = absurd (omega arith)
  open_vector vs P.Time z = refl
  open_vector vs P.ProjectY z = refl
  open_vector vs P.Inner z = refl
  open_vector vs P.F1 z = refl
  open_vector vs P.ProjectC z = refl
  open_vector vs P.F2 z = refl
  open_vector vs P.LastCost z = absurd (omega arith)

  pub vector_stands : (vs : ℕ) → 768 ≤ length l → answer_refusal (wanted_by (loop_run s l)) Reply.vector vs true ≡ 0 → Stands s l
  vector_stands vs p z = let k = accepts_at Reply.vector vs z s.phase refl in stands_at p k.0 (open_vector vs s.phase k.1)

  -- the places of a vector
  module _ (vs : ℕ) (z : answer_refusal (wanted_by (loop_run s l)) Reply.vector vs true ≡ 0) where
    pub accepted_y : s.phase ≡ P.ProjectY → vs ≡ s.set.n1
    unfolding loop_run answer_refusal fits_kind fits_length fits_places given as_vector
    accepted_y e = length_of s.set.n1 vs (accepts_at Reply.vector vs z P.ProjectY e).1

    pub accepted_f1 : s.phase ≡ P.F1 → vs ≡ s.set.n1
    unfolding loop_run answer_refusal fits_kind fits_length fits_places given as_vector
    accepted_f1 e = length_of s.set.n1 vs (accepts_at Reply.vector vs z P.F1 e).1

    pub accepted_c : s.phase ≡ P.ProjectC → vs ≡ s.set.n1
    unfolding loop_run answer_refusal fits_kind fits_length fits_places given as_vector
    accepted_c e = length_of s.set.n1 vs (accepts_at Reply.vector vs z P.ProjectC e).1

    pub accepted_f2 : s.phase ≡ P.F2 → vs ≡ s.set.n2
    unfolding loop_run answer_refusal fits_kind fits_length fits_places given as_vector
    accepted_f2 e = length_of s.set.n2 vs (accepts_at Reply.vector vs z P.F2 e).1

  -- a failure ends the run
  failed_at : (c vs : ℕ) (v : List Float) (p : AlmPhase) → (p ≡ P.Inner → ⊥) → answer_refusal (wanted_at (loop_run s l) (loop_phase_of p)) (Reply.failure c) vs true ≡ 0
      → L.fails c (loop_run s l) ≡ answered_at binary64 (loop_run s l) (loop_phase_of p) (Reply.failure c) v
  unfolding answered_at taken answer_refusal
  failed_at c vs v P.Over h z = absurd (omega arith)
  failed_at c vs v P.Time h z = refl
  failed_at c vs v P.ProjectY h z = refl
  failed_at c vs v P.Inner h z = absurd (h refl)
  failed_at c vs v P.F1 h z = refl
  failed_at c vs v P.ProjectC h z = refl
  failed_at c vs v P.F2 h z = refl
  failed_at c vs v P.LastCost h z = refl

  fails_is : (c : ℕ) → loop_ended s (O.Failed c) l ≡ L.fails c (loop_run s l)
  unfolding loop_run
  fails_is c = refl

  pub failure_taken : (c vs : ℕ) (v : List Float) → answer_refusal (wanted_by (loop_run s l)) (Reply.failure c) vs true ≡ 0 → (s.phase ≡ P.Inner → ⊥)
      → loop_ended s (O.Failed c) l ≡ answered binary64 (loop_run s l) (Reply.failure c) v
  failure_taken c vs v z h =
      fails_is c ∙ failed_at c vs v s.phase h (accepts_at (Reply.failure c) vs z s.phase refl).1 ∙ sym (at_phase s l (Reply.failure c) v s.phase refl)

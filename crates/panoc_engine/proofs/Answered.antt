-- Which move of the machine takes an answer, by the phase of the code. Assumes nothing.
use Rattle.std.proofs.Common.{◌≡◌, refl, ap, sym, ◌∙◌, ℕ, ◌≤◌, Bool, true, false, cond, ◌&&◌, eqb, eqb-true, List, length, Float, arith}
use Rattle.std.proofs.Math.Option.{Option, none, some}
use Rattle.std.specs.Float.{binary64}
use Rattle.model.specs.Process.{Kind}
use Rattle.model.specs.Refusals.{Reply, answer_refusal, fits_kind, fits_length, fits_places, as_number, as_vector, as_decision, given}
use Rattle.machine.specs.Waits.{Moves, taken}
use Rattle.machine.specs.InnerRun as M
use Rattle.machine.specs.InnerMoves as Move
use Rattle.machine.specs.InnerRest.{sound}
use Rattle.machine.specs.InnerAnswer.{wanted_at, wanted_by, turns, move_at, answered_at, answered}
use Rattle.machine.proofs.InnerLaws.{sound_n, sound_limit, sound_left, sound_count}
use Rattle.panoc_engine.specs.declared.panoc_cache.Solve.{Solve}
use Rattle.panoc_engine.specs.declared.panoc_cache.Phase.{Phase}
use Rattle.panoc_engine.specs.declared.panoc_cache.Phase.TheVariants as P
use Rattle.panoc_engine.specs.declared.outcome.Outcome.TheVariants as O
use Rattle.panoc_engine.specs.Values.{phase_of, reply_of, decided}
use Rattle.panoc_engine.specs.Runs.{run_of, Stands, ended, projected}

-- the phase of a run
at_phase : (s : Solve) (l : List Float) (a : Reply) (v : List Float) (p : Phase) → s.phase ≡ p → answered binary64 (run_of s l) a v ≡ answered_at binary64 (run_of s l) (phase_of p) a v
unfolding run_of answered
at_phase s l a v p e = ap (λ (q : Phase). answered_at binary64 (run_of s l) (phase_of q) a v) e

-- a run that a start made
sound_stands : (s : Solve) (l : List Float) → 576 ≤ length l → sound (run_of s l) ≡ true → Stands s l
unfolding run_of
sound_stands s l p q =
    record {
      size = sound_n (run_of s l) q;
      limit = sound_limit (run_of s l) q;
      left = sound_left (run_of s l) q;
      done = sound_count (run_of s l) q;
      places = p;
    }

module _ (s : Solve) (l v : List Float) where
  -- ---- a number
  module _ (x : Float) where
    pub number_cost : s.phase ≡ P.Cost → Move.cost binary64 x (run_of s l) ≡ answered binary64 (run_of s l) (Reply.number x) v
    unfolding answered_at taken as_number
    number_cost e = sym (at_phase s l (Reply.number x) v P.Cost e)

    pub number_half_cost : s.phase ≡ P.HalfCost → Move.half_cost binary64 x (run_of s l) ≡ answered binary64 (run_of s l) (Reply.number x) v
    unfolding answered_at taken as_number
    number_half_cost e = sym (at_phase s l (Reply.number x) v P.HalfCost e)

    pub number_doubled_cost : s.phase ≡ P.DoubledCost → Move.doubled_cost binary64 x (run_of s l) ≡ answered binary64 (run_of s l) (Reply.number x) v
    unfolding answered_at taken as_number
    number_doubled_cost e = sym (at_phase s l (Reply.number x) v P.DoubledCost e)

    pub number_first_cost : s.phase ≡ P.FirstCost → Move.first_cost binary64 x (run_of s l) ≡ answered binary64 (run_of s l) (Reply.number x) v
    unfolding answered_at taken as_number
    number_first_cost e = sym (at_phase s l (Reply.number x) v P.FirstCost e)

    pub number_tried_cost : s.phase ≡ P.TriedCost → Move.tried_cost binary64 x (run_of s l) ≡ answered binary64 (run_of s l) (Reply.number x) v
    unfolding answered_at taken as_number
    number_tried_cost e = sym (at_phase s l (Reply.number x) v P.TriedCost e)

    pub number_last_cost : s.phase ≡ P.LastCost → Move.last_cost binary64 x (run_of s l) ≡ answered binary64 (run_of s l) (Reply.number x) v
    unfolding answered_at taken as_number
    number_last_cost e = sym (at_phase s l (Reply.number x) v P.LastCost e)

  -- ---- a vector
  pub vector_gradient : s.phase ≡ P.Gradient → Move.gradient binary64 v (run_of s l) ≡ answered binary64 (run_of s l) Reply.vector v
  unfolding answered_at taken as_vector
  vector_gradient e = sym (at_phase s l Reply.vector v P.Gradient e)

  pub vector_shifted : s.phase ≡ P.Shifted → Move.shifted_gradient binary64 v (run_of s l) ≡ answered binary64 (run_of s l) Reply.vector v
  unfolding answered_at taken as_vector
  vector_shifted e = sym (at_phase s l Reply.vector v P.Shifted e)

  pub vector_doubled_project : s.phase ≡ P.DoubledProject → Move.doubled_project binary64 v (run_of s l) ≡ answered binary64 (run_of s l) Reply.vector v
  unfolding answered_at taken as_vector
  vector_doubled_project e = sym (at_phase s l Reply.vector v P.DoubledProject e)

  pub vector_direction : s.phase ≡ P.Direction → Move.directed binary64 v (run_of s l) ≡ answered binary64 (run_of s l) Reply.vector v
  unfolding answered_at taken as_vector
  vector_direction e = sym (at_phase s l Reply.vector v P.Direction e)

  pub vector_first_gradient : s.phase ≡ P.FirstGradient → Move.first_gradient binary64 v (run_of s l) ≡ answered binary64 (run_of s l) Reply.vector v
  unfolding answered_at taken as_vector
  vector_first_gradient e = sym (at_phase s l Reply.vector v P.FirstGradient e)

  pub vector_tried_gradient : s.phase ≡ P.TriedGradient → Move.tried_gradient binary64 v (run_of s l) ≡ answered binary64 (run_of s l) Reply.vector v
  unfolding answered_at taken as_vector
  vector_tried_gradient e = sym (at_phase s l Reply.vector v P.TriedGradient e)

  pub vector_project : s.phase ≡ P.Project → projected s.phase v (run_of s l) ≡ answered binary64 (run_of s l) Reply.vector v
  unfolding answered_at taken as_vector
  vector_project e = ap (λ (p : Phase). projected p v (run_of s l)) e ∙ sym (at_phase s l Reply.vector v P.Project e)

  pub vector_first_project : s.phase ≡ P.FirstProject → projected s.phase v (run_of s l) ≡ answered binary64 (run_of s l) Reply.vector v
  unfolding answered_at taken as_vector
  vector_first_project e = ap (λ (p : Phase). projected p v (run_of s l)) e ∙ sym (at_phase s l Reply.vector v P.FirstProject e)

  pub vector_tried_project : s.phase ≡ P.TriedProject → projected s.phase v (run_of s l) ≡ answered binary64 (run_of s l) Reply.vector v
  unfolding answered_at taken as_vector
  vector_tried_project e = ap (λ (p : Phase). projected p v (run_of s l)) e ∙ sym (at_phase s l Reply.vector v P.TriedProject e)

  -- ---- a yes or a no
  pub decision_time : (t : Bool) → s.phase ≡ P.Time → Move.timed binary64 t (run_of s l) ≡ answered binary64 (run_of s l) (reply_of (decided t)) v
  unfolding answered_at taken as_decision
  decision_time true e = sym (at_phase s l Reply.yes v P.Time e)
  decision_time false e = sym (at_phase s l Reply.no v P.Time e)

-- ---- an answer of another kind, which the table refuses
other_number : (r : M.Run) (x : Float) (v : List Float) (p : Phase) → (p ≡ P.Cost → ⊥) → (p ≡ P.HalfCost → ⊥) → (p ≡ P.DoubledCost → ⊥) → (p ≡ P.FirstCost → ⊥) → (p ≡ P.TriedCost → ⊥) → (p ≡ P.LastCost → ⊥) → turns r 7 ≡ answered_at binary64 r (phase_of p) (Reply.number x) v
unfolding answered_at taken as_number
other_number r x v P.Cost h0 h1 h2 h3 h4 h5 = absurd (h0 refl)
other_number r x v P.HalfCost h0 h1 h2 h3 h4 h5 = absurd (h1 refl)
other_number r x v P.DoubledCost h0 h1 h2 h3 h4 h5 = absurd (h2 refl)
other_number r x v P.FirstCost h0 h1 h2 h3 h4 h5 = absurd (h3 refl)
other_number r x v P.TriedCost h0 h1 h2 h3 h4 h5 = absurd (h4 refl)
other_number r x v P.LastCost h0 h1 h2 h3 h4 h5 = absurd (h5 refl)
other_number r x v _ h0 h1 h2 h3 h4 h5 = refl

pub number_else : (s : Solve) (l : List Float) (x : Float) (v : List Float) → (s.phase ≡ P.Cost → ⊥) → (s.phase ≡ P.HalfCost → ⊥) → (s.phase ≡ P.DoubledCost → ⊥) → (s.phase ≡ P.FirstCost → ⊥) → (s.phase ≡ P.TriedCost → ⊥) → (s.phase ≡ P.LastCost → ⊥) → turns (run_of s l) 7 ≡ answered binary64 (run_of s l) (Reply.number x) v
number_else s l x v h0 h1 h2 h3 h4 h5 = other_number (run_of s l) x v s.phase h0 h1 h2 h3 h4 h5 ∙ sym (at_phase s l (Reply.number x) v s.phase refl)

other_vector : (r : M.Run) (v : List Float) (p : Phase) → (p ≡ P.Gradient → ⊥) → (p ≡ P.Shifted → ⊥) → (p ≡ P.DoubledProject → ⊥) → (p ≡ P.Direction → ⊥) → (p ≡ P.FirstGradient → ⊥) → (p ≡ P.TriedGradient → ⊥) → (p ≡ P.Project → ⊥) → (p ≡ P.FirstProject → ⊥) → (p ≡ P.TriedProject → ⊥) → turns r 7 ≡ answered_at binary64 r (phase_of p) Reply.vector v
unfolding answered_at taken as_vector
other_vector r v P.Gradient h0 h1 h2 h3 h4 h5 h6 h7 h8 = absurd (h0 refl)
other_vector r v P.Shifted h0 h1 h2 h3 h4 h5 h6 h7 h8 = absurd (h1 refl)
other_vector r v P.DoubledProject h0 h1 h2 h3 h4 h5 h6 h7 h8 = absurd (h2 refl)
other_vector r v P.Direction h0 h1 h2 h3 h4 h5 h6 h7 h8 = absurd (h3 refl)
other_vector r v P.FirstGradient h0 h1 h2 h3 h4 h5 h6 h7 h8 = absurd (h4 refl)
other_vector r v P.TriedGradient h0 h1 h2 h3 h4 h5 h6 h7 h8 = absurd (h5 refl)
other_vector r v P.Project h0 h1 h2 h3 h4 h5 h6 h7 h8 = absurd (h6 refl)
other_vector r v P.FirstProject h0 h1 h2 h3 h4 h5 h6 h7 h8 = absurd (h7 refl)
other_vector r v P.TriedProject h0 h1 h2 h3 h4 h5 h6 h7 h8 = absurd (h8 refl)
other_vector r v _ h0 h1 h2 h3 h4 h5 h6 h7 h8 = refl

pub vector_else : (s : Solve) (l : List Float) (v : List Float) → (s.phase ≡ P.Gradient → ⊥) → (s.phase ≡ P.Shifted → ⊥) → (s.phase ≡ P.DoubledProject → ⊥) → (s.phase ≡ P.Direction → ⊥) → (s.phase ≡ P.FirstGradient → ⊥) → (s.phase ≡ P.TriedGradient → ⊥) → (s.phase ≡ P.Project → ⊥) → (s.phase ≡ P.FirstProject → ⊥) → (s.phase ≡ P.TriedProject → ⊥) → turns (run_of s l) 7 ≡ answered binary64 (run_of s l) Reply.vector v
vector_else s l v h0 h1 h2 h3 h4 h5 h6 h7 h8 = other_vector (run_of s l) v s.phase h0 h1 h2 h3 h4 h5 h6 h7 h8 ∙ sym (at_phase s l Reply.vector v s.phase refl)

other_decision : (r : M.Run) (t : Bool) (v : List Float) (p : Phase) → (p ≡ P.Time → ⊥) → turns r 7 ≡ answered_at binary64 r (phase_of p) (reply_of (decided t)) v
unfolding answered_at taken as_decision
other_decision r t v P.Time h = absurd (h refl)
other_decision r true v _ h = refl
other_decision r false v _ h = refl

pub decision_else : (s : Solve) (l : List Float) (t : Bool) (v : List Float) → (s.phase ≡ P.Time → ⊥) → turns (run_of s l) 7 ≡ answered binary64 (run_of s l) (reply_of (decided t)) v
decision_else s l t v h = other_decision (run_of s l) t v s.phase h ∙ sym (at_phase s l (reply_of (decided t)) v s.phase refl)

-- ---- what is wanted
module _ (s : Solve) (l : List Float) where
  -- of a run in range
  pub wanted_some : (w : Option Kind) → sound (run_of s l) ≡ true → w ≡ wanted_at s.set.n (phase_of s.phase) → w ≡ wanted_by (run_of s l)
  unfolding run_of wanted_by
  wanted_some w t e = rw t e

  pub wanted_none : sound (run_of s l) ≡ false → none ≡ wanted_by (run_of s l)
  unfolding wanted_by
  wanted_none t = rw t refl

  -- ---- an answer that nothing refuses
  refused_none : (a : Reply) (vs : ℕ) → answer_refusal none a vs true ≡ 0 → ⊥
  unfolding answer_refusal
  refused_none a vs e = let y : ◌≡◌ {A = ℕ} 6 0 = e in omega (arith, y)

  -- the run is one that a start made
  pub accepted_stands : (a : Reply) (vs : ℕ) → 576 ≤ length l → answer_refusal (wanted_by (run_of s l)) a vs true ≡ 0 → Stands s l
  unfolding wanted_by
  accepted_stands a vs p e = by (sound (run_of s l)) refl e
    where
      by : (t : Bool) → sound (run_of s l) ≡ t → answer_refusal (cond t (wanted_at (run_of s l).set.n (run_of s l).phase) none) a vs true ≡ 0 → Stands s l
      by true q z = sound_stands s l p q
      by false q z = absurd (refused_none a vs z)

  -- a vector has n places
  length_of : (vs : ℕ) → ◌≡◌ {A = ℕ} (cond (eqb vs s.set.n && true) 0 8) 0 → vs ≡ s.set.n
  length_of vs e = by (eqb vs s.set.n) refl e
    where
      by : (t : Bool) → eqb vs s.set.n ≡ t → ◌≡◌ {A = ℕ} (cond (t && true) 0 8) 0 → vs ≡ s.set.n
      by true q z = eqb-true vs s.set.n q
      by false q z = absurd (omega arith)

  size_at : (p : M.Phase) (vs : ℕ) → answer_refusal (wanted_at s.set.n p) Reply.vector vs true ≡ 0 → vs ≡ s.set.n
  unfolding answer_refusal fits_kind fits_length fits_places given as_vector
  size_at M.Phase.over vs e = absurd (omega arith)
  size_at M.Phase.cost vs e = absurd (omega arith)
  size_at M.Phase.gradient vs e = length_of vs e
  size_at M.Phase.shifted vs e = length_of vs e
  size_at M.Phase.project vs e = length_of vs e
  size_at M.Phase.half_cost vs e = absurd (omega arith)
  size_at M.Phase.doubled_project vs e = length_of vs e
  size_at M.Phase.doubled_cost vs e = absurd (omega arith)
  size_at M.Phase.direction vs e = length_of vs e
  size_at M.Phase.first_cost vs e = absurd (omega arith)
  size_at M.Phase.first_gradient vs e = length_of vs e
  size_at M.Phase.first_project vs e = length_of vs e
  size_at M.Phase.tried_cost vs e = absurd (omega arith)
  size_at M.Phase.tried_gradient vs e = length_of vs e
  size_at M.Phase.tried_project vs e = length_of vs e
  size_at M.Phase.time vs e = absurd (omega arith)
  size_at M.Phase.last_cost vs e = absurd (omega arith)

  pub accepted_size : (vs : ℕ) → answer_refusal (wanted_by (run_of s l)) Reply.vector vs true ≡ 0 → vs ≡ s.set.n
  unfolding run_of wanted_by
  accepted_size vs e = by (sound (run_of s l)) e
    where
      by : (t : Bool) → answer_refusal (cond t (wanted_at s.set.n (phase_of s.phase)) none) Reply.vector vs true ≡ 0 → vs ≡ s.set.n
      by true z = size_at (phase_of s.phase) vs z
      by false z = absurd (refused_none Reply.vector vs z)

  -- a failure ends the run
  failed_at : (c vs : ℕ) (v : List Float) (w : Option Kind) (m : Moves M.Left w) → answer_refusal w (Reply.failure c) vs true ≡ 0
      → taken (λ k. M.fails k (run_of s l)) (turns (run_of s l) 7) w m (Reply.failure c) v ≡ M.fails c (run_of s l)
  unfolding taken
  failed_at c vs v none m z = absurd (refused_none (Reply.failure c) vs z)
  failed_at c vs v (some k) m z = refl

  pub failure_taken : (c : ℕ) (vs : ℕ) (v : List Float) → answer_refusal (wanted_by (run_of s l)) (Reply.failure c) vs true ≡ 0 → ended s (O.Failed c) l ≡ answered binary64 (run_of s l) (Reply.failure c) v
  unfolding run_of wanted_by answered answered_at
  failure_taken c vs v e = by (sound (run_of s l)) e
    where
      by : (t : Bool) → answer_refusal (cond t (wanted_at s.set.n (phase_of s.phase)) none) (Reply.failure c) vs true ≡ 0 → ended s (O.Failed c) l ≡ answered binary64 (run_of s l) (Reply.failure c) v
      by true z = sym (failed_at c vs v (wanted_at s.set.n (phase_of s.phase)) (move_at binary64 (run_of s l) (phase_of s.phase)) z)
      by false z = absurd (refused_none (Reply.failure c) vs z)

pub ruleset numbers = (number_cost, number_half_cost, number_doubled_cost, number_first_cost, number_tried_cost, number_last_cost, number_else)

pub ruleset vectors = (vector_gradient, vector_shifted, vector_doubled_project, vector_direction, vector_first_gradient, vector_tried_gradient, vector_project, vector_first_project, vector_tried_project, vector_else)

pub ruleset decisions = (decision_time, decision_else)

pub ruleset accepted = (accepted_stands, accepted_size, failure_taken)

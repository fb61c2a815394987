-- An answer that nothing refuses is of the kind that its phase waits for. Assumes nothing.
use Rattle.std.proofs.Common.{◌≡◌, refl, ap, sym, subst, ◌∙◌, ℕ, Bool, true, false, cond, List, length, Float, arith}
use Rattle.std.proofs.Math.Option.{none}
use Rattle.std.specs.Float.{binary64}
use Rattle.model.specs.Refusals.{Reply, answer_refusal, fits_kind, fits_length, fits_places, given, as_number, as_vector, as_decision, may_fail}
use Rattle.machine.specs.InnerRest.{sound}
use Rattle.machine.specs.InnerAnswer.{wanted_at, wanted_by, answered}
use Rattle.panoc_engine.specs.declared.panoc_cache.Reply as C
use Rattle.panoc_engine.specs.declared.panoc_cache.Reply.TheVariants.{Failure}
use Rattle.panoc_engine.specs.declared.outcome.Outcome.TheVariants as O
use Rattle.machine.specs.InnerRun as M
use Rattle.machine.specs.InnerMoves as Move
use Rattle.panoc_engine.specs.declared.panoc_cache.Phase.{Phase}
use Rattle.panoc_engine.specs.declared.panoc_cache.Phase.TheVariants as P
use Rattle.panoc_engine.specs.declared.panoc_cache.Solve.{Solve}
use Rattle.panoc_engine.specs.Values.{phase_of, reply_of, decided}
use Rattle.panoc_engine.specs.Runs.{run_of, ended}
use Rattle.panoc_engine.proofs.Answered.{accepted_stands, accepted_size, number_cost, number_half_cost, number_doubled_cost, number_first_cost, number_tried_cost, number_last_cost, vector_gradient, vector_shifted, vector_doubled_project, vector_direction, vector_first_gradient, vector_tried_gradient, vector_project, vector_first_project, vector_tried_project, decision_time, failure_taken}
use Rattle.panoc_fields.specs.declared.fields.InnerFields.{InnerFields}
use Rattle.panoc_fields.specs.Fields.{solve_at, run_at, doubling_cost, seen, exact}

ended_not : ◌≡◌ {A = ℕ} 6 0 → ⊥
ended_not e = omega (arith, e)

kind_not : ◌≡◌ {A = ℕ} 7 0 → ⊥
kind_not e = omega (arith, e)

-- the phase waits for such an answer
waits_at : (s : Solve) (l : List Float) (a : Reply) (vs : ℕ) → answer_refusal (wanted_by (run_of s l)) a vs true ≡ 0 → answer_refusal (wanted_at s.set.n (phase_of s.phase)) a vs true ≡ 0
unfolding run_of wanted_by answer_refusal
waits_at s l a vs e = by (sound (run_of s l)) e
  where
    by : (t : Bool) → answer_refusal (cond t (wanted_at s.set.n (phase_of s.phase)) none) a vs true ≡ 0 → answer_refusal (wanted_at s.set.n (phase_of s.phase)) a vs true ≡ 0
    by true z = z
    by false z = absurd (ended_not z)

numbered : (n : ℕ) (x : Float) (p : Phase) → answer_refusal (wanted_at n (phase_of p)) (Reply.number x) 0 true ≡ 0
    → (p ≡ P.Cost → ⊥) → (p ≡ P.HalfCost → ⊥) → (p ≡ P.DoubledCost → ⊥) → (p ≡ P.FirstCost → ⊥) → (p ≡ P.TriedCost → ⊥) → (p ≡ P.LastCost → ⊥) → ⊥
unfolding answer_refusal fits_kind fits_length fits_places given as_number as_vector as_decision may_fail
numbered n x P.Cost e h0 h1 h2 h3 h4 h5 = h0 refl
numbered n x P.HalfCost e h0 h1 h2 h3 h4 h5 = h1 refl
numbered n x P.DoubledCost e h0 h1 h2 h3 h4 h5 = h2 refl
numbered n x P.FirstCost e h0 h1 h2 h3 h4 h5 = h3 refl
numbered n x P.TriedCost e h0 h1 h2 h3 h4 h5 = h4 refl
numbered n x P.LastCost e h0 h1 h2 h3 h4 h5 = h5 refl
numbered n x P.Over e h0 h1 h2 h3 h4 h5 = ended_not e
numbered n x P.Gradient e h0 h1 h2 h3 h4 h5 = kind_not e
numbered n x P.Shifted e h0 h1 h2 h3 h4 h5 = kind_not e
numbered n x P.Project e h0 h1 h2 h3 h4 h5 = kind_not e
numbered n x P.DoubledProject e h0 h1 h2 h3 h4 h5 = kind_not e
numbered n x P.Direction e h0 h1 h2 h3 h4 h5 = kind_not e
numbered n x P.FirstGradient e h0 h1 h2 h3 h4 h5 = kind_not e
numbered n x P.FirstProject e h0 h1 h2 h3 h4 h5 = kind_not e
numbered n x P.TriedGradient e h0 h1 h2 h3 h4 h5 = kind_not e
numbered n x P.TriedProject e h0 h1 h2 h3 h4 h5 = kind_not e
numbered n x P.Time e h0 h1 h2 h3 h4 h5 = kind_not e

pub number_only : (s : Solve) (l : List Float) (x : Float) → answer_refusal (wanted_by (run_of s l)) (Reply.number x) 0 true ≡ 0
    → (s.phase ≡ P.Cost → ⊥) → (s.phase ≡ P.HalfCost → ⊥) → (s.phase ≡ P.DoubledCost → ⊥) → (s.phase ≡ P.FirstCost → ⊥) → (s.phase ≡ P.TriedCost → ⊥) → (s.phase ≡ P.LastCost → ⊥) → ⊥
number_only s l x e = numbered s.set.n x s.phase (waits_at s l (Reply.number x) 0 e)

vectored : (n vs : ℕ) (p : Phase) → answer_refusal (wanted_at n (phase_of p)) Reply.vector vs true ≡ 0
    → (p ≡ P.Gradient → ⊥) → (p ≡ P.Shifted → ⊥) → (p ≡ P.DoubledProject → ⊥) → (p ≡ P.Direction → ⊥) → (p ≡ P.FirstGradient → ⊥) → (p ≡ P.TriedGradient → ⊥) → (p ≡ P.Project → ⊥) → (p ≡ P.FirstProject → ⊥) → (p ≡ P.TriedProject → ⊥) → ⊥
unfolding answer_refusal fits_kind fits_length fits_places given as_number as_vector as_decision may_fail
vectored n vs P.Gradient e h0 h1 h2 h3 h4 h5 h6 h7 h8 = h0 refl
vectored n vs P.Shifted e h0 h1 h2 h3 h4 h5 h6 h7 h8 = h1 refl
vectored n vs P.DoubledProject e h0 h1 h2 h3 h4 h5 h6 h7 h8 = h2 refl
vectored n vs P.Direction e h0 h1 h2 h3 h4 h5 h6 h7 h8 = h3 refl
vectored n vs P.FirstGradient e h0 h1 h2 h3 h4 h5 h6 h7 h8 = h4 refl
vectored n vs P.TriedGradient e h0 h1 h2 h3 h4 h5 h6 h7 h8 = h5 refl
vectored n vs P.Project e h0 h1 h2 h3 h4 h5 h6 h7 h8 = h6 refl
vectored n vs P.FirstProject e h0 h1 h2 h3 h4 h5 h6 h7 h8 = h7 refl
vectored n vs P.TriedProject e h0 h1 h2 h3 h4 h5 h6 h7 h8 = h8 refl
vectored n vs P.Over e h0 h1 h2 h3 h4 h5 h6 h7 h8 = ended_not e
vectored n vs P.Cost e h0 h1 h2 h3 h4 h5 h6 h7 h8 = kind_not e
vectored n vs P.HalfCost e h0 h1 h2 h3 h4 h5 h6 h7 h8 = kind_not e
vectored n vs P.DoubledCost e h0 h1 h2 h3 h4 h5 h6 h7 h8 = kind_not e
vectored n vs P.FirstCost e h0 h1 h2 h3 h4 h5 h6 h7 h8 = kind_not e
vectored n vs P.TriedCost e h0 h1 h2 h3 h4 h5 h6 h7 h8 = kind_not e
vectored n vs P.Time e h0 h1 h2 h3 h4 h5 h6 h7 h8 = kind_not e
vectored n vs P.LastCost e h0 h1 h2 h3 h4 h5 h6 h7 h8 = kind_not e

pub vector_only : (s : Solve) (l : List Float) (vs : ℕ) → answer_refusal (wanted_by (run_of s l)) Reply.vector vs true ≡ 0
    → (s.phase ≡ P.Gradient → ⊥) → (s.phase ≡ P.Shifted → ⊥) → (s.phase ≡ P.DoubledProject → ⊥) → (s.phase ≡ P.Direction → ⊥) → (s.phase ≡ P.FirstGradient → ⊥) → (s.phase ≡ P.TriedGradient → ⊥) → (s.phase ≡ P.Project → ⊥) → (s.phase ≡ P.FirstProject → ⊥) → (s.phase ≡ P.TriedProject → ⊥) → ⊥
vector_only s l vs e = vectored s.set.n vs s.phase (waits_at s l Reply.vector vs e)

decides : (n : ℕ) (t : Bool) (p : Phase) → answer_refusal (wanted_at n (phase_of p)) (reply_of (decided t)) 0 true ≡ 0 → (p ≡ P.Time → ⊥) → ⊥
unfolding answer_refusal fits_kind fits_length fits_places given as_number as_vector as_decision may_fail
decides n t P.Time e h = h refl
decides n true P.Over e h = ended_not e
decides n false P.Over e h = ended_not e
decides n true P.Cost e h = kind_not e
decides n false P.Cost e h = kind_not e
decides n true P.Gradient e h = kind_not e
decides n false P.Gradient e h = kind_not e
decides n true P.Shifted e h = kind_not e
decides n false P.Shifted e h = kind_not e
decides n true P.Project e h = kind_not e
decides n false P.Project e h = kind_not e
decides n true P.HalfCost e h = kind_not e
decides n false P.HalfCost e h = kind_not e
decides n true P.DoubledProject e h = kind_not e
decides n false P.DoubledProject e h = kind_not e
decides n true P.DoubledCost e h = kind_not e
decides n false P.DoubledCost e h = kind_not e
decides n true P.Direction e h = kind_not e
decides n false P.Direction e h = kind_not e
decides n true P.FirstCost e h = kind_not e
decides n false P.FirstCost e h = kind_not e
decides n true P.FirstGradient e h = kind_not e
decides n false P.FirstGradient e h = kind_not e
decides n true P.FirstProject e h = kind_not e
decides n false P.FirstProject e h = kind_not e
decides n true P.TriedCost e h = kind_not e
decides n false P.TriedCost e h = kind_not e
decides n true P.TriedGradient e h = kind_not e
decides n false P.TriedGradient e h = kind_not e
decides n true P.TriedProject e h = kind_not e
decides n false P.TriedProject e h = kind_not e
decides n true P.LastCost e h = kind_not e
decides n false P.LastCost e h = kind_not e

pub decision_only : (s : Solve) (l : List Float) (t : Bool) → answer_refusal (wanted_by (run_of s l)) (reply_of (decided t)) 0 true ≡ 0 → (s.phase ≡ P.Time → ⊥) → ⊥
decision_only s l t e = decides s.set.n t s.phase (waits_at s l (reply_of (decided t)) 0 e)

-- COST at the half step or while doubling
pub doubling_half : (p : Phase) (x : Float) (r : M.Run) → p ≡ P.HalfCost → Move.half_cost binary64 x r ≡ doubling_cost p x r
doubling_half p x r e = rw e refl

pub doubling_else : (p : Phase) (x : Float) (r : M.Run) → (p ≡ P.HalfCost → ⊥) → Move.doubled_cost binary64 x r ≡ doubling_cost p x r
doubling_else P.HalfCost x r h = absurd (h refl)
doubling_else _ x r h = refl

pub half_answered : (s : Solve) (l v : List Float) (x : Float) → s.phase ≡ P.HalfCost → doubling_cost s.phase x (run_of s l) ≡ answered binary64 (run_of s l) (Reply.number x) v
half_answered s l v x e = sym (doubling_half s.phase x (run_of s l) e) ∙ number_half_cost s l v x e

pub doubled_answered : (s : Solve) (l v : List Float) (x : Float) → s.phase ≡ P.DoubledCost → doubling_cost s.phase x (run_of s l) ≡ answered binary64 (run_of s l) (Reply.number x) v
doubled_answered s l v x e = ap (λ (p : Phase). doubling_cost p x (run_of s l)) e ∙ number_doubled_cost s l v x e

-- a failure that nothing refuses
pub failure_so : (was is : InnerFields) (b v : List Float) (a : C.Reply) (k c : ℕ) → a ≡ Failure c → answer_refusal (wanted_by (run_at was b)) (reply_of a) (length v) true ≡ 0
    → seen k is b ≡ exact (ended (solve_at was) (O.Failed c) b) was.end → seen k is b ≡ exact (answered binary64 (run_at was b) (reply_of a) v) was.end
failure_so was is b v a k c e z g =
    let y = subst (λ (x : C.Reply). answer_refusal (wanted_by (run_at was b)) (reply_of x) (length v) true ≡ 0) e z in
    g
    ∙ ap (λ (l : M.Left). exact l was.end)
    (failure_taken (solve_at was) b c (length v) v y ∙ ap (λ (x : C.Reply). answered binary64 (run_at was b) (reply_of x) v) (sym e))

pub ruleset numbers = (accepted_stands, number_cost, half_answered, doubled_answered, number_first_cost, number_tried_cost, number_last_cost, number_only)

pub ruleset vectors = (accepted_stands, accepted_size, vector_gradient, vector_shifted, vector_doubled_project, vector_direction, vector_first_gradient, vector_tried_gradient, vector_project, vector_first_project, vector_tried_project, vector_only)

pub ruleset decisions = (accepted_stands, decision_time, decision_only)

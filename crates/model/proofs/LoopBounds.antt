-- How many questions a run of the loop asks at most: the client's K × (35 + 56 × M) + 1. Assumes nothing.
use Prim.Native.Nat.{ℕ, zero, suc, ◌+◌, ◌*◌, ◌≤◌}
use Rattle.std.specs.Prelude.{◌||◌, List, eqb, Float}
use native.Mathlib.Omega.{arith}
use Rattle.std.specs.Float.{Format}
use Rattle.std.specs.Float.Ieee.{is_nan}
use Rattle.model.specs.Process.{Status, converged, not_converged_iterations, not_converged_out_of_time, Loop}
use Rattle.model.specs.Inner.{solve}
use Rattle.model.specs.Loop.{LoopSettings, LoopState, Found}
use Rattle.model.specs.Loop as Outer
use Rattle.model.specs.Bounds.{AtMost, worst_case}
use Rattle.model.proofs.Bounds.{at_most_cond, at_most_more, at_most_within, solve_questions_at_most}

module _ (f : Format) (s : LoopSettings) where
  conclude_at_most : (e : Status) (st : LoopState) → AtMost (λ q. 1) (Outer.conclude f s e st) 1
  unfolding Outer.conclude Outer.concluded
  conclude_at_most e st = (0, omega arith, λ v. at_most_cond _ _ (is_nan st.delta_y || is_nan st.f2) _ _ tt tt)

  -- an iteration after which n remain
  module _ (next : Status → LoopState → Loop) (n : ℕ) (last : 1 ≤ n) (go : (e : Status) (st : LoopState) → AtMost (λ q. 1) (next e st) n) where
    weighed_at_most : (r : Found) → AtMost (λ q. 1) (Outer.weighed f s next r) n
    unfolding Outer.weighed
    weighed_at_most r = at_most_cond _ _ (Outer.exits f s r) _ _ (at_most_more _ (Outer.conclude f s _ _) _ n last (conclude_at_most _ _)) (go _ _)

    f2_at_most : (r : Found) → AtMost (λ q. 1) (Outer.ask_f2 f s next r) (n + 1)
    unfolding Outer.ask_f2 Outer.got_f2
    f2_at_most r =
        at_most_cond _ _ (eqb s.n2 0) _ _ (at_most_more _ (Outer.weighed f s next r) n _ (omega arith) (weighed_at_most r))
        (n, omega arith, λ z. weighed_at_most _)

    f1_at_most : (r : Found) → AtMost (λ q. 1) (Outer.ask_f1 f s next r) (n + 3)
    unfolding Outer.ask_f1 Outer.got_f1 Outer.got_c
    f1_at_most r =
        at_most_cond _ _ (eqb s.n1 0) _ _ (at_most_more _ (Outer.ask_f2 f s next r) (n + 1) _ (omega arith) (f2_at_most r))
        (n + 2, omega arith, λ v. (n + 1, omega arith, λ p. f2_at_most _))

    inner_at_most : (st : LoopState) → AtMost (λ q. 1) (Outer.inner_solve f s next st) (30 + 56 * s.limit + (n + 3))
    unfolding Outer.inner_solve Outer.solved Outer.inner_settings
    inner_at_most st =
        at_most_within (λ q. 1) _ (Outer.solved f s next (Outer.carried_of st)) (n + 3) (λ h. f1_at_most _) (solve f (Outer.inner_settings s st) st.u) _
        (solve_questions_at_most f (Outer.inner_settings s st) st.u)

    iteration_at_most : (st : LoopState) → AtMost (λ q. 1) (Outer.iteration f s next st) (34 + 56 * s.limit + n)
    unfolding Outer.iteration Outer.got_y
    iteration_at_most st =
        at_most_cond _ _ s.set_y _ _ (30 + 56 * s.limit + (n + 3), omega arith, λ y. inner_at_most _)
        (at_most_more _ (Outer.inner_solve f s next st) _ _ (omega arith) (inner_at_most st))

    begins_at_most : (st : LoopState) → AtMost (λ q. 1) (Outer.begins f s next st) (35 + 56 * s.limit + n)
    unfolding Outer.begins Outer.timed Outer.out_of_time
    begins_at_most st =
        at_most_cond _ _ s.limited _ _ (
          34 + 56 * s.limit + n,
          omega arith,
          λ t.
              at_most_cond _ _ t _ _ (iteration_at_most st)
              (at_most_cond _ _ (eqb st.outer 0) _ _ tt (at_most_more _ (Outer.conclude f s _ st) 1 _ (omega arith) (conclude_at_most _ st))),
        )
        (at_most_more _ (Outer.iteration f s next st) _ _ (omega arith) (iteration_at_most st))

  iterations_at_most : (l : ℕ) (e : Status) (st : LoopState) → AtMost (λ q. 1) (Outer.iterations f s l e st) (l * (35 + 56 * s.limit) + 1)
  unfolding Outer.iterations
  iterations_at_most zero e st = at_most_more _ (Outer.conclude f s _ st) 1 _ (omega arith) (conclude_at_most _ st)
  iterations_at_most (suc l) converged st =
      at_most_more _ (Outer.begins f s (Outer.iterations f s l) st) _ _ (omega arith)
      (begins_at_most (Outer.iterations f s l) (l * (35 + 56 * s.limit) + 1) (omega arith) (iterations_at_most l) st)
  iterations_at_most (suc l) not_converged_iterations st =
      at_most_more _ (Outer.begins f s (Outer.iterations f s l) st) _ _ (omega arith)
      (begins_at_most (Outer.iterations f s l) (l * (35 + 56 * s.limit) + 1) (omega arith) (iterations_at_most l) st)
  iterations_at_most (suc l) not_converged_out_of_time st = at_most_more _ (Outer.conclude f s _ st) 1 _ (omega arith) (conclude_at_most _ st)

  -- K = s.outer and M = s.limit
  pub loop_at_most : (u : List Float) (c : Float) (y : List Float) → AtMost (λ q. 1) (Outer.loop f s u c y) (worst_case s.outer s.limit)
  unfolding Outer.loop worst_case
  loop_at_most u c y =
      at_most_more _ (Outer.loop f s u c y) (s.outer * (35 + 56 * s.limit) + 1) _ (omega arith) (iterations_at_most s.outer converged (Outer.first_state f s u c y))

-- ---- psi and d_psi

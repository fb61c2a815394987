-- The theorems for every start, accepted or refused: they ask nothing of settings and lengths, as the start's own tests do and a refused start has no run. Assumes nothing.
use Rattle.std.specs.Prelude.{ℕ, zero, suc, ◌+◌, ◌*◌, ◌≤◌, ◌≡◌, Bool, true, false, ◌&&◌, not, cond, List, [], ◌∷◌, T, eqb, leb, ltb, Float, length}
use Rattle.std.proofs.Math.Path.{refl}
use Rattle.std.proofs.Common.{sym, arith, eqb-true, ltb-true}
use Rattle.std.specs.Float.{Format}
use Rattle.std.specs.Float.Ieee.{lt}
use Rattle.std.specs.Float.Ieee.Scale.{finite}
use Rattle.ieee.specs.Numbers.{null}
use Rattle.ieee.specs.Order.{upward}
use Rattle.ieee.proofs.Order.{above_zero}
use Rattle.model.specs.Process.{Process, converged}
use Rattle.model.specs.State.{Settings}
use Rattle.model.specs.Loop.{LoopSettings}
use Rattle.model.specs.Psi.{Sizes}
use Rattle.model.specs.Refusals.{sizes_right, xi_length, mappings_right, limit_right, tolerance_right, akkt_right, loop_numbers_right, inner_refusal, loop_refusal, penalty_in, multipliers_in, or_refused, start_inner, start_loop, start_psi, start_d_psi}
use Rattle.model.proofs.Facts.{and_left, and_right}
use Rattle.model.proofs.Table.{inner_rows, loop_rows}
use Rattle.model.specs.Bounds.{AtMost, Weights, weigh, solve_bound, worst_case}
use Rattle.model.proofs.Bounds.{solve_at_most, solve_questions_at_most, psi_at_most, d_psi_at_most}
use Rattle.model.proofs.LoopBounds.{loop_at_most}
use Rattle.model.specs.Paths.{Watch, Along}
use Rattle.model.specs.Scoring.{seen, seen_in_loop, nothing_yet, tracing, Traced}
use Rattle.model.specs.Counts.{counting, Counted, SolveCount, LoopCount}
use Rattle.model.specs.Plans.{scoring, Ends, SolvePlan, LoopPlan}
use Rattle.model.proofs.EverySolve.{solve_traced, solve_ends, solve_counted}
use Rattle.model.proofs.EveryLoop.{loop_traced, loop_ends, loop_counted, one_outer_never_converged}

-- ---- what an accepted start says

right_size : (n us : ℕ) → sizes_right n us ≡ true → us ≡ n
unfolding sizes_right
right_size n us e = eqb-true us n (and_right (leb n 64) (eqb us n) (and_right (ltb 0 n) (leb n 64 && eqb us n) e))

right_tolerance : (t : Float) → tolerance_right t ≡ true → T (upward t)
unfolding tolerance_right
right_tolerance t e = above_zero t (and_right (finite t) (lt null t) e)

right_limit : (most m : ℕ) → limit_right most m ≡ true → 1 ≤ m
unfolding limit_right
right_limit most m e = ltb-true 0 m (and_left (ltb 0 m) (leb m most) e)

right_mappings : (n1 n2 : ℕ) (set_y : Bool) (xis : ℕ) → mappings_right n1 n2 set_y xis ≡ true → xis ≡ xi_length n1 n2
unfolding mappings_right
right_mappings n1 n2 set_y xis e =
    let sizes = eqb xis (xi_length n1 n2) && not (set_y && eqb n1 0) in
    eqb-true xis (xi_length n1 n2) (and_left (eqb xis (xi_length n1 n2)) (not (set_y && eqb n1 0)) (and_right (leb n2 32) sizes (and_right (leb n1 32) (leb n2 32 && sizes) e)))

-- a xi of the right length has n1 multipliers
right_multipliers : (n1 : ℕ) (b c : Bool) → b ≡ eqb n1 0 → (xi : List Float) → length xi ≡ cond (b && c) 0 (n1 + 1) → length (multipliers_in xi) ≡ n1
unfolding multipliers_in
right_multipliers n1 true true z [] e = sym (eqb-true n1 0 (sym z))
right_multipliers n1 true false z [] e = absurd (omega arith)
right_multipliers n1 false c z [] e = absurd (omega arith)
right_multipliers n1 true true z (x ∷ y) e = absurd (omega arith)
right_multipliers n1 true false z (x ∷ y) e = omega arith
right_multipliers n1 false c z (x ∷ y) e = omega arith

-- ---- a refused start has no run

at_most_or_refused : {Q H : Type 0} (w : Q → ℕ) (k : ℕ) (p : Process Q H) (b : ℕ) → AtMost w p b → AtMost w (or_refused k p) b
unfolding or_refused
at_most_or_refused w zero p b t = t
at_most_or_refused w (suc k) p b t = tt

along_or_refused : {Q H S : Type 0} (w : Watch Q S) (P : S → H → Type 0) (x : S) (k : ℕ) (p : Process Q H) → (k ≡ 0 → Along w P x p) → Along w P x (or_refused k p)
unfolding or_refused
along_or_refused w P x zero p t = t refl
along_or_refused w P x (suc k) p t = tt

-- ---- the inner solve

module _ (f : Format) (s : Settings) (u : List Float) where
  pub start_inner_at_most : (w : Weights) → AtMost (weigh w) (start_inner f s u) (solve_bound w s.limit)
  unfolding start_inner
  start_inner_at_most w = at_most_or_refused (weigh w) _ _ _ (solve_at_most f s w u)

  pub start_inner_questions_at_most : AtMost (λ q. 1) (start_inner f s u) (30 + 56 * s.limit)
  unfolding start_inner
  start_inner_questions_at_most = at_most_or_refused (λ q. 1) _ _ _ (solve_questions_at_most f s u)

  pub start_inner_traced : Traced f seen nothing_yet (start_inner f s u)
  unfolding start_inner
  start_inner_traced = along_or_refused (tracing f seen) _ _ _ _ (λ e. solve_traced f s u)

  pub start_inner_counted : Counted SolveCount (record { solves = 0; scores = 0 }) (start_inner f s u)
  unfolding start_inner
  start_inner_counted = along_or_refused counting _ _ _ _ (λ e. solve_counted f s u)

  inner_size : inner_refusal s u ≡ 0 → length u ≡ s.n
  inner_size e = right_size _ _ ((inner_rows s u).none.0 e).0

  inner_tolerance : inner_refusal s u ≡ 0 → T (upward s.tolerance)
  inner_tolerance e = right_tolerance s.tolerance (and_left _ (akkt_right s.akkt) ((inner_rows s u).none.0 e).1.1.1)

  pub start_inner_ends : Ends (SolvePlan s) [] (start_inner f s u)
  unfolding start_inner
  start_inner_ends = along_or_refused scoring _ _ _ _ (λ e. solve_ends f s u (inner_tolerance e) (inner_size e))

-- ---- the loop

module _ (f : Format) (s : LoopSettings) (u xi : List Float) where
  pub start_loop_at_most : AtMost (λ q. 1) (start_loop f s u xi) (worst_case s.outer s.limit)
  unfolding start_loop
  start_loop_at_most = at_most_or_refused (λ q. 1) _ _ _ (loop_at_most f s u (penalty_in xi) (multipliers_in xi))

  pub start_loop_traced : Traced f seen_in_loop nothing_yet (start_loop f s u xi)
  unfolding start_loop
  start_loop_traced = along_or_refused (tracing f seen_in_loop) _ _ _ _ (λ e. loop_traced f s u (penalty_in xi) (multipliers_in xi))

  pub start_loop_counted : Counted LoopCount (record { solves = 0; scores = 0 }) (start_loop f s u xi)
  unfolding start_loop
  start_loop_counted = along_or_refused counting _ _ _ _ (λ e. loop_counted f s u (penalty_in xi) (multipliers_in xi))

  pub start_one_outer_never_converged : 1 ≤ s.n1 → s.outer ≡ 1 → Ends (λ scores h. h.status ≡ converged → ⊥) [] (start_loop f s u xi)
  unfolding start_loop
  start_one_outer_never_converged n1 one = along_or_refused scoring _ _ _ _ (λ e. one_outer_never_converged f s u (penalty_in xi) (multipliers_in xi) n1 one)

  module _ (e : loop_refusal f s u xi ≡ 0) where
    loop_size : length u ≡ s.n
    loop_size = right_size _ _ ((loop_rows f s u xi).none.0 e).0

    loop_multipliers : length (multipliers_in xi) ≡ s.n1
    unfolding xi_length
    loop_multipliers =
        right_multipliers s.n1 (eqb s.n1 0) (eqb s.n2 0) refl xi
        (right_mappings s.n1 s.n2 s.set_y (length xi) ((loop_rows f s u xi).none.0 e).1.1.0)

    loop_some : 1 ≤ s.outer
    loop_some = right_limit 1000 s.outer (and_right (limit_right 10000 s.limit) _ ((loop_rows f s u xi).none.0 e).1.1.1.0)

    loop_tolerance : T (upward s.tolerance)
    unfolding loop_numbers_right
    loop_tolerance = right_tolerance s.tolerance (and_left _ _ ((loop_rows f s u xi).none.0 e).1.1.1.1.0)

  pub start_loop_ends : Ends (LoopPlan f s) [] (start_loop f s u xi)
  unfolding start_loop
  start_loop_ends =
      along_or_refused scoring _ _ _ _ (λ e. loop_ends f s u (penalty_in xi) (multipliers_in xi) (loop_tolerance e) (loop_some e) (loop_size e) (loop_multipliers e))

-- ---- psi and d_psi

module _ (f : Format) (s : Sizes) (u xi : List Float) where
  pub start_psi_at_most : AtMost (λ q. 1) (start_psi f s u xi) 4
  unfolding start_psi
  start_psi_at_most = at_most_or_refused (λ q. 1) _ _ _ (psi_at_most f s u (penalty_in xi) (multipliers_in xi))

  pub start_d_psi_at_most : AtMost (λ q. 1) (start_d_psi f s u xi) 6
  unfolding start_d_psi
  start_d_psi_at_most = at_most_or_refused (λ q. 1) _ _ _ (d_psi_at_most f s u (penalty_in xi) (multipliers_in xi))

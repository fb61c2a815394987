-- How many questions a run asks at most, whatever is answered: document 01, "At most 14 + 22M COST, ..", "at most 4 questions", and the client's K × (35 + 56 × M) + 1. Assumes nothing.
use Prim.Native.Nat.{ℕ, zero, suc, ◌+◌, ◌*◌, ◌≤◌}
use Rattle.std.specs.Prelude.{◌≡◌, Bool, ◌&&◌, cond, List, eqb, Float}
use Rattle.std.proofs.Common.{ap, ◌∙◌, add-one}
use Rattle.std.proofs.Math.Bool.{true, false}
use native.Mathlib.Omega.{arith}
use Rattle.std.proofs.Math.Dec.{eqb-suc-zero}
use Rattle.std.specs.Float.{Format}
use Rattle.std.specs.Float.Ieee.{lt}
use Rattle.std.specs.Float.Ieee.Scale.{finite}
use Rattle.model.specs.Constants.{max_lipschitz_constant, max_lipschitz_updates, max_linesearch_iterations}
use Rattle.model.specs.Vectors.{all_finite}
use Rattle.model.specs.Process.{handed, refused, failed, Process, ask, score, begin, stop, within, Question, Status, converged, not_converged_iterations, not_converged_out_of_time, Solve}
use Rattle.model.specs.State.{Settings, Iterate, State, step_counted}
use Rattle.model.specs.Inner.{Next, lipschitz_check_rhs, renewed, doubled, passes, entered, begun, finish, last_test, last_cost, onward, first_move, first_cost, first_gradient, first_project, tried_project, tried_gradient, tried_cost, trial, retry, search, directed, ask_direction, doubled_cost, doubled_project, doubling, half_cost, tested, step, standing, timed, laps, solve, start_cost, start_gradient, start_shifted, start_project}
use Rattle.model.specs.Psi.{Sizes}
use Rattle.model.specs.Psi as Penalty
use Rattle.model.specs.Bounds.{AtMost, Weights, all, move, moves, only_cost, only_direction, only_gradient, only_project, only_time, solve_bound, weigh}

-- ---- laws

-- a larger bound is a bound
pub at_most_more : {Q H : Type 0} (w : Q → ℕ) (p : Process Q H) (a b : ℕ) → a ≤ b → AtMost w p a → AtMost w p b
at_most_more w (ask q k continue) a b h t = (t.0, omega (arith, t.1), t.2)
at_most_more w (score half norm p) a b h t = at_most_more w p a b h t
at_most_more w (begin p) a b h t = at_most_more w p a b h t
at_most_more w (stop e) a b h t = tt

-- smaller weights weigh less
pub at_most_lighter : {Q H : Type 0} (v w : Q → ℕ) → ((q : Q) → w q ≤ v q) → (p : Process Q H) (b : ℕ) → AtMost v p b → AtMost w p b
at_most_lighter v w l (ask q k continue) b t = (t.0, omega (arith, l q, t.1), λ a. at_most_lighter v w l (continue a) t.0 (t.2 a))
at_most_lighter v w l (score half norm p) b t = at_most_lighter v w l p b t
at_most_lighter v w l (begin p) b t = at_most_lighter v w l p b t
at_most_lighter v w l (stop e) b t = tt

-- a branch of two processes that each stay below b
pub at_most_cond : {Q H : Type 0} (w : Q → ℕ) (b : ℕ) (t : Bool) (p q : Process Q H) → AtMost w p b → AtMost w q b → AtMost w (cond t p q) b
at_most_cond w b true p q x y = x
at_most_cond w b false p q x y = y

-- a process within another: the bounds add up
pub at_most_within : {Q H Q' H' : Type 0} (w : Q' → ℕ) (carry : Q → Q') (next : H → Process Q' H') (m : ℕ)
    → ((h : H) → AtMost w (next h) m) → (p : Process Q H) (b : ℕ) → AtMost (λ q. w (carry q)) p b → AtMost w (within carry next p) (b + m)
unfolding within
at_most_within w carry next m go (ask q k continue) b t =
    (t.0 + m, omega (arith, t.1), λ a. at_most_within w carry next m go (continue a) t.0 (t.2 a))
at_most_within w carry next m go (score half norm p) b t = at_most_within w carry next m go p b t
at_most_within w carry next m go (begin p) b t = at_most_within w carry next m go p b t
at_most_within w carry next m go (stop (handed h)) b t = at_most_more w (next h) m (b + m) (omega arith) (go h)
at_most_within w carry next m go (stop (refused k)) b t = tt
at_most_within w carry next m go (stop (failed c)) b t = tt

module _ (f : Format) (s : Settings) (w : Weights) where
  finish_at_most : (e : Status) (i : Iterate) → AtMost (weigh w) (finish f s e i) w.cost
  unfolding finish last_test last_cost weigh
  finish_at_most e i =
      at_most_cond _ _ (all_finite i.u) _ _ (0, omega arith, λ c. at_most_cond _ _ (finite c) _ _ tt tt) tt

  -- ---- a step after which questions of weight n remain, at least the last COST
  module _ (next : Next) (n : ℕ) (last : w.cost ≤ n) (go : (i : Iterate) → AtMost (weigh w) (next i) n) where
    onward_at_most : (e : Status) (i : Iterate) → AtMost (weigh w) (onward f s e next i) n
    unfolding onward
    onward_at_most converged i = go i
    onward_at_most not_converged_iterations i = at_most_more _ (finish f s _ i) _ n last (finish_at_most _ i)
    onward_at_most not_converged_out_of_time i = at_most_more _ (finish f s _ i) _ n last (finish_at_most _ i)

    -- the first step's move
    first_at_most : (e : Status) (i : Iterate) → AtMost (weigh w) (first_move f s e next i) (move w + n)
    unfolding first_move first_cost first_gradient first_project weigh
    first_at_most e i = (
      w.gradient + w.project + n,
      omega arith,
      λ c. (
        w.project + n,
        omega arith,
        λ g.
            at_most_cond _ _ (finite c && all_finite g) _ _ (n, omega arith, λ h. onward_at_most e _) tt,
      ),
    )

    -- a candidate, after which questions of weight m remain
    trial_at_most : (e : Status) (again : List Float → State → Solve) (m : ℕ) → n ≤ m → ((x : List Float) (st : State) → AtMost (weigh w) (again x st) m)
        → (τ v : Float) (d : List Float) (st : State) → AtMost (weigh w) (trial f s e next again τ v d st) (move w + m)
    unfolding trial tried_cost tried_gradient tried_project weigh
    trial_at_most e again m l more τ v d st = (
      w.gradient + w.project + m,
      omega arith,
      λ c. (
        w.project + m,
        omega arith,
        λ g.
            at_most_cond _ _ (finite c && all_finite g) _ _
            (m, omega arith, λ h. at_most_cond _ _ (lt v _) _ _ (more _ _) (at_most_more _ (onward f s e next _) n m l (onward_at_most e _))) tt,
      ),
    )

    retry_at_most : (k : ℕ) (e : Status) (τ v : Float) (d x : List Float) (st : State) → AtMost (weigh w) (retry f s k e next τ v d x st) (k * move w + n)
    unfolding retry
    retry_at_most zero e τ v d x st = at_most_more _ (onward f s e next _) n _ (omega arith) (onward_at_most e _)
    retry_at_most (suc k) e τ v d x st =
        at_most_more _ (trial f s e next (retry f s k e next _ v d) _ v d st) _ _ (omega arith)
        (trial_at_most e (retry f s k e next _ v d) (k * move w + n) (omega arith) (retry_at_most k e _ v d) _ v d st)

    -- the move after DIRECTION: one point in the first step, eleven candidates in a later one
    directed_at_most : (e : Status) (st : State) (d : List Float) → AtMost (weigh w) (directed f s e next st d) (moves (eqb st.at.count 0) * move w + n)
    unfolding directed search
    directed_at_most e st d = by (eqb st.at.count 0)
      where
        by : (t : Bool) → AtMost (weigh w) (cond t (first_move f s e next st.at) (search f s e next st d)) (moves t * move w + n)
        by true = at_most_more _ (first_move f s e next st.at) _ _ (omega arith) (first_at_most e st.at)
        by false =
            at_most_more _ (search f s e next st d) _ _ (omega arith)
            (trial_at_most e (retry f s max_linesearch_iterations e next _ _ d) (max_linesearch_iterations * move w + n) (omega arith) (retry_at_most max_linesearch_iterations e _ _ d) _ _ d st)

    direction_at_most : (e : Status) (forget : Bool) (st : State) → AtMost (weigh w) (ask_direction f s e next forget st) (w.direction + (moves (eqb st.at.count 0) * move w + n))
    unfolding ask_direction weigh
    direction_at_most e forget st = (moves (eqb st.at.count 0) * move w + n, omega arith, directed_at_most e _)

    -- k rounds of doubling, each PROJECT and COST
    doubling_at_most : (k : ℕ) (e : Status) (forget : Bool) (st : State) (c : Float)
        → AtMost (weigh w) (doubling f s k e next forget st c) (k * (w.project + w.cost) + (w.direction + (moves (eqb st.at.count 0) * move w + n)))
    unfolding doubling doubled_project doubled_cost renewed doubled weigh
    doubling_at_most zero e forget st c = at_most_more _ (ask_direction f s e next forget st) _ _ (omega arith) (direction_at_most e forget st)
    doubling_at_most (suc k) e forget st c =
        let m = w.direction + (moves (eqb st.at.count 0) * move w + n) in
        at_most_cond _ _ (lt (lipschitz_check_rhs f st) c && lt st.at.lipschitz (max_lipschitz_constant f)) _ _ (
          w.cost + (k * (w.project + w.cost) + m),
          omega arith,
          λ h.
              (k * (w.project + w.cost) + m, omega arith, λ v. at_most_cond _ _ (finite v) _ _ (doubling_at_most k e true _ v) tt),
        )
        (at_most_more _ (ask_direction f s e next forget st) _ _ (omega arith) (direction_at_most e forget st))

    step_at_most : (e : Status) (i : Iterate) → AtMost (weigh w) (step f s e next i) (11 * w.cost + 10 * w.project + w.direction + (moves (eqb i.count 0) * move w + n))
    unfolding step tested half_cost entered weigh
    step_at_most e i =
        let m = w.direction + (moves (eqb i.count 0) * move w + n) in
        at_most_cond _ _ (passes f s (entered f s i)) _ _
        (at_most_more _ (finish f s e (entered f s i).at) _ _ (omega arith) (finish_at_most e (entered f s i).at))
        (max_lipschitz_updates * (w.project + w.cost) + m, omega arith, λ c. at_most_cond _ _ (finite c) _ _ (doubling_at_most max_lipschitz_updates e _ (entered f s i) c) tt)

    -- a step that is not the first
    later_at_most : (e : Status) (i : Iterate) → AtMost (weigh w) (step f s e next (step_counted i)) (22 * w.cost + 11 * w.gradient + 21 * w.project + w.direction + n)
    later_at_most e i = at_most_more _ (step f s e next (step_counted i)) _ _ (omega (arith, ap (λ (k : ℕ). k * move w) later)) (step_at_most e (step_counted i))
      where
        later : moves (eqb (i.count + 1) 0) ≡ 11
        later = ap (λ (k : ℕ). moves (eqb k 0)) (add-one i.count) ∙ ap moves (eqb-suc-zero i.count)

  -- l steps more, each with its TIME, and the last COST
  abbrev laps_bound : ℕ → ℕ
  laps_bound l = l * (22 * w.cost + 11 * w.gradient + 21 * w.project + w.direction + w.time) + w.cost

  laps_at_most : (l : ℕ) (i : Iterate) → AtMost (weigh w) (laps f s l i) (laps_bound l)
  unfolding laps timed weigh
  laps_at_most zero i = at_most_more _ (finish f s _ i) _ _ (omega arith) (finish_at_most _ i)
  laps_at_most (suc l) i =
      let lap : (e : Status) → AtMost (weigh w) (step f s e (laps f s l) (step_counted i)) _ = λ e. later_at_most (laps f s l) (laps_bound l) (omega arith) (laps_at_most l) e i in
      at_most_cond _ _ s.limited _ _ (22 * w.cost + 11 * w.gradient + 21 * w.project + w.direction + laps_bound l, omega arith, λ inTime. lap _)
      (at_most_more _ (step f s (standing f s l true) (laps f s l) (step_counted i)) _ _ (omega arith) (lap _))

-- an inner solve with M = s.limit
pub solve_at_most : (f : Format) (s : Settings) (w : Weights) (u : List Float) → AtMost (weigh w) (solve f s u) (solve_bound w s.limit)
unfolding solve start_cost start_gradient start_shifted start_project begun weigh
solve_at_most f s w u =
    let n = laps_bound f s w s.limit in
    let m = 11 * w.cost + 10 * w.project + w.direction + (move w + n) in (
      2 * w.gradient + w.project + m,
      omega arith,
      λ c. (
        w.gradient + w.project + m,
        omega arith,
        λ g. (
          w.project + m,
          omega arith,
          λ g'.
              at_most_cond _ _ (finite c && all_finite g) _ _ (
                m,
                omega arith,
                λ h.
                    at_most_more _ (step f s converged (laps f s s.limit) _) _ _ (omega arith)
                    (step_at_most f s w (laps f s s.limit) n (omega arith) (laps_at_most f s w s.limit) converged _),
              ) tt,
        ),
      ),
    )

one_each : (q : Question) → 1 ≤ weigh all q
unfolding weigh
one_each (Question.cost u) = omega arith
one_each (Question.gradient u) = omega arith
one_each (Question.project u) = omega arith
one_each (Question.direction forget residual u) = omega arith
one_each Question.time = omega arith

module _ (f : Format) (s : Settings) (u : List Float) where
  pub solve_cost_at_most : AtMost (weigh only_cost) (solve f s u) (14 + 22 * s.limit)
  solve_cost_at_most = at_most_more _ (solve f s u) _ _ (omega arith) (solve_at_most f s only_cost u)

  pub solve_gradient_at_most : AtMost (weigh only_gradient) (solve f s u) (3 + 11 * s.limit)
  solve_gradient_at_most = at_most_more _ (solve f s u) _ _ (omega arith) (solve_at_most f s only_gradient u)

  pub solve_project_at_most : AtMost (weigh only_project) (solve f s u) (12 + 21 * s.limit)
  solve_project_at_most = at_most_more _ (solve f s u) _ _ (omega arith) (solve_at_most f s only_project u)

  pub solve_direction_at_most : AtMost (weigh only_direction) (solve f s u) (1 + s.limit)
  solve_direction_at_most = at_most_more _ (solve f s u) _ _ (omega arith) (solve_at_most f s only_direction u)

  pub solve_time_at_most : AtMost (weigh only_time) (solve f s u) s.limit
  solve_time_at_most = at_most_more _ (solve f s u) _ _ (omega arith) (solve_at_most f s only_time u)

  -- all of them together
  pub solve_questions_at_most : AtMost (λ q. 1) (solve f s u) (30 + 56 * s.limit)
  solve_questions_at_most =
      at_most_more _ (solve f s u) _ _ (omega arith) (at_most_lighter (weigh all) (λ q. 1) one_each (solve f s u) _ (solve_at_most f s all u))

module _ (f : Format) (s : Sizes) (u : List Float) (c : Float) (y : List Float) where
  psi_f2_at_most : (v : Float) → AtMost (λ q. 1) (Penalty.psi_ask_f2 f s u c y v) 1
  unfolding Penalty.psi_ask_f2 Penalty.psi_f2
  psi_f2_at_most v = at_most_cond _ _ (eqb s.n2 0) _ _ tt (0, omega arith, λ z. tt)

  pub psi_at_most : AtMost (λ q. 1) (Penalty.psi f s u c y) 4
  unfolding Penalty.psi Penalty.psi_cost Penalty.psi_f1 Penalty.psi_c
  psi_at_most = (
    3,
    omega arith,
    λ v.
        at_most_cond _ _ (eqb s.n1 0) _ _ (at_most_more _ (Penalty.psi_ask_f2 f s u c y v) 1 3 (omega arith) (psi_f2_at_most v))
        (2, omega arith, λ w. (1, omega arith, λ p. psi_f2_at_most _)),
  )

  d_psi_f2_at_most : (g : List Float) → AtMost (λ q. 1) (Penalty.d_psi_ask_f2 f s u c y g) 2
  unfolding Penalty.d_psi_ask_f2 Penalty.d_psi_f2 Penalty.d_psi_jf2
  d_psi_f2_at_most g = at_most_cond _ _ (eqb s.n2 0) _ _ tt (1, omega arith, λ z. (0, omega arith, λ j. tt))

  pub d_psi_at_most : AtMost (λ q. 1) (Penalty.d_psi f s u c y) 6
  unfolding Penalty.d_psi Penalty.d_psi_gradient Penalty.d_psi_f1 Penalty.d_psi_c Penalty.d_psi_jf1
  d_psi_at_most = (
    5,
    omega arith,
    λ g.
        at_most_cond _ _ (eqb s.n1 0) _ _ (at_most_more _ (Penalty.d_psi_ask_f2 f s u c y g) 2 5 (omega arith) (d_psi_f2_at_most g))
        (4, omega arith, λ w. (3, omega arith, λ p. (2, omega arith, λ j. d_psi_f2_at_most _))),
  )

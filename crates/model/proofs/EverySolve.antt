-- Every way through an inner solve: what it scores, what it hands back, how it counts, shown by one walk through its continuations. Assumes nothing.
use Prim.Native.Nat.{ℕ, zero, suc, ◌+◌, ◌≤◌}
use Rattle.std.specs.Prelude.{◌≡◌, Bool, ◌&&◌, List, [], ◌∷◌, ◌++◌, T, eqb, Float, length}
use Rattle.std.proofs.Math.Path.{refl}
use Rattle.std.proofs.Common.{sym, ap, ◌∙◌, length-append}
use Rattle.std.proofs.Math.Bool.{true}
use Rattle.std.proofs.Math.Option.{some}
use native.Mathlib.Omega.{arith}
use Rattle.std.specs.Float.{Format}
use Rattle.std.specs.Float.Ieee.{lt}
use Rattle.std.specs.Float.Ieee.Scale.{finite}
use Rattle.ieee.specs.Order.{upward}
use Rattle.ieee.specs.Sums.{norm}
use Rattle.ieee.proofs.Sums.{norm_upward}
use Rattle.model.specs.Constants.{max_lipschitz_constant, max_lipschitz_updates, max_linesearch_iterations}
use Rattle.model.specs.Vectors.{all_finite, minus}
use Rattle.model.specs.Process.{Status, converged, not_converged_iterations, not_converged_out_of_time, Solve}
use Rattle.model.specs.State.{Settings, Best, keep, Iterate, State, step_counted}
use Rattle.model.specs.Inner.{Next, lipschitz_check_rhs, renewed, doubled, passes, entered, opening, begun, finish, last_test, last_cost, onward, first_move, first_cost, first_gradient, first_project, tried_project, tried_gradient, tried_cost, trial, retry, search, directed, ask_direction, doubled_cost, doubled_project, doubling, half_cost, tested, step, standing, timed, laps, solve, start_cost, start_gradient, start_shifted, start_project}
use Rattle.model.proofs.Facts.{and_left, iterations_not, time_not, minus_size, shifted_size, candidate_size}
use Rattle.model.specs.Paths.{both, Along}
use Rattle.model.proofs.Paths.{along_cond, along_left, along_right}
use Rattle.model.specs.Scoring.{seen, Latest, nothing_yet, after, vector_in, tracing, Traced}
use Rattle.model.specs.Counts.{Tally, counting, Counted, SolveCount}
use Rattle.model.specs.Least.{Scored, Kept}
use Rattle.model.proofs.Least.{kept_none, kept_more, kept_below, half_finite}
use Rattle.model.specs.Plans.{scoring, Ends, SolvePlan}
use Rattle.model.specs.EverySolve.{SolveEnd, Trail, no_trail, watching}

-- the test that ends a solve says that the norm is below the tolerance
passes_below : (f : Format) (s : Settings) (st : State) → passes f s st ≡ true → lt st.norm s.tolerance ≡ true
unfolding passes
passes_below f s st e = and_left _ _ e

-- ---- the walk

module _ (f : Format) (s : Settings) (G : Type 0) (positive : G → T (upward s.tolerance)) (a b : ℕ) where
  -- whatever is answered from here on, all is as it should be
  abbrev Good : Trail → Solve → Type 0
  Good x p = Along (watching f seen) (SolveEnd s G a b) x p

  -- m half steps of this solve are scored, and `best` is kept of them
  record Sum (m : ℕ) (scores : List Scored) (t : Tally) (best : Best) : Type 0 where
    kept : G → Kept s.n scores best
    many : length scores ≡ m
    total : t.scores ≡ b + m
    solves : t.solves ≡ a

  -- u is the latest GRADIENT's point and `half` the latest PROJECT answer
  record Sync (x : Latest) (u half : List Float) : Type 0 where
    point : x.point ≡ some u
    answer : x.answer ≡ some half
    size : G → length u ≡ s.n
    size_half : length half ≡ s.n

  in_sync : (u half : List Float) → (G → length u ≡ s.n) → length half ≡ s.n → Sync (record { point = some u; answer = some half }) u half
  in_sync u half p q = record { point = refl; answer = refl; size = p; size_half = q }

  module _ (x : Trail) (u half : List Float) (y : Sync x.0 u half) where
    abbrev new : Float
    new = norm f (minus f u half)

    scored_right : (watching f seen).right x half new
    scored_right = (record { answer = y.answer; from = u; point = y.point; norm = refl }, (tt, tt))

    scored_sum : (m : ℕ) (best : Best) → Sum m x.1.0 x.1.1 best
        → Sum (m + 1) (x.1.0 ++ (record { half = half; norm = new } ∷ [])) (record { solves = x.1.1.solves; scores = x.1.1.scores + 1 }) (keep best half new)
    scored_sum m best c =
        record {
          kept = λ g. kept_more s.n x.1.0 best (c.kept g) half new y.size_half (norm_upward f (minus f u half)) (half_finite f u half (y.size g ∙ sym y.size_half));
          many = length-append x.1.0 _ ∙ ap (λ (k : ℕ). k + 1) c.many;
          total = omega (arith, c.total);
          solves = c.solves;
        }

    scored_below : (m : ℕ) (best : Best) → Sum m x.1.0 x.1.1 best → G → lt new s.tolerance ≡ true → lt (keep best half new).norm s.tolerance ≡ true
    scored_below m best c g below =
        kept_below s.n x.1.0 best (c.kept g) half new y.size_half (norm_upward f (minus f u half)) (half_finite f u half (y.size g ∙ sym y.size_half)) s.tolerance (positive g) below

  finish_good : (k : ℕ) → k ≤ s.limit → (e : Status) (x : Trail) (i : Iterate) → i.count ≡ k → Sum (k + 1) x.1.0 x.1.1 i.best → Sync x.0 i.u i.half
      → (e ≡ converged → lt (norm f (minus f i.u i.half)) s.tolerance ≡ true) → Good x (finish f s e i)
  unfolding finish last_test last_cost after seen vector_in
  finish_good k l e x i n c y below = (
    scored_right x i.u i.half y,
    along_cond _ _ _ (all_finite i.u) _ _ (λ t v r. along_cond _ _ _ (finite v) _ _ (λ w. record {
      plan = λ g. record {
        plan = record { chosen = (c'.kept g).chosen; size = (c'.kept g).size; whole = (c'.kept g).whole };
        converged = λ z. scored_below x i.u i.half y (k + 1) i.best c g (below z);
        steps = omega (arith, c'.many);
        within = omega arith;
      };
      solves = c'.solves;
      scores = omega (arith, c'.total);
    }) (λ w. tt)) (λ t. tt),
  )
    where
      c' : Sum (k + 1 + 1) (x.1.0 ++ (record { half = i.half; norm = norm f (minus f i.u i.half) } ∷ [])) (record { solves = x.1.1.solves; scores = x.1.1.scores + 1 }) (keep i.best i.half (norm f (minus f i.u i.half)))
      c' = scored_sum x i.u i.half y (k + 1) i.best c

  -- ---- a step, k steps having been done after the first
  module _ (k : ℕ) (l : k ≤ s.limit) (next : Next) (go : (x : Trail) (i : Iterate) → i.count ≡ k → Sum (k + 1) x.1.0 x.1.1 i.best → Sync x.0 i.u i.half → Good x (next i)) where
    onward_good : (e : Status) (x : Trail) (i : Iterate) → i.count ≡ k → Sum (k + 1) x.1.0 x.1.1 i.best → Sync x.0 i.u i.half → Good x (onward f s e next i)
    unfolding onward
    onward_good converged x i n c y = go x i n c y
    onward_good not_converged_iterations x i n c y = finish_good k l not_converged_iterations x i n c y (λ z. iterations_not z)
    onward_good not_converged_out_of_time x i n c y = finish_good k l not_converged_out_of_time x i n c y (λ z. time_not z)

    first_good : (e : Status) (x : Trail) (i : Iterate) → i.count ≡ k → Sum (k + 1) x.1.0 x.1.1 i.best → length i.half ≡ s.n → Good x (first_move f s e next i)
    unfolding first_move first_cost first_gradient first_project after seen vector_in
    first_good e x i n c m =
        λ v r g q. along_cond _ _ _ (finite v && all_finite g) _ _ (λ t h z. onward_good e _ _ n c (in_sync _ h (λ y. m) z)) (λ t. tt)

    -- u, residual and direction have n places
    record Sized (u residual d : List Float) : Type 0 where
      size_u : G → length u ≡ s.n
      size_residual : G → length residual ≡ s.n
      size_direction : length d ≡ s.n

    trial_good : (e : Status) (again : List Float → State → Solve) (d : List Float)
        → ((x : Trail) (w : List Float) (st : State) → st.at.count ≡ k → Sum (k + 1) x.1.0 x.1.1 st.at.best → Sync x.0 w st.at.half → Sized st.at.u st.residual d → Good x (again w st))
        → (τ v : Float) (x : Trail) (st : State) → st.at.count ≡ k → Sum (k + 1) x.1.0 x.1.1 st.at.best → Sized st.at.u st.residual d → Good x (trial f s e next again τ v d st)
    unfolding trial tried_cost tried_gradient tried_project after seen vector_in
    trial_good e again d more τ v x st n c z =
        λ w r g q.
        along_cond _ _ _ (finite w && all_finite g) _ _ (λ t h p.
        let y = in_sync _ h (λ o. candidate_size f s.n τ d st (z.size_u o) (z.size_residual o) z.size_direction) p in
        along_cond _ _ _ (lt v _) _ _ (λ o. more _ _ _ n c y z) (λ o. onward_good e _ _ n c y)) (λ t. tt)

    retry_good : (j : ℕ) (e : Status) (τ v : Float) (d : List Float) (x : Trail) (w : List Float) (st : State)
        → st.at.count ≡ k → Sum (k + 1) x.1.0 x.1.1 st.at.best → Sync x.0 w st.at.half → Sized st.at.u st.residual d → Good x (retry f s j e next τ v d w st)
    unfolding retry
    retry_good zero e τ v d x w st n c y z = onward_good e x _ n c y
    retry_good (suc j) e τ v d x w st n c y z = trial_good e (retry f s j e next _ v d) d (retry_good j e _ v d) _ v x st n c z

    directed_good : (e : Status) (x : Trail) (st : State) (d : List Float)
        → st.at.count ≡ k → Sum (k + 1) x.1.0 x.1.1 st.at.best → length st.at.half ≡ s.n → Sized st.at.u st.residual d → Good x (directed f s e next st d)
    unfolding directed search
    directed_good e x st d n c h z =
        along_cond _ _ _ (eqb st.at.count 0) _ _ (λ t. first_good e x st.at n c h)
        (λ t. trial_good e (retry f s max_linesearch_iterations e next _ _ d) d (retry_good max_linesearch_iterations e _ _ d) _ _ x st n c z)

    direction_good : (e : Status) (forget : Bool) (x : Trail) (st : State)
        → st.at.count ≡ k → Sum (k + 1) x.1.0 x.1.1 st.at.best → Sync x.0 st.at.u st.at.half → (G → length st.residual ≡ s.n) → Good x (ask_direction f s e next forget st)
    unfolding ask_direction after seen vector_in
    direction_good e forget x st n c y m = λ d r. directed_good e x _ d n c y.size_half (record { size_u = y.size; size_residual = m; size_direction = r })

    doubling_good : (j : ℕ) (e : Status) (forget : Bool) (x : Trail) (st : State) (v : Float)
        → st.at.count ≡ k → Sum (k + 1) x.1.0 x.1.1 st.at.best → Sync x.0 st.at.u st.at.half → (G → length st.residual ≡ s.n) → Good x (doubling f s j e next forget st v)
    unfolding doubling doubled_project doubled_cost renewed doubled after seen vector_in
    doubling_good zero e forget x st v n c y m = direction_good e forget x st n c y m
    doubling_good (suc j) e forget x st v n c y m =
        along_cond _ _ _ (lt (lipschitz_check_rhs f st) v && lt st.at.lipschitz (max_lipschitz_constant f)) _ _ (λ t h p w r.
        along_cond _ _ _ (finite w) _ _ (λ o.
        doubling_good j e true _ (renewed f s _) w n c (record { point = y.point; answer = refl; size = y.size; size_half = p }) (λ g. minus_size f s.n st.at.u h (y.size g) p)) (λ o. tt))
        (λ t. direction_good e forget x st n c y m)

    step_good : (e : Status) (x : Trail) (i : Iterate) → i.count ≡ k → Sum k x.1.0 x.1.1 i.best → Sync x.0 i.u i.half → Good x (step f s e next i)
    unfolding step tested half_cost entered after seen vector_in
    step_good e x i n c y = (
      scored_right x i.u i.half y,
      along_cond _ _ _ (passes f s (entered f s i)) _ _ (λ t. finish_good k l e _ (entered f s i).at n c' y (λ z. passes_below f s (entered f s i) t))
          (λ t v r. along_cond _ _ _ (finite v) _ _ (λ o. doubling_good max_lipschitz_updates e _ _ (entered f s i) v n c' y (λ g. minus_size f s.n i.u i.half (y.size g) y.size_half)) (λ o. tt)),
    )
      where
        c' : Sum (k + 1) (x.1.0 ++ (record { half = i.half; norm = norm f (minus f i.u i.half) } ∷ [])) (record { solves = x.1.1.solves; scores = x.1.1.scores + 1 }) (keep i.best i.half (norm f (minus f i.u i.half)))
        c' = scored_sum x i.u i.half y k i.best c

  laps_good : (j k : ℕ) → k + j ≡ s.limit → (x : Trail) (i : Iterate) → i.count ≡ k → Sum (k + 1) x.1.0 x.1.1 i.best → Sync x.0 i.u i.half → Good x (laps f s j i)
  unfolding laps timed after seen vector_in
  laps_good zero k l x i n c y = finish_good k (omega arith) not_converged_iterations x i n c y (λ z. iterations_not z)
  laps_good (suc j) k l x i n c y =
      let go = step_good (k + 1) (omega arith) (laps f s j) (laps_good j (k + 1) (omega arith)) in
      let m : i.count + 1 ≡ k + 1 = omega arith in
      along_cond _ _ _ s.limited _ _ (λ t inTime r. go (standing f s j inTime) x (step_counted i) m c y) (λ t. go (standing f s j true) x (step_counted i) m c y)

  pub solve_good : (u : List Float) → (G → length u ≡ s.n) → (x : Trail) → x.1.1.solves + 1 ≡ a → x.1.1.scores ≡ b → Good x (solve f s u)
  unfolding solve start_cost start_gradient start_shifted start_project begun opening after seen vector_in
  solve_good u m x p q =
      λ c r g o g' w.
      along_cond _ _ _ (finite c && all_finite g) _ _ (λ t h z.
      step_good 0 (omega arith) (laps f s s.limit) (laps_good s.limit 0 (omega arith)) converged _ _ refl
      (record { kept = λ y. kept_none s.n; many = refl; total = omega arith; solves = p })
      (record { point = refl; answer = refl; size = λ y. shifted_size f u ∙ m y; size_half = z })) (λ t. tt)

module _ (f : Format) (s : Settings) (u : List Float) where
  -- each scored half step is the solve's latest PROJECT answer, and its norm that of the latest GRADIENT's point minus it
  pub solve_traced : Traced f seen nothing_yet (solve f s u)
  unfolding no_trail
  solve_traced =
      along_left (tracing f seen) (both scoring counting) (SolveEnd s ⊥ 1 0) (λ x h. Unit {0}) (λ x h e. tt) no_trail (solve f s u)
      (solve_good f s ⊥ absurd 1 0 u absurd no_trail refl refl)

  -- the plan is the earliest half step of least finite norm that the solve scored
  pub solve_ends : T (upward s.tolerance) → length u ≡ s.n → Ends (SolvePlan s) [] (solve f s u)
  unfolding no_trail
  solve_ends positive size =
      along_left scoring counting (λ x h. SolvePlan s x.0 h) (SolvePlan s) (λ x h e. e) ([], record { solves = 0; scores = 0 }) (solve f s u)
      (along_right (tracing f seen) (both scoring counting) (SolveEnd s (Unit {0}) 1 0) (λ x h. SolvePlan s x.0 h) (λ x h e. e.plan tt) no_trail (solve f s u)
      (solve_good f s (Unit {0}) (λ t. positive) 1 0 u (λ t. size) no_trail refl refl))

  -- a solve counts the steps after the first
  pub solve_counted : Counted SolveCount (record { solves = 0; scores = 0 }) (solve f s u)
  unfolding no_trail
  solve_counted =
      along_right scoring counting (λ x h. SolveCount x.1 h) SolveCount (λ x h e. e) ([], record { solves = 0; scores = 0 }) (solve f s u)
      (along_right (tracing f seen) (both scoring counting) (SolveEnd s ⊥ 1 0) (λ x h. SolveCount x.1 h) (λ x h e. record { solves = e.solves; scores = omega (arith, e.scores) }) no_trail (solve f s u)
      (solve_good f s ⊥ absurd 1 0 u absurd no_trail refl refl))

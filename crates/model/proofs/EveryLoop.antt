-- Every way through the multiplier loop: what it scores, what it hands back, how it counts, shown by one walk through its continuations over that of the inner solve. Assumes nothing.
use Prim.Native.Nat.{ℕ, zero, suc, ◌+◌, ◌*◌, ◌-◌, ◌≤◌}
use Rattle.std.specs.Prelude.{◌≡◌, Bool, ◌&&◌, ◌||◌, not, cond, List, [], ◌⊎◌, T, Float, length}
use Rattle.std.proofs.Math.Path.{refl, sym, ap, subst}
use Rattle.std.proofs.Common.{◌∙◌, inl, inr, arith, add-one}
use Rattle.std.proofs.Math.Bool.{true, false}
use Rattle.std.proofs.Math.Logic.{⊎_elim}
use borrow.Author.Tests.{eqb-true, eqb-false, not-true}
use Rattle.std.proofs.Math.Dec.{eqb}
use Rattle.std.specs.Float.{Format}
use Rattle.std.specs.Float.Ieee.{add, mul, lt, le, is_nan}
use Rattle.ieee.specs.Numbers.{null}
use Rattle.ieee.specs.Order.{upward}
use Rattle.model.specs.Constants.{epsilon}
use Rattle.model.specs.Vectors.{minus}
use Rattle.model.specs.Process.{inner, Status, converged, not_converged_iterations, not_converged_out_of_time, LoopHanded, Loop}
use Rattle.model.specs.Inner.{solve}
use Rattle.model.specs.Loop.{LoopSettings, LoopState, Carried, carried_of, Found, xi_of, penalty_of, with_y, inner_settings, exits, next_akkt, concluded, conclude, counted, weighed, got_f2, ask_f2, got_c, got_f1, ask_f1, solved, inner_solve, got_y, iteration, out_of_time, timed, begins, iterations, first_state, loop}
use Rattle.model.proofs.Facts.{and_left, and_right, or_else, iterations_not, time_not, minus_size, plus_times_size}
use Rattle.model.specs.Paths.{both, Along}
use Rattle.model.proofs.Paths.{along_cond, along_within, along_left, along_right}
use Rattle.model.specs.Scoring.{seen_in_loop, nothing_yet, after, vector_in, tracing, Traced}
use Rattle.model.specs.Counts.{counting, Counted, LoopCount}
use Rattle.model.specs.Plans.{scoring, Ends, Plan, akkt_at, ExitPassed, LoopPlan}
use Rattle.model.specs.EverySolve.{Trail, watching, SolveEnd, no_trail}
use Rattle.model.proofs.EverySolve.{solve_good}
use Rattle.model.specs.EveryLoop.{LoopEnd}

-- with n1 > 0 the penalty handed back is the iteration's
penalty_is : (s : LoopSettings) (c : Float) → eqb s.n1 0 ≡ false → penalty_of s c ≡ c
unfolding penalty_of
penalty_is s c e = ap (λ (t : Bool). cond (t && eqb s.n2 0) null c) e

module _ (f : Format) (s : LoopSettings) where
  -- the exit tests passed, on where the loop stands when it ends
  record Exit (st : LoopState) : Type 0 where
    multipliers : (s.n1 ≡ 0) ⊎ ((2 ≤ st.outer) × (le st.delta_y (add f (mul f (penalty_of s st.c) s.delta) (epsilon f)) ≡ true))
    mapping : (s.n2 ≡ 0) ⊎ (le st.f2 (add f s.delta (epsilon f)) ≡ true)
    akkt : le (akkt_at f s (st.outer - 1)) (add f s.epsilon (epsilon f)) ≡ true

  module _ (r : Found) (e : exits f s r ≡ true) where
    -- the three tests
    abbrev small : Bool
    small = le r.delta_y (add f (mul f r.from.c s.delta) (epsilon f))

    abbrev near : Bool
    near = le r.f2 (add f s.delta (epsilon f))

    abbrev tight : Bool
    tight = le r.from.akkt (add f s.epsilon (epsilon f))

    exit_all : (eqb s.n1 0 || (not (eqb r.from.outer 0) && small) ≡ true) × (eqb s.n2 0 || near ≡ true) × (tight ≡ true)
    unfolding exits
    exit_all = (
      and_left (eqb s.n1 0 || (not (eqb r.from.outer 0) && small)) ((eqb s.n2 0 || near) && tight) e,
      and_left (eqb s.n2 0 || near) tight rest,
      and_right (eqb s.n2 0 || near) tight rest,
    )
      where
        rest : (eqb s.n2 0 || near) && tight ≡ true
        rest = and_right (eqb s.n1 0 || (not (eqb r.from.outer 0) && small)) ((eqb s.n2 0 || near) && tight) e

    exit_multipliers : (t : Bool) → eqb s.n1 0 ≡ t
        → (s.n1 ≡ 0) ⊎ ((2 ≤ r.from.outer + 1) × (le r.delta_y (add f (mul f (penalty_of s r.from.c) s.delta) (epsilon f)) ≡ true))
    exit_multipliers true z = inl (eqb-true _ _ z)
    exit_multipliers false z =
        let w = or_else (eqb s.n1 0) (not (eqb r.from.outer 0) && small) z exit_all.0 in
        let o = eqb-false r.from.outer 0 (not-true _ (and_left (not (eqb r.from.outer 0)) small w)) in
        inr (
          omega (arith, o),
          subst (λ (c : Float). le r.delta_y (add f (mul f c s.delta) (epsilon f)) ≡ true) (sym (penalty_is s r.from.c z)) (and_right (not (eqb r.from.outer 0)) small w),
        )

    exit_mapping : (t : Bool) → eqb s.n2 0 ≡ t → (s.n2 ≡ 0) ⊎ (near ≡ true)
    exit_mapping true z = inl (eqb-true _ _ z)
    exit_mapping false z = inr (or_else (eqb s.n2 0) near z exit_all.1)

  -- ---- the walk

  module _ (G : Type 0) (positive : G → T (upward s.tolerance)) where
    abbrev Good : Trail → Loop → Type 0
    Good x p = Along (watching f seen_in_loop) (LoopEnd f s G) x p

    -- k outer iterations are done
    record Done (k : ℕ) (x : Trail) (st : LoopState) : Type 0 where
      outer : st.outer ≡ k
      solves : x.1.1.solves ≡ k
      scores : st.inner + 2 * k ≡ x.1.1.scores
      plan : G → 1 ≤ k → Plan s.n x.1.0 st.u st.norm
      multipliers : G → length st.y_plus ≡ s.n1

    -- what another iteration starts from
    record Ready (k : ℕ) (st : LoopState) : Type 0 where
      size_u : G → length st.u ≡ s.n
      size_y : G → length st.y ≡ s.n1
      akkt : st.akkt ≡ akkt_at f s k

    conclude_good : (k : ℕ) → k ≤ s.outer → (G → 1 ≤ k) → (e : Status) (x : Trail) (st : LoopState) → Done k x st
        → (e ≡ converged → Exit st × (G → lt st.norm s.tolerance ≡ true)) → Good x (conclude f s e st)
    unfolding conclude concluded after seen_in_loop vector_in
    conclude_good k l o e x st d passed =
        λ v r.
        along_cond _ _ _ (is_nan st.delta_y || is_nan st.f2) _ _ (λ t. tt) (λ t. record {
          plan = λ g. record {
            plan = d.plan g (o g);
            converged = λ z. ((passed z).1 g, exit v z);
            size = d.multipliers g;
            least = omega (arith, o g, d.outer);
            most = omega (arith, d.outer);
          };
          exit = exit v;
          most = omega (arith, d.outer);
          count = record { solves = d.outer ∙ sym d.solves; scores = omega (arith, d.scores, d.solves) };
        })
      where
        exit : (v : Float) → e ≡ converged → ExitPassed f s (record { plan = st.u; multipliers = st.y_plus; penalty = penalty_of s st.c; status = e; outer = st.outer; inner = st.inner; norm = st.norm; delta_y = st.delta_y; f2 = st.f2; cost = v })
        exit v z = record { multipliers = (passed z).0.multipliers; mapping = (passed z).0.mapping; akkt = (passed z).0.akkt }

    -- ---- an iteration after k others
    module _ (k : ℕ) (l : k + 1 ≤ s.outer) (next : Status → LoopState → Loop) (go : (e : Status) (x : Trail) (st : LoopState) → Done (k + 1) x st → Ready (k + 1) st → Good x (next e st)) where
      -- its inner solve, begun at `from`, is over
      record Round (x : Trail) (from : Carried) (e : Status) (plan : List Float) (norm : Float) (steps : ℕ) : Type 0 where
        outer : from.outer ≡ k
        solves : x.1.1.solves ≡ k + 1
        scores : from.inner + steps + 2 * (k + 1) ≡ x.1.1.scores
        good : G → Plan s.n x.1.0 plan norm
        below : e ≡ converged → G → lt norm s.tolerance ≡ true
        size_y : G → length from.y ≡ s.n1
        akkt : from.akkt ≡ akkt_at f s k

      -- with this penalty, y and tolerance the iteration is done
      round_done : (x : Trail) (r : Found) → Round x r.from r.status r.plan r.norm r.iterations → (G → length r.y_plus ≡ s.n1)
          → (c : Float) (y : List Float) (t : Float) → Done (k + 1) x (counted f s r c y t)
      unfolding counted
      round_done x r d m c y t =
          record { outer = omega (arith, d.outer); solves = d.solves; scores = omega (arith, d.scores); plan = λ g o. d.good g; multipliers = m }

      weighed_good : (x : Trail) (r : Found) → Round x r.from r.status r.plan r.norm r.iterations → (G → length r.y_plus ≡ s.n1) → Good x (weighed f s next r)
      unfolding weighed counted akkt_at
      weighed_good x r d m =
          along_cond _ _ _ (exits f s r) _ _
          (λ t. conclude_good (k + 1) l (λ g. omega arith) r.status x _ (round_done x r d m _ _ _) (λ z. (
            record {
              multipliers = exit_multipliers r t (eqb s.n1 0) refl;
              mapping = exit_mapping r t (eqb s.n2 0) refl;
              akkt = subst (λ (y : Float). le y (add f s.epsilon (epsilon f)) ≡ true) (d.akkt ∙ ap (akkt_at f s) before) (exit_all r t).2;
            },
            d.below z,
          )))
          (λ t. go r.status x _ (round_done x r d m _ _ _) (record {
            size_u = λ g. (d.good g).size;
            size_y = m;
            akkt = ap (next_akkt f s) d.akkt ∙ ap (akkt_at f s) (sym (add-one k));
          }))
        where
          before : k ≡ r.from.outer + 1 - 1
          before = omega (arith, d.outer)

      f2_good : (x : Trail) (r : Found) → Round x r.from r.status r.plan r.norm r.iterations → (G → length r.y_plus ≡ s.n1) → Good x (ask_f2 f s next r)
      unfolding ask_f2 got_f2 after seen_in_loop vector_in
      f2_good x r d m = along_cond _ _ _ (eqb s.n2 0) _ _ (λ t. weighed_good x r d m) (λ t z q. weighed_good x _ d m)

      f1_good : (x : Trail) (r : Found) → Round x r.from r.status r.plan r.norm r.iterations → (G → length r.y_plus ≡ s.n1) → Good x (ask_f1 f s next r)
      unfolding ask_f1 got_f1 got_c after seen_in_loop vector_in
      f1_good x r d m =
          along_cond _ _ _ (eqb s.n1 0) _ _ (λ t. f2_good x r d m)
          (λ t v a p b. f2_good x _ d (λ g. plus_times_size f _ s.n1 r.from.y (minus f v p) (d.size_y g) (minus_size f s.n1 v p a b)))

      inner_good : (x : Trail) (st : LoopState) → Done k x st → Ready k st → Good x (inner_solve f s next st)
      unfolding inner_solve solved inner_settings seen_in_loop
      inner_good x st d y =
          along_within (watching f seen_in_loop) (SolveEnd (inner_settings s st) G (k + 1) x.1.1.scores) (LoopEnd f s G) (inner (xi_of s st.c st.y)) (solved f s next (carried_of st)) (λ z h e.
          f1_good z _ (record {
            outer = d.outer;
            solves = e.solves;
            scores = omega (arith, d.scores, e.scores);
            good = λ g. (e.plan g).plan;
            below = λ w g. (e.plan g).converged w;
            size_y = y.size_y;
            akkt = y.akkt;
          }) y.size_y) x (solve f (inner_settings s st) st.u)
          (solve_good f (inner_settings s st) G positive (k + 1) x.1.1.scores st.u y.size_u x (omega (arith, d.solves)) refl)

      iteration_good : (x : Trail) (st : LoopState) → Done k x st → Ready k st → Good x (iteration f s next st)
      unfolding iteration got_y after seen_in_loop vector_in
      iteration_good x st d y =
          along_cond _ _ _ s.set_y _ _
          (λ t v q. inner_good x (with_y v st) (record { outer = d.outer; solves = d.solves; scores = d.scores; plan = d.plan; multipliers = d.multipliers }) (record { size_u = y.size_u; size_y = λ g. q; akkt = y.akkt }))
          (λ t. inner_good x st d y)

      begins_good : (x : Trail) (st : LoopState) → Done k x st → Ready k st → Good x (begins f s next st)
      unfolding begins timed out_of_time after seen_in_loop vector_in
      begins_good x st d y =
          along_cond _ _ _ s.limited _ _ (λ t inTime q.
          along_cond _ _ _ inTime _ _ (λ o. iteration_good x st d y)
          (λ o. along_cond _ _ _ (eqb st.outer 0) _ _ (λ w. tt)
          (λ w. conclude_good k (omega arith) (λ g. some_done w) not_converged_out_of_time x st d (λ z. time_not z))))
          (λ t. iteration_good x st d y)
        where
          some_done : eqb st.outer 0 ≡ false → 1 ≤ k
          some_done w = let o = eqb-false st.outer 0 w in omega (arith, o, d.outer)

    iterations_good : (G → 1 ≤ s.outer) → (j k : ℕ) → k + j ≡ s.outer → (e : Status) → (e ≡ not_converged_out_of_time → 1 ≤ k) → (x : Trail) (st : LoopState) → Done k x st → Ready k st → Good x (iterations f s j e st)
    unfolding iterations
    iterations_good some zero k l e o x st d y = conclude_good k (omega arith) (λ g. omega (arith, some g)) not_converged_iterations x st d (λ z. iterations_not z)
    iterations_good some (suc j) k l converged o x st d y =
        begins_good k (omega arith) (iterations f s j) (λ e x' st'. iterations_good some j (k + 1) (omega arith) e (λ z. omega arith) x' st') x st d y
    iterations_good some (suc j) k l not_converged_iterations o x st d y =
        begins_good k (omega arith) (iterations f s j) (λ e x' st'. iterations_good some j (k + 1) (omega arith) e (λ z. omega arith) x' st') x st d y
    iterations_good some (suc j) k l not_converged_out_of_time o x st d y = conclude_good k (omega arith) (λ g. o refl) not_converged_out_of_time x st d (λ z. time_not z)

    loop_good : (G → 1 ≤ s.outer) → (u : List Float) (c : Float) (y : List Float) → (G → length u ≡ s.n) → (G → length y ≡ s.n1) → Good no_trail (loop f s u c y)
    unfolding loop first_state akkt_at no_trail
    loop_good some u c y p q =
        iterations_good some s.outer 0 (omega arith) converged (λ z. time_not (sym z)) no_trail (first_state f s u c y)
        (record { outer = refl; solves = refl; scores = refl; plan = λ g z. absurd (omega arith); multipliers = q })
        (record { size_u = p; size_y = q; akkt = refl })

-- ---- the theorems

module _ (f : Format) (s : LoopSettings) (u : List Float) (c : Float) (y : List Float) where
  loop_bare : Along (watching f seen_in_loop) (LoopEnd f s ⊥) no_trail (loop f s u c y)
  loop_bare = loop_good f s ⊥ absurd absurd u c y absurd absurd

  -- each scored half step is the latest PROJECT answer of its solve, and its norm that of the latest GRADIENT's point minus it
  pub loop_traced : Traced f seen_in_loop nothing_yet (loop f s u c y)
  unfolding no_trail
  loop_traced = along_left (tracing f seen_in_loop) (both scoring counting) (LoopEnd f s ⊥) (λ x h. Unit {0}) (λ x h e. tt) no_trail (loop f s u c y) loop_bare

  -- the plan is the earliest half step of least finite norm of the last inner solve; Converged only where its norm is below the tolerance and the exit tests of the last outer iteration passed
  pub loop_ends : T (upward s.tolerance) → 1 ≤ s.outer → length u ≡ s.n → length y ≡ s.n1 → Ends (LoopPlan f s) [] (loop f s u c y)
  unfolding no_trail
  loop_ends positive some size size_y =
      along_left scoring counting (λ x h. LoopPlan f s x.0 h) (LoopPlan f s) (λ x h e. e) no_trail.1 (loop f s u c y)
      (along_right (tracing f seen_in_loop) (both scoring counting) (LoopEnd f s (Unit {0})) (λ x h. LoopPlan f s x.0 h) (λ x h e. e.plan tt) no_trail (loop f s u c y)
      (loop_good f s (Unit {0}) (λ t. positive) (λ t. some) u c y (λ t. size) (λ t. size_y)))

  -- the loop counts its inner solves, and the steps after the first over all of them
  pub loop_counted : Counted LoopCount (record { solves = 0; scores = 0 }) (loop f s u c y)
  unfolding no_trail
  loop_counted =
      along_right scoring counting (λ x h. LoopCount x.1 h) LoopCount (λ x h e. e) no_trail.1 (loop f s u c y)
      (along_right (tracing f seen_in_loop) (both scoring counting) (LoopEnd f s ⊥) (λ x h. LoopCount x.1 h) (λ x h e. e.count) no_trail (loop f s u c y) loop_bare)

  -- with n1 > 0 and K = 1 the loop never ends Converged
  pub one_outer_never_converged : 1 ≤ s.n1 → s.outer ≡ 1 → Ends (λ scores h. h.status ≡ converged → ⊥) [] (loop f s u c y)
  unfolding no_trail
  one_outer_never_converged n1 one =
      along_left scoring counting (λ x h. h.status ≡ converged → ⊥) (λ scores h. h.status ≡ converged → ⊥) (λ x h e. e) no_trail.1 (loop f s u c y)
      (along_right (tracing f seen_in_loop) (both scoring counting) (LoopEnd f s ⊥) (λ x h. h.status ≡ converged → ⊥) (λ x h e z. never h e.most (e.exit z)) no_trail (loop f s u c y) loop_bare)
    where
      never : (h : LoopHanded) → h.outer ≤ s.outer → ExitPassed f s h → ⊥
      never h most passed = ⊎_elim (λ z. omega arith) (λ z. omega (arith, z.0)) passed.multipliers

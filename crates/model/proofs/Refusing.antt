-- By which numbers a run that was accepted ends refused, whatever is answered: 10 to 16 in an inner solve, 10 to 18 in the loop, none in psi and d_psi; never by 6 to 8, which leave a run unchanged. Assumes nothing.
use Prim.Native.Nat.{ℕ, zero, suc}
use Rattle.std.specs.Prelude.{◌≡◌, Bool, false, ◌&&◌, ◌||◌, cond, List, eqb, Float, length}
use Rattle.std.proofs.Common.{sym, subst, ⊎_elim, arith}
use Rattle.std.proofs.Math.Bool.{true}
use Rattle.std.specs.Float.{Format}
use Rattle.std.specs.Float.Ieee.{lt, is_nan}
use Rattle.std.specs.Float.Ieee.Scale.{finite}
use Rattle.model.specs.Constants.{max_lipschitz_constant, max_lipschitz_updates, max_linesearch_iterations}
use Rattle.model.specs.Vectors.{all_finite}
use Rattle.model.specs.Process.{handed, refused, failed, Process, ask, score, begin, stop, within, Status, converged, not_converged_iterations, not_converged_out_of_time, Solve, Loop}
use Rattle.model.specs.State.{Settings, Iterate, State, step_counted}
use Rattle.model.specs.Inner.{Next, lipschitz_check_rhs, passes, entered, finish, last_test, last_cost, onward, first_move, first_cost, first_gradient, first_project, tried_project, tried_gradient, tried_cost, trial, retry, search, directed, ask_direction, doubled_cost, doubled_project, doubling, half_cost, tested, step, timed, laps, solve, start_cost, start_gradient, start_shifted, start_project}
use Rattle.model.specs.Loop.{LoopSettings, LoopState, Found}
use Rattle.model.specs.Loop as Outer
use Rattle.model.specs.Psi.{Sizes}
use Rattle.model.specs.Psi as Penalty
use Rattle.model.specs.Refusals.{Reply, wanted, answer_refusal, accept, remains}
use Rattle.model.proofs.Carry.{accepted}
use Rattle.model.specs.Refusing.{Among, Awaits, Refuses}

-- ---- laws

refuses_cond : {Q H : Type 0} (P : ℕ → Type 0) (t : Bool) (p q : Process Q H) → Refuses P p → Refuses P q → Refuses P (cond t p q)
refuses_cond P true p q x y = x
refuses_cond P false p q x y = y

refuses_within : {Q H Q' H' : Type 0} (P P' : ℕ → Type 0) → ((k : ℕ) → P k → P' k) → (carry : Q → Q') (next : H → Process Q' H') → ((h : H) → Refuses P' (next h))
    → (p : Process Q H) → Refuses P p → Refuses P' (within carry next p)
unfolding within
refuses_within P P' then carry next go (ask q k continue) t = λ a. refuses_within P P' then carry next go (continue a) (t a)
refuses_within P P' then carry next go (score half norm p) t = refuses_within P P' then carry next go p t
refuses_within P P' then carry next go (begin p) t = refuses_within P P' then carry next go p t
refuses_within P P' then carry next go (stop (handed h)) t = go h
refuses_within P P' then carry next go (stop (refused k)) t = then k t
refuses_within P P' then carry next go (stop (failed c)) t = tt

-- ---- the inner solve: 10 to 16

module _ (f : Format) (s : Settings) where
  abbrev Good : Solve → Type 0
  Good p = Refuses (Among 10 16) p

  finish_good : (e : Status) (i : Iterate) → Good (finish f s e i)
  unfolding finish last_test last_cost
  finish_good e i = refuses_cond _ (all_finite i.u) _ _ (λ c. refuses_cond _ (finite c) _ _ tt (omega arith)) (omega arith)

  module _ (next : Next) (go : (i : Iterate) → Good (next i)) where
    onward_good : (e : Status) (i : Iterate) → Good (onward f s e next i)
    unfolding onward
    onward_good converged i = go i
    onward_good not_converged_iterations i = finish_good _ i
    onward_good not_converged_out_of_time i = finish_good _ i

    first_good : (e : Status) (i : Iterate) → Good (first_move f s e next i)
    unfolding first_move first_cost first_gradient first_project
    first_good e i = λ c g. refuses_cond _ (finite c && all_finite g) _ _ (λ h. onward_good e _) (omega arith)

    trial_good : (e : Status) (again : List Float → State → Solve) → ((x : List Float) (st : State) → Good (again x st))
        → (τ v : Float) (d : List Float) (st : State) → Good (trial f s e next again τ v d st)
    unfolding trial tried_cost tried_gradient tried_project
    trial_good e again more τ v d st =
        λ c g. refuses_cond _ (finite c && all_finite g) _ _ (λ h. refuses_cond _ (lt v _) _ _ (more _ _) (onward_good e _)) (omega arith)

    retry_good : (k : ℕ) (e : Status) (τ v : Float) (d x : List Float) (st : State) → Good (retry f s k e next τ v d x st)
    unfolding retry
    retry_good zero e τ v d x st = onward_good e _
    retry_good (suc k) e τ v d x st = trial_good e (retry f s k e next _ v d) (retry_good k e _ v d) _ v d st

    directed_good : (e : Status) (st : State) (d : List Float) → Good (directed f s e next st d)
    unfolding directed search
    directed_good e st d =
        refuses_cond _ (eqb st.at.count 0) _ _ (first_good e st.at)
        (trial_good e (retry f s max_linesearch_iterations e next _ _ d) (retry_good max_linesearch_iterations e _ _ d) _ _ d st)

    direction_good : (e : Status) (forget : Bool) (st : State) → Good (ask_direction f s e next forget st)
    unfolding ask_direction
    direction_good e forget st = λ d. directed_good e _ d

    doubling_good : (k : ℕ) (e : Status) (forget : Bool) (st : State) (c : Float) → Good (doubling f s k e next forget st c)
    unfolding doubling doubled_project doubled_cost
    doubling_good zero e forget st c = direction_good e forget st
    doubling_good (suc k) e forget st c =
        refuses_cond _ (lt (lipschitz_check_rhs f st) c && lt st.at.lipschitz (max_lipschitz_constant f)) _ _
        (λ h v. refuses_cond _ (finite v) _ _ (doubling_good k e true _ v) (omega arith)) (direction_good e forget st)

    step_good : (e : Status) (i : Iterate) → Good (step f s e next i)
    unfolding step tested half_cost
    step_good e i =
        refuses_cond _ (passes f s (entered f s i)) _ _ (finish_good e _)
        (λ c. refuses_cond _ (finite c) _ _ (doubling_good max_lipschitz_updates e _ (entered f s i) c) (omega arith))

  laps_good : (l : ℕ) (i : Iterate) → Good (laps f s l i)
  unfolding laps timed
  laps_good zero i = finish_good _ i
  laps_good (suc l) i =
      refuses_cond _ s.limited _ _ (λ t. step_good (laps f s l) (laps_good l) _ (step_counted i)) (step_good (laps f s l) (laps_good l) _ (step_counted i))

  pub solve_refuses : (u : List Float) → Refuses (Among 10 16) (solve f s u)
  unfolding solve start_cost start_gradient start_shifted start_project
  solve_refuses u =
      λ c g g'. refuses_cond _ (finite c && all_finite g) _ _ (λ h. step_good (laps f s s.limit) (laps_good s.limit) converged _) (omega arith)

-- ---- the loop: 10 to 18

module _ (f : Format) (s : LoopSettings) where
  abbrev GoodLoop : Loop → Type 0
  GoodLoop p = Refuses (Among 10 18) p

  conclude_good : (e : Status) (st : LoopState) → GoodLoop (Outer.conclude f s e st)
  unfolding Outer.conclude Outer.concluded
  conclude_good e st = λ v. refuses_cond _ (is_nan st.delta_y || is_nan st.f2) _ _ (omega arith) tt

  module _ (next : Status → LoopState → Loop) (go : (e : Status) (st : LoopState) → GoodLoop (next e st)) where
    weighed_good : (r : Found) → GoodLoop (Outer.weighed f s next r)
    unfolding Outer.weighed
    weighed_good r = refuses_cond _ (Outer.exits f s r) _ _ (conclude_good _ _) (go _ _)

    f2_good : (r : Found) → GoodLoop (Outer.ask_f2 f s next r)
    unfolding Outer.ask_f2 Outer.got_f2
    f2_good r = refuses_cond _ (eqb s.n2 0) _ _ (weighed_good r) (λ z. weighed_good _)

    f1_good : (r : Found) → GoodLoop (Outer.ask_f1 f s next r)
    unfolding Outer.ask_f1 Outer.got_f1 Outer.got_c
    f1_good r = refuses_cond _ (eqb s.n1 0) _ _ (f2_good r) (λ v p. f2_good _)

    inner_good : (st : LoopState) → GoodLoop (Outer.inner_solve f s next st)
    unfolding Outer.inner_solve Outer.solved
    inner_good st =
        refuses_within (Among 10 16) (Among 10 18) (λ k z. (z.0, omega (arith, z.1))) _ (Outer.solved f s next (Outer.carried_of st)) (λ h. f1_good _)
        (solve f (Outer.inner_settings s st) st.u) (solve_refuses f (Outer.inner_settings s st) st.u)

    iteration_good : (st : LoopState) → GoodLoop (Outer.iteration f s next st)
    unfolding Outer.iteration Outer.got_y
    iteration_good st = refuses_cond _ s.set_y _ _ (λ y. inner_good _) (inner_good st)

    begins_good : (st : LoopState) → GoodLoop (Outer.begins f s next st)
    unfolding Outer.begins Outer.timed Outer.out_of_time
    begins_good st =
        refuses_cond _ s.limited _ _ (λ t. refuses_cond _ t _ _ (iteration_good st) (refuses_cond _ (eqb st.outer 0) _ _ (omega arith) (conclude_good _ st)))
        (iteration_good st)

  iterations_good : (l : ℕ) (e : Status) (st : LoopState) → GoodLoop (Outer.iterations f s l e st)
  unfolding Outer.iterations
  iterations_good zero e st = conclude_good _ st
  iterations_good (suc l) converged st = begins_good (Outer.iterations f s l) (iterations_good l) st
  iterations_good (suc l) not_converged_iterations st = begins_good (Outer.iterations f s l) (iterations_good l) st
  iterations_good (suc l) not_converged_out_of_time st = conclude_good _ st

  pub loop_refuses : (u : List Float) (c : Float) (y : List Float) → Refuses (Among 10 18) (Outer.loop f s u c y)
  unfolding Outer.loop
  loop_refuses u c y = iterations_good s.outer converged (Outer.first_state f s u c y)

-- ---- psi and d_psi: none

module _ (f : Format) (s : Sizes) (u : List Float) (c : Float) (y : List Float) where
  abbrev Never : ℕ → Type 0
  Never k = ⊥

  psi_f2_good : (v : Float) → Refuses Never (Penalty.psi_ask_f2 f s u c y v)
  unfolding Penalty.psi_ask_f2 Penalty.psi_f2
  psi_f2_good v = refuses_cond _ (eqb s.n2 0) _ _ tt (λ z. tt)

  pub psi_refuses : Refuses (λ k. ⊥) (Penalty.psi f s u c y)
  unfolding Penalty.psi Penalty.psi_cost Penalty.psi_f1 Penalty.psi_c
  psi_refuses = λ v. refuses_cond _ (eqb s.n1 0) _ _ (psi_f2_good v) (λ w p. psi_f2_good _)

  d_psi_f2_good : (g : List Float) → Refuses Never (Penalty.d_psi_ask_f2 f s u c y g)
  unfolding Penalty.d_psi_ask_f2 Penalty.d_psi_f2 Penalty.d_psi_jf2
  d_psi_f2_good g = refuses_cond _ (eqb s.n2 0) _ _ tt (λ z j. tt)

  pub d_psi_refuses : Refuses (λ k. ⊥) (Penalty.d_psi f s u c y)
  unfolding Penalty.d_psi Penalty.d_psi_gradient Penalty.d_psi_f1 Penalty.d_psi_c Penalty.d_psi_jf1
  d_psi_refuses = λ g. refuses_cond _ (eqb s.n1 0) _ _ (d_psi_f2_good g) (λ w p j. d_psi_f2_good _)

pub refuses_remains : {Q H : Type 0} (P : ℕ → Type 0) (p : Process Q H) → Refuses P p → Awaits P (remains p)
unfolding remains
refuses_remains P (ask q k continue) t = t
refuses_remains P (score half norm p) t = refuses_remains P p t
refuses_remains P (begin p) t = refuses_remains P p t
refuses_remains P (stop e) t = tt

six_not : {X : Type 0} → ◌≡◌ {A = ℕ} 6 0 → X
six_not e = absurd (omega arith)

pub awaits_accept : {Q H : Type 0} (P : ℕ → Type 0) (p : Process Q H) (r : Reply) (v : List Float) (lent : Bool) → Awaits P p
    → answer_refusal (wanted p) r (length v) lent ≡ 0 → Refuses P (accept p r v)
unfolding wanted accept answer_refusal
awaits_accept {Q} {H} P (ask q k continue) r v lent t e =
    ⊎_elim (λ z. subst (λ (p : Process Q H). Refuses P p) (sym z.2) tt) (λ z. subst (λ (p : Process Q H). Refuses P p) (sym z.3) (t z.0)) (accepted q k continue r v lent e)
awaits_accept P (score half norm p) r v lent t e = six_not e
awaits_accept P (begin p) r v lent t e = six_not e
awaits_accept P (stop x) r v lent t e = six_not e

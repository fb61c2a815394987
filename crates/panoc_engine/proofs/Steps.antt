-- What the steps and the end of a solve leave, from what their parts leave. Assumes nothing.
use Rattle.std.proofs.Common.{◌≡◌, refl, ap, sym, ◌∙◌, ℕ, zero, suc, ◌+◌, ◌-◌, ◌≤◌, Bool, true, false, cond, ◌&&◌, eqb, List, length, Float, arith}
use Rattle.std.specs.Prelude as Std
use Rattle.std.specs.Float.{binary64}
use Rattle.std.specs.Float.Ieee.{lt}
use Rattle.std.specs.Float.Ieee.Scale.{finite}
use Rattle.ieee.specs.Sums.{norm}
use Rattle.model.specs.Vectors.{all_finite, minus, plus_times, dot}
use Rattle.model.specs.Process.{Status, converged, not_converged_iterations, not_converged_out_of_time}
use Rattle.model.specs.State as S
use Rattle.model.specs.State.{keep}
use Rattle.model.specs.Inner as I
use Rattle.board.specs.Formulas.{residual}
use Rattle.board.specs.Board.{board_of, vector, write, U, GRADIENT, PREVIOUS, HALF, FPR, BEST}
use Rattle.machine.specs.InnerRun.{Phase, Asked, Run, asks}
use Rattle.machine.specs.InnerMoves as Move
use Rattle.panoc_engine.specs.declared.panoc_cache.Solve.{Solve}
use Rattle.panoc_engine.specs.declared.panoc_cache.ExitStatus.{ExitStatus}
use Rattle.panoc_engine.specs.declared.panoc_cache.ExitStatus.TheVariants.{Converged, NotConvergedIterations, NotConvergedOutOfTime}
use Rattle.panoc_engine.specs.declared.panoc_cache.Moved.TheVariants.{To, Refused}
use Rattle.panoc_engine.specs.declared.panoc_cache.Next.{Next}
use Rattle.panoc_engine.specs.declared.panoc_cache.Next.TheVariants.{Again, Time, Step, Finish}
use Rattle.panoc_engine.specs.declared.panoc_cache.Phase.TheVariants as P
use Rattle.panoc_engine.specs.declared.outcome.Outcome.TheVariants as O
use Rattle.panoc_engine.specs.declared.outcome.Refusal.TheVariants as R
use Rattle.panoc_engine.specs.Formulas.{lipschitz_check_rhs_of}
use Rattle.panoc_engine.specs.Values.{settings_of, status_of}
use Rattle.panoc_engine.specs.Runs.{run_of, leaves, ended, followed, ResidualLies, Summed, norm_at, scored, next_phase}
use Rattle.panoc_engine.proofs.Held.{holds, in_u, in_gradient, in_previous, in_half, in_fpr, residual_left, previous_left, best_left}

-- ---- the end that stands for a step
pub standing_none : (s : S.Settings) (k : ℕ) (t : Bool) → k ≡ 0 → not_converged_iterations ≡ I.standing binary64 s k t
unfolding I.standing
standing_none s zero t e = refl
standing_none s (suc k) t e = absurd (omega arith)

pub standing_in : (s : S.Settings) (k : ℕ) (t : Bool) → (k ≡ 0 → ⊥) → t ≡ true → converged ≡ I.standing binary64 s k t
unfolding I.standing
standing_in s zero t e q = absurd (e refl)
standing_in s (suc k) t e q = rw q refl

pub standing_out : (s : S.Settings) (k : ℕ) (t : Bool) → (k ≡ 0 → ⊥) → t ≡ false → not_converged_out_of_time ≡ I.standing binary64 s k t
unfolding I.standing
standing_out s zero t e q = absurd (e refl)
standing_out s (suc k) t e q = rw q refl

-- ---- a step, by its tests
step_ends : (r : Run) → I.passes binary64 r.set (Move.entered binary64 r).state ≡ true → Move.finish binary64 (Move.entered binary64 r) ≡ Move.step binary64 r
unfolding Move.step
step_ends r t = rw t refl

step_asks : (r : Run) → I.passes binary64 r.set (Move.entered binary64 r).state ≡ false
    → asks Asked.cost Phase.half_cost (record (Move.entered binary64 r) { rhs = I.lipschitz_check_rhs binary64 (Move.entered binary64 r).state }) ≡ Move.step binary64 r
unfolding Move.step
step_asks r t = rw t refl

-- it does not read the residual that is stored
pub step_residual : (r : Run) (x : List Float) → Move.step binary64 (record r { state = record r.state { residual = x } }) ≡ Move.step binary64 r
unfolding Move.step
step_residual r x = refl

-- ---- what follows a half step, by its tests
module _ (r : Run) (next : Next) where
  pub followed_step : next ≡ Step → followed next r ≡ Move.step binary64 r
  unfolding followed
  followed_step e = rw e refl

  pub followed_finish : next ≡ Finish → scored next true r ≡ followed next r
  unfolding followed scored
  followed_finish e = rw e refl

  pub followed_again : next ≡ Again → scored next false r ≡ followed next r
  unfolding followed scored
  followed_again e = rw e refl

  pub followed_time : next ≡ Time → scored next false r ≡ followed next r
  unfolding followed scored
  followed_time e = rw e refl

  pub scored_over : (t : Bool) → t ≡ true → scored next t r ≡ Move.finish binary64 r
  unfolding scored
  scored_over t e = rw e refl

  pub scored_asks : (t : Bool) → t ≡ false → scored next t r ≡ leaves (To (next_phase next)) r
  unfolding scored
  scored_asks t e = rw e refl

-- the sums that come with it
module _ (next : Next) (x z : Float) (n : ℕ) (l : List Float) where
  pub summed_taken : ResidualLies x z n l → Summed next x z n l
  summed_taken d = record { taken = λ k. d }

  pub summed_again : next ≡ Again → Summed next x z n l
  summed_again e = record { taken = λ k. absurd (k e) }

  pub summed_step : next ≡ Step → Summed next x z n l → ResidualLies x z n l
  summed_step e d = d.taken (λ k. let z : ◌≡◌ {A = Next} Step Again = sym e ∙ k in cc)

  pub summed_finish : next ≡ Finish → Summed next x z n l → x ≡ norm_at n l
  summed_finish e d = let a : ResidualLies x z n l = d.taken (λ k. let z : ◌≡◌ {A = Next} Finish Again = sym e ∙ k in cc) in a.size

-- the residual, worked out anew, with its sums
pub residual_summed : (next : Next) (x z : Float) (n : ℕ) (l l' : List Float) → l' ≡ write FPR (residual binary64 n l) l
    → x ≡ norm binary64 (residual binary64 n l) → z ≡ dot binary64 (vector GRADIENT n l) (residual binary64 n l) → n ≤ 64 → 576 ≤ length l
    → Summed next x z n l'
residual_summed next x z n l l' e xv zv m p =
    let b = holds n l m p in
    let d = residual_left b binary64 e in
    let xw = rw (in_u b, in_half b) at xv in
    let zw = rw (in_gradient b, in_u b, in_half b) at zv in
    summed_taken next x z n l'
    (record {
      left = rw (in_fpr d, in_u d, in_half d) refl;
      size = rw (in_u d, in_half d) xw;
      product = rw (in_gradient d, in_u d, in_half d) zw;
    })

module _ (s : Solve) (l : List Float) where
  -- ---- the last COST
  pub last_cost_stops : (x : Float) → finite x ≡ false → ended s (O.Refused R.LastCost) l ≡ Move.last_cost binary64 x (run_of s l)
  unfolding run_of Move.last_cost
  last_cost_stops x e = rw e refl

  pub last_cost_ends : (x : Float) → finite x ≡ true
      → ended s (O.Ended (record { exit_status = s.counts.status; iterations = s.counts.iterations; norm_fpr = s.norms.best_norm_gamma_fpr; cost_value = x })) l ≡ Move.last_cost binary64 x (run_of s l)
  unfolding run_of Move.last_cost
  last_cost_ends x e = rw e refl

  -- ---- between steps
  closed : (e : ExitStatus) → (e ≡ Converged → ⊥) → followed Finish (run_of s l) ≡ Move.onward binary64 (status_of e) (run_of s l)
  unfolding followed Move.onward
  closed Converged k = absurd (k refl)
  closed NotConvergedIterations k = refl
  closed NotConvergedOutOfTime k = refl

  pub onward_closed : (s.counts.status ≡ Converged → ⊥) → followed Finish (run_of (record s { counts = s.counts }) l) ≡ Move.onward binary64 (status_of s.counts.status) (run_of s l)
  onward_closed k = closed s.counts.status k

  goes_on : s.counts.status ≡ Converged → Move.onward binary64 (status_of s.counts.status) (run_of s l) ≡ Move.laps binary64 s.counts.left (run_of s l)
  unfolding run_of Move.onward
  goes_on e = ap (λ (x : ExitStatus). Move.onward binary64 (status_of x) (run_of s l)) e

  pub onward_none : s.counts.status ≡ Converged → s.counts.left ≡ 0
      → followed Finish (run_of (record s { counts = record s.counts { status = NotConvergedIterations } }) l) ≡ Move.onward binary64 (status_of s.counts.status) (run_of s l)
  unfolding run_of followed Move.laps
  onward_none e z = sym (goes_on e ∙ ap (λ (k : ℕ). Move.laps binary64 k (run_of s l)) z)

  pub onward_time : s.counts.status ≡ Converged → (s.counts.left ≡ 0 → ⊥) → s.set.limited ≡ true
      → followed Time (run_of (record s { counts = record s.counts { left = s.counts.left - 1; iterations = record { 0 = s.counts.iterations.0 + 1 } } }) l)
      ≡ Move.onward binary64 (status_of s.counts.status) (run_of s l)
  unfolding run_of leaves followed Move.laps
  onward_time e z t =
      let p : s.counts.left ≡ suc (s.counts.left - 1) = omega (arith, z) in
      sym (goes_on e ∙ ap (λ (k : ℕ). Move.laps binary64 k (run_of s l)) p ∙ rw t refl)

  next_step : (k : ℕ) → s.set.limited ≡ false
      → Move.laps binary64 (suc k) (run_of s l) ≡ Move.step binary64 (record (Move.stepped k (run_of s l)) { status = I.standing binary64 (settings_of s.set) k true })
  unfolding run_of Move.laps Move.timed
  next_step k t = rw t refl

  pub onward_step : (x : ExitStatus) → s.counts.status ≡ Converged → (s.counts.left ≡ 0 → ⊥) → s.set.limited ≡ false
      → ((r : S.Settings) → status_of x ≡ I.standing binary64 r (s.counts.left - 1) true)
      → followed Step (run_of (record s { counts = record s.counts { left = s.counts.left - 1; iterations = record { 0 = s.counts.iterations.0 + 1 }; status = x } }) l)
      ≡ Move.onward binary64 (status_of s.counts.status) (run_of s l)
  unfolding run_of followed
  onward_step x e z t w =
      let p : s.counts.left ≡ suc (s.counts.left - 1) = omega (arith, z) in
      sym
      (goes_on e
      ∙ ap (λ (k : ℕ). Move.laps binary64 k (run_of s l)) p
      ∙ next_step (s.counts.left - 1) t
      ∙ ap (λ (u : Status). Move.step binary64 (record (Move.stepped (s.counts.left - 1) (run_of s l)) { status = u })) (sym (w (settings_of s.set))))

  -- ---- the two tests
  and_true : (b : Bool) → b ≡ (b && true)
  and_true true = refl
  and_true false = refl

  pub passes_missing : s.set.akkt_tolerance ≡ Std.None → lt s.norms.norm_gamma_fpr s.set.tolerance ≡ I.passes binary64 (settings_of s.set) (run_of s l).state
  unfolding run_of I.passes I.akkt_passes
  passes_missing e = rw e (and_true (lt s.norms.norm_gamma_fpr s.set.tolerance))

  pub passes_not : lt s.norms.norm_gamma_fpr s.set.tolerance ≡ false → false ≡ I.passes binary64 (settings_of s.set) (run_of s l).state
  unfolding run_of I.passes
  passes_not e = rw e refl

  module _ (m : s.set.n ≤ 64) (p : 576 ≤ length l) where
    pub passes_akkt : (t x : Float) → s.set.akkt_tolerance ≡ Std.Some t → lt s.norms.norm_gamma_fpr s.set.tolerance ≡ true
        → x ≡ norm binary64 (plus_times binary64 s.gammas.gamma (vector FPR s.set.n l) (minus binary64 (vector GRADIENT s.set.n l) (vector PREVIOUS s.set.n l)))
        → lt x t ≡ I.passes binary64 (settings_of s.set) (run_of s l).state
    unfolding run_of I.passes I.akkt_passes I.akkt_residual
    passes_akkt t x a e xv =
        let b = holds s.set.n l m p in
        let xw = rw (in_fpr b, in_gradient b, in_previous b) at xv in
        rw (a, e, xw) refl

    -- ---- a step
    kept_is : (t : Bool) (h b : List Float) (x y : Float) → let k : S.Best = record { point = cond t h b; norm = cond t x y } in k ≡ cond t (record { point = h; norm = x }) (record { point = b; norm = y })
    kept_is true h b x y = refl
    kept_is false h b x y = refl

    module _ (l₁ l₂ : List Float) (x y : Float) (left : vector FPR s.set.n l ≡ residual binary64 s.set.n l) (size : x ≡ norm_at s.set.n l) (e₁ : l₁ ≡ cond (eqb s.counts.iterations.0 0) l (write PREVIOUS (vector GRADIENT s.set.n l) l))
        (e₂ : l₂ ≡ cond (lt x s.norms.best_norm_gamma_fpr) (write BEST (vector HALF s.set.n l₁) l₁) l₁) (yv : y ≡ cond (lt x s.norms.best_norm_gamma_fpr) x s.norms.best_norm_gamma_fpr) where
      entered_is : run_of (record s { norms = record s.norms { norm_gamma_fpr = x; best_norm_gamma_fpr = y } }) l₂ ≡ Move.entered binary64 (run_of s l)
      unfolding run_of I.entered I.kept_gradient keep
      entered_is =
          let b = holds s.set.n l m p in
          let b₂ = best_left (previous_left b (eqb s.counts.iterations.0 0) e₁) (lt x s.norms.best_norm_gamma_fpr) e₂ in
          let g = rw (in_fpr b, in_u b, in_half b) at left in
          let xw = rw (in_u b, in_half b) at size in
          rw (b₂.is, yv, g, xw, kept_is) refl

      pub step_over : I.passes binary64 (settings_of s.set) (run_of (record s { norms = record s.norms { norm_gamma_fpr = x; best_norm_gamma_fpr = y } }) l₂).state ≡ true
          → scored Step true (run_of (record s { norms = record s.norms { norm_gamma_fpr = x; best_norm_gamma_fpr = y } }) l₂) ≡ Move.step binary64 (run_of s l)
      unfolding run_of scored
      step_over t = ap (Move.finish binary64) entered_is ∙ step_ends (run_of s l) (ap (λ (r : Run). I.passes binary64 (settings_of s.set) r.state) (sym entered_is) ∙ t)

      lipschitz_check_rhs_is : (z r : Float) → z ≡ dot binary64 (vector GRADIENT s.set.n l) (residual binary64 s.set.n l) → r ≡ lipschitz_check_rhs_of binary64 s.cost_value s.gammas.gamma x z → r ≡ I.lipschitz_check_rhs binary64 (Move.entered binary64 (run_of s l)).state
      unfolding run_of I.lipschitz_check_rhs I.entered lipschitz_check_rhs_of
      lipschitz_check_rhs_is z r zv rv =
          let b = holds s.set.n l m p in
          let xw = rw (in_u b, in_half b) at size in
          let zw = rw (in_gradient b, in_u b, in_half b) at zv in
          rv ∙ rw (xw, zw) refl

      pub step_goes : (z r : Float) → I.passes binary64 (settings_of s.set) (run_of (record s { norms = record s.norms { norm_gamma_fpr = x; best_norm_gamma_fpr = y } }) l₂).state ≡ false
          → z ≡ dot binary64 (vector GRADIENT s.set.n l) (residual binary64 s.set.n l) → r ≡ lipschitz_check_rhs_of binary64 s.cost_value s.gammas.gamma x z
          → scored Step false (run_of (record s { norms = record s.norms { norm_gamma_fpr = x; best_norm_gamma_fpr = y; rhs_ls = r } }) l₂) ≡ Move.step binary64 (run_of s l)
      unfolding run_of scored leaves
      step_goes z r t zv rv =
          ap (λ (q : Run). asks Asked.cost Phase.half_cost (record q { rhs = r })) entered_is
          ∙ ap (λ (c : Float). asks Asked.cost Phase.half_cost (record (Move.entered binary64 (run_of s l)) { rhs = c })) (lipschitz_check_rhs_is z r zv rv)
          ∙ step_asks (run_of s l) (ap (λ (q : Run). I.passes binary64 (settings_of s.set) q.state) (sym entered_is) ∙ t)

    -- ---- the end of a solve
    module _ (l' : List Float) (x y : Float) (xv : x ≡ norm_at s.set.n l) (e : l' ≡ cond (lt x s.norms.best_norm_gamma_fpr) (write BEST (vector HALF s.set.n l) l) l)
        (yv : y ≡ cond (lt x s.norms.best_norm_gamma_fpr) x s.norms.best_norm_gamma_fpr) where
      abbrev kept : Solve
      kept = record s { norms = record s.norms { best_norm_gamma_fpr = y } }

      scored_is : run_of kept l' ≡ Move.scored binary64 (run_of s l)
      unfolding run_of keep
      scored_is =
          let b = holds s.set.n l m p in
          let d = best_left b (lt x s.norms.best_norm_gamma_fpr) e in
          let xw = rw (in_u b, in_half b) at xv in
          rw (d.is, yv, xw, kept_is) refl

      test : (t : Bool) → all_finite (vector U s.set.n l') ≡ t → all_finite (run_of s l).state.at.u ≡ t
      unfolding run_of board_of
      test t q = let b = best_left (holds s.set.n l m p) (lt x s.norms.best_norm_gamma_fpr) e in ap all_finite (sym (in_u b)) ∙ q

      pub finish_goes : all_finite (vector U s.set.n l') ≡ true → leaves (To P.LastCost) (run_of kept l') ≡ Move.finish binary64 (run_of s l)
      unfolding leaves Move.finish
      finish_goes q = rw (scored_is, test true q) refl

      pub finish_stops : all_finite (vector U s.set.n l') ≡ false → leaves (Refused R.Plan) (run_of kept l') ≡ Move.finish binary64 (run_of s l)
      unfolding leaves Move.finish
      finish_stops q = rw (scored_is, test false q) refl

    -- ---- TIME
    module _ (l' : List Float) (e : l' ≡ write FPR (residual binary64 s.set.n l) l) where
      timed_is : (a : ExitStatus) → run_of (record s { norms = s.norms; counts = record s.counts { status = a } }) l'
          ≡ record (run_of s l) { status = status_of a; state = record (run_of s l).state { residual = minus binary64 (run_of s l).state.at.u (run_of s l).state.at.half } }
      unfolding run_of
      timed_is a = let d = residual_left (holds s.set.n l m p) binary64 e in rw d.is refl

      pub timed_goes : (t : Bool) (a : ExitStatus) → ((r : S.Settings) → status_of a ≡ I.standing binary64 r s.counts.left t)
          → followed Step (run_of (record s { norms = s.norms; counts = record s.counts { status = a } }) l') ≡ Move.timed binary64 t (run_of s l)
      unfolding run_of followed Move.timed
      timed_goes t a w =
          ap (Move.step binary64) (timed_is a)
          ∙ step_residual (record (run_of s l) { status = status_of a }) (minus binary64 (run_of s l).state.at.u (run_of s l).state.at.half)
          ∙ ap (λ (u : Status). Move.step binary64 (record (run_of s l) { status = u })) (w (settings_of s.set))

pub ruleset onwards = (onward_closed, onward_none, onward_time, onward_step)

pub ruleset tests = (followed_step, followed_finish, followed_again, followed_time, summed_step, summed_finish)

-- What each accepted answer leaves of a run of the inner solve. Formulas are the model's (`Inner`); what is said here is what of them a run keeps. Definitions only.
use Rattle.std.specs.Prelude.{ℕ, zero, suc, Bool, true, ◌&&◌, cond, List, eqb, Float}
use Rattle.std.specs.Float.{Format}
use Rattle.std.specs.Float.Ieee.{div, lt}
use Rattle.std.specs.Float.Ieee.Scale.{finite}
use Rattle.ieee.specs.Sums.{norm}
use Rattle.model.specs.Constants.{one, two, max_lipschitz_constant, max_lipschitz_updates, max_linesearch_iterations}
use Rattle.model.specs.Vectors.{all_finite, minus, less_times, shifts, shifted, estimate}
use Rattle.model.specs.Process.{Status, converged, not_converged_iterations, not_converged_out_of_time}
use Rattle.model.specs.State.{Opening, keep, with_u, with_cost, with_gradient, with_half, with_sigma, with_kept, step_counted}
use Rattle.model.specs.Inner as I
use Rattle.machine.specs.Told as Say
use Rattle.machine.specs.InnerRun.{Phase, Asked, Run, Left, with_state, with_iterate, asks, stops}

-- a run where one step more is done, and l more may begin
abbrev pub stepped : ℕ → Run → Run
stepped l r = record (with_iterate (step_counted r.state.at) r) { left = l }

module _ (f : Format) where
  -- ---- after the last step: the score, and COST at the best half step
  abbrev pub scored : Run → Run
  scored r = with_iterate (with_kept r.state.at.previous (keep r.state.at.best r.state.at.half (norm f (minus f r.state.at.u r.state.at.half))) r.state.at) r

  unfoldable pub finish : Run → Left
  finish r = cond (all_finite r.state.at.u) (asks Asked.cost Phase.last_cost (scored r)) (stops 15 (scored r))

  -- ---- a step: what it enters with, and what the cost at the half step is held to
  abbrev pub entered : Run → Run
  entered r = with_state (I.entered f r.set r.state.at) r

  unfoldable pub step : Run → Left
  step r =
      cond (I.passes f r.set (I.entered f r.set r.state.at))
      (finish (entered r))
      (asks Asked.cost Phase.half_cost (record (entered r) { rhs = I.lipschitz_check_rhs f (I.entered f r.set r.state.at) }))

  -- ---- between steps
  unfoldable pub timed : Bool → Run → Left
  timed t r = step (record r { status = I.standing f r.set r.left t })

  unfoldable pub laps : ℕ → Run → Left
  laps zero r = finish (record r { status = not_converged_iterations })
  laps (suc l) r = cond r.set.limited (asks Asked.time Phase.time (stepped l r)) (timed true (stepped l r))

  unfoldable pub onward : Status → Run → Left
  onward converged r = laps r.left r
  onward not_converged_iterations r = finish r
  onward not_converged_out_of_time r = finish r

  -- the residual of the half step at hand
  abbrev pub settled : Run → Run
  settled r = with_state (record r.state { residual = minus f r.state.at.u r.state.at.half }) r

  -- ---- a later step's move: the candidates
  unfoldable pub adopt : Run → Left
  adopt r = onward r.status (settled (with_iterate (with_u r.candidate r.state.at) r))

  unfoldable pub again : ℕ → Run → Left
  again zero r = adopt r
  again (suc k) r =
      asks Asked.cost Phase.tried_cost
      (record r { rounds = k; candidate = I.candidate f (div f r.tau (two f)) r.direction r.state; tau = div f r.tau (two f) })

  unfoldable pub tried_project : List Float → Run → Left
  tried_project v r =
      cond (lt r.rhs (I.envelope f (with_half v r.state.at)))
      (again r.rounds (with_iterate (with_half v r.state.at) r))
      (adopt (with_iterate (with_half v r.state.at) r))

  -- GRADIENT at a candidate, with its step
  abbrev pub tried_at : List Float → Run → Run
  tried_at v r = with_iterate (with_gradient v (less_times f r.state.at.gamma r.candidate v) r.state.at) r

  unfoldable pub tried_gradient : List Float → Run → Left
  tried_gradient v r = cond (finite r.state.at.cost && all_finite v) (asks Asked.project Phase.tried_project (tried_at v r)) (stops 14 (tried_at v r))

  unfoldable pub tried_cost : Float → Run → Left
  tried_cost x r = asks Asked.gradient Phase.tried_gradient (with_iterate (with_cost x r.state.at) r)

  -- the first candidate along d
  unfoldable pub search : List Float → Run → Left
  search d r =
      asks Asked.cost Phase.tried_cost
      (record r { rounds = max_linesearch_iterations; candidate = I.candidate f (one f) d r.state; direction = d; tau = one f; rhs = I.descent f r.state })

  -- ---- the first step's move
  unfoldable pub first_project : List Float → Run → Left
  first_project v r = onward r.status (settled (with_iterate (with_half v r.state.at) r))

  abbrev pub first_at : List Float → Run → Run
  first_at v r = with_iterate (with_gradient v (less_times f r.state.at.gamma r.state.at.u v) r.state.at) r

  unfoldable pub first_gradient : List Float → Run → Left
  first_gradient v r = cond (finite r.state.at.cost && all_finite v) (asks Asked.project Phase.first_project (first_at v r)) (stops 13 (first_at v r))

  unfoldable pub first_cost : Float → Run → Left
  first_cost x r = asks Asked.gradient Phase.first_gradient (with_iterate (with_cost x r.state.at) r)

  -- ---- DIRECTION
  unfoldable pub directed : List Float → Run → Left
  directed d r = cond (eqb r.state.at.count 0) (asks Asked.cost Phase.first_cost (with_iterate (with_u r.state.at.half r.state.at) r)) (search d r)

  unfoldable pub ask_direction : Run → Left
  ask_direction r = asks (Asked.direction r.forget) Phase.direction (with_iterate (with_sigma (I.sigma_of f r.state.at.gamma) r.state.at) r)

  -- ---- the doubling: k more after the cost c
  unfoldable pub doubling : ℕ → Float → Run → Left
  doubling zero c r = ask_direction r
  doubling (suc k) c r =
      cond (lt r.rhs c && lt r.state.at.lipschitz (max_lipschitz_constant f))
      (asks Asked.project Phase.doubled_project (record (with_iterate (I.doubled f r.set r.state.at) r) { rounds = k }))
      (ask_direction r)

  abbrev pub renewed : Run → Run
  renewed r = record (with_state (I.renewed f r.set r.state.at) r) { rhs = I.lipschitz_check_rhs f (I.renewed f r.set r.state.at); forget = true }

  unfoldable pub doubled_cost : Float → Run → Left
  doubled_cost x r = cond (finite x) (doubling r.rounds x (renewed r)) (stops 12 r)

  unfoldable pub doubled_project : List Float → Run → Left
  doubled_project v r = asks Asked.cost Phase.doubled_cost (with_iterate (with_half v r.state.at) r)

  unfoldable pub half_cost : Float → Run → Left
  half_cost x r = cond (finite x) (doubling max_lipschitz_updates x (record r { forget = eqb r.state.at.count 0; rounds = max_lipschitz_updates })) (stops 11 r)

  -- ---- the last COST
  unfoldable pub last_cost : Float → Run → Left
  last_cost x r =
      cond (finite x)
      (record {
        told = Say.Told.ended (record { status = r.status; iterations = r.state.at.count; norm = r.state.at.best.norm; cost = x });
        run = record r { phase = Phase.over };
      })
      (stops 16 r)

  -- ---- the start
  abbrev pub opening_of : Run → Opening
  opening_of r =
      record {
        u = r.state.at.u;
        cost = r.state.at.cost;
        gradient = r.state.at.gradient;
        gradient_step = r.state.at.gradient_step;
        lipschitz = r.state.at.lipschitz;
        gamma = r.state.at.gamma;
        sigma = r.state.at.sigma;
      }

  unfoldable pub project : List Float → Run → Left
  project v r = step (record (with_iterate (I.begun f r.set (opening_of r) v) r) { status = converged; left = r.set.limit })

  -- the opening: L, γ, σ and the gradient step of the second gradient
  abbrev opened : Opening → Run → Run
  opened o r = with_iterate (record r.state.at { gradient_step = o.gradient_step; lipschitz = o.lipschitz; gamma = o.gamma; sigma = o.sigma }) r

  abbrev pub opened_at : List Float → Run → Run
  opened_at v r = opened (I.opening f r.set r.state.at.u r.state.at.cost r.state.at.gradient (estimate f r.norm_h r.state.at.gradient v)) r

  unfoldable pub shifted_gradient : List Float → Run → Left
  shifted_gradient v r = cond (finite r.state.at.cost && all_finite r.state.at.gradient) (asks Asked.project Phase.project (opened_at v r)) (stops 10 r)

  unfoldable pub gradient : List Float → Run → Left
  gradient v r =
      asks Asked.gradient Phase.shifted
      (record (with_iterate (with_u (shifted f r.state.at.u) (with_gradient v r.state.at.gradient_step r.state.at)) r) { norm_h = norm f (shifts f r.state.at.u) })

  unfoldable pub cost : Float → Run → Left
  cost x r = asks Asked.gradient Phase.gradient (with_iterate (with_cost x r.state.at) r)

-- What each accepted answer leaves of a run of the multiplier loop. Formulas are the model's (`Loop`); what is said here is what of them a run keeps. Definitions only.
use Rattle.std.specs.Prelude.{ℕ, zero, suc, ◌+◌, Bool, ◌||◌, cond, List, eqb, Float}
use Rattle.std.specs.Float.{Format}
use Rattle.std.specs.Float.Ieee.{is_nan}
use Rattle.ieee.specs.Numbers.{null}
use Rattle.ieee.specs.Sums.{norm}
use Rattle.model.specs.Vectors.{minus, plus_times, plus_over}
use Rattle.model.specs.Process.{Status, converged, not_converged_iterations, not_converged_out_of_time}
use Rattle.model.specs.State.{with_u}
use Rattle.model.specs.Loop.{penalty_of, inner_settings}
use Rattle.model.specs.Loop as L
use Rattle.machine.specs.Told as Say
use Rattle.machine.specs.InnerRun as Inner
use Rattle.machine.specs.InnerAnswer.{begun}
use Rattle.machine.specs.LoopRun.{Phase, Asked, Run, Left, u_of, plan_of, state_of, found_all, with_solve, scratched, asks, stops, fails}

-- ---- the end: the last COST, with c = 0
unfoldable pub conclude : Status → Run → Left
conclude e r = asks Asked.cost Phase.last_cost (record r { status = e })

-- after it: 18 where an infeasibility is NaN, else what is handed back with the plan and the multipliers
unfoldable pub last_cost : Float → Run → Left
last_cost x r =
    cond (is_nan r.delta_y_norm || is_nan r.f2_norm)
    (stops 18 r)
    (record {
      told = Say.Told.ended
          (record {
            status = r.status;
            outer = r.outer;
            inner = r.inner;
            norm = r.norm;
            delta_y = r.delta_y_norm;
            f2 = r.f2_norm;
            penalty = penalty_of r.set r.c;
            cost = x;
          });
      run = record r { phase = Phase.over };
    })

-- ---- an outer iteration begins

-- the inner solve begins anew from u; its other vectors stay
abbrev pub opened : List Float → Run → Run
opened u r = with_solve (begun (inner_settings r.set (state_of r)) u r.solve) r

-- its first question
unfoldable pub inner_solve : Run → Left
inner_solve r = asks (Asked.inner Inner.Asked.cost) Phase.inner (opened (u_of r) r)

-- "project y on Y", where a set Y is given
unfoldable pub project_y : List Float → Run → Left
project_y v r = inner_solve (record r { y = v })

unfoldable pub iteration : Run → Left
iteration r = cond r.set.set_y (asks Asked.project_y Phase.project_y r) (inner_solve r)

-- "a no from TIME ends it as out of time", the first one by 17
unfoldable pub out_of_time : Run → Left
out_of_time r = cond (eqb r.outer 0) (stops 17 r) (conclude not_converged_out_of_time r)

unfoldable pub timed : Bool → Run → Left
timed t r = cond t (iteration r) (out_of_time r)

-- "TIME if limited"
unfoldable pub begins : Run → Left
begins r = cond r.set.limited (asks Asked.time Phase.time r) (iteration r)

-- at most l iterations more, e being the end of the inner solve before
unfoldable pub iterations : ℕ → Status → Run → Left
iterations zero e r = conclude not_converged_iterations r
iterations (suc l) converged r = begins (record r { left = l })
iterations (suc l) not_converged_iterations r = begins (record r { left = l })
iterations (suc l) not_converged_out_of_time r = conclude not_converged_out_of_time r

-- ---- after the inner solve

-- it has come to its end
abbrev pub solved : Inner.Numbers → Run → Run
solved e r = record r { status = e.status; found = e.iterations; norm = e.norm }

-- an iteration is done, with this penalty and tolerance: u is the plan, and its infeasibilities are the former ones from now on
abbrev pub counted : Float → Float → Run → Run
counted c t r =
    record r {
      outer = r.outer + 1;
      inner = r.inner + r.found;
      c = c;
      akkt = t;
      delta_y_norm = r.delta_y_norm_plus;
      f2_norm = r.f2_norm_plus;
      solve = Inner.with_iterate (with_u (plan_of r) r.solve.state.at) r.solve;
    }

module _ (f : Format) where
  -- the iteration is weighed: the exit test, "else c is multiplied ..", the inner tolerance and y are the next ones
  unfoldable pub weigh : Run → Left
  weigh r =
      cond (L.exits f r.set (found_all r))
      (conclude r.status (counted r.c r.akkt r))
      (iterations r.left r.status (counted (L.next_penalty f r.set (found_all r)) (L.next_akkt f r.set r.akkt) (record r { y = r.y_plus })))

  -- "F2 and its norm", 0 where n2 = 0
  unfoldable pub f2 : List Float → Run → Left
  f2 v r = weigh (record (scratched v r) { f2_norm_plus = norm f v })

  unfoldable pub ask_f2 : Run → Left
  ask_f2 r = cond (eqb r.set.n2 0) (weigh (record r { f2_norm_plus = null })) (asks Asked.f2 Phase.f2 r)

  -- "y_plus = y + c × (F1 - P)", and its distance from y
  abbrev pub multiplied : List Float → Run → Run
  multiplied z r = record r { y_plus = z; delta_y_norm_plus = norm f (minus f z r.y) }

  unfoldable pub project_c : List Float → Run → Left
  project_c v r = ask_f2 (multiplied (plus_times f r.c r.y (minus f r.f1 v)) (scratched v r))

  -- "P the projection of F1 + y / c on C": until it is known, y_plus is what is to be projected; where n1 = 0, y_plus is y
  unfoldable pub f1 : List Float → Run → Left
  f1 v r = asks Asked.project_c Phase.project_c (record r { f1 = v; y_plus = plus_over f r.c v r.y })

  unfoldable pub ask_f1 : Run → Left
  ask_f1 r = cond (eqb r.set.n1 0) (ask_f2 (record r { y_plus = r.y; delta_y_norm_plus = null })) (asks Asked.f1 Phase.f1 r)

  -- ---- the inner solve's questions, which the loop carries

  -- what it comes to: another question, its end, a refusal or a failure, which end the loop too
  unfoldable pub carried : Inner.Told → Run → Left
  carried (Say.Told.asked q) r = asks (Asked.inner q) Phase.inner r
  carried (Say.Told.ended e) r = ask_f1 (solved e r)
  carried (Say.Told.refused k) r = stops k r
  carried (Say.Told.failed c) r = fails c r

  -- l is what an answer leaves of it
  abbrev pub inner : Inner.Left → Run → Left
  inner l r = carried l.told (with_solve l.run r)

-- The multiplier loop: document 01, "One outer iteration". Definitions only.
use Rattle.std.specs.Prelude.{ℕ, zero, suc, ◌+◌, Bool, ◌&&◌, ◌||◌, not, cond, List, [], ◌∷◌, eqb, Float}
use Rattle.std.proofs.Math.Option.{some}
use Rattle.std.specs.Float.{Format}
use Rattle.std.specs.Float.Ieee.{add, mul, le, is_nan}
use Rattle.ieee.specs.Numbers.{null, larger}
use Rattle.ieee.specs.Sums.{norm}
use Rattle.model.specs.Constants.{epsilon}
use Rattle.model.specs.Vectors.{minus, plus_times, plus_over}
use Rattle.model.specs.Process.{number, vector, decision, handed, refused, ask, stop, within, LoopQuestion, inner, project_y, f1, project_c, f2, Status, converged, not_converged_iterations, not_converged_out_of_time, Handed, LoopHanded, Loop}
use Rattle.model.specs.Process as Asks
use Rattle.model.specs.State.{Settings}
use Rattle.model.specs.Inner.{solve}

-- n, n1, n2; whether a set Y is given; M and K; whether TIME is asked; the tolerances, the factors and the decrease coefficient. `akkt` is the first AKKT tolerance
pub record LoopSettings : Type 0 where
  pub n : ℕ
  pub n1 : ℕ
  pub n2 : ℕ
  pub set_y : Bool
  pub limit : ℕ
  pub outer : ℕ
  pub limited : Bool
  pub tolerance : Float
  pub epsilon : Float
  pub delta : Float
  pub akkt : Float
  pub penalty_factor : Float
  pub epsilon_factor : Float
  pub coefficient : Float

-- Where the loop stands between two outer iterations: u, the penalty c, the multipliers y, the AKKT tolerance of the next inner solve;
-- then, of the iteration before, y_plus, both infeasibilities and the norm; how many outer and inner iterations there were.
pub record LoopState : Type 0 where
  pub u : List Float
  pub c : Float
  pub y : List Float
  pub akkt : Float
  pub y_plus : List Float
  pub delta_y : Float
  pub f2 : Float
  pub norm : Float
  pub outer : ℕ
  pub inner : ℕ

-- What an outer iteration carries on while its inner solve runs: c, y projected, the AKKT tolerance, the former infeasibilities, the counts.
pub record Carried : Type 0 where
  pub c : Float
  pub y : List Float
  pub akkt : Float
  pub delta_y : Float
  pub f2 : Float
  pub outer : ℕ
  pub inner : ℕ

-- What an outer iteration has found so far: what it carried on; the inner solve's end, plan, norm and iterations; y_plus and the infeasibilities, 0 where absent.
pub record Found : Type 0 where
  pub from : Carried
  pub status : Status
  pub plan : List Float
  pub norm : Float
  pub iterations : ℕ
  pub y_plus : List Float
  pub delta_y : Float
  pub f2 : Float

-- "xi is empty if n1 = n2 = 0, else the penalty c and then n1 multipliers y"
unfoldable pub xi_of : LoopSettings → Float → List Float → List Float
xi_of s c y = cond (eqb s.n1 0 && eqb s.n2 0) [] (c ∷ y)

-- "c (0 if xi is empty)"
unfoldable pub penalty_of : LoopSettings → Float → Float
penalty_of s c = cond (eqb s.n1 0 && eqb s.n2 0) null c

abbrev pub with_y : List Float → LoopState → LoopState
with_y y st = record { u = st.u; c = st.c; y = y; akkt = st.akkt; y_plus = st.y_plus; delta_y = st.delta_y; f2 = st.f2; norm = st.norm; outer = st.outer; inner = st.inner }

abbrev pub carried_of : LoopState → Carried
carried_of st = record { c = st.c; y = st.y; akkt = st.akkt; delta_y = st.delta_y; f2 = st.f2; outer = st.outer; inner = st.inner }

abbrev pub with_multipliers : List Float → Float → Found → Found
with_multipliers y x r = record { from = r.from; status = r.status; plan = r.plan; norm = r.norm; iterations = r.iterations; y_plus = y; delta_y = x; f2 = r.f2 }

abbrev pub with_f2 : Float → Found → Found
with_f2 x r = record { from = r.from; status = r.status; plan = r.plan; norm = r.norm; iterations = r.iterations; y_plus = r.y_plus; delta_y = r.delta_y; f2 = x }

-- the inner solve's settings: "The AKKT tolerance (under the loop, its first value)"
unfoldable pub inner_settings : LoopSettings → LoopState → Settings
inner_settings s st = record { n = s.n; limit = s.limit; limited = s.limited; tolerance = s.tolerance; akkt = some st.akkt }

module _ (f : Format) (s : LoopSettings) where
  -- ---- the tests

  -- "Exit if |y_plus - y| ≤ c × δ + 2^-52 (n1 > 0, second iteration on), |F2| ≤ δ + 2^-52 (n2 > 0) and the inner AKKT tolerance is ≤ ε + 2^-52"; at the first iteration with n1 > 0 it fails
  unfoldable pub exits : Found → Bool
  exits r =
      (eqb s.n1 0 || (not (eqb r.from.outer 0) && le r.delta_y (add f (mul f r.from.c s.delta) (epsilon f))))
      && ((eqb s.n2 0 || le r.f2 (add f s.delta (epsilon f))) && le r.from.akkt (add f s.epsilon (epsilon f)))

  -- "each infeasibility present is ≤ coefficient × the former + 2^-52"; with neither present none has decreased
  unfoldable pub decreased : Float → Float → Bool
  decreased x former = le x (add f (mul f s.coefficient former) (epsilon f))

  unfoldable pub stalls : Found → Bool
  stalls r =
      not (eqb s.n1 0 && eqb s.n2 0)
      && ((eqb s.n1 0 || decreased r.delta_y r.from.delta_y) && (eqb s.n2 0 || decreased r.f2 r.from.f2))

  -- "Else c is multiplied, except at the first iteration or where each infeasibility present is .."
  unfoldable pub next_penalty : Found → Float
  next_penalty r = cond (eqb r.from.outer 0 || stalls r) r.from.c (mul f r.from.c s.penalty_factor)

  -- "The inner tolerance becomes max(ε, factor × itself)"
  unfoldable pub next_akkt : Float → Float
  next_akkt t = larger s.epsilon (mul f s.epsilon_factor t)

  -- ---- the end

  -- after the last COST, v, taken unchecked: 18 where an infeasibility is NaN; else all that is handed back
  unfoldable pub concluded : Status → LoopState → Float → Loop
  concluded e st v =
      cond (is_nan st.delta_y || is_nan st.f2) (stop (refused 18))
      (stop
      (handed
      (record {
        plan = st.u;
        multipliers = st.y_plus;
        penalty = penalty_of s st.c;
        status = e;
        outer = st.outer;
        inner = st.inner;
        norm = st.norm;
        delta_y = st.delta_y;
        f2 = st.f2;
        cost = v;
      })))

  -- "At the end COST with c = 0"
  unfoldable pub conclude : Status → LoopState → Loop
  conclude e st = ask (Asks.LoopQuestion.cost st.u (xi_of s null st.y)) number (concluded e st)

  -- ---- after the inner solve

  -- an iteration is done: with this penalty, tolerance and y
  unfoldable pub counted : Found → Float → List Float → Float → LoopState
  counted r c y t =
      record {
        u = r.plan;
        c = c;
        y = y;
        akkt = t;
        y_plus = r.y_plus;
        delta_y = r.delta_y;
        f2 = r.f2;
        norm = r.norm;
        outer = r.from.outer + 1;
        inner = r.from.inner + r.iterations;
      }

  -- "When it passes, the y in xi stay those of that iteration"; else c, the inner tolerance and y are the next ones
  unfoldable pub weighed : (Status → LoopState → Loop) → Found → Loop
  weighed next r =
      cond (exits r) (conclude r.status (counted r r.from.c r.from.y r.from.akkt))
      (next r.status (counted r (next_penalty r) r.y_plus (next_akkt r.from.akkt)))

  -- "F2 and its norm"
  unfoldable pub got_f2 : (Status → LoopState → Loop) → Found → List Float → Loop
  got_f2 next r z = weighed next (with_f2 (norm f z) r)

  unfoldable pub ask_f2 : (Status → LoopState → Loop) → Found → Loop
  ask_f2 next r = cond (eqb s.n2 0) (weighed next r) (ask (f2 r.plan) (vector s.n2) (got_f2 next r))

  -- "y_plus = y + c × (F1 - P), P the projection of F1 + y / c on C"; v is F1
  unfoldable pub got_c : (Status → LoopState → Loop) → Found → List Float → List Float → Loop
  got_c next r v p =
      ask_f2 next
      (with_multipliers (plus_times f r.from.c r.from.y (minus f v p)) (norm f (minus f (plus_times f r.from.c r.from.y (minus f v p)) r.from.y)) r)

  unfoldable pub got_f1 : (Status → LoopState → Loop) → Found → List Float → Loop
  got_f1 next r v = ask (project_c (plus_over f r.from.c v r.from.y)) (vector s.n1) (got_c next r v)

  unfoldable pub ask_f1 : (Status → LoopState → Loop) → Found → Loop
  ask_f1 next r = cond (eqb s.n1 0) (ask_f2 next r) (ask (f1 r.plan) (vector s.n1) (got_f1 next r))

  -- ---- an outer iteration

  unfoldable pub solved : (Status → LoopState → Loop) → Carried → Handed → Loop
  solved next from h =
      ask_f1 next (record { from = from; status = h.status; plan = h.plan; norm = h.norm; iterations = h.iterations; y_plus = from.y; delta_y = null; f2 = null })

  -- "inner solve": its questions carry xi
  unfoldable pub inner_solve : (Status → LoopState → Loop) → LoopState → Loop
  inner_solve next st = within (inner (xi_of s st.c st.y)) (solved next (carried_of st)) (solve f (inner_settings s st) st.u)

  -- "project y on Y"
  unfoldable pub got_y : (Status → LoopState → Loop) → LoopState → List Float → Loop
  got_y next st y = inner_solve next (with_y y st)

  unfoldable pub iteration : (Status → LoopState → Loop) → LoopState → Loop
  iteration next st = cond s.set_y (ask (project_y st.y) (vector s.n1) (got_y next st)) (inner_solve next st)

  -- "a no from TIME ends it as out of time"; from the first TIME it is refused, 17
  unfoldable pub out_of_time : LoopState → Loop
  out_of_time st = cond (eqb st.outer 0) (stop (refused 17)) (conclude not_converged_out_of_time st)

  unfoldable pub timed : (Status → LoopState → Loop) → LoopState → Bool → Loop
  timed next st inTime = cond inTime (iteration next st) (out_of_time st)

  -- "TIME if limited"
  unfoldable pub begins : (Status → LoopState → Loop) → LoopState → Loop
  begins next st = cond s.limited (ask Asks.LoopQuestion.time decision (timed next st)) (iteration next st)

  -- at most l iterations more, e being the end of the inner solve before. "An iteration whose solve is out of time is finished and then ends the loop"; "Reaching K with the loop still open replaces even an out-of-time end"
  unfoldable pub iterations : ℕ → Status → LoopState → Loop
  iterations zero e st = conclude not_converged_iterations st
  iterations (suc l) converged st = begins (iterations l) st
  iterations (suc l) not_converged_iterations st = begins (iterations l) st
  iterations (suc l) not_converged_out_of_time st = conclude not_converged_out_of_time st

  -- the loop from u, c and y
  unfoldable pub first_state : List Float → Float → List Float → LoopState
  first_state u c y =
      record { u = u; c = c; y = y; akkt = s.akkt; y_plus = y; delta_y = null; f2 = null; norm = null; outer = 0; inner = 0 }

  unfoldable pub loop : List Float → Float → List Float → Loop
  loop u c y = iterations s.outer converged (first_state u c y)

-- One inner solve, sentence by sentence: document 01, "One inner solve". Every continuation has a name; the order is the order in which a run comes to them. Definitions only.
use Rattle.std.specs.Prelude.{ℕ, zero, suc, Bool, true, false, ◌&&◌, cond, List, eqb, Float, replicate}
use Rattle.std.proofs.Math.Option.{Option, none, some}
use Rattle.std.specs.Float.{Format}
use Rattle.std.specs.Float.Ieee.{add, sub, mul, div, lt}
use Rattle.std.specs.Float.Ieee.Scale.{finite}
use Rattle.ieee.specs.Numbers.{null, absolute, larger}
use Rattle.ieee.specs.Sums.{squares, norm}
use Rattle.model.specs.Constants.{gamma_l_coeff, min_l_estimate, lipschitz_update_epsilon, max_lipschitz_constant, half, one, two, four, max_lipschitz_updates, max_linesearch_iterations}
use Rattle.model.specs.Vectors.{all_finite, minus, less_times, plus_times, dot, shifts, shifted, estimate}
use Rattle.model.specs.Process.{Kind, number, vector, direction, decision, End, handed, refused, ask, score, begin, stop, Question, cost, gradient, project, time, Status, converged, not_converged_iterations, not_converged_out_of_time, Handed, Solve}
use Rattle.model.specs.Process as Asks
use Rattle.model.specs.State.{Settings, Best, no_best, keep, Opening, Iterate, State, with_u, with_cost, with_gradient, with_half, with_gamma, with_sigma, with_kept, step_counted, onto}

-- ---- the formulas

module _ (f : Format) where
  -- "γ = 0.95 / max(L, 1e-10)"
  unfoldable pub gamma_of : Float → Float
  gamma_of l = div f (gamma_l_coeff f) (larger l (min_l_estimate f))

  -- "σ = (1 - 0.95) / (4 × γ)"
  unfoldable pub sigma_of : Float → Float
  sigma_of γ = div f (sub f (one f) (gamma_l_coeff f)) (mul f (four f) γ)

  -- "the norm of residual + γ × (gradient - previous)"
  unfoldable pub akkt_residual : State → Float
  akkt_residual st = norm f (plus_times f st.at.gamma st.residual (minus f st.at.gradient st.at.previous))

  -- what the cost at the half step is held to: "cost + 1e-6 × |cost| - (gradient · residual) + (0.95 / (2 × γ)) × norm × norm"
  unfoldable pub lipschitz_check_rhs : State → Float
  lipschitz_check_rhs st =
      add f
      (sub f (add f st.at.cost (mul f (lipschitz_update_epsilon f) (absolute st.at.cost))) (dot f st.at.gradient st.residual))
      (mul f (mul f (div f (gamma_l_coeff f) (mul f (two f) st.at.gamma)) st.norm) st.norm)

  -- "cost - 0.5 × γ × |gradient|² + 0.5 × d² / γ", "d the distance from gradient step to half step"
  unfoldable pub envelope : Iterate → Float
  envelope i =
      add f
      (sub f i.cost (mul f (mul f (half f) i.gamma) (squares f i.gradient)))
      (div f (mul f (half f) (squares f (minus f i.gradient_step i.half))) i.gamma)

  -- "its value at u after the doubling, minus σ × norm × norm"
  unfoldable pub descent : State → Float
  descent st = sub f (envelope st.at) (mul f (mul f st.at.sigma st.norm) st.norm)

  -- "u - (1 - τ) × residual - τ × direction"
  unfoldable pub candidate : Float → List Float → State → List Float
  candidate τ d st = less_times f τ (less_times f (sub f (one f) τ) st.at.u st.residual) d

-- ---- the previous gradient

-- What a solve starts it at. Document 01 has the loop keep it from one solve to the next; the Rust sets it to zeros before each: docs/DIFFERENCES.md, 1.
unfoldable pub first_previous : ℕ → List Float
first_previous n = replicate n null

-- "keep the previous gradient if at least one step is done": the copy precedes the test
unfoldable pub kept_gradient : Iterate → List Float
kept_gradient i = cond (eqb i.count 0) i.previous i.gradient

-- ---- the solve

-- what comes after a step
abbrev pub Next : Type 0
Next = Iterate → Solve

module _ (f : Format) (s : Settings) where
  -- ---- after the last step

  -- COST at the best half step is c; with the end, the iterations and the norm it is handed back
  unfoldable pub last_cost : Status → Best → ℕ → Float → Solve
  last_cost e b k c =
      cond (finite c) (stop (handed (record { plan = b.point; status = e; iterations = k; norm = b.norm; cost = c }))) (stop (refused 16))

  -- "finite test of u, COST at the best half step"
  unfoldable pub last_test : Status → Best → ℕ → List Float → Solve
  last_test e b k u = cond (all_finite u) (ask (cost b.point) number (last_cost e b k)) (stop (refused 15))

  -- "After the last: residual and norm anew for the u and half step then at hand, score"
  unfoldable pub finish : Status → Iterate → Solve
  finish e i =
      score i.half (norm f (minus f i.u i.half))
      (last_test e (keep i.best i.half (norm f (minus f i.u i.half))) i.count i.u)

  -- after a step that did not end the solve: on, unless M was reached or TIME was answered no before it
  unfoldable pub onward : Status → Next → Iterate → Solve
  onward converged next i = next i
  onward not_converged_iterations next i = finish not_converged_iterations i
  onward not_converged_out_of_time next i = finish not_converged_out_of_time i

  -- ---- the first step's move: "sets u to the half step and asks COST, GRADIENT, PROJECT"

  unfoldable pub first_project : Status → Next → Iterate → List Float → Solve
  first_project e next i h = onward e next (with_half h i)

  unfoldable pub first_gradient : Status → Next → Iterate → List Float → Solve
  first_gradient e next i g =
      cond (finite i.cost && all_finite g)
      (ask (project (less_times f i.gamma i.u g)) (vector s.n) (first_project e next (with_gradient g (less_times f i.gamma i.u g) i)))
      (stop (refused 13))

  unfoldable pub first_cost : Status → Next → Iterate → Float → Solve
  first_cost e next i c = ask (gradient i.u) (vector s.n) (first_gradient e next (with_cost c i))

  unfoldable pub first_move : Status → Next → Iterate → Solve
  first_move e next i = ask (cost i.half) number (first_cost e next (with_u i.half i))

  -- ---- a later step's move: candidates w. `again` is what follows one that is above v. Cost, gradient and half step of a candidate take the place of u's

  -- "until .. is not above its value at u after the doubling, minus σ × norm × norm"
  unfoldable pub tried_project : Status → Next → (List Float → State → Solve) → Float → List Float → State → List Float → Solve
  tried_project e next again v w st h =
      cond (lt v (envelope f (with_half h st.at))) (again w (onto (with_half h st.at) st)) (onward e next (with_u w (with_half h st.at)))

  unfoldable pub tried_gradient : Status → Next → (List Float → State → Solve) → Float → List Float → State → List Float → Solve
  tried_gradient e next again v w st g =
      cond (finite st.at.cost && all_finite g)
      (ask (project (less_times f st.at.gamma w g)) (vector s.n)
      (tried_project e next again v w (onto (with_gradient g (less_times f st.at.gamma w g) st.at) st)))
      (stop (refused 14))

  unfoldable pub tried_cost : Status → Next → (List Float → State → Solve) → Float → List Float → State → Float → Solve
  tried_cost e next again v w st c = ask (gradient w) (vector s.n) (tried_gradient e next again v w (onto (with_cost c st.at) st))

  -- the candidate for τ: "each COST, GRADIENT, PROJECT"
  unfoldable pub trial : Status → Next → (List Float → State → Solve) → Float → Float → List Float → State → Solve
  trial e next again τ v d st = ask (cost (candidate f τ d st)) number (tried_cost e next again v (candidate f τ d st) st)

  -- "for τ = 1, 1/2, .. 1/1024, eleven at most": k more. "The fallback after ten halvings is overwritten by the last candidate"
  unfoldable pub retry : ℕ → Status → Next → Float → Float → List Float → List Float → State → Solve
  retry zero e next τ v d w st = onward e next (with_u w st.at)
  retry (suc k) e next τ v d w st = trial e next (retry k e next (div f τ (two f)) v d) (div f τ (two f)) v d st

  unfoldable pub search : Status → Next → State → List Float → Solve
  search e next st d = trial e next (retry max_linesearch_iterations e next (one f) (descent f st) d) (one f) (descent f st) d st

  -- ---- DIRECTION

  -- "The first step ignores the direction"
  unfoldable pub directed : Status → Next → State → List Float → Solve
  directed e next st d = cond (eqb st.at.count 0) (first_move e next st.at) (search e next st d)

  -- "σ again. DIRECTION (residual, u, forget or not)"
  unfoldable pub ask_direction : Status → Next → Bool → State → Solve
  ask_direction e next forget st =
      ask (Asks.Question.direction forget st.residual st.at.u) (direction s.n) (directed e next (onto (with_sigma (sigma_of f st.at.gamma) st.at) st))

  -- ---- the doubling. `again` is what follows the new residual

  -- "new residual"
  unfoldable pub renewed : Iterate → State
  renewed i = record { at = i; residual = minus f i.u i.half; norm = norm f (minus f i.u i.half) }

  unfoldable pub doubled_cost : (State → Float → Solve) → Iterate → Float → Solve
  doubled_cost again i c = cond (finite c) (again (renewed i) c) (stop (refused 12))

  unfoldable pub doubled_project : (State → Float → Solve) → Iterate → List Float → Solve
  doubled_project again i h = ask (cost h) number (doubled_cost again (with_half h i))

  -- "double L, halve γ", and the gradient step for that γ
  unfoldable pub doubled : Iterate → Iterate
  doubled i = with_gamma (mul f i.lipschitz (two f)) (div f i.gamma (two f)) (less_times f (div f i.gamma (two f)) i.u i.gradient) i

  -- "While that exceeds .., with fewer than 10 rounds and L below 1e9: forget directions, double L, halve γ, PROJECT, COST": k rounds more
  unfoldable pub doubling : ℕ → Status → Next → Bool → State → Float → Solve
  doubling zero e next forget st c = ask_direction e next forget st
  doubling (suc k) e next forget st c =
      cond (lt (lipschitz_check_rhs f st) c && lt st.at.lipschitz (max_lipschitz_constant f))
      (ask (project (doubled st.at).gradient_step) (vector s.n) (doubled_project (doubling k e next true) (doubled st.at)))
      (ask_direction e next forget st)

  -- ---- a step

  -- "COST at the half step"; "the start also forgets"
  unfoldable pub half_cost : Status → Next → State → Float → Solve
  half_cost e next st c = cond (finite c) (doubling max_lipschitz_updates e next (eqb st.at.count 0) st c) (stop (refused 11))

  unfoldable pub akkt_passes : Option Float → State → Bool
  akkt_passes none st = true
  akkt_passes (some t) st = lt (akkt_residual f st) t

  -- "Stop if the norm is below the tolerance and the AKKT residual .. is below its own where one is set"
  unfoldable pub passes : State → Bool
  passes st = lt st.norm s.tolerance && akkt_passes s.akkt st

  unfoldable pub tested : Status → Next → State → Solve
  tested e next st = cond (passes st) (finish e st.at) (ask (cost st.at.half) number (half_cost e next st))

  -- "keep the previous gradient if at least one step is done; residual = u - half step, its norm, score"
  unfoldable pub entered : Iterate → State
  entered i =
      record {
        at = with_kept (kept_gradient i) (keep i.best i.half (norm f (minus f i.u i.half))) i;
        residual = minus f i.u i.half;
        norm = norm f (minus f i.u i.half);
      }

  -- e is the end that stands if the solve ends with this step
  unfoldable pub step : Status → Next → Iterate → Solve
  step e next i = score i.half (norm f (minus f i.u i.half)) (tested e next (entered i))

  -- ---- between steps

  -- the end that stands for a step after which l more may begin: "the end is out of time unless M was reached"
  unfoldable pub standing : ℕ → Bool → Status
  standing zero inTime = not_converged_iterations
  standing (suc l) true = converged
  standing (suc l) false = not_converged_out_of_time

  -- TIME was answered yes or no: "after a no, one more step runs"
  unfoldable pub timed : ℕ → Next → Iterate → Bool → Solve
  timed l next i inTime = step (standing l inTime) next i

  -- "Between steps TIME is asked if a limit is set": at most l steps more, and the next one is counted
  unfoldable pub laps : ℕ → Iterate → Solve
  laps zero i = finish not_converged_iterations i
  laps (suc l) i = cond s.limited (ask time decision (timed l (laps l) (step_counted i))) (timed l (laps l) (step_counted i) true)

  -- ---- the start

  -- the first half step is h: zeros for the previous gradient, no best half step yet, no step done
  unfoldable pub begun : Opening → List Float → Iterate
  begun o h =
      record {
        u = o.u;
        gradient = o.gradient;
        gradient_step = o.gradient_step;
        half = h;
        previous = first_previous s.n;
        lipschitz = o.lipschitz;
        gamma = o.gamma;
        sigma = o.sigma;
        cost = o.cost;
        best = no_best s.n;
        count = 0;
      }

  -- the first step, before which no limit stands
  unfoldable pub start_project : Opening → List Float → Solve
  start_project o h = step converged (laps s.limit) (begun o h)

  -- "γ = .., σ = .., gradient step u - γ × gradient", u being the shifted one, w
  unfoldable pub opening : List Float → Float → List Float → Float → Opening
  opening w c g l =
      record {
        u = w;
        cost = c;
        gradient = g;
        gradient_step = less_times f (gamma_of f l) w g;
        lipschitz = l;
        gamma = gamma_of f l;
        sigma = sigma_of f (gamma_of f l);
      }

  -- "finite test, .., PROJECT to the half step": the test is of the first cost and the first gradient; x is the norm of the shift
  unfoldable pub start_shifted : Float → List Float → Float → List Float → List Float → Solve
  start_shifted x w c g g' =
      cond (finite c && all_finite g)
      (ask (project (opening w c g (estimate f x g g')).gradient_step) (vector s.n) (start_project (opening w c g (estimate f x g g'))))
      (stop (refused 10))

  -- "GRADIENT at shifted u"
  unfoldable pub start_gradient : List Float → Float → List Float → Solve
  start_gradient u c g = ask (gradient (shifted f u)) (vector s.n) (start_shifted (norm f (shifts f u)) (shifted f u) c g)

  unfoldable pub start_cost : List Float → Float → Solve
  start_cost u c = ask (gradient u) (vector s.n) (start_gradient u c)

  -- "Start: COST at u, GRADIENT at u, GRADIENT at shifted u, .."
  unfoldable pub solve : List Float → Solve
  solve u = begin (ask (cost u) number (start_cost u))

-- What an inner solve is given, and what it works with. Definitions only.
use Rattle.std.specs.Prelude.{ℕ, ◌+◌, Bool, cond, false, List, Float, replicate}
use Rattle.std.proofs.Math.Option.{Option}
use Rattle.std.specs.Float.{inf}
use Rattle.std.specs.Float.Ieee.{lt}
use Rattle.ieee.specs.Numbers.{null}

-- n; M; whether TIME is asked; the norm's tolerance; the AKKT tolerance, which may be missing
pub record Settings : Type 0 where
  pub n : ℕ
  pub limit : ℕ
  pub limited : Bool
  pub tolerance : Float
  pub akkt : Option Float

-- the best half step so far, with its norm
pub record Best : Type 0 where
  pub point : List Float
  pub norm : Float

-- "at first zeros with infinity"
unfoldable pub no_best : ℕ → Best
no_best n = record { point = replicate n null; norm = inf false }

-- "A scored half step is kept only if its norm is strictly less than the best so far"
unfoldable pub keep : Best → List Float → Float → Best
keep b half norm = cond (lt norm b.norm) (record { point = half; norm = norm }) b

-- What is known when the first half step is asked: u, which is shifted by then, cost and gradient, the gradient step, L, γ and σ.
pub record Opening : Type 0 where
  pub u : List Float
  pub cost : Float
  pub gradient : List Float
  pub gradient_step : List Float
  pub lipschitz : Float
  pub gamma : Float
  pub sigma : Float

-- Where a solve stands between two steps: u, the gradient there, the gradient step, the half step, the previous gradient; L, γ, σ and the cost at u; the best half step; how many steps are done.
pub record Iterate : Type 0 where
  pub u : List Float
  pub gradient : List Float
  pub gradient_step : List Float
  pub half : List Float
  pub previous : List Float
  pub lipschitz : Float
  pub gamma : Float
  pub sigma : Float
  pub cost : Float
  pub best : Best
  pub count : ℕ

-- within a step: the residual and its norm besides
pub record State : Type 0 where
  pub at : Iterate
  pub residual : List Float
  pub norm : Float

-- ---- an iterate with some of its parts replaced

-- at w instead of u
abbrev pub with_u : List Float → Iterate → Iterate
with_u w i = record { u = w; gradient = i.gradient; gradient_step = i.gradient_step; half = i.half; previous = i.previous; lipschitz = i.lipschitz; gamma = i.gamma; sigma = i.sigma; cost = i.cost; best = i.best; count = i.count }

abbrev pub with_cost : Float → Iterate → Iterate
with_cost c i = record { u = i.u; gradient = i.gradient; gradient_step = i.gradient_step; half = i.half; previous = i.previous; lipschitz = i.lipschitz; gamma = i.gamma; sigma = i.sigma; cost = c; best = i.best; count = i.count }

-- a gradient, and the gradient step with it
abbrev pub with_gradient : List Float → List Float → Iterate → Iterate
with_gradient g p i = record { u = i.u; gradient = g; gradient_step = p; half = i.half; previous = i.previous; lipschitz = i.lipschitz; gamma = i.gamma; sigma = i.sigma; cost = i.cost; best = i.best; count = i.count }

abbrev pub with_half : List Float → Iterate → Iterate
with_half h i = record { u = i.u; gradient = i.gradient; gradient_step = i.gradient_step; half = h; previous = i.previous; lipschitz = i.lipschitz; gamma = i.gamma; sigma = i.sigma; cost = i.cost; best = i.best; count = i.count }

-- L and γ, and the gradient step with them
abbrev pub with_gamma : Float → Float → List Float → Iterate → Iterate
with_gamma l g p i = record { u = i.u; gradient = i.gradient; gradient_step = p; half = i.half; previous = i.previous; lipschitz = l; gamma = g; sigma = i.sigma; cost = i.cost; best = i.best; count = i.count }

abbrev pub with_sigma : Float → Iterate → Iterate
with_sigma s i = record { u = i.u; gradient = i.gradient; gradient_step = i.gradient_step; half = i.half; previous = i.previous; lipschitz = i.lipschitz; gamma = i.gamma; sigma = s; cost = i.cost; best = i.best; count = i.count }

-- the previous gradient, and the best half step
abbrev pub with_kept : List Float → Best → Iterate → Iterate
with_kept p b i = record { u = i.u; gradient = i.gradient; gradient_step = i.gradient_step; half = i.half; previous = p; lipschitz = i.lipschitz; gamma = i.gamma; sigma = i.sigma; cost = i.cost; best = b; count = i.count }

-- one step more is done
abbrev pub step_counted : Iterate → Iterate
step_counted i = record { u = i.u; gradient = i.gradient; gradient_step = i.gradient_step; half = i.half; previous = i.previous; lipschitz = i.lipschitz; gamma = i.gamma; sigma = i.sigma; cost = i.cost; best = i.best; count = i.count + 1 }

-- a state with its iterate replaced
abbrev pub onto : Iterate → State → State
onto i st = record { at = i; residual = st.residual; norm = st.norm }

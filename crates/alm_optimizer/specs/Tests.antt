-- What a start tests of its settings, in parts: the limits, the tolerances, the factors. Definitions only.
use Rattle.std.specs.Prelude.{Bool, ◌&&◌}
use Rattle.std.specs.Float.{binary64}
use Rattle.model.specs.Refusals.{limit_right, tolerance_right, factor_right, fraction_right}
use Rattle.alm_engine.specs.declared.alm_cache.AlmSettings.{AlmSettings}

-- "M 1 to 10,000; K 1 to 1,000"
unfoldable pub limits_right : AlmSettings → Bool
limits_right s = limit_right 10000 s.max_inner_iterations && limit_right 1000 s.max_outer_iterations

-- "finite and above 0": the norm's tolerance, ε, δ and the AKKT tolerance
unfoldable pub tolerances_right : AlmSettings → Bool
tolerances_right s = tolerance_right s.tolerance && (tolerance_right s.epsilon_tolerance && (tolerance_right s.delta_tolerance && tolerance_right s.initial_inner_tolerance))

-- "finite and at least 1" and "strictly between 0 and 1": the penalty factor; the epsilon factor and the decrease coefficient
unfoldable pub factors_right : AlmSettings → Bool
factors_right s = factor_right binary64 s.penalty_update_factor && (fraction_right binary64 s.epsilon_update_factor && fraction_right binary64 s.sufficient_decrease_coeff)

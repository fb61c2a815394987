-- What a start for C leaves. Definitions only.
use Rattle.std.specs.Prelude.{ℕ, ◌≡◌, List, Float}
use Rattle.std.specs.Float.{binary64}
use Rattle.machine.specs.Numbers.{flag_of}
use Rattle.machine.specs.LoopAnswer.{start}
use Rattle.alm_engine.specs.declared.alm_cache.AlmSettings.{AlmSettings}
use Rattle.alm_engine.specs.Values.{loop_settings_of}
use Rattle.alm_engine.specs.LoopRuns.{loop_run}
use Rattle.alm_optimizer.specs.Calls.{loop_blank}
use Rattle.alm_fields.specs.declared.fields.AlmFields.{AlmFields}
use Rattle.alm_fields.specs.declared.fields.AlmC.{AlmC}
use Rattle.alm_fields.specs.Fields.{seen, exact}
use Rattle.alm_c.specs.declared.start.LoopSettings.{LoopSettings}

-- the settings that C gives
abbrev pub settings_in : LoopSettings → AlmSettings
settings_in s =
    record {
      n = s.n;
      n1 = s.n1;
      n2 = s.n2;
      has_set_y = flag_of s.has_set_y;
      max_inner_iterations = s.max_inner_iterations;
      max_outer_iterations = s.max_outer_iterations;
      limited = flag_of s.limited;
      tolerance = s.tolerance;
      epsilon_tolerance = s.epsilon_tolerance;
      delta_tolerance = s.delta_tolerance;
      initial_inner_tolerance = s.initial_inner_tolerance;
      penalty_update_factor = s.penalty_update_factor;
      epsilon_update_factor = s.epsilon_update_factor;
      sufficient_decrease_coeff = s.sufficient_decrease_coeff;
    }

-- put into the fields of a run
abbrev pub holding : LoopSettings → AlmFields → AlmFields
holding s was =
    record was {
      n = s.n;
      n1 = s.n1;
      n2 = s.n2;
      has_set_y = s.has_set_y;
      max_inner_iterations = s.max_inner_iterations;
      max_outer_iterations = s.max_outer_iterations;
      limited = s.limited;
      tolerance = s.tolerance;
      epsilon_tolerance = s.epsilon_tolerance;
      delta_tolerance = s.delta_tolerance;
      initial_inner_tolerance = s.initial_inner_tolerance;
      penalty_update_factor = s.penalty_update_factor;
      epsilon_update_factor = s.epsilon_update_factor;
      sufficient_decrease_coeff = s.sufficient_decrease_coeff;
    }

-- what the machine leaves, in exact numbers; the vectors but u, y and y_plus are as they were
abbrev pub Begins : AlmSettings → List Float → List Float → AlmC → AlmC → ℕ → Type 0
Begins set u xi was is r =
    seen r is.inner is.alm is.board ≡ exact (start binary64 (loop_settings_of set) u xi (loop_run (loop_blank set) was.board)) was.alm.end

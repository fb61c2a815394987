-- What a run is started with, and the numbers that C is given. Definitions only.
use Rattle.std.specs.Prelude.{ℕ, false}
use Rattle.std.specs.Prelude as Std
use Rattle.panoc_engine.specs.declared.outcome.Outcome.{Outcome}
use Rattle.panoc_engine.specs.declared.outcome.Outcome.TheVariants as O
use Rattle.panoc_engine.specs.declared.panoc_cache.Settings.{Settings}
use Rattle.alm_engine.specs.declared.alm_cache.AlmSettings.{AlmSettings}
use Rattle.alm_factory.specs.declared.records.Sizes.{Sizes}
use Rattle.values.specs.declared.task.Task.{Task}

-- the settings of each kind of run: no time is asked, an inner solve has no AKKT tolerance, a loop no set Y
abbrev pub inner_settings : Task → Settings
inner_settings t = record { n = t.n; max_iter = t.max_inner; limited = false; tolerance = t.tolerance; akkt_tolerance = Std.None }

abbrev pub loop_settings : Task → AlmSettings
loop_settings t =
    record {
      n = t.n;
      n1 = t.n1;
      n2 = t.n2;
      has_set_y = false;
      max_inner_iterations = t.max_inner;
      max_outer_iterations = t.max_outer;
      limited = false;
      tolerance = t.tolerance;
      epsilon_tolerance = t.epsilon;
      delta_tolerance = t.delta;
      initial_inner_tolerance = t.initial;
      penalty_update_factor = t.penalty_factor;
      epsilon_update_factor = t.epsilon_factor;
      sufficient_decrease_coeff = t.coefficient;
    }

abbrev pub sizes : Task → Sizes
sizes t = record { n = t.n; n1 = t.n1; n2 = t.n2 }

-- the number of the kind of what a call gives: `outcome_number` of what it tells
abbrev pub kind_of : {Q E : Type 0} → Outcome Q E → ℕ
kind_of (O.Asked q) = 0
kind_of (O.Ended e) = 1
kind_of (O.Refused r) = 2
kind_of (O.Failed c) = 3

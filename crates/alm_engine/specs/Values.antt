-- What the loop's enums and records stand for in the model and the machine. Definitions only.
use Rattle.std.specs.Prelude.{Float, Some}
use Rattle.model.specs.Loop.{LoopSettings}
use Rattle.machine.specs.InnerRun as Inner
use Rattle.machine.specs.LoopRun as Run
use Rattle.panoc_engine.specs.declared.panoc_cache.Settings.{Settings}
use Rattle.panoc_engine.specs.declared.outcome.Outcome.{Outcome}
use Rattle.panoc_engine.specs.Told.{telling}
use Rattle.panoc_engine.specs.Values.{asked_of, status_of}
use Rattle.alm_engine.specs.declared.alm_cache.AlmSettings.{AlmSettings}
use Rattle.alm_engine.specs.declared.alm_cache.AlmPhase.{AlmPhase}
use Rattle.alm_engine.specs.declared.alm_cache.AlmPhase.TheVariants as P
use Rattle.alm_engine.specs.declared.alm_cache.AlmQuestion.{AlmQuestion}
use Rattle.alm_engine.specs.declared.alm_cache.AlmQuestion.TheVariants as Q
use Rattle.alm_engine.specs.declared.alm_cache.AlmOptimizerStatus.{AlmOptimizerStatus}

-- the settings of a start
abbrev pub loop_settings_of : AlmSettings → LoopSettings
loop_settings_of s =
    record {
      n = s.n;
      n1 = s.n1;
      n2 = s.n2;
      set_y = s.has_set_y;
      limit = s.max_inner_iterations;
      outer = s.max_outer_iterations;
      limited = s.limited;
      tolerance = s.tolerance;
      epsilon = s.epsilon_tolerance;
      delta = s.delta_tolerance;
      akkt = s.initial_inner_tolerance;
      penalty_factor = s.penalty_update_factor;
      epsilon_factor = s.epsilon_update_factor;
      coefficient = s.sufficient_decrease_coeff;
    }

-- the settings of an inner solve, with this AKKT tolerance
abbrev pub inner_given : AlmSettings → Float → Settings
inner_given s t = record { n = s.n; max_iter = s.max_inner_iterations; limited = s.limited; tolerance = s.tolerance; akkt_tolerance = Some t }

-- what a run waits for
abbrev pub loop_phase_of : AlmPhase → Run.Phase
loop_phase_of P.Over = Run.Phase.over
loop_phase_of P.Time = Run.Phase.time
loop_phase_of P.ProjectY = Run.Phase.project_y
loop_phase_of P.Inner = Run.Phase.inner
loop_phase_of P.F1 = Run.Phase.f1
loop_phase_of P.ProjectC = Run.Phase.project_c
loop_phase_of P.F2 = Run.Phase.f2
loop_phase_of P.LastCost = Run.Phase.last_cost

-- the question that it asks there; of an inner solve the first one
abbrev pub loop_asked_at : AlmPhase → Run.Asked
loop_asked_at P.Over = Run.Asked.cost
loop_asked_at P.Time = Run.Asked.time
loop_asked_at P.ProjectY = Run.Asked.project_y
loop_asked_at P.Inner = Run.Asked.inner Inner.Asked.cost
loop_asked_at P.F1 = Run.Asked.f1
loop_asked_at P.ProjectC = Run.Asked.project_c
loop_asked_at P.F2 = Run.Asked.f2
loop_asked_at P.LastCost = Run.Asked.cost

-- a question, what an end says, and what a call gives
abbrev pub loop_asked_of : AlmQuestion → Run.Asked
loop_asked_of (Q.Inner q) = Run.Asked.inner (asked_of q)
loop_asked_of Q.Time = Run.Asked.time
loop_asked_of Q.ProjectY = Run.Asked.project_y
loop_asked_of Q.F1 = Run.Asked.f1
loop_asked_of Q.ProjectC = Run.Asked.project_c
loop_asked_of Q.F2 = Run.Asked.f2
loop_asked_of Q.Cost = Run.Asked.cost

abbrev pub loop_numbers_of : AlmOptimizerStatus → Run.Numbers
loop_numbers_of e =
    record {
      status = status_of e.exit_status;
      outer = e.num_outer_iterations.0;
      inner = e.num_inner_iterations.0;
      norm = e.last_problem_norm_fpr;
      delta_y = e.delta_y_norm;
      f2 = e.f2_norm;
      penalty = e.penalty;
      cost = e.cost;
    }

abbrev pub loop_told_of : Outcome AlmQuestion AlmOptimizerStatus → Run.Told
loop_told_of = telling loop_asked_of loop_numbers_of

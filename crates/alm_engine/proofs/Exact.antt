-- What stands for a value of the loop's code stands for no other. Assumes nothing.
use Rattle.std.proofs.Common.{◌≡◌, refl, ap}
use Rattle.model.specs.Loop.{LoopSettings}
use Rattle.machine.specs.LoopRun as Run
use Rattle.panoc_engine.specs.declared.panoc_cache.ExitStatus.{ExitStatus}
use Rattle.panoc_engine.specs.declared.panoc_cache.Question.{Question}
use Rattle.panoc_engine.specs.declared.outcome.Outcome.{Outcome}
use Rattle.panoc_engine.proofs.Exact.{by_back, status_back, status_round, asked_back, asked_round, telling_exact}
use Rattle.alm_engine.specs.declared.alm_cache.AlmSettings.{AlmSettings}
use Rattle.alm_engine.specs.declared.alm_cache.AlmQuestion.{AlmQuestion}
use Rattle.alm_engine.specs.declared.alm_cache.AlmQuestion.TheVariants as Q
use Rattle.alm_engine.specs.declared.alm_cache.AlmOptimizerStatus.{AlmOptimizerStatus}
use Rattle.alm_engine.specs.Values.{loop_settings_of, loop_asked_of, loop_numbers_of, loop_told_of}

abbrev settings_back : LoopSettings → AlmSettings
settings_back s =
    record {
      n = s.n;
      n1 = s.n1;
      n2 = s.n2;
      has_set_y = s.set_y;
      max_inner_iterations = s.limit;
      max_outer_iterations = s.outer;
      limited = s.limited;
      tolerance = s.tolerance;
      epsilon_tolerance = s.epsilon;
      delta_tolerance = s.delta;
      initial_inner_tolerance = s.akkt;
      penalty_update_factor = s.penalty_factor;
      epsilon_update_factor = s.epsilon_factor;
      sufficient_decrease_coeff = s.coefficient;
    }

pub loop_settings_exact : (s t : AlmSettings) → loop_settings_of s ≡ loop_settings_of t → s ≡ t
loop_settings_exact = by_back loop_settings_of settings_back (λ s. refl)

abbrev question_back : Run.Asked → AlmQuestion
question_back (Run.Asked.inner q) = Q.Inner (asked_back q)
question_back Run.Asked.time = Q.Time
question_back Run.Asked.project_y = Q.ProjectY
question_back Run.Asked.f1 = Q.F1
question_back Run.Asked.project_c = Q.ProjectC
question_back Run.Asked.f2 = Q.F2
question_back Run.Asked.cost = Q.Cost

question_round : (q : AlmQuestion) → question_back (loop_asked_of q) ≡ q
question_round (Q.Inner q) = ap (λ (x : Question). let k : AlmQuestion = Q.Inner x in k) (asked_round q)
question_round Q.Time = refl
question_round Q.ProjectY = refl
question_round Q.F1 = refl
question_round Q.ProjectC = refl
question_round Q.F2 = refl
question_round Q.Cost = refl

-- an end with this status
abbrev with_status : AlmOptimizerStatus → ExitStatus → AlmOptimizerStatus
with_status e k = record e { exit_status = k }

abbrev numbers_back : Run.Numbers → AlmOptimizerStatus
numbers_back e =
    record {
      exit_status = status_back e.status;
      num_outer_iterations = record { 0 = e.outer };
      num_inner_iterations = record { 0 = e.inner };
      last_problem_norm_fpr = e.norm;
      delta_y_norm = e.delta_y;
      f2_norm = e.f2;
      penalty = e.penalty;
      cost = e.cost;
    }

numbers_round : (e : AlmOptimizerStatus) → numbers_back (loop_numbers_of e) ≡ e
numbers_round e = ap (with_status e) (status_round e.exit_status)

pub loop_told_exact : (o p : Outcome AlmQuestion AlmOptimizerStatus) → loop_told_of o ≡ loop_told_of p → o ≡ p
loop_told_exact = telling_exact loop_asked_of question_back question_round loop_numbers_of numbers_back numbers_round

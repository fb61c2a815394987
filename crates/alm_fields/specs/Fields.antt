-- What the fields of a loop stand for, and what C is to see of what the machine leaves. Definitions only.
use Rattle.std.specs.Prelude.{ℕ, suc, ◌≡◌, cond, true, List, [], ◌∷◌, Float, length, eqb, get_or}
use Rattle.std.proofs.Math.Option.{Option}
use Rattle.std.specs.Float.{binary64}
use Rattle.model.specs.Refusals.{Reply, answer_refusal}
use Rattle.board.specs.Board.{vector, U, Y_PLUS}
use Rattle.machine.specs.Waits.{any_refusal}
use Rattle.machine.specs.LoopCalls.{lent_right}
use Rattle.machine.specs.LoopAnswer.{wanted_by, plan_after, xi_after, answered, answer_any}
use Rattle.machine.specs.LoopMoves.{carried}
use Rattle.machine.specs.Told.{asked, ended, refused, failed}
use Rattle.machine.specs.Numbers.{outcome_number, told_number, table_number, flag_of, status_number}
use Rattle.machine.specs.Numbers.{question_number as inner_question_number, end_number as inner_end_number}
use Rattle.machine.specs.InnerRun as M
use Rattle.machine.specs.LoopNumbers.{question_number, end_number, phase_number}
use Rattle.machine.specs.LoopRun as L
use Rattle.panoc_engine.specs.declared.panoc_cache.SolverStatus.{SolverStatus}
use Rattle.panoc_engine.specs.declared.panoc_cache.Reply as C
use Rattle.panoc_engine.specs.Values.{status_of, reply_of}
use Rattle.panoc_fields.specs.declared.fields.InnerEnd.{InnerEnd}
use Rattle.panoc_fields.specs.declared.fields.InnerFields.{InnerFields}
use Rattle.panoc_fields.specs.Fields.{solve_at, status_at, end_after as inner_end_after}
use Rattle.alm_engine.specs.declared.alm_cache.Alm.{Alm}
use Rattle.alm_engine.specs.declared.alm_cache.AlmSettings.{AlmSettings}
use Rattle.alm_engine.specs.declared.alm_cache.AlmPhase.{AlmPhase}
use Rattle.alm_engine.specs.declared.alm_cache.AlmPhase.TheVariants as P
use Rattle.alm_engine.specs.declared.alm_cache.AlmCounts.{AlmCounts}
use Rattle.alm_engine.specs.Values.{loop_settings_of, loop_phase_of}
use Rattle.alm_engine.specs.LoopRuns.{loop_run}
use Rattle.alm_optimizer.specs.Calls.{xi_filled}
use Rattle.alm_fields.specs.declared.fields.AlmEnd.{AlmEnd}
use Rattle.alm_fields.specs.declared.fields.AlmFields.{AlmFields}
use Rattle.alm_fields.specs.declared.fields.AlmC.{AlmC}

-- ---- what comes in

-- a number of no phase is of a run that has ended
abbrev pub phases : List AlmPhase
phases = P.Over ∷ P.Time ∷ P.ProjectY ∷ P.Inner ∷ P.F1 ∷ P.ProjectC ∷ P.F2 ∷ P.LastCost ∷ []

abbrev pub phase_at : ℕ → AlmPhase
phase_at m = get_or phases m P.Over

-- ---- the run

-- what a start was given
abbrev pub settings_at : AlmFields → AlmSettings
settings_at a =
    record {
      n = a.n;
      n1 = a.n1;
      n2 = a.n2;
      has_set_y = flag_of a.has_set_y;
      max_inner_iterations = a.max_inner_iterations;
      max_outer_iterations = a.max_outer_iterations;
      limited = flag_of a.limited;
      tolerance = a.tolerance;
      epsilon_tolerance = a.epsilon_tolerance;
      delta_tolerance = a.delta_tolerance;
      initial_inner_tolerance = a.initial_inner_tolerance;
      penalty_update_factor = a.penalty_update_factor;
      epsilon_update_factor = a.epsilon_update_factor;
      sufficient_decrease_coeff = a.sufficient_decrease_coeff;
    }

-- its small part
abbrev pub alm_at : InnerFields → AlmFields → Alm
alm_at i a =
    record {
      phase = phase_at a.phase;
      set = settings_at a;
      numbers = a.numbers;
      counts = record { left = a.left; outer = record { 0 = a.outer }; inner = record { 0 = a.inner }; found = record { 0 = a.found }; status = status_at a.status };
      solve = solve_at i;
    }

abbrev pub loop_run_at : InnerFields → AlmFields → List Float → L.Run
loop_run_at i a l = loop_run (alm_at i a) l

-- ---- what C sees of a call: the table's number, what is told and the phase of the loop in exact numbers, the numbers of an end, and the run that stands for all the rest
pub record Seen : Type 0 where
  pub number : ℕ
  pub outcome : ℕ
  pub told : ℕ
  pub phase : ℕ
  pub end : AlmEnd
  pub run : L.Run

abbrev pub seen : ℕ → InnerFields → AlmFields → List Float → Seen
seen r i a l = record { number = r; outcome = i.outcome; told = i.told; phase = a.phase; end = a.end; run = loop_run_at i a l }

-- the numbers of an end, was before
abbrev pub end_after : L.Told → AlmEnd → AlmEnd
end_after (asked q) was = was
end_after (ended e) was =
    record {
      outer_iterations = e.outer;
      inner_iterations = e.inner;
      norm_fpr = e.norm;
      delta_y_norm = e.delta_y;
      f2_norm = e.f2;
      penalty = e.penalty;
      cost = e.cost;
    }
end_after (refused k) was = was
end_after (failed c) was = was

-- what it is to see of what the machine leaves
abbrev pub exact : L.Left → AlmEnd → Seen
exact l was =
    record {
      number = table_number l.told;
      outcome = outcome_number l.told;
      told = told_number question_number end_number l.told;
      phase = phase_number l.run.phase;
      end = end_after l.told was;
      run = l.run;
    }

-- ---- what is put into the fields

-- what a call tells, its kind and the number beside it; and the phase
abbrev pub saying : ℕ → ℕ → InnerFields → InnerFields
saying outcome told was = record was { outcome = outcome; told = told }

abbrev pub going : AlmPhase → AlmFields → AlmFields
going p was = record was { phase = phase_number (loop_phase_of p) }

-- the counts, the end among them
abbrev pub counting : AlmCounts → AlmFields → AlmFields
counting c was = record was { left = c.left; outer = c.outer.0; inner = c.inner.0; found = c.found.0; status = status_number (status_of c.status) }

-- ---- what an inner solve tells, carried on

-- an end as it tells it
abbrev pub solver_status_at : InnerFields → SolverStatus
solver_status_at i = record { exit_status = status_at i.told; iterations = record { 0 = i.end.iterations }; norm_fpr = i.end.norm_fpr; cost_value = i.end.cost_value }

-- r and the fields are what C is to see of t, was being the numbers of an end before
pub record Tells (t : M.Told) (r : ℕ) (was : InnerEnd) (is : InnerFields) : Type 0 where
  pub number : r ≡ table_number t
  pub outcome : is.outcome ≡ outcome_number t
  pub told : is.told ≡ told_number inner_question_number inner_end_number t
  pub end : is.end ≡ inner_end_after t was

-- ---- an answer that nothing refuses

-- the table takes the answer a, the vector lent with it having vs places
abbrev pub Accepted : C.Reply → ℕ → InnerFields → AlmFields → List Float → Type 0
Accepted a vs i f l = answer_refusal (wanted_by (loop_run_at i f l)) (reply_of a) vs true ≡ 0

-- C sees what it leaves, v being the vector lent with it: r is the number, and i', f' and l' the fields and the board after it
abbrev pub Answered : C.Reply → List Float → InnerFields → AlmFields → List Float → ℕ → InnerFields → AlmFields → List Float → Type 0
Answered a v i f l r i' f' l' = seen r i' f' l' ≡ exact (answered binary64 (loop_run_at i f l) (reply_of a) v) f.end

-- the same of what the inner solve has told, carried on
abbrev pub Carried : M.Told → InnerFields → AlmFields → List Float → ℕ → InnerFields → AlmFields → List Float → Type 0
Carried t i f l r i' f' l' = seen r i' f' l' ≡ exact (carried binary64 t (loop_run_at i f l)) f.end

-- ---- the calls

-- the number by which the table refuses an answer, 0 for none; vs, us and xs are the lengths of the lent slices
abbrev pub refusal_at : AlmC → Option Reply → ℕ → ℕ → ℕ → ℕ
refusal_at was a vs us xs = any_refusal (wanted_by (loop_run_at was.inner was.alm was.board)) a vs (lent_right (loop_settings_of (settings_at was.alm)) us xs)

-- what the machine leaves; us and xs are the lent plan and xi
abbrev pub answer_at : AlmC → Option Reply → List Float → List Float → List Float → L.Left
answer_at was a v us xs = answer_any binary64 (loop_run_at was.inner was.alm was.board) a v us xs

-- the lent plan us, where the run has just ended u; and the lent xi xs, then the penalty and y_plus
abbrev pub handed_plan : AlmC → List Float → List Float
handed_plan is us = cond (eqb is.inner.outcome 1) (vector U (length us) is.board) us

abbrev pub handed_xi : AlmC → List Float → List Float
handed_xi is xs = cond (eqb is.inner.outcome 1) (xi_filled Y_PLUS is.alm.numbers.penalty is.board xs) xs

-- an answer: where the table refuses, its number and nothing written; else what the machine leaves. us, xs and us', xs' are the lent plan and xi before and after
pub record Leaves (a : Option Reply) (v us us' xs xs' : List Float) (was is : AlmC) (r : ℕ) : Type 0 where
  pub refused : (k : ℕ) → refusal_at was a (length v) (length us) (length xs) ≡ suc k → (r ≡ suc k) × (is ≡ was) × (us' ≡ us) × (xs' ≡ xs)
  pub accepted : refusal_at was a (length v) (length us) (length xs) ≡ 0
      → (seen r is.inner is.alm is.board ≡ exact (answer_at was a v us xs) was.alm.end) × (us' ≡ plan_after (answer_at was a v us xs) us) × (xs' ≡ xi_after (answer_at was a v us xs) xs)

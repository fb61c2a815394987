-- What the fields of an inner solve stand for, and what C is to see of what the machine leaves. Definitions only.
use Rattle.std.specs.Prelude.{ℕ, suc, ◌≡◌, cond, true, List, [], ◌∷◌, Float, length, eqb, get_or}
use Rattle.std.specs.Prelude as Std
use Rattle.std.proofs.Math.Option.{Option, none, some}
use Rattle.std.specs.Float.{binary64}
use Rattle.model.specs.Refusals.{Reply}
use Rattle.machine.specs.Told.{asked, ended, refused, failed}
use Rattle.machine.specs.Waits.{any_refusal}
use Rattle.machine.specs.Numbers.{outcome_number, told_number, table_number, question_number, end_number, phase_number, flag_of}
use Rattle.machine.specs.InnerRun as M
use Rattle.machine.specs.InnerMoves as Move
use Rattle.machine.specs.InnerAnswer.{wanted_by, plan_after, answer_any}
use Rattle.panoc_engine.specs.declared.panoc_cache.Reply as C
use Rattle.panoc_engine.specs.declared.panoc_cache.Phase.{Phase}
use Rattle.panoc_engine.specs.declared.panoc_cache.Phase.TheVariants as P
use Rattle.panoc_engine.specs.declared.panoc_cache.ExitStatus.{ExitStatus}
use Rattle.panoc_engine.specs.declared.panoc_cache.ExitStatus.TheVariants.{Converged, NotConvergedIterations, NotConvergedOutOfTime}
use Rattle.panoc_engine.specs.declared.panoc_cache.Solve.{Solve}
use Rattle.panoc_engine.specs.Values.{reply_of, phase_of}
use Rattle.panoc_engine.specs.Runs.{run_of}
use Rattle.board.specs.Board.{vector, BEST}
use Rattle.panoc_fields.specs.declared.fields.InnerEnd.{InnerEnd}
use Rattle.panoc_fields.specs.declared.fields.InnerFields.{InnerFields}
use Rattle.panoc_fields.specs.declared.fields.InnerC.{InnerC}

-- ---- what comes in

-- a number of no phase is of a run that has ended
abbrev pub phases : List Phase
phases =
    P.Over
    ∷ P.Cost
    ∷ P.Gradient
    ∷ P.Shifted
    ∷ P.Project
    ∷ P.HalfCost
    ∷ P.DoubledProject
    ∷ P.DoubledCost
    ∷ P.Direction
    ∷ P.FirstCost
    ∷ P.FirstGradient
    ∷ P.FirstProject
    ∷ P.TriedCost
    ∷ P.TriedGradient
    ∷ P.TriedProject
    ∷ P.Time
    ∷ P.LastCost
    ∷ []

abbrev pub phase_at : ℕ → Phase
phase_at m = get_or phases m P.Over

-- an end above 1 is out of time
abbrev pub statuses : List ExitStatus
statuses = Converged ∷ NotConvergedIterations ∷ []

abbrev pub status_at : ℕ → ExitStatus
status_at m = get_or statuses m NotConvergedOutOfTime

abbrev pub akkt_at : ℕ → Float → Std.Option Float
akkt_at m t = cond (eqb m 0) Std.None (Std.Some t)

-- an answer, none of a kind of no name
abbrev pub given : Std.Option C.Reply → Option Reply
given Std.None = none
given (Std.Some a) = some (reply_of a)

-- ---- the run

-- its small part
abbrev pub solve_at : InnerFields → Solve
solve_at r =
    record {
      phase = phase_at r.phase;
      set = record { n = r.n; max_iter = r.max_iter; limited = flag_of r.limited; tolerance = r.tolerance; akkt_tolerance = akkt_at r.has_akkt r.akkt_tolerance };
      cost_value = r.cost_value;
      gammas = r.gammas;
      norms = r.norms;
      norm_h = r.norm_h;
      counts = record { left = r.left; iterations = record { 0 = r.iterations }; status = status_at r.status; rounds = r.rounds };
      forget = flag_of r.forget;
    }

abbrev pub run_at : InnerFields → List Float → M.Run
run_at r l = run_of (solve_at r) l

-- COST at the half step or while doubling
abbrev pub doubling_cost : Phase → Float → M.Run → M.Left
doubling_cost P.HalfCost x r = Move.half_cost binary64 x r
doubling_cost _ x r = Move.doubled_cost binary64 x r

-- ---- what C sees of a call: the table's number, what is told and the phase in exact numbers, the numbers of an end, and the run that stands for all the rest
pub record Seen : Type 0 where
  pub number : ℕ
  pub outcome : ℕ
  pub told : ℕ
  pub phase : ℕ
  pub end : InnerEnd
  pub run : M.Run

abbrev pub seen : ℕ → InnerFields → List Float → Seen
seen r is l = record { number = r; outcome = is.outcome; told = is.told; phase = is.phase; end = is.end; run = run_at is l }

-- the numbers of an end, was before
abbrev pub end_after : M.Told → InnerEnd → InnerEnd
end_after (asked q) was = was
end_after (ended e) was = record { iterations = e.iterations; norm_fpr = e.norm; cost_value = e.cost }
end_after (refused k) was = was
end_after (failed c) was = was

-- what it is to see of what the machine leaves
abbrev pub exact : M.Left → InnerEnd → Seen
exact l was =
    record {
      number = table_number l.told;
      outcome = outcome_number l.told;
      told = told_number question_number end_number l.told;
      phase = phase_number l.run.phase;
      end = end_after l.told was;
      run = l.run;
    }

-- a phase and what is told, put into the fields
abbrev pub telling : Phase → ℕ → ℕ → InnerFields → InnerFields
telling p outcome told was = record was { phase = phase_number (phase_of p); outcome = outcome; told = told }

-- ---- the calls

-- the number by which the table refuses an answer, 0 for none
abbrev pub refusal_at : InnerC → Option Reply → ℕ → ℕ → ℕ
refusal_at was a vs us = any_refusal (wanted_by (run_at was.inner was.board)) a vs (eqb us was.inner.n)

-- what the machine leaves; us is the lent plan
abbrev pub answer_at : InnerC → Option Reply → List Float → List Float → M.Left
answer_at was a v us = answer_any binary64 (run_at was.inner was.board) a v us

-- the lent plan us, where the run has just ended the best half step
abbrev pub handed : InnerC → List Float → List Float
handed is us = cond (eqb is.inner.outcome 1) (vector BEST (length us) is.board) us

-- an answer: where the table refuses, its number and nothing written; else what the machine leaves
pub record Leaves (a : Option Reply) (v us ws : List Float) (was is : InnerC) (r : ℕ) : Type 0 where
  pub refused : (k : ℕ) → refusal_at was a (length v) (length us) ≡ suc k → (r ≡ suc k) × (is ≡ was) × (ws ≡ us)
  pub accepted : refusal_at was a (length v) (length us) ≡ 0 → (seen r is.inner is.board ≡ exact (answer_at was a v us) was.inner.end) × (ws ≡ plan_after (answer_at was a v us) us)

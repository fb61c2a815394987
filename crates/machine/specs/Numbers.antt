-- The numbers that C sees and gives. What is told goes out by encoders, a case each; decoders are for what comes in, where every number has a meaning. Definitions only.
use Rattle.std.specs.Prelude.{ℕ, Bool, true, false, not, cond, List, [], ◌∷◌, eqb, Float, get_or}
use Rattle.std.proofs.Math.Option.{Option, none, some}
use Rattle.ieee.specs.Numbers.{null}
use Rattle.model.specs.Process.{Status, converged, not_converged_iterations, not_converged_out_of_time}
use Rattle.model.specs.Refusals.{Reply}
use Rattle.machine.specs.Told.{Told, asked, ended, refused, failed}
use Rattle.machine.specs.InnerRun.{Phase, Asked, Numbers}

-- ---- what a call tells

-- the kinds of outcomes
abbrev pub outcome_number : {Q E : Type 0} → Told Q E → ℕ
outcome_number (asked q) = 0
outcome_number (ended e) = 1
outcome_number (refused k) = 2
outcome_number (failed c) = 3

-- what stands beside the kind: the number of the question, of the end, of the refusal, or the host's code
abbrev pub told_number : {Q E : Type 0} → (Q → ℕ) → (E → ℕ) → Told Q E → ℕ
told_number question end (asked q) = question q
told_number question end (ended e) = end e
told_number question end (refused k) = k
told_number question end (failed c) = c

-- the table's number, 0 for none: a failure has 9, with its code
abbrev pub table_number : {Q E : Type 0} → Told Q E → ℕ
table_number (asked q) = 0
table_number (ended e) = 0
table_number (refused k) = k
table_number (failed c) = 9

-- the ends
abbrev pub status_number : Status → ℕ
status_number converged = 0
status_number not_converged_iterations = 1
status_number not_converged_out_of_time = 2

-- the questions of an inner solve: DIRECTION has two numbers, the second where it says to forget
abbrev pub question_number : Asked → ℕ
question_number Asked.cost = 0
question_number Asked.gradient = 1
question_number Asked.project = 2
question_number (Asked.direction false) = 3
question_number (Asked.direction true) = 4
question_number Asked.time = 5

-- the question that a number tells; one of no question is TIME
abbrev pub questions : List Asked
questions = Asked.cost ∷ Asked.gradient ∷ Asked.project ∷ Asked.direction false ∷ Asked.direction true ∷ Asked.time ∷ []

abbrev pub question_of : ℕ → Asked
question_of m = get_or questions m Asked.time

abbrev pub end_number : Numbers → ℕ
end_number e = status_number e.status

-- ---- what a run keeps

-- the phases of an inner solve
abbrev pub phase_number : Phase → ℕ
phase_number Phase.over = 0
phase_number Phase.cost = 1
phase_number Phase.gradient = 2
phase_number Phase.shifted = 3
phase_number Phase.project = 4
phase_number Phase.half_cost = 5
phase_number Phase.doubled_project = 6
phase_number Phase.doubled_cost = 7
phase_number Phase.direction = 8
phase_number Phase.first_cost = 9
phase_number Phase.first_gradient = 10
phase_number Phase.first_project = 11
phase_number Phase.tried_cost = 12
phase_number Phase.tried_gradient = 13
phase_number Phase.tried_project = 14
phase_number Phase.time = 15
phase_number Phase.last_cost = 16

abbrev pub flag_number : Bool → ℕ
flag_number true = 1
flag_number false = 0

-- a tolerance that may be missing: whether it is set, and which
abbrev pub set_number : Option Float → ℕ
set_number none = 0
set_number (some t) = 1

abbrev pub set_value : Option Float → Float
set_value none = null
set_value (some t) = t

-- ---- what comes in

abbrev pub phases : List Phase
phases =
    Phase.over
    ∷ Phase.cost
    ∷ Phase.gradient
    ∷ Phase.shifted
    ∷ Phase.project
    ∷ Phase.half_cost
    ∷ Phase.doubled_project
    ∷ Phase.doubled_cost
    ∷ Phase.direction
    ∷ Phase.first_cost
    ∷ Phase.first_gradient
    ∷ Phase.first_project
    ∷ Phase.tried_cost
    ∷ Phase.tried_gradient
    ∷ Phase.tried_project
    ∷ Phase.time
    ∷ Phase.last_cost
    ∷ []

-- a number of no phase is over
abbrev pub phase_of : ℕ → Phase
phase_of m = get_or phases m Phase.over

-- an end above 1 is out of time
abbrev pub statuses : List Status
statuses = converged ∷ not_converged_iterations ∷ []

abbrev pub status_of : ℕ → Status
status_of m = get_or statuses m not_converged_out_of_time

-- a flag is yes unless it is 0
abbrev pub flag_of : ℕ → Bool
flag_of m = not (eqb m 0)

abbrev pub set_of : ℕ → Float → Option Float
set_of m t = cond (eqb m 0) none (some t)

-- an answer: a number, a vector, a yes, a no, a failure with its code; none for a kind of no name
abbrev pub replies : Float → ℕ → List (Option Reply)
replies x code = some (Reply.number x) ∷ some Reply.vector ∷ some Reply.yes ∷ some Reply.no ∷ some (Reply.failure code) ∷ []

abbrev pub reply_of : ℕ → Float → ℕ → Option Reply
reply_of kind x code = get_or (replies x code) kind none

-- The numbers that C sees and gives, of the loop's own enums; the rest is as in `Numbers`. Definitions only.
use Rattle.std.specs.Prelude.{ℕ, List, [], ◌∷◌, ◌++◌, map, get_or}
use Rattle.machine.specs.Numbers as Inner
use Rattle.machine.specs.LoopRun.{Phase, Asked, Numbers}

-- the questions: those of the inner solve have its numbers
abbrev pub question_number : Asked → ℕ
question_number (Asked.inner q) = Inner.question_number q
question_number Asked.time = 6
question_number Asked.project_y = 7
question_number Asked.f1 = 8
question_number Asked.project_c = 9
question_number Asked.f2 = 10
question_number Asked.cost = 11

-- the question that a number tells; one of no question is the last COST
abbrev pub questions : List Asked
questions = map Asked.inner Inner.questions ++ (Asked.time ∷ Asked.project_y ∷ Asked.f1 ∷ Asked.project_c ∷ Asked.f2 ∷ Asked.cost ∷ [])

abbrev pub question_of : ℕ → Asked
question_of m = get_or questions m Asked.cost

abbrev pub end_number : Numbers → ℕ
end_number e = Inner.status_number e.status

-- the phases
abbrev pub phase_number : Phase → ℕ
phase_number Phase.over = 0
phase_number Phase.time = 1
phase_number Phase.project_y = 2
phase_number Phase.inner = 3
phase_number Phase.f1 = 4
phase_number Phase.project_c = 5
phase_number Phase.f2 = 6
phase_number Phase.last_cost = 7

-- a number of no phase is over
abbrev pub phases : List Phase
phases = Phase.over ∷ Phase.time ∷ Phase.project_y ∷ Phase.inner ∷ Phase.f1 ∷ Phase.project_c ∷ Phase.f2 ∷ Phase.last_cost ∷ []

abbrev pub phase_of : ℕ → Phase
phase_of m = get_or phases m Phase.over

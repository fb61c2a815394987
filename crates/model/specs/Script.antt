-- Words for runs written down as transcripts, and what it means that a run goes so: numbers, answers, questions. Definitions only.
use Rattle.std.specs.Prelude.{ℕ, ◌-◌, ◌≡◌, Bool, false, pos, negsuc, Float}
use mathlib.Core.List.{List, [], ◌∷◌, zip_with}
use Rattle.std.specs.Float.{fin}
use Rattle.std.specs.Float.Ieee.{add, sub, mul, div, neg, lt, eq, le, is_nan, round}
use Rattle.ieee.specs.Numbers.{absolute, larger}
use Rattle.ieee.specs.Root.{root}
use Rattle.ieee.specs.Sums.{squares_from, squares, norm}
use Rattle.model.specs.Constants.{gamma_l_coeff, epsilon_lipschitz, delta_lipschitz, min_l_estimate, lipschitz_update_epsilon, max_lipschitz_constant, half, one, two, four, epsilon}
use Rattle.model.specs.Vectors.{all_finite, minus, plus, less_times, plus_times, plus_over, products_from, dot, shift, shifts, shifted, estimate}
use Rattle.model.specs.Process as Asks
use Rattle.model.specs.Process.{Question, LoopQuestion, Handed, LoopHanded, inner}
use Rattle.model.specs.State.{no_best, keep}
use Rattle.model.specs.Inner as I
use Rattle.model.specs.Loop as L
use Rattle.model.specs.Psi as P
use Rattle.model.specs.Refusals as R
use Rattle.model.specs.Play.{Line, asked, Given, lines, call, answers, play}

-- ---- numbers

-- an odd whole number
abbrev pub int : ℕ → Float
int m = fin false m (pos 0)

-- m × 2 ^ k for an odd m
infix 70 ◌·2^◌
abbrev pub ◌·2^◌ : ℕ → ℕ → Float
m ·2^ k = fin false m (pos k)

-- m / 2 ^ k for an odd m
infix 70 ◌/2^◌
abbrev pub ◌/2^◌ : ℕ → ℕ → Float
m /2^ k = fin false m (negsuc (k - 1))

-- a vector of one place
abbrev pub only : Float → List Float
only x = x ∷ []

-- ---- answers

-- a number
abbrev pub number : Float → Given
number x = record { reply = R.Reply.number x; vector = [] }

-- a vector, lent
abbrev pub vector : List Float → Given
vector v = record { reply = R.Reply.vector; vector = v }

-- yes
abbrev pub answer_yes : Given
answer_yes = record { reply = R.Reply.yes; vector = [] }

-- no
abbrev pub answer_no : Given
answer_no = record { reply = R.Reply.no; vector = [] }

-- a failure, by its code
abbrev pub failure : ℕ → Given
failure code = record { reply = R.Reply.failure code; vector = [] }

-- ---- what an inner solve asks

-- the cost at a point
abbrev pub COST : List Float → Line Question Handed
COST u = asked (Asks.Question.cost u)

-- the gradient at a point
abbrev pub GRADIENT : List Float → Line Question Handed
GRADIENT u = asked (Asks.Question.gradient u)

-- the projection of a point
abbrev pub PROJECT : List Float → Line Question Handed
PROJECT u = asked (Asks.Question.project u)

-- forget or not, the residual, u
abbrev pub DIRECTION : Bool → List Float → List Float → Line Question Handed
DIRECTION forget r u = asked (Asks.Question.direction forget r u)

-- whether there is time left
abbrev pub TIME : Line Question Handed
TIME = asked Asks.Question.time

-- ---- and under the loop, with xi
module _ (xi : List Float) where
  abbrev pub COST_in : List Float → Line LoopQuestion LoopHanded
  COST_in u = asked (inner xi (Asks.Question.cost u))

  abbrev pub GRADIENT_in : List Float → Line LoopQuestion LoopHanded
  GRADIENT_in u = asked (inner xi (Asks.Question.gradient u))

  abbrev pub PROJECT_in : List Float → Line LoopQuestion LoopHanded
  PROJECT_in u = asked (inner xi (Asks.Question.project u))

  abbrev pub DIRECTION_in : Bool → List Float → List Float → Line LoopQuestion LoopHanded
  DIRECTION_in forget r u = asked (inner xi (Asks.Question.direction forget r u))

  abbrev pub TIME_in : Line LoopQuestion LoopHanded
  TIME_in = asked (inner xi Asks.Question.time)

-- ---- a transcript: each question with the answer that it gets, and between them the marks; the end is the last entry
pub data Entry (Q H : Type 0) : Type 0 where
  says : Line Q H → Entry Q H
  gets : Line Q H → Given → Entry Q H

-- a question and its answer
infix 68 ◌▷◌
abbrev pub ◌▷◌ : {Q H : Type 0} → Line Q H → Given → Entry Q H
q ▷ a = gets q a

-- the answers of a transcript
unfoldable pub answers_in : {Q H : Type 0} → List (Entry Q H) → List Given
answers_in [] = []
answers_in (says l ∷ t) = answers_in t
answers_in (gets l a ∷ t) = a ∷ answers_in t

-- what the run says in it
unfoldable pub lines_in : {Q H : Type 0} → List (Entry Q H) → List (Line Q H)
lines_in [] = []
lines_in (says l ∷ t) = l ∷ lines_in t
lines_in (gets l a ∷ t) = l ∷ lines_in t

-- The process p, given the answers of a transcript, says its lines.
abbrev pub Goes : {Q H : Type 0} → Asks.Process Q H → List (Entry Q H) → Type 0
Goes p t = play p (answers_in t) ≡ lines_in t

-- ---- all that a run computes with: to unfold one of these is to unfold what its `unfolding` line names, so that a theorem on a run has to name it alone

-- numbers, vectors, and the answers' side of the table
unfoldable pub all_arithmetic : Unit {0}
unfolding zip_with add sub mul div neg lt eq le is_nan round absolute larger root squares_from squares norm gamma_l_coeff epsilon_lipschitz delta_lipschitz min_l_estimate lipschitz_update_epsilon max_lipschitz_constant half one two four epsilon all_finite minus plus less_times plus_times plus_over products_from dot shift shifts shifted estimate R.wanted R.as_number R.as_vector R.as_decision R.may_fail R.given R.fits_kind R.fits_places R.fits_length R.answer_refusal R.go_on R.replied R.accept R.remains R.or_refused R.unless R.sizes_right lines call answers play answers_in lines_in
all_arithmetic = tt

-- of an inner solve
unfoldable pub all_inner : Unit {0}
unfolding all_arithmetic R.start_inner R.inner_refusal R.limit_right R.tolerance_right R.akkt_right no_best keep I.gamma_of I.sigma_of I.akkt_residual I.lipschitz_check_rhs I.envelope I.descent I.candidate I.first_previous I.kept_gradient I.last_cost I.last_test I.finish I.onward I.first_project I.first_gradient I.first_cost I.first_move I.tried_project I.tried_gradient I.tried_cost I.trial I.retry I.search I.directed I.ask_direction I.renewed I.doubled_cost I.doubled_project I.doubled I.doubling I.half_cost I.akkt_passes I.passes I.tested I.entered I.step I.standing I.timed I.laps I.begun I.start_project I.opening I.start_shifted I.start_gradient I.start_cost I.solve
all_inner = tt

-- of the loop
unfoldable pub all_loop : Unit {0}
unfolding all_inner R.start_loop R.loop_refusal R.xi_length R.mappings_right R.factor_right R.fraction_right R.loop_numbers_right R.xi_right R.penalty_in R.multipliers_in Asks.within L.xi_of L.penalty_of L.inner_settings L.exits L.decreased L.stalls L.next_penalty L.next_akkt L.concluded L.conclude L.counted L.weighed L.got_f2 L.ask_f2 L.got_c L.got_f1 L.ask_f1 L.solved L.inner_solve L.got_y L.iteration L.out_of_time L.timed L.begins L.iterations L.first_state L.loop
all_loop = tt

-- of psi and d_psi
unfoldable pub all_psi : Unit {0}
unfolding all_arithmetic R.start_psi R.start_d_psi R.psi_refusal R.xi_length R.mappings_right R.penalty_in R.multipliers_in P.penalized P.psi_f2 P.psi_ask_f2 P.psi_c P.psi_f1 P.psi_cost P.psi P.d_psi_jf2 P.d_psi_f2 P.d_psi_ask_f2 P.d_psi_jf1 P.d_psi_c P.d_psi_f1 P.d_psi_gradient P.d_psi
all_psi = tt

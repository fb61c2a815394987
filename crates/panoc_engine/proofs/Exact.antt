-- What stands for a value of the code stands for no other, so that what a contract says of the machine's it says of the code's own. Assumes nothing.
use Rattle.std.specs.Prelude as Std
use Rattle.std.proofs.Common.{◌≡◌, refl, sym, ap, ◌∙◌, ℕ, List, [], ◌∷◌, Float}
use Rattle.std.specs.Prelude.{get_or}
use Rattle.std.proofs.Math.Option.{Option, none, some}
use Rattle.model.specs.Process as M
use Rattle.model.specs.State as S
use Rattle.machine.specs.Told as Say
use Rattle.machine.specs.InnerRun as Run
use Rattle.panoc_engine.specs.declared.panoc_cache.Settings.{Settings}
use Rattle.panoc_engine.specs.declared.panoc_cache.ExitStatus.{ExitStatus}
use Rattle.panoc_engine.specs.declared.panoc_cache.ExitStatus.TheVariants.{Converged, NotConvergedIterations, NotConvergedOutOfTime}
use Rattle.panoc_engine.specs.declared.panoc_cache.Question.{Question}
use Rattle.panoc_engine.specs.declared.panoc_cache.Question.TheVariants as Q
use Rattle.panoc_engine.specs.declared.panoc_cache.SolverStatus.{SolverStatus}
use Rattle.panoc_engine.specs.declared.outcome.Refusal.{Refusal}
use Rattle.panoc_engine.specs.declared.outcome.Refusal.TheVariants as R
use Rattle.panoc_engine.specs.declared.outcome.Outcome.{Outcome}
use Rattle.panoc_engine.specs.declared.outcome.Outcome.TheVariants as O
use Rattle.panoc_engine.specs.Told.{refusal_number, telling}
use Rattle.panoc_engine.specs.Values.{akkt_of, settings_of, status_of, asked_of, numbers_of, told_of}

-- one that comes back is the only one
pub by_back : {A B : Type 0} (to : A → B) (back : B → A) → ((x : A) → back (to x) ≡ x) → (x y : A) → to x ≡ to y → x ≡ y
by_back to back h x y e = sym (h x) ∙ ap back e ∙ h y

-- ---- settings
abbrev akkt_back : Option Float → Std.Option Float
akkt_back none = Std.None
akkt_back (some t) = Std.Some t

akkt_round : (a : Std.Option Float) → akkt_back (akkt_of a) ≡ a
akkt_round Std.None = refl
akkt_round (Std.Some t) = refl

abbrev settings_back : S.Settings → Settings
settings_back s = record { n = s.n; max_iter = s.limit; limited = s.limited; tolerance = s.tolerance; akkt_tolerance = akkt_back s.akkt }

settings_round : (s : Settings) → settings_back (settings_of s) ≡ s
settings_round s =
    ap (λ (a : Std.Option Float). let t : Settings = record { n = s.n; max_iter = s.max_iter; limited = s.limited; tolerance = s.tolerance; akkt_tolerance = a } in t) (akkt_round s.akkt_tolerance)

pub settings_exact : (s t : Settings) → settings_of s ≡ settings_of t → s ≡ t
settings_exact = by_back settings_of settings_back settings_round

-- ---- what an end and a question say
abbrev pub status_back : M.Status → ExitStatus
status_back M.converged = Converged
status_back M.not_converged_iterations = NotConvergedIterations
status_back M.not_converged_out_of_time = NotConvergedOutOfTime

pub status_round : (e : ExitStatus) → status_back (status_of e) ≡ e
status_round Converged = refl
status_round NotConvergedIterations = refl
status_round NotConvergedOutOfTime = refl

abbrev pub asked_back : Run.Asked → Question
asked_back Run.Asked.cost = Q.Cost
asked_back Run.Asked.gradient = Q.Gradient
asked_back Run.Asked.project = Q.Project
asked_back (Run.Asked.direction forget) = Q.Direction forget
asked_back Run.Asked.time = Q.Time

pub asked_round : (q : Question) → asked_back (asked_of q) ≡ q
asked_round Q.Cost = refl
asked_round Q.Gradient = refl
asked_round Q.Project = refl
asked_round (Q.Direction forget) = refl
asked_round Q.Time = refl

abbrev numbers_back : Run.Numbers → SolverStatus
numbers_back e = record { exit_status = status_back e.status; iterations = record { 0 = e.iterations }; norm_fpr = e.norm; cost_value = e.cost }

numbers_round : (e : SolverStatus) → numbers_back (numbers_of e) ≡ e
numbers_round e =
    ap (λ (k : ExitStatus). let t : SolverStatus = record { exit_status = k; iterations = e.iterations; norm_fpr = e.norm_fpr; cost_value = e.cost_value } in t) (status_round e.exit_status)

-- ---- a refusal, by the table's number; 0 and 9 are none
abbrev refusals : List Refusal
refusals =
    R.Sizes
    ∷ R.Sizes
    ∷ R.Mappings
    ∷ R.Limits
    ∷ R.Tolerances
    ∷ R.Multipliers
    ∷ R.Over
    ∷ R.Kind
    ∷ R.Lengths
    ∷ R.Sizes
    ∷ R.FirstCost
    ∷ R.HalfCost
    ∷ R.DoubledCost
    ∷ R.FirstIterate
    ∷ R.Candidate
    ∷ R.Plan
    ∷ R.LastCost
    ∷ R.OutOfTime
    ∷ R.Infeasibility
    ∷ R.InitialGuess
    ∷ []

abbrev refusal_back : ℕ → Refusal
refusal_back k = get_or refusals k R.Sizes

refusal_round : (r : Refusal) → refusal_back (refusal_number r) ≡ r
refusal_round R.Sizes = refl
refusal_round R.Mappings = refl
refusal_round R.Limits = refl
refusal_round R.Tolerances = refl
refusal_round R.Multipliers = refl
refusal_round R.Over = refl
refusal_round R.Kind = refl
refusal_round R.Lengths = refl
refusal_round R.FirstCost = refl
refusal_round R.HalfCost = refl
refusal_round R.DoubledCost = refl
refusal_round R.FirstIterate = refl
refusal_round R.Candidate = refl
refusal_round R.Plan = refl
refusal_round R.LastCost = refl
refusal_round R.OutOfTime = refl
refusal_round R.Infeasibility = refl
refusal_round R.InitialGuess = refl

pub refusal_exact : (r s : Refusal) → refusal_number r ≡ refusal_number s → r ≡ s
refusal_exact = by_back refusal_number refusal_back refusal_round

-- ---- what a call tells, for a run of any kind
module _ {Q E A H : Type 0} (asks : Q → A) (asks_back : A → Q) (asks_round : (q : Q) → asks_back (asks q) ≡ q) (ends : E → H) (ends_back : H → E) (ends_round : (e : E) → ends_back (ends e) ≡ e) where
  abbrev telling_back : Say.Told A H → Outcome Q E
  telling_back (Say.Told.asked q) = O.Asked (asks_back q)
  telling_back (Say.Told.ended e) = O.Ended (ends_back e)
  telling_back (Say.Told.refused k) = O.Refused (refusal_back k)
  telling_back (Say.Told.failed c) = O.Failed c

  telling_round : (o : Outcome Q E) → telling_back (telling asks ends o) ≡ o
  telling_round (O.Asked q) = ap (λ (x : Q). let o : Outcome Q E = O.Asked x in o) (asks_round q)
  telling_round (O.Ended e) = ap (λ (x : E). let o : Outcome Q E = O.Ended x in o) (ends_round e)
  telling_round (O.Refused r) = ap (λ (x : Refusal). let o : Outcome Q E = O.Refused x in o) (refusal_round r)
  telling_round (O.Failed c) = refl

  pub telling_exact : (o p : Outcome Q E) → telling asks ends o ≡ telling asks ends p → o ≡ p
  telling_exact = by_back (telling asks ends) telling_back telling_round

pub told_exact : (o p : Outcome Question SolverStatus) → told_of o ≡ told_of p → o ≡ p
told_exact = telling_exact asked_of asked_back asked_round numbers_of numbers_back numbers_round

-- What a call gives, as the machine has it: its outcome, with the table's number of a refusal. Definitions only.
use Rattle.std.specs.Prelude.{ℕ}
use Rattle.std.specs.Prelude as Std
use Rattle.std.specs.declared.result.Result.{Result}
use Rattle.machine.specs.Told as Say
use Rattle.panoc_engine.specs.declared.outcome.Refusal.{Refusal}
use Rattle.panoc_engine.specs.declared.outcome.Refusal.TheVariants as R
use Rattle.panoc_engine.specs.declared.outcome.Outcome.{Outcome}
use Rattle.panoc_engine.specs.declared.outcome.Outcome.TheVariants as O

-- the table's number of a refusal
abbrev pub refusal_number : Refusal → ℕ
refusal_number R.Sizes = 1
refusal_number R.Mappings = 2
refusal_number R.Limits = 3
refusal_number R.Tolerances = 4
refusal_number R.Multipliers = 5
refusal_number R.Over = 6
refusal_number R.Kind = 7
refusal_number R.Lengths = 8
refusal_number R.FirstCost = 10
refusal_number R.HalfCost = 11
refusal_number R.DoubledCost = 12
refusal_number R.FirstIterate = 13
refusal_number R.Candidate = 14
refusal_number R.Plan = 15
refusal_number R.LastCost = 16
refusal_number R.OutOfTime = 17
refusal_number R.Infeasibility = 18
refusal_number R.InitialGuess = 19

-- of one that may be missing, and of a call that may be refused: 0 for none
abbrev pub number_of : Std.Option Refusal → ℕ
number_of Std.None = 0
number_of (Std.Some r) = refusal_number r

abbrev pub number_in : Result (Unit {0}) Refusal → ℕ
number_in (Std.Ok done) = 0
number_in (Std.Err r) = refusal_number r

-- what a call gives, for a run of any kind: asks is the question of the machine that stands for one of the code, ends what its end says
abbrev pub telling : {Q E A H : Type 0} → (Q → A) → (E → H) → Outcome Q E → Say.Told A H
telling asks ends (O.Asked q) = Say.Told.asked (asks q)
telling asks ends (O.Ended e) = Say.Told.ended (ends e)
telling asks ends (O.Refused r) = Say.Told.refused (refusal_number r)
telling asks ends (O.Failed c) = Say.Told.failed c

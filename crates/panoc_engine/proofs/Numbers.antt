-- A refusal's number is never 0. Assumes nothing.
use Rattle.std.proofs.Common.{◌≡◌, arith}
use Rattle.panoc_engine.specs.declared.outcome.Refusal.{Refusal}
use Rattle.panoc_engine.specs.declared.outcome.Refusal.TheVariants as R
use Rattle.panoc_engine.specs.Told.{refusal_number}

pub refusal_some : (r : Refusal) → refusal_number r ≡ 0 → ⊥
refusal_some R.Sizes e = omega (arith, e)
refusal_some R.Mappings e = omega (arith, e)
refusal_some R.Limits e = omega (arith, e)
refusal_some R.Tolerances e = omega (arith, e)
refusal_some R.Multipliers e = omega (arith, e)
refusal_some R.Over e = omega (arith, e)
refusal_some R.Kind e = omega (arith, e)
refusal_some R.Lengths e = omega (arith, e)
refusal_some R.FirstCost e = omega (arith, e)
refusal_some R.HalfCost e = omega (arith, e)
refusal_some R.DoubledCost e = omega (arith, e)
refusal_some R.FirstIterate e = omega (arith, e)
refusal_some R.Candidate e = omega (arith, e)
refusal_some R.Plan e = omega (arith, e)
refusal_some R.LastCost e = omega (arith, e)
refusal_some R.OutOfTime e = omega (arith, e)
refusal_some R.Infeasibility e = omega (arith, e)
refusal_some R.InitialGuess e = omega (arith, e)

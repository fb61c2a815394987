-- After i turns of `ball2::project` the first i places are pulled. Assumes nothing.
use Rattle.std.proofs.Common.{◌≡◌}
use Rattle.std.specs.Prelude.{take, drop, ◌++◌}
use Rattle.std.specs.Float.{binary64}
use Rattle.constraints.proofs.Turns.{pulled_to}
use Rattle.constraints.proofs.ball2.project.Given as goal

abbrev pub invariant-loop-i : goal.invariant-loop-i
invariant-loop-i l = l.v ≡ take l.i (pulled_to binary64 l.centre l.radius l.initial.v) ++ drop l.i l.initial.v

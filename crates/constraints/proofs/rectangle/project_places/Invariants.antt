-- After i turns of `rectangle::project_places` the first i places are the box's. Assumes nothing.
use Rattle.std.proofs.Common.{◌≡◌}
use Rattle.std.specs.Prelude.{take, drop, ◌++◌}
use Rattle.constraints.specs.Box.{rectangle}
use Rattle.constraints.proofs.rectangle.project_places.Given as goal

abbrev pub invariant-loop-i : goal.invariant-loop-i
invariant-loop-i l = l.v ≡ take l.i (rectangle l.lower l.upper l.initial.v) ++ drop l.i l.initial.v

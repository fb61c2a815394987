-- After i turns of `rectangle::project` the first 4 × i places are the box's. Assumes nothing.
use Rattle.std.proofs.Common.{◌≡◌, ◌*◌}
use Rattle.std.specs.Prelude.{take, drop, ◌++◌}
use Rattle.constraints.specs.Box.{rectangle}
use Rattle.constraints.proofs.rectangle.project.Given as goal

abbrev pub invariant-loop-i : goal.invariant-loop-i
invariant-loop-i l = l.v ≡ take (4 * l.i) (rectangle l.lower l.upper l.initial.v) ++ drop (4 * l.i) l.initial.v

-- After i turns of `rectangle::is_right` the bounds from 4 × i on say the whole. Assumes nothing.
use Rattle.std.proofs.Common.{◌≡◌, ◌*◌}
use Rattle.std.specs.Prelude.{drop}
use Rattle.constraints.specs.Box.{rectangle_right}
use Rattle.constraints.proofs.rectangle.is_right.Given as goal

abbrev pub invariant-loop-i : goal.invariant-loop-i
invariant-loop-i l = rectangle_right (drop (4 * l.i) l.lower) (drop (4 * l.i) l.upper) ≡ rectangle_right l.lower l.upper

-- After i turns of `rectangle::places_right` the bounds from i on say the whole. Assumes nothing.
use Rattle.std.proofs.Common.{◌≡◌}
use Rattle.std.specs.Prelude.{drop}
use Rattle.constraints.specs.Box.{rectangle_right}
use Rattle.constraints.proofs.rectangle.places_right.Given as goal

abbrev pub invariant-loop-i : goal.invariant-loop-i
invariant-loop-i l = rectangle_right (drop l.i l.lower) (drop l.i l.upper) ≡ rectangle_right l.lower l.upper

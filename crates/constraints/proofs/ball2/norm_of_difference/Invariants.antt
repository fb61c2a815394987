-- After i turns of `ball2::norm_of_difference` the sum goes on with the places from i on. Assumes nothing.
use Rattle.std.proofs.Common.{◌≡◌}
use Rattle.std.specs.Prelude.{drop}
use Rattle.std.specs.Float.{binary64}
use Rattle.ieee.specs.Sums.{squares_from, squares}
use Rattle.model.specs.Vectors.{minus}
use Rattle.constraints.proofs.ball2.norm_of_difference.Given as goal

abbrev pub invariant-loop-i : goal.invariant-loop-i
invariant-loop-i l = squares_from binary64 l.sum (drop l.i (minus binary64 l.v l.centre)) ≡ squares binary64 (minus binary64 l.v l.centre)

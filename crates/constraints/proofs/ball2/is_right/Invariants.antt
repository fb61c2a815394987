-- After i turns of `ball2::is_right` the places of the centre from i on say the whole. Assumes nothing.
use Rattle.std.proofs.Common.{◌≡◌}
use Rattle.std.specs.Prelude.{drop}
use Rattle.model.specs.Vectors.{all_finite}
use Rattle.constraints.specs.Ball.{ball_right}
use Rattle.constraints.proofs.ball2.is_right.Given as goal

abbrev pub invariant-loop-c : goal.invariant-loop-c
invariant-loop-c l = all_finite (drop l.c-index l.centre) ≡ ball_right l.centre l.radius

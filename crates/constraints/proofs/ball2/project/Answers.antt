-- `ball2::project` meets its contract: each turn pulls a place. Assumes nothing.
use Rattle.std.proofs.Common.{refl, arith}
use Rattle.std.specs.Float.{binary64}
use Rattle.constraints.specs.Ball.{pulled}
use Rattle.constraints.proofs.Turns.{pull_turn, pulled_over, kept_by_ball}
use Rattle.constraints.proofs.ball2.project.Goals as goal

pub loop-i-preserved : goal.loop-i-preserved
unfolding pulled
loop-i-preserved c = pull_turn binary64 c.args.centre.now c.args.v.now _ c.args.radius c.norm_of_difference-far.result c.loop-i.i _ c.requires c.norm_of_difference-far.ensures c.loop-i.invariant refl (omega arith)

pub returns-after-loop-i : goal.returns-after-loop-i
returns-after-loop-i c = pulled_over binary64 _ _ _ _ _ _ c.requires c.norm_of_difference-far.ensures c.if-radius-far.true c.loop-i.invariant (omega arith)

pub returns-else-radius-far : goal.returns-else-radius-far
returns-else-radius-far c = kept_by_ball binary64 _ _ _ _ c.norm_of_difference-far.ensures c.if-radius-far.false

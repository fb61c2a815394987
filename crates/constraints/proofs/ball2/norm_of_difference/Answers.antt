-- `ball2::norm_of_difference` meets its contract: each turn adds the square of a difference. Assumes nothing.
use Rattle.std.proofs.Common.{refl, sym, arith}
use Rattle.std.specs.Float.{binary64}
use Rattle.constraints.proofs.Turns.{sum_begun, sum_turn, sum_over}
use Rattle.constraints.proofs.ball2.norm_of_difference.Goals as goal

pub loop-i-init : goal.loop-i-init
loop-i-init c = sum_begun binary64 _ _

pub loop-i-preserved : goal.loop-i-preserved
loop-i-preserved c = sum_turn binary64 c.args.v.now c.args.centre.now c.loop-i.i _ _ _ (sym c.requires) refl c.loop-i.invariant (omega arith)

pub returns : goal.returns
returns c = sum_over binary64 c.args.v.now c.args.centre.now c.loop-i.i _ _ (sym c.requires) c.loop-i.invariant c.sqrt.ensures (omega arith)

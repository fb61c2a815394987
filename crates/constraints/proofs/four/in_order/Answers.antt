-- `four::in_order` meets its contract. Assumes nothing.
use Rattle.constraints.proofs.Fours.{lanes_in_order}
use Rattle.constraints.proofs.four.in_order.Goals as goal

pub returns : goal.returns
returns c = lanes_in_order c.args.lower.now c.args.upper.now c.requires.lowers c.requires.uppers

-- `rectangle::in_order` meets its contract: finite bounds lie between the infinities. Assumes nothing.
use Rattle.constraints.proofs.Turns.{bounds_by_bits}
use Rattle.constraints.proofs.rectangle.in_order.Goals as goal

pub returns : goal.returns
returns c = bounds_by_bits c.args.lower c.args.upper

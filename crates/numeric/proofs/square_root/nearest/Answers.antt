-- `square_root::nearest` meets its contract: what the test passed, or the digits of the root. Assumes nothing.
use Rattle.std.proofs.Common.{◌<◌, ◌-◌, ◌^◌}
use Rattle.std.specs.Float.Ieee.{binary64}
use Rattle.numeric.proofs.Scaling.{root_hi, digits_near, at_54}
use Rattle.numeric.proofs.square_root.nearest.Goals as goal

r-lt : (c : goal.After-digits) → c.digits.result < 2 ^ 54 - 1
r-lt c = root_hi binary64 c.args.m c.digits.result c.requires.1 (at_54 c.args.m c.digits.result c.digits.ensures)

pub returns : goal.returns
returns c = digits_near binary64 c.args.m c.digits.result c.requires.0 (at_54 c.args.m c.digits.result c.digits.ensures)

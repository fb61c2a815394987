-- `numeric::is_finite` meets its contract: x - x equals 0 exactly at a finite x. Assumes nothing.
use Rattle.std.proofs.Common.{ap, ◌∙◌}
use Rattle.std.specs.Float.Ieee.{binary64, eq, sub}
use Rattle.ieee.proofs.Special.{zero_bits}
use Rattle.ieee.proofs.Finite.{itself}
use Rattle.numeric.proofs.is_finite.Goals as goal

pub returns : goal.returns
returns c = ap (eq (sub binary64 c.args.x c.args.x)) (zero_bits binary64) ∙ itself binary64 c.args.x

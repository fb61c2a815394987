-- `rectangle::project` meets its contract: each turn writes four places, and what is left is written place by place. Assumes nothing.
use Rattle.std.proofs.Common.{arith, ◌*◌, ◌/◌}
use Rattle.std.specs.Prelude.{length}
use Rattle.constraints.proofs.Fours.{fours_stored, rest_stored}
use Rattle.constraints.proofs.rectangle.project.Goals as goal

pub loop-i-preserved : goal.loop-i-preserved
loop-i-preserved c =
    fours_stored c.args.lower.now c.args.upper.now c.args.v.now c.loop-i.v _ (4 * c.loop-i.i) _ _ c.requires.lowers c.requires.uppers c.loop-i.invariant c.clamp.ensures (omega arith) (omega arith) (omega arith)

pub returns : goal.returns
returns c =
    rest_stored c.args.lower.now c.args.upper.now c.args.v.now c.loop-i.v _ (4 * (length c.args.v.now / 4)) (4 * c.loop-i.i) c.requires.lowers c.requires.uppers c.loop-i.invariant c.project_places.ensures (omega arith) (omega arith)

-- `four::clamp` meets its contract. Assumes nothing.
use Rattle.constraints.proofs.Fours.{lanes_clamp}
use Rattle.constraints.proofs.four.clamp.Goals as goal

pub returns : goal.returns
returns c = lanes_clamp c.args.lower.now c.args.upper.now c.args.v.now c.requires.lowers c.requires.uppers c.requires.places

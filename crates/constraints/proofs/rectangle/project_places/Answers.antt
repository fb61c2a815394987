-- `rectangle::project_places` meets its contract: each turn writes a place. Assumes nothing.
use Rattle.std.proofs.Common.{◌∙◌, arith}
use Rattle.constraints.proofs.Turns.{clamp_turn, overwritten, length_rectangle}
use Rattle.constraints.proofs.rectangle.project_places.Goals as goal

pub loop-i-preserved : goal.loop-i-preserved
loop-i-preserved c = clamp_turn _ _ _ _ _ _ c.requires.lowers c.requires.uppers c.loop-i.invariant c.clamp.ensures (omega arith)

pub returns : goal.returns
returns c = c.loop-i.invariant ∙ overwritten _ _ _ (length_rectangle _ _ _ c.requires.lowers c.requires.uppers) (omega arith)

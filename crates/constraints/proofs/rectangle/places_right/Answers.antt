-- `rectangle::places_right` meets its contract: each turn tests the bounds of a place. Assumes nothing.
use Rattle.std.proofs.Common.{arith, sym, ◌∙◌}
use Rattle.constraints.proofs.Turns.{bounds_fail, bounds_turn, bounds_over}
use Rattle.constraints.proofs.rectangle.places_right.Goals as goal

pub returns-then-not-in_order : goal.returns-then-not-in_order
returns-then-not-in_order c = bounds_fail c.args.lower.now c.args.upper.now c.loop-i.i _ c.requires c.loop-i.invariant (sym c.if-not-in_order.true ∙ c.in_order.ensures) (omega arith)

pub loop-i-preserved : goal.loop-i-preserved
loop-i-preserved c = bounds_turn c.args.lower.now c.args.upper.now c.loop-i.i _ c.requires c.loop-i.invariant (sym c.if-not-in_order.false ∙ c.in_order.ensures) (omega arith)

pub returns : goal.returns
returns c = bounds_over c.args.lower.now c.args.upper.now _ _ c.loop-i.invariant (omega arith)

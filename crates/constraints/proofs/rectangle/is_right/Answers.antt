-- `rectangle::is_right` meets its contract: each turn tests four places, and what is left is tested place by place. Assumes nothing.
use Rattle.std.proofs.Common.{arith, sym, ◌∙◌, ◌*◌, ◌/◌, ◌+◌, ◌-◌}
use Rattle.std.specs.Prelude.{length}
use Rattle.constraints.proofs.Fours.{four_fails_in, four_passes_in, rest_right}
use Rattle.constraints.proofs.rectangle.is_right.Goals as goal

pub returns-then-not-in_order : goal.returns-then-not-in_order
returns-then-not-in_order c =
    four_fails_in c.args.lower.now c.args.upper.now (4 * c.loop-i.i) (4 * c.loop-i.i + 4 - 4 * c.loop-i.i) _ c.requires c.loop-i.invariant (sym c.if-not-in_order.true ∙ c.in_order.ensures) (omega arith)

pub loop-i-preserved : goal.loop-i-preserved
loop-i-preserved c =
    four_passes_in c.args.lower.now c.args.upper.now (4 * c.loop-i.i) (4 * c.loop-i.i + 4 - 4 * c.loop-i.i) (4 * (c.loop-i.i + 1)) _ c.requires c.loop-i.invariant (sym c.if-not-in_order.false ∙ c.in_order.ensures) (omega arith) (omega arith)

pub returns : goal.returns
returns c = c.places_right.ensures ∙ rest_right c.args.lower.now c.args.upper.now (4 * (length c.args.lower.now / 4)) (4 * c.loop-i.i) _ c.loop-i.invariant (omega arith)

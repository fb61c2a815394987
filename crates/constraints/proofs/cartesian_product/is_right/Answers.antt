-- `cartesian_product::is_right` meets its contract: each turn tests a set. Assumes nothing.
use Rattle.std.proofs.Common.{arith}
use Rattle.constraints.proofs.Tables.{opened, fits_next, right_fails, right_turn, right_over}
use Rattle.constraints.proofs.cartesian_product.is_right.Goals as goal

pub is_right-requires-clause-lengths : goal.is_right-requires-clause-lengths
is_right-requires-clause-lengths c = (opened c.args.sets.now c.loop-set.set-index (omega arith) _ _ c.loop-set.invariant.0.1).1

pub is_right-requires-clause-enough : goal.is_right-requires-clause-enough
is_right-requires-clause-enough c = (opened c.args.sets.now c.loop-set.set-index (omega arith) _ _ c.loop-set.invariant.0.1).2

pub after-rest-requires : goal.after-rest-requires
after-rest-requires c = (opened c.args.sets.now c.loop-set.set-index (omega arith) _ _ c.loop-set.invariant.0.1).2

pub returns-then-not-is_right : goal.returns-then-not-is_right
returns-then-not-is_right c = right_fails c.args.sets.now c.loop-set.set-index (omega arith) _ _ _ c.is_right.ensures c.if-not-is_right.true c.loop-set.invariant.1

pub loop-set-preserved : goal.loop-set-preserved
loop-set-preserved c = (
  (_, fits_next c.args.sets.now c.loop-set.set-index (omega arith) c.loop-set.rest.now _ c.loop-set.invariant.0.0 c.loop-set.invariant.0.1 c.after-rest.ensures),
  right_turn c.args.sets.now c.loop-set.set-index (omega arith) c.loop-set.rest.now _ _ _ c.is_right.ensures c.if-not-is_right.false c.after-rest.ensures c.loop-set.invariant.1,
)

pub returns : goal.returns
returns c = right_over c.args.sets.now c.loop-set.set-index _ _ c.loop-set.invariant.1 (omega arith)

-- `cartesian_product::put` meets its contract: each turn writes a stretch. Assumes nothing.
use Rattle.std.proofs.Common.{arith, rules, ◌≤◌, ◌+◌}
use Rattle.std.specs.Prelude.{length, get_or}
use Rattle.std.specs.Float.{binary64}
use Rattle.constraints.proofs.Tables.{opened, no_set, room_left, put_fits, put_turn, put_rest, put_over}
use Rattle.constraints.proofs.cartesian_product.put.Goals as goal

pub put-requires-clause-lengths : goal.put-requires-clause-lengths
put-requires-clause-lengths c = (opened c.args.sets.now c.loop-set.set-index (omega arith) _ _ c.loop-set.invariant.1).1

pub put-requires-clause-enough : goal.put-requires-clause-enough
put-requires-clause-enough c = (opened c.args.sets.now c.loop-set.set-index (omega arith) _ _ c.loop-set.invariant.1).2

pub after-rest-requires : goal.after-rest-requires
after-rest-requires c = (opened c.args.sets.now c.loop-set.set-index (omega arith) _ _ c.loop-set.invariant.1).2

pub put-requires-clause-stretch : goal.put-requires-clause-stretch
put-requires-clause-stretch c = omega (arith, room_left binary64 c.args.sets.now c.args.numbers.now c.args.v.now c.loop-set.set-index (omega arith) c.loop-set.rest.now c.loop-set.v c.loop-set.at c.requires c.loop-set.invariant.0 c.loop-set.invariant.1 c.loop-set.invariant.2 c.loop-set.invariant.3)

pub overflow_add-at : goal.overflow_add-at
overflow_add-at c = let k : c.loop-set.at + (get_or c.args.sets.now c.loop-set.set-index no_set).stretch ≤ length c.args.v.now = room_left binary64 c.args.sets.now c.args.numbers.now c.args.v.now c.loop-set.set-index (omega arith) c.loop-set.rest.now c.loop-set.v c.loop-set.at c.requires c.loop-set.invariant.0 c.loop-set.invariant.1 c.loop-set.invariant.2 c.loop-set.invariant.3 in search rules

pub loop-set-preserved : goal.loop-set-preserved
loop-set-preserved c = (
  room_left binary64 c.args.sets.now c.args.numbers.now c.args.v.now c.loop-set.set-index (omega arith) c.loop-set.rest.now c.loop-set.v c.loop-set.at c.requires c.loop-set.invariant.0 c.loop-set.invariant.1 c.loop-set.invariant.2 c.loop-set.invariant.3,
  put_fits binary64 c.args.sets.now c.args.numbers.now c.args.v.now c.loop-set.set-index (omega arith) c.loop-set.rest.now c.loop-set.v c.loop-set.at c.requires c.loop-set.invariant.0 c.loop-set.invariant.1 c.loop-set.invariant.2 c.loop-set.invariant.3 _ c.after-rest.ensures,
  put_rest binary64 c.args.sets.now c.args.numbers.now c.args.v.now c.loop-set.set-index (omega arith) c.loop-set.rest.now c.loop-set.v c.loop-set.at c.requires c.loop-set.invariant.0 c.loop-set.invariant.1 c.loop-set.invariant.2 c.loop-set.invariant.3 _ c.after-rest.ensures,
  put_turn binary64 c.args.sets.now c.args.numbers.now c.args.v.now c.loop-set.set-index (omega arith) c.loop-set.rest.now c.loop-set.v c.loop-set.at c.requires c.loop-set.invariant.0 c.loop-set.invariant.1 c.loop-set.invariant.2 c.loop-set.invariant.3 _ c.put.ensures,
)

pub returns : goal.returns
returns c = put_over binary64 c.args.sets.now c.args.numbers.now c.args.v.now c.loop-set.set-index c.loop-set.rest.now c.loop-set.v c.loop-set.at c.requires c.loop-set.invariant.0 c.loop-set.invariant.1 c.loop-set.invariant.3 (omega arith)

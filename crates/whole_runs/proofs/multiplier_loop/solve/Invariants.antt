-- After the turns of `multiplier_loop::solve` the answers before those that are left are fed. Assumes nothing.
use Rattle.std.specs.Prelude.{drop}
use Rattle.std.specs.Float.{binary64}
use Rattle.claim.specs.Loop.{loop_runs}
use Rattle.alm_optimizer.specs.Calls.{loop_gave}
use Rattle.whole_runs.specs.Feed.{answers, Fed}
use Rattle.whole_runs.proofs.multiplier_loop.solve.Given as goal

abbrev pub invariant-loop-a : goal.invariant-loop-a
invariant-loop-a l =
    let first = loop_gave l.initial.last in
    let last = loop_gave l.last in
    Fed (loop_runs binary64) first.run first.told (record { u = l.fn.plan; xi = l.fn.multipliers }) (answers l.list l.floats) (answers (drop l.a-index l.list) l.rest)
    last.told (record { u = l.plan; xi = l.multipliers }) last.run

-- After the turns of `multiplier_loop::solve_in_place` the answers before those that are left are fed. Assumes nothing.
use Rattle.std.specs.Prelude.{drop}
use Rattle.std.specs.Float.{binary64}
use Rattle.claim.specs.Loop.{loop_runs}
use Rattle.alm_engine.specs.LoopRuns.{loop_stepped}
use Rattle.whole_runs.specs.Feed.{answers, Fed}
use Rattle.whole_runs.proofs.multiplier_loop.solve_in_place.Given as goal

abbrev pub invariant-loop-a : goal.invariant-loop-a
invariant-loop-a l =
    let first = loop_stepped l.initial.last l.initial.board in
    let last = loop_stepped l.last l.board in
    Fed (loop_runs binary64) first.run first.told (record { u = l.fn.plan; xi = l.fn.multipliers }) (answers l.list l.floats) (answers (drop l.a-index l.list) l.rest)
    last.told (record { u = l.plan; xi = l.multipliers }) last.run

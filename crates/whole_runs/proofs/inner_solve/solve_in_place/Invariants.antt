-- After the turns of `inner_solve::solve_in_place` the answers before those that are left are fed. Assumes nothing.
use Rattle.std.specs.Prelude.{drop}
use Rattle.std.specs.Float.{binary64}
use Rattle.claim.specs.Inner.{inner_runs}
use Rattle.panoc_engine.specs.Runs.{stepped}
use Rattle.whole_runs.specs.Feed.{answers, Fed}
use Rattle.whole_runs.proofs.inner_solve.solve_in_place.Given as goal

abbrev pub invariant-loop-given : goal.invariant-loop-given
invariant-loop-given l =
    let first = stepped l.initial.last l.initial.board in
    let last = stepped l.last l.board in
    Fed (inner_runs binary64) first.run first.told l.fn.plan (answers l.list l.floats) (answers (drop l.given-index l.list) l.rest) last.told l.plan last.run

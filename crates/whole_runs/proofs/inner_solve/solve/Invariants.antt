-- After the turns of `inner_solve::solve` the answers before those that are left are fed. Assumes nothing.
use Rattle.std.specs.Prelude.{drop}
use Rattle.std.specs.Float.{binary64}
use Rattle.claim.specs.Inner.{inner_runs}
use Rattle.panoc_engine.specs.Values.{told_of}
use Rattle.panoc_engine.specs.Runs.{run_of}
use Rattle.whole_runs.specs.Feed.{answers, Fed}
use Rattle.whole_runs.proofs.inner_solve.solve.Given as goal

abbrev pub invariant-loop-a : goal.invariant-loop-a
invariant-loop-a l =
    let first = l.initial.last in
    Fed (inner_runs binary64) (run_of first.run.solve first.run.board) (told_of first.outcome) l.fn.plan (answers l.list l.floats) (answers (drop l.a-index l.list) l.rest) (told_of l.last.outcome) l.plan (run_of l.last.run.solve l.last.run.board)

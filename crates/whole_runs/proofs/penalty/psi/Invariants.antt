-- After the turns of `penalty::psi` the answers before those that are left are fed. Assumes nothing.
use Rattle.std.specs.Prelude.{drop}
use Rattle.std.specs.Float.{binary64}
use Rattle.claim.specs.Psi.{psi_runs}
use Rattle.alm_factory.specs.Runs.{psi_gave}
use Rattle.whole_runs.specs.Feed.{answers, Fed}
use Rattle.whole_runs.proofs.penalty.psi.Given as goal

abbrev pub invariant-loop-a : goal.invariant-loop-a
invariant-loop-a l =
    let first = psi_gave l.initial.last in
    let last = psi_gave l.last in
    Fed (psi_runs binary64) first.run first.told tt (answers l.list l.floats) (answers (drop l.a-index l.list) l.rest) last.told tt last.run

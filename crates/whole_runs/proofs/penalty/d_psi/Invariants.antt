-- After the turns of `penalty::d_psi` the answers before those that are left are fed, and y and t have the places of F1. Assumes nothing.
use Rattle.std.specs.Prelude.{drop}
use Rattle.std.specs.Float.{binary64}
use Rattle.claim.specs.Psi.{d_psi_runs}
use Rattle.claim.proofs.Meets.{Own}
use Rattle.alm_factory.specs.Runs.{d_psi_gave}
use Rattle.whole_runs.specs.Feed.{answers, Fed}
use Rattle.whole_runs.proofs.penalty.d_psi.Given as goal

abbrev pub invariant-loop-a : goal.invariant-loop-a
invariant-loop-a l =
    let first = d_psi_gave l.initial.last in
    let last = d_psi_gave l.last in
    record {
      fed : Fed (d_psi_runs binary64) first.run first.told l.fn.res (answers l.list l.floats) (answers (drop l.a-index l.list) l.rest) last.told l.res last.run;
      own : Own binary64 last.run;
    }

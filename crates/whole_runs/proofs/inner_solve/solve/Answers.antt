-- The goals of `inner_solve::solve`. Assumes nothing.
use Rattle.std.proofs.Common.{ap}
use Rattle.std.specs.Float.{binary64}
use Rattle.panoc_engine.specs.Values.{asked_of, numbers_of, told_of}
use Rattle.panoc_optimizer.specs.Calls.{gave}
use Rattle.claim.specs.Inner.{inner_runs}
use Rattle.whole_runs.proofs.Feeds.{fed_none, fed_more, fed_all, told_refused}
use Rattle.whole_runs.proofs.Solves.{solve_met, solve_refused, solve_fed}
use Rattle.whole_runs.proofs.inner_solve.solve.Goals as goal

pub returns-in-Refused : goal.returns-in-Refused
returns-in-Refused c = solve_refused _ _ _ (gave c.start-last.result) c.start-last.ensures _ _ _ (ap told_of c.in-Refused.is)

pub loop-a-init : goal.loop-a-init
loop-a-init c = fed_none (inner_runs binary64) _ _ _ _

pub loop-a-preserved : goal.loop-a-preserved
loop-a-preserved c =
    let n = c.next.ensures in
    let e = c.answer-last.ensures in
    let last = gave c.answer-last.result in
    fed_more (inner_runs binary64) c.args.list.now c.loop-a.rest.now c.loop-a.a-index _ c.loop-a-test.true c.loop-a.invariant _ c.next.result.1.now n.vector n.rest last.told c.answer-last.new.u last.run
    (solve_met _ _ _ _ _ last e.run e.plan)

pub returns : goal.returns
returns c =
    solve_fed _ _ _ (gave c.start-last.result) c.start-last.ensures _ _ (λ m e. let r = told_refused asked_of numbers_of c.start-last.result.outcome m e in c.in_default.not-Refused r.0 r.1)
    (fed_all (inner_runs binary64) c.args.list.now c.loop-a.rest.now c.loop-a.a-index c.loop-a-test.false c.loop-a.invariant)

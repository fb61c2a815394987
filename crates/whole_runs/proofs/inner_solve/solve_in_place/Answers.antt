-- The goals of `inner_solve::solve_in_place`. Assumes nothing.
use Rattle.std.proofs.Common.{ap}
use Rattle.std.specs.Float.{binary64}
use Rattle.panoc_engine.specs.Values.{asked_of, numbers_of, told_of}
use Rattle.panoc_engine.specs.Runs.{stepped}
use Rattle.claim.specs.Inner.{inner_runs}
use Rattle.whole_runs.proofs.Feeds.{fed_none, fed_more, fed_all, told_refused}
use Rattle.whole_runs.proofs.Solves.{solve_met, solve_refused, solve_fed}
use Rattle.whole_runs.proofs.inner_solve.solve_in_place.Goals as goal

pub returns-in-Refused : goal.returns-in-Refused
returns-in-Refused c = solve_refused _ _ _ (stepped c.start_in_place-last.result c.start_in_place-last.new.board) c.start_in_place-last.ensures _ _ _ (ap told_of c.in-Refused.is)

pub loop-given-init : goal.loop-given-init
loop-given-init c = fed_none (inner_runs binary64) _ _ _ _

pub loop-given-preserved : goal.loop-given-preserved
loop-given-preserved c =
    let n = c.next.ensures in
    let e = c.answer_in_place-last.ensures in
    let last = stepped c.answer_in_place-last.result c.answer_in_place-last.new.board in
    fed_more (inner_runs binary64) c.args.list.now c.loop-given.rest.now c.loop-given.given-index _ c.loop-given-test.true c.loop-given.invariant _ c.next.result.1.now n.vector n.rest last.told c.answer_in_place-last.new.u last.run
    (solve_met _ _ _ _ _ last e.run e.plan)

pub returns : goal.returns
returns c =
    solve_fed _ _ _ (stepped c.start_in_place-last.result c.start_in_place-last.new.board) c.start_in_place-last.ensures _ _ (λ m e. let r = told_refused asked_of numbers_of c.start_in_place-last.result.outcome m e in c.in_default.not-Refused r.0 r.1)
    (fed_all (inner_runs binary64) c.args.list.now c.loop-given.rest.now c.loop-given.given-index c.loop-given-test.false c.loop-given.invariant)

-- The goals of `multiplier_loop::solve_in_place`. Assumes nothing.
use Rattle.std.proofs.Common.{ap}
use Rattle.std.specs.Float.{binary64}
use Rattle.panoc_engine.proofs.Numbers.{refusal_some}
use Rattle.alm_engine.specs.Values.{loop_asked_of, loop_numbers_of, loop_told_of}
use Rattle.alm_engine.specs.LoopRuns.{loop_stepped}
use Rattle.claim.specs.Loop.{loop_runs}
use Rattle.whole_runs.proofs.Feeds.{fed_none, fed_more, fed_all, told_refused}
use Rattle.whole_runs.proofs.Loops.{loop_solve_met, loop_refused, loop_fed}
use Rattle.whole_runs.proofs.multiplier_loop.solve_in_place.Goals as goal

pub returns-in-Refused : goal.returns-in-Refused
returns-in-Refused c = loop_refused _ _ _ _ (loop_stepped c.start_in_place-last.result c.start_in_place-last.new.board) c.start_in_place-last.ensures _ _ _ _ (ap loop_told_of c.in-Refused.is) (refusal_some c.in-Refused.field-0)

pub loop-a-init : goal.loop-a-init
loop-a-init c = fed_none (loop_runs binary64) _ _ _ _

pub loop-a-preserved : goal.loop-a-preserved
loop-a-preserved c =
    let n = c.next.ensures in
    let e = c.answer_in_place-last.ensures in
    let last = loop_stepped c.answer_in_place-last.result c.answer_in_place-last.new.board in
    fed_more (loop_runs binary64) c.args.list.now c.loop-a.rest.now c.loop-a.a-index _ c.loop-a-test.true c.loop-a.invariant _ c.next.result.1.now n.vector n.rest last.told
    (record { u = c.answer_in_place-last.new.plan; xi = c.answer_in_place-last.new.xi }) last.run (loop_solve_met _ _ _ _ _ _ _ last e.run e.plan e.xi)

pub returns : goal.returns
returns c =
    loop_fed _ _ _ _ (loop_stepped c.start_in_place-last.result c.start_in_place-last.new.board) c.start_in_place-last.ensures _ _ _
    (λ m e. let r = told_refused loop_asked_of loop_numbers_of c.start_in_place-last.result.outcome m e in c.in_default.not-Refused r.0 r.1)
    (fed_all (loop_runs binary64) c.args.list.now c.loop-a.rest.now c.loop-a.a-index c.loop-a-test.false c.loop-a.invariant)

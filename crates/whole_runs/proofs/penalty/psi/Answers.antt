-- The goals of `penalty::psi`. Assumes nothing.
use Rattle.std.proofs.Common.{ap}
use Rattle.std.specs.Float.{binary64}
use Rattle.alm_factory.specs.Values.{asked_of, same, told_of}
use Rattle.alm_factory.specs.Runs.{psi_gave}
use Rattle.claim.specs.Psi.{psi_runs}
use Rattle.whole_runs.proofs.Feeds.{fed_none, fed_more, fed_all, told_refused}
use Rattle.whole_runs.proofs.Penalties.{psi_answer_met, psi_refused, psi_fed}
use Rattle.whole_runs.proofs.penalty.psi.Goals as goal

pub returns-in-Refused : goal.returns-in-Refused
returns-in-Refused c = psi_refused _ _ _ (psi_gave c.psi_start-last.result) c.psi_start-last.ensures _ _ (ap told_of c.in-Refused.is)

pub loop-a-init : goal.loop-a-init
loop-a-init c = fed_none (psi_runs binary64) _ _ _ _

pub loop-a-preserved : goal.loop-a-preserved
loop-a-preserved c =
    let n = c.next.ensures in
    let last = psi_gave c.psi_answer-last.result in
    fed_more (psi_runs binary64) c.args.list.now c.loop-a.rest.now c.loop-a.a-index _ c.loop-a-test.true c.loop-a.invariant _ c.next.result.1.now n.vector n.rest last.told tt last.run
    (psi_answer_met _ _ _ last c.psi_answer-last.ensures.run)

pub returns : goal.returns
returns c =
    psi_fed _ _ _ (psi_gave c.psi_start-last.result) c.psi_start-last.ensures _ (λ m e. let r = told_refused asked_of same c.psi_start-last.result.outcome m e in c.in_default.not-Refused r.0 r.1)
    (fed_all (psi_runs binary64) c.args.list.now c.loop-a.rest.now c.loop-a.a-index c.loop-a-test.false c.loop-a.invariant)

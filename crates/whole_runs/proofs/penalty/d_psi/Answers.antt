-- The goals of `penalty::d_psi`. Assumes nothing.
use Rattle.std.proofs.Common.{ap}
use Rattle.std.specs.Float.{binary64}
use Rattle.alm_factory.specs.Values.{asked_of, same, told_of}
use Rattle.alm_factory.specs.Runs.{d_psi_gave}
use Rattle.claim.specs.Psi.{d_psi_runs}
use Rattle.whole_runs.proofs.Feeds.{fed_none, fed_more, fed_all, told_refused}
use Rattle.whole_runs.proofs.Penalties.{d_psi_answer_met, own_kept, own_begun, d_psi_refused, d_psi_fed}
use Rattle.whole_runs.proofs.penalty.d_psi.Goals as goal

pub returns-in-Refused : goal.returns-in-Refused
returns-in-Refused c = d_psi_refused _ _ _ (d_psi_gave c.d_psi_start-last.result) c.d_psi_start-last.ensures _ _ _ (ap told_of c.in-Refused.is)

pub loop-a-init : goal.loop-a-init
loop-a-init c =
    record {
      fed = fed_none (d_psi_runs binary64) _ _ _ _;
      own = own_begun _ _ _ (d_psi_gave c.d_psi_start-last.result) c.d_psi_start-last.ensures (λ m e. let r = told_refused asked_of same c.d_psi_start-last.result.outcome m e in c.in_default.not-Refused r.0 r.1);
    }

pub loop-a-preserved : goal.loop-a-preserved
loop-a-preserved c =
    let n = c.next.ensures in
    let e = c.d_psi_answer-last.ensures in
    let i = c.loop-a.invariant in
    let last = d_psi_gave c.d_psi_answer-last.result in
    record {
      fed = fed_more (d_psi_runs binary64) c.args.list.now c.loop-a.rest.now c.loop-a.a-index _ c.loop-a-test.true i.fed _ c.next.result.1.now n.vector n.rest last.told c.d_psi_answer-last.new.res last.run
          (d_psi_answer_met _ _ _ _ _ last i.own e.run e.wrote);
      own = own_kept _ _ _ _ last i.own e.run;
    }

pub returns : goal.returns
returns c =
    d_psi_fed _ _ _ (d_psi_gave c.d_psi_start-last.result) c.d_psi_start-last.ensures _ _ (λ m e. let r = told_refused asked_of same c.d_psi_start-last.result.outcome m e in c.in_default.not-Refused r.0 r.1)
    (fed_all (d_psi_runs binary64) c.args.list.now c.loop-a.rest.now c.loop-a.a-index c.loop-a-test.false c.loop-a.invariant.fed)

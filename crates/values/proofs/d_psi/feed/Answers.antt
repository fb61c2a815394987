use Rattle.std.proofs.Common.{◌∙◌}
use Rattle.alm_factory.specs.Runs.{d_psi_gave}
use Rattle.values.proofs.Feeds.{fed_next, fed_done}
use Rattle.values.proofs.Steps.{d_psi_next}
use Rattle.values.proofs.d_psi.feed.Goals as goal

pub loop-k-preserved : goal.loop-k-preserved
loop-k-preserved c =
    fed_next _ c.args.places.now c.loop-k.k-index c.loop-k.rest.now _ _ _ _ _ c.loop-k-test.true c.reply_in.ensures c.vector_in.ensures c.behind-rest.ensures
    (d_psi_next _ _ (d_psi_gave c.loop-k.last) (d_psi_gave c.d_psi_answer-last.result) _ _ c.d_psi_answer-last.ensures.run c.d_psi_answer-last.ensures.wrote)
    ∙ c.loop-k.invariant

pub returns : goal.returns
returns c = fed_done _ c.args.places.now c.loop-k.k-index c.loop-k.rest.now _ c.loop-k-test.false ∙ c.loop-k.invariant

use Rattle.std.proofs.Common.{◌∙◌}
use Rattle.alm_factory.specs.Runs.{psi_gave}
use Rattle.values.proofs.Feeds.{fed_next, fed_done}
use Rattle.values.proofs.Steps.{psi_next}
use Rattle.values.proofs.psi.feed.Goals as goal

pub loop-k-preserved : goal.loop-k-preserved
loop-k-preserved c =
    fed_next _ c.args.places.now c.loop-k.k-index c.loop-k.rest.now _ _ _ _ _ c.loop-k-test.true c.reply_in.ensures c.vector_in.ensures c.behind-rest.ensures
    (psi_next _ _ (psi_gave c.loop-k.last) (psi_gave c.psi_answer-last.result) c.psi_answer-last.ensures.run)
    ∙ c.loop-k.invariant

pub returns : goal.returns
returns c = fed_done _ c.args.places.now c.loop-k.k-index c.loop-k.rest.now _ c.loop-k-test.false ∙ c.loop-k.invariant

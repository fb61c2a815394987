use Rattle.std.proofs.Common.{◌∙◌}
use Rattle.panoc_optimizer.specs.Calls.{gave}
use Rattle.values.proofs.Feeds.{fed_next, fed_done}
use Rattle.values.proofs.Steps.{inner_next}
use Rattle.values.proofs.inner_solve.feed.Goals as goal

pub loop-k-preserved : goal.loop-k-preserved
loop-k-preserved c =
    fed_next _ c.args.places.now c.loop-k.k-index c.loop-k.rest.now _ _ _ _ _ c.loop-k-test.true c.reply_in.ensures c.vector_in.ensures c.behind-rest.ensures
    (inner_next _ _ (gave c.loop-k.last) (gave c.answer-last.result) _ _ c.answer-last.ensures.run c.answer-last.ensures.plan)
    ∙ c.loop-k.invariant

pub returns : goal.returns
returns c = fed_done _ c.args.places.now c.loop-k.k-index c.loop-k.rest.now _ c.loop-k-test.false ∙ c.loop-k.invariant

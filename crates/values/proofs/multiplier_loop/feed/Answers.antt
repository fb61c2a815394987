use Rattle.std.proofs.Common.{◌∙◌}
use Rattle.alm_optimizer.specs.Calls.{loop_gave}
use Rattle.values.proofs.Feeds.{fed_next, fed_done}
use Rattle.values.proofs.Steps.{loop_next}
use Rattle.values.proofs.multiplier_loop.feed.Goals as goal

pub loop-k-preserved : goal.loop-k-preserved
loop-k-preserved c =
    fed_next _ c.args.places.now c.loop-k.k-index c.loop-k.rest.now _ _ _ _ _ c.loop-k-test.true c.reply_in.ensures c.vector_in.ensures c.behind-rest.ensures
    (loop_next _ _ (loop_gave c.loop-k.last) (loop_gave c.answer-last.result) _ _ _ _ c.answer-last.ensures.run c.answer-last.ensures.plan c.answer-last.ensures.xi)
    ∙ c.loop-k.invariant

pub returns : goal.returns
returns c = fed_done _ c.args.places.now c.loop-k.k-index c.loop-k.rest.now _ c.loop-k-test.false ∙ c.loop-k.invariant

use Rattle.std.proofs.Common.{◌∙◌}
use Rattle.alm_engine.proofs.Carried.{carried_failed}
use Rattle.alm_engine.proofs.inner_solves.on_inner.Goals as goal

-- the host reports a failure
pub returns-in-Failed : goal.returns-in-Failed
returns-in-Failed c = c.keep_ended-in-Failed.ensures c.args.board.now ∙ carried_failed c.args.s c.args.board.now c.args.outcome c.in-Failed.code c.in-Failed.is

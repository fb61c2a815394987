use Rattle.panoc_fields.proofs.Arms.{failure_so}
use Rattle.panoc_fields.proofs.answering.answer_accepted.Goals as goal

pub returns-in-Failure : goal.returns-in-Failure
returns-in-Failure c = failure_so c.args.run.now _ c.args.board.now c.args.v.now c.args.a _ _ c.in-Failure.is c.requires.accepted (c.keep_ended.ensures c.args.board.now)

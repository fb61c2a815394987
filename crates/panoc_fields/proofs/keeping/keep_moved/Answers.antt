use Rattle.panoc_fields.proofs.Kept.{goes_to}
use Rattle.panoc_fields.proofs.keeping.keep_moved.Goals as goal

pub returns-in-To : goal.returns-in-To
returns-in-To c =
    λ l. goes_to c.args.run.now _ l c.args.m _ c.question_at-question.result _ _ c.in-To.is c.flag_at.ensures c.question_at-question.ensures c.question_number.ensures c.tell.ensures

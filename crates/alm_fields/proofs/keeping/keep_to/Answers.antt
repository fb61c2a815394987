use Rattle.alm_fields.proofs.Kept.{begins_so, goes_so}
use Rattle.alm_fields.proofs.keeping.keep_to.Goals as goal

pub returns-in-Inner : goal.returns-in-Inner
returns-in-Inner c = λ l. begins_so c.args.inner.now c.keep_begun.new.inner c.args.alm.now c.keep_begun.new.alm l c.args.p _ c.in-Inner.is (c.keep_begun.ensures l)

pub returns : goal.returns
returns c =
    λ l. goes_so c.args.inner.now _ c.args.alm.now _ l c.args.p c.question_at-question.result _ c.in_default.not-Inner c.question_at-question.ensures c.question_number.ensures c.tell.ensures.inner c.tell.ensures.alm

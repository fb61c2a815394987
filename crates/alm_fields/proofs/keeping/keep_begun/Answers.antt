use Rattle.alm_fields.proofs.Kept.{begun_so}
use Rattle.alm_fields.proofs.keeping.keep_begun.Goals as goal

pub returns : goal.returns
returns c =
    λ l. begun_so c.args.inner.now c.args.alm.now l _ _ _ _ _ _ _ c.phase_number-inner.ensures c.flag_number-inner.ensures c.status_number-inner.ensures c.flag_number-inner-2.ensures c.question_number-question.ensures
    c.tell.ensures.inner c.tell.ensures.alm

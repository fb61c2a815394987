use Rattle.std.proofs.Common.{sym, ◌∙◌}
use Rattle.alm_fields.proofs.Arms.{failure_own, failure_inner}
use Rattle.alm_fields.proofs.answering.answer_failure.Goals as goal

pub returns-in-Inner : goal.returns-in-Inner
returns-in-Inner c =
    λ l v vs p z. failure_inner c.args.inner.now c.args.alm.now l c.keep_ended.new.inner c.keep_ended.new.alm v vs _ _ z p (sym c.in-Inner.ensures) _ c.phase_number-inner.ensures (c.keep_ended.ensures l)

pub returns : goal.returns
returns c =
    λ l v vs p z. failure_own c.args.inner.now c.args.alm.now l c.keep_ended-2.new.inner c.keep_ended-2.new.alm v vs _ _ z (λ e. c.in_default.not-Inner (c.phase_at-phase.ensures ∙ e)) (c.keep_ended-2.ensures l)

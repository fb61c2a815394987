use Rattle.std.proofs.Common.{sym, ◌∙◌}
use Rattle.alm_fields.proofs.Arms.{decision_only, time_so}
use Rattle.alm_fields.proofs.answering.answer_decision.Goals as goal

pub returns-in-Time : goal.returns-in-Time
returns-in-Time c =
    λ v. time_so c.args.inner.now c.args.alm.now c.args.board.now c.alm_of.result c.alm_of.ensures c.keep_iterated.new.inner c.keep_iterated.new.alm c.args.board.now v _ c.args.yes c.on_time.result (sym c.in-Time.ensures)
    (c.on_time.ensures c.args.board.now) (c.keep_iterated.ensures c.args.board.now)

pub returns-in_default : goal.returns-in_default
returns-in_default c =
    absurd
    (decision_only c.args.inner.now c.args.alm.now c.args.board.now c.args.yes c.requires.accepted (λ e. c.in_default.not-Inner (c.phase_at-phase.ensures ∙ e)) (λ e. c.in_default.not-Time (c.phase_at-phase.ensures ∙ e)))

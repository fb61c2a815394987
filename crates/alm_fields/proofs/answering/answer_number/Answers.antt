use Rattle.std.proofs.Common.{sym, ◌∙◌}
use Rattle.alm_fields.proofs.Arms.{number_only, last_cost_so}
use Rattle.alm_fields.proofs.answering.answer_number.Goals as goal

pub returns-in-LastCost : goal.returns-in-LastCost
returns-in-LastCost c =
    λ v. last_cost_so c.args.inner.now c.args.alm.now c.args.board.now c.alm_of.result c.alm_of.ensures c.keep_ended.new.inner c.keep_ended.new.alm c.args.board.now v _ c.args.x c.on_last_cost.result (sym c.in-LastCost.ensures)
    (c.on_last_cost.ensures c.args.board.now) (c.keep_ended.ensures c.args.board.now)

pub returns-in_default : goal.returns-in_default
returns-in_default c =
    absurd
    (number_only c.args.inner.now c.args.alm.now c.args.board.now c.args.x c.requires.accepted (λ e. c.in_default.not-Inner (c.phase_at-phase.ensures ∙ e)) (λ e. c.in_default.not-LastCost (c.phase_at-phase.ensures ∙ e)))

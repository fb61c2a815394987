use Rattle.std.proofs.Common.{sym, ap, ◌∙◌}
use Rattle.machine.specs.LoopNumbers.{question_number}
use Rattle.alm_fields.specs.Fields.{alm_at}
use Rattle.alm_c.proofs.StandLaws.{stands_unsound, stands_over, stands_inner, stands_own}
use Rattle.alm_c.proofs.points.pozkerrin_loop_question.Goals as goal

pub returns-then-not-is_sound : goal.returns-then-not-is_sound
returns-then-not-is_sound c = stands_unsound (alm_at c.args.run.now.inner c.args.run.now.alm) c.args.run.now.board _ (c.is_sound.ensures c.args.run.now.board) c.if-not-is_sound.true

pub returns-in-Over : goal.returns-in-Over
returns-in-Over c =
    stands_over (alm_at c.args.run.now.inner c.args.run.now.alm) c.args.run.now.board _ (c.is_sound.ensures c.args.run.now.board) c.if-not-is_sound.false
    (sym c.in-Over.is ∙ c.phase_at-phase.ensures)

pub returns-in-Inner : goal.returns-in-Inner
returns-in-Inner c =
    stands_inner (alm_at c.args.run.now.inner c.args.run.now.alm) c.args.run.now.board _ (c.is_sound.ensures c.args.run.now.board) c.if-not-is_sound.false
    (sym c.in-Inner.is ∙ c.phase_at-phase.ensures) _ c.standing.ensures

pub returns-in_default : goal.returns-in_default
returns-in_default c =
    stands_own (alm_at c.args.run.now.inner c.args.run.now.alm) c.args.run.now.board _ (c.is_sound.ensures c.args.run.now.board) c.if-not-is_sound.false _ c.phase_at-phase.ensures
    c.in_default.not-Over c.in_default.not-Inner _ (c.question_number.ensures ∙ ap question_number c.question_at.ensures)

use Rattle.std.proofs.Common.{sym, ◌∙◌}
use Rattle.alm_fields.proofs.Arms.{fits_y, fits_f1, fits_c, fits_f2, vector_only, project_y_so, f1_so, project_c_so, f2_so}
use Rattle.alm_fields.proofs.answering.answer_vector.Goals as goal

pub on_project_y-requires : goal.on_project_y-requires
on_project_y-requires c = fits_y c.args.inner.now c.args.alm.now c.args.board.now c.alm_of.result c.alm_of.ensures _ c.requires.places c.requires.accepted (sym c.in-ProjectY.ensures)

pub on_f1-requires : goal.on_f1-requires
on_f1-requires c = fits_f1 c.args.inner.now c.args.alm.now c.args.board.now c.alm_of-in-F1.result c.alm_of-in-F1.ensures _ c.requires.places c.requires.accepted (sym c.in-F1.ensures)

pub on_project_c-requires : goal.on_project_c-requires
on_project_c-requires c = fits_c c.args.inner.now c.args.alm.now c.args.board.now c.alm_of-in-ProjectC.result c.alm_of-in-ProjectC.ensures _ c.requires.places c.requires.accepted (sym c.in-ProjectC.ensures)

pub on_f2-requires : goal.on_f2-requires
on_f2-requires c = fits_f2 c.args.inner.now c.args.alm.now c.args.board.now c.alm_of-in-F2.result c.alm_of-in-F2.ensures _ c.requires.places c.requires.accepted (sym c.in-F2.ensures)

pub returns-in-ProjectY : goal.returns-in-ProjectY
returns-in-ProjectY c =
    project_y_so c.args.inner.now c.args.alm.now c.args.board.now c.alm_of.result c.alm_of.ensures c.keep_moved.new.inner c.keep_moved.new.alm c.on_project_y.new.board c.args.v.now _ c.on_project_y.result (sym c.in-ProjectY.ensures)
    c.on_project_y.ensures (c.keep_moved.ensures c.on_project_y.new.board)

pub returns-in-F1 : goal.returns-in-F1
returns-in-F1 c =
    f1_so c.args.inner.now c.args.alm.now c.args.board.now c.alm_of-in-F1.result c.alm_of-in-F1.ensures c.keep_moved-in-F1.new.inner c.keep_moved-in-F1.new.alm c.on_f1.new.board c.args.v.now _ c.on_f1.result (sym c.in-F1.ensures)
    c.on_f1.ensures (c.keep_moved-in-F1.ensures c.on_f1.new.board)

pub returns-in-ProjectC : goal.returns-in-ProjectC
returns-in-ProjectC c =
    project_c_so c.args.inner.now c.args.alm.now c.args.board.now c.alm_of-in-ProjectC.result c.alm_of-in-ProjectC.ensures c.keep_weighed.new.inner c.keep_weighed.new.alm c.on_project_c.new.board c.args.v.now _ c.on_project_c.result (sym c.in-ProjectC.ensures)
    c.on_project_c.ensures (c.keep_weighed.ensures c.on_project_c.new.board)

pub returns-in-F2 : goal.returns-in-F2
returns-in-F2 c =
    f2_so c.args.inner.now c.args.alm.now c.args.board.now c.alm_of-in-F2.result c.alm_of-in-F2.ensures c.keep_weighed-in-F2.new.inner c.keep_weighed-in-F2.new.alm c.on_f2.new.board c.args.v.now _ c.on_f2.result (sym c.in-F2.ensures)
    c.on_f2.ensures (c.keep_weighed-in-F2.ensures c.on_f2.new.board)

pub returns-in_default : goal.returns-in_default
returns-in_default c =
    absurd
    (vector_only c.args.inner.now c.args.alm.now c.args.board.now _ c.requires.accepted (λ e. c.in_default.not-Inner (c.phase_at-phase.ensures ∙ e)) (λ e. c.in_default.not-ProjectY (c.phase_at-phase.ensures ∙ e))
    (λ e. c.in_default.not-F1 (c.phase_at-phase.ensures ∙ e)) (λ e. c.in_default.not-ProjectC (c.phase_at-phase.ensures ∙ e)) (λ e. c.in_default.not-F2 (c.phase_at-phase.ensures ∙ e)))

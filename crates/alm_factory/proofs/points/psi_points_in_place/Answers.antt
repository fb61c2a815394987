use Rattle.std.proofs.Common.{sym, ◌∙◌, ⊎_elim}
use Rattle.alm_factory.proofs.PointLaws.{cost_points, f1_points, f2_points, project_c_points}
use Rattle.alm_factory.proofs.points.psi_points_in_place.Goals as goal

pub returns-in-Cost : goal.returns-in-Cost
returns-in-Cost c =
    let h = sym c.is_sound.ensures ∙ c.if-not-is_sound.false in
    ⊎_elim (λ e. cost_points c.args.s c.args.board.now _ _ _ _ _ h e c.place.ensures)
    (⊎_elim (λ e. f1_points c.args.s c.args.board.now _ _ _ _ _ h e c.place.ensures) (λ e. f2_points c.args.s c.args.board.now _ _ _ _ _ h e c.place.ensures))
    c.in-Cost.is

pub returns-in-ProjectC : goal.returns-in-ProjectC
returns-in-ProjectC c =
    let h = sym c.is_sound.ensures ∙ c.if-not-is_sound.false in
    project_c_points c.args.s c.args.board.now _ _ _ _ _ h c.in-ProjectC.is c.place-in-ProjectC.ensures

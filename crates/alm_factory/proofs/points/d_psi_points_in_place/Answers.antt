use Rattle.std.proofs.Common.{◌≤◌, arith, sym, ◌∙◌, ⊎_elim}
use Rattle.machine.proofs.PsiLaws.{sound_n1, sound_n2}
use Rattle.alm_factory.specs.Values.{sizes_of}
use Rattle.alm_factory.proofs.PointLaws.{gradient_points, d_f1_points, d_f2_points, d_project_c_points, jf1t_points, jf2t_points}
use Rattle.alm_factory.proofs.points.d_psi_points_in_place.Goals as goal

pub returns-in-Gradient : goal.returns-in-Gradient
returns-in-Gradient c =
    let h = sym c.is_sound.ensures ∙ c.if-not-is_sound.false in
    ⊎_elim (λ e. gradient_points c.args.s c.args.board.now _ _ _ _ _ h e c.place.ensures)
    (⊎_elim (λ e. d_f1_points c.args.s c.args.board.now _ _ _ _ _ h e c.place.ensures) (λ e. d_f2_points c.args.s c.args.board.now _ _ _ _ _ h e c.place.ensures))
    c.in-Gradient.is

pub returns-in-ProjectC : goal.returns-in-ProjectC
returns-in-ProjectC c =
    let h = sym c.is_sound.ensures ∙ c.if-not-is_sound.false in
    d_project_c_points c.args.s c.args.board.now _ _ _ _ _ h c.in-ProjectC.is c.place-in-ProjectC.ensures

pub returns-in-Jf1t : goal.returns-in-Jf1t
returns-in-Jf1t c =
    let h = sym c.is_sound.ensures ∙ c.if-not-is_sound.false in
    let n : c.args.s.sizes.n1 ≤ 64 = omega (arith, sound_n1 (sizes_of c.args.s.sizes) h) in
    jf1t_points c.args.s c.args.board.now _ _ _ _ _ h c.in-Jf1t.is n c.place-in-Jf1t.ensures

pub returns-in-Jf2t : goal.returns-in-Jf2t
returns-in-Jf2t c =
    let h = sym c.is_sound.ensures ∙ c.if-not-is_sound.false in
    let n : c.args.s.sizes.n2 ≤ 64 = omega (arith, sound_n2 (sizes_of c.args.s.sizes) h) in
    jf2t_points c.args.s c.args.board.now _ _ _ _ _ h c.in-Jf2t.is n c.place-in-Jf2t.ensures

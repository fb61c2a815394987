use Rattle.alm_factory.proofs.PsiLaws.{projection_taken}
use Rattle.alm_factory.proofs.psi.on_project_c.Goals as goal

pub returns : goal.returns
returns c = projection_taken c.args.s _ _ _ c.requires.0 c.take_into.ensures _ _ _ c.requires.1 c.distance_squared-distance.ensures c.penalized-value.ensures c.ask_f2.ensures

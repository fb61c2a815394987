use Rattle.alm_factory.proofs.PsiLaws.{run_stays}
use Rattle.alm_factory.proofs.psi_answers.psi_answer.Goals as goal

pub returns-clause-stays : goal.returns-clause-stays
returns-clause-stays c = run_stays _ c.args.run _ _ c.psi_answer_in_place-r.ensures.state c.psi_answer_in_place-r.ensures.board

use Rattle.alm_factory.proofs.DPsiLaws.{run_stays}
use Rattle.alm_factory.proofs.d_psi_answers.d_psi_answer.Goals as goal

pub returns-clause-stays : goal.returns-clause-stays
returns-clause-stays c = run_stays _ c.args.run _ _ c.d_psi_answer_in_place-r.ensures.state c.d_psi_answer_in_place-r.ensures.board

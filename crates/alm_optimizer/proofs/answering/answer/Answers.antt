use Rattle.alm_optimizer.proofs.Answers.{run_stays}
use Rattle.alm_optimizer.proofs.answering.answer.Goals as goal

pub returns-clause-stays : goal.returns-clause-stays
returns-clause-stays c = run_stays _ c.args.run _ _ c.answer_in_place-r.ensures.state c.answer_in_place-r.ensures.board

use Rattle.panoc_optimizer.proofs.Calls.{run_stays}
use Rattle.panoc_optimizer.proofs.answer.Goals as goal

pub returns-clause-stays : goal.returns-clause-stays
returns-clause-stays c = run_stays _ c.args.run _ _ c.answer_in_place-r.ensures.state c.answer_in_place-r.ensures.board

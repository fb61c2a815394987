use Rattle.std.proofs.Common.{sym, ap, ◌∙◌}
use Rattle.panoc_engine.specs.Told.{number_of}
use Rattle.alm_optimizer.proofs.Answers.{plan_stays, xi_stays}
use Rattle.alm_optimizer.proofs.answering.answer_in_place.Goals as goal

-- a refused answer leaves the lent places as they were
pub returns-in-Some-clause-plan : goal.returns-in-Some-clause-plan
returns-in-Some-clause-plan c =
    plan_stays c.args.s c.args.board.now (c.args.a) c.args.v.now c.args.plan.now c.args.xi.now c.in-Some.refusal (sym (ap number_of c.in-Some.is) ∙ c.answer_refusal.ensures c.args.board.now)

pub returns-in-Some-clause-xi : goal.returns-in-Some-clause-xi
returns-in-Some-clause-xi c =
    xi_stays c.args.s c.args.board.now (c.args.a) c.args.v.now c.args.plan.now c.args.xi.now c.in-Some.refusal (sym (ap number_of c.in-Some.is) ∙ c.answer_refusal.ensures c.args.board.now)

use Rattle.std.proofs.Common.{sym, ap, ◌∙◌}
use Rattle.panoc_engine.specs.Told.{number_of}
use Rattle.panoc_optimizer.proofs.Calls.{accepted_stays_not}
use Rattle.panoc_optimizer.proofs.answer_in_place.Goals as goal

-- an answer that nothing refuses
pub returns-clause-state : goal.returns-clause-state
returns-clause-state c =
    accepted_stays_not c.args.s c.args.board.now c.args.a c.args.v.now c.args.u.now c.wants.result (c.wants.ensures c.args.board.now) _ _ (sym (ap number_of c.in_default.is) ∙ c.refusal.ensures)

pub returns-clause-board : goal.returns-clause-board
returns-clause-board c =
    accepted_stays_not c.args.s c.args.board.now c.args.a c.args.v.now c.args.u.now c.wants.result (c.wants.ensures c.args.board.now) _ _ (sym (ap number_of c.in_default.is) ∙ c.refusal.ensures)

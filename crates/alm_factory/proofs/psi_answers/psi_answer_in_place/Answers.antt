use Rattle.std.proofs.Common.{sym, ap, ◌∙◌}
use Rattle.panoc_engine.specs.Told.{number_of}
use Rattle.panoc_engine.specs.Values.{reply_of, kind_of}
use Rattle.alm_factory.proofs.PsiLaws.{stays_not}
use Rattle.alm_factory.proofs.psi_answers.psi_answer_in_place.Goals as goal

-- an answer that nothing refuses
pub returns-in-None-clause-state : goal.returns-in-None-clause-state
returns-in-None-clause-state c =
    stays_not c.args.s c.args.board.now (reply_of c.args.a) c.args.v.now (kind_of c.psi_waits.result) c.psi_waits.ensures _ _ (sym (ap number_of c.in-None.is) ∙ c.refusal.ensures)

pub returns-in-None-clause-board : goal.returns-in-None-clause-board
returns-in-None-clause-board c =
    stays_not c.args.s c.args.board.now (reply_of c.args.a) c.args.v.now (kind_of c.psi_waits.result) c.psi_waits.ensures _ _ (sym (ap number_of c.in-None.is) ∙ c.refusal.ensures)

use Rattle.std.proofs.Common.{sym, ap, ◌∙◌}
use Rattle.panoc_engine.specs.Told.{number_of}
use Rattle.panoc_engine.specs.Values.{reply_of, kind_of}
use Rattle.alm_factory.proofs.DPsiLaws.{stays_not}
use Rattle.alm_factory.proofs.d_psi_answers.d_psi_answer_in_place.Goals as goal

-- an answer that nothing refuses
pub returns-in-None-clause-state : goal.returns-in-None-clause-state
returns-in-None-clause-state c =
    stays_not c.args.s (reply_of c.args.a) c.args.v.now c.args.res.now (kind_of c.d_psi_waits.result) c.d_psi_waits.ensures c.args.board.now _ _ (sym (ap number_of c.in-None.is) ∙ c.refusal.ensures)

pub returns-in-None-clause-board : goal.returns-in-None-clause-board
returns-in-None-clause-board c =
    stays_not c.args.s (reply_of c.args.a) c.args.v.now c.args.res.now (kind_of c.d_psi_waits.result) c.d_psi_waits.ensures c.args.board.now _ _ (sym (ap number_of c.in-None.is) ∙ c.refusal.ensures)

use Rattle.std.proofs.Common.{sym, ◌∙◌}
use Rattle.alm_engine.proofs.Weighs.{weigh_goes}
use Rattle.alm_engine.proofs.weighing.weigh.Goals as goal

-- the iteration does not end the loop
pub returns : goal.returns
returns c =
    c.next_iteration-next.ensures c.renew-done.new.board
    ∙ weigh_goes c.args.s c.args.board.now _ c.renew-done.new.board
    (sym (c.is_exit_criterion_satisfied.ensures c.args.board.now) ∙ c.if-is_exit_criterion_satisfied.false) c.renew-done.ensures

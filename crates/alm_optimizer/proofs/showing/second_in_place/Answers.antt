use Rattle.std.proofs.Common.{rules}
use Rattle.alm_optimizer.proofs.Shows.{second_shown}
use Rattle.alm_optimizer.proofs.showing.second_in_place.Goals as goal

pub returns : goal.returns
returns c =
    second_shown c.args.s c.args.board.now c.args.second.now _ (c.points_at.ensures.points c.args.board.now (search rules)) _ c.in-Some.is _ c.second_fits.ensures c.if-not-second_fits.false _ c.give_second.ensures

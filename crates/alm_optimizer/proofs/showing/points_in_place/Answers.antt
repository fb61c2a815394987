use Rattle.std.proofs.Common.{rules, ◌≡◌, length, true}
use Rattle.alm_optimizer.proofs.Shows.{points_shown}
use Rattle.alm_optimizer.proofs.showing.points_in_place.Goals as goal

pub returns : goal.returns
returns c =
    let n : length c.args.first.now ≡ c.in-Some.p.places = search rules in
    let b : c.second_fits.result ≡ true = search rules in
    points_shown c.args.s c.args.board.now c.args.first.now c.args.second.now c.points_at.result (c.points_at.ensures.points c.args.board.now (search rules)) c.in-Some.p c.in-Some.is n c.second_fits.result c.second_fits.ensures b c.give.new.out c.give_second.new.out c.give.ensures c.give_second.ensures

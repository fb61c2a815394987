use Rattle.std.proofs.Common.{rules, arith, ◌≤◌, length}
use Rattle.panoc_optimizer.proofs.Calls.{start_size}
use Rattle.panoc_c.proofs.StartLaws.{settings_same, start_refused, start_begun}
use Rattle.panoc_c.proofs.start.pozkerrin_inner_start.Goals as goal

pub returns-in-Some : goal.returns-in-Some
returns-in-Some c = start_refused _ c.args.at.now c.args.run.now.board c.keep_blank.new.run c.keep_ended.new.run c.keep_blank.ensures.blank _ _ c.keep_blank.ensures.end _ (settings_same _ _ _ _ _ _ _ _ c.flag_at.ensures c.akkt_at.ensures) _ c.in-Some.ensures (c.keep_ended.ensures c.args.run.now.board)

pub take_into-requires : goal.take_into-requires
take_into-requires c =
    let h = start_size _ c.args.at.now c.in_default.ensures in
    let p : 576 ≤ length c.args.run.now.board = search rules in
    omega (arith, h, p)

pub returns : goal.returns
returns c = start_begun _ c.args.at.now c.args.run.now.board c.keep_blank.new.run c.keep_moved.new.run c.keep_blank.ensures.blank _ _ c.keep_blank.ensures.end _ (settings_same _ _ _ _ _ _ _ _ c.flag_at.ensures c.akkt_at.ensures) _ c.take_into.ensures (search rules) c.in_default.ensures (c.keep_moved.ensures c.take_into.new.board)

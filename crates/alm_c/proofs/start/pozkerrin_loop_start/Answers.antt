use Rattle.std.proofs.Common.{refl, rules, arith, ◌≤◌, length}
use Rattle.alm_c.proofs.StartLaws.{start_refused, begun_places, begun_multipliers, begun_limit, start_begun}
use Rattle.alm_c.proofs.start.pozkerrin_loop_start.Goals as goal

pub returns-in-Some : goal.returns-in-Some
returns-in-Some c =
    start_refused c.args.set.now c.args.at.now c.args.xi.now c.args.run.now.board c.args.run.now.alm c.keep_settings.new.alm c.keep_blank.new.alm c.keep_blank.new.inner _ c.keep_settings.ensures c.keep_blank.ensures.blank c.keep_blank.ensures.end c.settings_of-given.ensures _ _ c.in-Some.ensures (c.keep_ended.ensures c.args.run.now.board)

pub take_into-requires : goal.take_into-requires
take_into-requires c =
    let h = begun_places c.args.set.now c.args.at.now c.args.xi.now c.args.run.now.board c.args.run.now.alm c.keep_settings.new.alm c.keep_blank.new.alm c.keep_blank.new.inner _ c.keep_settings.ensures c.keep_blank.ensures.blank c.keep_blank.ensures.end c.settings_of-given.ensures c.in_default.ensures c.multipliers_in-y.result.now c.multipliers_in-y.ensures in
    let p : 768 ≤ length c.args.run.now.board = search rules in
    omega (arith, h, p)

pub take_into-requires-2 : goal.take_into-requires-2
take_into-requires-2 c =
    let h = begun_multipliers c.args.set.now c.args.at.now c.args.xi.now c.args.run.now.board c.args.run.now.alm c.keep_settings.new.alm c.keep_blank.new.alm c.keep_blank.new.inner _ c.keep_settings.ensures c.keep_blank.ensures.blank c.keep_blank.ensures.end c.settings_of-given.ensures c.in_default.ensures c.multipliers_in-y.result.now c.multipliers_in-y.ensures in
    let p : 768 ≤ length c.take_into.new.board = search rules in
    omega (arith, h, p)

pub take_into-requires-3 : goal.take_into-requires-3
take_into-requires-3 c =
    let h = begun_multipliers c.args.set.now c.args.at.now c.args.xi.now c.args.run.now.board c.args.run.now.alm c.keep_settings.new.alm c.keep_blank.new.alm c.keep_blank.new.inner _ c.keep_settings.ensures c.keep_blank.ensures.blank c.keep_blank.ensures.end c.settings_of-given.ensures c.in_default.ensures c.multipliers_in-y.result.now c.multipliers_in-y.ensures in
    let p : 768 ≤ length c.take_into-2.new.board = search rules in
    omega (arith, h, p)

pub overflow_sub-run : goal.overflow_sub-run
overflow_sub-run c = begun_limit c.args.set.now c.args.at.now c.args.xi.now c.args.run.now.board c.args.run.now.alm c.keep_settings.new.alm c.keep_blank.new.alm c.keep_blank.new.inner _ c.keep_settings.ensures c.keep_blank.ensures.blank c.keep_blank.ensures.end c.settings_of-given.ensures c.in_default.ensures c.multipliers_in-y.result.now c.multipliers_in-y.ensures

pub returns : goal.returns
returns c =
    start_begun c.args.set.now c.args.at.now c.args.xi.now c.args.run.now.board c.args.run.now.alm c.keep_settings.new.alm c.keep_blank.new.alm c.keep_blank.new.inner _ c.keep_settings.ensures c.keep_blank.ensures.blank c.keep_blank.ensures.end c.settings_of-given.ensures c.in_default.ensures c.multipliers_in-y.result.now c.multipliers_in-y.ensures _ _ _ c.take_into.new.board c.take_into-2.new.board c.take_into-3.new.board c.begins-moved.result (search rules) c.take_into.ensures c.take_into-2.ensures c.take_into-3.ensures c.penalty_in-run.ensures refl _ c.alm_of.ensures c.begins-moved.ensures (c.keep_moved.ensures c.take_into-3.new.board)

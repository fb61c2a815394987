use Rattle.std.specs.Prelude.{[]}
use Rattle.std.proofs.Common.{refl, rules}
use Rattle.panoc_engine.specs.declared.panoc_cache.Reply.TheVariants.{Number}
use Rattle.alm_fields.proofs.CallLaws.{leaves_refused, accepted_places, accepted_room, leaves_goes}
use Rattle.alm_number_c.proofs.pozkerrin_loop_number.Goals as goal

pub returns-in-Some : goal.returns-in-Some
returns-in-Some c = rw c.number.ensures (leaves_refused c.args.run.now [] c.args.plan.now c.args.xi.now _ c.waits-wanted.ensures _ c.lent_fits-fits.ensures (Number c.args.x) _ refl _ c.in-Some.ensures)

pub answer_number-number-requires-clause-accepted : goal.answer_number-number-requires-clause-accepted
answer_number-number-requires-clause-accepted c = accepted_places c.args.run.now [] c.args.plan.now c.args.xi.now _ c.waits-wanted.ensures _ c.lent_fits-fits.ensures (Number c.args.x) _ refl c.in_default.ensures

pub hand_out-requires : goal.hand_out-requires
hand_out-requires c = accepted_room c.args.run.now [] c.args.plan.now c.args.xi.now _ c.waits-wanted.ensures _ c.lent_fits-fits.ensures (Number c.args.x) _ refl c.in_default.ensures

pub returns : goal.returns
returns c =
    leaves_goes c.args.run.now [] c.args.plan.now c.args.xi.now _ c.waits-wanted.ensures _ c.lent_fits-fits.ensures (Number c.args.x) _ refl c.in_default.ensures
    (record { inner = c.answer_number-number.new.inner; alm = c.answer_number-number.new.alm; board = c.answer_number-number.new.board }) _ _ _ (c.answer_number-number.ensures []) c.hand_out.ensures.plan c.hand_out.ensures.xi (search rules)

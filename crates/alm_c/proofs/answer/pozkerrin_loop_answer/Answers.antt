use Rattle.std.proofs.Common.{refl, rules}
use Rattle.alm_fields.proofs.CallLaws.{leaves_of_no_kind, leaves_refused, accepted_places, accepted_room, leaves_goes}
use Rattle.alm_c.proofs.answer.pozkerrin_loop_answer.Goals as goal

pub returns-in_default : goal.returns-in_default
returns-in_default c = leaves_of_no_kind c.args.run.now c.args.v.now c.args.plan.now c.args.xi.now _ c.waits-wanted.ensures _ refl _ _ c.in_default.ensures c.number_of_no_kind.ensures

pub returns-in-Some-refusal : goal.returns-in-Some-refusal
returns-in-Some-refusal c = rw c.number.ensures (leaves_refused c.args.run.now c.args.v.now c.args.plan.now c.args.xi.now _ c.waits-wanted.ensures _ c.lent_fits-fits.ensures c.in-Some.a _ c.in-Some.ensures _ c.in-Some-refusal.ensures)

pub answer_accepted-number-requires-clause-accepted : goal.answer_accepted-number-requires-clause-accepted
answer_accepted-number-requires-clause-accepted c = accepted_places c.args.run.now c.args.v.now c.args.plan.now c.args.xi.now _ c.waits-wanted.ensures _ c.lent_fits-fits.ensures c.in-Some.a _ c.in-Some.ensures c.in_default-refusal.ensures

pub hand_out-requires : goal.hand_out-requires
hand_out-requires c = accepted_room c.args.run.now c.args.v.now c.args.plan.now c.args.xi.now _ c.waits-wanted.ensures _ c.lent_fits-fits.ensures c.in-Some.a _ c.in-Some.ensures c.in_default-refusal.ensures

pub returns : goal.returns
returns c =
    leaves_goes c.args.run.now c.args.v.now c.args.plan.now c.args.xi.now _ c.waits-wanted.ensures _ c.lent_fits-fits.ensures c.in-Some.a _ c.in-Some.ensures c.in_default-refusal.ensures
    (record { inner = c.answer_accepted-number.new.inner; alm = c.answer_accepted-number.new.alm; board = c.answer_accepted-number.new.board }) _ _ _ c.answer_accepted-number.ensures c.hand_out.ensures.plan
    c.hand_out.ensures.xi (search rules)

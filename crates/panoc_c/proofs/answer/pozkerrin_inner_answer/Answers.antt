use Rattle.std.proofs.Common.{rules}
use Rattle.panoc_fields.proofs.CallLaws.{leaves_of_no_kind, accepted_places, accepted_room, leaves_goes}
use Rattle.panoc_c.proofs.answer.pozkerrin_inner_answer.Goals as goal

pub returns-in_default : goal.returns-in_default
returns-in_default c =
    leaves_of_no_kind c.args.run.now c.args.v.now c.args.plan.now _ c.solve_of.ensures _ c.wants-wanted.ensures _ _ c.in_default.ensures c.number_of_no_kind.ensures

pub answer_accepted-number-requires-clause-accepted : goal.answer_accepted-number-requires-clause-accepted
answer_accepted-number-requires-clause-accepted c =
    accepted_places c.args.run.now c.args.v.now c.args.plan.now _ c.solve_of.ensures _ c.wants-wanted.ensures _ _ c.in-Some.ensures c.in_default-refusal.ensures

pub hand_out-requires : goal.hand_out-requires
hand_out-requires c =
    accepted_room c.args.run.now c.args.v.now c.args.plan.now _ c.solve_of.ensures _ c.wants-wanted.ensures _ _ c.in-Some.ensures c.in_default-refusal.ensures (search rules)

pub returns : goal.returns
returns c =
    leaves_goes c.args.run.now c.args.v.now c.args.plan.now _ c.solve_of.ensures _ c.wants-wanted.ensures _ _ c.in-Some.ensures c.in_default-refusal.ensures _ _ _ c.answer_accepted-number.ensures c.hand_out.ensures

use Rattle.std.proofs.Common.{refl, rules}
use Rattle.panoc_fields.specs.Fields.{solve_at}
use Rattle.panoc_fields.proofs.CallLaws.{leaves_refused, accepted_places, accepted_room, leaves_goes}
use Rattle.panoc_vector_c.proofs.pozkerrin_inner_vector.Goals as goal

pub answer_vector-number-requires-clause-accepted : goal.answer_vector-number-requires-clause-accepted
answer_vector-number-requires-clause-accepted c =
    accepted_places c.args.run.now c.args.v.now c.args.plan.now (solve_at c.args.run.now.inner) refl _ c.waits-wanted.ensures _ _ refl c.in_default.ensures

pub hand_out-requires : goal.hand_out-requires
hand_out-requires c =
    accepted_room c.args.run.now c.args.v.now c.args.plan.now (solve_at c.args.run.now.inner) refl _ c.waits-wanted.ensures _ _ refl c.in_default.ensures (search rules)

pub returns : goal.returns
returns c =
    leaves_goes c.args.run.now c.args.v.now c.args.plan.now (solve_at c.args.run.now.inner) refl _ c.waits-wanted.ensures _ _ refl c.in_default.ensures _ _ _ c.answer_vector-number.ensures c.hand_out.ensures

pub returns-in-Some : goal.returns-in-Some
returns-in-Some c =
    rw c.number.ensures (leaves_refused c.args.run.now c.args.v.now c.args.plan.now (solve_at c.args.run.now.inner) refl _ c.waits-wanted.ensures _ _ refl _ c.in-Some.ensures)

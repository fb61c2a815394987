use Rattle.alm_fields.proofs.Carried.{carried_asked, carried_ends, carried_stops}
use Rattle.alm_fields.proofs.answering.carry.Goals as goal

pub returns-then-outcome-eq-ASKED : goal.returns-then-outcome-eq-ASKED
returns-then-outcome-eq-ASKED c = λ t was g. carried_asked _ was c.args.inner.now c.args.alm.now c.args.board.now t g c.requires.carried c.if-outcome-eq-ASKED.true

pub returns-then-outcome-eq-ENDED : goal.returns-then-outcome-eq-ENDED
returns-then-outcome-eq-ENDED c =
    λ t was g. carried_ends _ was c.args.inner.now c.args.alm.now c.args.board.now t g c.if-outcome-eq-ENDED.true c.alm_of.result c.solver_status_of-end.result c.on_solved-r.result _ c.keep_weighed.new.inner
    c.keep_weighed.new.alm c.on_solved-r.new.board c.alm_of.ensures c.solver_status_of-end.ensures c.on_solved-r.ensures (c.keep_weighed.ensures c.on_solved-r.new.board)

pub returns : goal.returns
returns c = λ t was g. carried_stops _ was c.args.inner.now c.args.alm.now c.args.board.now t g _ c.phase_number-alm.ensures c.if-outcome-eq-ASKED.false c.if-outcome-eq-ENDED.false

-- `penalty::d_psi_asked` meets its contract: what the call has put into the slices is printed. Assumes nothing.
use Rattle.std.proofs.Common.{◌∙◌, arith}
use Rattle.std.specs.Float.{binary64}
use Rattle.machine.specs.PsiRest.{d_psi_rest}
use Rattle.panoc_engine.specs.Told.{number_in}
use Rattle.alm_factory.specs.Values.{asked_of}
use Rattle.alm_factory.specs.Runs.{d_psi_of}
use Rattle.transcript.proofs.Printed.{penalty_said, d_psi_fits}
use Rattle.transcript.proofs.penalty.d_psi_asked.Goals as goal

pub returns : goal.returns
returns c =
    c.shown.ensures
    ∙ penalty_said c.name.result.now c.then.result.now _ _ c.places-p.ensures c.places-q.ensures c.min-n.result c.min-m.result _ _
    (omega (arith, c.min-n.ensures, c.first_places.ensures)) (omega (arith, c.min-m.ensures, c.second_places.ensures)) (d_psi_rest binary64 (d_psi_of c.args.run))
    (number_in c.d_psi_points-done.result) _ _ c.d_psi_points-done.ensures (asked_of c.args.question) (d_psi_fits c.args.run.d_psi c.args.run.board) c.name.ensures.word c.then.ensures.word

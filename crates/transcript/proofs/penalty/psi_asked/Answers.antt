-- `penalty::psi_asked` meets its contract: what the call has put into the slices is printed. Assumes nothing.
use Rattle.std.proofs.Common.{◌∙◌, refl, arith}
use Rattle.std.specs.Float.{binary64}
use Rattle.machine.specs.PsiRest.{psi_rest}
use Rattle.panoc_engine.specs.Told.{number_in}
use Rattle.alm_factory.specs.Values.{asked_of}
use Rattle.alm_factory.specs.Runs.{psi_of}
use Rattle.transcript.proofs.Printed.{penalty_said, psi_fits}
use Rattle.transcript.proofs.penalty.psi_asked.Goals as goal

pub returns : goal.returns
returns c =
    c.shown.ensures
    ∙ penalty_said c.name.result.now c.then.result.now _ _ c.places-p.ensures c.places-q.ensures c.min-n.result 0 _ 0
    (omega (arith, c.min-n.ensures, c.psi_places.ensures)) refl (psi_rest binary64 (psi_of c.args.run)) (number_in c.psi_points-done.result) _ _ c.psi_points-done.ensures
    (asked_of c.args.question) (psi_fits c.args.run.psi c.args.run.board) c.name.ensures.word c.then.ensures.word

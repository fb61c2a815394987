-- `inner::put_asked` meets its contract: what the call has put into the slices is printed. Assumes nothing.
use Rattle.std.proofs.Common.{◌∙◌, arith}
use Rattle.panoc_engine.specs.Values.{asked_of}
use Rattle.panoc_engine.specs.Runs.{run_of}
use Rattle.transcript.proofs.Printed.{inner_said, inner_fits}
use Rattle.transcript.proofs.inner.put_asked.Goals as goal

pub returns : goal.returns
returns c =
    c.shown.ensures
    ∙ inner_said c.name.result.now c.then.result.now _ _ c.places-p.ensures c.places-q.ensures c.min-n.result c.min-m.result _ _
    (omega (arith, c.min-n.ensures, c.first_places.ensures)) (omega (arith, c.min-m.ensures, c.second_places.ensures)) c.points-done.result _ _
    (run_of c.args.run.solve c.args.run.board) (asked_of c.args.question) (inner_fits c.args.run.solve c.args.run.board)
    c.name.ensures.word c.then.ensures.word c.points-done.ensures

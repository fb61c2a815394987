-- `outer::put_asked` meets its contract: what the call has put into the slices is printed. Assumes nothing.
use Rattle.std.proofs.Common.{◌∙◌, arith}
use Rattle.alm_engine.specs.Values.{loop_asked_of}
use Rattle.alm_engine.specs.LoopRuns.{loop_run}
use Rattle.transcript.proofs.Printed.{loop_said, loop_fits}
use Rattle.transcript.proofs.outer.put_asked.Goals as goal

pub returns : goal.returns
returns c =
    c.shown.ensures
    ∙ loop_said c.name.result.now c.then.result.now _ _ c.places-p.ensures c.places-q.ensures c.min-n.result c.second_places-m.result _ _
    (omega (arith, c.min-n.ensures, c.first_places.ensures)) c.second_places-m.ensures c.points-done.result _ _
    (loop_run c.args.run.now.alm c.args.run.now.board) (loop_asked_of c.args.question) (loop_fits c.args.run.now.alm c.args.run.now.board)
    c.name.ensures.word c.then.ensures.word c.points-done.ensures

-- After some turns of `feed` what is left of the list leads to where the whole does. Assumes nothing.
use Rattle.std.proofs.Common.{◌≡◌, drop}
use Rattle.std.specs.Float.{binary64}
use Rattle.machine.specs.Machines.{loop_machine}
use Rattle.values.specs.Feeding.{fed}
use Rattle.values.specs.Runs.{loop_stands}
use Rattle.values.proofs.multiplier_loop.feed.Given as goal

abbrev pub invariant-loop-k : goal.invariant-loop-k
invariant-loop-k l =
    fed (loop_machine binary64) (drop l.k-index l.fn.places) l.rest (loop_stands l.last l.plan l.xi) ≡ fed (loop_machine binary64) l.fn.places l.fn.xs (loop_stands l.fn.last l.fn.plan l.fn.xi)

-- After some turns of `feed` what is left of the list leads to where the whole does. Assumes nothing.
use Rattle.std.proofs.Common.{◌≡◌, drop}
use Rattle.std.specs.Float.{binary64}
use Rattle.machine.specs.Machines.{d_psi_machine}
use Rattle.values.specs.Feeding.{fed}
use Rattle.values.specs.Runs.{d_psi_stands}
use Rattle.values.proofs.d_psi.feed.Given as goal

abbrev pub invariant-loop-k : goal.invariant-loop-k
invariant-loop-k l =
    fed (d_psi_machine binary64) (drop l.k-index l.fn.places) l.rest (d_psi_stands l.last l.res) ≡ fed (d_psi_machine binary64) l.fn.places l.fn.xs (d_psi_stands l.fn.last l.fn.res)

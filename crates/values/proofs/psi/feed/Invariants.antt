-- After some turns of `feed` what is left of the list leads to where the whole does. Assumes nothing.
use Rattle.std.proofs.Common.{◌≡◌, drop}
use Rattle.std.specs.Float.{binary64}
use Rattle.machine.specs.Machines.{psi_machine}
use Rattle.values.specs.Feeding.{fed}
use Rattle.values.specs.Runs.{psi_stands}
use Rattle.values.proofs.psi.feed.Given as goal

abbrev pub invariant-loop-k : goal.invariant-loop-k
invariant-loop-k l =
    fed (psi_machine binary64) (drop l.k-index l.fn.places) l.rest (psi_stands l.last) ≡ fed (psi_machine binary64) l.fn.places l.fn.xs (psi_stands l.fn.last)

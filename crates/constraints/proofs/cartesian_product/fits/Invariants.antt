-- After the turns of `cartesian_product::fits` the sets that are left fit what is left exactly where all fit the whole. Assumes nothing.
use Rattle.std.proofs.Common.{◌≡◌}
use Rattle.std.specs.Prelude.{drop}
use Rattle.constraints.specs.Lent.{fits}
use Rattle.constraints.proofs.cartesian_product.fits.Given as goal

abbrev pub invariant-loop-set : goal.invariant-loop-set
invariant-loop-set l = fits (drop l.set-index l.sets) l.room l.left ≡ fits l.sets l.numbers l.places

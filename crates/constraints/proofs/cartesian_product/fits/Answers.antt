-- `cartesian_product::fits` meets its contract: each turn takes a set off. Assumes nothing.
use Rattle.std.proofs.Common.{◌∙◌, sym, arith}
use Rattle.constraints.proofs.Tables.{fits_short, fits_odd, fits_few, fits_turn, fits_over, both_fail, few_sets}
use Rattle.constraints.proofs.cartesian_product.fits.Goals as goal
use Rattle.constraints.proofs.cartesian_product.fits.Goals.{then-set-left-via-then-set-left, then-set-left-via-else-set-left+then-not-lengths_right}

pub returns-then-set-left : goal.returns-then-set-left
returns-then-set-left c =
    both_fail _ _
    (elim c.then-set-left.branch [
      | then-set-left-via-then-set-left w ↦ fits_short c.args.sets.now c.loop-set.set-index (omega arith) c.loop-set.room c.loop-set.left _ c.loop-set.invariant (omega arith)
      | then-set-left-via-else-set-left+then-not-lengths_right w ↦ fits_odd c.args.sets.now c.loop-set.set-index (omega arith) c.loop-set.room c.loop-set.left _ c.loop-set.invariant (sym w.lengths_right.ensures ∙ w.if-not-lengths_right.true)
    ])

pub returns-in_default : goal.returns-in_default
returns-in_default c = both_fail _ _ (fits_few c.args.sets.now c.loop-set.set-index (omega arith) c.loop-set.room c.loop-set.left _ c.loop-set.invariant (c.in_default.ensures))

pub loop-set-preserved : goal.loop-set-preserved
loop-set-preserved c = fits_turn c.args.sets.now c.loop-set.set-index (omega arith) c.loop-set.room c.loop-set.left _ _ c.loop-set.invariant (omega arith) (sym c.lengths_right.ensures ∙ c.if-not-lengths_right.false) c.in-Some.ensures

pub returns : goal.returns
returns c = few_sets _ _ _ (fits_over c.args.sets.now c.loop-set.set-index c.loop-set.room _ _ c.loop-set.invariant (omega arith)) (omega arith)

-- After the turns of `cartesian_product::is_right` the sets that are left fit, and say whether all are right. Assumes nothing.
use Rattle.std.proofs.Common.{◌≡◌, ℕ, length}
use Rattle.std.specs.Prelude.{drop, IsTrue}
use Rattle.constraints.specs.Table.{all_numbers_right}
use Rattle.constraints.specs.Lent.{fits, table_of}
use Rattle.constraints.proofs.cartesian_product.is_right.Given as goal

abbrev pub invariant-loop-set : goal.invariant-loop-set
invariant-loop-set l = ((places : ℕ) × IsTrue (fits (drop l.set-index l.sets) (length l.rest) places)) × (all_numbers_right (table_of (drop l.set-index l.sets) l.rest) ≡ all_numbers_right (table_of l.sets l.numbers))

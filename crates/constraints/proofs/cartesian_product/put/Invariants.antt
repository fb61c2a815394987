-- After the turns of `cartesian_product::put` the places before `at` are written, and the sets that are left fit what is left. Assumes nothing.
use Rattle.std.proofs.Common.{◌≡◌, ◌≤◌, ◌-◌, length}
use Rattle.std.specs.Prelude.{take, drop, ◌++◌, IsTrue}
use Rattle.std.specs.Float.{binary64}
use Rattle.constraints.specs.Table.{cartesian_product}
use Rattle.constraints.specs.Lent.{fits, table_of}
use Rattle.constraints.proofs.cartesian_product.put.Given as goal

abbrev pub invariant-loop-set : goal.invariant-loop-set
invariant-loop-set l =
    let all = cartesian_product binary64 (table_of l.sets l.numbers) l.initial.v in
    (l.at ≤ length l.initial.v)
    × IsTrue (fits (drop l.set-index l.sets) (length l.rest) (length l.initial.v - l.at))
    × (drop l.at all ≡ cartesian_product binary64 (table_of (drop l.set-index l.sets) l.rest) (drop l.at l.initial.v))
    × (l.v ≡ take l.at all ++ drop l.at l.initial.v)

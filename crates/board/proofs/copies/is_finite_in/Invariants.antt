-- After i turns of `is_finite_in` the flag says that the first i places are finite. Assumes nothing.
use Rattle.std.proofs.Common.{◌≡◌, take}
use Rattle.model.specs.Vectors.{all_finite}
use Rattle.board.proofs.copies.is_finite_in.Given as goal

abbrev pub invariant-loop-x : goal.invariant-loop-x
invariant-loop-x l = l.ok ≡ all_finite (take l.x-index l.v)

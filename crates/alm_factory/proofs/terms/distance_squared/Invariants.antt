-- After i turns of `distance_squared` the sum is that of the first i places. Assumes nothing.
use Rattle.std.proofs.Common.{◌≡◌, take}
use Rattle.std.specs.Float.{binary64}
use Rattle.ieee.specs.Sums.{squares}
use Rattle.model.specs.Vectors.{minus}
use Rattle.board.specs.Board.{vector}
use Rattle.alm_factory.proofs.terms.distance_squared.Given as goal

abbrev pub invariant-loop-i : goal.invariant-loop-i
invariant-loop-i l = l.s ≡ squares binary64 (minus binary64 (vector l.j l.i l.board) (take l.i l.v))

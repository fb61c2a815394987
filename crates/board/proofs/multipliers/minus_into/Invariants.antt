-- After i turns of `minus_into` the first i places are written. Assumes nothing.
use Rattle.std.proofs.Common.{◌≡◌, take}
use Rattle.std.specs.Float.{binary64}
use Rattle.model.specs.Vectors.{minus}
use Rattle.board.specs.Board.{vector, write}
use Rattle.board.proofs.multipliers.minus_into.Given as goal

abbrev pub invariant-loop-i : goal.invariant-loop-i
invariant-loop-i l = l.board ≡ write l.to (minus binary64 (vector l.from l.i l.fn.board) (take l.i l.v)) l.fn.board

-- After i turns of `add_times` the first i places are written. Assumes nothing.
use Rattle.std.proofs.Common.{◌≡◌, take}
use Rattle.std.specs.Float.{binary64}
use Rattle.model.specs.Vectors.{plus_times}
use Rattle.board.specs.Board.{vector, write}
use Rattle.board.proofs.multipliers.add_times.Given as goal

abbrev pub invariant-loop-i : goal.invariant-loop-i
invariant-loop-i l = l.board ≡ write l.to (plus_times binary64 l.c (vector l.to l.i l.fn.board) (take l.i l.v)) l.fn.board

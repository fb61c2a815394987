-- After i turns of `plus_over_into` the first i places are written. Assumes nothing.
use Rattle.std.proofs.Common.{◌≡◌}
use Rattle.std.specs.Float.{binary64}
use Rattle.model.specs.Vectors.{plus_over}
use Rattle.board.specs.Board.{vector, write}
use Rattle.board.proofs.multipliers.plus_over_into.Given as goal

abbrev pub invariant-loop-i : goal.invariant-loop-i
invariant-loop-i l = l.board ≡ write l.to (plus_over binary64 l.c (vector l.a l.i l.fn.board) (vector l.b l.i l.fn.board)) l.fn.board

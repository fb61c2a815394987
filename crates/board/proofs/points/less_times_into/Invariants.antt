-- After i turns of `less_times_into` the first i places are written. Assumes nothing.
use Rattle.std.proofs.Common.{◌≡◌}
use Rattle.std.specs.Float.{binary64}
use Rattle.model.specs.Vectors.{less_times}
use Rattle.board.specs.Board.{U, GRADIENT, STEP, vector, write}
use Rattle.board.proofs.points.less_times_into.Given as goal

abbrev pub invariant-loop-i : goal.invariant-loop-i
invariant-loop-i l = l.board ≡ write STEP (less_times binary64 l.gamma (vector U l.i l.fn.board) (vector GRADIENT l.i l.fn.board)) l.fn.board

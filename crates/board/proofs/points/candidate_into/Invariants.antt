-- After i turns of `candidate_into` the first i places are written. Assumes nothing.
use Rattle.std.proofs.Common.{◌≡◌}
use Rattle.std.specs.Float.{binary64}
use Rattle.model.specs.Vectors.{less_times}
use Rattle.board.specs.Board.{U, PLUS, FPR, DIRECTION, vector, write}
use Rattle.board.proofs.points.candidate_into.Given as goal

abbrev pub invariant-loop-i : goal.invariant-loop-i
invariant-loop-i l =
    l.board ≡ write PLUS (less_times binary64 l.tau (less_times binary64 l.rest (vector U l.i l.fn.board) (vector FPR l.i l.fn.board)) (vector DIRECTION l.i l.fn.board)) l.fn.board

-- After i turns of `adopt_into` the first i places are written. Assumes nothing.
use Rattle.std.proofs.Common.{◌≡◌}
use Rattle.std.specs.Float.{binary64}
use Rattle.model.specs.Vectors.{minus}
use Rattle.board.specs.Board.{U, PLUS, HALF, FPR, vector, write}
use Rattle.board.proofs.points.adopt_into.Given as goal

abbrev pub invariant-loop-i : goal.invariant-loop-i
invariant-loop-i l =
    l.board ≡ write FPR (minus binary64 (vector PLUS l.i l.fn.board) (vector HALF l.i l.fn.board)) (write U (vector PLUS l.i l.fn.board) l.fn.board)

-- After i turns of `line_into` the first i places are written, and both sums are those of them. Assumes nothing.
use Rattle.std.proofs.Common.{◌≡◌, take}
use Rattle.std.specs.Float.{binary64}
use Rattle.ieee.specs.Sums.{squares}
use Rattle.model.specs.Vectors.{minus, less_times}
use Rattle.board.specs.Board.{U, PLUS, GRADIENT, STEP, HALF, FPR, DIRECTION, vector, write}
use Rattle.board.proofs.sums.line_into.Given as goal

abbrev pub invariant-loop-i : goal.invariant-loop-i
invariant-loop-i l =
    (l.board ≡ write PLUS (less_times binary64 l.tau (less_times binary64 l.rest (vector U l.i l.fn.board) (vector FPR l.i l.fn.board)) (take l.i l.v)) (write DIRECTION (take l.i l.v) l.fn.board))
    × (l.s ≡ squares binary64 (vector GRADIENT l.i l.fn.board))
    × (l.t ≡ squares binary64 (minus binary64 (vector STEP l.i l.fn.board) (vector HALF l.i l.fn.board)))

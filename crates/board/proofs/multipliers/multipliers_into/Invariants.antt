-- After i turns of `multipliers_into` the first i places are written, and the sum is that of their changes. Assumes nothing.
use Rattle.std.proofs.Common.{◌≡◌, take}
use Rattle.std.specs.Float.{binary64}
use Rattle.ieee.specs.Sums.{squares}
use Rattle.model.specs.Vectors.{minus, plus_times}
use Rattle.board.specs.Board.{Y, Y_PLUS, F1, vector, write}
use Rattle.board.proofs.multipliers.multipliers_into.Given as goal

abbrev pub invariant-loop-i : goal.invariant-loop-i
invariant-loop-i l =
    (l.board ≡ write Y_PLUS (plus_times binary64 l.c (vector Y l.i l.fn.board) (minus binary64 (vector F1 l.i l.fn.board) (take l.i l.v))) l.fn.board)
    × (l.s ≡ squares binary64 (minus binary64 (plus_times binary64 l.c (vector Y l.i l.fn.board) (minus binary64 (vector F1 l.i l.fn.board) (take l.i l.v))) (vector Y l.i l.fn.board)))

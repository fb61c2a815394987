-- After i turns of `shift_into` the first i places are shifted, and the sum is that of their shifts. Assumes nothing.
use Rattle.std.proofs.Common.{◌≡◌}
use Rattle.std.specs.Float.{binary64}
use Rattle.ieee.specs.Sums.{squares}
use Rattle.model.specs.Vectors.{shifts, shifted}
use Rattle.board.specs.Board.{U, vector, write}
use Rattle.board.proofs.points.shift_into.Given as goal

abbrev pub invariant-loop-i : goal.invariant-loop-i
invariant-loop-i l =
    (l.board ≡ write U (shifted binary64 (vector U l.i l.fn.board)) l.fn.board) × (l.s ≡ squares binary64 (shifts binary64 (vector U l.i l.fn.board)))

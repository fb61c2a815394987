-- After i turns of `candidate_sums_into` the first i places are written, and the four sums are those of them. Assumes nothing.
use Rattle.std.proofs.Common.{◌≡◌, take}
use Rattle.std.specs.Float.{binary64}
use Rattle.ieee.specs.Sums.{squares}
use Rattle.model.specs.Vectors.{minus, dot}
use Rattle.board.specs.Board.{PLUS, GRADIENT, STEP, HALF, vector, write}
use Rattle.board.proofs.sums.candidate_sums_into.Given as goal

abbrev pub invariant-loop-i : goal.invariant-loop-i
invariant-loop-i l =
    (l.board ≡ write HALF (take l.i l.v) l.fn.board)
    × (l.p ≡ squares binary64 (vector GRADIENT l.i l.fn.board))
    × (l.q ≡ squares binary64 (minus binary64 (vector STEP l.i l.fn.board) (take l.i l.v)))
    × (l.s ≡ squares binary64 (minus binary64 (vector PLUS l.i l.fn.board) (take l.i l.v)))
    × (l.t ≡ dot binary64 (vector GRADIENT l.i l.fn.board) (minus binary64 (vector PLUS l.i l.fn.board) (take l.i l.v)))

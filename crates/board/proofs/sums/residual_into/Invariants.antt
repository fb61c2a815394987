-- After i turns of `residual_into` the first i places are written, and both sums are those of them. Assumes nothing.
use Rattle.std.proofs.Common.{◌≡◌}
use Rattle.std.specs.Float.{binary64}
use Rattle.ieee.specs.Sums.{squares}
use Rattle.model.specs.Vectors.{dot}
use Rattle.board.specs.Formulas.{residual}
use Rattle.board.specs.Board.{GRADIENT, FPR, vector, write}
use Rattle.board.proofs.sums.residual_into.Given as goal

abbrev pub invariant-loop-i : goal.invariant-loop-i
invariant-loop-i l =
    (l.board ≡ write FPR (residual binary64 l.i l.fn.board) l.fn.board)
    × (l.s ≡ squares binary64 (residual binary64 l.i l.fn.board))
    × (l.t ≡ dot binary64 (vector GRADIENT l.i l.fn.board) (residual binary64 l.i l.fn.board))

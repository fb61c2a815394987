-- After i turns of `copy_up` the first i places are copied. Assumes nothing.
use Rattle.std.proofs.Common.{◌≡◌}
use Rattle.board.specs.Board.{vector, write}
use Rattle.board.proofs.copies.copy_up.Given as goal

abbrev pub invariant-loop-i : goal.invariant-loop-i
invariant-loop-i l = l.board ≡ write l.to (vector l.from l.i l.fn.board) l.fn.board

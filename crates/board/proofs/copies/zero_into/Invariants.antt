-- After i turns of `zero_into` the first i places are zeros. Assumes nothing.
use Rattle.std.proofs.Common.{◌≡◌, replicate}
use Rattle.ieee.specs.Numbers.{null}
use Rattle.board.specs.Board.{write}
use Rattle.board.proofs.copies.zero_into.Given as goal

abbrev pub invariant-loop-i : goal.invariant-loop-i
invariant-loop-i l = l.board ≡ write l.to (replicate l.i null) l.fn.board

-- After i turns of `take_into` the first i places are taken. Assumes nothing.
use Rattle.std.proofs.Common.{◌≡◌, take}
use Rattle.board.specs.Board.{write}
use Rattle.board.proofs.copies.take_into.Given as goal

abbrev pub invariant-loop-i : goal.invariant-loop-i
invariant-loop-i l = l.board ≡ write l.to (take l.i l.v) l.fn.board

-- After i turns of `give` the first i places are handed out. Assumes nothing.
use Rattle.std.proofs.Common.{◌≡◌, length, take}
use Rattle.board.specs.Board.{vector}
use Rattle.board.proofs.copies.give.Given as goal

abbrev pub invariant-loop-i : goal.invariant-loop-i
invariant-loop-i l = (length l.out ≡ length l.fn.out) × (take l.i l.out ≡ vector l.from l.i l.board)

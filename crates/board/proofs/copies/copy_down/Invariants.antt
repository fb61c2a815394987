-- After k turns of `copy_down` the last k places are copied. Assumes nothing.
use Rattle.std.proofs.Common.{◌≡◌, ◌-◌}
use Rattle.board.proofs.Downward.{down}
use Rattle.board.proofs.copies.copy_down.Given as goal

abbrev pub invariant-loop-k : goal.invariant-loop-k
invariant-loop-k l = l.board ≡ down l.to l.from l.n (l.n - l.k) l.fn.board

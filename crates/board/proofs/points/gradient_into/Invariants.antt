-- After i turns of `gradient_into` the first i places are written, and the flag says that those of v are finite. Assumes nothing.
use Rattle.std.proofs.Common.{◌≡◌, take}
use Rattle.std.specs.Float.{binary64}
use Rattle.model.specs.Vectors.{all_finite, less_times}
use Rattle.board.specs.Board.{GRADIENT, STEP, vector, write}
use Rattle.board.proofs.points.gradient_into.Given as goal

abbrev pub invariant-loop-i : goal.invariant-loop-i
invariant-loop-i l =
    (l.board ≡ write STEP (less_times binary64 l.gamma (vector l.at l.i l.fn.board) (take l.i l.v)) (write GRADIENT (take l.i l.v) l.fn.board)) × (l.ok ≡ all_finite (take l.i l.v))

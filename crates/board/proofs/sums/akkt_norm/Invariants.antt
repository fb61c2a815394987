-- After i turns of `akkt_norm` the sum is that of the first i places. Assumes nothing.
use Rattle.std.proofs.Common.{◌≡◌}
use Rattle.std.specs.Float.{binary64}
use Rattle.ieee.specs.Sums.{squares}
use Rattle.board.specs.Formulas.{akkt_residual}
use Rattle.board.proofs.sums.akkt_norm.Given as goal

abbrev pub invariant-loop-i : goal.invariant-loop-i
invariant-loop-i l = l.s ≡ squares binary64 (akkt_residual binary64 l.gamma l.i l.board)

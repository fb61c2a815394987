-- `square_root::parts` meets its contract (`proofs/Scaling.antt`). Assumes nothing.
use Rattle.std.proofs.Common.{arith}
use Rattle.std.specs.Float.Ieee.{binary64}
use Rattle.numeric.proofs.Scaling.{zeros_lo, shifted, sized_odd, sized_even}
use Rattle.numeric.proofs.square_root.parts.Goals as goal
use Rattle.numeric.proofs.square_root.parts.Goals.{then-e-eq0, else-e-eq0}

pub overflow_sub-k : goal.overflow_sub-k
overflow_sub-k c = omega (arith, zeros_lo c.args.b c.requires.0 c.if-b-lt-HID.true)

pub returns-then-b-lt-HID : goal.returns-then-b-lt-HID
returns-then-b-lt-HID c =
    let h = shifted c.args.b c.requires.0 c.if-b-lt-HID.true in
    rw c.from.ensures (h.0, h.1, omega arith, h.2)

pub returns : goal.returns
returns c = elim c.if-e-eq0.branch [
  | then-e-eq0 w ↦ rw w.result-is (omega arith, omega arith, omega arith, sized_even binary64 c.args.b c.if-b-lt-HID.false w.if-e-eq0.true)
  | else-e-eq0 w ↦ rw w.result-is (omega arith, omega arith, omega arith, sized_odd binary64 c.args.b c.if-b-lt-HID.false w.if-e-eq0.false)
]

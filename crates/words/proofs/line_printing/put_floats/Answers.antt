-- `line_printing::put_floats` meets its contract: what stands and the floats to come make the text. Assumes nothing.
use Rattle.std.proofs.Common.{arith}
use Rattle.words.proofs.Written.{floats_turn, floats_end}
use Rattle.words.proofs.line_printing.put_floats.Goals as goal

pub loop-x-preserved : goal.loop-x-preserved
loop-x-preserved g c = (
  omega (arith, c.loop-x.invariant.0, c.push.ensures.len, c.put_float.ensures.len),
  floats_turn c.args.xs.now c.loop-x.x-index _ _ _ _ c.loop-x-test.true c.loop-x.invariant.1 c.push.ensures.items c.put_float.ensures.text,
)

pub returns-clause-text : goal.returns-clause-text
returns-clause-text g c = floats_end c.args.xs.now c.loop-x.x-index _ _ c.loop-x-test.false c.loop-x.invariant.1

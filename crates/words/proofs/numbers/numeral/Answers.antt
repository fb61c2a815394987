-- `numbers::numeral` meets its contract: what is left of the word, behind the digits read, reads as the whole word does. Assumes nothing.
use Rattle.std.proofs.Common.{◌≡◌, ◌+◌, ◌*◌, ◌^◌, sym, arith}
use Rattle.words.specs.Numerals.{under_next, under_stop}
use Rattle.words.proofs.numbers.numeral.Goals as goal

pub returns-then-d-base : goal.returns-then-d-base
returns-then-d-base c = sym (under_stop (2 ^ 64) _ c.loop-c.n _ c.loop-c.c-index (omega arith) c.loop-c.invariant.1 (omega arith) _ (sym c.in_ok-d.ensures) c.if-d-base.true)

pub loop-c-preserved : goal.loop-c-preserved
loop-c-preserved c =
    let e : c.loop-c.n * c.args.base + c.in_ok-d.d ≡ c.in_ok-n.n = omega (arith, c.in_ok-n.ensures, c.in_ok-checked_mul.ensures) in
    (omega (arith, c.in_ok-n.ensures), rw (← e) (under_next (2 ^ 64) _ c.loop-c.n _ c.loop-c.c-index (omega arith) c.loop-c.invariant.1 (omega arith) _ (sym c.in_ok-d.ensures) c.if-d-base.false))

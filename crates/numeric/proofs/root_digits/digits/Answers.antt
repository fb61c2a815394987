-- `root_digits::digits` meets its contract: a turn keeps `Taken`, with a digit and without (`proofs/Turns.antt`). Assumes nothing.
use Rattle.std.proofs.Common.{sym, subst₂, ℕ, ◌+◌, ◌*◌, ◌%◌, ◌^◌, ◌<◌, arith}
use Rattle.numeric.proofs.Turns.{Taken, bound, turn_with, turn_without}
use Rattle.numeric.proofs.root_digits.digits.Goals as goal
use Rattle.numeric.proofs.root_digits.digits.Goals.{then-t-rem, else-t-rem}

small : (c : goal.In-loop) → c.loop.q < 2 ^ 54
small c = bound c.loop.q c.loop.counter c.loop.invariant.0 (omega arith)

pub overflow_mul-rem : goal.overflow_mul-rem
overflow_mul-rem c = omega (arith, small c)

pub overflow_add-rem : goal.overflow_add-rem
overflow_add-rem c = omega (arith, small c)

pub overflow_mul-t : goal.overflow_mul-t
overflow_mul-t c = omega (arith, small c)

pub overflow_add-t : goal.overflow_add-t
overflow_add-t c = omega (arith, small c)

pub loop-preserved : goal.loop-preserved
loop-preserved c =
    let s = c.loop in
    let m = c.args.m in
    elim c.if-t-rem.branch [
      | then-t-rem w ↦ subst₂ (λ (q r : ℕ). Taken m q r (s.rest % 4503599627370496 * 4) (s.counter + 1)) (sym w.q-is) (sym w.rem-is) (turn_with m s.q s.rem s.rest s.counter s.invariant w.if-t-rem.true)
      | else-t-rem w ↦ subst₂ (λ (q r : ℕ). Taken m q r (s.rest % 4503599627370496 * 4) (s.counter + 1)) (sym w.q-is) (sym w.rem-is) (turn_without m s.q s.rem s.rest s.counter s.invariant w.if-t-rem.false)
    ]

-- `word_printing::places` meets its contract: a number has a digit more than without its last one. Assumes nothing.
use Rattle.std.proofs.Common.{arith, ◌<◌, ◌/◌, ◌^◌, lt_of_lt_of_le, lit≤}
use Rattle.words.proofs.Written.{places_more, places_most}
use Rattle.words.proofs.word_printing.+places.Goals as goal

pub overflow_add-result : goal.overflow_add-result
overflow_add-result t c =
    let less : c.args.n / 10 < 10 ^ 20 = omega (arith, lt_of_lt_of_le c.ranges.n.fits (lit≤ {m = 2 ^ 64} {n = 10 ^ 20} tt)) in
    omega (arith, c.places.ensures 19 less, places_most 19 (c.args.n / 10))

pub returns-else-n-lt10 : goal.returns-else-n-lt10
returns-else-n-lt10 t c = λ most h. places_more most _ _ (omega (arith, c.if-n-lt10.false)) h c.places.ensures

-- `word_printing::put_whole` meets its contract: a number below 2 ^ 64 has at most 20 digits. Assumes nothing.
use Rattle.std.proofs.Common.{rules, arith, ap, ◌∙◌, lt_of_lt_of_le, lit≤, lit<, ℕ, ◌≡◌, ◌++◌, length, length-append}
use Rattle.words.specs.Digits.{digits}
use Rattle.words.specs.Printing.{whole_word}
use Rattle.words.proofs.Written.{places_most, length_whole}
use Rattle.words.proofs.word_printing.put_whole.Goals as goal

pub put_digits-requires : goal.put_digits-requires
put_digits-requires g c = (search rules, ((lit< tt, lit≤ tt), omega (arith, c.requires, c.places.ensures 19 (lt_of_lt_of_le c.ranges.n.fits (lit≤ tt)), places_most 19 c.args.n)))

pub returns : goal.returns
unfolding whole_word
returns g c =
    let text : c.put_digits.new.out.items ≡ c.args.out.now.items ++ whole_word c.args.n = c.put_digits.ensures.text ∙ ap (λ (k : ℕ). c.args.out.now.items ++ digits 10 k c.args.n) (c.places.ensures 19 (lt_of_lt_of_le c.ranges.n.fits (lit≤ tt))) in
    record { text = text; most = omega (arith, ap length text, length-append c.args.out.now.items (whole_word c.args.n), length_whole c.args.n) }

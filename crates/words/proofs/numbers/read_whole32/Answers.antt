-- `numbers::read_whole32` meets its contract: a lower limit is one more test. Assumes nothing.
use Rattle.std.proofs.Common.{◌^◌, sym, ap, ◌∙◌}
use Rattle.std.proofs.Math.Dec.{lit<, lit≤}
use Rattle.words.specs.Reading.{under}
use Rattle.words.specs.Numerals.{whole_less, under_ok}
use Rattle.words.proofs.numbers.read_whole32.Goals as goal

pub returns-in_err-read_whole : goal.returns-in_err-read_whole
unfolding under
returns-in_err-read_whole c = c.from_residual.ensures ∙ ap (under (2 ^ 32)) c.in_err-read_whole.ensures ∙ sym (whole_less (2 ^ 32) (2 ^ 64) c.args.word.now (lit< tt) (lit≤ tt))

pub returns : goal.returns
returns c = c.ok.ensures.value ∙ under_ok (2 ^ 32) _ _ c.try_from.ensures ∙ ap (under (2 ^ 32)) c.in_ok-read_whole.ensures ∙ sym (whole_less (2 ^ 32) (2 ^ 64) c.args.word.now (lit< tt) (lit≤ tt))

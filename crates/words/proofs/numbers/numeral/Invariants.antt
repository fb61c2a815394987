-- `numbers::numeral` meets its contract: what is left of the word, behind the digits read, reads as the whole word does. Assumes nothing.
use Rattle.std.proofs.Common.{◌≡◌, ◌<◌, ◌^◌}
use Rattle.std.proofs.Math.ListN.{drop}
use Rattle.words.specs.Digits.{numeral}
use Rattle.words.specs.Reading.{under}
use Rattle.words.proofs.numbers.numeral.Given as goal

abbrev pub invariant-loop-c : goal.invariant-loop-c
invariant-loop-c l = (l.n < 2 ^ 64) × (under (2 ^ 64) (numeral l.base l.n (drop l.c-index l.word)) ≡ under (2 ^ 64) (numeral l.base 0 l.word))

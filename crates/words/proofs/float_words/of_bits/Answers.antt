-- `float_words::of_bits` meets its contract: a pattern above infinity's is nan's. Assumes nothing.
use Rattle.std.proofs.Common.{◌≡◌, refl, ◌∙◌}
use Rattle.std.specs.Float.{nan}
use Rattle.std.specs.Float.Ieee.{binary64, of_bits}
use Rattle.words.specs.Floats.{bits_nan}
use Rattle.ieee.proofs.Patterns.{no_nan_within}
use Rattle.words.proofs.float_words.of_bits.Goals as goal

no_number : of_bits binary64 0x7ff8_0000_0000_0000 ≡ nan
unfolding of_bits
no_number = refl

pub returns-then-b-gt-INFINITY : goal.returns-then-b-gt-INFINITY
returns-then-b-gt-INFINITY c = no_number ∙ bits_nan c.args.b c.if-b-gt-INFINITY.true

pub float_from_bits-result : goal.float_from_bits-result
float_from_bits-result c = no_nan_within binary64 _ c.if-b-gt-INFINITY.false

-- `float_printing::to_bits` meets its contract: a NaN's pattern is 7ff8000000000000. Assumes nothing.
use Rattle.std.specs.Prelude.{◌≡◌, refl, true, Float}
use Rattle.std.proofs.Common.{sym, ◌∙◌, true≢false}
use Rattle.std.specs.Float.{nan, inf, fin, binary64}
use Rattle.std.specs.Float.Ieee.{is_nan, to_bits}
use Rattle.words.proofs.float_printing.to_bits.Goals as goal

bits_of_nan : (x : Float) → is_nan x ≡ true → 9221120237041090560 ≡ to_bits binary64 x
unfolding is_nan to_bits
bits_of_nan nan e = refl
bits_of_nan (inf s) e = absurd (true≢false (sym e))
bits_of_nan (fin s m k) e = absurd (true≢false (sym e))

pub returns-then-is_nan : goal.returns-then-is_nan
returns-then-is_nan c = bits_of_nan _ (sym c.is_nan.ensures.value ∙ c.if-is_nan.true)

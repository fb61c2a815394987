-- The root of a number above zero is nearer to the real root than any other float of the format, and it is the only such float. Sizes are in units of the format's smallest value.
-- Of two sizes c < b, c is the nearer to the root of n exactly where that root lies below their middle, 4 * n < (c + b) * (c + b), and b where it lies above. Assumes nothing.
use Rattle.std.specs.Prelude.{ℕ, suc, ◌+◌, ◌*◌, ◌^◌, ◌<◌, false, T, Float}
use Rattle.std.specs.Float.{Format}
use Rattle.std.specs.Float.Ieee.{emax, low, fits}
use Rattle.std.specs.Float.Ieee.Exact.{HasValue}

pub record Closest (f : Format) (n : ℕ) (r : Float) : Type 0 where
  pub held : T (fits f r)
  pub size : ℕ
  pub value : HasValue r false size (2 ^ low f)
  pub above : (y : Float) (b : ℕ) → T (fits f y) → HasValue y false b (2 ^ low f) → size < b → 4 * n < (size + b) * (size + b)
  pub below : (y : Float) (b : ℕ) → T (fits f y) → HasValue y false b (2 ^ low f) → b < size → (size + b) * (size + b) < 4 * n

-- all that a format's values lie below, in units of the smallest
abbrev pub most : Format → ℕ
most f = 2 ^ (low f + suc (emax f))

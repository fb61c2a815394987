-- What `root` is, said by whole-number squares alone: the nearer of two neighbouring floats, and never a tie. Assumes nothing.
use Rattle.std.specs.Prelude.{◌≡◌, ◌⊎◌, false}
use Prim.Native.Nat.{ℕ, ◌+◌, ◌-◌, ◌*◌, ◌^◌, ◌≤◌, ◌<◌}
use lib.Ieee.{Float, Format, prec, units}

-- r is the float nearest to the root of n, a number of squares of the format's smallest value. q has all the digits that the format keeps, so the floats q * 2 ^ k and (q + 1) * 2 ^ k
-- are neighbours. The root of n lies from the first on and below the second, and the square of what lies midway, taken four times, tells which is nearer. It is never n * 4.
pub record Nearest (f : Format) (n : ℕ) (r : Float) : Type 0 where
  pub q : ℕ
  pub k : ℕ
  pub all : (2 ^ (prec f - 1) ≤ q) × (q < 2 ^ prec f)
  pub from : q * 2 ^ k * (q * 2 ^ k) ≤ n
  pub to : n < (q + 1) * 2 ^ k * ((q + 1) * 2 ^ k)
  pub pick : ((4 * n < (2 * q + 1) * 2 ^ k * ((2 * q + 1) * 2 ^ k)) × (r ≡ units f false q k)) ⊎ (((2 * q + 1) * 2 ^ k * ((2 * q + 1) * 2 ^ k) < 4 * n) × (r ≡ units f false (q + 1) k))

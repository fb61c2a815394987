-- What `wholeRoot` finds, and what `rootOf` is by whole-number squares alone. Assumes nothing.
use Rattle.std.specs.Prelude.{false, Float}
use Prim.Native.Nat.{ℕ, ◌+◌, ◌*◌, ◌^◌, ◌≤◌, ◌<◌, compare}
use Rattle.std.specs.Float.{Format}
use Rattle.std.specs.Float.Ieee.{nearest, units}

-- r is the whole part of n's root
abbrev pub IsRoot : ℕ → ℕ → Type 0
IsRoot n r = (r * r ≤ n) × (n < (r + 1) * (r + 1))

-- q is the whole number nearest to n's root: the root lies between q - 1/2 and q + 1/2
abbrev pub IsNear : ℕ → ℕ → Type 0
IsNear n q = (q * q < n + q) × (n ≤ q * q + q)

-- ---- `rootOf` by squares

-- of the neighbours q * 2 ^ k and (q + 1) * 2 ^ k the one that is nearer to n's root
abbrev pub nearer : Format → ℕ → ℕ → ℕ → Float
nearer f n q k = units f false (nearest q (compare (4 * n) ((2 * q + 1) * 2 ^ k * ((2 * q + 1) * 2 ^ k)))) k

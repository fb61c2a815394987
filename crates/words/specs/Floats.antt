-- NaN by its patterns. Assumes nothing.
use Rattle.std.specs.Prelude.{◌≡◌, refl, Bool, true, false, not, ℕ, ◌*◌, ◌%◌, ◌<◌, Float}
use Rattle.std.proofs.Common.{sym, ap, ◌∙◌, true≢false, lt→ltb, eq-eqb}
use Rattle.std.specs.Float.{nan, inf, fin, binary64}
use Rattle.std.specs.Float.Ieee.{div, up, down, level, eq, ne, is_nan, of_bits, to_bits, ones, hid, top}
use Rattle.std.specs.Float.Ieee.Bits.{is_true, nan_bits_is, nan_bits_above}

-- only nan differs from itself
level_self : (s : Bool) (a : ℕ) → level s a s a ≡ true
level_self true a = rw (eq-eqb a a refl)
level_self false a = rw (eq-eqb a a refl)

self_equal : (x : Float) → ne x x ≡ true → is_nan x ≡ true
unfolding ne eq is_nan
self_equal nan e = refl
self_equal (inf true) e = e
self_equal (inf false) e = e
self_equal (fin s m k) e = ap not (sym (level_self s (m * up k * down k))) ∙ e

only_nan : (x : Float) → is_nan x ≡ true → x ≡ nan
unfolding is_nan
only_nan nan e = refl
only_nan (inf s) e = absurd (true≢false (sym e))
only_nan (fin s m k) e = absurd (true≢false (sym e))

-- its pattern is 7ff8000000000000
pub nan_bits_lem : (x : Float) → ne x x ≡ true → 9221120237041090560 ≡ to_bits binary64 x
unfolding to_bits
nan_bits_lem x e = sym (ap (to_bits binary64) (only_nan x (self_equal x e)))

-- a pattern above infinity's, the sign aside, is nan's
pub bits_nan : (b : ℕ) → 9218868437227405312 < b % 9223372036854775808 → nan ≡ of_bits binary64 b
bits_nan b h = sym (only_nan (of_bits binary64 b) (sym (nan_bits_is binary64 b) ∙ nan_bits_above binary64 b ∙ is_true _ (lt→ltb (ones binary64 * hid binary64) (b % top binary64) h)))

-- 0 / 0
pub zero_over_zero : div binary64 (of_bits binary64 0) (of_bits binary64 0) ≡ nan
unfolding div of_bits
zero_over_zero = refl

-- What a finite result says of its operands, and the test that tells a finite number: it minus itself equals 0. Assumes nothing.
use Rattle.std.specs.Prelude.{ℕ, ◌*◌, ◌<◌, ◌≡◌, refl, Bool, true, false, not, cond, T, eqb, Float}
use Rattle.std.proofs.Common.{sym, ◌∙◌, arith, zero-mul, mul-pos, le-ltb}
use Rattle.std.specs.Bool.{beq}
use Rattle.std.proofs.Math.Nat.{sub_self}
use Rattle.std.specs.Float.{nan, inf, fin, Format, binary32, binary64}
use Rattle.std.specs.Float.Ieee.{add, sub, mul, neg, sum, round, eq, unlike, up, down}
use Rattle.std.specs.Float.Ieee.Fits.{down_pos}
use Rattle.std.specs.Float.Ieee.Scale.{finite, round_same}
use Rattle.ieee.specs.Numbers.{null, absolute}
use Rattle.ieee.specs.Root.{root}

-- ---- finite operands
pub add_finite : (f : Format) (x y : Float) → T (finite (add f x y)) → T (finite x) × T (finite y)
unfolding add
add_finite f nan y h = absurd h
add_finite f (inf s) nan h = absurd h
add_finite f (inf s) (inf t) h = absurd (by (beq s t) h)
  where
    by : (b : Bool) → T (finite (cond b (inf s) nan)) → ⊥
    by true w = w
    by false w = w
add_finite f (inf s) (fin t n d) h = absurd h
add_finite f (fin s m e) nan h = absurd h
add_finite f (fin s m e) (inf t) h = absurd h
add_finite f (fin s m e) (fin t n d) h = (tt, tt)

pub neg_finite : (x : Float) → T (finite (neg x)) → T (finite x)
unfolding neg
neg_finite nan h = h
neg_finite (inf s) h = h
neg_finite (fin s m e) h = tt

pub sub_finite : (f : Format) (x y : Float) → T (finite (sub f x y)) → T (finite x) × T (finite y)
unfolding sub
sub_finite f x y h = let w = add_finite f x (neg y) h in (w.0, neg_finite y w.1)

pub mul_finite : (f : Format) (x y : Float) → T (finite (mul f x y)) → T (finite x) × T (finite y)
unfolding mul
mul_finite f nan y h = absurd h
mul_finite f (inf s) nan h = absurd h
mul_finite f (inf s) (inf t) h = absurd h
mul_finite f (inf s) (fin t n d) h = absurd (by (eqb n 0) h)
  where
    by : (b : Bool) → T (finite (cond b nan (inf (unlike s t)))) → ⊥
    by true w = w
    by false w = w
mul_finite f (fin s m e) nan h = absurd h
mul_finite f (fin s m e) (inf t) h = absurd (by (eqb m 0) h)
  where
    by : (b : Bool) → T (finite (cond b nan (inf (unlike s t)))) → ⊥
    by true w = w
    by false w = w
mul_finite f (fin s m e) (fin t n d) h = (tt, tt)

pub root_finite : (f : Format) (x : Float) → T (finite (root f x)) → T (finite x)
unfolding root
root_finite f nan h = h
root_finite f (inf true) h = h
root_finite f (inf false) h = h
root_finite f (fin s m e) h = tt

pub absolute_finite : (x : Float) → finite (absolute x) ≡ finite x
unfolding absolute
absolute_finite nan = refl
absolute_finite (inf s) = refl
absolute_finite (fin s m e) = refl

-- ---- x - x equals 0 exactly at a finite x
zero_round : (f : Format) → round f false 0 1 ≡ null
unfolding round
zero_round binary32 = refl
zero_round binary64 = refl

round_zero : (f : Format) (c : ℕ) → 0 < c → round f false 0 c ≡ null
round_zero f c h = round_same f false 0 c 0 1 h (omega arith) (zero-mul 1 ∙ sym (zero-mul c)) ∙ zero_round f

-- a / c less itself
less_itself : (f : Format) (s : Bool) (a c : ℕ) → 0 < c → sum f s a (not s) a c ≡ null
unfolding sum
less_itself f true a c h = rw (le-ltb a a (omega arith), sub_self a) (round_zero f c h)
less_itself f false a c h = rw (le-ltb a a (omega arith), sub_self a) (round_zero f c h)

pub itself : (f : Format) (x : Float) → eq (sub f x x) null ≡ finite x
unfolding eq sub add neg
itself f nan = refl
itself f (inf true) = refl
itself f (inf false) = refl
itself f (fin s m e) = rw (less_itself f s (m * up e * down e) (down e * down e) (mul-pos (down_pos e) (down_pos e)))

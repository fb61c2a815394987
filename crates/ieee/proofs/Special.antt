-- The square root at the special values: NaN, the zeros, what is negative, and infinity, told by a test or by the bit pattern. Assumes nothing.
use Rattle.std.specs.Prelude.{◌≡◌, refl, ℕ, zero, suc, ◌+◌, ◌*◌, ◌/◌, ◌%◌, ◌^◌, ◌<◌, Bool, true, false, not, cond, ℤ, pos, T, leb, eqb}
use Rattle.std.proofs.Common.{sym, ap, ◌∙◌, subst, inl, inr, arith, true≢false, eqb→eq}
use native.Mathlib.Nat.{zero-lt-suc, zero-mul, mul-pos}
use lib.Ieee.{Float, nan, inf, fin, Format, binary32, binary64, prec, low, up, down, odd, eq, ne, fits, is_nan, hid, ones, top, of_fields, of_bits, to_bits}
use Rattle.std.specs.Float.Ieee.Fits.{up_pos, and_l}
use Rattle.std.specs.Float.Ieee.Bits.{of_bits-to_bits}
use Rattle.ieee.specs.Numbers.{null}
use Rattle.ieee.specs.Root.{root, root_of}
use Rattle.ieee.proofs.Patterns.{of_bits_is, plain}
use Rattle.ieee.specs.Special.{Neg}

-- ---- NaN and the zeros
pub nan_root : (f : Format) (x : Float) → x ≡ nan → x ≡ root f x
unfolding root
nan_root f x e = e ∙ sym (ap (root f) e)

pub no_nan : (x : Float) → ne x x ≡ false → T (not (is_nan x))
unfolding ne is_nan
no_nan nan e = absurd (true≢false e)
no_nan (inf s) e = tt
no_nan (fin s m e) h = tt

pub nothing : (m : ℕ) (u d : ℕ) → 0 < u → suc m * u * 1 ≡ 0 * 1 * d → ⊥
nothing m u d h e =
    let p : 0 < suc m * u = mul-pos (zero-lt-suc m) h in
    let z : 0 * 1 * d ≡ 0 = zero-mul d in
    omega arith

pub zero_root : (f : Format) (x : Float) → eq x null ≡ true → x ≡ root f x
unfolding eq root
zero_root f nan h = absurd (true≢false (sym h))
zero_root f (inf s) h = absurd (true≢false (sym h))
zero_root f (fin s zero e) h = refl
zero_root f (fin s (suc m) e) h =
    absurd (nothing m (up e) (down e) (up_pos e) (eqb→eq (suc m * up e * 1) (0 * 1 * down e) (and_l (eqb (suc m * up e * 1) (0 * 1 * down e)) _ (subst T (sym h) tt))))

pub eq_zero : (s : Bool) (e : ℤ) → eq (fin s zero e) null ≡ true
unfolding eq
eq_zero s e = at (0 * up e * 1) (0 * 1 * down e) (ap (λ (x : ℕ). x * 1) (zero-mul (up e))) (zero-mul (down e)) s
  where
    at : (a b : ℕ) → a ≡ 0 → b ≡ 0 → (s : Bool) → lib.Ieee.level s a false b ≡ true
    at a b p q true = ap (λ (x : ℕ). lib.Ieee.level true x false b) p ∙ ap (λ (x : ℕ). lib.Ieee.level true 0 false x) q
    at a b p q false = ap (λ (x : ℕ). lib.Ieee.level false x false b) p ∙ ap (λ (x : ℕ). lib.Ieee.level false 0 false x) q

pub zero_bits : (f : Format) → of_bits f 0 ≡ null
unfolding of_bits
zero_bits binary32 = refl
zero_bits binary64 = refl

pub bits_pos : (f : Format) (x : Float) → T (fits f x) → eq x null ≡ false → 0 < to_bits f x
bits_pos f x h z = elim (native.Mathlib.Nat.eq-zero-or-pos (to_bits f x)) [
  | inl e ↦ absurd (true≢false (sym (eq_zero false (pos 0)) ∙ ap (λ (y : Float). eq y null) (sym (sym (of_bits-to_bits f x h) ∙ ap (of_bits f) e ∙ zero_bits f)) ∙ z))
  | inr p ↦ p
]

neg_root : (f : Format) (x : Float) → Neg x → eq x null ≡ false → root f x ≡ nan
unfolding root
neg_root f nan n h = refl
neg_root f (inf s) n h = ap (λ (b : Bool). cond b nan (inf false)) n
neg_root f (fin s zero e) n h = absurd (true≢false (sym (eq_zero s e) ∙ h))
neg_root f (fin s (suc m) e) n h = ap (λ (b : Bool). cond b nan (root_of f (suc m * up e * 2 ^ low f * 2 ^ low f / down e))) n

odd_neg : (d q k l : ℕ) → Neg (odd d true q k l)
unfolding odd
odd_neg d zero k l = refl
odd_neg d (suc q) k l = refl

pick_neg : (a b : Bool) (v : Float) → Neg v → Neg (cond a (cond b (inf true) nan) v)
pick_neg true true v n = refl
pick_neg true false v n = tt
pick_neg false b v n = n

fields_neg : (f : Format) (x t : ℕ) → Neg (of_fields f true x t)
unfolding of_fields
fields_neg f zero t = odd_neg (prec f) t 0 (low f)
fields_neg f (suc x) t = pick_neg (eqb (suc x) (ones f)) (eqb t 0) (odd (prec f) true (hid f + t) x (low f)) (odd_neg (prec f) (hid f + t) x (low f))

bits_neg : (f : Format) (b : ℕ) → leb (top f) b ≡ true → Neg (of_bits f b)
bits_neg f b s = subst Neg (sym (of_bits_is f b ∙ ap (λ (t : Bool). of_fields f t (b % top f / hid f) (b % hid f)) s)) (fields_neg f (b % top f / hid f) (b % hid f))

-- a pattern with the sign's bit, of a value that is not zero
pub minus_root : (f : Format) (x : Float) → T (fits f x) → leb (top f) (to_bits f x) ≡ true → eq x null ≡ false → root f x ≡ nan
minus_root f x h s z = neg_root f x (subst Neg (of_bits-to_bits f x h) (bits_neg f (to_bits f x) s)) z

-- ---- the exponent's field has all its bits set
top_at : (f : Format) (t : ℕ) → of_fields f false (ones f) t ≡ cond (eqb t 0) (inf false) nan
unfolding of_fields
top_at binary32 t = refl
top_at binary64 t = refl

top_root : (f : Format) (b : Bool) → cond b (inf false) nan ≡ root f (cond b (inf false) nan)
unfolding root
top_root f true = refl
top_root f false = refl

pub last_root : (f : Format) (x : Float) → T (fits f x) → to_bits f x < top f → to_bits f x / hid f ≡ ones f → x ≡ root f x
last_root f x h s e =
    let is : x ≡ cond (eqb (to_bits f x % hid f) 0) (inf false) nan =
    sym (of_bits-to_bits f x h) ∙ plain f (to_bits f x) s ∙ ap (λ (y : ℕ). of_fields f false y (to_bits f x % hid f)) e ∙ top_at f (to_bits f x % hid f) in
    is ∙ top_root f (eqb (to_bits f x % hid f) 0) ∙ ap (root f) (sym is)

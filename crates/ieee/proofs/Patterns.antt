-- A float by its bit pattern, in either format: the size of a number above zero in units of the format's smallest value, and the pattern of so many units. Assumes nothing.
use Rattle.std.specs.Prelude.{◌≡◌, refl, ◌⊎◌, ℕ, suc, ◌+◌, ◌-◌, ◌*◌, ◌/◌, ◌%◌, ◌^◌, ◌≤◌, ◌<◌, Bool, true, false, not, cond, Float}
use Rattle.std.proofs.Common.{sym, ap, ◌∙◌, subst, inl, inr, arith, true≢false, pow_pos}
use native.Mathlib.Nat.{le_refl, le_trans, le_of_eq, le_of_lt, lt_irrefl, lt_of_lt_of_le, lt_of_le_of_lt, zero-lt-suc, zero-add, one-mul, mul-one, mul_comm, mul-pos, mul-lt-mul_of_pos_right, mul-div_cancel, le-mul_of_pos_right, div-eq_of_lt, mod-eq_of_lt, div-lt_iff_lt-mul, le-div_iff_mul-le}
use lib.Dec.{T, leb, ltb, eqb, lt→ltb, ltb→lt, eqb→eq, not_T}
use lib.Arith.{lt→nleb, le→nltb}
use Rattle.std.proofs.Math.Pow.{pow-lt}
use Rattle.std.specs.Float.{nan, inf, fin, Format, binary32, binary64}
use Rattle.std.specs.Float.Ieee.{prec, emax, low, down, size, odd, units, fits, hid, ones, top, of_fields, of_bits, to_bits, nan_bits}
use Rattle.std.specs.Float.Ieee.Fits.{two, down_pos, odd-fits}
use Rattle.std.specs.Float.Ieee.Exact.{HasValue, odd_sign, units_val}
use Rattle.std.specs.Float.Ieee.Bits.{is_true, is_false, cond_no, of_bits-to_bits, nan_bits_above}
use Rattle.ieee.specs.Root.{root, root_of}
use Rattle.ieee.proofs.Squares.{size_kept, root_value}
use Rattle.ieee.specs.Patterns.{mag}

-- ---- patterns without the sign's bit
pub of_bits_is : (f : Format) (b : ℕ) → of_bits f b ≡ of_fields f (leb (top f) b) (b % top f / hid f) (b % hid f)
unfolding of_bits
of_bits_is f b = refl

pub plain : (f : Format) (b : ℕ) → b < top f → of_bits f b ≡ of_fields f false (b / hid f) (b % hid f)
plain f b h =
    of_bits_is f b
    ∙ ap (λ (t : Bool). of_fields f t (b % top f / hid f) (b % hid f)) (is_false (leb (top f) b) (lt→nleb (top f) b h))
    ∙ ap (λ (x : ℕ). of_fields f false (x / hid f) (b % hid f)) (mod-eq_of_lt h)

hid_pos : (f : Format) → 0 < hid f
hid_pos f = pow_pos (prec f - 1)

-- a number above zero below the smallest normal one, and a normal one: their sizes in units of the smallest value
pub small_value : (f : Format) (b : ℕ) → b < hid f → HasValue (of_bits f b) false b (2 ^ low f)
unfolding of_fields
small_value f b h =
    let e : of_bits f b ≡ odd (prec f) false b 0 (low f) =
    plain f b (lt_of_lt_of_le h (le-mul_of_pos_right (hid f) (zero-lt-suc (ones f))))
    ∙ ap (λ (x : ℕ). of_fields f false x (b % hid f)) (div-eq_of_lt h)
    ∙ ap (λ (x : ℕ). odd (prec f) false x 0 (low f)) (mod-eq_of_lt h) in
    subst (λ (x : Float). HasValue x false b (2 ^ low f)) (sym e) (subst (λ (a : ℕ). HasValue (odd (prec f) false b 0 (low f)) false a (2 ^ low f)) (mul-one b) (odd_sign (prec f) false b 0 (low f)))

under_ones : (f : Format) (t x : ℕ) → suc x < ones f → of_fields f false (suc x) t ≡ odd (prec f) false (hid f + t) x (low f)
unfolding of_fields
under_ones f t x h =
    cond_no (eqb (suc x) (ones f)) (cond (eqb t 0) (inf false) nan) (odd (prec f) false (hid f + t) x (low f))
    (not_T (eqb (suc x) (ones f)) (λ (u : T (eqb (suc x) (ones f))). let e : suc x ≡ ones f = eqb→eq (suc x) (ones f) u in lt_irrefl (ones f) (subst (λ (z : ℕ). z < ones f) e h)))

pub normal_value : (f : Format) (b : ℕ) → hid f ≤ b → b < ones f * hid f → HasValue (of_bits f b) false ((hid f + b % hid f) * 2 ^ (b / hid f - 1)) (2 ^ low f)
normal_value f b l h =
    let x = b / hid f - 1 in
    let hi : b / hid f < ones f = (div-lt_iff_lt-mul (hid_pos f)).1 h in
    let lo : 1 ≤ b / hid f = (le-div_iff_mul-le (hid_pos f)).1 (le_trans (le_of_eq (one-mul (hid f))) l) in
    let s : b / hid f ≡ suc x = omega arith in
    let e : of_bits f b ≡ odd (prec f) false (hid f + b % hid f) x (low f) =
    plain f b (lt_of_lt_of_le h (le_trans (mul_le (hid f) (ones f)) (le_of_eq (mul_comm (suc (ones f)) (hid f)))))
    ∙ ap (λ (y : ℕ). of_fields f false y (b % hid f)) s
    ∙ under_ones f (b % hid f) x (subst (λ (y : ℕ). y < ones f) s hi) in
    subst (λ (y : Float). HasValue y false ((hid f + b % hid f) * 2 ^ x) (2 ^ low f)) (sym e) (odd_sign (prec f) false (hid f + b % hid f) x (low f))
  where
    mul_le : (h o : ℕ) → o * h ≤ suc o * h
    mul_le h o = native.Mathlib.Nat.mul-le-mul_right h (native.Mathlib.Nat.le-suc o)

-- ---- the pattern of q * 2 ^ k units
to_bits_value : (f : Format) (x : Float) (a : ℕ) → HasValue x false a (2 ^ low f) → to_bits f x ≡ (size a - prec f) * hid f + a / 2 ^ (size a - prec f)
unfolding to_bits
to_bits_value f nan a h = absurd h
to_bits_value f (inf s) a h = absurd h
to_bits_value f (fin true m e) a h = absurd (true≢false h.0)
to_bits_value f (fin false m e) a h =
    ap (λ (n : ℕ). 0 + (size n - prec f) * hid f + n / 2 ^ (size n - prec f)) (ap (λ (z : ℕ). z / down e) h.1 ∙ mul-div_cancel a (down_pos e))
    ∙ ap (λ (z : ℕ). z + a / 2 ^ (size a - prec f)) (zero-add ((size a - prec f) * hid f))

-- two floats of the format with one value are one
pub same_value : (f : Format) (x y : Float) (a : ℕ) → T (fits f x) → T (fits f y) → HasValue x false a (2 ^ low f) → HasValue y false a (2 ^ low f) → x ≡ y
same_value f x y a X Y p q = sym (of_bits-to_bits f x X) ∙ ap (of_bits f) (to_bits_value f x a p ∙ sym (to_bits_value f y a q)) ∙ of_bits-to_bits f y Y

pub units_fits : (f : Format) (q k : ℕ) → q ≤ 2 ^ prec f → q * 2 ^ k < 2 ^ (low f + suc (emax f)) → T (fits f (units f false q k))
unfolding units
units_fits f q k a c = go (ltb (q * 2 ^ k) (2 ^ (low f + suc (emax f)))) (lt→ltb (q * 2 ^ k) (2 ^ (low f + suc (emax f))) c)
  where
    go : (b : Bool) → T b → T (fits f (cond b (odd (suc (prec f)) false q k (low f)) (inf false)))
    go true t = odd-fits f (suc (prec f)) false q k (lt_of_le_of_lt a (pow-lt (le_refl (suc (prec f))))) a c
    go false t = absurd t

pub of_bits_units : (f : Format) (q k : ℕ) → 2 ^ (prec f - 1) ≤ q → q < 2 ^ prec f → q * 2 ^ k < 2 ^ (low f + suc (emax f)) → of_bits f (k * hid f + q) ≡ units f false q k
of_bits_units f q k a b c =
    let u = units f false q k in
    let more : q < q + 1 = omega arith in
    let is : to_bits f u ≡ k * hid f + q =
    to_bits_value f u (q * 2 ^ k) (units_val f false q k c)
    ∙ ap (λ (z : ℕ). z * hid f + q * 2 ^ k / 2 ^ z) (size_kept (prec f) q k (q * 2 ^ k) (two f) a b (le_refl (q * 2 ^ k)) (mul-lt-mul_of_pos_right more (pow_pos k)))
    ∙ ap (λ (z : ℕ). k * hid f + z) (mul-div_cancel q (pow_pos k)) in
    ap (of_bits f) (sym is) ∙ of_bits-to_bits f u (units_fits f q k (le_of_lt b) c)

pub mag_small : (f : Format) (b : ℕ) → b < hid f → mag f b ≡ b
unfolding mag
mag_small f b h = ap (λ (t : Bool). cond t b ((hid f + b % hid f) * 2 ^ (b / hid f - 1))) (is_true (ltb b (hid f)) (lt→ltb b (hid f) h))

pub mag_normal : (f : Format) (b : ℕ) → hid f ≤ b → mag f b ≡ (hid f + b % hid f) * 2 ^ (b / hid f - 1)
unfolding mag
mag_normal f b h = cond_no (ltb b (hid f)) b ((hid f + b % hid f) * 2 ^ (b / hid f - 1)) (lib.Arith.le→nltb b (hid f) h)

small_or_normal : (f : Format) (b : ℕ) → (b < hid f) ⊎ (hid f ≤ b)
small_or_normal f b = go (ltb b (hid f)) (ltb→lt b (hid f)) (lib.Dec.nltb→le b (hid f))
  where
    go : (t : Bool) → (T t → b < hid f) → (T (not t) → hid f ≤ b) → (b < hid f) ⊎ (hid f ≤ b)
    go true y x = inl (y tt)
    go false y x = inr (x tt)

pub mag_pos : (f : Format) (b : ℕ) → 0 < b → 0 < mag f b
mag_pos f b h = elim (small_or_normal f b) [
  | inl s ↦ subst (λ (a : ℕ). 0 < a) (sym (mag_small f b s)) h
  | inr l ↦ subst (λ (a : ℕ). 0 < a) (sym (mag_normal f b l)) (mul-pos (lt_of_lt_of_le (hid_pos f) (native.Mathlib.Nat.le-add_right (hid f) (b % hid f))) (pow_pos (b / hid f - 1)))
]

pub mag_value : (f : Format) (b : ℕ) → b < ones f * hid f → HasValue (of_bits f b) false (mag f b) (2 ^ low f)
mag_value f b h = elim (small_or_normal f b) [
  | inl s ↦ subst (λ (a : ℕ). HasValue (of_bits f b) false a (2 ^ low f)) (sym (mag_small f b s)) (small_value f b s)
  | inr l ↦ subst (λ (a : ℕ). HasValue (of_bits f b) false a (2 ^ low f)) (sym (mag_normal f b l)) (normal_value f b l h)
]

pub root_bits : (f : Format) (b : ℕ) → 0 < b → b < ones f * hid f → root f (of_bits f b) ≡ root_of f (mag f b * 2 ^ low f)
root_bits f b p h = root_value f (of_bits f b) (mag f b) (mag_value f b h) (mag_pos f b p)

-- ---- patterns up to infinity's are no NaN's, the sign aside
pub no_nan_within : (f : Format) (n : ℕ) → n % top f ≤ ones f * hid f → T (not (nan_bits f n))
no_nan_within f n h = subst (λ (t : Bool). T (not t)) (sym (nan_bits_above f n)) (le→nltb (ones f * hid f) (n % top f) h)

under : (f : Format) (n : ℕ) → n ≤ ones f * hid f → n % top f ≤ ones f * hid f
under binary32 n h = omega arith
under binary64 n h = omega arith

pub no_nan_below : (f : Format) (n : ℕ) → n ≤ ones f * hid f → T (not (nan_bits f n))
no_nan_below f n h = no_nan_within f n (under f n h)

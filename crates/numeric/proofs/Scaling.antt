-- The numbers that `parts` and `root_bits` make of a pattern, over the format: a bound between numerals is shown at each of the two. Assumes nothing.
use mathlib.Core.Path.{◌≡◌, refl, sym, ap, ◌∙◌, subst}
use mathlib.Core.Bool.{not}
use mathlib.Core.Logic.{inl, inr}
use Prim.Native.Nat.{ℕ, zero, suc, ◌+◌, ◌-◌, ◌*◌, ◌/◌, ◌%◌, ◌^◌, ◌≤◌, ◌<◌}
use native.Mathlib.Nat.{le_trans, le_of_eq, lt_irrefl, lt_of_le_of_lt, lt_of_lt_of_le, mul_assoc, mul-one, mul_right_comm, mul-le-mul_right, mul-lt-mul_of_pos_right, pow-succ', zero-lt-suc}
use native.Mathlib.Omega.{arith}
use lib.Dec.{T}
use lib.Pow.{pow-add, pow_pos, pow_mono, shl_lt}
use Rattle.std.proofs.lemmas.Bool.{cases_lt}
use lib.Count.{count_leading_zeros, leading_top}
use lib.Ieee.{Format, binary32, binary64, prec, emax, low, hid, ones, of_bits, nan_bits}
use Rattle.ieee.specs.Root.{root}
use Rattle.ieee.specs.Squares.{IsRoot, IsNear}
use Rattle.ieee.proofs.Squares.{sq_one, sq_double, sq_lt_back, near_root, root_near, root_of_digits}
use Rattle.ieee.specs.Patterns.{mag, Sized}
use Rattle.ieee.proofs.Patterns.{mag_small, mag_normal, root_bits, of_bits_units, no_nan_below}

pows : (m t j x l : ℕ) → t + (j + j) ≡ x + l → m * 2 ^ t * (2 ^ j * 2 ^ j) ≡ m * 2 ^ x * 2 ^ l
pows m t j x l e =
    mul_assoc m (2 ^ t) (2 ^ j * 2 ^ j)
    ∙ ap (λ (z : ℕ). m * z) (ap (λ (z : ℕ). 2 ^ t * z) (sym (pow-add 2 j j)) ∙ sym (pow-add 2 t (j + j)) ∙ ap (λ (z : ℕ). 2 ^ z) e ∙ pow-add 2 x l)
    ∙ sym (mul_assoc m (2 ^ x) (2 ^ l))

-- what the exponent's field is taken with: 1019 and 123
abbrev pub bias : Format → ℕ
bias f = low f - suc (suc (prec f))

level : (f : Format) → suc (prec f) + (suc (bias f) / 2 + suc (bias f) / 2) ≡ 0 + low f
level binary32 = refl
level binary64 = refl

even_shift : (f : Format) (k : ℕ) → k ≤ suc (bias f) / 2 → 2 * k + suc (prec f) + (suc (bias f) / 2 - k + (suc (bias f) / 2 - k)) ≡ 0 + low f
even_shift f k h = omega (arith, level f)

sized_small : (f : Format) (b k : ℕ) → b < hid f → k ≤ suc (bias f) / 2 → Sized f b (b * 2 ^ (2 * k)) (suc (bias f) / 2 - k)
unfolding Sized
sized_small f b k h l =
    let j = suc (bias f) / 2 - k in
    ap (λ (x : ℕ). x * (2 ^ j * 2 ^ j)) (mul_assoc b (2 ^ (2 * k)) (2 ^ suc (prec f)) ∙ ap (λ (x : ℕ). b * x) (sym (pow-add 2 (2 * k) (suc (prec f)))))
    ∙ pows b (2 * k + suc (prec f)) j 0 (low f) (even_shift f k l)
    ∙ ap (λ (x : ℕ). x * 2 ^ low f) (mul-one b ∙ sym (mag_small f b h))

-- ---- a subnormal that is shifted by an even number of digits, with 52 or 53 behind the first
-- the shift by an even count of digits
abbrev pub steps : ℕ → ℕ
steps b = (count_leading_zeros 64 b - 10) / 2

under_52 : (j b : ℕ) → 2 ^ j ≤ b → b < 2 ^ 52 → j < 52
under_52 j b l h = elim (cases_lt j 52) [
  | inl k ↦ k
  | inr k ↦ absurd (lt_irrefl b (lt_of_lt_of_le h (le_trans (pow_mono k) l)))
]

-- its first digit stands at j
has_first : (b : ℕ) → 0 < b → b < 2 ^ 52 → (j : ℕ) × (count_leading_zeros 64 b + suc j ≡ 64) × (2 ^ j ≤ b) × (b < 2 ^ suc j) × (j < 52)
has_first b p h =
    let t = leading_top 64 b p (omega arith) in
    (t.0, t.1, t.2, t.3, under_52 t.0 b t.2 h)

pub zeros_lo : (b : ℕ) → 0 < b → b < 2 ^ 52 → 12 ≤ count_leading_zeros 64 b
zeros_lo b p h = let t = has_first b p h in omega arith

lo_at : (b j k : ℕ) → 2 ^ j ≤ b → 52 ≤ j + 2 * k → 2 ^ 52 ≤ b * 2 ^ (2 * k)
lo_at b j k l h = le_trans (pow_mono h) (le_trans (le_of_eq (pow-add 2 j (2 * k))) (mul-le-mul_right (2 ^ (2 * k)) l))

-- four times a number, and so at most 2 ^ 54 - 4
hi_at : (b j k : ℕ) → b < 2 ^ suc j → 0 < k → j + 2 * k ≤ 53 → b * 2 ^ (2 * k) < 2 ^ 54 - 1
hi_at b j zero l p h = elim p [ ]
hi_at b j (suc k) l p h =
    let fits : suc j + 2 * k ≤ 52 = omega arith in
    let under : b * 2 ^ (2 * k) < 2 ^ 52 = lt_of_lt_of_le (shl_lt (suc j) (2 * k) l) (pow_mono fits) in
    let same : 2 * suc k ≡ 2 + 2 * k = omega arith in
    let four : b * 2 ^ (2 * suc k) ≡ 4 * (b * 2 ^ (2 * k)) = ap (λ (z : ℕ). b * 2 ^ z) same ∙ ap (λ (z : ℕ). b * z) (pow-add 2 2 (2 * k)) ∙ native.Mathlib.Nat.mul_left_comm b 4 (2 ^ (2 * k)) in
    omega arith

pub shifted : (b : ℕ) → 0 < b → b < 2 ^ 52
    → (2 ^ 52 ≤ b * 2 ^ (2 * steps b) % 2 ^ 64) × (b * 2 ^ (2 * steps b) % 2 ^ 64 < 2 ^ 54 - 1) × Sized binary64 b (b * 2 ^ (2 * steps b) % 2 ^ 64) (510 - steps b)
shifted b p h =
    let t = has_first b p h in
    let lo : 2 ^ 52 ≤ b * 2 ^ (2 * steps b) = lo_at b t.0 (steps b) t.2 (omega arith) in
    let hi : b * 2 ^ (2 * steps b) < 2 ^ 54 - 1 = hi_at b t.0 (steps b) t.3 (omega arith) (omega arith) in
    let same : b * 2 ^ (2 * steps b) % 2 ^ 64 ≡ b * 2 ^ (2 * steps b) = omega arith in
    rw same (lo, hi, sized_small binary64 b (steps b) h (omega arith))

odd_sum : (f : Format) (e : ℕ) → 1 ≤ e → e % 2 ≡ 1 → suc (prec f) + ((e + bias f) / 2 + (e + bias f) / 2) ≡ e - 1 + low f
odd_sum binary32 e l o = omega arith
odd_sum binary64 e l o = omega arith

even_sum : (f : Format) (e : ℕ) → 1 ≤ e → e % 2 ≡ 0 → suc (suc (prec f)) + ((e + bias f) / 2 + (e + bias f) / 2) ≡ e - 1 + low f
even_sum binary32 e l o = omega arith
even_sum binary64 e l o = omega arith

field : (f : Format) (b : ℕ) → hid f ≤ b → 1 ≤ b / hid f
field binary32 b h = omega arith
field binary64 b h = omega arith

one_of : (e : ℕ) → (e % 2 ≡ 0 → ⊥) → e % 2 ≡ 1
one_of e o = go (e % 2) refl
  where
    go : (r : ℕ) → e % 2 ≡ r → e % 2 ≡ 1
    go zero z = absurd (o z)
    go (suc r) z = omega arith

pub sized_odd : (f : Format) (b : ℕ) → hid f ≤ b → (b / hid f % 2 ≡ 0 → ⊥) → Sized f b (hid f + b % hid f) ((b / hid f + bias f) / 2)
unfolding Sized
sized_odd f b h o =
    let e = b / hid f in
    pows (hid f + b % hid f) (suc (prec f)) ((e + bias f) / 2) (e - 1) (low f) (odd_sum f e (field f b h) (one_of e o)) ∙ ap (λ (x : ℕ). x * 2 ^ low f) (sym (mag_normal f b h))

pub sized_even : (f : Format) (b : ℕ) → hid f ≤ b → b / hid f % 2 ≡ 0 → Sized f b ((hid f + b % hid f) * 2) ((b / hid f + bias f) / 2)
unfolding Sized
sized_even f b h o =
    let e = b / hid f in
    let m = hid f + b % hid f in
    let j = (e + bias f) / 2 in
    ap (λ (x : ℕ). x * (2 ^ j * 2 ^ j)) (mul_assoc m 2 (2 ^ suc (prec f)) ∙ ap (λ (x : ℕ). m * x) (sym (pow-succ' 2 (suc (prec f)))))
    ∙ pows m (suc (suc (prec f))) j (e - 1) (low f) (even_sum f e (field f b h) o)
    ∙ ap (λ (x : ℕ). x * 2 ^ low f) (sym (mag_normal f b h))

-- m has one digit more than the format keeps, and is not all ones
abbrev pub Small : Format → ℕ → Type 0
Small f m = m < 2 ^ suc (prec f) - 1

-- ---- the result
square_lo : (f : Format) (m : ℕ) → hid f ≤ m → 2 ^ prec f * 2 ^ prec f ≤ m * 2 ^ suc (prec f)
square_lo binary32 m l = omega arith
square_lo binary64 m l = omega arith

square_hi : (f : Format) (m : ℕ) → Small f m → m * 2 ^ suc (prec f) < (2 ^ suc (prec f) - 1) * (2 ^ suc (prec f) - 1)
square_hi binary32 m l = omega arith
square_hi binary64 m l = omega arith

below : (x r : ℕ) → x < r + 1 → x ≤ r
below x r h = omega arith

pub root_lo : (f : Format) (m r : ℕ) → hid f ≤ m → IsRoot (m * 2 ^ suc (prec f)) r → 2 ^ prec f ≤ r
root_lo f m r l h = below (2 ^ prec f) r (sq_lt_back (2 ^ prec f) (r + 1) (lt_of_le_of_lt (square_lo f m l) h.1))

pub root_hi : (f : Format) (m r : ℕ) → Small f m → IsRoot (m * 2 ^ suc (prec f)) r → Small f r
root_hi f m r l h = sq_lt_back r (2 ^ suc (prec f) - 1) (lt_of_le_of_lt h.0 (square_hi f m l))

no_tie : (m t r : ℕ) → r % 2 ≡ 1 → r * r ≡ m * 2 ^ suc t → ⊥
no_tie m t r o e =
    let g : r ≡ 2 * (r / 2) + 1 = omega arith in
    let s : (2 * (r / 2) + 1) * (2 * (r / 2) + 1) ≡ m * 2 ^ suc t = subst (λ (x : ℕ). x * x ≡ m * 2 ^ suc t) g e in
    let d : m * 2 ^ suc t ≡ 2 * (m * 2 ^ t) = ap (λ (x : ℕ). m * x) (pow-succ' 2 t) ∙ native.Mathlib.Nat.mul_left_comm m 2 (2 ^ t) in
    omega (arith, sq_one (2 * (r / 2)), sq_double (r / 2))

sized_is : (f : Format) (b m j : ℕ) → Sized f b m j → mag f b * 2 ^ low f ≡ m * 2 ^ suc (prec f) * (2 ^ j * 2 ^ j)
unfolding Sized
sized_is f b m j s = sym s

half_lo : (f : Format) (r : ℕ) → 2 ^ prec f ≤ r → 2 ^ (prec f - 1) ≤ (r + 1) / 2
half_lo binary32 r h = omega arith
half_lo binary64 r h = omega arith

half_hi : (f : Format) (r : ℕ) → Small f r → (r + 1) / 2 < 2 ^ prec f
half_hi binary32 r h = omega arith
half_hi binary64 r h = omega arith

twice : (f : Format) (r : ℕ) → Small f r → r < 2 * 2 ^ prec f
twice binary32 r h = omega arith
twice binary64 r h = omega arith

-- the largest j: 1532 and 188
abbrev pub most : Format → ℕ
most f = (2 * emax f + (bias f - 1)) / 2

exponents : (f : Format) (j : ℕ) → j ≤ most f → prec f + (j + 1) ≤ low f + suc (emax f)
exponents binary32 j h = omega arith
exponents binary64 j h = omega arith

digits_finish : (f : Format) (b m j r : ℕ) → 0 < b → b < ones f * hid f → hid f ≤ m → Small f m → j ≤ most f → Sized f b m j → IsRoot (m * 2 ^ suc (prec f)) r
    → of_bits f ((j + 1) * hid f + (r + 1) / 2) ≡ root f (of_bits f b)
digits_finish f b m j r p q lo hi J s h =
    let rl = root_lo f m r lo h in
    let rh = root_hi f m r hi h in
    of_bits_units f ((r + 1) / 2) (j + 1) (half_lo f r rl) (half_hi f r rh) (lt_of_lt_of_le (shl_lt (prec f) (j + 1) (half_hi f r rh)) (pow_mono (exponents f j J)))
    ∙ sym (root_of_digits f (mag f b * 2 ^ low f) (m * 2 ^ suc (prec f)) j r (sized_is f b m j s) h rl (twice f r rh) (no_tie m (prec f) r))
    ∙ sym (root_bits f b p q)

-- ---- the same of q, the whole number nearest to the root of m * hid: half of the root with one digit more
four_hid : (f : Format) (m : ℕ) → 4 * (m * hid f) ≡ m * 2 ^ suc (prec f)
four_hid binary32 m = omega arith
four_hid binary64 m = omega arith

some : (f : Format) (m : ℕ) → hid f ≤ m → 0 < m * hid f
some binary32 m h = omega arith
some binary64 m h = omega arith

near_pos : (n q : ℕ) → 0 < n → IsNear n q → 0 < q
near_pos n zero p h = absurd (omega arith)
near_pos n (suc q) p h = zero-lt-suc q

halved : (f : Format) (m q : ℕ) → hid f ≤ m → IsNear (m * hid f) q → (r : ℕ) × IsRoot (m * 2 ^ suc (prec f)) r × ((r + 1) / 2 ≡ q)
halved f m q l h =
    let w = near_root (m * hid f) q (near_pos (m * hid f) q (some f m l) h) h in
    (w.0, subst (λ (n : ℕ). IsRoot n w.0) (four_hid f m) w.1, w.2)

pub near_hi : (f : Format) (m q : ℕ) → hid f ≤ m → Small f m → IsNear (m * hid f) q → q < 2 ^ prec f
near_hi f m q l u h =
    let w = halved f m q l h in
    subst (λ (x : ℕ). x < 2 ^ prec f) w.2 (half_hi f w.0 (root_hi f m w.0 u w.1))

pub finish : (f : Format) (b m j q : ℕ) → 0 < b → b < ones f * hid f → hid f ≤ m → Small f m → j ≤ most f → Sized f b m j → IsNear (m * hid f) q
    → of_bits f ((j + 1) * hid f + q) ≡ root f (of_bits f b)
finish f b m j q p o l u J s h =
    let w = halved f m q l h in
    subst (λ (x : ℕ). of_bits f ((j + 1) * hid f + x) ≡ root f (of_bits f b)) w.2 (digits_finish f b m j w.0 p o l u J s w.1)

pub digits_near : (f : Format) (m r : ℕ) → hid f ≤ m → IsRoot (m * 2 ^ suc (prec f)) r → IsNear (m * hid f) ((r + 1) / 2)
digits_near f m r l h = root_near (m * hid f) r (lt_of_lt_of_le (pow_pos (prec f)) (root_lo f m r l h)) (subst (λ (n : ℕ). IsRoot n r) (sym (four_hid f m)) h)

-- ---- patterns that are no NaN's
fits_under : (f : Format) (j q : ℕ) → j ≤ most f → q < 2 ^ prec f → (j + 1) * hid f + q ≤ ones f * hid f
fits_under binary32 j q h k = omega arith
fits_under binary64 j q h k = omega arith

pub no_nan_bits : (f : Format) (j q : ℕ) → j ≤ most f → q < 2 ^ prec f → T (not (nan_bits f ((j + 1) * hid f + q)))
no_nan_bits f j q h k = no_nan_below f ((j + 1) * hid f + q) (fits_under f j q h k)

-- ---- what `digits` gives at 54 turns
pub at_54 : (m r : ℕ) → IsRoot (m * (2 ^ 54 * 2 ^ 54) / 2 ^ 54) r → IsRoot (m * 2 ^ 54) r
at_54 m r h = subst (λ (x : ℕ). IsRoot x r) (ap (λ (x : ℕ). x / 2 ^ 54) (sym (mul_assoc m (2 ^ 54) (2 ^ 54))) ∙ native.Mathlib.Nat.mul-div_cancel (m * 2 ^ 54) (pow_pos 54)) h

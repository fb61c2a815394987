-- What `root` is, said by whole-number squares alone: the nearer of two neighbouring floats, and never a tie. Assumes nothing.
use Rattle.std.specs.Prelude.{◌≡◌, refl, ◌⊎◌, false, not, ◌&&◌, ℤ, pos, negsuc, T, leb, ltb, eqb}
use Rattle.std.proofs.Common.{sym, ap, ◌∙◌, inl, inr, arith, leb→le, eqb→eq, ltb→lt, lit≤, pow-add, pow_pos, pow_mono}
use Prim.Native.Nat.{ℕ, zero, suc, ◌+◌, ◌-◌, ◌*◌, ◌/◌, ◌%◌, ◌^◌, ◌≤◌, ◌<◌, compare, Ordering}
use native.Mathlib.Nat.{le_trans, le_of_eq, lt_irrefl, lt_of_lt_of_le, lt_of_le_of_lt, le_of_suc-le-suc, lt_of_not-le, mul-one, one-mul, mul_comm, mul_assoc, mul_left_comm, mul_right_comm, mul-mul-mul_comm, mul-le-mul, mul-le-mul_right, div-mul-le_self, lt-div-mul-add, le-div_iff_mul-le, pow-succ', two-pow-succ, zero-lt-suc}
use Rattle.std.proofs.Math.Dec.{is_le, compare_is_eq, nleb→lt}
use Rattle.std.proofs.Math.Arith.{lt_of_le-ne}
use Rattle.std.proofs.Math.Pow.{pow-lt}
use lib.Ieee.{Float, fin, Format, binary32, binary64, prec, emax, low, up, down, size, nearest, units, fits}
use lib.Ieee.Digits.{size-lt, size_reaches}
use Rattle.std.specs.Float.Ieee.Fits.{two, kept-lt, and_l, and_r}
use Rattle.std.specs.Float.Ieee.Exact.{HasValue}
use Rattle.ieee.specs.Root.{root, root_of, whole_root}
use Rattle.ieee.specs.Squares.{nearer}
use Rattle.ieee.proofs.Squares.{whole_root_is, sq_one, sq_double, sq_lt_back, root_of_at, compare_lt, compare_gt, root_value}
use Rattle.ieee.specs.Bracket.{Nearest}

-- only one float is that
pub nearest_unique : (f : Format) (n : ℕ) (r : Float) → Nearest f n r → r ≡ root_of f n
nearest_unique f n r N = elim N.pick [
  | inl l ↦ l.1 ∙ sym (root_of_at f n N.q N.k N.all.0 N.all.1 N.from N.to ∙ ap (λ (o : Ordering). units f false (nearest N.q o) N.k) (compare_lt (4 * n) (mid N) l.0))
  | inr g ↦
      g.1
      ∙ ap (λ (x : ℕ). units f false x N.k) (native.Mathlib.Numerals.add-one N.q)
      ∙ sym (root_of_at f n N.q N.k N.all.0 N.all.1 N.from N.to ∙ ap (λ (o : Ordering). units f false (nearest N.q o) N.k) (compare_gt (4 * n) (mid N) g.0))
]
  where
    mid : Nearest f n r → ℕ
    mid N = (2 * N.q + 1) * 2 ^ N.k * ((2 * N.q + 1) * 2 ^ N.k)

-- ---- no tie: an odd number has one way to be a product of an odd number and a power of two
power : (a j : ℕ) → a * 2 ^ suc j ≡ 2 * (a * 2 ^ j)
power a j = ap (λ (x : ℕ). a * x) (pow-succ' 2 j) ∙ mul_left_comm a 2 (2 ^ j)

clash : (a b : ℕ) → a % 2 ≡ 1 → a ≡ 2 * b → ⊥
clash a b o e = omega arith

halve : (a b : ℕ) → 2 * a ≡ 2 * b → a ≡ b
halve a b e = omega arith

odd_unique : (i j a b : ℕ) → a % 2 ≡ 1 → b % 2 ≡ 1 → a * 2 ^ i ≡ b * 2 ^ j → a ≡ b
odd_unique zero zero a b p q e = sym (mul-one a) ∙ e ∙ mul-one b
odd_unique zero (suc j) a b p q e = absurd (clash a (b * 2 ^ j) p (sym (mul-one a) ∙ e ∙ power b j))
odd_unique (suc i) zero a b p q e = absurd (clash b (a * 2 ^ i) q (sym (mul-one b) ∙ sym e ∙ power a i))
odd_unique (suc i) (suc j) a b p q e = odd_unique i j a b p q (halve (a * 2 ^ i) (b * 2 ^ j) (sym (power a i) ∙ e ∙ power b j))

-- up and down as powers
up_is : (e : ℤ) → (i : ℕ) × (up e ≡ 2 ^ i)
up_is (pos k) = (k, refl)
up_is (negsuc k) = (0, refl)

down_is : (e : ℤ) → (i : ℕ) × (down e ≡ 2 ^ i)
down_is (pos k) = (0, refl)
down_is (negsuc k) = (suc k, refl)

odd_square : (x : ℕ) → (2 * x + 1) * (2 * x + 1) % 2 ≡ 1
odd_square x = omega (arith, sq_one (2 * x), sq_double x)

four : (x : ℕ) → 4 * x ≡ x * 2 ^ 2
four x = mul_comm 4 x

too_large : (p q m : ℕ) → 2 ≤ p → 2 ^ (p - 1) ≤ q → m < 2 ^ p → m ≡ (2 * q + 1) * (2 * q + 1) → ⊥
too_large p q m P a h e =
    let t : 2 ^ p ≡ 2 ^ (p - 1) + 2 ^ (p - 1) = ap (λ (z : ℕ). 2 ^ z) (one p P) ∙ two-pow-succ (p - 1) in
    omega (arith, sq_one (2 * q), sq_double q)
  where
    one : (p : ℕ) → 2 ≤ p → p ≡ suc (p - 1)
    one p P = omega arith

-- 4 * n is m * 2 ^ .. over down e, and a tie would make it an odd square, larger than any m
module _ (f : Format) (m : ℕ) (e : ℤ) (a q k : ℕ) (o : m % 2 ≡ 1) (l : m < 2 ^ prec f) (h : m * up e * 2 ^ low f ≡ a * down e) (Q : 2 ^ (prec f - 1) ≤ q) where
  no_tie : 4 * (a * 2 ^ low f) ≡ (2 * q + 1) * 2 ^ k * ((2 * q + 1) * 2 ^ k) → ⊥
  no_tie t =
      let u = up_is e in
      let d = down_is e in
      let s = (2 * q + 1) * (2 * q + 1) in
      let w = low f in
      -- m * 2 ^ (u + w + w + 2) is s * 2 ^ (k + k + d)
      let x : m * 2 ^ (u.0 + w + (w + 2)) ≡ s * 2 ^ (k + k + d.0) =
      ap (λ (z : ℕ). m * z) (pow-add 2 (u.0 + w) (w + 2) ∙ ap (λ (z : ℕ). z * 2 ^ (w + 2)) (pow-add 2 u.0 w) ∙ ap (λ (z : ℕ). z * 2 ^ w * 2 ^ (w + 2)) (sym u.1))
      ∙ sym (mul_assoc m (up e * 2 ^ w) (2 ^ (w + 2)))
      ∙ ap (λ (z : ℕ). z * 2 ^ (w + 2)) (sym (mul_assoc m (up e) (2 ^ w)) ∙ h)
      ∙ ap (λ (z : ℕ). a * down e * z) (pow-add 2 w 2)
      ∙ mul_right_comm a (down e) (2 ^ w * 2 ^ 2)
      ∙ ap (λ (z : ℕ). z * down e) (sym (mul_assoc a (2 ^ w) (2 ^ 2)) ∙ sym (four (a * 2 ^ w)) ∙ t ∙ mul-mul-mul_comm (2 * q + 1) (2 ^ k) (2 * q + 1) (2 ^ k) ∙ ap (λ (z : ℕ). s * z) (sym (pow-add 2 k k)))
      ∙ ap (λ (z : ℕ). s * 2 ^ (k + k) * z) d.1
      ∙ mul_assoc s (2 ^ (k + k)) (2 ^ d.0)
      ∙ ap (λ (z : ℕ). s * z) (sym (pow-add 2 (k + k) d.0)) in
      too_large (prec f) q m (two f) Q l (odd_unique (u.0 + w + (w + 2)) (k + k + d.0) m s o (odd_square q) x)

-- ---- the digits that the root's whole part keeps
wide : (f : Format) → 2 ^ (prec f - 1) * 2 ^ (prec f - 1) ≤ 2 ^ low f
wide binary32 = lit≤ tt
wide binary64 = lit≤ tt

reaches : (z p : ℕ) → 0 < p → p - 1 < z → p - 1 + (z - p) < z
reaches z p P h = omega arith

kept_ge : (p w : ℕ) → 2 ≤ p → 2 ^ (p - 1) ≤ w → 2 ^ (p - 1) ≤ w / 2 ^ (size w - p)
kept_ge p w P h =
    (le-div_iff_mul-le (pow_pos (size w - p))).1
    (le_trans (le_of_eq (sym (pow-add 2 (p - 1) (size w - p)))) (size_reaches w (p - 1 + (size w - p)) (reaches (size w) p (pos_of p P) (lt_back (p - 1) (size w) (lt_of_le_of_lt h (size-lt w))))))
  where
    pos_of : (p : ℕ) → 2 ≤ p → 0 < p
    pos_of p P = omega arith

    lt_back : (i p : ℕ) → 2 ^ i < 2 ^ p → i < p
    lt_back i p h = lt_of_not-le (λ (g : p ≤ i). lt_irrefl (2 ^ i) (lt_of_lt_of_le h (pow_mono g)))

-- the comparison, without a tie
choose : (f : Format) (n q k : ℕ) (r : Float) → r ≡ nearer f n q k → (4 * n ≡ (2 * q + 1) * 2 ^ k * ((2 * q + 1) * 2 ^ k) → ⊥)
    → ((4 * n < (2 * q + 1) * 2 ^ k * ((2 * q + 1) * 2 ^ k)) × (r ≡ units f false q k)) ⊎ (((2 * q + 1) * 2 ^ k * ((2 * q + 1) * 2 ^ k) < 4 * n) × (r ≡ units f false (q + 1) k))
choose f n q k r e x = go (compare (4 * n) mid) (leb→le (4 * n) mid) (nleb→lt (4 * n) mid) (eqb→eq (4 * n) mid) e
  where
    mid : ℕ
    mid = (2 * q + 1) * 2 ^ k * ((2 * q + 1) * 2 ^ k)

    go : (o : Ordering) → (T (is_le o) → 4 * n ≤ mid) → (T (not (is_le o)) → mid < 4 * n) → (T (compare_is_eq o) → 4 * n ≡ mid) → r ≡ units f false (nearest q o) k
        → ((4 * n < mid) × (r ≡ units f false q k)) ⊎ ((mid < 4 * n) × (r ≡ units f false (q + 1) k))
    go Ordering.lt a b c d = inl (lt_of_le-ne (a tt) x, d)
    go Ordering.eq a b c d = absurd (x (c tt))
    go Ordering.gt a b c d = inr (b tt, d ∙ ap (λ (z : ℕ). units f false z k) (sym (native.Mathlib.Numerals.add-one q)))

-- the root of a number above zero that the format holds is the float nearest to it, and there is no tie
pub root_nearest : (f : Format) (m : ℕ) (e : ℤ) (a : ℕ) → m % 2 ≡ 1 → m < 2 ^ prec f → HasValue (fin false m e) false a (2 ^ low f) → 0 < a → Nearest f (a * 2 ^ low f) (root f (fin false m e))
root_nearest f m e a o l h p =
    let n = a * 2 ^ low f in
    let w = whole_root n in
    let W = whole_root_is n in
    let K = size w - prec f in
    let Q = w / 2 ^ K in
    let n-ge : 2 ^ (prec f - 1) * 2 ^ (prec f - 1) ≤ n = le_trans (wide f) (le_trans (le_of_eq (sym (one-mul (2 ^ low f)))) (mul-le-mul_right (2 ^ low f) p)) in
    let w-ge : 2 ^ (prec f - 1) ≤ w = below (2 ^ (prec f - 1)) w (sq_lt_back (2 ^ (prec f - 1)) (w + 1) (lt_of_le_of_lt n-ge W.1)) in
    let ge = kept_ge (prec f) w (two f) w-ge in
    let lt = kept-lt (prec f) w in
    let lo : Q * 2 ^ K ≤ w = div-mul-le_self w (2 ^ K) in
    let hi : w + 1 ≤ (Q + 1) * 2 ^ K = next w (Q * 2 ^ K) (2 ^ K) ((Q + 1) * 2 ^ K) (lt-div-mul-add (pow_pos K)) (native.Mathlib.Nat.add-mul Q 1 (2 ^ K) ∙ ap (λ (z : ℕ). Q * 2 ^ K + z) (one-mul (2 ^ K))) in
    let f-is = le_trans (mul-le-mul lo lo) W.0 in
    let t-is = lt_of_lt_of_le W.1 (mul-le-mul hi hi) in
    record {
      q = Q;
      k = K;
      all = (ge, lt);
      from = f-is;
      to = t-is;
      pick = choose f n Q K (root f (fin false m e)) (root_value f (fin false m e) a h p ∙ root_of_at f n Q K ge lt f-is t-is) (no_tie f m e a Q K o l h.1 ge);
    }
  where
    below : (x y : ℕ) → x < y + 1 → x ≤ y
    below x y h = omega arith

    next : (w b p g : ℕ) → w < b + p → g ≡ b + p → w + 1 ≤ g
    next w b p g h e = omega arith

-- ---- of a float that fits, its size in units of the smallest value
pow_le_back : (a l : ℕ) → 2 ^ a ≤ 2 ^ l → a ≤ l
pow_le_back a l h = le_of_suc-le-suc (lt_of_not-le (λ (g : suc l ≤ a). lt_irrefl (2 ^ l) (lt_of_lt_of_le (pow-lt g) h)))

pub in_power : (l m : ℕ) (e : ℤ) → down e ≤ 2 ^ l → (i : ℕ) × (m * up e * 2 ^ l ≡ m * 2 ^ i * down e)
in_power l m (pos k) h = (k + l, mul_assoc m (2 ^ k) (2 ^ l) ∙ ap (λ (x : ℕ). m * x) (sym (pow-add 2 k l)) ∙ sym (mul-one (m * 2 ^ (k + l))))
in_power l m (negsuc k) h = (
  l - suc k,
  ap (λ (x : ℕ). x * 2 ^ l) (mul-one m)
      ∙ ap (λ (x : ℕ). m * x) (ap (λ (x : ℕ). 2 ^ x) (sym (lib.Ieee.Digits.back l (suc k) (pow_le_back (suc k) l h))) ∙ pow-add 2 (l - suc k) (suc k))
      ∙ sym (mul_assoc m (2 ^ (l - suc k)) (2 ^ suc k)),
)

in_units : (l m : ℕ) (e : ℤ) → 0 < m → down e ≤ 2 ^ l → (a : ℕ) × (m * up e * 2 ^ l ≡ a * down e) × (0 < a)
in_units l m e p h = let w = in_power l m e h in (m * 2 ^ w.0, w.1, native.Mathlib.Nat.mul-pos p (pow_pos w.0))

-- The root of a number above zero. a is that number in units of the smallest value, so a * 2 ^ low is it in squares of that value.
pub root_is_nearest : (f : Format) (m : ℕ) (e : ℤ) → T (fits f (fin false (suc m) e))
    → (a : ℕ) × HasValue (fin false (suc m) e) false a (2 ^ low f) × Nearest f (a * 2 ^ low f) (root f (fin false (suc m) e))
unfolding fits
root_is_nearest f m e h =
    let A = eqb (suc m % 2) 1 in
    let B = ltb (suc m) (2 ^ prec f) in
    let C = leb (down e) (2 ^ low f) in
    let D = ltb (suc m * up e) (2 ^ suc (emax f) * down e) in
    let abc = and_l (A && B && C) D h in
    let ab = and_l (A && B) C abc in
    let u = in_units (low f) (suc m) e (zero-lt-suc m) (leb→le (down e) (2 ^ low f) (and_r (A && B) C abc)) in
    (u.0, (refl, u.1), root_nearest f (suc m) e u.0 (eqb→eq (suc m % 2) 1 (and_l A B ab)) (ltb→lt (suc m) (2 ^ prec f) (and_r A B ab)) (refl, u.1) u.2)

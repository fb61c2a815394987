-- The root of a number above zero is nearer to the real root than any other float of the format, and it is the only such float. Sizes are in units of the format's smallest value.
-- Of two sizes c < b, c is the nearer to the root of n exactly where that root lies below their middle, 4 * n < (c + b) * (c + b), and b where it lies above. Assumes nothing.
use Rattle.std.specs.Prelude.{◌≡◌, ℕ, zero, suc, ◌+◌, ◌-◌, ◌*◌, ◌%◌, ◌^◌, ◌≤◌, ◌<◌, true, false, ◌&&◌, ℤ, T, leb, ltb, eqb, Float}
use Rattle.std.proofs.Common.{sym, ap, ◌∙◌, subst, inl, inr, zero-le, le_trans, le_of_eq, le_of_lt, lt_irrefl, lt_of_lt_of_le, lt_of_le_of_lt, lt_of_not-le, zero-mul, mul_comm, mul_assoc, mul_right_comm, mul-le-mul, mul-le-mul_right, mul-le-mul_left, mul-lt-mul_of_pos_right, add-mul, arith, true≢false, ltb→lt, lit≤, pow-add, pow_pos}
use Rattle.std.proofs.Math.Nat.{eq_of_mul-eq-mul_right}
use Rattle.std.proofs.Math.Decide.{dec_lt}
use Rattle.std.specs.Float.{nan, inf, fin, Format, binary32, binary64}
use Rattle.std.specs.Float.Ieee.{prec, emax, low, up, down, units, fits}
use Rattle.std.specs.Float.Ieee.Fits.{and_r, down_pos}
use Rattle.std.specs.Float.Ieee.Exact.{HasValue, units_val}
use Rattle.ieee.specs.Root.{root}
use Rattle.ieee.proofs.Squares.{sq_lt_back, sq_double}
use Rattle.ieee.specs.Bracket.{Nearest}
use Rattle.ieee.proofs.Bracket.{root_is_nearest}
use Rattle.ieee.proofs.Neighbours.{neighbours}
use Rattle.ieee.proofs.Patterns.{units_fits, same_value}
use Rattle.ieee.specs.Closest.{Closest, most}

-- ---- one float only
pub closest_unique : (f : Format) (n : ℕ) (r s : Float) → Closest f n r → Closest f n s → r ≡ s
closest_unique f n r s R S = by (dec_lt R.size S.size) (dec_lt S.size R.size)
  where
    clash : (c d : ℕ) → 4 * n < (c + d) * (c + d) → (d + c) * (d + c) < 4 * n → ⊥
    clash c d p q =
        let e : (c + d) * (c + d) ≡ (d + c) * (d + c) = ap (λ (z : ℕ). z * z) (omega arith) in
        omega arith

    by : Dec (R.size < S.size) → Dec (S.size < R.size) → r ≡ s
    by (yes l) z = absurd (clash R.size S.size (R.above s S.size S.held S.value l) (S.below r R.size R.held R.value l))
    by (no k) (yes l) = absurd (clash S.size R.size (S.above r R.size R.held R.value l) (R.below s S.size S.held S.value l))
    by (no k) (no l) =
        let e : S.size ≡ R.size = omega (arith, k, l) in
        same_value f r s R.size R.held S.held R.value (subst (λ (z : ℕ). HasValue s false z (2 ^ low f)) e S.value)

-- ---- from the two neighbours around the root
square_lt : {x y : ℕ} → x < y → x * x < y * y
square_lt {x} {y} h = lt_of_le_of_lt (mul-le-mul_left x (le_of_lt h)) (mul-lt-mul_of_pos_right h (lt_of_le_of_lt zero-le h))

-- what lies midway between the neighbours c and d, taken twice
middle : (q u : ℕ) → (2 * q + 1) * u ≡ q * u + (q + 1) * u
middle q u =
    let x : (2 * q + 1) * u ≡ 2 * q * u + 1 * u = add-mul (2 * q) 1 u in
    let y : 2 * q * u ≡ 2 * (q * u) = mul_assoc 2 q u in
    let z : (q + 1) * u ≡ q * u + 1 * u = add-mul q 1 u in
    omega arith

module _ (f : Format) (n q k : ℕ) (Q : 2 ^ (prec f - 1) ≤ q) (P : q < 2 ^ prec f) (from : q * 2 ^ k * (q * 2 ^ k) ≤ n) (to : n < (q + 1) * 2 ^ k * ((q + 1) * 2 ^ k)) (small : 4 * n < most f * most f) where
  c_small : q * 2 ^ k < most f
  c_small = sq_lt_back (q * 2 ^ k) (most f) (lt_of_le_of_lt from (lt_of_le_of_lt (four n) small))
    where
      four : (n : ℕ) → n ≤ 4 * n
      four n = omega arith

  d_small : (q + 1) * 2 ^ k < most f
  d_small =
      let g : q + 1 ≤ 2 * q = twice (lt_of_lt_of_le (pow_pos (prec f - 1)) Q) in
      lt_of_le_of_lt (le_trans (mul-le-mul_right (2 ^ k) g) (le_of_eq (mul_assoc 2 q (2 ^ k))))
      (sq_lt_back (2 * (q * 2 ^ k)) (most f) (lt_of_le_of_lt (le_trans (le_of_eq (sq_double (q * 2 ^ k))) (mul-le-mul_left 4 from)) small))
    where
      twice : 0 < q → q + 1 ≤ 2 * q
      twice h = omega arith

  lower : 4 * n < (2 * q + 1) * 2 ^ k * ((2 * q + 1) * 2 ^ k) → Closest f n (units f false q k)
  lower l = record {
    held = units_fits f q k (le_of_lt P) c_small;
    size = q * 2 ^ k;
    value = units_val f false q k c_small;
    above = λ y b Y v h.
        let d : (q + 1) * 2 ^ k ≤ b = neighbours f y b q k Y v Q h in
        let g : (2 * q + 1) * 2 ^ k ≤ q * 2 ^ k + b = omega (arith, middle q (2 ^ k)) in
        lt_of_lt_of_le l (mul-le-mul g g);
    below = λ y b Y v h.
        let g : q * 2 ^ k + b < 2 * (q * 2 ^ k) = omega arith in
        lt_of_lt_of_le (square_lt g) (le_trans (le_of_eq (sq_double (q * 2 ^ k))) (mul-le-mul_left 4 from));
  }

  upper : (2 * q + 1) * 2 ^ k * ((2 * q + 1) * 2 ^ k) < 4 * n → Closest f n (units f false (q + 1) k)
  upper l = record {
    held = units_fits f (q + 1) k (next P) d_small;
    size = (q + 1) * 2 ^ k;
    value = units_val f false (q + 1) k d_small;
    above = λ y b Y v h.
        let g : 2 * ((q + 1) * 2 ^ k) < (q + 1) * 2 ^ k + b = omega arith in
        let t : 4 * n < 4 * ((q + 1) * 2 ^ k * ((q + 1) * 2 ^ k)) = omega (arith, to) in
        lt_of_lt_of_le t (le_trans (le_of_eq (sym (sq_double ((q + 1) * 2 ^ k)))) (le_of_lt (square_lt g)));
    below = λ y b Y v h.
        let e : b ≤ q * 2 ^ k = not_between y b Y v h (dec_lt (q * 2 ^ k) b) in
        let g : (q + 1) * 2 ^ k + b ≤ (2 * q + 1) * 2 ^ k = omega (arith, middle q (2 ^ k)) in
        lt_of_le_of_lt (mul-le-mul g g) l;
  }
    where
      next : {x y : ℕ} → x < y → x + 1 ≤ y
      next h = omega arith

      not_between : (y : Float) (b : ℕ) → T (fits f y) → HasValue y false b (2 ^ low f) → b < (q + 1) * 2 ^ k → Dec (q * 2 ^ k < b) → b ≤ q * 2 ^ k
      not_between y b Y v h (yes l) = let d : (q + 1) * 2 ^ k ≤ b = neighbours f y b q k Y v Q l in absurd (omega arith)
      not_between y b Y v h (no l) = omega (arith, l)

nearest_closest : (f : Format) (n : ℕ) (r : Float) → 4 * n < most f * most f → Nearest f n r → Closest f n r
nearest_closest f n r small N = elim N.pick [
  | inl l ↦ subst (λ (x : Float). Closest f n x) (sym l.1) (lower f n N.q N.k N.all.0 N.all.1 N.from N.to small l.0)
  | inr g ↦ subst (λ (x : Float). Closest f n x) (sym g.1) (upper f n N.q N.k N.all.0 N.all.1 N.from N.to small g.0)
]

-- ---- the root of a number above zero
room : (f : Format) → 4 * 2 ^ low f ≤ most f
room binary32 = lit≤ tt
room binary64 = lit≤ tt

under : (f : Format) (a : ℕ) → a < most f → 4 * (a * 2 ^ low f) < most f * most f
under f a h =
    lt_of_le_of_lt (le_of_eq (sym (mul_assoc 4 a (2 ^ low f)) ∙ ap (λ (z : ℕ). z * 2 ^ low f) (mul_comm 4 a) ∙ mul_assoc a 4 (2 ^ low f)))
    (lt_of_le_of_lt (mul-le-mul_left a (room f)) (mul-lt-mul_of_pos_right h (pow_pos (low f + suc (emax f)))))

-- a value of the format is below `most`
value_lt : (f : Format) (m : ℕ) (e : ℤ) (a : ℕ) → suc m * up e < 2 ^ suc (emax f) * down e → suc m * up e * 2 ^ low f ≡ a * down e → a < most f
value_lt f m e a h v =
    less_back a (most f) (down e)
    (lt_of_le_of_lt (le_of_eq (sym v))
    (lt_of_lt_of_le (mul-lt-mul_of_pos_right h (pow_pos (low f)))
    (le_of_eq (mul_right_comm (2 ^ suc (emax f)) (down e) (2 ^ low f) ∙ ap (λ (z : ℕ). z * down e) (mul_comm (2 ^ suc (emax f)) (2 ^ low f) ∙ sym (pow-add 2 (low f) (suc (emax f))))))))
  where
    less_back : (x y c : ℕ) → x * c < y * c → x < y
    less_back x y c h = lt_of_not-le (λ (g : y ≤ x). lt_irrefl (x * c) (lt_of_lt_of_le h (mul-le-mul_right c g)))

-- a is the number in units of the smallest value, so a * 2 ^ low is it in squares of that value
pub root_is_closest : (f : Format) (x : Float) (a : ℕ) → T (fits f x) → HasValue x false a (2 ^ low f) → 0 < a → Closest f (a * 2 ^ low f) (root f x)
unfolding fits
root_is_closest f nan a t v p = absurd v
root_is_closest f (inf s) a t v p = absurd v
root_is_closest f (fin true m e) a t v p = absurd (true≢false v.0)
root_is_closest f (fin false zero e) a t v p =
    let z : 0 * down e ≡ a * down e = zero-mul (down e) ∙ sym (ap (λ (y : ℕ). y * 2 ^ low f) (zero-mul (up e)) ∙ zero-mul (2 ^ low f)) ∙ v.1 in
    let n : 0 ≡ a = eq_of_mul-eq-mul_right (down e) (down_pos e) 0 a z in
    absurd (omega arith)
root_is_closest f (fin false (suc m) e) a t v p =
    let N = root_is_nearest f m e t in
    let i : N.0 ≡ a = eq_of_mul-eq-mul_right (down e) (down_pos e) N.0 a (sym N.1.1 ∙ v.1) in
    let D = and_r (eqb (suc m % 2) 1 && ltb (suc m) (2 ^ prec f) && leb (down e) (2 ^ low f)) (ltb (suc m * up e) (2 ^ suc (emax f) * down e)) t in
    nearest_closest f (a * 2 ^ low f) (root f (fin false (suc m) e)) (under f a (value_lt f m e a (ltb→lt (suc m * up e) (2 ^ suc (emax f) * down e) D) v.1))
    (subst (λ (z : ℕ). Nearest f (z * 2 ^ low f) (root f (fin false (suc m) e))) i N.2)

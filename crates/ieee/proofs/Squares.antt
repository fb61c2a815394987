-- What `wholeRoot` finds, and what `rootOf` is by whole-number squares alone. Assumes nothing.
use Rattle.std.specs.Prelude.{◌≡◌, refl, Bool, true, false, not, cond, T, leb, Float}
use Rattle.std.proofs.Common.{sym, ap, ◌∙◌, subst, le_trans, le_of_eq, lt_irrefl, lt_of_lt_of_le, lt_of_le_of_lt, lt_of_not-le, not-le_of_lt, le_antisymm, mul-one, one-mul, mul_comm, mul_assoc, mul_right_comm, mul-div_cancel, mul-pos, zero-mul, mul-add, add-mul, mul-le-mul, mul-le-mul_right, mul-lt-mul_of_pos_right, add-one, arith, true≢false, leb→le, eqb→eq, pow-add, pow_pos, pow_mono}
use Prim.Native.Nat.{ℕ, zero, suc, ◌+◌, ◌-◌, ◌*◌, ◌/◌, ◌%◌, ◌^◌, ◌≤◌, ◌<◌, compare, Ordering}
use Rattle.std.proofs.Math.Nat.{mul-mul-mul_comm, div-eq_of_lt-le, two-pow-succ}
use Rattle.std.proofs.Math.Dec.{is_le, compare_is_eq, nleb→lt}
use Rattle.std.proofs.Math.Arith.{lt_of_le-ne}
use Rattle.std.specs.Float.{nan, inf, fin, Format}
use Rattle.std.specs.Float.Ieee.{prec, low, up, down, size, nearest, units}
use Rattle.std.specs.Float.Ieee.Exact.{HasValue}
use Rattle.std.specs.Float.Ieee.Digits.{size-lt, size-le}
use Rattle.std.specs.Float.Ieee.Fits.{two, down_pos}
use Rattle.ieee.specs.Root.{grow, root_below, whole_root, root_of, root}
use Rattle.ieee.specs.Squares.{IsNear, IsRoot, nearer}

-- ---- squares
pub sq_one : (r : ℕ) → (r + 1) * (r + 1) ≡ r * r + 2 * r + 1
sq_one r = simp (mul-add, add-mul, mul-one, one-mul) (omega arith)

pub sq_double : (r : ℕ) → 2 * r * (2 * r) ≡ 4 * (r * r)
sq_double r = mul-mul-mul_comm 2 r 2 r

pub sq_lt_back : (a b : ℕ) → a * a < b * b → a < b
sq_lt_back a b h = lt_of_not-le (λ (g : b ≤ a). not-le_of_lt h (mul-le-mul g g))

-- ---- the whole number nearest to the root, and the whole part of the root with one digit more
pub near_root : (n q : ℕ) → 0 < q → IsNear n q → (r : ℕ) × IsRoot (4 * n) r × ((r + 1) / 2 ≡ q)
near_root n zero p h = absurd (omega arith)
near_root n (suc k) p h = go (leb (suc k * suc k) n) (leb→le (suc k * suc k) n) (nleb→lt (suc k * suc k) n)
  where
    squared : suc k * suc k ≡ k * k + 2 * k + 1
    squared = ap (λ (x : ℕ). x * x) (sym (add-one k)) ∙ sq_one k

    go : (b : Bool) → (T b → suc k * suc k ≤ n) → (T (not b) → n < suc k * suc k) → (r : ℕ) × IsRoot (4 * n) r × ((r + 1) / 2 ≡ suc k)
    go true y x =
        let g : suc k * suc k ≤ n = y tt in
        (2 * suc k, (omega (arith, sq_double (suc k)), omega (arith, sq_one (2 * suc k), sq_double (suc k))), omega arith)
    go false y x =
        let g : n < suc k * suc k = x tt in
        (2 * k + 1, (omega (arith, sq_one (2 * k), sq_double k, squared), omega (arith, sq_one (2 * k + 1), sq_one (2 * k), sq_double k, squared)), omega arith)

pub root_near : (n r : ℕ) → 0 < r → IsRoot (4 * n) r → IsNear n ((r + 1) / 2)
root_near n r p h = go (r % 2) refl
  where
    k : ℕ
    k = r / 2

    go : (t : ℕ) → r % 2 ≡ t → IsNear n ((r + 1) / 2)
    go zero z =
        let e : r ≡ 2 * k = omega arith in
        let g : IsRoot (4 * n) (2 * k) = subst (λ (x : ℕ). IsRoot (4 * n) x) e h in
        let q : k ≡ (r + 1) / 2 = omega arith in
        subst (λ (x : ℕ). IsNear n x) q (omega (arith, sq_double k), omega (arith, sq_one (2 * k), sq_double k))
    go (suc t) z =
        let e : r ≡ 2 * k + 1 = omega arith in
        let g : IsRoot (4 * n) (2 * k + 1) = subst (λ (x : ℕ). IsRoot (4 * n) x) e h in
        let q : k + 1 ≡ (r + 1) / 2 = omega arith in
        subst (λ (x : ℕ). IsNear n x) q (omega (arith, sq_one k, sq_one (2 * k), sq_double k), omega (arith, sq_one k, sq_one (2 * k + 1), sq_one (2 * k), sq_double k))

-- ---- `wholeRoot`
step : (n r : ℕ) → IsRoot (n / 4) r → IsRoot n (grow n (2 * r))
step n r h = go (leb ((2 * r + 1) * (2 * r + 1)) n) (leb→le ((2 * r + 1) * (2 * r + 1)) n) (nleb→lt ((2 * r + 1) * (2 * r + 1)) n)
  where
    go : (b : Bool) → (T b → (2 * r + 1) * (2 * r + 1) ≤ n) → (T (not b) → n < (2 * r + 1) * (2 * r + 1)) → IsRoot n (cond b (2 * r + 1) (2 * r))
    go true y x = (y tt, omega (arith, h.1, sq_one r, sq_one (2 * r + 1), sq_one (2 * r), sq_double r))
    go false y x = (omega (arith, h.0, sq_double r), x tt)

pub four_more : (k : ℕ) → 2 ^ suc k * 2 ^ suc k ≡ 4 * (2 ^ k * 2 ^ k)
four_more k = ap (λ (x : ℕ). x * x) (two-pow-succ k) ∙ simp (mul-add, add-mul) (omega arith)

root_below_is : (k n : ℕ) → n < 2 ^ k * 2 ^ k → IsRoot n (root_below k n)
unfolding root_below
root_below_is zero n h = (omega arith, h)
root_below_is (suc k) n h = step n (root_below k (n / 4)) (root_below_is k (n / 4) (omega (arith, four_more k)))

enough : (z : ℕ) → z ≤ z / 2 + 1 + (z / 2 + 1)
enough z = omega arith

pub whole_root_is : (n : ℕ) → IsRoot n (whole_root n)
unfolding whole_root
whole_root_is n =
    let k = size n / 2 + 1 in
    root_below_is k n (lt_of_lt_of_le (size-lt n) (le_trans (pow_mono (enough (size n))) (le_of_eq (pow-add 2 k k))))

-- ---- `compare`
pub compare_lt : (a b : ℕ) → a < b → compare a b ≡ Ordering.lt
compare_lt a b h = go (compare a b) (nleb→lt a b) (eqb→eq a b)
  where
    go : (o : Ordering) → (T (not (is_le o)) → b < a) → (T (compare_is_eq o) → a ≡ b) → o ≡ Ordering.lt
    go Ordering.lt y z = refl
    go Ordering.eq y z = let e : a ≡ b = z tt in absurd (omega arith)
    go Ordering.gt y z = let g : b < a = y tt in absurd (omega arith)

pub compare_gt : (a b : ℕ) → b < a → compare a b ≡ Ordering.gt
compare_gt a b h = go (compare a b) (leb→le a b)
  where
    go : (o : Ordering) → (T (is_le o) → a ≤ b) → o ≡ Ordering.gt
    go Ordering.lt y = let g : a ≤ b = y tt in absurd (omega arith)
    go Ordering.eq y = let g : a ≤ b = y tt in absurd (omega arith)
    go Ordering.gt y = refl

root_of_is : (f : Format) (n : ℕ) → root_of f n ≡ nearer f n (whole_root n / 2 ^ (size (whole_root n) - prec f)) (size (whole_root n) - prec f)
unfolding root_of
root_of_is f n = refl

pow_lt_back : (i p : ℕ) → 2 ^ i < 2 ^ p → i < p
pow_lt_back i p h = lt_of_not-le (λ (g : p ≤ i). lt_irrefl (2 ^ i) (lt_of_lt_of_le h (pow_mono g)))

pub size_exact : (a n : ℕ) → 2 ^ a ≤ n → n < 2 ^ suc a → size n ≡ suc a
size_exact a n lo hi = le_antisymm (size-le n (suc a) hi) (pow_lt_back a (size n) (lt_of_le_of_lt lo (size-lt n)))

kept_of : (p k : ℕ) → 2 ≤ p → suc (p - 1 + k) - p ≡ k
kept_of p k h = omega arith

one_up : (p k : ℕ) → 2 ≤ p → suc (p - 1 + k) ≡ p + k
one_up p k h = omega arith

-- a number from q * 2 ^ k on and below (q + 1) * 2 ^ k, for a q of p digits, has p + k of them
pub size_kept : (p q k w : ℕ) → 2 ≤ p → 2 ^ (p - 1) ≤ q → q < 2 ^ p → q * 2 ^ k ≤ w → w < (q + 1) * 2 ^ k → size w - p ≡ k
size_kept p q k w P a b lo hi =
    ap (λ (z : ℕ). z - p)
    (size_exact (p - 1 + k) w (le_trans (le_of_eq (pow-add 2 (p - 1) k)) (le_trans (mul-le-mul_right (2 ^ k) a) lo))
    (lt_of_lt_of_le hi (le_trans (mul-le-mul_right (2 ^ k) (up b)) (le_of_eq (sym (pow-add 2 p k) ∙ ap (λ (z : ℕ). 2 ^ z) (sym (one_up p k P)))))))
    ∙ kept_of p k P
  where
    up : {x y : ℕ} → x < y → x + 1 ≤ y
    up h = omega arith

pub root_of_at : (f : Format) (n q k : ℕ) → 2 ^ (prec f - 1) ≤ q → q < 2 ^ prec f → q * 2 ^ k * (q * 2 ^ k) ≤ n → n < (q + 1) * 2 ^ k * ((q + 1) * 2 ^ k) → root_of f n ≡ nearer f n q k
root_of_at f n q k a b c d =
    let w = whole_root n in
    let W = whole_root_is n in
    let lo : q * 2 ^ k ≤ w = below (q * 2 ^ k) w (sq_lt_back (q * 2 ^ k) (w + 1) (lt_of_le_of_lt c W.1)) in
    let hi : w < (q + 1) * 2 ^ k = sq_lt_back w ((q + 1) * 2 ^ k) (lt_of_le_of_lt W.0 d) in
    root_of_is f n
    ∙ ap (λ (z : ℕ). nearer f n (w / 2 ^ z) z) (size_kept (prec f) q k w (two f) a b lo hi)
    ∙ ap (λ (x : ℕ). nearer f n x k) (div-eq_of_lt-le (2 ^ k) lo hi)
  where
    below : (x y : ℕ) → x < y + 1 → x ≤ y
    below x y h = omega arith

-- ---- `rootOf` from one digit more than the format keeps
scale : (x y : ℕ) → x * y * (x * y) ≡ x * x * (y * y)
scale x y = mul-mul-mul_comm x y x y

shift : (x j : ℕ) → x * 2 ^ (j + 1) ≡ 2 * x * 2 ^ j
shift x j = ap (λ (z : ℕ). x * z) (pow-add 2 j 1 ∙ mul_comm (2 ^ j) 2) ∙ sym (mul_assoc x 2 (2 ^ j)) ∙ ap (λ (z : ℕ). z * 2 ^ j) (mul_comm x 2)

square_shift : (x j : ℕ) → x * 2 ^ (j + 1) * (x * 2 ^ (j + 1)) ≡ 2 * x * (2 * x) * (2 ^ j * 2 ^ j)
square_shift x j = ap (λ (z : ℕ). z * z) (shift x j) ∙ scale (2 * x) (2 ^ j)

module _ (f : Format) (n d j r : ℕ) (e : n ≡ d * (2 ^ j * 2 ^ j)) (h : IsRoot d r) (a : 2 ^ prec f ≤ r) (b : r < 2 * 2 ^ prec f) (tie : r % 2 ≡ 1 → r * r ≡ d → ⊥) where
  S_pos : 0 < 2 ^ j * 2 ^ j
  S_pos = lt_of_lt_of_le (pow_pos (j + j)) (le_of_eq (pow-add 2 j j))

  half_lo : 2 ^ (prec f - 1) ≤ r / 2
  half_lo = at (prec f) (two f) a
    where
      at : (p : ℕ) → 2 ≤ p → 2 ^ p ≤ r → 2 ^ (p - 1) ≤ r / 2
      at p P l = let t : 2 ^ p ≡ 2 ^ (p - 1) + 2 ^ (p - 1) = ap (λ (z : ℕ). 2 ^ z) (one p P) ∙ two-pow-succ (p - 1) in omega arith
        where
          one : (p : ℕ) → 2 ≤ p → p ≡ suc (p - 1)
          one p P = omega arith

  lower : r / 2 * 2 ^ (j + 1) * (r / 2 * 2 ^ (j + 1)) ≤ n
  lower =
      let g : 2 * (r / 2) ≤ r = omega arith in
      le_trans (le_of_eq (square_shift (r / 2) j)) (le_trans (mul-le-mul_right (2 ^ j * 2 ^ j) (le_trans (mul-le-mul g g) h.0)) (le_of_eq (sym e)))

  upper : n < (r / 2 + 1) * 2 ^ (j + 1) * ((r / 2 + 1) * 2 ^ (j + 1))
  upper =
      let g : r + 1 ≤ 2 * (r / 2 + 1) = omega arith in
      lt_of_le_of_lt (le_of_eq e) (lt_of_lt_of_le (mul-lt-mul_of_pos_right (lt_of_lt_of_le h.1 (mul-le-mul g g)) S_pos) (le_of_eq (sym (square_shift (r / 2 + 1) j))))

  middle : (2 * (r / 2) + 1) * 2 ^ (j + 1) * ((2 * (r / 2) + 1) * 2 ^ (j + 1)) ≡ 4 * ((2 * (r / 2) + 1) * (2 * (r / 2) + 1) * (2 ^ j * 2 ^ j))
  middle = square_shift (2 * (r / 2) + 1) j ∙ ap (λ (z : ℕ). z * (2 ^ j * 2 ^ j)) (sq_double (2 * (r / 2) + 1)) ∙ mul_assoc 4 ((2 * (r / 2) + 1) * (2 * (r / 2) + 1)) (2 ^ j * 2 ^ j)

  even : r % 2 ≡ 0 → nearest (r / 2) (compare (4 * n) ((2 * (r / 2) + 1) * 2 ^ (j + 1) * ((2 * (r / 2) + 1) * 2 ^ (j + 1)))) ≡ (r + 1) / 2
  even z =
      let g : r ≡ 2 * (r / 2) = omega arith in
      let l : d < (2 * (r / 2) + 1) * (2 * (r / 2) + 1) = subst (λ (x : ℕ). d < (x + 1) * (x + 1)) g h.1 in
      let m : n < (2 * (r / 2) + 1) * (2 * (r / 2) + 1) * (2 ^ j * 2 ^ j) = lt_of_le_of_lt (le_of_eq e) (mul-lt-mul_of_pos_right l S_pos) in
      ap (nearest (r / 2)) (compare_lt (4 * n) ((2 * (r / 2) + 1) * 2 ^ (j + 1) * ((2 * (r / 2) + 1) * 2 ^ (j + 1))) (omega (arith, middle))) ∙ omega arith

  odd : r % 2 ≡ 1 → nearest (r / 2) (compare (4 * n) ((2 * (r / 2) + 1) * 2 ^ (j + 1) * ((2 * (r / 2) + 1) * 2 ^ (j + 1)))) ≡ (r + 1) / 2
  odd z =
      let g : r ≡ 2 * (r / 2) + 1 = omega arith in
      let l : (2 * (r / 2) + 1) * (2 * (r / 2) + 1) < d = subst (λ (x : ℕ). x * x < d) g (lt_of_le-ne h.0 (tie z)) in
      let m : (2 * (r / 2) + 1) * (2 * (r / 2) + 1) * (2 ^ j * 2 ^ j) < n = lt_of_lt_of_le (mul-lt-mul_of_pos_right l S_pos) (le_of_eq (sym e)) in
      ap (nearest (r / 2)) (compare_gt (4 * n) ((2 * (r / 2) + 1) * 2 ^ (j + 1) * ((2 * (r / 2) + 1) * 2 ^ (j + 1))) (omega (arith, middle))) ∙ omega arith

  pub root_of_digits : root_of f n ≡ units f false ((r + 1) / 2) (j + 1)
  root_of_digits =
      root_of_at f n (r / 2) (j + 1) half_lo (omega arith) lower upper
      ∙ ap (λ (q : ℕ). units f false q (j + 1)) (go (r % 2) refl)
    where
      go : (t : ℕ) → r % 2 ≡ t → nearest (r / 2) (compare (4 * n) ((2 * (r / 2) + 1) * 2 ^ (j + 1) * ((2 * (r / 2) + 1) * 2 ^ (j + 1)))) ≡ (r + 1) / 2
      go zero z = even z
      go (suc t) z = odd (omega arith)

-- ---- `root` of a number above zero, by its size in units of the smallest value
none : (a d u l : ℕ) → 0 < a → 0 < d → 0 * u * l ≡ a * d → ⊥
none a d u l A D e =
    let p : 0 < a * d = mul-pos A D in
    let z : 0 * u * l ≡ 0 = ap (λ (x : ℕ). x * l) (zero-mul u) ∙ zero-mul l in
    omega arith

pub root_value : (f : Format) (x : Float) (a : ℕ) → HasValue x false a (2 ^ low f) → 0 < a → root f x ≡ root_of f (a * 2 ^ low f)
unfolding root
root_value f nan a h p = absurd h
root_value f (inf s) a h p = absurd h
root_value f (fin true m e) a h p = absurd (true≢false h.0)
root_value f (fin false zero e) a h p = absurd (none a (down e) (up e) (2 ^ low f) p (down_pos e) h.1)
root_value f (fin false (suc m) e) a h p =
    ap (root_of f)
    (ap (λ (z : ℕ). z * 2 ^ low f / down e) h.1 ∙ ap (λ (z : ℕ). z / down e) (mul_right_comm a (down e) (2 ^ low f)) ∙ mul-div_cancel (a * 2 ^ low f) (down_pos e))

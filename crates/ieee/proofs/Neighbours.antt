-- Two floats next to each other: where q has all the digits that the format keeps, no float of it lies between q * 2 ^ k and (q + 1) * 2 ^ k units of its smallest value. Assumes nothing.
use Rattle.std.specs.Prelude.{◌≡◌, ℕ, zero, suc, ◌+◌, ◌-◌, ◌*◌, ◌%◌, ◌^◌, ◌≤◌, ◌<◌, true, false, ◌&&◌, T, leb, ltb, eqb, Float}
use Rattle.std.proofs.Common.{sym, ap, ◌∙◌, subst, le_trans, le_of_eq, lt_irrefl, lt_of_lt_of_le, lt_of_le_of_lt, lt_of_not-le, zero-mul, mul_comm, mul_assoc, mul-le-mul_right, mul-le-mul_left, arith, true≢false, leb→le, ltb→lt, pow-add, pow_mono}
use Rattle.std.proofs.Math.Nat.{eq_of_mul-eq-mul_right, two-pow-succ}
use Rattle.std.proofs.Math.Decide.{dec_lt}
use Rattle.std.specs.Float.{nan, inf, fin, Format}
use Rattle.std.specs.Float.Ieee.{prec, emax, low, up, down, fits}
use Rattle.std.specs.Float.Ieee.Fits.{two, and_l, and_r, down_pos}
use Rattle.std.specs.Float.Ieee.Exact.{HasValue}
use Rattle.ieee.proofs.Bracket.{in_power}

less_back : (x y c : ℕ) → x * c < y * c → x < y
less_back x y c h = lt_of_not-le (λ (g : y ≤ x). lt_irrefl (x * c) (lt_of_lt_of_le h (mul-le-mul_right c g)))

-- a number of the format is m * 2 ^ i units, m of at most prec digits
next : (p m i q k : ℕ) → 2 ≤ p → m < 2 ^ p → 2 ^ (p - 1) ≤ q → q * 2 ^ k < m * 2 ^ i → (q + 1) * 2 ^ k ≤ m * 2 ^ i
next p m i q k P M Q h = by (dec_lt i k)
  where
    below : {x y : ℕ} → x < y → x + 1 ≤ y
    below l = omega arith

    aligned : (t : ℕ) → k + t ≡ i → (q + 1) * 2 ^ k ≤ m * 2 ^ i
    aligned t e =
        let w : m * 2 ^ i ≡ m * 2 ^ t * 2 ^ k = ap (λ (z : ℕ). m * 2 ^ z) (sym e) ∙ ap (λ (z : ℕ). m * z) (pow-add 2 k t ∙ mul_comm (2 ^ k) (2 ^ t)) ∙ sym (mul_assoc m (2 ^ t) (2 ^ k)) in
        le_trans (mul-le-mul_right (2 ^ k) (below (less_back q (m * 2 ^ t) (2 ^ k) (lt_of_lt_of_le h (le_of_eq w))))) (le_of_eq (sym w))

    twice : 2 ^ p ≤ 2 * q
    twice = let e : 2 ^ p ≡ 2 ^ (p - 1) + 2 ^ (p - 1) = ap (λ (z : ℕ). 2 ^ z) (one p P) ∙ two-pow-succ (p - 1) in omega arith
      where
        one : (p : ℕ) → 2 ≤ p → p ≡ suc (p - 1)
        one p P = omega arith

    finer : (t : ℕ) → i + suc t ≡ k → ⊥
    finer t e =
        let w : q * 2 ^ k ≡ q * 2 ^ suc t * 2 ^ i = ap (λ (z : ℕ). q * 2 ^ z) (sym e) ∙ ap (λ (z : ℕ). q * z) (pow-add 2 i (suc t) ∙ mul_comm (2 ^ i) (2 ^ suc t)) ∙ sym (mul_assoc q (2 ^ suc t) (2 ^ i)) in
        let l : q * 2 ^ suc t < m = less_back (q * 2 ^ suc t) m (2 ^ i) (lt_of_le_of_lt (le_of_eq (sym w)) h) in
        let g : q * 2 ≤ q * 2 ^ suc t = mul-le-mul_left q (pow_mono {i = 1} {j = suc t} (omega arith)) in
        let s : 2 ^ p ≤ 2 * q = twice in
        omega arith

    by : Dec (i < k) → (q + 1) * 2 ^ k ≤ m * 2 ^ i
    by (yes l) = absurd (finer (k - suc i) (omega arith))
    by (no l) = aligned (i - k) (omega (arith, l))

pub neighbours : (f : Format) (x : Float) (a q k : ℕ) → T (fits f x) → HasValue x false a (2 ^ low f) → 2 ^ (prec f - 1) ≤ q → q * 2 ^ k < a → (q + 1) * 2 ^ k ≤ a
unfolding fits
neighbours f nan a q k t v Q h = absurd v
neighbours f (inf s) a q k t v Q h = absurd v
neighbours f (fin true m e) a q k t v Q h = absurd (true≢false v.0)
neighbours f (fin false zero e) a q k t v Q h =
    let z : 0 * down e ≡ a * down e = zero-mul (down e) ∙ sym (ap (λ (y : ℕ). y * 2 ^ low f) (zero-mul (up e)) ∙ zero-mul (2 ^ low f)) ∙ v.1 in
    let n : 0 ≡ a = eq_of_mul-eq-mul_right (down e) (down_pos e) 0 a z in
    absurd (omega arith)
neighbours f (fin false (suc m) e) a q k t v Q h =
    let A = eqb (suc m % 2) 1 in
    let B = ltb (suc m) (2 ^ prec f) in
    let C = leb (down e) (2 ^ low f) in
    let abc = and_l (A && B && C) (ltb (suc m * up e) (2 ^ suc (emax f) * down e)) t in
    let w = in_power (low f) (suc m) e (leb→le (down e) (2 ^ low f) (and_r (A && B) C abc)) in
    let i : a ≡ suc m * 2 ^ w.0 = eq_of_mul-eq-mul_right (down e) (down_pos e) a (suc m * 2 ^ w.0) (sym v.1 ∙ w.1) in
    subst (λ (z : ℕ). (q + 1) * 2 ^ k ≤ z) (sym i)
    (next (prec f) (suc m) w.0 q k (two f) (ltb→lt (suc m) (2 ^ prec f) (and_r A B (and_l (A && B) C abc))) Q (subst (λ (z : ℕ). q * 2 ^ k < z) i h))

-- No number within the bounds is nearer to an entry than what the box puts, in exact distances. Assumes nothing.
use Rattle.std.specs.Prelude.{◌≡◌, refl, ℕ, ◌+◌, ◌*◌, ◌≤◌, Bool, true, false, ◌&&◌, not, cond, ℤ, Float}
use Rattle.std.proofs.Common.{sym, ap, ◌∙◌, arith, true≢false, zero-mul, zero-le, le_trans, le_of_eq, mul-le-mul_right}
use Rattle.std.proofs.lemmas.Bool.{and_parts, ltb-true}
use Rattle.std.proofs.lemmas.Float.{le_refl, le_of_not-lt, T_from_false}
use Rattle.std.specs.Float.{nan, inf, fin, ◌≤ᶠ◌}
use Rattle.std.specs.Float.Ieee.{lt, is_nan}
use Rattle.std.specs.Float.Ieee.Scale.{finite}
use Rattle.constraints.specs.Exact.{Rational, exact, plus, minus, AtMost, gap, NoNearer}
use Rattle.constraints.specs.Box.{clamped, bounds_right}
use Rattle.constraints.specs.Claims.{NotNearer, Nearest, Inside}

-- ---- of rational numbers

-- where a - b = d and a' - b' is at most g
weigh : (a b d a' b' g x y : ℕ) → a ≡ b + d → a' ≤ b' + g → a * x + b' * y ≤ a' * y + b * x → d * x ≤ g * y
weigh a b d a' b' g x y e h l =
    let p : a * x ≡ (b + d) * x = ap (λ (k : ℕ). k * x) e in
    let q : a' * y ≤ (b' + g) * y = mul-le-mul_right y h in
    omega arith

-- x ≤ c ≤ q
below : (x c q : Rational) → AtMost x c → AtMost c q → NoNearer x c q
below x c q h k =
    weigh (plus c * x.over + minus x * c.over) (plus x * c.over + minus c * x.over) (gap c x) (plus q * x.over + minus x * q.over) (plus x * q.over + minus q * x.over) (gap q x) q.over c.over
    (omega arith) (omega arith) (let m : (plus c * q.over + minus q * c.over) * x.over ≤ (plus q * c.over + minus c * q.over) * x.over = mul-le-mul_right x.over k in omega arith)

-- q ≤ c ≤ x
above : (x c q : Rational) → AtMost c x → AtMost q c → NoNearer x c q
above x c q h k =
    weigh (plus x * c.over + minus c * x.over) (plus c * x.over + minus x * c.over) (gap c x) (plus x * q.over + minus q * x.over) (plus q * x.over + minus x * q.over) (gap q x) q.over c.over
    (omega arith) (omega arith) (let m : (plus q * c.over + minus c * q.over) * x.over ≤ (plus c * q.over + minus q * c.over) * x.over = mul-le-mul_right x.over k in omega arith)

-- x itself
itself : (x q : Rational) → NoNearer x x q
itself x q = let z : gap x x ≡ 0 = omega arith in le_trans (le_of_eq (ap (λ (k : ℕ). k * q.over) z ∙ zero-mul q.over)) zero-le

-- ---- of floats

lt_exact : (s : Bool) (m : ℕ) (e : ℤ) (t : Bool) (n : ℕ) (d : ℤ) → lt (fin s m e) (fin t n d) ≡ true → AtMost (exact s m e) (exact t n d)
unfolding lt
lt_exact false m e false n d h = let k = ltb-true _ _ h in omega arith
lt_exact false m e true n d h = absurd (true≢false (sym h))
lt_exact true m e false n d h = omega arith
lt_exact true m e true n d h = let k = ltb-true _ _ h in omega arith

pub nearest : Nearest
unfolding clamped lt bounds_right is_nan
nearest nan upper x q b i o w = absurd w
nearest (inf s) upper x q b i o w = absurd w
nearest (fin s m e) nan x q b i o w = absurd w
nearest (fin s m e) (inf t) x q b i o w = absurd w
nearest (fin s m e) (fin t n d) nan q b i o w = absurd (true≢false i)
nearest (fin s m e) (fin t n d) (inf false) q b i o w = w.1
nearest (fin s m e) (fin t n d) (inf true) q b i o w = w.0
nearest (fin s m e) (fin t n d) (fin r k g) q b i o w = by (lt (fin r k g) (fin s m e)) (lt (fin t n d) (fin r k g)) refl refl
  where
    by : (x y : Bool) → lt (fin r k g) (fin s m e) ≡ x → lt (fin t n d) (fin r k g) ≡ y → NotNearer (fin r k g) (cond x (fin s m e) (cond y (fin t n d) (fin r k g))) q
    by true y p v = below (exact r k g) (exact s m e) q (lt_exact r k g s m e p) w.0
    by false true p v = above (exact r k g) (exact t n d) q (lt_exact t n d r k g v) w.1
    by false false p v = itself (exact r k g) q

finite_number : (x : Float) → finite x ≡ true → is_nan x ≡ false
unfolding is_nan
finite_number nan h = absurd (true≢false (sym h))
finite_number (inf s) h = absurd (true≢false (sym h))
finite_number (fin s m e) h = refl

not_true : (b : Bool) → not b ≡ true → b ≡ false
not_true true h = absurd (true≢false (sym h))
not_true false h = refl

pub inside : Inside
unfolding clamped bounds_right
inside lower upper x b i = by (lt x lower) (lt upper x) refl refl
  where
    numbers : (is_nan lower ≡ false) × (is_nan upper ≡ false) × (lt upper lower ≡ false)
    numbers =
        let w = and_parts (finite lower && finite upper) (not (lt upper lower)) b in
        let v = and_parts (finite lower) (finite upper) w.0 in
        (finite_number lower v.0, finite_number upper v.1, not_true (lt upper lower) w.1)

    in_order : lower ≤ᶠ upper
    in_order = le_of_not-lt upper lower (T_from_false _ numbers.1) (T_from_false _ numbers.0) (T_from_false _ numbers.2)

    by : (p q : Bool) → lt x lower ≡ p → lt upper x ≡ q → (lower ≤ᶠ cond p lower (cond q upper x)) × (cond p lower (cond q upper x) ≤ᶠ upper)
    by true q h k = (le_refl lower (T_from_false _ numbers.0), in_order)
    by false true h k = (in_order, le_refl upper (T_from_false _ numbers.1))
    by false false h k = (le_of_not-lt x lower (T_from_false _ i) (T_from_false _ numbers.0) (T_from_false _ h), le_of_not-lt upper x (T_from_false _ numbers.1) (T_from_false _ i) (T_from_false _ k))

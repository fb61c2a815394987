-- Reading what was printed gives the number back. Assumes nothing.
use Rattle.std.specs.Prelude.{◌≡◌, refl, Bool, true, false, cond, List, [], ◌∷◌, ◌++◌, ℕ, zero, suc, ◌+◌, ◌-◌, ◌*◌, ◌/◌, ◌%◌, ◌^◌, ◌≤◌, ◌<◌, T, ltb, length, get_or, Float}
use Rattle.std.proofs.Common.{sym, ap, ◌∙◌, subst, lt_of_lt_of_le, div-lt_iff_lt-mul, le-div_iff_mul-le, pow-suc, mod-lt, div-add-mod', arith, lit<, lit≤, ltb-true, ltb-false, lt-ltb, le-ltb, eq-eqb}
use Rattle.std.specs.Prelude.{Option, None, Some}
use Rattle.std.proofs.Math.Nat.{pow-zero}
use Rattle.std.proofs.Math.ListN.{get_or-append}
use Rattle.std.specs.Float.{nan, binary64}
use Rattle.std.specs.Float.Ieee.{fits, to_bits}
use Rattle.std.specs.Float.Ieee.Bits.{of_bits-to_bits, to_bits-lt}
use Rattle.words.specs.Digits.{digit, numeral, glyph, digits, places_in}
use Rattle.words.specs.Reading.{hex_of, by_bits, float_of, under, alone, whole_of}
use Rattle.words.specs.Printing.{float_word, whole_word}
use Rattle.words.specs.Numerals.{whole_plain, under_some}
use Rattle.words.proofs.Written.{length_digits}

-- a digit's byte counts the digit
pub digit_glyph : (d : ℕ) → d < 16 → digit (glyph d) ≡ d
unfolding digit glyph
digit_glyph d h = go (ltb d 10) refl
  where
    go : (t : Bool) → ltb d 10 ≡ t → digit (cond t (48 + d) (87 + d)) ≡ d
    go true e =
        let l : d < 10 = ltb-true d 10 e in
        rw (le-ltb (48 + d) 48 (omega arith), lt-ltb (48 + d) 58 (omega arith)) (omega arith)
    go false e =
        let l : 10 ≤ d = ltb-false d 10 e in
        rw (le-ltb (87 + d) 48 (omega arith), le-ltb (87 + d) 58 (omega arith), le-ltb (87 + d) 97 (omega arith), lt-ltb (87 + d) 103 (omega arith)) (omega arith)

-- a numeral with one more digit
more : ℕ → ℕ → Option ℕ → Option ℕ
more b c None = None
more b c (Some n) = cond (ltb (digit c) b) (Some (n * b + digit c)) None

numeral_snoc : (b a : ℕ) (w : List ℕ) (c : ℕ) → numeral b a (w ++ (c ∷ [])) ≡ more b c (numeral b a w)
unfolding numeral more
numeral_snoc b a [] c = refl
numeral_snoc b a (x ∷ w) c = go (ltb (digit x) b) (numeral_snoc b (a * b + digit x) w c)
  where
    go : (t : Bool) → numeral b (a * b + digit x) (w ++ (c ∷ [])) ≡ more b c (numeral b (a * b + digit x) w)
        → cond t (numeral b (a * b + digit x) (w ++ (c ∷ []))) None ≡ more b c (cond t (numeral b (a * b + digit x) w) None)
    go true e = e
    go false e = refl

-- the digits of a number read as the number
pub numeral_digits : (b k n : ℕ) → 0 < b → b ≤ 16 → n < b ^ k → numeral b 0 (digits b k n) ≡ Some n
unfolding digits numeral more
numeral_digits b zero n p h l = let z : 0 ≡ n = omega (arith, pow-zero b) in ap Some z
numeral_digits b (suc k) n p h l =
    let d : n % b < b = mod-lt n p in
    let e : digit (glyph (n % b)) ≡ n % b = digit_glyph (n % b) (lt_of_lt_of_le d h) in
    let r : numeral b 0 (digits b k (n / b)) ≡ Some (n / b) = numeral_digits b k (n / b) p h ((div-lt_iff_lt-mul p).1 (subst (λ (m : ℕ). n < m) (pow-suc b k) l)) in
    numeral_snoc b 0 (digits b k (n / b)) (glyph (n % b)) ∙ rw (r, e, lt-ltb (n % b) b d, div-add-mod' n b)

-- ---- floats
pub float_back : (x : Float) → T (fits binary64 x) → float_of (float_word x) ≡ Some x
unfolding float_of float_word hex_of by_bits
float_back x h =
    rw (eq-eqb (length (digits 16 16 (to_bits binary64 x))) 16 (length_digits 16 16 (to_bits binary64 x)), numeral_digits 16 16 (to_bits binary64 x) (lit< tt) (lit≤ tt) (to_bits-lt binary64 x h))
    (ap Some (of_bits-to_bits binary64 x h))

-- NaN is printed as 7ff8000000000000
pub nan_word : float_word nan ≡ 55 ∷ 102 ∷ 102 ∷ 56 ∷ 48 ∷ 48 ∷ 48 ∷ 48 ∷ 48 ∷ 48 ∷ 48 ∷ 48 ∷ 48 ∷ 48 ∷ 48 ∷ 48 ∷ []
unfolding float_word to_bits digits glyph
nan_word = refl

-- ---- whole numbers
-- a number above zero has as many digits as are counted
counted : (f n : ℕ) → 1 ≤ n → n < 10 ^ suc f → (1 ≤ places_in f n) × (10 ^ (places_in f n - 1) ≤ n) × (n < 10 ^ places_in f n)
unfolding places_in
counted zero n p h = (lit≤ tt, p, h)
counted (suc f) n p h = go (ltb n 10) refl (counted f (n / 10))
  where
    go : (t : Bool) → ltb n 10 ≡ t → (1 ≤ n / 10 → n / 10 < 10 ^ suc f → (1 ≤ places_in f (n / 10)) × (10 ^ (places_in f (n / 10) - 1) ≤ n / 10) × (n / 10 < 10 ^ places_in f (n / 10)))
        → (1 ≤ cond t 1 (suc (places_in f (n / 10)))) × (10 ^ (cond t 1 (suc (places_in f (n / 10))) - 1) ≤ n) × (n < 10 ^ cond t 1 (suc (places_in f (n / 10))))
    go true e r = (lit≤ tt, p, ltb-true n 10 e)
    go false e r =
        let l : 10 ≤ n = ltb-false n 10 e in
        let s = r (omega arith) ((div-lt_iff_lt-mul (lit< tt)).1 (subst (λ (m : ℕ). n < m) (pow-suc 10 (suc f)) h)) in
        let k = places_in f (n / 10) in
        let back : suc k - 1 ≡ suc (k - 1) = omega (arith, s.0) in
        (omega arith, subst (λ (m : ℕ). 10 ^ m ≤ n) (sym back) (subst (λ (m : ℕ). m ≤ n) (sym (pow-suc 10 (k - 1))) ((le-div_iff_mul-le (lit< tt)).0 s.1)), subst (λ (m : ℕ). n < m) (sym (pow-suc 10 k)) ((div-lt_iff_lt-mul (lit< tt)).0 s.2))

-- its first digit is not zero
leading : (k n : ℕ) → 10 ^ k ≤ n → n < 10 ^ suc k → get_or (digits 10 (suc k) n) 0 0 ≡ 48 → ⊥
unfolding digits glyph
leading zero n p h e = let l : n % 10 ≡ n = omega arith in let y : n < 10 = h in let z : 48 + n ≡ 48 = rw (l, lt-ltb n 10 y) at e in omega arith
leading (suc k) n p h e =
    leading k (n / 10) ((le-div_iff_mul-le (lit< tt)).1 (subst (λ (m : ℕ). m ≤ n) (pow-suc 10 k) p)) ((div-lt_iff_lt-mul (lit< tt)).1 (subst (λ (m : ℕ). n < m) (pow-suc 10 (suc k)) h))
    (sym (get_or-append (digits 10 (suc k) (n / 10)) (glyph (n % 10) ∷ []) 0 0 (subst (λ (m : ℕ). 0 < m) (sym (length_digits 10 (suc k) (n / 10))) (omega arith))) ∙ e)

-- a word of that many digits reads as the number
spelt : (n p : ℕ) → 1 ≤ p → 10 ^ (p - 1) ≤ n → n < 10 ^ p → n < 2 ^ 64 → whole_of (2 ^ 64) (digits 10 p n) ≡ Some n
spelt n zero z a b h = absurd (omega arith)
spelt n (suc k) z a b h =
    let same : suc k - 1 ≡ k = omega arith in
    let some-digit : length (digits 10 (suc k) n) ≡ suc k = length_digits 10 (suc k) n in
    whole_plain (2 ^ 64) (digits 10 (suc k) n) (λ e. absurd (omega arith)) (leading k n (subst (λ (m : ℕ). 10 ^ m ≤ n) same a) b)
    ∙ ap (under (2 ^ 64)) (numeral_digits 10 (suc k) n (lit< tt) (lit≤ tt) b)
    ∙ under_some (2 ^ 64) n h

pub whole_back : (n : ℕ) → n < 2 ^ 64 → whole_of (2 ^ 64) (whole_word n) ≡ Some n
unfolding whole_word whole_of alone digits places_in glyph
whole_back zero h = refl
whole_back (suc n) h =
    let c = counted 19 (suc n) (omega arith) (lt_of_lt_of_le h (lit≤ tt)) in
    spelt (suc n) (places_in 19 (suc n)) c.0 c.1 c.2 h

-- Laws for what is printed: digits, and floats one behind the other. Assumes nothing.
use Rattle.std.specs.Prelude.{◌≡◌, refl, List, [], ◌∷◌, ◌++◌, ℕ, zero, suc, ◌+◌, ◌-◌, ◌*◌, ◌/◌, ◌%◌, ◌^◌, ◌≤◌, ◌<◌, length, get_or, drop, Bool, true, false, cond, ltb, Float}
use Rattle.std.proofs.Common.{sym, ap, ◌∙◌, subst, append_assoc, append-nil, add-one, arith, length-append, drop_of_length-le, lit≤, lit<, lt-ltb, le-ltb, div-lt_iff_lt-mul, pow-suc}
use Rattle.std.proofs.Math.Seq.{drop-cons}
use Rattle.words.specs.Digits.{glyph, digits, places_in}
use Rattle.std.specs.Float.{nan}
use Rattle.words.specs.Printing.{float_word, floats_text, whole_word}

-- ---- digits
pub length_digits : (b k n : ℕ) → length (digits b k n) ≡ k
unfolding digits
length_digits b zero n = refl
length_digits b (suc k) n = length-append (digits b k (n / b)) (glyph (n % b) ∷ []) ∙ ap (λ (j : ℕ). j + 1) (length_digits b k (n / b)) ∙ add-one k

pub places_most : (k n : ℕ) → places_in k n ≤ suc k
unfolding places_in
places_most zero n = lit≤ tt
places_most (suc k) n = go (ltb n 10) (places_most k (n / 10))
  where
    go : (t : Bool) → places_in k (n / 10) ≤ suc k → cond t 1 (suc (places_in k (n / 10))) ≤ suc (suc k)
    go true h = omega arith
    go false h = omega arith

pub length_whole : (n : ℕ) → length (whole_word n) ≤ 20
unfolding whole_word
length_whole n = omega (arith, length_digits 10 (places_in 19 n) n, places_most 19 n)

-- the last digit behind the others
pub digits_last : (b k n g : ℕ) (l m out : List ℕ) → 0 < k → m ≡ l ++ digits b (k - 1) (n / b) → g ≡ glyph (n % b) → out ≡ m ++ (g ∷ []) → out ≡ l ++ digits b k n
unfolding digits
digits_last b zero n g l m out p e q r = absurd (omega arith)
digits_last b (suc k) n g l m out p e q r =
    let same : suc k - 1 ≡ k = omega arith in
    r ∙ rw (e, q, same) (append_assoc l (digits b k (n / b)) (glyph (n % b) ∷ []))

-- no digits
pub digits_none : (b k n : ℕ) (l : List ℕ) → k ≤ 0 → l ≡ l ++ digits b k n
unfolding digits
digits_none b zero n l h = sym (append-nil l)
digits_none b (suc k) n l h = absurd (omega arith)

-- one digit, and one digit more than the number without its last one
pub places_one : (k n : ℕ) → n < 10 → 1 ≡ places_in k n
unfolding places_in
places_one zero n h = refl
places_one (suc k) n h = rw (lt-ltb n 10 h) refl

pub places_more : (k n p : ℕ) → 10 ≤ n → n < 10 ^ suc k → ((j : ℕ) → n / 10 < 10 ^ suc j → p ≡ places_in j (n / 10)) → 1 + p ≡ places_in k n
unfolding places_in
places_more zero n p h l e = absurd (omega arith)
places_more (suc k) n p h l e =
    rw (le-ltb n 10 h) (omega (arith, e k ((div-lt_iff_lt-mul (lit< tt)).1 (subst (λ (m : ℕ). n < m) (pow-suc 10 (suc k)) l))))

-- ---- floats, one behind the other
pub length_float : (x : Float) → length (float_word x) ≡ 16
unfolding float_word
length_float x = length_digits 16 16 _

pub length_floats : (xs : List Float) → length (floats_text xs) ≡ 17 * length xs
unfolding floats_text
length_floats [] = refl
length_floats (x ∷ xs) = length-append (32 ∷ float_word x) (floats_text xs) ∙ omega (arith, length_float x, length_floats xs)

-- a float of those that are to come: a space, and its word
pub floats_turn : (xs : List Float) (i : ℕ) (l m out text : List ℕ) → i < length xs → l ++ floats_text (drop i xs) ≡ text → m ≡ l ++ (32 ∷ []) → out ≡ m ++ float_word (get_or xs i nan) → out ++ floats_text (drop (i + 1) xs) ≡ text
unfolding floats_text
floats_turn xs i l m out text h e p q =
    let w = float_word (get_or xs i nan) in
    let r = floats_text (drop (suc i) xs) in
    rw (add-one i, q, p) (append_assoc (l ++ (32 ∷ [])) w r ∙ append_assoc l (32 ∷ []) (w ++ r) ∙ ap (λ (ys : List Float). l ++ floats_text ys) (sym (drop-cons xs i nan h)) ∙ e)

-- none are to come
pub floats_end : (xs : List Float) (i : ℕ) (l text : List ℕ) → length xs ≤ i → l ++ floats_text (drop i xs) ≡ text → l ≡ text
unfolding floats_text
floats_end xs i l text h e = sym (append-nil l) ∙ ap (λ (ys : List Float). l ++ floats_text ys) (sym (drop_of_length-le xs h)) ∙ e

-- Laws for loops that read a numeral byte by byte, and for the forms of a whole number. Assumes nothing.
use Rattle.std.specs.Prelude.{◌≡◌, refl, Bool, true, false, cond, List, [], ◌∷◌, ℕ, suc, ◌+◌, ◌*◌, ◌^◌, ◌≤◌, ◌<◌, ltb, eqb, length, get_or, drop}
use Rattle.std.proofs.Common.{sym, ◌∙◌, subst, le_trans, add-one, arith, pow-add, drop_of_length-le}
use Rattle.std.proofs.Math.Path.{ap}
use Rattle.std.specs.Prelude.{Option, None, Some, Result, Ok, Err}
use Rattle.std.specs.Result.{OkIff, result_ok}
use Rattle.std.specs.Bool.{then_some}
use Rattle.std.proofs.Math.Arith.{digits_lt}
use Rattle.std.proofs.Math.Seq.{drop-cons}
use borrow.Author.Tests.{lt-ltb, le-ltb, eq-eqb, ne_eqb, ltb-true, ltb-false}
use Rattle.std.proofs.Math.Nat.{le-mul_of_pos_right}
use Rattle.std.proofs.lemmas.Option.{cond_some}
use Rattle.words.specs.Digits.{digit, digit_of, numeral}
use Rattle.words.specs.Reading.{hex_of, under, alone, whole_of}

-- ---- a turn of reading: a digit of the base, a byte that is none, the end
module _ (b a : ℕ) (w : List ℕ) (i : ℕ) where
  pub numeral_turn : i < length w → digit (get_or w i 0) < b → numeral b a (drop i w) ≡ numeral b (a * b + digit (get_or w i 0)) (drop (i + 1) w)
  unfolding numeral
  numeral_turn h d = rw (add-one i, drop-cons w i 0 h, lt-ltb (digit (get_or w i 0)) b d)

  pub numeral_stop : i < length w → b ≤ digit (get_or w i 0) → numeral b a (drop i w) ≡ None
  unfolding numeral
  numeral_stop h d = rw (drop-cons w i 0 h, le-ltb (digit (get_or w i 0)) b d)

  pub numeral_end : length w ≤ i → numeral b a (drop i w) ≡ Some a
  unfolding numeral
  numeral_end h = rw (drop_of_length-le w h)

-- ---- how large a hexadecimal numeral of i digits gets
pub hex_grows : (i b d : ℕ) → b < 2 ^ (4 * i) → d < 16 → b * 16 + d < 2 ^ (4 * (i + 1))
hex_grows i b d h l =
    let e : 2 ^ (4 * i) * 16 ≡ 2 ^ (4 * (i + 1)) = sym (pow-add 2 (4 * i) 4) ∙ ap (λ (k : ℕ). 2 ^ k) (omega arith) in
    subst (λ (k : ℕ). b * 16 + d < k) e (digits_lt h l)

-- ---- a number that is too large stays so as digits follow
under_none : (m a : ℕ) → m ≤ a → under m (Some a) ≡ None
unfolding under
under_none m a h = rw (le-ltb a m h)

pub under_some : (m a : ℕ) → a < m → under m (Some a) ≡ Some a
unfolding under
under_some m a h = rw (lt-ltb a m h)

under_cond : (m : ℕ) (t : Bool) (o : Option ℕ) → under m o ≡ None → under m (cond t o None) ≡ None
unfolding under
under_cond m true o e = e
under_cond m false o e = refl

pub numeral_large : (m b a : ℕ) (w : List ℕ) → 0 < b → m ≤ a → under m (numeral b a w) ≡ None
unfolding numeral
numeral_large m b a [] z h = under_none m a h
numeral_large m b a (c ∷ w) z h = under_cond m (ltb (digit c) b) (numeral b (a * b + digit c) w) (numeral_large m b (a * b + digit c) w z (omega (arith, le-mul_of_pos_right a z)))

-- ---- the forms of a whole number
pub whole_empty : (m : ℕ) (w : List ℕ) → length w ≡ 0 → whole_of m w ≡ None
unfolding whole_of
whole_empty m [] h = refl
whole_empty m (c ∷ w) h = absurd (omega arith)

pub whole_zero : (m : ℕ) (w t : List ℕ) (c : ℕ) → w ≡ c ∷ t → c ≡ 48 → whole_of m w ≡ then_some (eqb (length t) 0) 0
unfolding whole_of alone
whole_zero m w [] c e h = rw (e, eq-eqb c 48 h)
whole_zero m w (d ∷ t) c e h = rw (e, eq-eqb c 48 h, ne_eqb (suc (length t)) 0 (λ e. omega arith))

pub whole_plain : (m : ℕ) (w : List ℕ) → (length w ≡ 0 → ⊥) → (get_or w 0 0 ≡ 48 → ⊥) → whole_of m w ≡ under m (numeral 10 0 w)
unfolding whole_of
whole_plain m [] h e = absurd (h refl)
whole_plain m (c ∷ w) h e = rw (ne_eqb c 48 e)

-- a lower limit is one more test
under_under : (m k : ℕ) (o : Option ℕ) → m ≤ k → under m o ≡ under m (under k o)
unfolding under
under_under m k None h = refl
under_under m k (Some n) h = go (ltb n k) refl
  where
    go : (t : Bool) → ltb n k ≡ t → cond (ltb n m) (Some n) None ≡ under m (cond t (Some n) None)
    go true e = refl
    go false e = rw (le-ltb n m (le_trans h (borrow.Author.Tests.ltb-false n k e)))

under_alone : (m : ℕ) (w : List ℕ) → 0 < m → alone w ≡ under m (alone w)
unfolding alone under
under_alone m [] h = sym (under_some m 0 h)
under_alone m (c ∷ w) h = refl

pub whole_less : (m k : ℕ) (w : List ℕ) → 0 < m → m ≤ k → whole_of m w ≡ under m (whole_of k w)
unfolding whole_of under
whole_less m k [] z h = refl
whole_less m k (c ∷ w) z h = go (eqb c 48)
  where
    go : (t : Bool) → cond t (alone w) (under m (numeral 10 0 (c ∷ w))) ≡ under m (cond t (alone w) (under k (numeral 10 0 (c ∷ w))))
    go true = under_alone m w z
    go false = under_under m k (numeral 10 0 (c ∷ w)) h

pub under_ok : {E : Type 0} (m n : ℕ) (r : Result ℕ E) → OkIff r (n < m) n → result_ok r ≡ under m (Some n)
unfolding under
under_ok m n (Ok x) h = rw (lt-ltb n m h.0, h.1)
under_ok m n (Err e) h = rw (le-ltb n m (omega (arith, h)))

-- ---- what a byte counts
pub digit_some : (c d : ℕ) → digit_of c ≡ Some d → digit c ≡ d
digit_some c d e = (cond_some (ltb (digit c) 16) (digit c) d e).1

pub digit_none : (c : ℕ) → digit_of c ≡ None → 16 ≤ digit c
digit_none c e = go (ltb (digit c) 16) refl e
  where
    go : (t : Bool) → ltb (digit c) 16 ≡ t → cond t (Some (digit c)) None ≡ None → 16 ≤ digit c
    go true q e = cc
    go false q e = ltb-false (digit c) 16 q

-- ---- the same turn, of a numeral below m
module _ (m b a : ℕ) (w : List ℕ) (i : ℕ) (z : 0 < b) (r : under m (numeral b a (drop i w)) ≡ under m (numeral b 0 w)) (h : i < length w) where
  pub under_next : (d : ℕ) → digit_of (get_or w i 0) ≡ Some d → d < b → under m (numeral b (a * b + d) (drop (i + 1) w)) ≡ under m (numeral b 0 w)
  under_next d e l =
      let q = digit_some (get_or w i 0) d e in
      sym (ap (under m) (numeral_turn b a w i h (subst (λ (k : ℕ). k < b) (sym q) l) ∙ ap (λ (k : ℕ). numeral b (a * b + k) (drop (i + 1) w)) q)) ∙ r

  pub under_stop : (d : ℕ) → digit_of (get_or w i 0) ≡ Some d → b ≤ d → under m (numeral b 0 w) ≡ None
  unfolding under
  under_stop d e l = sym r ∙ ap (under m) (numeral_stop b a w i h (subst (λ (k : ℕ). b ≤ k) (sym (digit_some (get_or w i 0) d e)) l))

  pub under_other : b ≤ 16 → digit_of (get_or w i 0) ≡ None → under m (numeral b 0 w) ≡ None
  unfolding under
  under_other l e = sym r ∙ ap (under m) (numeral_stop b a w i h (omega (arith, digit_none (get_or w i 0) e)))

  pub under_over : (d : ℕ) → digit_of (get_or w i 0) ≡ Some d → d < b → m ≤ a * b + d → under m (numeral b 0 w) ≡ None
  under_over d e l o = sym (under_next d e l) ∙ numeral_large m b (a * b + d) (drop (i + 1) w) z o

pub under_end : (m b a : ℕ) (w : List ℕ) (i : ℕ) → under m (numeral b a (drop i w)) ≡ under m (numeral b 0 w) → length w ≤ i → a < m → under m (numeral b 0 w) ≡ Some a
under_end m b a w i r h l = sym r ∙ ap (under m) (numeral_end b a w i h) ∙ under_some m a l

-- ---- 16 hexadecimal digits
-- k + length w of them are below 2 ^ (4 * (k + length w))
numeral_fits : (m k a : ℕ) (w : List ℕ) → m ≡ 2 ^ (4 * (k + length w)) → a < 2 ^ (4 * k) → under m (numeral 16 a w) ≡ numeral 16 a w
unfolding numeral under
numeral_fits m k a [] e h = under_some m a (subst (λ (n : ℕ). a < n) (sym (e ∙ ap (λ (j : ℕ). 2 ^ (4 * j)) (omega arith))) h)
numeral_fits m k a (c ∷ w) e h = go (ltb (digit c) 16) refl (λ l. numeral_fits m (k + 1) (a * 16 + digit c) w (e ∙ ap (λ (j : ℕ). 2 ^ (4 * j)) (omega arith)) (hex_grows k a (digit c) h l))
  where
    go : (t : Bool) → ltb (digit c) 16 ≡ t → (digit c < 16 → under m (numeral 16 (a * 16 + digit c) w) ≡ numeral 16 (a * 16 + digit c) w) → under m (cond t (numeral 16 (a * 16 + digit c) w) None) ≡ cond t (numeral 16 (a * 16 + digit c) w) None
    go true q f = f (ltb-true (digit c) 16 q)
    go false q f = refl

pub hex_short : (w : List ℕ) → (length w ≡ 16 → ⊥) → hex_of w ≡ None
unfolding hex_of
hex_short w h = rw (ne_eqb (length w) 16 h)

pub hex_long : (w : List ℕ) → length w ≡ 16 → hex_of w ≡ under (2 ^ 64) (numeral 16 0 w)
unfolding hex_of
hex_long w h =
    let e : 64 ≡ 4 * (0 + length w) = omega arith in
    rw (eq-eqb (length w) 16 h) (sym (numeral_fits (2 ^ 64) 0 0 w (ap (λ (j : ℕ). 2 ^ j) e) (omega arith)))

-- Laws for the loops of the sets: what a turn at place i adds. Assumes nothing.
use Rattle.std.specs.Prelude.{ℕ, zero, suc, ◌+◌, ◌<◌, ◌≡◌, refl, Bool, true, false, ◌&&◌, not, cond, length, get_or, set, take, drop, T, ◌⊎◌, Float}
use Rattle.std.proofs.lemmas.Float.{lt_irrefl, lt_of_lt_of_le, le_of_not-lt, T_from_true, T_from_false}
use Rattle.std.proofs.Common.{inl, inr, subst, sym, ap, ◌∙◌, add-one, not-suc-le-zero, le_of_suc-le-suc, arith}
use Rattle.std.proofs.Math.Seq.{drop-cons, drop-length}
use mathlib.Core.List.{List, [], ◌∷◌, ◌++◌, zip_with}
use Rattle.std.specs.Float.{nan, inf, fin, Format, binary64}
use Rattle.std.specs.Float.Ieee.{add, sub, mul, lt, le, eq, is_nan, of_bits, of_fields}
use Rattle.std.specs.Float.Ieee.Scale.{finite}
use Rattle.ieee.specs.Numbers.{null}
use Rattle.ieee.proofs.Special.{zero_bits}
use Rattle.ieee.specs.Root.{root}
use Rattle.ieee.specs.Sums.{squares_from, squares, norm}
use Rattle.model.specs.Vectors.{minus, all_finite}
use Rattle.constraints.specs.Box.{clamped, rectangle, bounds_right, rectangle_right}
use Rattle.constraints.specs.Ball.{distance, pulled, ball2, ball_right}

-- ---- a vector v that is written over by r place by place: after i turns it is `take i r ++ drop i v`

overwrite : (r v : List Float) (i : ℕ) (y : Float) → length r ≡ length v → i < length v → y ≡ get_or r i nan → set (take i r ++ drop i v) i y ≡ take (suc i) r ++ drop (suc i) v
overwrite [] [] i y e h p = absurd (not-suc-le-zero h)
overwrite [] (b ∷ v) i y e h p = absurd (omega arith)
overwrite (a ∷ r) [] i y e h p = absurd (omega arith)
overwrite (a ∷ r) (b ∷ v) zero y e h p = ap (λ (z : Float). z ∷ v) p
overwrite (a ∷ r) (b ∷ v) (suc i) y e h p = ap (λ (t : List Float). a ∷ t) (overwrite r v i y (omega arith) (le_of_suc-le-suc h) p)

-- a turn writes the place i of r
pub overwrite_turn : (r v : List Float) (i : ℕ) (y : Float) → length r ≡ length v → i < length v → y ≡ get_or r i nan → set (take i r ++ drop i v) i y ≡ take (i + 1) r ++ drop (i + 1) v
overwrite_turn r v i y e h p = rw (add-one i) (overwrite r v i y e h p)

-- and reads v there
pub unread : (r v : List Float) (i : ℕ) → length r ≡ length v → i < length v → get_or (take i r ++ drop i v) i nan ≡ get_or v i nan
unread [] [] i e h = absurd (not-suc-le-zero h)
unread [] (b ∷ v) i e h = absurd (omega arith)
unread (a ∷ r) [] i e h = absurd (omega arith)
unread (a ∷ r) (b ∷ v) zero e h = refl
unread (a ∷ r) (b ∷ v) (suc i) e h = unread r v i (omega arith) (le_of_suc-le-suc h)

-- after all turns it is r
pub overwritten : (r v : List Float) (n : ℕ) → length r ≡ length v → n ≡ length v → take n r ++ drop n v ≡ r
overwritten [] [] zero e h = refl
overwritten [] [] (suc n) e h = absurd (omega arith)
overwritten [] (b ∷ v) n e h = absurd (omega arith)
overwritten (a ∷ r) [] n e h = absurd (omega arith)
overwritten (a ∷ r) (b ∷ v) zero e h = absurd (omega arith)
overwritten (a ∷ r) (b ∷ v) (suc n) e h = ap (λ (t : List Float). a ∷ t) (overwritten r v n (omega arith) (omega arith))

-- ---- the box

pub length_rectangle : (l u v : List Float) → length l ≡ length v → length u ≡ length v → length (rectangle l u v) ≡ length v
unfolding rectangle
length_rectangle [] u v p q = p
length_rectangle (a ∷ l) [] v p q = absurd (omega arith)
length_rectangle (a ∷ l) (b ∷ u) [] p q = absurd (omega arith)
length_rectangle (a ∷ l) (b ∷ u) (x ∷ v) p q = ap suc (length_rectangle l u v (omega arith) (omega arith))

pub rectangle_at : (l u v : List Float) (i : ℕ) → length l ≡ length v → length u ≡ length v → i < length v → get_or (rectangle l u v) i nan ≡ clamped (get_or l i nan) (get_or u i nan) (get_or v i nan)
unfolding rectangle
rectangle_at [] u v i p q h = absurd (omega arith)
rectangle_at (a ∷ l) [] v i p q h = absurd (omega arith)
rectangle_at (a ∷ l) (b ∷ u) [] i p q h = absurd (omega arith)
rectangle_at (a ∷ l) (b ∷ u) (x ∷ v) zero p q h = refl
rectangle_at (a ∷ l) (b ∷ u) (x ∷ v) (suc i) p q h = rectangle_at l u v i (omega arith) (omega arith) (le_of_suc-le-suc h)

-- a turn of `rectangle::project`, on the vector w
pub clamp_turn : (l u v w : List Float) (i : ℕ) (y : Float) → length l ≡ length v → length u ≡ length v → w ≡ take i (rectangle l u v) ++ drop i v
    → y ≡ clamped (get_or l i nan) (get_or u i nan) (get_or w i nan) → i < length v → set w i y ≡ take (i + 1) (rectangle l u v) ++ drop (i + 1) v
clamp_turn l u v w i y p q e g h =
    let n = length_rectangle l u v p q in
    ap (λ (t : List Float). set t i y) e
    ∙ overwrite_turn (rectangle l u v) v i y n h
    (g ∙ ap (λ (t : List Float). clamped (get_or l i nan) (get_or u i nan) (get_or t i nan)) e ∙ ap (clamped (get_or l i nan) (get_or u i nan)) (unread (rectangle l u v) v i n h) ∙ sym (rectangle_at l u v i p q h))

-- ---- tests: those that are still to come say the whole

and_true : (b : Bool) → (b && true) ≡ b
and_true true = refl
and_true false = refl

rectangle_right_at : (l u : List Float) (i : ℕ) → length l ≡ length u → i < length l → rectangle_right (drop i l) (drop i u) ≡ (bounds_right (get_or l i nan) (get_or u i nan) && rectangle_right (drop (i + 1) l) (drop (i + 1) u))
unfolding rectangle_right
rectangle_right_at l u i e h = rw (drop-cons l i nan h, drop-cons u i nan (omega arith), add-one i)

pub bounds_fail : (l u : List Float) (i : ℕ) (w : Bool) → length l ≡ length u → rectangle_right (drop i l) (drop i u) ≡ w → false ≡ bounds_right (get_or l i nan) (get_or u i nan) → i < length l → false ≡ w
bounds_fail l u i w e k g h = ap (λ (t : Bool). t && rectangle_right (drop (i + 1) l) (drop (i + 1) u)) g ∙ sym (rectangle_right_at l u i e h) ∙ k

pub bounds_turn : (l u : List Float) (i : ℕ) (w : Bool) → length l ≡ length u → rectangle_right (drop i l) (drop i u) ≡ w → true ≡ bounds_right (get_or l i nan) (get_or u i nan) → i < length l → rectangle_right (drop (i + 1) l) (drop (i + 1) u) ≡ w
bounds_turn l u i w e k g h = ap (λ (t : Bool). t && rectangle_right (drop (i + 1) l) (drop (i + 1) u)) g ∙ sym (rectangle_right_at l u i e h) ∙ k

pub bounds_over : (l u : List Float) (i : ℕ) (w : Bool) → rectangle_right (drop i l) (drop i u) ≡ w → i ≡ length l → true ≡ w
unfolding rectangle_right
bounds_over l u i w k e = ap (λ (t : List Float). rectangle_right t (drop i u)) (sym (ap (λ (j : ℕ). drop j l) e ∙ drop-length l)) ∙ k

-- the bounds are right where both lie between the infinities, in order
pub bounds_by_order : (l u : Float) → (lt (inf true) l && le l u && lt u (inf false)) ≡ bounds_right l u
unfolding lt le eq bounds_right is_nan
bounds_by_order nan u = refl
bounds_by_order (inf true) u = refl
bounds_by_order (inf false) nan = refl
bounds_by_order (inf false) (inf true) = refl
bounds_by_order (inf false) (inf false) = refl
bounds_by_order (inf false) (fin t n d) = refl
bounds_by_order (fin s m e) nan = refl
bounds_by_order (fin s m e) (inf true) = refl
bounds_by_order (fin s m e) (inf false) = refl
bounds_by_order (fin s m e) (fin t n d) = and_true (le (fin s m e) (fin t n d)) ∙ le_or_lt (le (fin s m e) (fin t n d)) (lt (fin t n d) (fin s m e)) refl refl
  where
    le_or_lt : (a b : Bool) → le (fin s m e) (fin t n d) ≡ a → lt (fin t n d) (fin s m e) ≡ b → a ≡ not b
    le_or_lt true true p q = absurd (lt_irrefl (fin t n d) (lt_of_lt_of_le (fin t n d) (fin s m e) (fin t n d) (T_from_true _ q) (T_from_true _ p)))
    le_or_lt true false p q = refl
    le_or_lt false true p q = refl
    le_or_lt false false p q = absurd (subst T p (le_of_not-lt (fin t n d) (fin s m e) tt tt (T_from_false _ q)))

-- and so with the infinities as the code has them
pub bounds_by_bits : (l u : Float) → (lt (of_bits binary64 0xfff0_0000_0000_0000) l && le l u && lt u (of_bits binary64 0x7ff0_0000_0000_0000)) ≡ bounds_right l u
bounds_by_bits l u = rw (below_all, above_all) (bounds_by_order l u)
  where
    below_all : of_bits binary64 0xfff0_0000_0000_0000 ≡ inf true
    below_all = unfold of_bits in unfold of_fields in refl

    above_all : of_bits binary64 0x7ff0_0000_0000_0000 ≡ inf false
    above_all = unfold of_bits in unfold of_fields in refl

finite_at : (c : List Float) (i : ℕ) → i < length c → all_finite (drop i c) ≡ (finite (get_or c i nan) && all_finite (drop (i + 1) c))
unfolding all_finite
finite_at c i h = rw (drop-cons c i nan h, add-one i)

pub finite_fails : (c : List Float) (i : ℕ) (w : Bool) → all_finite (drop i c) ≡ w → false ≡ finite (get_or c i nan) → i < length c → false ≡ w
finite_fails c i w k g h = ap (λ (t : Bool). t && all_finite (drop (i + 1) c)) g ∙ sym (finite_at c i h) ∙ k

pub finite_turn : (c : List Float) (i : ℕ) (w : Bool) → all_finite (drop i c) ≡ w → true ≡ finite (get_or c i nan) → i < length c → all_finite (drop (i + 1) c) ≡ w
finite_turn c i w k g h = ap (λ (t : Bool). t && all_finite (drop (i + 1) c)) g ∙ sym (finite_at c i h) ∙ k

pub finite_over : (c : List Float) (i : ℕ) (w : Bool) → all_finite (drop i c) ≡ w → i ≡ length c → true ≡ w
unfolding all_finite
finite_over c i w k e = ap all_finite (sym (ap (λ (j : ℕ). drop j c) e ∙ drop-length c)) ∙ k

-- the radius is tested first, against the code's 0.0
pub radius_fails : (f : Format) (c : List Float) (r : Float) → ((false ≡ finite r) ⊎ (lt r (of_bits f 0) ≡ true)) → false ≡ ball_right c r
unfolding ball_right
radius_fails f c r (inl e) = ap (λ (b : Bool). b && not (lt r null) && all_finite c) e
radius_fails f c r (inr e) = by (finite r) (ap (lt r) (sym (zero_bits f)) ∙ e)
  where
    by : (b : Bool) → lt r null ≡ true → false ≡ (b && not (lt r null) && all_finite c)
    by true p = ap (λ (t : Bool). not t && all_finite c) (sym p)
    by false p = refl

pub ball_begun : (f : Format) (c : List Float) (r : Float) → true ≡ finite r → lt r (of_bits f 0) ≡ false → all_finite c ≡ ball_right c r
unfolding ball_right
ball_begun f c r e p = ap (λ (t : Bool). not t && all_finite c) (sym p ∙ ap (lt r) (zero_bits f)) ∙ ap (λ (b : Bool). b && not (lt r null) && all_finite c) e

-- ---- the ball

length_zip : (h : Float → Float → Float) (c v : List Float) → length c ≡ length v → length (zip_with h c v) ≡ length v
unfolding zip_with
length_zip h [] [] e = refl
length_zip h [] (x ∷ v) e = absurd (omega arith)
length_zip h (a ∷ c) [] e = absurd (omega arith)
length_zip h (a ∷ c) (x ∷ v) e = ap suc (length_zip h c v (omega arith))

zip_at : (h : Float → Float → Float) (c v : List Float) (i : ℕ) → length c ≡ length v → i < length v → get_or (zip_with h c v) i nan ≡ h (get_or c i nan) (get_or v i nan)
unfolding zip_with
zip_at h [] [] i e p = absurd (not-suc-le-zero p)
zip_at h [] (x ∷ v) i e p = absurd (omega arith)
zip_at h (a ∷ c) [] i e p = absurd (omega arith)
zip_at h (a ∷ c) (x ∷ v) zero e p = refl
zip_at h (a ∷ c) (x ∷ v) (suc i) e p = zip_at h c v i (omega arith) (le_of_suc-le-suc p)

module _ (f : Format) where
  length_minus : (v c : List Float) → length v ≡ length c → length (minus f v c) ≡ length c
  unfolding minus
  length_minus v c e = length_zip (sub f) v c e

  minus_at : (v c : List Float) (i : ℕ) → length v ≡ length c → i < length c → get_or (minus f v c) i nan ≡ sub f (get_or v i nan) (get_or c i nan)
  unfolding minus
  minus_at v c i e h = zip_at (sub f) v c i e h

  -- before the first turn the sum is the code's 0.0
  pub sum_begun : (v c : List Float) → squares_from f (of_bits f 0) (minus f v c) ≡ squares f (minus f v c)
  unfolding squares
  sum_begun v c = ap (λ (s : Float). squares_from f s (minus f v c)) (zero_bits f)

  -- a turn of the sum, with the difference d at place i
  pub sum_turn : (v c : List Float) (i : ℕ) (s d w : Float) → length v ≡ length c → d ≡ sub f (get_or v i nan) (get_or c i nan)
      → squares_from f s (drop i (minus f v c)) ≡ w → i < length c → squares_from f (add f s (mul f d d)) (drop (i + 1) (minus f v c)) ≡ w
  unfolding squares_from
  sum_turn v c i s d w e g k h =
      ap (λ (t : Float). squares_from f (add f s (mul f t t)) (drop (i + 1) (minus f v c))) (g ∙ sym (minus_at v c i e h))
      ∙ ap (λ (j : ℕ). squares_from f (add f s (mul f (get_or (minus f v c) i nan) (get_or (minus f v c) i nan))) (drop j (minus f v c))) (add-one i)
      ∙ ap (λ (t : List Float). squares_from f s t) (sym (drop-cons (minus f v c) i nan (omega (arith, length_minus v c e)))) ∙ k

  -- the root of the sum is the distance
  pub sum_over : (v c : List Float) (i : ℕ) (s y : Float) → length v ≡ length c → squares_from f s (drop i (minus f v c)) ≡ squares f (minus f v c) → y ≡ root f s → i ≡ length c → y ≡ distance f c v
  unfolding squares_from distance norm
  sum_over v c i s y e k g n =
      let z : drop i (minus f v c) ≡ [] = ap (λ (j : ℕ). drop j (minus f v c)) (n ∙ sym (length_minus v c e)) ∙ drop-length (minus f v c) in
      g ∙ ap (root f) (ap (λ (t : List Float). squares_from f s t) (sym z) ∙ k)

  -- the vector that a ball pulls toward its centre
  unfoldable pub pulled_to : List Float → Float → List Float → List Float
  pulled_to c r v = zip_with (pulled f r (distance f c v)) c v

  pub length_pulled : (c v : List Float) (r : Float) → length c ≡ length v → length (pulled_to c r v) ≡ length v
  unfolding pulled_to
  length_pulled c v r e = length_zip (pulled f r (distance f c v)) c v e

  pub length_ball : (c v : List Float) (r : Float) → length c ≡ length v → length (ball2 f c r v) ≡ length v
  unfolding ball2 pulled_to
  length_ball c v r e = by (lt r (distance f c v))
    where
      by : (b : Bool) → length (cond b (pulled_to c r v) v) ≡ length v
      by true = length_pulled c v r e
      by false = refl

  -- a turn of `ball2::project`, on the vector w
  pub pull_turn : (c v w : List Float) (r far : Float) (i : ℕ) (y : Float) → length c ≡ length v → far ≡ distance f c v → w ≡ take i (pulled_to c r v) ++ drop i v
      → y ≡ pulled f r far (get_or c i nan) (get_or w i nan) → i < length v → set w i y ≡ take (i + 1) (pulled_to c r v) ++ drop (i + 1) v
  unfolding pulled_to
  pull_turn c v w r far i y p d e g h =
      let n = length_pulled c v r p in
      ap (λ (t : List Float). set t i y) e
      ∙ overwrite_turn (pulled_to c r v) v i y n h
      (g ∙ ap (λ (t : List Float). pulled f r far (get_or c i nan) (get_or t i nan)) e ∙ ap (pulled f r far (get_or c i nan)) (unread (pulled_to c r v) v i n h)
      ∙ ap (λ (t : Float). pulled f r t (get_or c i nan) (get_or v i nan)) d ∙ sym (zip_at (pulled f r (distance f c v)) c v i p h))

  pub pulled_over : (c v w : List Float) (r far : Float) (i : ℕ) → length c ≡ length v → far ≡ distance f c v → lt r far ≡ true → w ≡ take i (pulled_to c r v) ++ drop i v → i ≡ length v → w ≡ ball2 f c r v
  unfolding ball2 pulled_to
  pulled_over c v w r far i p d h e n =
      e ∙ overwritten (pulled_to c r v) v i (length_pulled c v r p) n ∙ sym (rw (← d, h) refl)

  pub kept_by_ball : (c v : List Float) (r far : Float) → far ≡ distance f c v → lt r far ≡ false → v ≡ ball2 f c r v
  unfolding ball2
  kept_by_ball c v r far d h = sym (rw (← d, h) refl)

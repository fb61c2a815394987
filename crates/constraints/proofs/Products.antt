-- What a table gives: each stretch what its set alone gives, boxes what one box gives, and twice what once. Assumes nothing.
use Rattle.std.specs.Prelude.{◌≡◌, refl, ℕ, ◌+◌, ◌≤◌, Bool, true, false, ◌&&◌, not, cond, eqb, leb, length, take, drop, Float}
use Rattle.std.proofs.Common.{sym, ap, ◌∙◌, arith, true≢false, length-append, drop-drop}
use Rattle.std.proofs.lemmas.List.{take_at, drop_at, take_all, length-take-le, length-drop, append-nil}
use Rattle.std.proofs.lemmas.Bool.{and_parts, and_from, eqb-true, eq-eqb}
use mathlib.Core.List.{List, [], ◌∷◌, ◌++◌}
use Rattle.std.specs.Float.{Format}
use Rattle.std.specs.Float.Ieee.{lt}
use Rattle.std.specs.Float.Ieee.Scale.{finite}
use Rattle.constraints.specs.Box.{clamped, rectangle, bounds_right, rectangle_right}
use Rattle.constraints.specs.Table.{Row, alone, as_long, cartesian_product, all_as_long, filled, sets_right, all_numbers_right, refusal}
use Rattle.constraints.specs.Claims.{EachStretch, SameLength, Bounds, row_of, boxes, all_bounds, one_box, OneBox, OneBoxRefuses, Twice}
use Rattle.constraints.proofs.Tables.{alone_length}

-- ---- stretches

product_length : (f : Format) (t : List Row) (v : List Float) → filled t ≡ length v → all_as_long t ≡ true → length (cartesian_product f t v) ≡ length v
unfolding cartesian_product filled all_as_long
product_length f [] v e a = e
product_length f (r ∷ t) v e a =
    let w = and_parts (as_long r.stretch r.constraint) (all_as_long t) a in
    let k : r.stretch ≤ length v = omega arith in
    let l = length-take-le r.stretch v k in
    let m = alone_length f r.stretch r.constraint (take r.stretch v) w.0 l in
    let n = product_length f t (drop r.stretch v) (omega (arith, length-drop r.stretch v)) w.1 in
    length-append (alone f r.constraint (take r.stretch v)) (cartesian_product f t (drop r.stretch v)) ∙ omega (arith, l, m, n, length-drop r.stretch v)

-- what is tested of a table, by its parts
module _ (t : List Row) (n : ℕ) (e : sets_right t n ≡ true) where
  parts : (leb (length t) 8 ≡ true) × (filled t ≡ n) × (all_as_long t ≡ true)
  unfolding sets_right
  parts =
      let w = and_parts (leb (length t) 8 && eqb (filled t) n) (all_as_long t) e in
      let v = and_parts (leb (length t) 8) (eqb (filled t) n) w.0 in
      (v.0, eqb-true _ _ v.1, w.1)

pub same_length : SameLength
same_length f t v e = let w = parts t (length v) e in product_length f t v w.1 w.2

stretch_from : (f : Format) (before : List Row) (r : Row) (later : List Row) (v : List Float) → filled (before ++ (r ∷ later)) ≡ length v → all_as_long (before ++ (r ∷ later)) ≡ true
    → take r.stretch (drop (filled before) (cartesian_product f (before ++ (r ∷ later)) v)) ≡ alone f r.constraint (take r.stretch (drop (filled before) v))
unfolding cartesian_product filled all_as_long
stretch_from f [] r later v e a =
    let w = and_parts (as_long r.stretch r.constraint) (all_as_long later) a in
    let l = length-take-le r.stretch v (omega arith) in
    take_at (alone f r.constraint (take r.stretch v)) (cartesian_product f later (drop r.stretch v)) r.stretch (alone_length f r.stretch r.constraint (take r.stretch v) w.0 l ∙ l)
stretch_from f (q ∷ before) r later v e a =
    let w = and_parts (as_long q.stretch q.constraint) (all_as_long (before ++ (r ∷ later))) a in
    let l = length-take-le q.stretch v (omega arith) in
    let m = alone_length f q.stretch q.constraint (take q.stretch v) w.0 l ∙ l in
    let rest = cartesian_product f (before ++ (r ∷ later)) (drop q.stretch v) in
    ap (take r.stretch) (sym (drop-drop (filled before) q.stretch (alone f q.constraint (take q.stretch v) ++ rest)) ∙ ap (drop (filled before)) (drop_at (alone f q.constraint (take q.stretch v)) rest q.stretch m))
    ∙ stretch_from f before r later (drop q.stretch v) (omega (arith, length-drop q.stretch v)) w.1
    ∙ ap (λ (x : List Float). alone f r.constraint (take r.stretch x)) (drop-drop (filled before) q.stretch v)

pub each_stretch : EachStretch
each_stretch f before r later v e = let w = parts (before ++ (r ∷ later)) (length v) e in stretch_from f before r later v w.1 w.2

-- ---- boxes

box_joins : (l u l' u' v : List Float) → length u ≡ length l → rectangle (l ++ l') (u ++ u') v ≡ rectangle l u (take (length l) v) ++ rectangle l' u' (drop (length l) v)
unfolding rectangle
box_joins [] [] l' u' v e = refl
box_joins [] (b ∷ u) l' u' v e = absurd (omega arith)
box_joins (a ∷ l) [] l' u' v e = absurd (omega arith)
box_joins (a ∷ l) (b ∷ u) l' u' [] e = sym (none l' u')
  where
    none : (p q : List Float) → rectangle p q [] ≡ []
    none [] q = refl
    none (x ∷ p) [] = refl
    none (x ∷ p) (y ∷ q) = refl
box_joins (a ∷ l) (b ∷ u) l' u' (x ∷ v) e = ap (λ (t : List Float). clamped a b x ∷ t) (box_joins l u l' u' v (omega arith))

right_joins : (l u l' u' : List Float) → length u ≡ length l → rectangle_right (l ++ l') (u ++ u') ≡ (rectangle_right l u && rectangle_right l' u')
unfolding rectangle_right
right_joins [] [] l' u' e = refl
right_joins [] (b ∷ u) l' u' e = absurd (omega arith)
right_joins (a ∷ l) [] l' u' e = absurd (omega arith)
right_joins (a ∷ l) (b ∷ u) l' u' e = ap (λ (t : Bool). bounds_right a b && t) (right_joins l u l' u' (omega arith)) ∙ sym (both (bounds_right a b) (rectangle_right l u) (rectangle_right l' u'))
  where
    both : (a b c : Bool) → (a && b && c) ≡ (a && (b && c))
    both true b c = refl
    both false b c = refl

-- the upper bounds of each box are as many as its lower ones
as_many : (b : Bounds) (t : List Bounds) → all_as_long (boxes (b ∷ t)) ≡ true → (length b.upper ≡ length b.lower) × (all_as_long (boxes t) ≡ true)
unfolding all_as_long
as_many b t e =
    let w = and_parts (eqb (length b.lower) (length b.lower) && eqb (length b.upper) (length b.lower)) (all_as_long (boxes t)) e in
    let v = and_parts (eqb (length b.lower) (length b.lower)) (eqb (length b.upper) (length b.lower)) w.0 in
    (eqb-true _ _ v.1, w.1)

box_gives : (f : Format) (t : List Bounds) (v : List Float) → all_as_long (boxes t) ≡ true → cartesian_product f (boxes t) v ≡ rectangle (all_bounds t).lower (all_bounds t).upper v
unfolding cartesian_product rectangle
box_gives f [] v a = refl
box_gives f (b ∷ t) v a =
    let w = as_many b t a in
    ap (λ (x : List Float). rectangle b.lower b.upper (take (length b.lower) v) ++ x) (box_gives f t (drop (length b.lower) v) w.1)
    ∙ sym (box_joins b.lower b.upper (all_bounds t).lower (all_bounds t).upper v w.0)

box_right : (t : List Bounds) → all_as_long (boxes t) ≡ true → all_numbers_right (boxes t) ≡ rectangle_right (all_bounds t).lower (all_bounds t).upper
unfolding all_numbers_right rectangle_right
box_right [] a = refl
box_right (b ∷ t) a =
    let w = as_many b t a in
    ap (λ (x : Bool). rectangle_right b.lower b.upper && x) (box_right t w.1) ∙ sym (right_joins b.lower b.upper (all_bounds t).lower (all_bounds t).upper w.0)

box_length : (t : List Bounds) → all_as_long (boxes t) ≡ true → (length (all_bounds t).lower ≡ filled (boxes t)) × (length (all_bounds t).upper ≡ filled (boxes t))
unfolding filled
box_length [] a = (refl, refl)
box_length (b ∷ t) a =
    let w = as_many b t a in
    let n = box_length t w.1 in
    (length-append b.lower (all_bounds t).lower ∙ omega (arith, n), length-append b.upper (all_bounds t).upper ∙ omega (arith, n, w.0))

-- the one box, as a table of its own
one_gives : (f : Format) (l u v : List Float) → length l ≡ length v → cartesian_product f (row_of (record { lower = l; upper = u }) ∷ []) v ≡ rectangle l u v
unfolding cartesian_product
one_gives f l u v e = append-nil (rectangle l u (take (length l) v)) ∙ ap (rectangle l u) (take_all (length l) v (omega arith))

one_right : (l u : List Float) → all_numbers_right (row_of (record { lower = l; upper = u }) ∷ []) ≡ rectangle_right l u
unfolding all_numbers_right
one_right l u = last (rectangle_right l u)
  where
    last : (b : Bool) → (b && true) ≡ b
    last true = refl
    last false = refl

one_fits : (l u : List Float) (n : ℕ) → length l ≡ n → length u ≡ n → sets_right (row_of (record { lower = l; upper = u }) ∷ []) n ≡ true
unfolding sets_right filled all_as_long
one_fits l u n p q = and_from _ _ (and_from _ _ refl (eq-eqb (length l + 0) n (omega arith))) (and_from _ _ (and_from _ _ (eq-eqb (length l) (length l) refl) (eq-eqb (length u) (length l) (q ∙ sym p))) refl)

pub one_box_gives : OneBox
one_box_gives f t v e =
    let w = parts (boxes t) (length v) e in
    box_gives f t v w.2 ∙ sym (one_gives f (all_bounds t).lower (all_bounds t).upper v ((box_length t w.2).0 ∙ w.1))

taken : (t : List Row) (n : ℕ) → sets_right t n ≡ true → refusal t n ≡ cond (all_numbers_right t) 0 21
unfolding refusal
taken t n e = rw e refl

pub one_box_refuses : OneBoxRefuses
one_box_refuses t n e =
    let w = parts (boxes t) n e in
    let k = box_length t w.2 in
    taken (boxes t) n e ∙ ap (λ (b : Bool). cond {A = ℕ} b 0 21) (box_right t w.2 ∙ sym (one_right (all_bounds t).lower (all_bounds t).upper))
    ∙ sym (taken (one_box t) n (one_fits (all_bounds t).lower (all_bounds t).upper n (k.0 ∙ w.1) (k.1 ∙ w.1)))

-- ---- twice

clamped_twice : (l u x : Float) → bounds_right l u ≡ true → clamped l u (clamped l u x) ≡ clamped l u x
unfolding clamped bounds_right
clamped_twice l u x b = by (lt x l) (lt u x) refl refl
  where
    in_order : lt u l ≡ false
    in_order = by (lt u l) (and_parts (finite l && finite u) (not (lt u l)) b).1
      where
        by : (c : Bool) → not c ≡ true → c ≡ false
        by true h = absurd (true≢false (sym h))
        by false h = refl

    chosen : (c : Bool) (y : Float) → cond c y y ≡ y
    chosen true y = refl
    chosen false y = refl

    by : (p q : Bool) → lt x l ≡ p → lt u x ≡ q → cond (lt (cond p l (cond q u x)) l) l (cond (lt u (cond p l (cond q u x))) u (cond p l (cond q u x))) ≡ cond p l (cond q u x)
    by true q h k = ap (λ (c : Bool). cond (lt l l) l (cond c u l)) in_order ∙ chosen (lt l l) l
    by false true h k = ap (λ (c : Bool). cond c l (cond (lt u u) u u)) in_order ∙ chosen (lt u u) u
    by false false h k = ap (λ (c : Bool). cond c l (cond (lt u x) u x)) h ∙ ap (λ (c : Bool). cond c u x) k

box_twice : (l u v : List Float) → rectangle_right l u ≡ true → rectangle l u (rectangle l u v) ≡ rectangle l u v
unfolding rectangle rectangle_right
box_twice [] u v e = refl
box_twice (a ∷ l) [] v e = refl
box_twice (a ∷ l) (b ∷ u) [] e = refl
box_twice (a ∷ l) (b ∷ u) (x ∷ v) e =
    let w = and_parts (bounds_right a b) (rectangle_right l u) e in
    ap (λ (y : Float). y ∷ rectangle l u (rectangle l u v)) (clamped_twice a b x w.0) ∙ ap (λ (t : List Float). clamped a b x ∷ t) (box_twice l u v w.1)

-- what is not refused
accepted : (t : List Row) (n : ℕ) → refusal t n ≡ 0 → (sets_right t n ≡ true) × (all_numbers_right t ≡ true)
unfolding refusal
accepted t n e = by (sets_right t n) (all_numbers_right t) e
  where
    by : (a b : Bool) → cond {A = ℕ} a (cond b 0 21) 20 ≡ 0 → (a ≡ true) × (b ≡ true)
    by true true h = (refl, refl)
    by true false h = absurd (omega arith)
    by false b h = absurd (omega arith)

pub twice : Twice
twice f t v e =
    let a = accepted (boxes t) (length v) e in
    let w = parts (boxes t) (length v) a.0 in
    let g = λ (x : List Float). box_gives f t x w.2 in
    g (cartesian_product f (boxes t) v) ∙ ap (rectangle (all_bounds t).lower (all_bounds t).upper) (g v)
    ∙ box_twice (all_bounds t).lower (all_bounds t).upper v (sym (box_right t w.2) ∙ a.1) ∙ sym (g v)

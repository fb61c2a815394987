-- Laws for the loops over a table's sets: what the set at i adds. Assumes nothing.
use Rattle.std.specs.Prelude.{ℕ, suc, ◌+◌, ◌-◌, ◌<◌, ◌≤◌, ◌≡◌, refl, Bool, true, false, ◌&&◌, cond, eqb, leb, length, get_or, take, drop, Float}
use Rattle.std.proofs.Common.{sym, ap, ◌∙◌, arith, length-append, append_assoc, drop-drop, take-append-drop, true≢false}
use Rattle.std.proofs.lemmas.List.{drop_more, drop_all, take_at, drop_at, length-drop, length-take-le}
use Rattle.std.proofs.lemmas.Bool.{and_parts, and_from, leb-true, le-leb, eqb-true, eq-eqb}
use Rattle.std.proofs.lemmas.Bool.Decides.{nat_tests}
use mathlib.Core.List.{List, [], ◌∷◌, ◌++◌}
use Rattle.std.specs.Float.{nan, Format}
use Rattle.constraints.specs.declared.cartesian_product.Set.{Set}
use Rattle.constraints.specs.Table.{Constraint, rectangle_of, ball_of, Row, alone, as_long, numbers_right, cartesian_product, all_as_long, filled, sets_right, all_numbers_right, refusal}
use Rattle.constraints.proofs.Turns.{overwritten, length_rectangle, length_ball}
use Rattle.constraints.specs.Lent.{is_rectangle, count, lengths_right, fits, constraint_of, table_of, numbers_of_all, lent_refusal, Projects}

and_false : (b : Bool) → (b && false) ≡ false
and_false true = refl
and_false false = refl

-- what a read past the last set would give
abbrev pub no_set : Set
no_set = record { kind = 0; stretch = 0; first = 0; second = 0 }

-- ---- the sets from i on, and the first of them

module _ (t : List Set) (i : ℕ) (h : i < length t) where
  abbrev at : Set
  at = get_or t i no_set

  abbrev next : List Set
  next = drop (i + 1) t

  fits_at : (room left : ℕ) → fits (drop i t) room left ≡ (leb at.stretch left && lengths_right at && leb (count at) room && fits next (room - count at) (left - at.stretch))
  unfolding fits
  fits_at room left = ap (λ (l : List Set). fits l room left) (drop_more t i no_set h)

  table_at : (l : List Float) → table_of (drop i t) l ≡ record { stretch = at.stretch; constraint = constraint_of at l } ∷ table_of next (drop (count at) l)
  unfolding table_of
  table_at l = ap (λ (k : List Set). table_of k l) (drop_more t i no_set h)

  -- the stretch is too long
  pub fits_short : (room left : ℕ) (w : Bool) → fits (drop i t) room left ≡ w → left < at.stretch → false ≡ w
  fits_short room left w e k = sym (ap (λ (b : Bool). b && lengths_right at && leb (count at) room && fits next (room - count at) (left - at.stretch)) (gt-leb k)) ∙ sym (fits_at room left) ∙ e
    where
      gt-leb : left < at.stretch → leb at.stretch left ≡ false
      gt-leb k = grind (arith, nat_tests)

  -- a number of numbers is not the stretch's
  pub fits_odd : (room left : ℕ) (w : Bool) → fits (drop i t) room left ≡ w → lengths_right at ≡ false → false ≡ w
  fits_odd room left w e k = sym (fits_at room left ∙ rw (k, and_false (leb at.stretch left)) refl) ∙ e

  -- there are too few numbers
  pub fits_few : (room left : ℕ) (w : Bool) → fits (drop i t) room left ≡ w → room < count at → false ≡ w
  fits_few room left w e k = sym (fits_at room left ∙ rw (few k, and_false (leb at.stretch left && lengths_right at)) refl) ∙ e
    where
      few : room < count at → leb (count at) room ≡ false
      few k = grind (arith, nat_tests)

  -- the set fits
  pub fits_turn : (room left rest : ℕ) (w : Bool) → fits (drop i t) room left ≡ w → at.stretch ≤ left → lengths_right at ≡ true → rest + count at ≡ room → fits next rest (left - at.stretch) ≡ w
  fits_turn room left rest w e a b c =
      let p : leb at.stretch left ≡ true = grind (arith, nat_tests) in
      let q : leb (count at) room ≡ true = grind (arith, nat_tests) in
      let r : room - count at ≡ rest = omega arith in
      sym (fits_at room left ∙ rw (p, b, q, r) refl) ∙ e

  -- what it says that the sets fit
  pub opened : (room left : ℕ) → fits (drop i t) room left ≡ true → (at.stretch ≤ left) × (lengths_right at ≡ true) × (count at ≤ room) × (fits next (room - count at) (left - at.stretch) ≡ true)
  opened room left e =
      let w = and_parts _ _ (sym (fits_at room left) ∙ e) in
      let v = and_parts _ _ w.0 in
      let u = and_parts _ _ v.0 in
      (leb-true _ _ u.0, u.1, leb-true _ _ v.1, w.1)

  -- the test of the numbers of the first, and of the others
  pub right_at : (l : List Float) → all_numbers_right (table_of (drop i t) l) ≡ (numbers_right (constraint_of at l) && all_numbers_right (table_of next (drop (count at) l)))
  unfolding all_numbers_right
  right_at l = ap all_numbers_right (table_at l)

  pub right_fails : (l : List Float) (p w : Bool) → p ≡ numbers_right (constraint_of at l) → p ≡ false → all_numbers_right (table_of (drop i t) l) ≡ w → false ≡ w
  right_fails l p w e f k = sym (right_at l ∙ ap (λ (b : Bool). b && all_numbers_right (table_of next (drop (count at) l))) (sym e ∙ f)) ∙ k

  pub right_turn : (l rest : List Float) (p w : Bool) → p ≡ numbers_right (constraint_of at l) → p ≡ true → rest ≡ drop (count at) l → all_numbers_right (table_of (drop i t) l) ≡ w → all_numbers_right (table_of next rest) ≡ w
  right_turn l rest p w e f r k =
      ap (λ (m : List Float). all_numbers_right (table_of next m)) r
      ∙ sym (right_at l ∙ ap (λ (b : Bool). b && all_numbers_right (table_of next (drop (count at) l))) (sym e ∙ f)) ∙ k

  -- the sets that are left, where `rest` is what is left of the numbers
  pub fits_next : (l rest : List Float) (left : ℕ) → fits (drop i t) (length l) left ≡ true → rest ≡ drop (count at) l → fits next (length rest) (left - at.stretch) ≡ true
  fits_next l rest left e r = ap (λ (n : ℕ). fits next n (left - at.stretch)) (ap length r ∙ length-drop (count at) l) ∙ (opened (length l) left e).3

  -- what the first gives its stretch, and the others theirs
  pub product_at : (f : Format) (l v : List Float) → cartesian_product f (table_of (drop i t) l) v ≡ alone f (constraint_of at l) (take at.stretch v) ++ cartesian_product f (table_of next (drop (count at) l)) (drop at.stretch v)
  unfolding cartesian_product
  product_at f l v = ap (λ (k : List Row). cartesian_product f k v) (table_at l)

-- ---- after the last set

pub fits_over : (t : List Set) (i room left : ℕ) (w : Bool) → fits (drop i t) room left ≡ w → length t ≤ i → eqb left 0 ≡ w
unfolding fits
fits_over t i room left w e h = ap (λ (l : List Set). fits l room left) (sym (drop_all i t h)) ∙ e

-- and of at most 8 sets
pub both_fail : (b w : Bool) → false ≡ w → false ≡ (b && w)
both_fail b w e = sym (ap (λ (t : Bool). b && t) (sym e) ∙ and_false b)

pub few_sets : (n : ℕ) (v w : Bool) → v ≡ w → n ≤ 8 → v ≡ (leb n 8 && w)
few_sets n v w e h = let p : leb n 8 ≡ true = grind (arith, nat_tests) in e ∙ sym (rw p refl)

pub right_over : (t : List Set) (i : ℕ) (l : List Float) (w : Bool) → all_numbers_right (table_of (drop i t) l) ≡ w → length t ≤ i → true ≡ w
unfolding all_numbers_right table_of
right_over t i l w e h = ap (λ (k : List Set). all_numbers_right (table_of k l)) (sym (drop_all i t h)) ∙ e

pub product_over : (f : Format) (t : List Set) (i : ℕ) (l v r : List Float) → r ≡ cartesian_product f (table_of (drop i t) l) v → length t ≤ i → r ≡ []
unfolding cartesian_product table_of
product_over f t i l v r e h = e ∙ ap (λ (k : List Set). cartesian_product f (table_of k l) v) (drop_all i t h)

-- ---- a vector v whose stretches are written over by those of r: `take at r ++ drop at v` until the place `at`

module _ (r v w new later : List Float) (at k : ℕ) (m : at + k ≤ length v) (n : at ≤ length r) (e : w ≡ take at r ++ drop at v) (o : length new ≡ k) (d : drop at r ≡ new ++ later) where
  front : take at w ≡ take at r
  front = ap (take at) e ∙ take_at (take at r) (drop at v) at (length-take-le at r n)

  back : drop at w ≡ drop at v
  back = ap (drop at) e ∙ drop_at (take at r) (drop at v) at (length-take-le at r n)

  far : drop (at + k) w ≡ drop (at + k) v
  far = sym (drop-drop k at w) ∙ ap (drop k) back ∙ drop-drop k at v

  done : take (at + k) r ≡ take at r ++ new
  done =
      let whole : r ≡ (take at r ++ new) ++ later = sym (take-append-drop at r) ∙ ap (λ (t : List Float). take at r ++ t) d ∙ sym (append_assoc (take at r) new later) in
      ap (take (at + k)) whole ∙ take_at (take at r ++ new) later (at + k) (length-append (take at r) new ∙ omega (arith, length-take-le at r n, o))

  -- the stretch of length k is written
  pub stretch_turn : take at w ++ (new ++ drop (at + k) w) ≡ take (at + k) r ++ drop (at + k) v
  stretch_turn = ap (λ (t : List Float). t ++ (new ++ drop (at + k) w)) front ∙ ap (λ (t : List Float). take at r ++ (new ++ t)) far ∙ sym (append_assoc (take at r) new (drop (at + k) v)) ∙ ap (λ (t : List Float). t ++ drop (at + k) v) (sym done)

  -- and what is left of r behind it
  pub stretch_rest : drop (at + k) r ≡ later
  stretch_rest = sym (drop-drop k at r) ∙ ap (drop k) d ∙ drop_at new later k o

-- ---- as many places as the vector has

-- a set alone
pub alone_length : (f : Format) (n : ℕ) (s : Constraint) (v : List Float) → as_long n s ≡ true → length v ≡ n → length (alone f s v) ≡ length v
alone_length f n (rectangle_of lower upper) v e h =
    let w = and_parts _ _ e in
    length_rectangle lower upper v (eqb-true _ _ w.0 ∙ sym h) (eqb-true _ _ w.1 ∙ sym h)
alone_length f n (ball_of centre radius) v e h = length_ball f centre v radius (eqb-true _ _ e ∙ sym h)

-- a lent set has the lengths that it says
pub as_long_lent : (s : Set) (l : List Float) → lengths_right s ≡ true → count s ≤ length l → as_long s.stretch (constraint_of s l) ≡ true
as_long_lent s l e c = by (is_rectangle s) e c
  where
    by : (b : Bool) → (eqb s.first s.stretch && cond b (eqb s.second s.stretch) true) ≡ true → cond b (s.first + s.second) (1 + s.first) ≤ length l
        → as_long s.stretch (cond b (rectangle_of (take s.first l) (take s.second (drop s.first l))) (ball_of (take s.first (drop 1 l)) (get_or l 0 nan))) ≡ true
    by true e c =
        let w = and_parts _ _ e in
        let p : length (take s.first l) ≡ s.stretch = length-take-le s.first l (omega arith) ∙ eqb-true _ _ w.0 in
        let q : length (take s.second (drop s.first l)) ≡ s.stretch = length-take-le s.second (drop s.first l) (omega (arith, length-drop s.first l)) ∙ eqb-true _ _ w.1 in
        and_from _ _ (eq-eqb _ _ p) (eq-eqb _ _ q)
    by false e c =
        let w = and_parts _ _ e in
        eq-eqb _ _ (length-take-le s.first (drop 1 l) (omega (arith, length-drop 1 l)) ∙ eqb-true _ _ w.0)

-- a table of lent sets
pub product_length : (f : Format) (t : List Set) (l v : List Float) → fits t (length l) (length v) ≡ true → length (cartesian_product f (table_of t l) v) ≡ length v
unfolding cartesian_product table_of fits
product_length f [] l v e = sym (eqb-true _ _ e)
product_length f (s ∷ t) l v e =
    let p = and_parts _ _ e in
    let q = and_parts _ _ p.0 in
    let r = and_parts _ _ q.0 in
    let k : s.stretch ≤ length v = leb-true _ _ r.0 in
    let m = alone_length f s.stretch (constraint_of s l) (take s.stretch v) (as_long_lent s l r.1 (leb-true _ _ q.1)) (length-take-le s.stretch v k) in
    let n = product_length f t (drop (count s) l) (drop s.stretch v) (ap (λ (i : ℕ). fits t i (length (drop s.stretch v))) (length-drop (count s) l) ∙ ap (fits t (length l - count s)) (length-drop s.stretch v) ∙ p.1) in
    length-append (alone f (constraint_of s l) (take s.stretch v)) (cartesian_product f (table_of t (drop (count s) l)) (drop s.stretch v))
    ∙ omega (arith, m, n, length-take-le s.stretch v k, length-drop s.stretch v)

-- ---- a turn of `cartesian_product::put`: the set at i, whose numbers are the first of l, writes its stretch of w from the place p on

module _ (f : Format) (t : List Set) (numbers v : List Float) (i : ℕ) (h : i < length t) (l w : List Float) (p : ℕ) (all_fit : fits t (length numbers) (length v) ≡ true) (within : p ≤ length v)
    (fit : fits (drop i t) (length l) (length v - p) ≡ true) (behind : drop p (cartesian_product f (table_of t numbers) v) ≡ cartesian_product f (table_of (drop i t) l) (drop p v))
    (so_far : w ≡ take p (cartesian_product f (table_of t numbers) v) ++ drop p v) where
  abbrev one : Set
  one = get_or t i no_set

  abbrev whole : List Float
  whole = cartesian_product f (table_of t numbers) v

  pub room_left : p + one.stretch ≤ length v
  room_left = omega (arith, (opened t i h (length l) (length v - p) fit).0)

  abbrev gives : List Float
  gives = alone f (constraint_of one l) (take one.stretch (drop p v))

  abbrev later : List Float
  later = cartesian_product f (table_of (drop (i + 1) t) (drop (count one) l)) (drop one.stretch (drop p v))

  written : p ≤ length whole
  written = omega (arith, product_length f t numbers v all_fit)

  stretch : length (take one.stretch (drop p v)) ≡ one.stretch
  stretch = length-take-le one.stretch (drop p v) (omega (arith, room_left, length-drop p v))

  given : length gives ≡ one.stretch
  given =
      let w = opened t i h (length l) (length v - p) fit in
      alone_length f one.stretch (constraint_of one l) (take one.stretch (drop p v)) (as_long_lent one l w.1 w.2) stretch ∙ stretch

  parts : drop p whole ≡ gives ++ later
  parts = behind ∙ product_at t i h f l (drop p v)

  untouched : drop p w ≡ drop p v
  untouched = back whole v w gives later p one.stretch room_left written so_far given parts

  pub put_turn : (w' : List Float) → w' ≡ take p w ++ (alone f (constraint_of one l) (take one.stretch (drop p w)) ++ drop (p + one.stretch) w) → w' ≡ take (p + one.stretch) whole ++ drop (p + one.stretch) v
  put_turn w' e =
      e ∙ ap (λ (x : List Float). take p w ++ (alone f (constraint_of one l) (take one.stretch x) ++ drop (p + one.stretch) w)) untouched
      ∙ stretch_turn whole v w gives later p one.stretch room_left written so_far given parts

  pub put_rest : (rest : List Float) → rest ≡ drop (count one) l → drop (p + one.stretch) whole ≡ cartesian_product f (table_of (drop (i + 1) t) rest) (drop (p + one.stretch) v)
  put_rest rest e =
      stretch_rest whole v w gives later p one.stretch room_left written so_far given parts
      ∙ ap (λ (x : List Float). cartesian_product f (table_of (drop (i + 1) t) (drop (count one) l)) x) (drop-drop one.stretch p v)
      ∙ ap (λ (x : List Float). cartesian_product f (table_of (drop (i + 1) t) x) (drop (p + one.stretch) v)) (sym e)

  pub put_fits : (rest : List Float) → rest ≡ drop (count one) l → fits (drop (i + 1) t) (length rest) (length v - (p + one.stretch)) ≡ true
  put_fits rest e =
      let n : length v - (p + one.stretch) ≡ length v - p - one.stretch = omega arith in
      ap (λ (k : ℕ). fits (drop (i + 1) t) (length rest) k) n ∙ fits_next t i h l rest (length v - p) fit e

-- after the last turn no place is left
pub put_over : (f : Format) (t : List Set) (numbers v : List Float) (i : ℕ) (l w : List Float) (p : ℕ) → fits t (length numbers) (length v) ≡ true → p ≤ length v → fits (drop i t) (length l) (length v - p) ≡ true
    → w ≡ take p (cartesian_product f (table_of t numbers) v) ++ drop p v → length t ≤ i → w ≡ cartesian_product f (table_of t numbers) v
put_over f t numbers v i l w p a n e s o =
    let z : length v - p ≡ 0 = eqb-true _ _ (fits_over t i (length l) (length v - p) true e o) in
    let q : length (cartesian_product f (table_of t numbers) v) ≡ length v = product_length f t numbers v a in
    s ∙ overwritten (cartesian_product f (table_of t numbers) v) v p q (omega arith)

-- ---- what fits is what is not refused by 20

same : (a b : Bool) → (a ≡ true → b ≡ true) → (b ≡ true → a ≡ true) → a ≡ b
same true b f g = sym (f refl)
same false true f g = absurd (true≢false (sym (g refl)))
same false false f g = refl

long_lent : (s : Set) (l : List Float) → count s ≤ length l → as_long s.stretch (constraint_of s l) ≡ true → lengths_right s ≡ true
long_lent s l c e = by (is_rectangle s) c e
  where
    by : (b : Bool) → cond b (s.first + s.second) (1 + s.first) ≤ length l
        → as_long s.stretch (cond b (rectangle_of (take s.first l) (take s.second (drop s.first l))) (ball_of (take s.first (drop 1 l)) (get_or l 0 nan))) ≡ true
        → (eqb s.first s.stretch && cond b (eqb s.second s.stretch) true) ≡ true
    by true c e =
        let w = and_parts _ _ e in
        and_from _ _ (eq-eqb _ _ (sym (length-take-le s.first l (omega arith)) ∙ eqb-true _ _ w.0))
        (eq-eqb _ _ (sym (length-take-le s.second (drop s.first l) (omega (arith, length-drop s.first l))) ∙ eqb-true _ _ w.1))
    by false c e = and_from _ _ (eq-eqb _ _ (sym (length-take-le s.first (drop 1 l) (omega (arith, length-drop 1 l))) ∙ eqb-true _ _ e)) refl

-- the parts of the test, and the test from its parts
fits_parts : (t : List Set) (l : List Float) (n : ℕ) → fits t (length l) n ≡ true → (numbers_of_all t ≤ length l) × (filled (table_of t l) ≡ n) × (all_as_long (table_of t l) ≡ true)
unfolding fits numbers_of_all filled all_as_long table_of
fits_parts [] l n e = (omega arith, sym (eqb-true _ _ e), refl)
fits_parts (s ∷ t) l n e =
    let p = and_parts _ _ e in
    let q = and_parts _ _ p.0 in
    let r = and_parts _ _ q.0 in
    let a : s.stretch ≤ n = leb-true _ _ r.0 in
    let b : count s ≤ length l = leb-true _ _ q.1 in
    let w = fits_parts t (drop (count s) l) (n - s.stretch) (ap (λ (k : ℕ). fits t k (n - s.stretch)) (length-drop (count s) l) ∙ p.1) in
    (omega (arith, a, b, w.0, length-drop (count s) l), omega (arith, a, w.1), and_from _ _ (as_long_lent s l r.1 b) w.2)

fits_from : (t : List Set) (l : List Float) (n : ℕ) → numbers_of_all t ≤ length l → filled (table_of t l) ≡ n → all_as_long (table_of t l) ≡ true → fits t (length l) n ≡ true
unfolding fits numbers_of_all filled all_as_long table_of
fits_from [] l n c e a = eq-eqb _ _ (sym e)
fits_from (s ∷ t) l n c e a =
    let b : count s ≤ length l = omega arith in
    let k : s.stretch ≤ n = omega arith in
    let w = and_parts (as_long s.stretch (constraint_of s l)) (all_as_long (table_of t (drop (count s) l))) a in
    let m = fits_from t (drop (count s) l) (n - s.stretch) (omega (arith, length-drop (count s) l)) (omega arith) w.1 in
    and_from _ _ (and_from _ _ (and_from _ _ (le-leb _ _ k) (long_lent s l b w.0)) (le-leb _ _ b)) (sym (ap (λ (j : ℕ). fits t j (n - s.stretch)) (length-drop (count s) l)) ∙ m)

table_length : (t : List Set) (l : List Float) → length (table_of t l) ≡ length t
unfolding table_of
table_length [] l = refl
table_length (s ∷ t) l = ap suc (table_length t (drop (count s) l))

-- the test of the code, on a table as it is lent
fits_right : (t : List Set) (l : List Float) (n : ℕ) → (leb (length t) 8 && fits t (length l) n) ≡ (leb (numbers_of_all t) (length l) && sets_right (table_of t l) n)
unfolding sets_right
fits_right t l n =
    same _ _
    (λ h.
    let w = and_parts _ _ h in
    let p = fits_parts t l n w.1 in
    and_from _ _ (le-leb _ _ p.0) (and_from _ _ (and_from _ _ (ap (λ (k : ℕ). leb k 8) (table_length t l) ∙ w.0) (eq-eqb _ _ p.1)) p.2))
    (λ h.
    let w = and_parts _ _ h in
    let p = and_parts _ _ w.1 in
    let q = and_parts _ _ p.0 in
    and_from _ _ (ap (λ (k : ℕ). leb k 8) (sym (table_length t l)) ∙ q.0) (fits_from t l n (leb-true _ _ w.0) (eqb-true _ _ q.1) p.1))

-- ---- the call

one_fails : (a b : Bool) (k z : ℕ) → (a && b) ≡ false → cond a (cond b k z) z ≡ z
one_fails true true k z h = absurd (true≢false h)
one_fails true false k z h = refl
one_fails false b k z h = refl

both_pass : (a b : Bool) (k z : ℕ) → (a && b) ≡ true → cond a (cond b k z) z ≡ k
both_pass true true k z h = refl
both_pass true false k z h = absurd (true≢false (sym h))
both_pass false b k z h = absurd (true≢false (sym h))

module _ (f : Format) (t : List Set) (l v : List Float) (w r : Bool) (e : w ≡ (leb (length t) 8 && fits t (length l) (length v))) where
  -- the sets do not fit
  pub refused_20 : w ≡ false → Projects f t l v v 20
  unfolding lent_refusal refusal
  refused_20 h = record { number = sym (one_fails (leb (numbers_of_all t) (length l)) (sets_right (table_of t l) (length v)) _ _ (sym (fits_right t l (length v)) ∙ sym e ∙ h)); vector = refl }

  taken : w ≡ true → lent_refusal t l (length v) ≡ cond (all_numbers_right (table_of t l)) 0 21
  unfolding lent_refusal refusal
  taken h = both_pass (leb (numbers_of_all t) (length l)) (sets_right (table_of t l) (length v)) _ _ (sym (fits_right t l (length v)) ∙ sym e ∙ h)

  -- a number is not right
  pub refused_21 : w ≡ true → r ≡ all_numbers_right (table_of t l) → r ≡ false → Projects f t l v v 21
  refused_21 h k z = record { number = sym (taken h ∙ rw (← k, z) refl); vector = refl }

  -- nothing is refused
  pub projected : w ≡ true → r ≡ all_numbers_right (table_of t l) → r ≡ true → (v' : List Float) → v' ≡ cartesian_product f (table_of t l) v → Projects f t l v v' 0
  projected h k z v' p = record { number = sym (taken h ∙ rw (← k, z) refl); vector = p }

  -- what the calls ask for
  pub fitting : w ≡ true → fits t (length l) (length v) ≡ true
  fitting h = (and_parts _ _ (sym e ∙ h)).1

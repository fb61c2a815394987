-- The order of the floats that are not negative, and what keeps a float from being negative. Assumes nothing.
use Prim.Native.Nat.{ℕ, zero, suc, ◌+◌, ◌*◌, ◌^◌, ◌/◌, ◌%◌, ◌-◌, ◌<◌, ◌≤◌, compare}
use Rattle.std.specs.Prelude.{◌≡◌, refl, Bool, true, false, cond, ◌&&◌, ◌⊎◌, T, ltb, eqb, Float}
use Rattle.std.proofs.Common.{sym, ap, subst, inl, inr, arith, lt-ltb, ltb-true}
use Rattle.std.proofs.Math.Decide.{dec_lt}
use Rattle.std.proofs.Math.Dec.{eqb_refl}
use Rattle.std.specs.Float.{nan, inf, fin, Format}
use Rattle.std.specs.Float.Ieee.{add, mul, sum, round, units, odd, lt, eq, level, is_nan, up, down, low, prec, emax, size, nearest}
use Rattle.std.specs.Float.Ieee.Fits.{down_pos}
use Rattle.std.specs.Float.Ieee.Bits.{is_true}
use Rattle.std.specs.Float.Ieee.Positive.{through}
use Rattle.std.specs.Float.Ieee.Scale.{finite}
use Rattle.ieee.specs.Numbers.{null, absolute}
use Rattle.ieee.specs.Root.{root, root_of}
use Rattle.ieee.specs.Order.{upward}

cond_upward : (b : Bool) (x y : Float) → T (upward x) → T (upward y) → T (upward (cond b x y))
cond_upward true x y p q = p
cond_upward false x y p q = q

odd_upward : (d q k l : ℕ) → T (upward (odd d false q k l))
unfolding odd
odd_upward d zero k l = tt
odd_upward d (suc q) k l = tt

units_upward : (f : Format) (q k : ℕ) → T (upward (units f false q k))
unfolding units
units_upward f q k = cond_upward (ltb (q * 2 ^ k) (2 ^ (low f + suc (emax f)))) (odd (suc (prec f)) false q k (low f)) (inf false) (odd_upward (suc (prec f)) q k (low f)) tt

pub round_upward : (f : Format) (a c : ℕ) → T (upward (round f false a c))
unfolding round
round_upward f a c =
    let n = a * 2 ^ low f in
    let k = size (n / c) - prec f in
    let u = c * 2 ^ k in
    units_upward f (nearest (n / u) (compare (n % u * 2) u)) k

pub add_upward : (f : Format) (x y : Float) → T (upward x) → T (upward y) → T (upward (add f x y))
unfolding add sum
add_upward f nan y p q = tt
add_upward f (inf s) nan p q = tt
add_upward f (inf false) (inf false) p q = tt
add_upward f (inf false) (inf true) p q = absurd q
add_upward f (inf true) (inf t) p q = absurd p
add_upward f (inf s) (fin t n d) p q = p
add_upward f (fin s m e) nan p q = tt
add_upward f (fin s m e) (inf t) p q = q
add_upward f (fin false m e) (fin false n d) p q = round_upward f (m * up e * down d + n * up d * down e) (down e * down d)
add_upward f (fin false m e) (fin true n d) p q = absurd q
add_upward f (fin true m e) (fin t n d) p q = absurd p

pub square_upward : (f : Format) (x : Float) → T (upward (mul f x x))
unfolding mul
square_upward f nan = tt
square_upward f (inf false) = tt
square_upward f (inf true) = tt
square_upward f (fin false m e) = round_upward f (m * up e * (m * up e)) (down e * down e)
square_upward f (fin true m e) = round_upward f (m * up e * (m * up e)) (down e * down e)

pub mul_upward : (f : Format) (x y : Float) → T (upward x) → T (upward y) → T (upward (mul f x y))
unfolding mul
mul_upward f nan y p q = tt
mul_upward f (inf s) nan p q = tt
mul_upward f (inf false) (inf false) p q = tt
mul_upward f (inf false) (inf true) p q = absurd q
mul_upward f (inf true) (inf t) p q = absurd p
mul_upward f (inf false) (fin false n d) p q = cond_upward (eqb n 0) nan (inf false) tt tt
mul_upward f (inf false) (fin true n d) p q = absurd q
mul_upward f (inf true) (fin t n d) p q = absurd p
mul_upward f (fin s m e) nan p q = tt
mul_upward f (fin false m e) (inf false) p q = cond_upward (eqb m 0) nan (inf false) tt tt
mul_upward f (fin false m e) (inf true) p q = absurd q
mul_upward f (fin true m e) (inf t) p q = absurd p
mul_upward f (fin false m e) (fin false n d) p q = round_upward f (m * up e * (n * up d)) (down e * down d)
mul_upward f (fin false m e) (fin true n d) p q = absurd q
mul_upward f (fin true m e) (fin t n d) p q = absurd p

pub root_upward : (f : Format) (x : Float) → T (upward x) → T (upward (root f x))
unfolding root root_of
root_upward f nan u = tt
root_upward f (inf true) u = tt
root_upward f (inf false) u = tt
root_upward f (fin s zero e) u = u
root_upward f (fin true (suc m) e) u = tt
root_upward f (fin false (suc m) e) u = units_upward f _ _

pub absolute_upward : (x : Float) → T (upward (absolute x))
unfolding absolute
absolute_upward nan = tt
absolute_upward (inf s) = tt
absolute_upward (fin s m e) = tt

tf : {X : Type 0} → true ≡ false → X
tf e = absurd (omega (arith, ap {B = ℕ} (λ (b : Bool). cond b 1 0) e))

-- below infinity: finite
pub below_infinity : (x : Float) → T (upward x) → lt x (inf false) ≡ true → T (finite x)
unfolding lt
below_infinity nan u h = tf (sym h)
below_infinity (inf true) u h = absurd u
below_infinity (inf false) u h = tf (sym h)
below_infinity (fin s m e) u h = tt

pub finite_below : (x : Float) → T (finite x) → lt x (inf false) ≡ true
unfolding lt
finite_below nan h = absurd h
finite_below (inf s) h = absurd h
finite_below (fin s m e) h = refl

pub finite_number : (x : Float) → T (finite x) → is_nan x ≡ false
unfolding is_nan
finite_number nan h = absurd h
finite_number (inf s) h = absurd h
finite_number (fin s m e) h = refl

pub above_zero : (x : Float) → lt null x ≡ true → T (upward x)
unfolding lt
above_zero nan h = tt
above_zero (inf true) h = tf (sym h)
above_zero (inf false) h = tt
above_zero (fin true m e) h = tf (sym h)
above_zero (fin false m e) h = tt

pub asym : (x y : Float) → T (upward x) → T (upward y) → lt x y ≡ true → lt y x ≡ true → ⊥
unfolding lt
asym nan y u v p q = tf (sym p)
asym (inf s) nan u v p q = tf (sym p)
asym (inf false) (inf t) u v p q = tf (sym p)
asym (inf true) (inf t) u v p q = absurd u
asym (inf false) (fin t n d) u v p q = tf (sym p)
asym (inf true) (fin t n d) u v p q = absurd u
asym (fin s m e) nan u v p q = tf (sym p)
asym (fin s m e) (inf false) u v p q = tf (sym q)
asym (fin s m e) (inf true) u v p q = absurd v
asym (fin false m e) (fin false n d) u v p q =
    let h : m * up e * down d < n * up d * down e = ltb-true _ _ p in
    let k : n * up d * down e < m * up e * down d = ltb-true _ _ q in
    absurd (omega arith)
asym (fin false m e) (fin true n d) u v p q = absurd v
asym (fin true m e) (fin t n d) u v p q = absurd u

pub irreflexive : (x : Float) → T (upward x) → lt x x ≡ true → ⊥
irreflexive x u h = asym x x u u h h

-- three fractions a / p, b / q, g / r
between : (a p b q g r : ℕ) → 0 < q → a * r < g * p → (a * q < b * p) ⊎ (b * r < g * q)
between a p b q g r h w = by (dec_lt (a * q) (b * p)) (dec_lt (b * r) (g * q))
  where
    by : Dec (a * q < b * p) → Dec (b * r < g * q) → (a * q < b * p) ⊎ (b * r < g * q)
    by (yes y) z = inl y
    by (no n) (yes z) = inr z
    by (no n) (no k) =
        let l₁ : b * p ≤ a * q = omega (arith, n) in
        let l₂ : g * q ≤ b * r = omega (arith, k) in
        let l₃ : g * p ≤ a * r = through g b a r q p h l₂ l₁ in
        absurd (omega arith)

sum_map : {A B C D : Type 0} → (A → C) → (B → D) → A ⊎ B → C ⊎ D
sum_map f g (inl a) = inl (f a)
sum_map f g (inr b) = inr (g b)

-- whatever lies between: y is above x, or below z
pub cotrans : (x y z : Float) → T (upward x) → T (upward y) → T (upward z) → is_nan y ≡ false → lt x z ≡ true → (lt x y ≡ true) ⊎ (lt y z ≡ true)
unfolding lt is_nan
cotrans nan y z u v w i h = tf (sym h)
cotrans (inf true) y z u v w i h = absurd u
cotrans (inf false) y nan u v w i h = tf (sym h)
cotrans (inf false) y (inf t) u v w i h = tf (sym h)
cotrans (inf false) y (fin t n d) u v w i h = tf (sym h)
cotrans (fin true m e) y z u v w i h = absurd u
cotrans (fin false m e) nan z u v w i h = tf i
cotrans (fin false m e) (inf true) z u v w i h = absurd v
cotrans (fin false m e) (inf false) z u v w i h = inl refl
cotrans (fin false m e) (fin true n d) z u v w i h = absurd v
cotrans (fin false m e) (fin false n d) nan u v w i h = tf (sym h)
cotrans (fin false m e) (fin false n d) (inf true) u v w i h = absurd w
cotrans (fin false m e) (fin false n d) (inf false) u v w i h = inr refl
cotrans (fin false m e) (fin false n d) (fin true k c) u v w i h = absurd w
cotrans (fin false m e) (fin false n d) (fin false k c) u v w i h =
    sum_map (lt-ltb _ _) (lt-ltb _ _) (between (m * up e) (down e) (n * up d) (down d) (k * up c) (down c) (down_pos d) (ltb-true _ _ h))

pub trans : (x y z : Float) → T (upward x) → T (upward y) → T (upward z) → is_nan z ≡ false → lt x y ≡ true → lt y z ≡ true → lt x z ≡ true
trans x y z u v w i p q = by (cotrans x z y u w v i p)
  where
    by : (lt x z ≡ true) ⊎ (lt z y ≡ true) → lt x z ≡ true
    by (inl a) = a
    by (inr b) = absurd (asym y z v w q b)

level_eq : (a b : ℕ) → a ≡ b → eqb a b ≡ true
level_eq a b e = is_true (eqb a b) (subst (λ (x : ℕ). T (eqb a x)) e (eqb_refl a))

-- two numbers, neither a NaN: the first is below the second, equals it, or is above it
pub total : (x y : Float) → T (upward x) → T (upward y) → is_nan x ≡ false → is_nan y ≡ false → (lt x y ≡ true) ⊎ ((eq x y ≡ true) ⊎ (lt y x ≡ true))
unfolding lt eq is_nan
total nan y u v i j = tf i
total (inf true) y u v i j = absurd u
total (inf false) nan u v i j = tf j
total (inf false) (inf true) u v i j = absurd v
total (inf false) (inf false) u v i j = inr (inl refl)
total (inf false) (fin t n d) u v i j = inr (inr refl)
total (fin true m e) y u v i j = absurd u
total (fin false m e) nan u v i j = tf j
total (fin false m e) (inf true) u v i j = absurd v
total (fin false m e) (inf false) u v i j = inl refl
total (fin false m e) (fin true n d) u v i j = absurd v
total (fin false m e) (fin false n d) u v i j = by (dec_lt a b) (dec_lt b a)
  where
    a : ℕ
    a = m * up e * down d

    b : ℕ
    b = n * up d * down e

    by : Dec (a < b) → Dec (b < a) → (ltb a b ≡ true) ⊎ ((level false a false b ≡ true) ⊎ (ltb b a ≡ true))
    by (yes y) z = inl (lt-ltb a b y)
    by (no x) (yes z) = inr (inr (lt-ltb b a z))
    by (no x) (no z) =
        let e : a ≡ b = omega (arith, x, z) in
        inr (inl (ap (λ (t : Bool). t && true) (level_eq a b e)))

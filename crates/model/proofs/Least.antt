-- The half step that a solve keeps is the earliest of least finite norm among those that it scored, or zeros with infinity; its entries are finite. Assumes nothing but the laws of `ieee`.
use Rattle.std.specs.Prelude.{ℕ, zero, suc, ◌≡◌, refl, Bool, true, false, ◌⊎◌, T, Float, length, replicate}
use Rattle.std.proofs.Common.{sym, ◌∙◌, subst, inl, inr, arith}
use Rattle.std.proofs.Math.Path.{ap}
use Rattle.std.proofs.Math.Bool.{cond}
use mathlib.Core.List.{List, [], ◌∷◌, ◌++◌, append_assoc, zip_with}
use Rattle.std.specs.Float.{nan, inf, fin, Format}
use Rattle.std.specs.Float.Ieee.{lt, is_nan}
use Rattle.std.specs.Float.Ieee.Scale.{finite}
use Rattle.std.proofs.lemmas.List.{length-replicate}
use Rattle.ieee.specs.Numbers.{null}
use Rattle.ieee.proofs.Finite.{sub_finite}
use Rattle.ieee.specs.Order.{upward}
use Rattle.ieee.proofs.Order.{irreflexive, cotrans, trans}
use Rattle.ieee.specs.Sums.{AllFinite, norm}
use Rattle.ieee.proofs.Sums.{norm_finite}
use Rattle.model.specs.Vectors.{minus}
use Rattle.model.proofs.Facts.{true_false}
use Rattle.model.specs.State.{Best, no_best, keep}
use Rattle.model.specs.Least.{All, Chosen, Kept, Scored, earliest, zeros}

-- ---- lists

all_more : {A : Type 0} (P : A → Type 0) (xs : List A) (y : A) → All P xs → P y → All P (xs ++ (y ∷ []))
all_more P [] y a p = (p, tt)
all_more P (x ∷ xs) y a p = (a.0, all_more P xs y a.1 p)

all_both : {A : Type 0} (P Q R : A → Type 0) → ((x : A) → P x → Q x → R x) → (xs : List A) → All P xs → All Q xs → All R xs
all_both P Q R f [] a b = tt
all_both P Q R f (x ∷ xs) a b = (f x a.0 b.0, all_both P Q R f xs a.1 b.1)

-- ---- floats

not_below : (x y : Float) → T (upward x) → (T (finite x) → ⊥) → lt x y ≡ false
unfolding lt
not_below nan y u h = refl
not_below (inf true) y u h = absurd u
not_below (inf false) nan u h = refl
not_below (inf false) (inf t) u h = refl
not_below (inf false) (fin t n d) u h = refl
not_below (fin s m e) y u h = absurd (h tt)

below_finite : (x y : Float) → T (upward x) → lt x y ≡ true → T (finite x)
below_finite x y u h = by (finite x) refl
  where
    by : (b : Bool) → finite x ≡ b → T (finite x)
    by true e = subst (λ (b : Bool). T b) (sym e) tt
    by false e = true_false (sym h ∙ not_below x y u (λ w. subst (λ (b : Bool). T b) e w))

infinite_not : (x : Float) → lt x (inf false) ≡ false → T (finite x) → ⊥
unfolding lt
infinite_not nan h w = w
infinite_not (inf s) h w = w
infinite_not (fin s m e) h w = true_false h

finite_number : (x : Float) → T (finite x) → is_nan x ≡ false
unfolding is_nan
finite_number nan h = absurd h
finite_number (inf s) h = absurd h
finite_number (fin s m e) h = refl

minus_finite : (f : Format) (u h : List Float) → length u ≡ length h → AllFinite (minus f u h) → AllFinite h
unfolding minus zip_with
minus_finite f [] [] e a = tt
minus_finite f [] (y ∷ h) e a = absurd (omega arith)
minus_finite f (x ∷ u) [] e a = absurd (omega arith)
minus_finite f (x ∷ u) (y ∷ h) e a = ((sub_finite f x y a.0).1, minus_finite f u h (omega arith) a.1)

-- a half step of finite norm is finite
pub half_finite : (f : Format) (u h : List Float) → length u ≡ length h → T (finite (norm f (minus f u h))) → AllFinite h
half_finite f u h e w = minus_finite f u h e (norm_finite f (minus f u h) w)

-- ---- what is kept

zeros_finite : (n : ℕ) → AllFinite (replicate n null)
zeros_finite zero = tt
zeros_finite (suc n) = (tt, zeros_finite n)

pub kept_none : (n : ℕ) → Kept n [] (no_best n)
unfolding no_best is_nan
kept_none n = record { chosen = zeros tt refl refl; size = length-replicate n _; whole = zeros_finite n; upwards = tt; up = tt; number = refl }

-- h, of norm x, is scored after the others
module _ (n : ℕ) (scores : List Scored) (b : Best) (k : Kept n scores b) (h : List Float) (x : Float) (l : length h ≡ n) (u : T (upward x)) (f : T (finite x) → AllFinite h) where
  abbrev new : Scored
  new = record { half = h; norm = x }

  -- it is the best so far
  less : lt x b.norm ≡ true → Kept n (scores ++ (new ∷ [])) (record { point = h; norm = x })
  less e = by k.chosen
    where
      w : T (finite x)
      w = below_finite x b.norm u e

      self : lt x x ≡ false
      self = go (lt x x) refl
        where
          go : (c : Bool) → lt x x ≡ c → lt x x ≡ false
          go true q = absurd (irreflexive x u q)
          go false q = q

      under : (y : Scored) → T (upward y.norm) → lt y.norm b.norm ≡ false → lt y.norm x ≡ false
      under y v q = go (lt y.norm x) refl
        where
          go : (c : Bool) → lt y.norm x ≡ c → lt y.norm x ≡ false
          go true p = true_false (sym (trans y.norm x b.norm v u k.up k.number p e) ∙ q)
          go false p = p

      over : (y : Scored) → T (upward y.norm) → lt y.norm b.norm ≡ false → T (finite y.norm) → lt x y.norm ≡ true
      over y v q g = go (cotrans x y.norm b.norm u v k.up (finite_number y.norm g) e)
        where
          go : (lt x y.norm ≡ true) ⊎ (lt y.norm b.norm ≡ true) → lt x y.norm ≡ true
          go (inl p) = p
          go (inr p) = true_false (sym p ∙ q)

      made : All (λ (y : Scored). lt y.norm b.norm ≡ false) scores → Kept n (scores ++ (new ∷ [])) (record { point = h; norm = x })
      made q =
          record {
            chosen = earliest
                (record {
                  earlier = scores;
                  later = [];
                  place = refl;
                  whole = w;
                  least = all_more (λ (y : Scored). lt y.norm x ≡ false) scores new (all_both _ _ _ under scores k.upwards q) self;
                  first = all_both _ _ _ over scores k.upwards q;
                });
            size = l;
            whole = f w;
            upwards = all_more (λ (y : Scored). T (upward y.norm)) scores new k.upwards u;
            up = u;
            number = finite_number x w;
          }

      by : Chosen n scores b.point b.norm → Kept n (scores ++ (new ∷ [])) (record { point = h; norm = x })
      by (earliest o) = made o.least
      by (zeros q p i) = made (all_both _ (λ (y : Scored). T (finite y.norm) → ⊥) _ (λ y v z. not_below y.norm b.norm v z) scores k.upwards q)

  -- the best so far stays
  stays : lt x b.norm ≡ false → Kept n (scores ++ (new ∷ [])) b
  stays e =
      record {
        chosen = by k.chosen;
        size = k.size;
        whole = k.whole;
        upwards = all_more (λ (y : Scored). T (upward y.norm)) scores new k.upwards u;
        up = k.up;
        number = k.number;
      }
    where
      by : Chosen n scores b.point b.norm → Chosen n (scores ++ (new ∷ [])) b.point b.norm
      by (earliest o) =
          earliest
          (record {
            earlier = o.earlier;
            later = o.later ++ (new ∷ []);
            place = ap (λ (t : List Scored). t ++ (new ∷ [])) o.place ∙ append_assoc o.earlier _ _;
            whole = o.whole;
            least = all_more (λ (y : Scored). lt y.norm b.norm ≡ false) scores new o.least e;
            first = o.first;
          })
      by (zeros q p i) = zeros (all_more (λ (y : Scored). T (finite y.norm) → ⊥) scores new q (infinite_not x (rw i at e))) p i

  -- "kept only if its norm is strictly less than the best so far"
  replaced : lt x b.norm ≡ true → keep b h x ≡ record { point = h; norm = x }
  unfolding keep
  replaced e = ap (λ (t : Bool). cond t (record { point = h; norm = x }) b) e

  not_replaced : lt x b.norm ≡ false → keep b h x ≡ b
  unfolding keep
  not_replaced e = ap (λ (t : Bool). cond t (record { point = h; norm = x }) b) e

  -- `keep` keeps the earliest of least finite norm
  pub kept_more : Kept n (scores ++ (new ∷ [])) (keep b h x)
  kept_more = by (lt x b.norm) refl
    where
      by : (c : Bool) → lt x b.norm ≡ c → Kept n (scores ++ (new ∷ [])) (keep b h x)
      by true e = subst (Kept n (scores ++ (new ∷ []))) (sym (replaced e)) (less e)
      by false e = subst (Kept n (scores ++ (new ∷ []))) (sym (not_replaced e)) (stays e)

  -- a norm below a tolerance leaves the kept one below it
  pub kept_below : (t : Float) → T (upward t) → lt x t ≡ true → lt (keep b h x).norm t ≡ true
  kept_below t v e = by (lt x b.norm) refl
    where
      by : (c : Bool) → lt x b.norm ≡ c → lt (keep b h x).norm t ≡ true
      by true q = subst (λ (z : Best). lt z.norm t ≡ true) (sym (replaced q)) e
      by false q = subst (λ (z : Best). lt z.norm t ≡ true) (sym (not_replaced q)) (go (cotrans x b.norm t u k.up v k.number e))
        where
          go : (lt x b.norm ≡ true) ⊎ (lt b.norm t ≡ true) → lt b.norm t ≡ true
          go (inl p) = true_false (sym p ∙ q)
          go (inr p) = p

-- The plan of the model is the plan of the claim. Assumes nothing.
use Rattle.std.specs.Prelude.{ℕ, ◌≡◌, refl, Bool, true, false, List, [], ◌∷◌, ◌++◌, ◌⊎◌, T, Float}
use Rattle.std.proofs.Common.{sym, subst, inl, inr}
use Rattle.std.specs.Float.Ieee.{lt}
use Rattle.std.specs.Float.Ieee.Scale.{finite}
use Rattle.model.specs.Least as Least
use Rattle.model.specs.Least.{Scored, All}
use Rattle.model.specs.Plans as Plans
use Rattle.claim.specs.Claim.{Earliest, Zeros, Plan}

all_each : {A : Type 0} (P Q : A → Type 0) → ((x : A) → P x → Q x) → (xs : List A) → All P xs → All Q xs
all_each P Q f [] a = tt
all_each P Q f (x ∷ xs) a = (f x a.0, all_each P Q f xs a.1)

all_later : {A : Type 0} (P : A → Type 0) (xs : List A) (y : A) (ys : List A) → All P (xs ++ (y ∷ ys)) → All P ys
all_later P [] y ys a = a.1
all_later P (x ∷ xs) y ys a = all_later P xs y ys a.1

is_true : (b : Bool) → T b → b ≡ true
is_true true t = refl
is_true false t = absurd t

is_false : (b : Bool) → (T b → ⊥) → b ≡ false
is_false true t = absurd (t tt)
is_false false t = refl

module _ {scores : List Scored} {plan : List Float} {norm : Float} where
  earliest : Least.Earliest scores plan norm → Earliest scores plan norm
  earliest o =
      record {
        before = o.earlier;
        after = o.later;
        among = o.place;
        whole = is_true _ o.whole;
        larger = all_each _ _ (λ y f. larger y f (finite y.norm) refl) o.earlier o.first;
        least = all_later (λ (y : Scored). lt y.norm norm ≡ false) o.earlier _ o.later (subst (All (λ (y : Scored). lt y.norm norm ≡ false)) o.place o.least);
      }
    where
      larger : (y : Scored) → (T (finite y.norm) → lt norm y.norm ≡ true) → (b : Bool) → finite y.norm ≡ b → (lt norm y.norm ≡ true) ⊎ (finite y.norm ≡ false)
      larger y f true e = inl (f (subst T (sym e) tt))
      larger y f false e = inr e

  chosen : {n : ℕ} → Least.Chosen n scores plan norm → Earliest scores plan norm ⊎ Zeros n scores plan norm
  chosen (Least.earliest o) = inl (earliest o)
  chosen (Least.zeros a p i) = inr (record { none = all_each _ _ (λ y f. is_false _ f) scores a; zeros = p; infinity = i })

  pub plan_is : {n : ℕ} → Plans.Plan n scores plan norm → Plan n scores plan norm
  plan_is p = record { chosen = chosen p.chosen; size = p.size; whole = p.whole }

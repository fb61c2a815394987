-- Small facts that several theorems use: tests, ends that are not Converged, sizes of vectors. Assumes nothing.
use Rattle.std.specs.Prelude.{ℕ, zero, suc, ◌≡◌, refl, Bool, true, false, ◌&&◌, ◌||◌, Float, length}
use Rattle.std.proofs.Common.{ap, true≢false, arith}
use Rattle.std.proofs.Math.Bool.{and-eq-true_iff}
use mathlib.Core.List.{List, [], ◌∷◌, zip_with, map}
use Rattle.std.specs.Float.{Format}
use Rattle.model.specs.Vectors.{minus, plus, less_times, plus_times, shifts, shifted}
use Rattle.model.specs.Process.{converged, not_converged_iterations, not_converged_out_of_time}
use Rattle.model.specs.State.{State}
use Rattle.model.specs.Inner.{candidate}

-- ---- tests

pub true_false : {X : Type 0} → true ≡ false → X
true_false e = absurd (true≢false e)

pub and_left : (a b : Bool) → a && b ≡ true → a ≡ true
and_left a b e = ((and-eq-true_iff a b).0 e).0

pub and_right : (a b : Bool) → a && b ≡ true → b ≡ true
and_right a b e = ((and-eq-true_iff a b).0 e).1

pub or_else : (a b : Bool) → a ≡ false → a || b ≡ true → b ≡ true
or_else true b z e = true_false z
or_else false b z e = e

-- ---- ends

pub iterations_not : {X : Type 0} → not_converged_iterations ≡ converged → X
iterations_not e = let z : ◌≡◌ {A = ℕ} 0 1 = cc in absurd (omega arith)

pub time_not : {X : Type 0} → not_converged_out_of_time ≡ converged → X
time_not e = let z : ◌≡◌ {A = ℕ} 0 1 = cc in absurd (omega arith)

-- ---- sizes

pub zip_size : (g : Float → Float → Float) (n : ℕ) (a b : List Float) → length a ≡ n → length b ≡ n → length (zip_with g a b) ≡ n
unfolding zip_with
zip_size g n [] b p q = p
zip_size g n (x ∷ a) [] p q = q
zip_size g zero (x ∷ a) (y ∷ b) p q = absurd (omega arith)
zip_size g (suc n) (x ∷ a) (y ∷ b) p q = ap suc (zip_size g n a b (omega arith) (omega arith))

map_size : (g : Float → Float) (a : List Float) → length (map g a) ≡ length a
map_size g [] = refl
map_size g (x ∷ a) = ap suc (map_size g a)

less_size : (f : Format) (γ : Float) (n : ℕ) (a b : List Float) → length a ≡ n → length b ≡ n → length (less_times f γ a b) ≡ n
unfolding less_times
less_size f γ n a b p q = zip_size _ n a b p q

pub minus_size : (f : Format) (n : ℕ) (a b : List Float) → length a ≡ n → length b ≡ n → length (minus f a b) ≡ n
unfolding minus
minus_size f n a b p q = zip_size _ n a b p q

pub shifted_size : (f : Format) (u : List Float) → length (shifted f u) ≡ length u
unfolding shifted plus shifts
shifted_size f u = zip_size _ (length u) u (map _ u) refl (map_size _ u)

pub candidate_size : (f : Format) (n : ℕ) (τ : Float) (d : List Float) (st : State) → length st.at.u ≡ n → length st.residual ≡ n → length d ≡ n → length (candidate f τ d st) ≡ n
unfolding candidate
candidate_size f n τ d st p q r = less_size f τ n _ d (less_size f _ n st.at.u st.residual p q) r

pub plus_times_size : (f : Format) (c : Float) (n : ℕ) (a b : List Float) → length a ≡ n → length b ≡ n → length (plus_times f c a b) ≡ n
unfolding plus_times
plus_times_size f c n a b p q = zip_size _ n a b p q

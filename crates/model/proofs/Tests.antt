-- Tests in a row, with distinct numbers in any order: which number comes, and what that says of each test. Assumes nothing.
use Rattle.std.specs.Prelude.{ℕ, suc, ◌≡◌, refl, ◌⊎◌, ◌↔◌, Bool, true, false, ◌&&◌, not, cond, List, [], ◌∷◌, T, eqb}
use Rattle.std.proofs.Common.{sym, subst, inl, inr, true≢false, arith, eqb→eq}
use Rattle.std.specs.Float.Ieee.Fits.{eq→eqb, and_l, and_r}
use Rattle.model.specs.Refusals.{unless}
use Rattle.model.specs.Tests.{Among, Fails, Passed, Test, absent, distinct, first, test}

-- a test does not fail and pass
not_both : (t : Bool) → T (not t) → T t → ⊥
not_both true h w = h
not_both false h w = w

-- two numbers that differ
apart : (n k : ℕ) → T (not (eqb n k)) → n ≡ k → ⊥
apart n k h e = not_both (eqb n k) h (eq→eqb e)

-- a number that no test has never comes
pub never : (ts : List Test) (k : ℕ) → T (absent (suc k) ts) → first ts ≡ suc k → ⊥
unfolding unless
never [] k h e = omega arith
never (test n true ∷ ts) k h e = never ts k (and_r (not (eqb n (suc k))) (absent (suc k) ts) h) e
never (test n false ∷ ts) k h e = apart n (suc k) (and_l (not (eqb n (suc k))) (absent (suc k) ts) h) e

-- in a row of them the first has a number above 0, which the later ones do not have, and these are such a row
module _ (n : ℕ) (b : Bool) (ts : List Test) (h : T (distinct (test n b ∷ ts))) where
  some : n ≡ 0 → ⊥
  some = apart n 0 (and_l (not (eqb n 0)) (absent n ts && distinct ts) h)

  once : T (absent n ts)
  once = and_l (absent n ts) (distinct ts) (and_r (not (eqb n 0)) (absent n ts && distinct ts) h)

  later : T (distinct ts)
  later = and_r (absent n ts) (distinct ts) (and_r (not (eqb n 0)) (absent n ts && distinct ts) h)

-- k comes exactly where its test is the first to fail
fails_here : (b e : Bool) (n r k : ℕ) {A : Type 0} → (T e → n ≡ k) → (n ≡ k → T e) → (n ≡ k → r ≡ k → ⊥) → (r ≡ k) ↔ A → (unless b n r ≡ k) ↔ cond e (b ≡ false) ((b ≡ true) × A)
unfolding unless
fails_here true true n r k p q x i = (λ w. absurd (x (p tt) w), λ w. absurd (true≢false w))
fails_here true false n r k p q x i = (λ w. (refl, i.0 w), λ w. i.1 w.1)
fails_here false true n r k p q x i = (λ w. refl, λ w. p tt)
fails_here false false n r k p q x i = (λ w. absurd (q w), λ w. absurd (true≢false (sym w.0)))

-- of any list
pub fails : (ts : List Test) → T (distinct ts) → (k : ℕ) → (first ts ≡ suc k) ↔ Fails (suc k) ts
fails [] h k = (λ e. absurd (omega arith), λ w. absurd w)
fails (test n b ∷ ts) h k =
    fails_here b (eqb n (suc k)) n (first ts) (suc k) (eqb→eq n (suc k)) eq→eqb
    (λ e. never ts k (subst (λ (m : ℕ). T (absent m ts)) e (once n b ts h))) (fails ts (later n b ts h) k)

-- 0 comes exactly where all pass
passed_here : (b : Bool) (n r : ℕ) {A : Type 0} → (n ≡ 0 → ⊥) → (r ≡ 0) ↔ A → (unless b n r ≡ 0) ↔ ((b ≡ true) × A)
unfolding unless
passed_here true n r h i = (λ w. (refl, i.0 w), λ w. i.1 w.1)
passed_here false n r h i = (λ w. absurd (h w), λ w. absurd (true≢false (sym w.0)))

-- of any list
pub passed : (ts : List Test) → T (distinct ts) → (first ts ≡ 0) ↔ Passed ts
passed [] h = (λ e. tt, λ w. refl)
passed (test n b ∷ []) h =
    let i = passed_here b n 0 {A = Unit {0}} (some n b [] h) (λ e. tt, λ w. refl) in
    (λ e. (i.0 e).0, λ w. i.1 (w, tt))
passed (test n b ∷ t ∷ ts) h = passed_here b n (first (t ∷ ts)) (some n b (t ∷ ts) h) (passed (t ∷ ts) (later n b (t ∷ ts) h))

-- one of the numbers comes, or 0
among_here : (b : Bool) (n r : ℕ) (P : ℕ → Type 0) → P r → (unless b n r ≡ n) ⊎ P (unless b n r)
unfolding unless
among_here true n r P p = inr p
among_here false n r P p = inl refl

-- of any list
pub among : (ts : List Test) → Among (first ts) ts
among [] = refl
among (test n b ∷ ts) = among_here b n (first ts) (λ (r : ℕ). Among r ts) (among ts)

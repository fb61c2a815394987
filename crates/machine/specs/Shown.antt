-- The points of the question that a run of any kind waits with, copied into two lent slices. Q is its questions, first and second are their points. Definitions only.
use Rattle.std.specs.Prelude.{ℕ, suc, ◌≡◌, cond, ◌&&◌, List, eqb, Float, length}
use Rattle.std.proofs.Math.Option.{Option, none, some}

-- the number of the refusal, 0 for none, and what stands in the two slices
pub record Shown : Type 0 where
  pub number : ℕ
  pub first : List Float
  pub second : List Float

module _ {Q : Type 0} (first second : Q → List Float) where
  -- 6 where the run has ended, 8 where a slice is not as long as its point, else 0; the lengths of the slices are xs and ys
  unfoldable pub points_refusal : Option Q → ℕ → ℕ → ℕ
  points_refusal none xs ys = 6
  points_refusal (some q) xs ys = cond (eqb xs (length (first q)) && eqb ys (length (second q))) 0 8

  -- what a call gives where o is the question that stands: xs and ys are the slices before it
  pub record Shows (o : Option Q) (xs xs' ys ys' : List Float) (k : ℕ) : Type 0 where
    pub number : k ≡ points_refusal o (length xs) (length ys)
    pub kept : (m : ℕ) → k ≡ suc m → (xs' ≡ xs) × (ys' ≡ ys)
    pub points : k ≡ 0 → (q : Q) → o ≡ some q → (xs' ≡ first q) × (ys' ≡ second q)

  -- the same as a function
  unfoldable pub shown : Option Q → List Float → List Float → Shown
  shown none xs ys = record { number = 6; first = xs; second = ys }
  shown (some q) xs ys =
      cond (eqb (length xs) (length (first q)) && eqb (length ys) (length (second q)))
      (record { number = 0; first = first q; second = second q })
      (record { number = 8; first = xs; second = ys })

-- The half step that a solve keeps is the earliest of least finite norm among those that it scored, or zeros with infinity; its entries are finite. Assumes nothing but the laws of `ieee`.
use Rattle.std.specs.Prelude.{ℕ, ◌≡◌, true, false, T, Float, length, replicate}
use mathlib.Core.List.{List, [], ◌∷◌, ◌++◌}
use Rattle.std.specs.Float.{inf}
use Rattle.std.specs.Float.Ieee.{lt, is_nan}
use Rattle.std.specs.Float.Ieee.Scale.{finite}
use Rattle.ieee.specs.Numbers.{null}
use Rattle.ieee.specs.Order.{upward}
use Rattle.ieee.specs.Sums.{AllFinite}
use Rattle.model.specs.State.{Best}

-- ---- the statements

-- a half step that was scored, with its norm
pub record Scored : Type 0 where
  pub half : List Float
  pub norm : Float

-- P holds of each entry
abbrev pub All : {A : Type 0} → (A → Type 0) → List A → Type 0
All P [] = Unit {0}
All P (x ∷ xs) = P x × All P xs

-- w, of norm x, is among the scored ones, and x is finite; none has a smaller norm; each one before it has a larger norm or one that is not finite
pub record Earliest (scores : List Scored) (w : List Float) (x : Float) : Type 0 where
  pub earlier : List Scored
  pub later : List Scored
  pub place : scores ≡ earlier ++ (record { half = w; norm = x } ∷ later)
  pub whole : T (finite x)
  pub least : All (λ (y : Scored). lt y.norm x ≡ false) scores
  pub first : All (λ (y : Scored). T (finite y.norm) → lt x y.norm ≡ true) earlier

-- the earliest of least finite norm, or zeros with infinity where no norm is finite
pub data Chosen (n : ℕ) (scores : List Scored) (w : List Float) (x : Float) : Type 0 where
  earliest : Earliest scores w x → Chosen n scores w x
  zeros : All (λ (y : Scored). T (finite y.norm) → ⊥) scores → w ≡ replicate n null → x ≡ inf false → Chosen n scores w x

-- what is known of the best half step after these scores
pub record Kept (n : ℕ) (scores : List Scored) (b : Best) : Type 0 where
  pub chosen : Chosen n scores b.point b.norm
  pub size : length b.point ≡ n
  pub whole : AllFinite b.point
  pub upwards : All (λ (y : Scored). T (upward y.norm)) scores
  pub up : T (upward b.norm)
  pub number : is_nan b.norm ≡ false

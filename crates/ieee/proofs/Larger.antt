-- Which of its two operands `larger` is: a NaN is dropped, on either side. Assumes nothing.
use Rattle.std.specs.Prelude.{◌≡◌, refl, Bool, true, false, cond, Float}
use Rattle.std.proofs.Common.{ap, ◌∙◌}
use Rattle.std.specs.Float.{nan, inf, fin}
use Rattle.std.specs.Float.Ieee.{lt, is_nan}
use Rattle.ieee.specs.Numbers.{larger}

larger_is : (x y : Float) → larger x y ≡ cond (is_nan x) y (cond (lt x y) y x)
unfolding larger
larger_is x y = refl

-- the first is a NaN
pub larger_nan : (x y : Float) → is_nan x ≡ true → larger x y ≡ y
larger_nan x y h = larger_is x y ∙ ap (λ (t : Bool). cond t y (cond (lt x y) y x)) h

pub larger_above : (x y : Float) → is_nan x ≡ false → lt x y ≡ true → larger x y ≡ y
larger_above x y h l = larger_is x y ∙ ap (λ (t : Bool). cond t y (cond (lt x y) y x)) h ∙ ap (λ (t : Bool). cond t y x) l

pub larger_else : (x y : Float) → is_nan x ≡ false → lt x y ≡ false → larger x y ≡ x
larger_else x y h l = larger_is x y ∙ ap (λ (t : Bool). cond t y (cond (lt x y) y x)) h ∙ ap (λ (t : Bool). cond t y x) l

-- the second is a NaN
pub larger_of_nan : (x : Float) → larger x nan ≡ x
unfolding larger lt is_nan
larger_of_nan nan = refl
larger_of_nan (inf s) = refl
larger_of_nan (fin s m e) = refl

-- The model's formulas over plain numbers, as the code works them out, and that such a number is the model's. Definitions only.
use Rattle.std.specs.Prelude.{◌≡◌, Float}
use Rattle.std.specs.Float.{Format}
use Rattle.std.specs.Float.Ieee.{add, sub, mul, div}
use Rattle.ieee.specs.Numbers.{absolute}
use Rattle.ieee.specs.Sums.{squares}
use Rattle.model.specs.Constants.{gamma_l_coeff, lipschitz_update_epsilon, half, two}
use Rattle.model.specs.Vectors.{minus, dot}
use Rattle.model.specs.State.{Iterate, State}
use Rattle.model.specs.Inner as I

module _ (f : Format) where
  -- the right side of the Lipschitz check, of a cost, γ, the residual's norm x and its product z with the gradient
  unfoldable pub lipschitz_check_rhs_of : Float → Float → Float → Float → Float
  lipschitz_check_rhs_of c γ x z =
      add f (sub f (add f c (mul f (lipschitz_update_epsilon f) (absolute c))) z) (mul f (mul f (div f (gamma_l_coeff f) (mul f (two f) γ)) x) x)

  -- the envelope, of a cost, γ, the gradient's squares q and those of gradient step less half step, d
  unfoldable pub envelope_of : Float → Float → Float → Float → Float
  envelope_of c γ q d = add f (sub f c (mul f (mul f (half f) γ) q)) (div f (mul f (half f) d) γ)

  -- v is the right side of the check, of every state with this cost, γ and norm, z being the product of its gradient and residual
  abbrev pub RightSide : Float → Float → Float → Float → Float → Type 0
  RightSide c γ x z v = (st : State) → st.at.cost ≡ c → st.at.gamma ≡ γ → st.norm ≡ x → dot f st.at.gradient st.residual ≡ z → v ≡ I.lipschitz_check_rhs f st

  -- v is the envelope of every iterate with this cost and γ, q being the squares of its gradient and d those of gradient step less half step
  abbrev pub Envelope : Float → Float → Float → Float → Float → Type 0
  Envelope c γ q d v = (i : Iterate) → i.cost ≡ c → i.gamma ≡ γ → squares f i.gradient ≡ q → squares f (minus f i.gradient_step i.half) ≡ d → v ≡ I.envelope f i

-- The formulas as the code writes them, with its literals. Assumes nothing.
use Rattle.std.specs.Prelude.{◌≡◌, refl, true, false, ◌&&◌, Float}
use Rattle.std.proofs.Common.{◌∙◌}
use Rattle.std.specs.Float.{binary64, inf}
use Rattle.std.specs.Float.Ieee.{lt, add, sub, mul, div, of_bits}
use Rattle.ieee.specs.Numbers.{absolute, larger}
use Rattle.model.specs.Constants.{max_lipschitz_constant}
use Rattle.model.specs.Inner as I
use Rattle.model.proofs.Literals.{gamma_l_coeff_bits, min_l_estimate_bits, lipschitz_update_epsilon_bits, max_lipschitz_constant_bits, half_bits, one_bits, two_bits, four_bits}
use Rattle.panoc_engine.specs.Formulas.{lipschitz_check_rhs_of, envelope_of, RightSide, Envelope}

pub gamma_is : (l m : Float) → m ≡ larger l (of_bits binary64 4457293557087583675) → div binary64 (of_bits binary64 4606732058837280358) m ≡ I.gamma_of binary64 l
unfolding I.gamma_of
gamma_is l m e = rw (e, min_l_estimate_bits, gamma_l_coeff_bits)

pub sigma_is : (g : Float)
    → div binary64 (sub binary64 (of_bits binary64 4607182418800017408) (of_bits binary64 4606732058837280358)) (mul binary64 (of_bits binary64 4616189618054758400) g) ≡ I.sigma_of binary64 g
unfolding I.sigma_of
sigma_is g = rw (one_bits, gamma_l_coeff_bits, four_bits)

pub lipschitz_check_rhs_is : (c g x z a : Float) → a ≡ absolute c
    → add binary64 (sub binary64 (add binary64 c (mul binary64 (of_bits binary64 4517329193108106637) a)) z)
    (mul binary64 (mul binary64 (div binary64 (of_bits binary64 4606732058837280358) (mul binary64 (of_bits binary64 4611686018427387904) g)) x) x)
    ≡ lipschitz_check_rhs_of binary64 c g x z
unfolding lipschitz_check_rhs_of
lipschitz_check_rhs_is c g x z a av = rw (av, lipschitz_update_epsilon_bits, gamma_l_coeff_bits, two_bits)

-- the number that the code works out is the model's
pub right_side : (c g x z v : Float) → v ≡ lipschitz_check_rhs_of binary64 c g x z → RightSide binary64 c g x z v
unfolding lipschitz_check_rhs_of I.lipschitz_check_rhs
right_side c g x z v e = λ st cv gv xv zv. e ∙ rw (cv, gv, xv, zv) refl

pub right_side_is : (c g x z a : Float) → a ≡ absolute c
    → RightSide binary64 c g x z
    (add binary64 (sub binary64 (add binary64 c (mul binary64 (of_bits binary64 4517329193108106637) a)) z)
    (mul binary64 (mul binary64 (div binary64 (of_bits binary64 4606732058837280358) (mul binary64 (of_bits binary64 4611686018427387904) g)) x) x))
right_side_is c g x z a av = right_side c g x z _ (lipschitz_check_rhs_is c g x z a av)

pub exceeds_is : (x c l : Float) → lt x c ≡ true → lt l (of_bits binary64 4741671816366391296) ≡ (lt x c && lt l (max_lipschitz_constant binary64))
exceeds_is x c l q = rw (q, max_lipschitz_constant_bits)

pub envelope_is : (c g q d : Float)
    → add binary64 (sub binary64 c (mul binary64 (mul binary64 (of_bits binary64 4602678819172646912) g) q)) (div binary64 (mul binary64 (of_bits binary64 4602678819172646912) d) g)
    ≡ envelope_of binary64 c g q d
unfolding envelope_of
envelope_is c g q d = rw half_bits

pub envelope_holds : (c g q d : Float)
    → Envelope binary64 c g q d
    (add binary64 (sub binary64 c (mul binary64 (mul binary64 (of_bits binary64 4602678819172646912) g) q)) (div binary64 (mul binary64 (of_bits binary64 4602678819172646912) d) g))
unfolding envelope_of I.envelope
envelope_holds c g q d = λ i cv gv qv dv. envelope_is c g q d ∙ rw (cv, gv, qv, dv) refl

-- the norm where there is no half step yet
pub infinity_bits : of_bits binary64 9218868437227405312 ≡ inf false
unfolding of_bits
infinity_bits = refl

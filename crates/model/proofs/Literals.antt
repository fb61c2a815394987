-- The constants of document 01 at binary64, as the patterns that the code's literals have. Assumes nothing.
use Rattle.std.specs.Prelude.{◌≡◌, refl}
use Rattle.std.specs.Float.{binary64}
use Rattle.std.specs.Float.Ieee.{of_bits, round}
use Rattle.model.specs.Constants.{gamma_l_coeff, epsilon_lipschitz, delta_lipschitz, min_l_estimate, lipschitz_update_epsilon, max_lipschitz_constant, half, one, two, four, epsilon}

-- 0.95
pub gamma_l_coeff_bits : of_bits binary64 4606732058837280358 ≡ gamma_l_coeff binary64
unfolding gamma_l_coeff of_bits round
gamma_l_coeff_bits = refl

-- 1e-6
pub epsilon_lipschitz_bits : of_bits binary64 4517329193108106637 ≡ epsilon_lipschitz binary64
unfolding epsilon_lipschitz of_bits round
epsilon_lipschitz_bits = refl

-- 1e-12
pub delta_lipschitz_bits : of_bits binary64 4427486594234968593 ≡ delta_lipschitz binary64
unfolding delta_lipschitz of_bits round
delta_lipschitz_bits = refl

-- 1e-10
pub min_l_estimate_bits : of_bits binary64 4457293557087583675 ≡ min_l_estimate binary64
unfolding min_l_estimate of_bits round
min_l_estimate_bits = refl

-- 1e-6
pub lipschitz_update_epsilon_bits : of_bits binary64 4517329193108106637 ≡ lipschitz_update_epsilon binary64
unfolding lipschitz_update_epsilon of_bits round
lipschitz_update_epsilon_bits = refl

-- 1e9
pub max_lipschitz_constant_bits : of_bits binary64 4741671816366391296 ≡ max_lipschitz_constant binary64
unfolding max_lipschitz_constant of_bits round
max_lipschitz_constant_bits = refl

-- 0.5
pub half_bits : of_bits binary64 4602678819172646912 ≡ half binary64
unfolding half of_bits round
half_bits = refl

-- 1
pub one_bits : of_bits binary64 4607182418800017408 ≡ one binary64
unfolding one of_bits round
one_bits = refl

-- 2
pub two_bits : of_bits binary64 4611686018427387904 ≡ two binary64
unfolding two of_bits round
two_bits = refl

-- 4
pub four_bits : of_bits binary64 4616189618054758400 ≡ four binary64
unfolding four of_bits round
four_bits = refl

-- 2^-52
pub epsilon_bits : of_bits binary64 4372995238176751616 ≡ epsilon binary64
unfolding epsilon of_bits round
epsilon_bits = refl

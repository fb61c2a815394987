-- The constants of document 01: each is its decimal, rounded to the format. Names are the Rust's. Definitions only.
use Rattle.std.specs.Prelude.{ℕ, ◌-◌, ◌^◌, false, Float}
use Rattle.std.specs.Float.{Format}
use Rattle.std.specs.Float.Ieee.{prec, round}

module _ (f : Format) where
  -- 0.95, of γ and σ
  unfoldable pub gamma_l_coeff : Float
  gamma_l_coeff = round f false 95 100

  -- 1e-6, of the shift of the Lipschitz estimate
  unfoldable pub epsilon_lipschitz : Float
  epsilon_lipschitz = round f false 1 (10 ^ 6)

  -- 1e-12, the least shift
  unfoldable pub delta_lipschitz : Float
  delta_lipschitz = round f false 1 (10 ^ 12)

  -- 1e-10, the least estimate that γ is taken of
  unfoldable pub min_l_estimate : Float
  min_l_estimate = round f false 1 (10 ^ 10)

  -- 1e-6, of the doubling test
  unfoldable pub lipschitz_update_epsilon : Float
  lipschitz_update_epsilon = round f false 1 (10 ^ 6)

  -- 1e9, from which on L is not doubled
  unfoldable pub max_lipschitz_constant : Float
  max_lipschitz_constant = round f false (10 ^ 9) 1

  -- 0.5
  unfoldable pub half : Float
  half = round f false 5 10

  -- 1, 2 and 4
  unfoldable pub one : Float
  one = round f false 1 1

  unfoldable pub two : Float
  two = round f false 2 1

  unfoldable pub four : Float
  four = round f false 4 1

  -- 2^-52 at binary64 and 2^-23 at binary32: the Rust's `T::epsilon()`
  unfoldable pub epsilon : Float
  epsilon = round f false 1 (2 ^ (prec f - 1))

-- how often L is doubled in one step at most, and how often τ is halved
abbrev pub max_lipschitz_updates : ℕ
max_lipschitz_updates = 10

abbrev pub max_linesearch_iterations : ℕ
max_linesearch_iterations = 10

-- A turn of `digits`, on natural numbers. `Taken m q rem rest i`: after i turns the root so far is q, (q * q + rem) has been taken of m * 4 ^ i / 2 ^ 54, and rest is what is left. Assumes nothing.
use mathlib.Core.Path.{◌≡◌, sym, ap, ◌∙◌, subst}
use Prim.Native.Nat.{ℕ, ◌+◌, ◌-◌, ◌*◌, ◌/◌, ◌%◌, ◌^◌, ◌≤◌, ◌<◌}
use native.Mathlib.Nat.{lt_of_lt_of_le, mul_comm, mul_left_comm, mul-mul-mul_comm}
use native.Mathlib.Omega.{arith}
use lib.Arith.{digits_div}
use lib.Pow.{pow-add, pow_mono}
use Rattle.ieee.specs.Squares.{IsRoot}
use Rattle.ieee.proofs.Squares.{sq_one}

abbrev pub Taken : ℕ → ℕ → ℕ → ℕ → ℕ → Type 0
Taken m q rem rest i = (q < 2 ^ i) × (rem ≤ 2 * q) × (rest < 2 ^ 54) × ((q * q + rem) * 2 ^ 54 + rest ≡ m * (2 ^ i * 2 ^ i))

pub bound : (q i : ℕ) → q < 2 ^ i → i ≤ 54 → q < 2 ^ 54
bound q i h l = lt_of_lt_of_le h (pow_mono l)

next_pow : (i : ℕ) → 2 ^ (i + 1) ≡ 2 * 2 ^ i
next_pow i = pow-add 2 i 1 ∙ mul_comm (2 ^ i) 2

next_sq : (m i : ℕ) → m * (2 ^ (i + 1) * 2 ^ (i + 1)) ≡ 4 * (m * (2 ^ i * 2 ^ i))
next_sq m i = ap (λ (x : ℕ). m * (x * x)) (next_pow i) ∙ ap (λ (x : ℕ). m * x) (mul-mul-mul_comm 2 (2 ^ i) 2 (2 ^ i)) ∙ mul_left_comm m 4 (2 ^ i * 2 ^ i)

pub turn_with : (m q rem rest i : ℕ) → Taken m q rem rest i → q * 4 + 1 ≤ rem * 4 + rest / 4503599627370496
    → Taken m (q * 2 + 1) (rem * 4 + rest / 4503599627370496 - (q * 4 + 1)) (rest % 4503599627370496 * 4) (i + 1)
turn_with m q rem rest i h t =
    let d : q * 2 * (q * 2) ≡ 4 * (q * q) = mul-mul-mul_comm q 2 q 2 ∙ mul_comm (q * q) 4 in
    (omega (arith, next_pow i), omega arith, omega arith, omega (arith, next_sq m i, sq_one (q * 2)))

pub turn_without : (m q rem rest i : ℕ) → Taken m q rem rest i → rem * 4 + rest / 4503599627370496 < q * 4 + 1
    → Taken m (q * 2) (rem * 4 + rest / 4503599627370496) (rest % 4503599627370496 * 4) (i + 1)
turn_without m q rem rest i h t =
    let d : q * 2 * (q * 2) ≡ 4 * (q * q) = mul-mul-mul_comm q 2 q 2 ∙ mul_comm (q * q) 4 in
    (omega (arith, next_pow i), omega arith, omega arith, omega (arith, next_sq m i))

pub last : (m q rem rest i : ℕ) → Taken m q rem rest i → IsRoot (m * (2 ^ i * 2 ^ i) / 2 ^ 54) q
last m q rem rest i h =
    let e : m * (2 ^ i * 2 ^ i) / 2 ^ 54 ≡ q * q + rem = ap (λ (x : ℕ). x / 2 ^ 54) (sym h.3) ∙ digits_div (q * q + rem) h.2 in
    subst (λ (x : ℕ). IsRoot x q) (sym e) (omega arith, omega (arith, sq_one q))

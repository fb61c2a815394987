-- How long a xi is. Assumes nothing.
use Rattle.std.specs.Prelude.{ℕ, ◌+◌, ◌≤◌, ◌≡◌, refl, Bool, true, false, cond, ◌&&◌, eqb}
use Rattle.std.proofs.Common.{ap, ◌∙◌, arith}
use Rattle.model.specs.Refusals.{xi_length}

pub xi_length_lem : (n1 n2 : ℕ) (i j : Bool) → eqb n1 0 ≡ i → eqb n2 0 ≡ j → xi_length n1 n2 ≡ cond (i && j) 0 (n1 + 1)
unfolding xi_length
xi_length_lem n1 n2 i j p q = ap (λ (t : Bool). cond (t && eqb n2 0) 0 (n1 + 1)) p ∙ ap (λ (t : Bool). cond (i && t) 0 (n1 + 1)) q

pub xi_short : (n1 n2 : ℕ) → n1 ≤ 32 → xi_length n1 n2 ≤ 33
xi_short n1 n2 h = by (eqb n1 0) (eqb n2 0) refl refl
  where
    by : (i j : Bool) → eqb n1 0 ≡ i → eqb n2 0 ≡ j → xi_length n1 n2 ≤ 33
    by true true p q = omega (arith, xi_length_lem n1 n2 true true p q)
    by true false p q = omega (arith, xi_length_lem n1 n2 true false p q)
    by false j p q = omega (arith, xi_length_lem n1 n2 false j p q)

-- The bench pieces that document 01 marks ◆, as rows of one statement. Assumes nothing.
use Rattle.std.specs.Prelude.{ℕ, ◌≡◌, refl, Bool, true, false, ◌&&◌, cond, length}
use Rattle.std.proofs.Common.{ap, ◌∙◌, arith}
use Rattle.std.specs.Float.Ieee.{lt, mul, round}
use Rattle.ieee.proofs.Rows as Roots
use Rattle.model.specs.Constants.{epsilon_lipschitz, delta_lipschitz}
use Rattle.model.specs.Vectors.{all_finite, shift}
use Rattle.model.specs.State.{no_best, keep}
use Rattle.model.specs.Bounds.{only_cost}
use Rattle.model.proofs.Bounds.{at_most_more}
use Rattle.model.proofs.Starts.{start_inner_at_most, start_inner_questions_at_most, start_one_outer_never_converged}
use Rattle.model.specs.Refusals.{start_inner, unless, sizes_right, mappings_right, limit_right, tolerance_right, akkt_right, loop_numbers_right, xi_right, inner_refusal, loop_refusal, psi_refusal}
use Rattle.model.specs.Bench.{Bench}

-- ---- the proof

-- the first test passes for 64
size_64 : (n us k later : ℕ) → n ≡ 64 → us ≡ 64 → unless (sizes_right n us) k later ≡ later
unfolding unless sizes_right
size_64 n us k later e w = ap (λ (m : ℕ). unless (sizes_right m us) k later) e ∙ ap (λ (m : ℕ). unless (sizes_right 64 m) k later) w

-- for 65 it fails
size_65 : (n us k later : ℕ) → n ≡ 65 → unless (sizes_right n us) k later ≡ k
unfolding unless sizes_right
size_65 n us k later e = ap (λ (m : ℕ). unless (sizes_right m us) k later) e

-- and for 0
size_0 : (n us k later : ℕ) → n ≡ 0 → unless (sizes_right n us) k later ≡ k
unfolding unless sizes_right
size_0 n us k later e = ap (λ (m : ℕ). unless (sizes_right m us) k later) e

-- a test that passes
on : (b : Bool) (k later : ℕ) → b ≡ true → unless b k later ≡ later
unfolding unless
on b k later e = ap (λ (t : Bool). cond t later k) e

-- all rows hold
pub bench : Bench
unfolding shift delta_lipschitz epsilon_lipschitz round mul lt keep no_best inner_refusal loop_refusal psi_refusal
bench =
    record {
      root_four = Roots.four;
      root_two = Roots.two;
      root_least = Roots.least;
      root_largest = Roots.largest;
      root_minus_zero = Roots.minus_zero;
      shift_below = refl;
      shift_zero = refl;
      second_kept = λ n a b c. refl;
      zeros_kept = λ n a b. refl;
      questions_86 = λ f s u e. at_most_more _ (start_inner f s u) _ _ (omega (arith, e)) (start_inner_questions_at_most f s u);
      cost_36 = λ f s u e. at_most_more _ (start_inner f s u) _ _ (omega (arith, e)) (start_inner_at_most f s u only_cost);
      never_converged = λ f s u xi e k. start_one_outer_never_converged f s u xi (omega (arith, e)) k;
      inner_64 = λ s u e w a p q. size_64 s.n (length u) 1 _ e w ∙ on (all_finite u) 19 _ a ∙ on (limit_right 10000 s.limit) 3 _ p ∙ on (tolerance_right s.tolerance && akkt_right s.akkt) 4 0 q;
      inner_65 = λ s u e. size_65 s.n (length u) 1 _ e;
      inner_0 = λ s u e. size_0 s.n (length u) 1 _ e;
      loop_64 = λ f s u xi e w a p q h i.
          size_64 s.n (length u) 1 _ e w
          ∙ on (all_finite u) 19 _ a
          ∙ on (mappings_right s.n1 s.n2 s.set_y (length xi)) 2 _ p
          ∙ on (limit_right 10000 s.limit && limit_right 1000 s.outer) 3 _ q
          ∙ on (loop_numbers_right f s) 4 _ h
          ∙ on (xi_right xi) 5 0 i;
      loop_65 = λ f s u xi e. size_65 s.n (length u) 1 _ e;
      loop_0 = λ f s u xi e. size_0 s.n (length u) 1 _ e;
      psi_64 = λ s xis e p. size_64 s.n 64 1 _ e refl ∙ on (mappings_right s.n1 s.n2 false xis) 2 0 p;
      psi_65 = λ s us xis e. size_65 s.n us 1 _ e;
      psi_0 = λ s us xis e. size_0 s.n us 1 _ e;
    }

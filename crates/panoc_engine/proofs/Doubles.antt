-- What the answers at the half step and while doubling leave, from what their parts leave. Assumes nothing.
use Rattle.std.proofs.Common.{◌≡◌, refl, ap, ◌∙◌, ℕ, zero, suc, ◌-◌, true, false, ◌&&◌, eqb, List, length, Float, arith}
use Rattle.std.specs.Float.{binary64}
use Rattle.std.specs.Float.Ieee.{lt, mul, div, of_bits}
use Rattle.std.specs.Float.Ieee.Scale.{finite}
use Rattle.ieee.specs.Sums.{norm}
use Rattle.model.specs.Constants.{max_lipschitz_constant}
use Rattle.model.specs.Vectors.{less_times, dot}
use Rattle.model.specs.Inner as I
use Rattle.model.proofs.Literals.{two_bits}
use Rattle.board.specs.Formulas.{residual}
use Rattle.board.specs.Board.{vector, write, U, GRADIENT, STEP, HALF, FPR}
use Rattle.machine.specs.InnerMoves as Move
use Rattle.panoc_engine.specs.declared.panoc_cache.Solve.{Solve}
use Rattle.panoc_engine.specs.declared.panoc_cache.Doubled.{Doubled}
use Rattle.panoc_engine.specs.declared.panoc_cache.Moved.TheVariants.{To, Refused}
use Rattle.panoc_engine.specs.declared.panoc_cache.Phase.TheVariants as P
use Rattle.panoc_engine.specs.declared.outcome.Refusal.TheVariants as R
use Rattle.panoc_engine.specs.Formulas.{lipschitz_check_rhs_of}
use Rattle.panoc_engine.specs.Runs.{run_of, Stands, leaves, doubled}
use Rattle.panoc_engine.proofs.Held.{holds, in_u, in_gradient, in_half, wrote_half, step_left, residual_left}

module _ (s : Solve) (l : List Float) where
  pub direction_asked : (σ : Float) → σ ≡ I.sigma_of binary64 s.gammas.gamma
      → doubled s (record { moved = To P.Direction; gammas = record s.gammas { sigma = σ }; norms = s.norms; rounds = s.counts.rounds; forget = s.forget }) l ≡ Move.ask_direction binary64 (run_of s l)
  unfolding run_of leaves Move.ask_direction
  direction_asked σ e = rw e refl

  -- no round is left, or the cost does not exceed the right side of its check
  pub doubling_none : (k : ℕ) (x : Float) → k ≡ 0 → Move.doubling binary64 k x (run_of s l) ≡ Move.ask_direction binary64 (run_of s l)
  unfolding Move.doubling
  doubling_none k x e = rw e refl

  pub doubling_stays : (k : ℕ) (x : Float) → (lt s.norms.rhs_ls x && lt s.gammas.lipschitz_constant (max_lipschitz_constant binary64)) ≡ false
      → Move.doubling binary64 k x (run_of s l) ≡ Move.ask_direction binary64 (run_of s l)
  unfolding run_of Move.doubling
  doubling_stays zero x e = refl
  doubling_stays (suc k) x e = rw e refl

  pub half_stops : (x : Float) → finite x ≡ false → leaves (Refused R.HalfCost) (run_of s l) ≡ Move.half_cost binary64 x (run_of s l)
  unfolding run_of leaves Move.half_cost
  half_stops x e = rw e refl

  pub half_goes : (x : Float) → finite x ≡ true
      → Move.half_cost binary64 x (run_of s l) ≡ Move.doubling binary64 10 x (run_of (record s { forget = eqb s.counts.iterations.0 0; counts = record s.counts { rounds = 10 } }) l)
  unfolding run_of Move.half_cost
  half_goes x e = rw e refl

  pub doubled_stops : (x : Float) → finite x ≡ false → leaves (Refused R.DoubledCost) (run_of s l) ≡ Move.doubled_cost binary64 x (run_of s l)
  unfolding run_of leaves Move.doubled_cost
  doubled_stops x e = rw e refl

  module _ (h : Stands s l) where
    -- a round, after which k may follow
    abbrev round : ℕ → Doubled
    round k =
        record {
          moved = To P.DoubledProject;
          gammas =
              record {
                lipschitz_constant = mul binary64 s.gammas.lipschitz_constant (of_bits binary64 4611686018427387904);
                gamma = div binary64 s.gammas.gamma (of_bits binary64 4611686018427387904);
                sigma = s.gammas.sigma;
              };
          norms = s.norms;
          rounds = k;
          forget = s.forget;
        }

    goes : (l' : List Float) (k : ℕ) (x : Float) → (lt s.norms.rhs_ls x && lt s.gammas.lipschitz_constant (max_lipschitz_constant binary64)) ≡ true
        → l' ≡ write STEP (less_times binary64 (div binary64 s.gammas.gamma (of_bits binary64 4611686018427387904)) (vector U s.set.n l) (vector GRADIENT s.set.n l)) l
        → doubled s (round k) l' ≡ Move.doubling binary64 (suc k) x (run_of s l)
    unfolding run_of leaves Move.doubling I.doubled
    goes l' k x e g =
        let d = step_left (holds s.set.n l h.size h.places) binary64 (div binary64 s.gammas.gamma (of_bits binary64 4611686018427387904)) g in
        rw (e, d.is, two_bits) refl

    pub doubling_goes : (l' : List Float) (x : Float) → (s.counts.rounds ≡ 0 → ⊥) → (lt s.norms.rhs_ls x && lt s.gammas.lipschitz_constant (max_lipschitz_constant binary64)) ≡ true
        → l' ≡ write STEP (less_times binary64 (div binary64 s.gammas.gamma (of_bits binary64 4611686018427387904)) (vector U s.set.n l) (vector GRADIENT s.set.n l)) l
        → doubled s (round (s.counts.rounds - 1)) l' ≡ Move.doubling binary64 s.counts.rounds x (run_of s l)
    doubling_goes l' x k e g =
        let p : suc (s.counts.rounds - 1) ≡ s.counts.rounds = omega (arith, k) in
        goes l' (s.counts.rounds - 1) x e g ∙ ap (λ (m : ℕ). Move.doubling binary64 m x (run_of s l)) p

    pub doubled_projected : (v l' : List Float) → l' ≡ write HALF v l → length v ≡ s.set.n → leaves (To P.DoubledCost) (run_of s l') ≡ Move.doubled_project binary64 v (run_of s l)
    unfolding run_of leaves Move.doubled_project
    doubled_projected v l' e q = let d = wrote_half (holds s.set.n l h.size h.places) v q e in rw d.is refl

    pub doubled_goes : (l' : List Float) (x y z r : Float) → finite x ≡ true → l' ≡ write FPR (residual binary64 s.set.n l) l
        → y ≡ norm binary64 (residual binary64 s.set.n l) → z ≡ dot binary64 (vector GRADIENT s.set.n l) (residual binary64 s.set.n l)
        → r ≡ lipschitz_check_rhs_of binary64 s.cost_value s.gammas.gamma y z
        → Move.doubled_cost binary64 x (run_of s l)
        ≡ Move.doubling binary64 s.counts.rounds x (run_of (record s { norms = record s.norms { norm_gamma_fpr = y; rhs_ls = r }; forget = true }) l')
    unfolding run_of Move.doubled_cost I.renewed I.lipschitz_check_rhs lipschitz_check_rhs_of
    doubled_goes l' x y z r t e yv zv rv =
        let b = holds s.set.n l h.size h.places in
        let d = residual_left b binary64 e in
        let yw = rw (in_u b, in_half b) at yv in
        let zw = rw (in_u b, in_half b, in_gradient b) at zv in
        rw (t, d.is, rv, yw, zw) refl

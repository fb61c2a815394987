-- What DIRECTION's answer and the answers at the moves leave, from what their parts leave. Assumes nothing.
use Rattle.std.proofs.Common.{◌≡◌, refl, ap, sym, ◌∙◌, ℕ, suc, ◌-◌, true, false, ◌&&◌, ne_eqb, List, length, Float, arith}
use Rattle.std.specs.Float.{binary64}
use Rattle.std.specs.Float.Ieee.{sub, mul, div, of_bits}
use Rattle.std.specs.Float.Ieee.Scale.{finite}
use Rattle.ieee.specs.Sums.{squares}
use Rattle.model.specs.Constants.{one}
use Rattle.model.specs.Vectors.{all_finite, minus, less_times}
use Rattle.model.specs.Inner as I
use Rattle.model.proofs.Literals.{one_bits, two_bits}
use Rattle.board.specs.Formulas.{candidate}
use Rattle.board.specs.Board.{vector, write, U, PLUS, GRADIENT, STEP, HALF, DIRECTION}
use Rattle.board.proofs.Writes.{length_vector}
use Rattle.machine.specs.InnerMoves as Move
use Rattle.panoc_engine.specs.declared.panoc_cache.Solve.{Solve}
use Rattle.panoc_engine.specs.declared.panoc_cache.HalfStep.{HalfStep}
use Rattle.panoc_engine.specs.declared.panoc_cache.Moved.TheVariants.{To, Refused}
use Rattle.panoc_engine.specs.declared.panoc_cache.Next.TheVariants.{Again}
use Rattle.panoc_engine.specs.declared.panoc_cache.Phase.TheVariants as P
use Rattle.panoc_engine.specs.declared.outcome.Refusal.TheVariants as R
use Rattle.panoc_engine.specs.Formulas.{envelope_of}
use Rattle.panoc_engine.specs.Runs.{run_of, Stands, leaves, followed, searched, halved}
use Rattle.panoc_engine.proofs.Held.{holds, in_u, in_plus, in_gradient, in_step, in_half, wrote_u, gradient_left, candidate_left, line_left}

module _ (s : Solve) (l : List Float) where
  pub first_cost_taken : (x : Float) → leaves (To P.FirstGradient) (run_of (record s { cost_value = x }) l) ≡ Move.first_cost binary64 x (run_of s l)
  unfolding run_of leaves Move.first_cost
  first_cost_taken x = refl

  pub tried_cost_taken : (x : Float) → leaves (To P.TriedGradient) (run_of (record s { cost_value = x }) l) ≡ Move.tried_cost binary64 x (run_of s l)
  unfolding run_of leaves Move.tried_cost
  tried_cost_taken x = refl

  module _ (h : Stands s l) (v : List Float) (q : length v ≡ s.set.n) where
    -- ---- GRADIENT
    module _ (l' : List Float) where
      module _ (e : l' ≡ write STEP (less_times binary64 s.gammas.gamma (vector U (length v) l) v) (write GRADIENT v l)) where
        pub first_gradient_stops : (finite s.cost_value && all_finite v) ≡ false → leaves (Refused R.FirstIterate) (run_of s l') ≡ Move.first_gradient binary64 v (run_of s l)
        unfolding run_of leaves Move.first_gradient
        first_gradient_stops z =
            let b = holds s.set.n l h.size h.places in
            let k = gradient_left b binary64 U _ (in_u b) s.gammas.gamma v q e in
            rw (z, k.is) refl

        pub first_gradient_goes : (finite s.cost_value && all_finite v) ≡ true → leaves (To P.FirstProject) (run_of s l') ≡ Move.first_gradient binary64 v (run_of s l)
        unfolding run_of leaves Move.first_gradient
        first_gradient_goes z =
            let b = holds s.set.n l h.size h.places in
            let k = gradient_left b binary64 U _ (in_u b) s.gammas.gamma v q e in
            rw (z, k.is) refl

      module _ (e : l' ≡ write STEP (less_times binary64 s.gammas.gamma (vector PLUS (length v) l) v) (write GRADIENT v l)) where
        pub tried_gradient_stops : (finite s.cost_value && all_finite v) ≡ false → leaves (Refused R.Candidate) (run_of s l') ≡ Move.tried_gradient binary64 v (run_of s l)
        unfolding run_of leaves Move.tried_gradient
        tried_gradient_stops z =
            let b = holds s.set.n l h.size h.places in
            let k = gradient_left b binary64 PLUS _ (in_plus b) s.gammas.gamma v q e in
            rw (z, k.is) refl

        pub tried_gradient_goes : (finite s.cost_value && all_finite v) ≡ true → leaves (To P.TriedProject) (run_of s l') ≡ Move.tried_gradient binary64 v (run_of s l)
        unfolding run_of leaves Move.tried_gradient
        tried_gradient_goes z =
            let b = holds s.set.n l h.size h.places in
            let k = gradient_left b binary64 PLUS _ (in_plus b) s.gammas.gamma v q e in
            rw (z, k.is) refl

    -- ---- DIRECTION
    pub directed_first : (l' : List Float) → s.counts.iterations.0 ≡ 0 → l' ≡ write U (vector HALF s.set.n l) l
        → searched s (record { moved = To P.FirstCost; norms = s.norms; rounds = s.counts.rounds }) l' ≡ Move.directed binary64 v (run_of s l)
    unfolding run_of leaves Move.directed
    directed_first l' z e =
        let b = holds s.set.n l h.size h.places in
        let k = wrote_u b _ (ap length (sym (in_half b)) ∙ length_vector HALF s.set.n l) (rw (in_half b) at e) in
        rw (z, k.is) refl

    pub directed_later : (s.counts.iterations.0 ≡ 0 → ⊥) → Move.search binary64 v (run_of s l) ≡ Move.directed binary64 v (run_of s l)
    unfolding run_of Move.directed
    directed_later z = let e = ne_eqb s.counts.iterations.0 0 z in rw e refl

    pub search_asks : (l' : List Float) (x y c : Float)
        → l' ≡ write PLUS (candidate binary64 (one binary64) v (length v) l) (write DIRECTION v l)
        → x ≡ squares binary64 (vector GRADIENT (length v) l) → y ≡ squares binary64 (minus binary64 (vector STEP (length v) l) (vector HALF (length v) l))
        → c ≡ envelope_of binary64 s.cost_value s.gammas.gamma x y
        → searched s
        (record {
          moved = To P.TriedCost;
          norms = record s.norms { rhs_ls = sub binary64 c (mul binary64 (mul binary64 s.gammas.sigma s.norms.norm_gamma_fpr) s.norms.norm_gamma_fpr); tau = of_bits binary64 4607182418800017408 };
          rounds = 10;
        }) l'
        ≡ Move.search binary64 v (run_of s l)
    unfolding run_of leaves Move.search I.candidate I.descent I.envelope envelope_of
    search_asks l' x y c e xv yv cv =
        let b = holds s.set.n l h.size h.places in
        let k = line_left b binary64 v q e in
        let xw = rw (q, in_gradient b) at xv in
        let yw = rw (q, in_step b, in_half b) at yv in
        rw (k.is, cv, xw, yw, one_bits) refl

  -- ---- another candidate
  module _ (h : Stands s l) where
    -- after which k may follow
    abbrev next : ℕ → HalfStep
    next k =
        record {
          next = Again;
          norm = of_bits binary64 0;
          product = of_bits binary64 0;
          norms = record s.norms { tau = div binary64 s.norms.tau (of_bits binary64 4611686018427387904) };
          counts = record s.counts { rounds = k };
        }

    asks : (l' : List Float) (k : ℕ)
        → l' ≡ write PLUS (candidate binary64 (div binary64 s.norms.tau (of_bits binary64 4611686018427387904)) (vector DIRECTION s.set.n l) s.set.n l) l
        → halved s (next k) l' ≡ Move.again binary64 (suc k) (run_of s l)
    unfolding run_of leaves followed Move.again I.candidate
    asks l' k e =
        let d = candidate_left (holds s.set.n l h.size h.places) binary64 (div binary64 s.norms.tau (of_bits binary64 4611686018427387904)) e in
        rw (d.is, two_bits) refl

    pub again_asks : (l' : List Float) → (s.counts.rounds ≡ 0 → ⊥)
        → l' ≡ write PLUS (candidate binary64 (div binary64 s.norms.tau (of_bits binary64 4611686018427387904)) (vector DIRECTION s.set.n l) s.set.n l) l
        → halved s (next (s.counts.rounds - 1)) l' ≡ Move.again binary64 s.counts.rounds (run_of s l)
    again_asks l' k e =
        let p : suc (s.counts.rounds - 1) ≡ s.counts.rounds = omega (arith, k) in
        asks l' (s.counts.rounds - 1) e ∙ ap (λ (m : ℕ). Move.again binary64 m (run_of s l)) p

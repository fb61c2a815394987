-- What PROJECT's answers at a gradient step leave, from what their parts leave. Assumes nothing.
use Rattle.std.proofs.Common.{◌≡◌, refl, ap, sym, ◌∙◌, ℕ, zero, suc, ◌≤◌, Bool, true, false, cond, not, ◌&&◌, eqb, ne_eqb, List, length, replicate, Float, arith}
use Rattle.std.proofs.lemmas.List.{length-replicate}
use Rattle.std.specs.Float.{binary64}
use Rattle.std.specs.Float.Ieee.{lt, of_bits}
use Rattle.ieee.specs.Numbers.{null}
use Rattle.ieee.specs.Root.{root}
use Rattle.ieee.specs.Sums.{squares, norm}
use Rattle.model.specs.Vectors.{minus, dot}
use Rattle.model.specs.Process.{converged}
use Rattle.model.specs.State.{no_best, with_half}
use Rattle.model.specs.Inner as I
use Rattle.model.proofs.Facts.{and_left}
use Rattle.board.specs.Formulas.{residual}
use Rattle.board.specs.Board.{vector, write, U, PLUS, GRADIENT, PREVIOUS, STEP, HALF, FPR, BEST}
use Rattle.machine.specs.InnerRun.{Run, with_iterate}
use Rattle.machine.specs.InnerMoves as Move
use Rattle.panoc_engine.specs.declared.panoc_cache.Solve.{Solve}
use Rattle.panoc_engine.specs.declared.panoc_cache.ExitStatus.TheVariants.{Converged}
use Rattle.panoc_engine.specs.declared.panoc_cache.Next.{Next}
use Rattle.panoc_engine.specs.declared.panoc_cache.Next.TheVariants.{Step}
use Rattle.panoc_engine.specs.declared.panoc_cache.Phase.{Phase}
use Rattle.panoc_engine.specs.declared.panoc_cache.Phase.TheVariants as P
use Rattle.panoc_engine.specs.Formulas.{envelope_of}
use Rattle.panoc_engine.specs.Values.{status_of}
use Rattle.panoc_engine.specs.Runs.{run_of, followed, projected, Summed}
use Rattle.panoc_engine.proofs.Held.{holds, in_u, in_plus, in_gradient, in_step, in_half, in_fpr, wrote_half, wrote_previous, wrote_best, residual_left, adopt_left}
use Rattle.panoc_engine.proofs.Formulas.{infinity_bits}
use Rattle.panoc_engine.proofs.Steps.{step_residual, summed_taken, summed_again}

-- ---- which of the three
module _ (p : Phase) (v : List Float) (r : Run) where
  pub projected_start : p ≡ P.Project → projected p v r ≡ Move.project binary64 v r
  projected_start e = rw e refl

  pub projected_first : p ≡ P.FirstProject → projected p v r ≡ Move.first_project binary64 v r
  projected_first e = rw e refl

pub projected_tried : (p : Phase) (v : List Float) (r : Run) → (p ≡ P.Project → ⊥) → (p ≡ P.FirstProject → ⊥) → projected p v r ≡ Move.tried_project binary64 v r
projected_tried P.Project v r a b = absurd (a refl)
projected_tried P.FirstProject v r a b = absurd (b refl)
projected_tried _ v r a b = refl

-- ---- another candidate, or this one
pub worse_rounds : (a : Bool) (k : ℕ) → (a && not (eqb k 0)) ≡ true → k ≡ 0 → ⊥
worse_rounds true k e z = let y : ◌≡◌ {A = Bool} false true = rw z at e in cc
worse_rounds false k e z = let y : ◌≡◌ {A = Bool} false true = e in cc

adopts : (a : Bool) (k : ℕ) (r : Run) → (a && not (eqb k 0)) ≡ false → Move.adopt binary64 r ≡ cond a (Move.again binary64 k r) (Move.adopt binary64 r)
unfolding Move.again
adopts false k r e = refl
adopts true zero r e = refl
adopts true (suc k) r e = let f = ne_eqb (suc k) 0 (λ z. omega (arith, z)) in let y : ◌≡◌ {A = Bool} true false = rw f at e in cc

module _ (s : Solve) (l : List Float) (m : s.set.n ≤ 64) (p : 576 ≤ length l) (v : List Float) (q : length v ≡ s.set.n) where
  -- ---- the start: no best half step yet, no step done, the previous gradient zeros
  abbrev begun : Solve
  begun = record s { norms = record s.norms { best_norm_gamma_fpr = of_bits binary64 9218868437227405312 }; counts = record { left = s.set.max_iter; iterations = record { 0 = 0 }; status = Converged; rounds = s.counts.rounds } }

  abbrev start : Run
  start = record (with_iterate (I.begun binary64 (run_of s l).set (Move.opening_of binary64 (run_of s l)) v) (run_of s l)) { status = converged; left = (run_of s l).set.limit }

  module _ (l₁ l₂ l₃ l₄ : List Float) (e₄ : l₄ ≡ write FPR (residual binary64 s.set.n l₃) l₃) (e₃ : l₃ ≡ write BEST (replicate s.set.n null) l₂)
      (e₂ : l₂ ≡ write PREVIOUS (replicate s.set.n null) l₁) (e₁ : l₁ ≡ write HALF v l) where
    started : run_of (begun) l₄ ≡ record start { state = record start.state { residual = minus binary64 (run_of s l).state.at.u v } }
    unfolding run_of I.begun I.first_previous no_best
    started =
        let h₁ = wrote_half (holds s.set.n l m p) v q e₁ in
        let h₂ = wrote_previous h₁ (replicate s.set.n null) (length-replicate s.set.n null) e₂ in
        let h₃ = wrote_best h₂ (replicate s.set.n null) (length-replicate s.set.n null) e₃ in
        let h₄ = residual_left h₃ binary64 e₄ in
        rw (h₄.is, infinity_bits) refl

    pub project_goes : followed Step (run_of begun l₄) ≡ Move.project binary64 v (run_of s l)
    unfolding followed Move.project
    project_goes = ap (Move.step binary64) started ∙ step_residual start (minus binary64 (run_of s l).state.at.u v)

  -- ---- the first iterate
  pub first_project_goes : (l₁ l₂ : List Float) → l₂ ≡ write FPR (residual binary64 s.set.n l₁) l₁ → l₁ ≡ write HALF v l
      → Move.onward binary64 (status_of s.counts.status) (run_of s l₂) ≡ Move.first_project binary64 v (run_of s l)
  unfolding run_of Move.first_project
  first_project_goes l₁ l₂ e₂ e₁ =
      let h₁ = wrote_half (holds s.set.n l m p) v q e₁ in
      let h₂ = residual_left h₁ binary64 e₂ in
      rw h₂.is refl

  -- ---- a candidate
  module _ (l₁ : List Float) (x y c : Float) (e₁ : l₁ ≡ write HALF v l) (xv : x ≡ squares binary64 (vector GRADIENT (length v) l))
      (yv : y ≡ squares binary64 (minus binary64 (vector STEP (length v) l) v)) (cv : c ≡ envelope_of binary64 s.cost_value s.gammas.gamma x y) where
    envelope_is : c ≡ I.envelope binary64 (with_half v (run_of s l).state.at)
    unfolding run_of I.envelope envelope_of
    envelope_is =
        let b = holds s.set.n l m p in
        let xw = rw (q, in_gradient b) at xv in
        let yw = rw (q, in_step b) at yv in
        cv ∙ rw (xw, yw) refl

    run_is : run_of s l₁ ≡ with_iterate (with_half v (run_of s l).state.at) (run_of s l)
    unfolding run_of
    run_is = let h₁ = wrote_half (holds s.set.n l m p) v q e₁ in rw h₁.is refl

    pub tried_again : (lt s.norms.rhs_ls c && not (eqb s.counts.rounds 0)) ≡ true → Move.again binary64 s.counts.rounds (run_of s l₁) ≡ Move.tried_project binary64 v (run_of s l)
    unfolding run_of Move.tried_project
    tried_again t =
        let a : lt s.norms.rhs_ls (I.envelope binary64 (with_half v (run_of s l).state.at)) ≡ true = rw envelope_is at (and_left (lt s.norms.rhs_ls c) (not (eqb s.counts.rounds 0)) t) in
        ap (Move.again binary64 s.counts.rounds) run_is ∙ rw a refl

    pub tried_taken : (lt s.norms.rhs_ls c && not (eqb s.counts.rounds 0)) ≡ false → Move.adopt binary64 (run_of s l₁) ≡ Move.tried_project binary64 v (run_of s l)
    unfolding run_of Move.tried_project
    tried_taken t =
        let a : (lt s.norms.rhs_ls (I.envelope binary64 (with_half v (run_of s l).state.at)) && not (eqb s.counts.rounds 0)) ≡ false = rw envelope_is at t in
        ap (Move.adopt binary64) run_is
        ∙ adopts (lt s.norms.rhs_ls (I.envelope binary64 (with_half v (run_of s l).state.at))) s.counts.rounds (with_iterate (with_half v (run_of s l).state.at) (run_of s l)) a

-- a candidate that is taken
pub adopt_goes : (s : Solve) (l l' : List Float) → l' ≡ write FPR (minus binary64 (vector PLUS s.set.n l) (vector HALF s.set.n l)) (write U (vector PLUS s.set.n l) l) → s.set.n ≤ 64 → 576 ≤ length l
    → Move.onward binary64 (status_of s.counts.status) (run_of s l') ≡ Move.adopt binary64 (run_of s l)
unfolding run_of Move.adopt
adopt_goes s l l' e m p = let h = adopt_left (holds s.set.n l m p) binary64 e in rw h.is refl

-- its residual
pub candidate_summed : (next : Next) (x z : Float) (n : ℕ) (l l' : List Float)
    → l' ≡ write FPR (minus binary64 (vector PLUS n l) (vector HALF n l)) (write U (vector PLUS n l) l) → x ≡ root binary64 (squares binary64 (minus binary64 (vector PLUS n l) (vector HALF n l)))
    → z ≡ dot binary64 (vector GRADIENT n l) (minus binary64 (vector PLUS n l) (vector HALF n l)) → n ≤ 64 → 576 ≤ length l → Summed next x z n l'
unfolding norm
candidate_summed next x z n l l' e xv zv m p =
    let b = holds n l m p in
    let h = adopt_left b binary64 e in
    let xw = rw (in_plus b, in_half b) at xv in
    let zw = rw (in_gradient b, in_plus b, in_half b) at zv in
    summed_taken next x z n l'
    (record {
      left = rw (in_fpr h, in_u h, in_half h) refl;
      size = rw (in_u h, in_half h) xw;
      product = rw (in_gradient h, in_u h, in_half h) zw;
    })

-- what its half step leaves of the other vectors
module _ (n : ℕ) (v l l' : List Float) (e : l' ≡ write HALF v l) (q : length v ≡ n) (m : n ≤ 64) (p : 576 ≤ length l) where
  pub half_taken : vector HALF n l' ≡ v
  half_taken = in_half (wrote_half (holds n l m p) v q e)

  pub plus_kept : vector PLUS n l' ≡ vector PLUS (length v) l
  plus_kept = let b = holds n l m p in in_plus (wrote_half b v q e) ∙ sym (rw q (in_plus b))

  pub gradient_kept : vector GRADIENT n l' ≡ vector GRADIENT (length v) l
  gradient_kept = let b = holds n l m p in in_gradient (wrote_half b v q e) ∙ sym (rw q (in_gradient b))

pub ruleset tried = (worse_rounds, tried_again, tried_taken, half_taken, plus_kept, gradient_kept, summed_again)

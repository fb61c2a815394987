-- What the answers of the start leave, from what their parts leave. Assumes nothing.
use Rattle.std.proofs.Common.{◌≡◌, refl, true, false, ◌&&◌, List, length, Float}
use Rattle.std.specs.Float.{binary64}
use Rattle.std.specs.Float.Ieee.{div}
use Rattle.std.specs.Float.Ieee.Scale.{finite}
use Rattle.ieee.specs.Sums.{norm}
use Rattle.model.specs.Vectors.{all_finite, minus, less_times, shifted, shifts, estimate}
use Rattle.model.specs.Inner as I
use Rattle.board.specs.Board.{vector, write, U, GRADIENT, STEP}
use Rattle.machine.specs.InnerMoves as Move
use Rattle.panoc_engine.specs.declared.panoc_cache.Solve.{Solve}
use Rattle.panoc_engine.specs.declared.panoc_cache.Moved.TheVariants.{To, Refused}
use Rattle.panoc_engine.specs.declared.panoc_cache.Phase.TheVariants as P
use Rattle.panoc_engine.specs.declared.outcome.Refusal.TheVariants as R
use Rattle.panoc_engine.specs.Runs.{run_of, Stands, leaves}
use Rattle.panoc_engine.proofs.Held.{holds, in_u, in_gradient, wrote_gradient, shift_left, step_left}

pub cost_taken : (s : Solve) (l : List Float) (x : Float) → leaves (To P.Gradient) (run_of (record s { cost_value = x }) l) ≡ Move.cost binary64 x (run_of s l)
unfolding run_of leaves Move.cost
cost_taken s l x = refl

module _ (s : Solve) (l : List Float) (h : Stands s l) (v : List Float) (q : length v ≡ s.set.n) where
  pub gradient_taken : (l₁ l₂ : List Float) (x : Float) → l₂ ≡ write U (shifted binary64 (vector U s.set.n l₁)) l₁ → x ≡ norm binary64 (shifts binary64 (vector U s.set.n l₁)) → l₁ ≡ write GRADIENT v l
      → leaves (To P.Shifted) (run_of (record s { norm_h = x }) l₂) ≡ Move.gradient binary64 v (run_of s l)
  unfolding run_of leaves Move.gradient
  gradient_taken l₁ l₂ x e₂ xv e₁ =
      let h₁ = wrote_gradient (holds s.set.n l h.size h.places) v q e₁ in
      let h₂ = shift_left h₁ binary64 e₂ in
      rw (h₂.is, xv, in_u h₁) refl

  pub shifted_stops : (finite s.cost_value && all_finite (vector GRADIENT s.set.n l)) ≡ false
      → leaves (Refused R.FirstCost) (run_of (record s { gammas = s.gammas }) l) ≡ Move.shifted_gradient binary64 v (run_of s l)
  unfolding run_of leaves Move.shifted_gradient
  shifted_stops z = let t = rw (in_gradient (holds s.set.n l h.size h.places)) at z in rw t refl

  pub shifted_goes : (l' : List Float) (y γ σ : Float) → (finite s.cost_value && all_finite (vector GRADIENT s.set.n l)) ≡ true
      → l' ≡ write STEP (less_times binary64 γ (vector U s.set.n l) (vector GRADIENT s.set.n l)) l → y ≡ norm binary64 (minus binary64 v (vector GRADIENT (length v) l))
      → γ ≡ I.gamma_of binary64 (div binary64 y s.norm_h) → σ ≡ I.sigma_of binary64 γ
      → leaves (To P.Project) (run_of (record s { gammas = record { lipschitz_constant = div binary64 y s.norm_h; gamma = γ; sigma = σ } }) l') ≡ Move.shifted_gradient binary64 v (run_of s l)
  unfolding run_of leaves Move.shifted_gradient I.opening estimate
  shifted_goes l' y γ σ z e yv γv σv =
      let b = holds s.set.n l h.size h.places in
      let d = step_left b binary64 γ e in
      let t = rw (in_gradient b) at z in
      let yw = rw (q, in_gradient b) at yv in
      rw (t, d.is, σv, γv, yw) refl

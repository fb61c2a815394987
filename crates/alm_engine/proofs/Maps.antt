-- What the answers of the mappings leave, from what their parts leave. Assumes nothing.
use Rattle.std.proofs.Common.{◌≡◌, refl, ap, ◌∙◌, ℕ, ◌≤◌, List, length, Float, arith}
use Rattle.std.specs.Float.{binary64}
use Rattle.ieee.specs.Sums.{norm}
use Rattle.model.specs.Vectors.{minus, plus_times, plus_over}
use Rattle.model.proofs.Facts.{zip_size, minus_size}
use Rattle.board.specs.Board.{vector, write, PLUS, Y, Y_PLUS, F1}
use Rattle.board.proofs.Writes.{length_vector, vector_written}
use Rattle.machine.specs.LoopMoves as Move
use Rattle.alm_engine.specs.declared.alm_cache.Alm.{Alm}
use Rattle.alm_engine.specs.declared.alm_cache.AlmMoved.TheVariants.{To}
use Rattle.alm_engine.specs.declared.alm_cache.AlmPhase.TheVariants as P
use Rattle.alm_engine.specs.LoopRuns.{loop_run, Stands, loop_leaves}
use Rattle.alm_engine.proofs.LoopHeld.{stands, longer, in_y, in_f1, size_of_y, size_of_f1, wrote_f1, wrote_y_plus, scratch_left}

plus_over_size : (c : Float) (n : ℕ) (a b : List Float) → length a ≡ n → length b ≡ n → length (plus_over binary64 c a b) ≡ n
unfolding plus_over
plus_over_size c n a b = zip_size _ n a b

plus_times_size : (c : Float) (n : ℕ) (a b : List Float) → length a ≡ n → length b ≡ n → length (plus_times binary64 c a b) ≡ n
unfolding plus_times
plus_times_size c n a b = zip_size _ n a b

module _ (s : Alm) (l : List Float) (h : Stands s l) (v : List Float) where
  -- ---- F1
  pub f1_taken : (l₁ l₂ : List Float) → length v ≡ s.set.n1 → l₁ ≡ write F1 v l
      → l₂ ≡ write Y_PLUS (plus_over binary64 s.numbers.penalty (vector F1 s.set.n1 l₁) (vector Y s.set.n1 l₁)) l₁ → loop_leaves (To P.ProjectC) (loop_run s l₂) ≡ Move.f1 binary64 v (loop_run s l)
  unfolding loop_run loop_leaves Move.f1
  f1_taken l₁ l₂ q e₁ e₂ =
      let b = stands s l h in
      let b₁ = wrote_f1 b v q e₁ in
      let g = rw (in_f1 b₁, in_y b₁) at e₂ in
      let b₂ = wrote_y_plus b₁ _ (plus_over_size s.numbers.penalty s.set.n1 v _ q (size_of_y b)) g in
      rw b₂.is refl

  -- ---- the projection on C
  abbrev multiplied : List Float → List Float
  multiplied l₁ = plus_times binary64 s.numbers.penalty (vector Y (length v) l₁) (minus binary64 (vector F1 (length v) l₁) v)

  pub project_c_goes : (l₁ l₂ : List Float) (x : Float) → length v ≡ s.set.n1 → l₁ ≡ write PLUS v l → l₂ ≡ write Y_PLUS (multiplied l₁) l₁ → x ≡ norm binary64 (minus binary64 (multiplied l₁) (vector Y (length v) l₁))
      → Move.ask_f2 binary64 (loop_run (record s { numbers = record s.numbers { delta_y_norm_plus = x } }) l₂) ≡ Move.project_c binary64 v (loop_run s l)
  unfolding loop_run Move.project_c
  project_c_goes l₁ l₂ x q e₁ e₂ xv =
      let b = stands s l h in
      let b₁ = scratch_left b v (let m = h.size_y in omega arith) e₁ in
      let g = rw (q, in_y b₁, in_f1 b₁) at e₂ in
      let w = rw (q, in_y b₁, in_f1 b₁) at xv in
      let b₂ = wrote_y_plus b₁ _ (plus_times_size s.numbers.penalty s.set.n1 _ _ (size_of_y b) (minus_size binary64 s.set.n1 _ v (size_of_f1 b) q)) g in
      rw (b₂.is, w) refl

  pub stands_multiplied : (l₁ l₂ : List Float) → length v ≡ s.set.n1 → l₁ ≡ write PLUS v l → l₂ ≡ write Y_PLUS (multiplied l₁) l₁ → 768 ≤ length l₂
  stands_multiplied l₁ l₂ q e₁ e₂ =
      let m = h.size_y in
      let p = longer PLUS v l l₁ (omega arith) h.places e₁ in
      let z = plus_times_size s.numbers.penalty (length v) (vector Y (length v) l₁) _ (length_vector Y (length v) l₁) (minus_size binary64 (length v) (vector F1 (length v) l₁) v (length_vector F1 (length v) l₁) refl) in
      longer Y_PLUS (multiplied l₁) l₁ l₂ (omega arith) p e₂

  -- ---- F2
  pub f2_goes : (l₁ : List Float) (x : Float) → length v ≡ s.set.n2 → l₁ ≡ write PLUS v l → x ≡ norm binary64 (vector PLUS s.set.n2 l₁)
      → Move.weigh binary64 (loop_run (record s { numbers = record s.numbers { f2_norm_plus = x } }) l₁) ≡ Move.f2 binary64 v (loop_run s l)
  unfolding loop_run Move.f2
  f2_goes l₁ x q e xv =
      let m = h.size_f2 in
      let p = h.places in
      let b₁ = scratch_left (stands s l h) v (omega arith) e in
      let w : x ≡ norm binary64 v = xv ∙ ap (λ (k : List Float). norm binary64 (vector PLUS s.set.n2 k)) e ∙ ap (norm binary64) (vector_written PLUS s.set.n2 v l q (omega arith)) in
      rw (b₁.is, w) refl

  pub stands_scratched : (l₁ : List Float) → length v ≡ s.set.n2 → l₁ ≡ write PLUS v l → 768 ≤ length l₁
  stands_scratched l₁ q e = let m = h.size_f2 in longer PLUS v l l₁ (omega arith) h.places e

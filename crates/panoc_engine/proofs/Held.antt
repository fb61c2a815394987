-- What the leaves leave of the vectors of a board, from their promises. Assumes nothing.
use Rattle.std.proofs.Common.{◌≡◌, refl, sym, ap, subst, ◌∙◌, Bool, true, false, cond, ℕ, ◌+◌, ◌*◌, ◌≤◌, List, length, Float, arith}
use Rattle.std.specs.Float.{Format}
use Rattle.std.specs.Float.Ieee.{lt, sub}
use Rattle.model.specs.Constants.{one}
use Rattle.model.specs.Vectors.{minus, less_times, shifted}
use Rattle.model.proofs.Facts.{zip_size, minus_size, shifted_size}
use Rattle.board.specs.Formulas.{residual, candidate}
use Rattle.board.specs.Board.{vector, write, Board, board_of, U, PLUS, GRADIENT, PREVIOUS, STEP, HALF, FPR, DIRECTION, BEST}
use Rattle.model.specs.State.{keep}
use Rattle.panoc_engine.specs.Runs.{norm_at, best_at}
use Rattle.board.proofs.Writes.{length_vector, length_write, vector_written}
use Rattle.board.proofs.InnerBoard.{write_u, write_plus, write_gradient, write_previous, write_step, write_half, write_fpr, write_direction, write_best}

-- the board l holds the vectors b, of n places each
pub record Holds (n : ℕ) (l : List Float) (b : Board) : Type 0 where
  pub size : n ≤ 64
  pub places : 576 ≤ length l
  pub is : board_of n l ≡ b

pub holds : (n : ℕ) (l : List Float) → n ≤ 64 → 576 ≤ length l → Holds n l (board_of n l)
holds n l m p = record { size = m; places = p; is = refl }

less_size : (f : Format) (γ : Float) (n : ℕ) (a b : List Float) → length a ≡ n → length b ≡ n → length (less_times f γ a b) ≡ n
unfolding less_times
less_size f γ n a b = zip_size _ n a b

module _ {n : ℕ} {l : List Float} {b : Board} (h : Holds n l b) where
  pub in_u : vector U n l ≡ b.u
  unfolding board_of
  in_u = ap (λ (c : Board). c.u) h.is

  size_u : length b.u ≡ n
  size_u = sym (ap length in_u) ∙ length_vector U n l

  pub in_plus : vector PLUS n l ≡ b.plus
  unfolding board_of
  in_plus = ap (λ (c : Board). c.plus) h.is

  size_plus : length b.plus ≡ n
  size_plus = sym (ap length in_plus) ∙ length_vector PLUS n l

  pub in_gradient : vector GRADIENT n l ≡ b.gradient
  unfolding board_of
  in_gradient = ap (λ (c : Board). c.gradient) h.is

  size_gradient : length b.gradient ≡ n
  size_gradient = sym (ap length in_gradient) ∙ length_vector GRADIENT n l

  pub in_previous : vector PREVIOUS n l ≡ b.previous
  unfolding board_of
  in_previous = ap (λ (c : Board). c.previous) h.is

  size_previous : length b.previous ≡ n
  size_previous = sym (ap length in_previous) ∙ length_vector PREVIOUS n l

  pub in_step : vector STEP n l ≡ b.step
  unfolding board_of
  in_step = ap (λ (c : Board). c.step) h.is

  size_step : length b.step ≡ n
  size_step = sym (ap length in_step) ∙ length_vector STEP n l

  pub in_half : vector HALF n l ≡ b.half
  unfolding board_of
  in_half = ap (λ (c : Board). c.half) h.is

  size_half : length b.half ≡ n
  size_half = sym (ap length in_half) ∙ length_vector HALF n l

  pub in_fpr : vector FPR n l ≡ b.fpr
  unfolding board_of
  in_fpr = ap (λ (c : Board). c.fpr) h.is

  size_fpr : length b.fpr ≡ n
  size_fpr = sym (ap length in_fpr) ∙ length_vector FPR n l

  pub in_direction : vector DIRECTION n l ≡ b.direction
  unfolding board_of
  in_direction = ap (λ (c : Board). c.direction) h.is

  size_direction : length b.direction ≡ n
  size_direction = sym (ap length in_direction) ∙ length_vector DIRECTION n l

  pub in_best : vector BEST n l ≡ b.best
  unfolding board_of
  in_best = ap (λ (c : Board). c.best) h.is

  size_best : length b.best ≡ n
  size_best = sym (ap length in_best) ∙ length_vector BEST n l

  -- ---- one vector written
  longer : (j : ℕ) (x : List Float) {l' : List Float} → 64 * j + 64 ≤ 576 → length x ≡ n → l' ≡ write j x l → 576 ≤ length l'
  longer j x k q e = omega (arith, h.size, h.places, ap length e, length_write j x l (omega (arith, h.size, h.places)))

  pub wrote_u : (x : List Float) {l' : List Float} → length x ≡ n → l' ≡ write U x l → Holds n l' (record b { u = x })
  wrote_u x q e =
      record {
        size = h.size;
        places = longer U x (omega arith) q e;
        is = ap (board_of n) e ∙ write_u n x l q h.size h.places ∙ ap (λ (c : Board). record c { u = x }) h.is;
      }

  pub wrote_plus : (x : List Float) {l' : List Float} → length x ≡ n → l' ≡ write PLUS x l → Holds n l' (record b { plus = x })
  wrote_plus x q e =
      record {
        size = h.size;
        places = longer PLUS x (omega arith) q e;
        is = ap (board_of n) e ∙ write_plus n x l q h.size h.places ∙ ap (λ (c : Board). record c { plus = x }) h.is;
      }

  pub wrote_gradient : (x : List Float) {l' : List Float} → length x ≡ n → l' ≡ write GRADIENT x l → Holds n l' (record b { gradient = x })
  wrote_gradient x q e =
      record {
        size = h.size;
        places = longer GRADIENT x (omega arith) q e;
        is = ap (board_of n) e ∙ write_gradient n x l q h.size h.places ∙ ap (λ (c : Board). record c { gradient = x }) h.is;
      }

  pub wrote_previous : (x : List Float) {l' : List Float} → length x ≡ n → l' ≡ write PREVIOUS x l → Holds n l' (record b { previous = x })
  wrote_previous x q e =
      record {
        size = h.size;
        places = longer PREVIOUS x (omega arith) q e;
        is = ap (board_of n) e ∙ write_previous n x l q h.size h.places ∙ ap (λ (c : Board). record c { previous = x }) h.is;
      }

  pub wrote_step : (x : List Float) {l' : List Float} → length x ≡ n → l' ≡ write STEP x l → Holds n l' (record b { step = x })
  wrote_step x q e =
      record {
        size = h.size;
        places = longer STEP x (omega arith) q e;
        is = ap (board_of n) e ∙ write_step n x l q h.size h.places ∙ ap (λ (c : Board). record c { step = x }) h.is;
      }

  pub wrote_half : (x : List Float) {l' : List Float} → length x ≡ n → l' ≡ write HALF x l → Holds n l' (record b { half = x })
  wrote_half x q e =
      record {
        size = h.size;
        places = longer HALF x (omega arith) q e;
        is = ap (board_of n) e ∙ write_half n x l q h.size h.places ∙ ap (λ (c : Board). record c { half = x }) h.is;
      }

  pub wrote_fpr : (x : List Float) {l' : List Float} → length x ≡ n → l' ≡ write FPR x l → Holds n l' (record b { fpr = x })
  wrote_fpr x q e =
      record {
        size = h.size;
        places = longer FPR x (omega arith) q e;
        is = ap (board_of n) e ∙ write_fpr n x l q h.size h.places ∙ ap (λ (c : Board). record c { fpr = x }) h.is;
      }

  pub wrote_direction : (x : List Float) {l' : List Float} → length x ≡ n → l' ≡ write DIRECTION x l → Holds n l' (record b { direction = x })
  wrote_direction x q e =
      record {
        size = h.size;
        places = longer DIRECTION x (omega arith) q e;
        is = ap (board_of n) e ∙ write_direction n x l q h.size h.places ∙ ap (λ (c : Board). record c { direction = x }) h.is;
      }

  pub wrote_best : (x : List Float) {l' : List Float} → length x ≡ n → l' ≡ write BEST x l → Holds n l' (record b { best = x })
  wrote_best x q e =
      record {
        size = h.size;
        places = longer BEST x (omega arith) q e;
        is = ap (board_of n) e ∙ write_best n x l q h.size h.places ∙ ap (λ (c : Board). record c { best = x }) h.is;
      }

  -- ---- what each leaf leaves
  module _ (f : Format) {l' : List Float} where
    pub shift_left : l' ≡ write U (shifted f (vector U n l)) l → Holds n l' (record b { u = shifted f b.u })
    shift_left e = wrote_u (shifted f b.u) (shifted_size f b.u ∙ size_u) (rw in_u at e)

    pub step_left : (γ : Float) → l' ≡ write STEP (less_times f γ (vector U n l) (vector GRADIENT n l)) l → Holds n l' (record b { step = less_times f γ b.u b.gradient })
    step_left γ e = wrote_step (less_times f γ b.u b.gradient) (less_size f γ n b.u b.gradient size_u size_gradient) (rw (in_u, in_gradient) at e)

    pub residual_left : l' ≡ write FPR (residual f n l) l → Holds n l' (record b { fpr = minus f b.u b.half })
    residual_left e = wrote_fpr (minus f b.u b.half) (minus_size f n b.u b.half size_u size_half) (rw (in_u, in_half) at e)

module _ {n : ℕ} {l : List Float} {b : Board} (h : Holds n l b) (f : Format) {l' : List Float} where
  -- the gradient at vector j, which is x, and its step
  pub gradient_left : (j : ℕ) (x : List Float) → vector j n l ≡ x → (γ : Float) (v : List Float) → length v ≡ n → l' ≡ write STEP (less_times f γ (vector j (length v) l) v) (write GRADIENT v l)
      → Holds n l' (record b { gradient = v; step = less_times f γ x v })
  gradient_left j x i γ v q e =
      let d = wrote_gradient h v q refl in
      let z : length x ≡ n = sym (ap length i) ∙ length_vector j n l in
      wrote_step d (less_times f γ x v) (less_size f γ n x v z q) (rw (q, i) at e)

  pub candidate_left : (τ : Float) → l' ≡ write PLUS (candidate f τ (vector DIRECTION n l) n l) l
      → Holds n l' (record b { plus = less_times f τ (less_times f (sub f (one f) τ) b.u b.fpr) b.direction })
  candidate_left τ e =
      wrote_plus h (less_times f τ (less_times f (sub f (one f) τ) b.u b.fpr) b.direction)
      (less_size f τ n _ _ (less_size f (sub f (one f) τ) n _ _ (size_u h) (size_fpr h)) (size_direction h)) (rw (in_u h, in_fpr h, in_direction h) at e)

  -- the first candidate along v
  pub line_left : (v : List Float) → length v ≡ n
      → l' ≡ write PLUS (candidate f (one f) v (length v) l) (write DIRECTION v l)
      → Holds n l' (record b { direction = v; plus = less_times f (one f) (less_times f (sub f (one f) (one f)) b.u b.fpr) v })
  line_left v q e =
      let d = wrote_direction h v q refl in
      wrote_plus d (less_times f (one f) (less_times f (sub f (one f) (one f)) b.u b.fpr) v) (less_size f (one f) n _ _ (less_size f (sub f (one f) (one f)) n _ _ (size_u h) (size_fpr h)) q)
      (rw (q, in_u h, in_fpr h) at e)

  pub adopt_left : l' ≡ write FPR (minus f (vector PLUS n l) (vector HALF n l)) (write U (vector PLUS n l) l) → Holds n l' (record b { u = b.plus; fpr = minus f b.plus b.half })
  adopt_left e =
      let g = rw (in_plus h, in_half h) at e in
      let d = wrote_u h b.plus (size_plus h) refl in
      wrote_fpr d (minus f b.plus b.half) (minus_size f n b.plus b.half (size_plus h) (size_half h)) g

-- ---- what is kept of the half step, where a test says so
module _ {n : ℕ} {l : List Float} {b : Board} (h : Holds n l b) {l' : List Float} where
  same : l' ≡ l → Holds n l' b
  same e = subst (λ (x : List Float). Holds n x b) (sym e) h

  pub previous_left : (t : Bool) → l' ≡ cond t l (write PREVIOUS (vector GRADIENT n l) l) → Holds n l' (record b { previous = cond t b.previous b.gradient })
  previous_left true e = same e
  previous_left false e = wrote_previous h b.gradient (size_gradient h) (rw (in_gradient h) at e)

  pub best_left : (t : Bool) → l' ≡ cond t (write BEST (vector HALF n l) l) l → Holds n l' (record b { best = cond t b.half b.best })
  best_left true e = wrote_best h b.half (size_half h) (rw (in_half h) at e)
  best_left false e = same e

-- a vector that is neither u nor the half step leaves the norm of the residual as it was
module _ (n : ℕ) (l l' : List Float) (m : n ≤ 64) (p : 576 ≤ length l) where
  pub norm_previous : l' ≡ write PREVIOUS (vector GRADIENT n l) l → norm_at n l' ≡ norm_at n l
  norm_previous e =
      let b = holds n l m p in
      let d = wrote_previous b (vector GRADIENT n l) (length_vector GRADIENT n l) e in
      rw (in_u d, in_half d, in_u b, in_half b) refl

  pub norm_best : l' ≡ write BEST (vector HALF n l) l → norm_at n l' ≡ norm_at n l
  norm_best e =
      let b = holds n l m p in
      let d = wrote_best b (vector HALF n l) (length_vector HALF n l) e in
      rw (in_u d, in_half d, in_u b, in_half b) refl

  -- a half step is scored
  pub best_kept : (x y : Float) → l' ≡ write BEST (vector HALF n l) l → lt x y ≡ true → best_at n l' x ≡ keep (best_at n l y) (vector HALF n l) x
  unfolding keep
  best_kept x y e t = let d = ap (vector BEST n) e ∙ vector_written BEST n (vector HALF n l) l (length_vector HALF n l) (omega (arith, m, p)) in rw (d, t) refl

  pub best_stays : (x y : Float) → l' ≡ l → lt x y ≡ false → best_at n l' y ≡ keep (best_at n l y) (vector HALF n l) x
  unfolding keep
  best_stays x y e t = rw (e, t) refl

pub ruleset best = (norm_best, best_kept, best_stays)

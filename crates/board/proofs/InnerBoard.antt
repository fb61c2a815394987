-- Laws of the board of an inner solve: a write of a vector's numbers replaces that vector, and nothing else. Assumes nothing.
use Rattle.std.proofs.Common.{◌≡◌, refl, sym, ap, ◌∙◌, ℕ, ◌<◌, ◌≤◌, Bool, true, false, cond, eqb, eqb-true, List, length, replicate, Float, arith}
use Rattle.std.proofs.lemmas.List.{length-replicate, get_or-replicate}
use Rattle.std.proofs.lemmas.Bool.{eqb-false}
use Rattle.board.specs.Board.{vector, write, beyond, Board, board_of, U, PLUS, GRADIENT, PREVIOUS, STEP, HALF, FPR, DIRECTION, BEST}
use Rattle.board.proofs.Writes.{length_vector, length_write, vector_written, vector_kept, beyond_kept}
use Rattle.board.proofs.Loops.{length_replicate, length_minus, length_less_times, length_shifted}

-- the board whose vector j is v j, and whose other places are b
abbrev fill : (ℕ → List Float) → List Float → Board
fill v b =
    record { u = v U; plus = v PLUS; gradient = v GRADIENT; previous = v PREVIOUS; step = v STEP; half = v HALF; fpr = v FPR; direction = v DIRECTION; best = v BEST; beyond = b }

fill_eq : (v w : ℕ → List Float) (b c : List Float) → ((k : ℕ) → k < 9 → v k ≡ w k) → b ≡ c → fill v b ≡ fill w c
fill_eq v w b c e g = rw (e 0 (omega arith), e 1 (omega arith), e 2 (omega arith), e 3 (omega arith), e 4 (omega arith), e 5 (omega arith), e 6 (omega arith), e 7 (omega arith), e 8 (omega arith), g) refl

-- a write of vector j replaces it
replaced : (j n : ℕ) (x l : List Float) → j < 9 → length x ≡ n → n ≤ 64 → 576 ≤ length l → board_of n (write j x l) ≡ fill (λ k. cond (eqb k j) x (vector k n l)) (beyond (replicate 9 n) l)
unfolding board_of
replaced j n x l h e m b = fill_eq (λ k. vector k n (write j x l)) _ (beyond (replicate 9 n) (write j x l)) _ one others
  where
    others : beyond (replicate 9 n) (write j x l) ≡ beyond (replicate 9 n) l
    others = beyond_kept (replicate 9 n) j x l (simp length-replicate h) (e ∙ sym (get_or-replicate 9 j n 0 h)) (omega arith) (omega arith)

    one : (k : ℕ) → k < 9 → vector k n (write j x l) ≡ cond (eqb k j) x (vector k n l)
    one k q = by (eqb k j) refl
      where
        by : (t : Bool) → eqb k j ≡ t → vector k n (write j x l) ≡ cond (eqb k j) x (vector k n l)
        by true c = rw c (ap (λ (i : ℕ). vector i n (write j x l)) (eqb-true k j c) ∙ vector_written j n x l e (omega arith))
        by false c = rw c (vector_kept k j n x l (eqb-false k j c) m (omega arith) (omega arith))

module _ (n : ℕ) (x l : List Float) (e : length x ≡ n) (m : n ≤ 64) (b : 576 ≤ length l) where
  pub write_u : board_of n (write U x l) ≡ record (board_of n l) { u = x }
  unfolding board_of
  write_u = replaced U n x l (omega arith) e m b

  pub write_plus : board_of n (write PLUS x l) ≡ record (board_of n l) { plus = x }
  unfolding board_of
  write_plus = replaced PLUS n x l (omega arith) e m b

  pub write_gradient : board_of n (write GRADIENT x l) ≡ record (board_of n l) { gradient = x }
  unfolding board_of
  write_gradient = replaced GRADIENT n x l (omega arith) e m b

  pub write_previous : board_of n (write PREVIOUS x l) ≡ record (board_of n l) { previous = x }
  unfolding board_of
  write_previous = replaced PREVIOUS n x l (omega arith) e m b

  pub write_step : board_of n (write STEP x l) ≡ record (board_of n l) { step = x }
  unfolding board_of
  write_step = replaced STEP n x l (omega arith) e m b

  pub write_half : board_of n (write HALF x l) ≡ record (board_of n l) { half = x }
  unfolding board_of
  write_half = replaced HALF n x l (omega arith) e m b

  pub write_fpr : board_of n (write FPR x l) ≡ record (board_of n l) { fpr = x }
  unfolding board_of
  write_fpr = replaced FPR n x l (omega arith) e m b

  pub write_direction : board_of n (write DIRECTION x l) ≡ record (board_of n l) { direction = x }
  unfolding board_of
  write_direction = replaced DIRECTION n x l (omega arith) e m b

  pub write_best : board_of n (write BEST x l) ≡ record (board_of n l) { best = x }
  unfolding board_of
  write_best = replaced BEST n x l (omega arith) e m b

-- ---- each vector by its name

module _ (n : ℕ) (l : List Float) where
  pub u_of : vector U n l ≡ (board_of n l).u
  unfolding board_of
  u_of = refl

  pub plus_of : vector PLUS n l ≡ (board_of n l).plus
  unfolding board_of
  plus_of = refl

  pub gradient_of : vector GRADIENT n l ≡ (board_of n l).gradient
  unfolding board_of
  gradient_of = refl

  pub previous_of : vector PREVIOUS n l ≡ (board_of n l).previous
  unfolding board_of
  previous_of = refl

  pub step_of : vector STEP n l ≡ (board_of n l).step
  unfolding board_of
  step_of = refl

  pub half_of : vector HALF n l ≡ (board_of n l).half
  unfolding board_of
  half_of = refl

  pub fpr_of : vector FPR n l ≡ (board_of n l).fpr
  unfolding board_of
  fpr_of = refl

  pub direction_of : vector DIRECTION n l ≡ (board_of n l).direction
  unfolding board_of
  direction_of = refl

  pub best_of : vector BEST n l ≡ (board_of n l).best
  unfolding board_of
  best_of = refl

-- what a handler of an inner solve needs of its leaves
pub ruleset boards = (write_u, write_plus, write_gradient, write_previous, write_step, write_half, write_fpr, write_direction, write_best, u_of, plus_of, gradient_of, previous_of, step_of, half_of, fpr_of, direction_of, best_of, length_write, length_vector, length_replicate, length_minus, length_less_times, length_shifted)

-- What a start comes to. Assumes nothing.
use Rattle.std.proofs.Common.{◌≡◌, refl, ap, sym, ◌∙◌, ℕ, ◌+◌, ◌-◌, ◌≤◌, ◌<◌, Bool, true, false, cond, ◌&&◌, eqb, eqb-true, leb, leb-true, ltb, ltb-true, List, [], ◌∷◌, length, take, Float, arith, length-take-le}
use Rattle.std.specs.Float.{binary64}
use Rattle.model.specs.Loop.{inner_settings}
use Rattle.model.specs.Refusals.{loop_refusal, unless, sizes_right, mappings_right, limit_right, xi_length, penalty_in, multipliers_in}
use Rattle.model.proofs.Facts.{and_left, and_right}
use Rattle.board.specs.Board.{vector, write, U, Y, Y_PLUS, F1}
use Rattle.board.proofs.InnerBoard.{write_u}
use Rattle.board.proofs.Writes.{vector_kept}
use Rattle.machine.specs.Told as Say
use Rattle.machine.specs.LoopRun.{Left}
use Rattle.machine.specs.LoopMoves.{begins}
use Rattle.machine.specs.LoopAnswer as Answer
use Rattle.panoc_engine.specs.declared.outcome.Refusal.{Refusal}
use Rattle.panoc_engine.specs.declared.outcome.Outcome.TheVariants as O
use Rattle.panoc_engine.specs.Told.{refusal_number}
use Rattle.alm_engine.specs.declared.alm_cache.Alm.{Alm}
use Rattle.alm_engine.specs.declared.alm_cache.AlmSettings.{AlmSettings}
use Rattle.alm_engine.specs.Values.{loop_settings_of}
use Rattle.alm_engine.specs.LoopBoard.{loop_board_of}
use Rattle.alm_engine.specs.LoopRuns.{loop_run_at, loop_run, loop_stepped}
use Rattle.alm_engine.proofs.LoopHeld.{LoopHolds, longer, front_written, rest_kept, wrote_y, wrote_y_plus}
use Rattle.alm_optimizer.specs.Calls.{loop_blank}
use Rattle.panoc_engine.proofs.Numbers.{refusal_some}
use Rattle.alm_optimizer.proofs.Answers.{refused_at}

-- ---- a start that no test refuses
passed : (t : Bool) (k later : ℕ) → (k ≡ 0 → ⊥) → unless t k later ≡ 0 → (t ≡ true) × (later ≡ 0)
unfolding unless
passed true k later n e = (refl, e)
passed false k later n e = absurd (n e)

-- u written over a loop's board
module _ (n n1 : ℕ) (l : List Float) (m : n ≤ 64) (m1 : n1 ≤ 32) (p : 768 ≤ length l) (x : List Float) (e : length x ≡ n) where
  apart : (i : ℕ) → 9 ≤ i → vector i n1 (write U x l) ≡ vector i n1 l
  apart i g = vector_kept i U n1 x l (omega arith) (omega arith) (omega arith) (omega arith)

  wrote_u : (l' : List Float) → l' ≡ write U x l → LoopHolds n n1 l' (record (loop_board_of n n1 l) { inner = record (loop_board_of n n1 l).inner { u = x } })
  unfolding loop_board_of
  wrote_u l' d =
      let f : length (take 576 l) ≡ 576 = length-take-le 576 l (omega arith) in
      let w = write_u n x (take 576 l) e m (omega arith) in
      record {
        size = m;
        size_y = m1;
        places = longer U x l l' (omega arith) p d;
        is = ap (loop_board_of n n1) d
            ∙ rw (front_written l (omega arith) x (omega arith) U (omega arith), rest_kept l (omega arith) x (omega arith) U (omega arith), apart Y (omega arith), apart Y_PLUS (omega arith), apart F1 (omega arith), w) refl;
      }

multipliers_size : (n1 n2 : ℕ) (xi : List Float) → length xi ≡ xi_length n1 n2 → length (multipliers_in xi) ≡ n1
unfolding xi_length multipliers_in
multipliers_size n1 n2 xi e = by (eqb n1 0) (eqb n2 0) refl xi e
  where
    by : (a b : Bool) → eqb n1 0 ≡ a → (ys : List Float) → length ys ≡ cond (a && b) 0 (n1 + 1) → length (multipliers_in ys) ≡ n1
    by true true q [] w = sym (eqb-true n1 0 q)
    by true true q (y ∷ ys) w = absurd (omega arith)
    by true false q [] w = absurd (omega arith)
    by true false q (y ∷ ys) w = omega arith
    by false b q [] w = absurd (omega arith)
    by false b q (y ∷ ys) w = omega arith

module _ (s : AlmSettings) (u xi l : List Float) where
  -- a refused one
  pub start_stops : (k : Refusal) → refusal_number k ≡ loop_refusal binary64 (loop_settings_of s) u xi
      → loop_stepped (record { outcome = O.Refused k; state = loop_blank s }) l ≡ Answer.start binary64 (loop_settings_of s) u xi (loop_run (loop_blank s) l)
  unfolding loop_run Answer.start
  start_stops k n =
      sym
      (refused_at (λ (j : ℕ). let t : Left = record { told = Say.Told.refused j; run = Answer.no_run (loop_settings_of s) (loop_run (loop_blank s) l) } in t) _ (refusal_number k) _ n (refusal_some k))

  module _ (n : 0 ≡ loop_refusal binary64 (loop_settings_of s) u xi) where
    sizes : (sizes_right s.n (length u) ≡ true) × (mappings_right s.n1 s.n2 s.has_set_y (length xi) ≡ true) × (limit_right 1000 s.max_outer_iterations ≡ true)
    unfolding loop_refusal
    sizes =
        let a = passed (sizes_right s.n (length u)) 1 _ (λ e. omega arith) (sym n) in
        let b = passed _ 19 _ (λ e. omega arith) a.1 in
        let c = passed (mappings_right s.n1 s.n2 s.has_set_y (length xi)) 2 _ (λ e. omega arith) b.1 in
        let d = passed (limit_right 10000 s.max_inner_iterations && limit_right 1000 s.max_outer_iterations) 3 _ (λ e. omega arith) c.1 in
        (a.0, c.0, and_right (limit_right 10000 s.max_inner_iterations) _ d.0)

    size_u : (length u ≡ s.n) × (s.n ≤ 64)
    unfolding sizes_right
    size_u =
        let a = and_right (ltb 0 s.n) (leb s.n 64 && eqb (length u) s.n) sizes.0 in
        (eqb-true (length u) s.n (and_right (leb s.n 64) _ a), leb-true s.n 64 (and_left (leb s.n 64) _ a))

    size_y : (length (multipliers_in xi) ≡ s.n1) × (s.n1 ≤ 32)
    unfolding mappings_right
    size_y =
        let a = and_right (leb s.n1 32) _ sizes.1 in
        let b = and_right (leb s.n2 32) _ a in
        (multipliers_size s.n1 s.n2 xi (eqb-true (length xi) (xi_length s.n1 s.n2) (and_left (eqb (length xi) (xi_length s.n1 s.n2)) _ b)), leb-true s.n1 32 (and_left (leb s.n1 32) _ sizes.1))

    pub start_places : length u ≤ 64
    start_places = let a = size_u.0 in let b = size_u.1 in omega arith

    pub start_multipliers : length (multipliers_in xi) ≤ 32
    start_multipliers = let a = size_y.0 in let b = size_y.1 in omega arith

    pub start_limit : 1 ≤ s.max_outer_iterations
    unfolding limit_right
    start_limit = let a : 0 < s.max_outer_iterations = ltb-true 0 s.max_outer_iterations (and_left (ltb 0 s.max_outer_iterations) _ sizes.2) in omega arith

    -- the small part of a run that is begun
    abbrev begun : Float → ℕ → Alm
    begun c k = record (loop_blank s) { numbers = record (loop_blank s).numbers { penalty = c }; counts = record (loop_blank s).counts { left = k } }

    pub start_begins : (l1 l2 l3 y : List Float) (c : Float) (k : ℕ) → 768 ≤ length l → l1 ≡ write U u l → l2 ≡ write Y y l1 → l3 ≡ write Y_PLUS y l2 → y ≡ multipliers_in xi → c ≡ penalty_in xi
        → k ≡ s.max_outer_iterations - 1 → begins (loop_run (begun c k) l3) ≡ Answer.start binary64 (loop_settings_of s) u xi (loop_run (loop_blank s) l)
    unfolding loop_run inner_settings Answer.start
    start_begins l1 l2 l3 y c k p a b d e f g =
        let h1 = wrote_u s.n s.n1 l size_u.1 size_y.1 p u size_u.0 l1 a in
        let q : length y ≡ s.n1 = ap length e ∙ size_y.0 in
        let h3 = wrote_y_plus (wrote_y h1 y q b) y q d in
        let t : loop_run (begun c k) l3 ≡ Answer.begun (loop_settings_of s) u xi (loop_run (loop_blank s) l) = ap (loop_run_at (begun c k)) h3.is ∙ rw (f, g, e) refl in
        rw (← n) (ap begins t)

pub ruleset starts = (start_stops, start_places, start_multipliers, start_limit, start_begins, refusal_some)

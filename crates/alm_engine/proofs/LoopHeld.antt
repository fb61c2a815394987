-- What a write leaves of the vectors of a loop's board. Assumes nothing.
use Rattle.std.proofs.Common.{◌≡◌, ◌≢◌, refl, sym, ap, ◌∙◌, ℕ, ◌+◌, ◌*◌, ◌-◌, ◌≤◌, ◌<◌, List, ◌++◌, length, take, drop, replicate, get_or, Float, arith, append_assoc, length-drop, length-take-le, drop-drop, drop_at, take_at, take-add, get_or-take, ext_get_or}
use Rattle.std.proofs.lemmas.List.{take-append-drop, take-append-le, drop-append-le}
use Rattle.std.specs.Float.{nan}
use Rattle.board.specs.Board.{vector, write, beyond, Board, board_of, U, PLUS, GRADIENT, PREVIOUS, STEP, HALF, FPR, DIRECTION, BEST, Y, Y_PLUS, F1}
use Rattle.board.proofs.Writes.{length_vector, length_write, get_or_vector, vector_written, vector_kept, beyond_kept}
use Rattle.board.proofs.InnerBoard.{write_u}
use Rattle.machine.specs.LoopRun.{written}
use Rattle.alm_engine.specs.declared.alm_cache.Alm.{Alm}
use Rattle.alm_engine.specs.LoopRuns.{Stands}
use Rattle.alm_engine.specs.LoopBoard.{LoopBoard, loop_board_of}
use Rattle.alm_engine.proofs.Scratch.{plus_scratched, beyond_scratched}

-- ---- a write, and the first 576 places, which are the inner solve's board
write_parts : (a r x : List Float) (j : ℕ) → 64 * j + length x ≤ length a → write j x (a ++ r) ≡ write j x a ++ r
unfolding write
write_parts a r x j h =
    rw (take-append-le (64 * j) a r (omega arith), drop-append-le (64 * j + length x) a r h)
    (ap (λ (t : List Float). take (64 * j) a ++ t) (sym (append_assoc x (drop (64 * j + length x) a) r))
    ∙ sym (append_assoc (take (64 * j) a) (x ++ drop (64 * j + length x) a) r))

module _ (l : List Float) (p : 576 ≤ length l) where
  front_size : length (take 576 l) ≡ 576
  front_size = length-take-le 576 l p

  -- its vectors are the loop's first ones
  pub inner_vector : (j n : ℕ) → j < 9 → n ≤ 64 → vector j n (take 576 l) ≡ vector j n l
  inner_vector j n h m =
      ext_get_or nan (vector j n (take 576 l)) (vector j n l) (length_vector j n (take 576 l) ∙ sym (length_vector j n l)) same
    where
      same : (i : ℕ) → i < length (vector j n (take 576 l)) → get_or (vector j n (take 576 l)) i nan ≡ get_or (vector j n l) i nan
      same i q =
          let r : i < n = omega (arith, length_vector j n (take 576 l)) in
          get_or_vector j n (take 576 l) i r ∙ get_or-take 576 l (64 * j + i) nan (omega arith) ∙ sym (get_or_vector j n l i r)

  module _ (x : List Float) (m : length x ≤ 64) where
    -- a write of one of its vectors
    inner_write : (j : ℕ) → j < 9 → write j x l ≡ write j x (take 576 l) ++ drop 576 l
    inner_write j h =
        ap (write j x) (sym (take-append-drop 576 l)) ∙ write_parts (take 576 l) (drop 576 l) x j (let f = front_size in omega arith)

    pub front_written : (j : ℕ) → j < 9 → take 576 (write j x l) ≡ write j x (take 576 l)
    front_written j h =
        ap (take 576) (inner_write j h)
        ∙ take_at (write j x (take 576 l)) (drop 576 l) 576 (length_write j x (take 576 l) (let f = front_size in omega arith) ∙ front_size)

    pub rest_kept : (j : ℕ) → j < 9 → drop 576 (write j x l) ≡ drop 576 l
    rest_kept j h =
        ap (drop 576) (inner_write j h)
        ∙ drop_at (write j x (take 576 l)) (drop 576 l) 576 (length_write j x (take 576 l) (let f = front_size in omega arith) ∙ front_size)

  module _ (x : List Float) (i : ℕ) where
    -- a write of one of the others
    outer_write : write (9 + i) x l ≡ take 576 l ++ write i x (drop 576 l)
    unfolding write
    outer_write =
        let f : 64 * (9 + i) ≡ 576 + 64 * i = omega arith in
        let g : 64 * (9 + i) + length x ≡ 576 + (64 * i + length x) = omega arith in
        let a : take (64 * (9 + i)) l ≡ take 576 l ++ take (64 * i) (drop 576 l) = ap (λ (n : ℕ). take n l) f ∙ take-add 576 (64 * i) l in
        let d : drop (64 * (9 + i) + length x) l ≡ drop (64 * i + length x) (drop 576 l) = ap (λ (n : ℕ). drop n l) g ∙ sym (drop-drop (64 * i + length x) 576 l) in
        rw (a, d) (append_assoc (take 576 l) (take (64 * i) (drop 576 l)) (x ++ drop (64 * i + length x) (drop 576 l)))

    pub front_kept : take 576 (write (9 + i) x l) ≡ take 576 l
    front_kept = ap (take 576) outer_write ∙ take_at (take 576 l) (write i x (drop 576 l)) 576 front_size

    pub rest_written : drop 576 (write (9 + i) x l) ≡ write i x (drop 576 l)
    rest_written = ap (drop 576) outer_write ∙ drop_at (take 576 l) (write i x (drop 576 l)) 576 front_size

-- a write into the candidate's places, of any length
scratched_board : (n : ℕ) (l v : List Float) → n ≤ 64 → length v ≤ 64 → 576 ≤ length l
    → board_of n (write PLUS v l)
    ≡ record (board_of n l) { plus = written v (vector PLUS n l); beyond = take (64 - n) (beyond (replicate 9 n) l) ++ written (drop n v) (drop (64 - n) (beyond (replicate 9 n) l)) }
unfolding board_of
scratched_board n l v m w p =
    let a : (i : ℕ) → i ≢ PLUS → vector i n (write PLUS v l) ≡ vector i n l = λ i ne. vector_kept i PLUS n v l ne m w (omega arith) in
    let d : beyond (replicate 9 n) (write PLUS v l) ≡ take (64 - n) (beyond (replicate 9 n) l) ++ written (drop n v) (drop (64 - n) (beyond (replicate 9 n) l)) =
    beyond_scratched v l w (omega arith) n (replicate 7 n) m in
    rw (a U (omega arith), plus_scratched v l w (omega arith) n, a GRADIENT (omega arith), a PREVIOUS (omega arith), a STEP (omega arith), a HALF (omega arith), a FPR (omega arith), a DIRECTION (omega arith), a BEST (omega arith), d) refl

-- ---- the board l holds the vectors b: the inner solve's of n places each, the others of n1
pub record LoopHolds (n n1 : ℕ) (l : List Float) (b : LoopBoard) : Type 0 where
  pub size : n ≤ 64
  pub size_y : n1 ≤ 32
  pub places : 768 ≤ length l
  pub is : loop_board_of n n1 l ≡ b

pub stands : (s : Alm) (l : List Float) → Stands s l → LoopHolds s.set.n s.set.n1 l (loop_board_of s.set.n s.set.n1 l)
stands s l h = record { size = h.size; size_y = h.size_y; places = h.places; is = refl }

pub longer : (j : ℕ) (x l l' : List Float) → 64 * j + length x ≤ 768 → 768 ≤ length l → l' ≡ write j x l → 768 ≤ length l'
longer j x l l' h p e = let a = length_write j x l (omega arith) in let b = ap length e in omega arith

module _ {n n1 : ℕ} {l : List Float} {b : LoopBoard} (h : LoopHolds n n1 l b) where
  inner_places : 576 ≤ length l
  inner_places = let p = h.places in omega arith

  -- ---- its vectors
  pub in_y : vector Y n1 l ≡ b.y
  unfolding loop_board_of
  in_y = ap (λ (c : LoopBoard). c.y) h.is

  pub in_y_plus : vector Y_PLUS n1 l ≡ b.y_plus
  unfolding loop_board_of
  in_y_plus = ap (λ (c : LoopBoard). c.y_plus) h.is

  pub in_f1 : vector F1 n1 l ≡ b.f1
  unfolding loop_board_of
  in_f1 = ap (λ (c : LoopBoard). c.f1) h.is

  pub in_best : vector BEST n l ≡ b.inner.best
  unfolding loop_board_of board_of
  in_best = sym (inner_vector l inner_places BEST n (omega arith) h.size) ∙ ap (λ (c : LoopBoard). c.inner.best) h.is

  pub size_of_y : length b.y ≡ n1
  size_of_y = sym (ap length in_y) ∙ length_vector Y n1 l

  pub size_of_y_plus : length b.y_plus ≡ n1
  size_of_y_plus = sym (ap length in_y_plus) ∙ length_vector Y_PLUS n1 l

  pub size_of_f1 : length b.f1 ≡ n1
  size_of_f1 = sym (ap length in_f1) ∙ length_vector F1 n1 l

  size_of_best : length b.inner.best ≡ n
  size_of_best = sym (ap length in_best) ∙ length_vector BEST n l

  -- ---- y, y_plus or F1 written
  module _ (x : List Float) (q : length x ≡ n1) where
    kept : (k j : ℕ) → k ≢ j → 64 * j ≤ 768 → vector k n1 (write j x l) ≡ vector k n1 l
    kept k j ne m = let z = h.size_y in let p = h.places in vector_kept k j n1 x l ne (omega arith) (omega arith) (omega arith)

    set_in : (j : ℕ) → 64 * j ≤ 768 → vector j n1 (write j x l) ≡ x
    set_in j m = let p = h.places in vector_written j n1 x l q (omega arith)

    others : (i : ℕ) → i < 3 → length x ≡ get_or (replicate 3 n1) i 0 → beyond (replicate 3 n1) (drop 576 (write (9 + i) x l)) ≡ beyond (replicate 3 n1) (drop 576 l)
    others i m e =
        let z = h.size_y in
        let p = h.places in
        let s = length-drop 576 l in
        ap (beyond (replicate 3 n1)) (rest_written l inner_places x i) ∙ beyond_kept (replicate 3 n1) i x (drop 576 l) m e (omega arith) (omega arith)

    written_y : loop_board_of n n1 (write Y x l) ≡ record (loop_board_of n n1 l) { y = x }
    unfolding loop_board_of
    written_y =
        let a : take 576 (write Y x l) ≡ take 576 l = front_kept l inner_places x 0 in
        let d : beyond (replicate 3 n1) (drop 576 (write Y x l)) ≡ beyond (replicate 3 n1) (drop 576 l) = others 0 (omega arith) q in
        rw (a, d, set_in Y (omega arith), kept Y_PLUS Y (omega arith) (omega arith), kept F1 Y (omega arith) (omega arith)) refl

    written_y_plus : loop_board_of n n1 (write Y_PLUS x l) ≡ record (loop_board_of n n1 l) { y_plus = x }
    unfolding loop_board_of
    written_y_plus =
        let a : take 576 (write Y_PLUS x l) ≡ take 576 l = front_kept l inner_places x 1 in
        let d : beyond (replicate 3 n1) (drop 576 (write Y_PLUS x l)) ≡ beyond (replicate 3 n1) (drop 576 l) = others 1 (omega arith) q in
        rw (a, d, set_in Y_PLUS (omega arith), kept Y Y_PLUS (omega arith) (omega arith), kept F1 Y_PLUS (omega arith) (omega arith)) refl

    written_f1 : loop_board_of n n1 (write F1 x l) ≡ record (loop_board_of n n1 l) { f1 = x }
    unfolding loop_board_of
    written_f1 =
        let a : take 576 (write F1 x l) ≡ take 576 l = front_kept l inner_places x 2 in
        let d : beyond (replicate 3 n1) (drop 576 (write F1 x l)) ≡ beyond (replicate 3 n1) (drop 576 l) = others 2 (omega arith) q in
        rw (a, d, set_in F1 (omega arith), kept Y F1 (omega arith) (omega arith), kept Y_PLUS F1 (omega arith) (omega arith)) refl

    module _ {l' : List Float} where
      pub wrote_y : l' ≡ write Y x l → LoopHolds n n1 l' (record b { y = x })
      wrote_y e =
          record {
            size = h.size;
            size_y = h.size_y;
            places = longer Y x l l' (let z = h.size_y in omega arith) h.places e;
            is = ap (loop_board_of n n1) e ∙ written_y ∙ ap (λ (c : LoopBoard). record c { y = x }) h.is;
          }

      pub wrote_y_plus : l' ≡ write Y_PLUS x l → LoopHolds n n1 l' (record b { y_plus = x })
      wrote_y_plus e =
          record {
            size = h.size;
            size_y = h.size_y;
            places = longer Y_PLUS x l l' (let z = h.size_y in omega arith) h.places e;
            is = ap (loop_board_of n n1) e ∙ written_y_plus ∙ ap (λ (c : LoopBoard). record c { y_plus = x }) h.is;
          }

      pub wrote_f1 : l' ≡ write F1 x l → LoopHolds n n1 l' (record b { f1 = x })
      wrote_f1 e =
          record {
            size = h.size;
            size_y = h.size_y;
            places = longer F1 x l l' (let z = h.size_y in omega arith) h.places e;
            is = ap (loop_board_of n n1) e ∙ written_f1 ∙ ap (λ (c : LoopBoard). record c { f1 = x }) h.is;
          }

  -- ---- a vector of the inner solve written, of any length: the others stay
  module _ (x : List Float) (m : length x ≤ 64) (j : ℕ) (k : j < 9) where
    apart : (i : ℕ) → i ≢ j → 9 ≤ i → vector i n1 (write j x l) ≡ vector i n1 l
    apart i ne g = let z = h.size_y in let p = h.places in vector_kept i j n1 x l ne (omega arith) m (omega arith)

    inner_written : (c : Board) → board_of n (write j x (take 576 l)) ≡ c → loop_board_of n n1 (write j x l) ≡ record (loop_board_of n n1 l) { inner = c }
    unfolding loop_board_of
    inner_written c e =
        rw (front_written l inner_places x m j k, rest_kept l inner_places x m j k, apart Y (omega arith) (omega arith), apart Y_PLUS (omega arith) (omega arith), apart F1 (omega arith) (omega arith), e) refl

  -- the candidate's places taken as scratch
  abbrev scratched : List Float → LoopBoard
  scratched v =
      record b {
        inner =
            record b.inner {
              plus = written v b.inner.plus;
              beyond = take (64 - n) b.inner.beyond ++ written (drop n v) (drop (64 - n) b.inner.beyond);
            };
      }

  module _ {l' : List Float} where
    -- "u is the plan"
    pub plan_left : l' ≡ write U (vector BEST n l) l → LoopHolds n n1 l' (record b { inner = record b.inner { u = b.inner.best } })
    unfolding loop_board_of
    plan_left e =
        let z = h.size in
        let y = size_of_best in
        let d = rw in_best at e in
        let w = write_u n b.inner.best (take 576 l) size_of_best h.size (let f = front_size l inner_places in omega arith) in
        record {
          size = h.size;
          size_y = h.size_y;
          places = longer U b.inner.best l l' (omega arith) h.places d;
          is = ap (loop_board_of n n1) d
              ∙ inner_written b.inner.best (omega arith) U (omega arith) _ w
              ∙ ap (λ (c : LoopBoard). record c { inner = record c.inner { u = b.inner.best } }) h.is;
        }

    pub scratch_left : (v : List Float) → length v ≤ 64 → l' ≡ write PLUS v l → LoopHolds n n1 l' (scratched v)
    unfolding loop_board_of board_of
    scratch_left v m e =
        let w = scratched_board n (take 576 l) v h.size m (let f = front_size l inner_places in omega arith) in
        record {
          size = h.size;
          size_y = h.size_y;
          places = longer PLUS v l l' (omega arith) h.places e;
          is = ap (loop_board_of n n1) e
              ∙ inner_written v m PLUS (omega arith) _ w
              ∙ ap (λ (c : LoopBoard). record c { inner = record c.inner { plus = written v c.inner.plus; beyond = take (64 - n) c.inner.beyond ++ written (drop n v) (drop (64 - n) c.inner.beyond) } }) h.is;
        }

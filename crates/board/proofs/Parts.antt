-- Laws of the parts of a board, as std's copies take them: what a part of it is, and what a part put back is. Assumes nothing.
use Rattle.std.proofs.Common.{◌≡◌, refl, sym, ap, ℕ, zero, suc, ◌+◌, ◌*◌, ◌-◌, ◌<◌, ◌≤◌, List, [], ◌∷◌, ◌++◌, length, take, drop, Float, arith, append_assoc, length-take-le, length-drop, take-append-drop, not-suc-le-zero, le_of_suc-le-suc, drop-drop}
use Rattle.std.proofs.lemmas.List.{take-take, drop-take, drop-append-le}
use borrow.Rule.Slice.PartMut.{put_mid}
use Rattle.board.specs.Firsts.{firsts}
use Rattle.board.specs.Board.{vector, write}
use Rattle.board.proofs.Writes.{length_vector}

-- ---- a vector is a part of the board, where the board has its places

firsts_take : (n : ℕ) (l : List Float) → n ≤ length l → firsts n l ≡ take n l
unfolding firsts
firsts_take zero l h = refl
firsts_take (suc n) [] h = absurd (not-suc-le-zero h)
firsts_take (suc n) (x ∷ l) h = ap (λ (t : List Float). x ∷ t) (firsts_take n l (le_of_suc-le-suc h))

pub vector_part : (j n : ℕ) (l : List Float) → 64 * j + n ≤ length l → vector j n l ≡ take n (drop (64 * j) l)
unfolding vector
vector_part j n l h = firsts_take n (drop (64 * j) l) (simp length-drop (omega arith))

-- of the board ahead of another vector, too
pub vector_ahead : (j k n : ℕ) (l : List Float) → k < j → n ≤ 64 → 64 * j ≤ length l → take n (drop (64 * k) (take (64 * j) l)) ≡ vector k n l
vector_ahead j k n l h m b =
    let e : 64 * k + (64 * j - 64 * k) ≡ 64 * j = omega arith in
    let d : drop (64 * k) (take (64 * j) l) ≡ take (64 * j - 64 * k) (drop (64 * k) l) = rw e at (drop-take (64 * k) (64 * j - 64 * k) l) in
    rw (d, take-take n (64 * j - 64 * k) (drop (64 * k) l) (omega arith)) (sym (vector_part k n l (omega arith)))

-- ---- a part put back is a write

pub put_write : (j k : ℕ) (x l : List Float) → k ≡ length x → put_mid (64 * j) k l x ≡ write j x l
unfolding write
put_write j k x l e = rw e (ap (λ (t : List Float). take (64 * j) l ++ (x ++ t)) (drop-drop (length x) (64 * j) l))

-- and so it is in the board ahead of another vector
pub put_ahead : (j k m : ℕ) (x l : List Float) → m ≡ length x → k < j → m ≤ 64 → 64 * j ≤ length l → put_mid (64 * k) m (take (64 * j) l) x ++ drop (64 * j) l ≡ write k x l
put_ahead j k m x l e h b c =
    let t : length (take (64 * j) l) ≡ 64 * j = length-take-le (64 * j) l c in
    let r : List Float = drop m (drop (64 * k) (take (64 * j) l)) in
    let s : drop (64 * k + m) (take (64 * j) l ++ drop (64 * j) l) ≡ drop (64 * k + m) (take (64 * j) l) ++ drop (64 * j) l =
    drop-append-le (64 * k + m) (take (64 * j) l) (drop (64 * j) l) (omega arith) in
    let a : r ++ drop (64 * j) l ≡ drop m (drop (64 * k) l) = rw (drop-drop m (64 * k) (take (64 * j) l), ← s, take-append-drop (64 * j) l, drop-drop m (64 * k) l) refl in
    rw (take-take (64 * k) (64 * j) l (omega arith), append_assoc (take (64 * k) l) (x ++ r) (drop (64 * j) l), append_assoc x r (drop (64 * j) l), a) (put_write k m x l e)

-- what std's copies of vectors need
pub ruleset parts = (vector_part, length_vector, put_write, vector_ahead, put_ahead)

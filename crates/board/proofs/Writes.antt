-- Laws of boards: what a write leaves of each vector and of the other places. Assumes nothing.
use Rattle.std.proofs.Common.{◌≡◌, refl, sym, ap, ◌∙◌, ℕ, zero, suc, ◌+◌, ◌*◌, ◌-◌, ◌<◌, ◌≤◌, ◌≢◌, Bool, true, false, ltb, ltb-true, ltb-false, zero-add, List, [], ◌∷◌, ◌++◌, length, get_or, take, drop, Float, arith, append_assoc, length-append, length-drop, length-take-le, drop-drop, drop_at, take_at, get_or-take, get_or-drop, take-add, ext_get_or, not-suc-le-zero, le_of_suc-le-suc}
use Rattle.std.proofs.lemmas.List.{get_or_append_left, get_or-append_right, drop-take}
use Rattle.std.specs.Float.{nan}
use Rattle.board.specs.Firsts.{firsts}
use Rattle.board.specs.Board.{vector, write, beyond}

-- ---- the first places of a list

-- they are as many as asked for
pub length_firsts : (n : ℕ) (l : List Float) → length (firsts n l) ≡ n
unfolding firsts
length_firsts zero l = refl
length_firsts (suc n) [] = ap suc (length_firsts n [])
length_firsts (suc n) (x ∷ l) = ap suc (length_firsts n l)

-- each is that of the list
pub get_or_firsts : (n : ℕ) (l : List Float) (i : ℕ) → i < n → get_or (firsts n l) i nan ≡ get_or l i nan
unfolding firsts
get_or_firsts zero l i h = absurd (not-suc-le-zero h)
get_or_firsts (suc n) [] zero h = refl
get_or_firsts (suc n) [] (suc i) h = get_or_firsts n [] i (le_of_suc-le-suc h)
get_or_firsts (suc n) (x ∷ l) zero h = refl
get_or_firsts (suc n) (x ∷ l) (suc i) h = get_or_firsts n l i (le_of_suc-le-suc h)

-- a list of so many has them with another list behind it too
pub firsts_front : (l rest : List Float) (n : ℕ) → length l ≡ n → firsts n (l ++ rest) ≡ l
unfolding firsts
firsts_front [] rest zero e = refl
firsts_front [] rest (suc n) e = absurd (omega arith)
firsts_front (x ∷ l) rest zero e = absurd (omega arith)
firsts_front (x ∷ l) rest (suc n) e = ap (λ (t : List Float). x ∷ t) (firsts_front l rest n (omega arith))

-- ---- a vector, and its places

pub length_vector : (j n : ℕ) (l : List Float) → length (vector j n l) ≡ n
unfolding vector
length_vector j n l = length_firsts n (drop (64 * j) l)

pub get_or_vector : (j n : ℕ) (l : List Float) (i : ℕ) → i < n → get_or (vector j n l) i nan ≡ get_or l (64 * j + i) nan
unfolding vector
get_or_vector j n l i h = get_or_firsts n (drop (64 * j) l) i h ∙ get_or-drop (64 * j) l i nan

-- ---- a write, and the board's places

pub length_write : (j : ℕ) (x l : List Float) → 64 * j + length x ≤ length l → length (write j x l) ≡ length l
unfolding write
length_write j x l h =
    let e = length-take-le (64 * j) l (omega arith) in
    simp (length-append, length-drop) (omega arith)

-- a place ahead of those written
pub place_ahead : (j : ℕ) (x l : List Float) (p : ℕ) → 64 * j ≤ length l → p < 64 * j → get_or (write j x l) p nan ≡ get_or l p nan
unfolding write
place_ahead j x l p h k =
    let e = length-take-le (64 * j) l h in
    get_or_append_left (take (64 * j) l) (x ++ drop (64 * j + length x) l) nan p (omega arith) ∙ get_or-take (64 * j) l p nan k

-- and behind them
pub place_behind : (j : ℕ) (x l : List Float) (p : ℕ) → 64 * j ≤ length l → 64 * j + length x ≤ p → get_or (write j x l) p nan ≡ get_or l p nan
unfolding write
place_behind j x l p h k =
    let m : 64 * j + length x + (p - 64 * j - length x) ≡ p = omega arith in
    get_or-append_right (take (64 * j) l) (x ++ drop (64 * j + length x) l) (64 * j) p nan (length-take-le (64 * j) l h) (omega arith)
    ∙ get_or-append_right x (drop (64 * j + length x) l) (length x) (p - 64 * j) nan refl (omega arith)
    ∙ get_or-drop (64 * j + length x) l (p - 64 * j - length x) nan
    ∙ ap (λ (q : ℕ). get_or l q nan) m

-- ---- a write, and the board's vectors

-- the vector written is x
pub vector_written : (j n : ℕ) (x l : List Float) → length x ≡ n → 64 * j ≤ length l → vector j n (write j x l) ≡ x
unfolding vector write
vector_written j n x l e h =
    ap (firsts n) (drop_at (take (64 * j) l) (x ++ drop (64 * j + length x) l) (64 * j) (length-take-le (64 * j) l h)) ∙ firsts_front x (drop (64 * j + length x) l) n e

-- every other vector is as it was
pub vector_kept : (k j n : ℕ) (x l : List Float) → k ≢ j → n ≤ 64 → length x ≤ 64 → 64 * j ≤ length l → vector k n (write j x l) ≡ vector k n l
vector_kept k j n x l ne h m b =
    ext_get_or nan (vector k n (write j x l)) (vector k n l) (length_vector k n (write j x l) ∙ sym (length_vector k n l)) same
  where
    place : (i : ℕ) → i < 64 → get_or (write j x l) (64 * k + i) nan ≡ get_or l (64 * k + i) nan
    place i q =
        by (ltb k j) refl
      where
        by : (t : Bool) → ltb k j ≡ t → get_or (write j x l) (64 * k + i) nan ≡ get_or l (64 * k + i) nan
        by true c = let a : k < j = ltb-true k j c in place_ahead j x l (64 * k + i) b (omega arith)
        by false c = let a : j ≤ k = ltb-false k j c in place_behind j x l (64 * k + i) b (omega (arith, ne))

    same : (i : ℕ) → i < length (vector k n (write j x l)) → get_or (vector k n (write j x l)) i nan ≡ get_or (vector k n l) i nan
    same i q =
        let r : i < n = omega (arith, length_vector k n (write j x l)) in
        get_or_vector k n (write j x l) i r ∙ place i (omega arith) ∙ sym (get_or_vector k n l i r)

-- ---- a write, and the other places

-- the first vector
write_first : (n : ℕ) (x l : List Float) → length x ≡ n → write 0 x l ≡ x ++ drop n l
unfolding write
write_first n x l e = ap (λ (k : ℕ). x ++ drop k l) (zero-add (length x) ∙ e)

-- the board less its first vector
write_suc : (j : ℕ) (x l : List Float) → write (suc j) x l ≡ take 64 l ++ write j x (drop 64 l)
unfolding write
write_suc j x l =
    let f : 64 * suc j ≡ 64 + 64 * j = omega arith in
    let g : 64 * suc j + length x ≡ 64 + (64 * j + length x) = omega arith in
    let a : take (64 * suc j) l ≡ take 64 l ++ take (64 * j) (drop 64 l) = ap (λ (n : ℕ). take n l) f ∙ take-add 64 (64 * j) l in
    let d : drop (64 * suc j + length x) l ≡ drop (64 * j + length x) (drop 64 l) = ap (λ (n : ℕ). drop n l) g ∙ sym (drop-drop (64 * j + length x) 64 l) in
    rw (a, d) (append_assoc (take 64 l) (take (64 * j) (drop 64 l)) (x ++ drop (64 * j + length x) (drop 64 l)))

-- none of them is written
pub beyond_kept : (ns : List ℕ) (j : ℕ) (x l : List Float) → j < length ns → length x ≡ get_or ns j 0 → length x ≤ 64 → 64 * j ≤ length l → beyond ns (write j x l) ≡ beyond ns l
unfolding beyond
beyond_kept [] j x l h e m b = absurd (not-suc-le-zero h)
beyond_kept (n ∷ ns) zero x l h e m b =
    let w : write 0 x l ≡ x ++ drop n l = write_first n x l e in
    let f : n + (64 - n) ≡ 64 = omega arith in
    let d : drop n (x ++ drop n l) ≡ drop n l = drop_at x (drop n l) n e in
    rw (w, ← f, drop-take n (64 - n) (x ++ drop n l), drop-take n (64 - n) l, ← (drop-drop (64 - n) n (x ++ drop n l)), ← (drop-drop (64 - n) n l), d) refl
beyond_kept (n ∷ ns) (suc j) x l h e m b =
    let t : length (take 64 l) ≡ 64 = length-take-le 64 l (omega arith) in
    let w = beyond_kept ns j x (drop 64 l) (omega arith) e m (simp length-drop (omega arith)) in
    rw (write_suc j x l, take_at (take 64 l) (write j x (drop 64 l)) 64 t, drop_at (take 64 l) (write j x (drop 64 l)) 64 t, w) refl

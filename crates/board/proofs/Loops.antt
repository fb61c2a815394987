-- Laws of loops over a board that go from place 0 up: each vector, formula and sum of no place (`none`) and of one place more (`more`), and what a store and a read come to where the first places of
-- a vector are written. A loop whose invariant says the contract as far as the loop has come is closed by the set `loops` alone. Assumes nothing.
use Rattle.std.proofs.Common.{◌≡◌, refl, sym, ap, ◌∙◌, ℕ, zero, suc, ◌+◌, ◌*◌, ◌-◌, ◌<◌, ◌≤◌, Bool, true, false, ◌&&◌, List, [], ◌∷◌, ◌++◌, map, length, get_or, set, take, drop, replicate, Float, arith, add-one, add-zero, append_assoc, length-append, length-take-le, take-append-drop, drop-set-lt, drop-cons, get_or-drop}
use Rattle.std.proofs.lemmas.List.{length-replicate, length-map, set-append_left, set-append_right, set_at, take-set-le, drop-set-add, take_more, take_more_set, take_all}
use Rattle.std.proofs.lemmas.Grind.{replicate_next}
use mathlib.Core.List.{zip_with}
use Rattle.std.specs.Float.{nan, Format}
use Rattle.std.specs.Float.Ieee.{add, sub, mul, div, of_bits}
use Rattle.std.specs.Float.Ieee.Scale.{finite}
use Rattle.ieee.specs.Numbers.{null}
use Rattle.ieee.proofs.Special.{zero_bits}
use Rattle.ieee.specs.Root.{root}
use Rattle.ieee.specs.Sums.{squares_from, squares, norm}
use Rattle.model.specs.Vectors.{all_finite, minus, plus, less_times, plus_times, plus_over, products_from, dot, shift, shifts, shifted}
use Rattle.board.specs.Firsts.{firsts}
use Rattle.board.specs.Board.{vector, write}
use Rattle.board.proofs.Writes.{vector_written, vector_kept, beyond_kept, length_vector, length_write, place_ahead, place_behind}

-- ---- a vector

-- one place more of a list is its next
firsts_more : (n : ℕ) (l : List Float) → firsts (suc n) l ≡ firsts n l ++ (get_or l n nan ∷ [])
unfolding firsts
firsts_more zero [] = refl
firsts_more zero (x ∷ l) = refl
firsts_more (suc n) [] = ap (λ (t : List Float). nan ∷ t) (firsts_more n [])
firsts_more (suc n) (x ∷ l) = ap (λ (t : List Float). x ∷ t) (firsts_more n l)

pub vector_none : (j : ℕ) (l : List Float) → vector j 0 l ≡ []
unfolding vector firsts
vector_none j l = refl

pub vector_more : (j i : ℕ) (l : List Float) → vector j (i + 1) l ≡ vector j i l ++ (get_or l (64 * j + i) nan ∷ [])
unfolding vector
vector_more j i l = rw (add-one i, firsts_more i (drop (64 * j) l), get_or-drop (64 * j) l i nan) refl

-- ---- a vector written as far as place i

pub write_none : (j : ℕ) (l : List Float) → write j [] l ≡ l
unfolding write
write_none j l = rw (add-zero (64 * j)) (take-append-drop (64 * j) l)

pub write_more : (j : ℕ) (x l : List Float) (p : ℕ) (y : Float) → p ≡ 64 * j + length x → p < length l → set (write j x l) p y ≡ write j (x ++ (y ∷ [])) l
unfolding write
write_more j x l p y e h =
    let r : List Float = drop (suc (64 * j + length x)) l in
    let m : length (take (64 * j) l) ≡ 64 * j = length-take-le (64 * j) l (omega arith) in
    let q : length x ≡ p - 64 * j = omega arith in
    let n : suc (64 * j + length x) ≡ 64 * j + length (x ++ (y ∷ [])) = omega (arith, length-append x (y ∷ [])) in
    let d : drop (64 * j + length x) l ≡ get_or l (64 * j + length x) nan ∷ r = drop-cons l (64 * j + length x) nan (omega arith) in
    let s : set (x ++ drop (64 * j + length x) l) (p - 64 * j) y ≡ x ++ (y ∷ r) = rw d (set_at x (get_or l (64 * j + length x) nan) r y (p - 64 * j) q) in
    rw (set-append_right (take (64 * j) l) (x ++ drop (64 * j + length x) l) (64 * j) p y m (omega arith), s, ← n, append_assoc x (y ∷ []) r) refl

-- the first places of a list with a place set
take_set : (n : ℕ) (l : List Float) (i : ℕ) (y : Float) → take n (set l i y) ≡ set (take n l) i y
take_set zero l i y = refl
take_set (suc n) [] i y = refl
take_set (suc n) (x ∷ l) zero y = refl
take_set (suc n) (x ∷ l) (suc i) y = ap (λ (t : List Float). x ∷ t) (take_set n l i y)

-- a store into another vector
pub store_ahead : (j : ℕ) (x l : List Float) (p : ℕ) (y : Float) → 64 * j ≤ length l → p < 64 * j → set (write j x l) p y ≡ write j x (set l p y)
unfolding write
store_ahead j x l p y h k =
    let m : length (take (64 * j) l) ≡ 64 * j = length-take-le (64 * j) l h in
    let d : drop (64 * j + length x) (set l p y) ≡ drop (64 * j + length x) l = drop-set-lt (64 * j + length x) l p y (omega arith) in
    rw (set-append_left (take (64 * j) l) (x ++ drop (64 * j + length x) l) p y (omega arith), take_set (64 * j) l p y, d) refl

pub store_behind : (j : ℕ) (x l : List Float) (p : ℕ) (y : Float) → 64 * j ≤ length l → 64 * j + length x ≤ p → set (write j x l) p y ≡ write j x (set l p y)
unfolding write
store_behind j x l p y h k =
    let i : ℕ = p - 64 * j - length x in
    let m : length (take (64 * j) l) ≡ 64 * j = length-take-le (64 * j) l h in
    let q : 64 * j + length x + i ≡ p = omega arith in
    let t : take (64 * j) (set l p y) ≡ take (64 * j) l = take-set-le (64 * j) l p y (omega arith) in
    let d : drop (64 * j + length x) (set l p y) ≡ set (drop (64 * j + length x) l) i y = rw q at (drop-set-add (64 * j + length x) l i y) in
    let s : set (x ++ drop (64 * j + length x) l) (p - 64 * j) y ≡ x ++ set (drop (64 * j + length x) l) i y = set-append_right x (drop (64 * j + length x) l) (length x) (p - 64 * j) y refl (omega arith) in
    rw (set-append_right (take (64 * j) l) (x ++ drop (64 * j + length x) l) (64 * j) p y m (omega arith), t, d, s) refl

-- ---- formulas of places

-- one place more of each gives one place more
zip_more : (h : Float → Float → Float) (a b : List Float) (x y : Float) → length a ≡ length b → zip_with h (a ++ (x ∷ [])) (b ++ (y ∷ [])) ≡ zip_with h a b ++ (h x y ∷ [])
unfolding zip_with
zip_more h [] [] x y e = refl
zip_more h [] (d ∷ b) x y e = absurd (omega arith)
zip_more h (c ∷ a) [] x y e = absurd (omega arith)
zip_more h (c ∷ a) (d ∷ b) x y e = ap (λ (t : List Float). h c d ∷ t) (zip_more h a b x y (omega arith))

zip_length : (h : Float → Float → Float) (a b : List Float) → length a ≡ length b → length (zip_with h a b) ≡ length a
unfolding zip_with
zip_length h [] [] e = refl
zip_length h [] (d ∷ b) e = absurd (omega arith)
zip_length h (c ∷ a) [] e = absurd (omega arith)
zip_length h (c ∷ a) (d ∷ b) e = ap suc (zip_length h a b (omega arith))

map_more : (h : Float → Float) (a : List Float) (x : Float) → map h (a ++ (x ∷ [])) ≡ map h a ++ (h x ∷ [])
map_more h [] x = refl
map_more h (c ∷ a) x = ap (λ (t : List Float). h c ∷ t) (map_more h a x)

module _ (f : Format) where
  -- a - b
  pub minus_none : minus f [] [] ≡ []
  unfolding minus zip_with
  minus_none = refl

  pub minus_more : (a b : List Float) (x y : Float) → length a ≡ length b → minus f (a ++ (x ∷ [])) (b ++ (y ∷ [])) ≡ minus f a b ++ (sub f x y ∷ [])
  unfolding minus
  minus_more = zip_more (sub f)

  pub length_minus : (a b : List Float) → length a ≡ length b → length (minus f a b) ≡ length a
  unfolding minus
  length_minus = zip_length (sub f)

  -- a - γ × b
  pub less_times_none : (γ : Float) → less_times f γ [] [] ≡ []
  unfolding less_times zip_with
  less_times_none γ = refl

  pub less_times_more : (γ : Float) (a b : List Float) (x y : Float) → length a ≡ length b → less_times f γ (a ++ (x ∷ [])) (b ++ (y ∷ [])) ≡ less_times f γ a b ++ (sub f x (mul f γ y) ∷ [])
  unfolding less_times
  less_times_more γ = zip_more (λ x y. sub f x (mul f γ y))

  pub length_less_times : (γ : Float) (a b : List Float) → length a ≡ length b → length (less_times f γ a b) ≡ length a
  unfolding less_times
  length_less_times γ = zip_length (λ x y. sub f x (mul f γ y))

  -- a + γ × b
  pub plus_times_none : (γ : Float) → plus_times f γ [] [] ≡ []
  unfolding plus_times zip_with
  plus_times_none γ = refl

  pub plus_times_more : (γ : Float) (a b : List Float) (x y : Float) → length a ≡ length b → plus_times f γ (a ++ (x ∷ [])) (b ++ (y ∷ [])) ≡ plus_times f γ a b ++ (add f x (mul f γ y) ∷ [])
  unfolding plus_times
  plus_times_more γ = zip_more (λ x y. add f x (mul f γ y))

  pub length_plus_times : (γ : Float) (a b : List Float) → length a ≡ length b → length (plus_times f γ a b) ≡ length a
  unfolding plus_times
  length_plus_times γ = zip_length (λ x y. add f x (mul f γ y))

  -- a + b / c
  pub plus_over_none : (c : Float) → plus_over f c [] [] ≡ []
  unfolding plus_over zip_with
  plus_over_none c = refl

  pub plus_over_more : (c : Float) (a b : List Float) (x y : Float) → length a ≡ length b → plus_over f c (a ++ (x ∷ [])) (b ++ (y ∷ [])) ≡ plus_over f c a b ++ (add f x (div f y c) ∷ [])
  unfolding plus_over
  plus_over_more c = zip_more (λ x y. add f x (div f y c))

  pub length_plus_over : (c : Float) (a b : List Float) → length a ≡ length b → length (plus_over f c a b) ≡ length a
  unfolding plus_over
  length_plus_over c = zip_length (λ x y. add f x (div f y c))

  -- the shifts of a vector
  pub shifts_none : shifts f [] ≡ []
  unfolding shifts
  shifts_none = refl

  pub shifts_more : (a : List Float) (x : Float) → shifts f (a ++ (x ∷ [])) ≡ shifts f a ++ (shift f x ∷ [])
  unfolding shifts
  shifts_more = map_more (shift f)

  pub length_shifts : (a : List Float) → length (shifts f a) ≡ length a
  unfolding shifts
  length_shifts a = length-map a (shift f)

  -- a vector with its shifts added
  pub shifted_none : shifted f [] ≡ []
  unfolding shifted shifts plus zip_with
  shifted_none = refl

  pub shifted_more : (a : List Float) (x : Float) → shifted f (a ++ (x ∷ [])) ≡ shifted f a ++ (add f x (shift f x) ∷ [])
  unfolding shifted plus
  shifted_more a x = rw (shifts_more a x) (zip_more (add f) a (shifts f a) x (shift f x) (sym (length_shifts a)))

  pub length_shifted : (a : List Float) → length (shifted f a) ≡ length a
  unfolding shifted plus
  length_shifted a = zip_length (add f) a (shifts f a) (sym (length_shifts a))

  -- ---- sums: of no place they are the code's 0.0

  squares_from_more : (s : Float) (a : List Float) (x : Float) → squares_from f s (a ++ (x ∷ [])) ≡ add f (squares_from f s a) (mul f x x)
  unfolding squares_from
  squares_from_more s [] x = refl
  squares_from_more s (c ∷ a) x = squares_from_more (add f s (mul f c c)) a x

  pub squares_none : squares f [] ≡ of_bits f 0
  unfolding squares squares_from
  squares_none = sym (zero_bits f)

  pub squares_more : (a : List Float) (x : Float) → squares f (a ++ (x ∷ [])) ≡ add f (squares f a) (mul f x x)
  unfolding squares
  squares_more = squares_from_more null

  products_more : (s : Float) (a b : List Float) (x y : Float) → length a ≡ length b → products_from f s (a ++ (x ∷ [])) (b ++ (y ∷ [])) ≡ add f (products_from f s a b) (mul f x y)
  unfolding products_from
  products_more s [] [] x y e = refl
  products_more s [] (d ∷ b) x y e = absurd (omega arith)
  products_more s (c ∷ a) [] x y e = absurd (omega arith)
  products_more s (c ∷ a) (d ∷ b) x y e = products_more (add f s (mul f c d)) a b x y (omega arith)

  pub dot_none : dot f [] [] ≡ of_bits f 0
  unfolding dot products_from
  dot_none = sym (zero_bits f)

  pub dot_more : (a b : List Float) (x y : Float) → length a ≡ length b → dot f (a ++ (x ∷ [])) (b ++ (y ∷ [])) ≡ add f (dot f a b) (mul f x y)
  unfolding dot
  dot_more = products_more null

  -- a norm is the root of the squares
  pub norm_root : (v : List Float) → norm f v ≡ root f (squares f v)
  unfolding norm
  norm_root v = refl

-- ---- tests

pub finite_none : all_finite [] ≡ true
unfolding all_finite
finite_none = refl

pub finite_more : (a : List Float) (x : Float) → all_finite (a ++ (x ∷ [])) ≡ (all_finite a && finite x)
unfolding all_finite
finite_more [] x = last (finite x)
  where
    last : (b : Bool) → (b && true) ≡ b
    last true = refl
    last false = refl
finite_more (c ∷ a) x = ap (λ (b : Bool). finite c && b) (finite_more a x) ∙ both (finite c) (all_finite a) (finite x)
  where
    both : (a b c : Bool) → (a && (b && c)) ≡ (a && b && c)
    both true b c = refl
    both false b c = refl

-- ---- a slice, which is copied

pub take_none : (l : List Float) → take 0 l ≡ []
take_none l = refl

pub take_next : (i : ℕ) (l : List Float) → i < length l → take (i + 1) l ≡ take i l ++ (get_or l i nan ∷ [])
take_next i l h = take_more l i nan h

pub length_taken : (i : ℕ) (l : List Float) → i ≤ length l → length (take i l) ≡ i
length_taken i l h = length-take-le i l h

pub taken : (i : ℕ) (l : List Float) → i ≡ length l → take i l ≡ l
taken i l e = take_all i l (omega arith)

pub take_stored : (i : ℕ) (l : List Float) (y : Float) → i < length l → take (i + 1) (set l i y) ≡ take i l ++ (y ∷ [])
take_stored i l y h = take_more_set l i y h

pub replicate_none : (x : Float) → replicate 0 x ≡ []
replicate_none x = refl

pub length_replicate : (n : ℕ) (x : Float) → length (replicate n x) ≡ n
length_replicate n x = length-replicate n x

-- what closes a loop
pub ruleset loops = (take_none, take_next, length_taken, taken, take_stored, replicate_none, replicate_next, length_replicate, zero_bits, vector_none, vector_more, length_vector, write_none, write_more, length_write, store_ahead, store_behind, place_ahead, place_behind, minus_none, minus_more, length_minus, less_times_none, less_times_more, length_less_times, plus_times_none, plus_times_more, length_plus_times, plus_over_none, plus_over_more, length_plus_over, shifts_none, shifts_more, length_shifts, shifted_none, shifted_more, length_shifted, squares_none, squares_more, dot_none, dot_more, norm_root, finite_none, finite_more)

-- what a handler needs of its leaves whose board has vectors of its own
pub ruleset writes = (vector_written, vector_kept, beyond_kept, length_write, length_vector, length_plus_over, length_minus, length_plus_times)

-- A vector copied from its last place on. Assumes nothing.
use Rattle.std.proofs.Common.{◌≡◌, refl, ap, ◌∙◌, ℕ, suc, ◌+◌, ◌*◌, ◌-◌, ◌<◌, ◌≤◌, List, [], ◌∷◌, ◌++◌, length, take, drop, set, get_or, Float, arith, append_assoc, length-drop, length-take-le, take-append-drop, drop-cons, get_or-drop, add-zero, add-one}
use Rattle.std.proofs.lemmas.List.{get_or-append_right, set_at, take_more, drop_all}
use Rattle.std.specs.Float.{nan}
use Rattle.board.specs.Board.{vector, write}
use Rattle.board.proofs.Writes.{length_vector, get_or_vector}

-- the board l once the places of vector `to` from i on, of n, are those of vector `from`
unfoldable pub down : ℕ → ℕ → ℕ → ℕ → List Float → List Float
down to from n i l = take (64 * to + i) l ++ (drop i (vector from n l) ++ drop (64 * to + n) l)

module _ (to from n : ℕ) (l : List Float) (apart : to < from) (size : n ≤ 64) (room : 64 * from + 64 ≤ length l) where
  pub down_none : down to from n n l ≡ l
  unfolding down
  down_none = rw (drop_all n (vector from n l) (omega (arith, length_vector from n l))) (take-append-drop (64 * to + n) l)

  pub down_all : down to from n 0 l ≡ write to (vector from n l) l
  unfolding down write
  down_all = rw (add-zero (64 * to), length_vector from n l) refl

  pub down_read : (i j : ℕ) → i ≤ n → j < n → get_or (down to from n i l) (64 * from + j) nan ≡ get_or l (64 * from + j) nan
  unfolding down
  down_read i j h k =
      let p : ℕ = 64 * from + j in
      let a : List Float = take (64 * to + i) l in
      let b : List Float = drop i (vector from n l) in
      let s : length b ≡ n - i = length-drop i (vector from n l) ∙ ap (λ (m : ℕ). m - i) (length_vector from n l) in
      get_or-append_right a (b ++ drop (64 * to + n) l) (64 * to + i) p nan (length-take-le (64 * to + i) l (omega (arith, apart, room, size, h))) (omega (arith, apart, size, h))
      ∙ get_or-append_right b (drop (64 * to + n) l) (n - i) (p - (64 * to + i)) nan s (omega (arith, apart, size, h))
      ∙ get_or-drop (64 * to + n) l (p - (64 * to + i) - (n - i)) nan
      ∙ ap (λ (q : ℕ). get_or l q nan) (omega (arith, apart, size, h))

  pub down_more : (i : ℕ) → i < n → set (down to from n (i + 1) l) (64 * to + i) (get_or l (64 * from + i) nan) ≡ down to from n i l
  unfolding down
  down_more i h =
      let v : List Float = vector from n l in
      let y : Float = get_or l (64 * from + i) nan in
      let r : List Float = drop (i + 1) v ++ drop (64 * to + n) l in
      let a : Float = get_or l (64 * to + i) nan in
      let t : take (64 * to + (i + 1)) l ≡ take (64 * to + i) l ++ (a ∷ []) = rw (← add_one) (take_more l (64 * to + i) nan (omega (arith, apart, room, size, h))) in
      let m : length (take (64 * to + i) l) ≡ 64 * to + i = length-take-le (64 * to + i) l (omega (arith, apart, room, size, h)) in
      let d : drop i v ≡ y ∷ drop (i + 1) v = first in
      rw (t, append_assoc (take (64 * to + i) l) (a ∷ []) r, d) (set_at (take (64 * to + i) l) a r y (64 * to + i) m)
    where
      add_one : 64 * to + i + 1 ≡ 64 * to + (i + 1)
      add_one = omega arith

      first : drop i (vector from n l) ≡ get_or l (64 * from + i) nan ∷ drop (i + 1) (vector from n l)
      first =
          rw (add-one i)
          (drop-cons (vector from n l) i nan (omega (arith, length_vector from n l, h)) ∙ ap (λ (z : Float). z ∷ drop (suc i) (vector from n l)) (get_or_vector from n l i h))

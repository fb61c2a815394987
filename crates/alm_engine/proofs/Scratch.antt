-- The candidate's places as the loop's scratch: what a write of any length leaves of that vector and of the other places. Assumes nothing.
use Rattle.std.proofs.Common.{◌≡◌, refl, sym, ap, ◌∙◌, ℕ, zero, suc, ◌+◌, ◌-◌, ◌≤◌, List, [], ◌∷◌, ◌++◌, length, take, drop, Float, arith, length-drop, length-take-le, drop-drop, drop_at, take_at}
use Rattle.std.proofs.lemmas.List.{take-append-drop}
use Rattle.board.specs.Firsts.{firsts}
use Rattle.board.specs.Board.{vector, write, beyond, PLUS}
use Rattle.machine.specs.LoopRun.{written}

-- ---- what is written over the first places of a list
over : (v l : List Float) → length v ≤ length l → v ++ drop (length v) l ≡ written v l
unfolding written
over [] l h = refl
over (x ∷ v) [] h = absurd (omega arith)
over (x ∷ v) (y ∷ l) h = ap (λ (t : List Float). x ∷ t) (over v l (omega arith))

firsts_written : (v l : List Float) (n : ℕ) → length v ≤ length l → firsts n (written v l) ≡ written v (firsts n l)
unfolding written firsts
firsts_written [] l n h = refl
firsts_written (x ∷ v) [] n h = absurd (omega arith)
firsts_written (x ∷ v) (y ∷ l) zero h = refl
firsts_written (x ∷ v) (y ∷ l) (suc n) h = ap (λ (t : List Float). x ∷ t) (firsts_written v l n (omega arith))

drop_written : (v l : List Float) (n : ℕ) → length v ≤ length l → drop n (written v l) ≡ written (drop n v) (drop n l)
unfolding written
drop_written v l zero h = refl
drop_written [] l (suc n) h = refl
drop_written (x ∷ v) [] (suc n) h = absurd (omega arith)
drop_written (x ∷ v) (y ∷ l) (suc n) h = drop_written v l n (omega arith)

written_front : (v l m : List Float) → length v ≤ length l → written v (l ++ m) ≡ written v l ++ m
unfolding written
written_front [] l m h = refl
written_front (x ∷ v) [] m h = absurd (omega arith)
written_front (x ∷ v) (y ∷ l) m h = ap (λ (t : List Float). x ∷ t) (written_front v l m (omega arith))

length_written : (v l : List Float) → length (written v l) ≡ length l
unfolding written
length_written [] l = refl
length_written (x ∷ v) [] = refl
length_written (x ∷ v) (y ∷ l) = ap suc (length_written v l)

module _ (v l : List Float) (w : length v ≤ 64) (b : 128 ≤ length l) where
  -- the board from the candidate on, and ahead of it
  from_plus : drop 64 (write PLUS v l) ≡ written v (drop 64 l)
  unfolding write
  from_plus =
      let e = length-drop 64 l in
      drop_at (take 64 l) (v ++ drop (64 + length v) l) 64 (length-take-le 64 l (omega arith))
      ∙ ap (λ (t : List Float). v ++ t) (ap (λ (k : ℕ). drop k l) (omega arith) ∙ sym (drop-drop (length v) 64 l))
      ∙ over v (drop 64 l) (omega arith)

  before_plus : take 64 (write PLUS v l) ≡ take 64 l
  unfolding write
  before_plus = take_at (take 64 l) (v ++ drop (64 + length v) l) 64 (length-take-le 64 l (omega arith))

  pub plus_scratched : (n : ℕ) → vector PLUS n (write PLUS v l) ≡ written v (vector PLUS n l)
  unfolding vector
  plus_scratched n = let e = length-drop 64 l in rw from_plus (firsts_written v (drop 64 l) n (omega arith))

  -- the candidate's 64 places, and those behind them
  parts : written v (drop 64 l) ≡ written v (take 64 (drop 64 l)) ++ drop 64 (drop 64 l)
  parts =
      let e = length-drop 64 l in
      let k = length-take-le 64 (drop 64 l) (omega arith) in
      ap (written v) (sym (take-append-drop 64 (drop 64 l))) ∙ written_front v (take 64 (drop 64 l)) (drop 64 (drop 64 l)) (omega arith)

  plus_length : length (written v (take 64 (drop 64 l))) ≡ 64
  plus_length =
      let e = length-drop 64 l in
      length_written v (take 64 (drop 64 l)) ∙ length-take-le 64 (drop 64 l) (omega arith)

  pub beyond_scratched : (n : ℕ) (ns : List ℕ) → n ≤ 64
      → beyond (n ∷ n ∷ ns) (write PLUS v l) ≡ take (64 - n) (beyond (n ∷ n ∷ ns) l) ++ written (drop n v) (drop (64 - n) (beyond (n ∷ n ∷ ns) l))
  unfolding beyond
  beyond_scratched n ns h =
      let e = length-drop 64 l in
      let m : length (drop n (take 64 l)) ≡ 64 - n = length-drop n (take 64 l) ∙ ap (λ (k : ℕ). k - n) (length-take-le 64 l (omega arith)) in
      let c = length-take-le 64 (drop 64 l) (omega arith) in
      let d : length (drop n v) ≤ length (drop n (take 64 (drop 64 l))) = simp length-drop (omega arith) in
      let rest = beyond ns (drop 64 (drop 64 l)) in
      rw (before_plus, from_plus, parts, take_at (written v (take 64 (drop 64 l))) (drop 64 (drop 64 l)) 64 plus_length, drop_at (written v (take 64 (drop 64 l))) (drop 64 (drop 64 l)) 64 plus_length)
      (rw (take_at (drop n (take 64 l)) (drop n (take 64 (drop 64 l)) ++ rest) (64 - n) m, drop_at (drop n (take 64 l)) (drop n (take 64 (drop 64 l)) ++ rest) (64 - n) m)
      (ap (λ (t : List Float). drop n (take 64 l) ++ t)
      (ap (λ (t : List Float). t ++ rest) (drop_written v (take 64 (drop 64 l)) n (omega arith)) ∙ sym (written_front (drop n v) (drop n (take 64 (drop 64 l))) rest d))))

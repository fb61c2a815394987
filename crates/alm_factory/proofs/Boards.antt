-- What a write of a vector's numbers leaves of the run that a board stands for: that vector is replaced, and nothing else. Assumes nothing.
use Rattle.std.proofs.Common.{◌≡◌, refl, sym, ap, ◌∙◌, ℕ, zero, suc, ◌+◌, ◌*◌, ◌-◌, ◌<◌, ◌≤◌, Bool, true, false, cond, eqb, eqb-true, List, [], ◌∷◌, ◌++◌, length, get_or, take, drop, replicate, Float, arith, append_assoc, length-append, length-drop, drop-drop, take-append-drop, not-suc-le-zero, le_of_suc-le-suc}
use Rattle.std.proofs.lemmas.List.{drop-take, drop-replicate, take-replicate, length-replicate}
use Rattle.ieee.specs.Numbers.{null}
use Rattle.std.proofs.lemmas.Bool.{eqb-false}
use Rattle.std.specs.Float.{nan, binary64}
use Rattle.board.specs.Firsts.{firsts}
use Rattle.board.specs.Board.{vector, write, beyond}
use Rattle.board.proofs.Writes.{length_firsts, length_vector, vector_written, vector_kept, beyond_kept}
use Rattle.machine.specs.PsiRun.{overlay, with_t, copied}
use Rattle.machine.specs.PsiMoves.{with_gradient, with_d}
use Rattle.alm_factory.specs.declared.records.Psi.{Psi}
use Rattle.alm_factory.specs.declared.records.DPsi.{DPsi}
use Rattle.alm_factory.specs.Runs.{U, Y, T, WORK, GRADIENT, D_T, D, D_WORK, blank, psi_places, d_psi_places, psi_run, d_psi_run, Stands}

-- ---- a write of fewer than 64 places is one of all 64

firsts_take : (n : ℕ) (l : List Float) → n ≤ length l → firsts n l ≡ take n l
unfolding firsts
firsts_take zero l h = refl
firsts_take (suc n) [] h = absurd (not-suc-le-zero h)
firsts_take (suc n) (x ∷ l) h = ap (λ (t : List Float). x ∷ t) (firsts_take n l (le_of_suc-le-suc h))

length_overlay : (x w : List Float) → length x ≤ length w → length (overlay x w) ≡ length w
length_overlay x w h = omega (arith, length-append x (drop (length x) w), length-drop (length x) w)

write_whole : (j : ℕ) (x l : List Float) → length x ≤ 64 → 64 * j + 64 ≤ length l → write j x l ≡ write j (overlay x (vector j 64 l)) l
unfolding write vector
write_whole j x l h b =
    let q : List Float = drop (64 * j + length x) l in
    let k : ℕ = 64 - length x in
    let n : length x + k ≡ 64 = omega arith in
    let f : firsts 64 (drop (64 * j) l) ≡ take (length x + k) (drop (64 * j) l) =
    firsts_take 64 (drop (64 * j) l) (simp length-drop (omega arith)) ∙ ap (λ (i : ℕ). take i (drop (64 * j) l)) (sym n) in
    let d : drop (length x) (firsts 64 (drop (64 * j) l)) ≡ take k q =
    ap (drop (length x)) f ∙ drop-take (length x) k (drop (64 * j) l) ∙ ap (take k) (drop-drop (length x) (64 * j) l) in
    let o : length (overlay x (firsts 64 (drop (64 * j) l))) ≡ 64 =
    length_overlay x (firsts 64 (drop (64 * j) l)) (omega (arith, length_firsts 64 (drop (64 * j) l))) ∙ length_firsts 64 (drop (64 * j) l) in
    let r : drop (64 * j + length (overlay x (firsts 64 (drop (64 * j) l)))) l ≡ drop k q =
    let i : 64 * j + length (overlay x (firsts 64 (drop (64 * j) l))) ≡ 64 * j + length x + k = omega arith in
    ap (λ (i : ℕ). drop i l) i ∙ sym (drop-drop k (64 * j + length x) l) in
    ap (λ (t : List Float). take (64 * j) l ++ t) (
    ap (λ (t : List Float). x ++ t) (sym (take-append-drop k q))
    ∙ sym (append_assoc x (take k q) (drop k q))
    ∙ ap (λ (t : List Float). x ++ t ++ drop k q) (sym d)
    ∙ ap (λ (t : List Float). overlay x (firsts 64 (drop (64 * j) l)) ++ t) (sym r)
    )

overlaid : (j : ℕ) (x l : List Float) → length x ≤ 64 → length (overlay x (vector j 64 l)) ≡ 64
overlaid j x l e = length_overlay x (vector j 64 l) (omega (arith, length_vector j 64 l)) ∙ length_vector j 64 l

-- the first places of a vector are those of fewer places
fewer : (n m : ℕ) (l : List Float) → n ≤ m → take n (firsts m l) ≡ firsts n l
unfolding firsts
fewer zero m l h = refl
fewer (suc n) zero l h = absurd (not-suc-le-zero h)
fewer (suc n) (suc m) [] h = ap (λ (t : List Float). nan ∷ t) (fewer n m [] (le_of_suc-le-suc h))
fewer (suc n) (suc m) (x ∷ l) h = ap (λ (t : List Float). x ∷ t) (fewer n m l (le_of_suc-le-suc h))

pub take_vector : (j n : ℕ) (l : List Float) → n ≤ 64 → take n (vector j 64 l) ≡ vector j n l
unfolding vector
take_vector j n l h = fewer n 64 (drop (64 * j) l) h

-- a vector of a board of zeros
pub zero_vector : (j n m : ℕ) → 64 * j + n ≤ m → vector j n (blank m) ≡ replicate n null
unfolding vector blank
zero_vector j n m h =
    ap (firsts n) (drop-replicate (64 * j) m null)
    ∙ firsts_take n (replicate (m - 64 * j) null) (omega (arith, length-replicate (m - 64 * j) null))
    ∙ take-replicate n (m - 64 * j) null (omega arith)

pub length_blank : (k : ℕ) → length (blank k) ≡ k
unfolding blank
length_blank k = length-replicate k null

-- each of ns is at most 64
record Small (ns : List ℕ) : Type 0 where
  below : (k : ℕ) → get_or ns k 0 ≤ 64

none : Small []
none = record { below = by }
  where
    by : (k : ℕ) → get_or [] k 0 ≤ 64
    by zero = omega arith
    by (suc k) = omega arith

also : {n : ℕ} {ns : List ℕ} → n ≤ 64 → Small ns → Small (n ∷ ns)
also {n} {ns} h t = record { below = by }
  where
    by : (k : ℕ) → get_or (n ∷ ns) k 0 ≤ 64
    by zero = h
    by (suc k) = t.below k

-- ---- a write of vector j of a board whose vectors have ns places: it is x, and every other is as it was
module _ (ns : List ℕ) (small : Small ns) (l : List Float) (b : 64 * length ns ≤ length l) (j : ℕ) (i : j < length ns) (x : List Float) (e : length x ≡ get_or ns j 0) where
  one : (k : ℕ) → vector k (get_or ns k 0) (write j x l) ≡ cond (eqb k j) x (vector k (get_or ns k 0) l)
  one k = by (eqb k j) refl
    where
      by : (t : Bool) → eqb k j ≡ t → vector k (get_or ns k 0) (write j x l) ≡ cond (eqb k j) x (vector k (get_or ns k 0) l)
      by true c = rw c (ap (λ (i : ℕ). vector i (get_or ns i 0) (write j x l)) (eqb-true k j c) ∙ vector_written j (get_or ns j 0) x l e (omega arith))
      by false c = rw c (vector_kept k j (get_or ns k 0) x l (eqb-false k j c) (small.below k) (omega (arith, small.below j)) (omega arith))

  rest : beyond ns (write j x l) ≡ beyond ns l
  rest = beyond_kept ns j x l i e (omega (arith, small.below j)) (omega arith)

-- ---- psi
module _ (s : Psi) (l : List Float) (h : Stands 256 s.sizes l) where
  psi_small : Small (psi_places s.sizes)
  psi_small =
      let m : s.sizes.n1 ≤ 64 = omega (arith, h.n1) in
      also h.n (also m (also m (also (omega arith) none)))

  module _ (j : ℕ) (i : j < 4) (x : List Float) (e : length x ≡ get_or (psi_places s.sizes) j 0) where
    psi_written : (k : ℕ) → vector k (get_or (psi_places s.sizes) k 0) (write j x l) ≡ cond (eqb k j) x (vector k (get_or (psi_places s.sizes) k 0) l)
    psi_written = one (psi_places s.sizes) psi_small l (omega (arith, h.places)) j i x e

    psi_rest : beyond (psi_places s.sizes) (write j x l) ≡ beyond (psi_places s.sizes) l
    psi_rest = rest (psi_places s.sizes) psi_small l (omega (arith, h.places)) j i x e

  pub write_u : (x : List Float) → length x ≡ s.sizes.n → psi_run s (write U x l) ≡ record (psi_run s l) { u = x }
  unfolding psi_run
  write_u x e =
      let o = psi_written U (omega arith) x e in
      rw (o U, o Y, o T, o WORK, psi_rest U (omega arith) x e) refl

  pub write_y : (x : List Float) → length x ≡ s.sizes.n1 → psi_run s (write Y x l) ≡ record (psi_run s l) { y = x }
  unfolding psi_run
  write_y x e =
      let o = psi_written Y (omega arith) x e in
      rw (o U, o Y, o T, o WORK, psi_rest Y (omega arith) x e) refl

  pub write_t : (x : List Float) → length x ≡ s.sizes.n1 → psi_run s (write T x l) ≡ with_t x (psi_run s l)
  unfolding psi_run
  write_t x e =
      let o = psi_written T (omega arith) x e in
      rw (o U, o Y, o T, o WORK, psi_rest T (omega arith) x e) refl

  pub write_work : (x : List Float) → length x ≤ 64 → psi_run s (write WORK x l) ≡ copied x (psi_run s l)
  unfolding psi_run
  write_work x e =
      let p = h.places in
      let w = overlaid WORK x l e in
      let o = psi_written WORK (omega arith) (overlay x (vector WORK 64 l)) w in
      ap (λ (k : List Float). psi_run s k) (write_whole WORK x l e (omega arith))
      ∙ rw (o U, o Y, o T, o WORK, psi_rest WORK (omega arith) (overlay x (vector WORK 64 l)) w) refl

-- ---- d_psi

-- t has its n1 places, as a whole answer's law asks of it
pub length_t : (s : DPsi) (l : List Float) → length (d_psi_run s l).t ≡ (d_psi_run s l).sizes.n1
unfolding d_psi_run
length_t s l = length_vector D_T s.sizes.n1 l

module _ (s : DPsi) (l : List Float) (h : Stands 384 s.sizes l) where
  d_psi_small : Small (d_psi_places s.sizes)
  d_psi_small =
      let m : s.sizes.n1 ≤ 64 = omega (arith, h.n1) in
      also h.n (also m (also h.n (also m (also (omega arith) (also (omega arith) none)))))

  module _ (j : ℕ) (i : j < 6) (x : List Float) (e : length x ≡ get_or (d_psi_places s.sizes) j 0) where
    d_psi_written : (k : ℕ) → vector k (get_or (d_psi_places s.sizes) k 0) (write j x l) ≡ cond (eqb k j) x (vector k (get_or (d_psi_places s.sizes) k 0) l)
    d_psi_written = one (d_psi_places s.sizes) d_psi_small l (omega (arith, h.places)) j i x e

    d_psi_rest : beyond (d_psi_places s.sizes) (write j x l) ≡ beyond (d_psi_places s.sizes) l
    d_psi_rest = rest (d_psi_places s.sizes) d_psi_small l (omega (arith, h.places)) j i x e

  pub write_d_u : (x : List Float) → length x ≡ s.sizes.n → d_psi_run s (write U x l) ≡ record (d_psi_run s l) { u = x }
  unfolding d_psi_run
  write_d_u x e =
      let o = d_psi_written U (omega arith) x e in
      rw (o U, o Y, o GRADIENT, o D_T, o D, o D_WORK, d_psi_rest U (omega arith) x e) refl

  pub write_d_y : (x : List Float) → length x ≡ s.sizes.n1 → d_psi_run s (write Y x l) ≡ record (d_psi_run s l) { y = x }
  unfolding d_psi_run
  write_d_y x e =
      let o = d_psi_written Y (omega arith) x e in
      rw (o U, o Y, o GRADIENT, o D_T, o D, o D_WORK, d_psi_rest Y (omega arith) x e) refl

  pub write_gradient : (x : List Float) → length x ≡ s.sizes.n → d_psi_run s (write GRADIENT x l) ≡ with_gradient binary64 x (d_psi_run s l)
  unfolding d_psi_run
  write_gradient x e =
      let o = d_psi_written GRADIENT (omega arith) x e in
      rw (o U, o Y, o GRADIENT, o D_T, o D, o D_WORK, d_psi_rest GRADIENT (omega arith) x e) refl

  pub write_d_t : (x : List Float) → length x ≡ s.sizes.n1 → d_psi_run s (write D_T x l) ≡ with_t x (d_psi_run s l)
  unfolding d_psi_run
  write_d_t x e =
      let o = d_psi_written D_T (omega arith) x e in
      rw (o U, o Y, o GRADIENT, o D_T, o D, o D_WORK, d_psi_rest D_T (omega arith) x e) refl

  module _ (x : List Float) (e : length x ≤ 64) where
    pub write_d : d_psi_run s (write D x l) ≡ with_d binary64 x (d_psi_run s l)
    unfolding d_psi_run
    write_d =
        let p = h.places in
        let w = overlaid D x l e in
        let o = d_psi_written D (omega arith) (overlay x (vector D 64 l)) w in
        ap (λ (k : List Float). d_psi_run s k) (write_whole D x l e (omega arith))
        ∙ rw (o U, o Y, o GRADIENT, o D_T, o D, o D_WORK, d_psi_rest D (omega arith) (overlay x (vector D 64 l)) w) refl

    pub write_d_work : d_psi_run s (write D_WORK x l) ≡ copied x (d_psi_run s l)
    unfolding d_psi_run
    write_d_work =
        let p = h.places in
        let w = overlaid D_WORK x l e in
        let o = d_psi_written D_WORK (omega arith) (overlay x (vector D_WORK 64 l)) w in
        ap (λ (k : List Float). d_psi_run s k) (write_whole D_WORK x l e (omega arith))
        ∙ rw (o U, o Y, o GRADIENT, o D_T, o D, o D_WORK, d_psi_rest D_WORK (omega arith) (overlay x (vector D_WORK 64 l)) w) refl

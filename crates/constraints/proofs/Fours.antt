-- Laws for four places at a time: what the lanes of a vector give is what the places give. Assumes nothing.
use Rattle.std.specs.Prelude.{◌≡◌, refl, ℕ, zero, suc, ◌+◌, ◌-◌, ◌%◌, ◌^◌, ◌≤◌, Bool, true, false, ◌&&◌, cond, eqb, length, take, drop, Float}
use Rattle.std.proofs.Common.{sym, ap, ◌∙◌, arith, take-append-drop, drop-drop}
use Rattle.std.proofs.lemmas.List.{take_all, drop_all, length-take-le, length-drop, take_at, drop_at, take_rest, append-nil}
use Rattle.std.proofs.lemmas.Simd.{tops_compared}
use borrow.Rule.Slice.PartMut.{put_mid}
use lib.Lanes.{zip2, sel_l, mask_l, put_chunk, top}
use mir.Syntax.{w64}
use mathlib.Core.List.{List, [], ◌∷◌, ◌++◌, map}
use Rattle.std.specs.Float.{binary64}
use Rattle.std.specs.Float.Ieee.{lt, le, of_bits}
use Rattle.constraints.specs.Box.{clamped, rectangle, bounds_right, rectangle_right}
use Rattle.constraints.proofs.Turns.{bounds_by_bits, length_rectangle}
use Rattle.constraints.proofs.Tables.{stretch_turn}

-- ---- the lanes

picked : (l u v : List Float) → length l ≡ length v → length u ≡ length v → sel_l (zip2 lt v l) l (sel_l (zip2 lt u v) u v) ≡ rectangle l u v
unfolding rectangle clamped
picked [] u [] p q = refl
picked [] u (x ∷ v) p q = absurd (omega arith)
picked (a ∷ l) [] v p q = absurd (omega arith)
picked (a ∷ l) (b ∷ u) [] p q = absurd (omega arith)
picked (a ∷ l) (b ∷ u) (x ∷ v) p q = ap (λ (t : List Float). cond (lt x a) a (cond (lt b x) b x) ∷ t) (picked l u v (omega arith) (omega arith))

put_all : (v r : List Float) → length r ≡ length v → put_chunk 0 v r ≡ r
put_all [] [] e = refl
put_all [] (y ∷ r) e = absurd (omega arith)
put_all (x ∷ v) [] e = absurd (omega arith)
put_all (x ∷ v) (y ∷ r) e = ap (λ (t : List Float). y ∷ t) (put_all v r (omega arith))

abbrev mask : (Float → Float → Bool) → List Float → List Float → List Bool
mask t xs ys = map (top 63) (zip2 (λ a b. cond (t a b) (2 ^ 64 - 1) 0) xs ys)

pub lanes_clamp : (l u v : List Float) → length l ≡ 4 → length u ≡ 4 → length v ≡ 4
    → put_chunk 0 v (sel_l (mask lt (take 4 v) (take 4 l)) (take 4 l) (sel_l (mask lt (take 4 u) (take 4 v)) (take 4 u) (take 4 v))) ≡ rectangle l u v
lanes_clamp l u v p q r =
    let e : put_chunk 0 v (sel_l (mask lt (take 4 v) (take 4 l)) (take 4 l) (sel_l (mask lt (take 4 u) (take 4 v)) (take 4 u) (take 4 v))) ≡ put_chunk 0 v (sel_l (mask lt v l) l (sel_l (mask lt u v) u v)) =
    rw (take_all 4 l (omega arith), take_all 4 u (omega arith), take_all 4 v (omega arith)) refl in
    e ∙ ap (λ (m : List Bool). put_chunk 0 v (sel_l m l (sel_l (mask lt u v) u v))) (tops_compared w64 lt v l) ∙ ap (λ (m : List Bool). put_chunk 0 v (sel_l (zip2 lt v l) l (sel_l m u v))) (tops_compared w64 lt u v)
    ∙ ap (put_chunk 0 v) (picked l u v (p ∙ sym r) (q ∙ sym r)) ∙ put_all v (rectangle l u v) (length_rectangle l u v (p ∙ sym r) (q ∙ sym r))

all_set : (p q r s : Bool) → eqb (mask_l (p ∷ q ∷ r ∷ s ∷ []) % 2 ^ 64) 15 ≡ (p && (q && (r && (s && true))))
all_set true true true true = refl
all_set true true true false = refl
all_set true true false true = refl
all_set true true false false = refl
all_set true false true true = refl
all_set true false true false = refl
all_set true false false true = refl
all_set true false false false = refl
all_set false true true true = refl
all_set false true true false = refl
all_set false true false true = refl
all_set false true false false = refl
all_set false false true true = refl
all_set false false true false = refl
all_set false false false true = refl
all_set false false false false = refl

-- the lanes' test is that of each place
each_set : (t : Float → Float → Bool) (a b c d x y z w : Float)
    → eqb (mask_l (mask t (a ∷ b ∷ c ∷ d ∷ []) (x ∷ y ∷ z ∷ w ∷ [])) % 2 ^ 64) 15 ≡ (t a x && (t b y && (t c z && (t d w && true))))
each_set t a b c d x y z w =
    ap (λ (m : List Bool). eqb (mask_l m % 2 ^ 64) 15) (tops_compared w64 t (a ∷ b ∷ c ∷ d ∷ []) (x ∷ y ∷ z ∷ w ∷ [])) ∙ all_set (t a x) (t b y) (t c z) (t d w)

and_false : (b : Bool) → (b && false) ≡ false
and_false true = refl
and_false false = refl

-- three tests of each place, or three tests place by place
turned : (a b c A B C : Bool) → ((a && A) && (b && B) && (c && C)) ≡ (a && b && c && (A && B && C))
turned true true true A B C = refl
turned true true false A B C = and_false (A && B)
turned true false c A B C = ap (λ (t : Bool). t && (c && C)) (and_false A)
turned false b c A B C = refl

turned_four : (a b c d x y z w i j k l : Bool)
    → ((a && (b && (c && (d && true)))) && (x && (y && (z && (w && true)))) && (i && (j && (k && (l && true))))) ≡ (a && x && i && (b && y && j && (c && z && k && (d && w && l && true))))
turned_four a b c d x y z w i j k l =
    turned a x i (b && (c && (d && true))) (y && (z && (w && true))) (j && (k && (l && true)))
    ∙ ap (λ (t : Bool). a && x && i && t)
    (turned b y j (c && (d && true)) (z && (w && true)) (k && (l && true))
    ∙ ap (λ (t : Bool). b && y && j && t) (turned c z k (d && true) (w && true) (l && true) ∙ ap (λ (t : Bool). c && z && k && t) (turned d w l true true true)))

four_tests : {a b c d x y z w : Bool} → a ≡ x → b ≡ y → c ≡ z → d ≡ w → (a && (b && (c && (d && true)))) ≡ (x && (y && (z && (w && true))))
four_tests e f g h = λ i. e i && (f i && (g i && (h i && true)))

abbrev low_of : Float
low_of = of_bits binary64 0xfff0_0000_0000_0000

abbrev top_of : Float
top_of = of_bits binary64 0x7ff0_0000_0000_0000

pub lanes_in_order : (l u : List Float) → length l ≡ 4 → length u ≡ 4
    → (eqb (mask_l (mask lt (low_of ∷ low_of ∷ low_of ∷ low_of ∷ []) (take 4 l)) % 2 ^ 64) 15 && eqb (mask_l (mask le (take 4 l) (take 4 u)) % 2 ^ 64) 15
    && eqb (mask_l (mask lt (take 4 u) (top_of ∷ top_of ∷ top_of ∷ top_of ∷ [])) % 2 ^ 64) 15) ≡ rectangle_right l u
unfolding rectangle_right
lanes_in_order (a ∷ b ∷ c ∷ d ∷ []) (x ∷ y ∷ z ∷ w ∷ []) p q =
    rw (each_set lt low_of low_of low_of low_of a b c d, each_set le a b c d x y z w, each_set lt x y z w top_of top_of top_of top_of)
    (turned_four (lt low_of a) (lt low_of b) (lt low_of c) (lt low_of d) (le a x) (le b y) (le c z) (le d w) (lt x top_of) (lt y top_of) (lt z top_of) (lt w top_of)
    ∙ four_tests (bounds_by_bits a x) (bounds_by_bits b y) (bounds_by_bits c z) (bounds_by_bits d w))
lanes_in_order [] u p q = absurd (omega arith)
lanes_in_order (a ∷ []) u p q = absurd (omega arith)
lanes_in_order (a ∷ b ∷ []) u p q = absurd (omega arith)
lanes_in_order (a ∷ b ∷ c ∷ []) u p q = absurd (omega arith)
lanes_in_order (a ∷ b ∷ c ∷ d ∷ e ∷ l) u p q = absurd (omega arith)
lanes_in_order (a ∷ b ∷ c ∷ d ∷ []) [] p q = absurd (omega arith)
lanes_in_order (a ∷ b ∷ c ∷ d ∷ []) (x ∷ []) p q = absurd (omega arith)
lanes_in_order (a ∷ b ∷ c ∷ d ∷ []) (x ∷ y ∷ []) p q = absurd (omega arith)
lanes_in_order (a ∷ b ∷ c ∷ d ∷ []) (x ∷ y ∷ z ∷ []) p q = absurd (omega arith)
lanes_in_order (a ∷ b ∷ c ∷ d ∷ []) (x ∷ y ∷ z ∷ w ∷ f ∷ u) p q = absurd (omega arith)

-- ---- fours of places

rectangle_drop : (k : ℕ) (l u v : List Float) → length l ≡ length v → length u ≡ length v → drop k (rectangle l u v) ≡ rectangle (drop k l) (drop k u) (drop k v)
unfolding rectangle
rectangle_drop zero l u v p q = refl
rectangle_drop (suc k) [] u [] p q = refl
rectangle_drop (suc k) [] u (x ∷ v) p q = absurd (omega arith)
rectangle_drop (suc k) (a ∷ l) [] v p q = absurd (omega arith)
rectangle_drop (suc k) (a ∷ l) (b ∷ u) [] p q = absurd (omega arith)
rectangle_drop (suc k) (a ∷ l) (b ∷ u) (x ∷ v) p q = rectangle_drop k l u v (omega arith) (omega arith)

rectangle_take : (k : ℕ) (l u v : List Float) → take k (rectangle l u v) ≡ rectangle (take k l) (take k u) (take k v)
unfolding rectangle
rectangle_take zero l u v = refl
rectangle_take (suc k) [] u v = refl
rectangle_take (suc k) (a ∷ l) [] v = refl
rectangle_take (suc k) (a ∷ l) (b ∷ u) [] = refl
rectangle_take (suc k) (a ∷ l) (b ∷ u) (x ∷ v) = ap (λ (t : List Float). clamped a b x ∷ t) (rectangle_take k l u v)

-- a turn of `rectangle::project_fours` at the place p, on the vector w
pub fours_turn : (l u v w new : List Float) (p : ℕ) → length l ≡ length v → length u ≡ length v → w ≡ take p (rectangle l u v) ++ drop p v
    → new ≡ rectangle (take 4 (drop p l)) (take 4 (drop p u)) (take 4 (drop p w)) → p + 4 ≤ length v → take p w ++ (new ++ drop (p + 4) w) ≡ take (p + 4) (rectangle l u v) ++ drop (p + 4) v
fours_turn l u v w new p e f s g h =
    let r = rectangle l u v in
    let n : length r ≡ length v = length_rectangle l u v e f in
    let b : drop p w ≡ drop p v = ap (drop p) s ∙ drop_at (take p r) (drop p v) p (length-take-le p r (omega arith)) in
    let m : new ≡ take 4 (drop p r) =
    g ∙ ap (λ (x : List Float). rectangle (take 4 (drop p l)) (take 4 (drop p u)) (take 4 x)) b ∙ sym (rectangle_take 4 (drop p l) (drop p u) (drop p v)) ∙ ap (take 4) (sym (rectangle_drop p l u v e f)) in
    stretch_turn r v w new (drop 4 (drop p r)) p 4 h (omega arith) s (ap length m ∙ length-take-le 4 (drop p r) (omega (arith, length-drop p r))) (sym (take-append-drop 4 (drop p r)) ∙ ap (λ (x : List Float). x ++ drop 4 (drop p r)) (sym m))

-- the same, as the code's slices have it
pub fours_stored : (l u v w new : List Float) (p k q : ℕ) → length l ≡ length v → length u ≡ length v → w ≡ take p (rectangle l u v) ++ drop p v
    → new ≡ rectangle (take k (drop p l)) (take k (drop p u)) (take k (drop p w)) → k ≡ 4 → q ≡ p + 4 → p + 4 ≤ length v → put_mid p k w new ≡ take q (rectangle l u v) ++ drop q v
fours_stored l u v w new p k q e f s g a b h =
    ap (λ (j : ℕ). take p w ++ (new ++ drop j (drop p w))) a ∙ ap (λ (x : List Float). take p w ++ (new ++ x)) (drop-drop 4 p w)
    ∙ fours_turn l u v w new p e f s (g ∙ ap (λ (j : ℕ). rectangle (take j (drop p l)) (take j (drop p u)) (take j (drop p w))) a) h
    ∙ ap (λ (j : ℕ). take j (rectangle l u v) ++ drop j v) (sym b)

-- after the turns, where the places from p on get what the box gives them
pub fours_over : (l u v w rest : List Float) (p : ℕ) → length l ≡ length v → length u ≡ length v → w ≡ take p (rectangle l u v) ++ drop p v → rest ≡ rectangle (drop p l) (drop p u) (drop p w) → p ≤ length v
    → take p w ++ rest ≡ rectangle l u v
fours_over l u v w rest p e f s g h =
    let r = rectangle l u v in
    let n : length (take p r) ≡ p = length-take-le p r (omega (arith, length_rectangle l u v e f)) in
    let a : take p w ≡ take p r = ap (take p) s ∙ take_at (take p r) (drop p v) p n in
    let b : drop p w ≡ drop p v = ap (drop p) s ∙ drop_at (take p r) (drop p v) p n in
    let c : rest ≡ drop p r = g ∙ ap (rectangle (drop p l) (drop p u)) b ∙ sym (rectangle_drop p l u v e f) in
    ap (λ (x : List Float). x ++ rest) a ∙ ap (λ (x : List Float). take p r ++ x) c ∙ take-append-drop p r

-- the test of the first k places, and of the others
parts_right : (k : ℕ) (l u : List Float) → length l ≡ length u → (rectangle_right (take k l) (take k u) && rectangle_right (drop k l) (drop k u)) ≡ rectangle_right l u
unfolding rectangle_right
parts_right zero l u e = refl
parts_right (suc k) [] u e = refl
parts_right (suc k) (a ∷ l) [] e = absurd (omega arith)
parts_right (suc k) (a ∷ l) (b ∷ u) e = both (bounds_right a b) _ _ ∙ ap (λ (t : Bool). bounds_right a b && t) (parts_right k l u (omega arith))
  where
    both : (a b c : Bool) → (a && b && c) ≡ (a && (b && c))
    both true b c = refl
    both false b c = refl

-- a turn of `rectangle::is_right` at the place p: the test of four places, and of those behind them
four_right : (l u : List Float) (p : ℕ) → length l ≡ length u → (rectangle_right (take 4 (drop p l)) (take 4 (drop p u)) && rectangle_right (drop (p + 4) l) (drop (p + 4) u)) ≡ rectangle_right (drop p l) (drop p u)
four_right l u p e =
    ap (λ (t : Bool). rectangle_right (take 4 (drop p l)) (take 4 (drop p u)) && t) (sym (λ i. rectangle_right (drop-drop 4 p l i) (drop-drop 4 p u i)))
    ∙ parts_right 4 (drop p l) (drop p u) (omega (arith, length-drop p l, length-drop p u))

pub four_fails : (l u : List Float) (p : ℕ) (w : Bool) → length l ≡ length u → rectangle_right (drop p l) (drop p u) ≡ w → false ≡ rectangle_right (take 4 (drop p l)) (take 4 (drop p u)) → false ≡ w
four_fails l u p w e k g = ap (λ (t : Bool). t && rectangle_right (drop (p + 4) l) (drop (p + 4) u)) g ∙ four_right l u p e ∙ k

pub four_passes : (l u : List Float) (p : ℕ) (w : Bool) → length l ≡ length u → rectangle_right (drop p l) (drop p u) ≡ w → true ≡ rectangle_right (take 4 (drop p l)) (take 4 (drop p u)) → rectangle_right (drop (p + 4) l) (drop (p + 4) u) ≡ w
four_passes l u p w e k g = ap (λ (t : Bool). t && rectangle_right (drop (p + 4) l) (drop (p + 4) u)) g ∙ four_right l u p e ∙ k

-- the same, as the code's slices have it
pub four_fails_in : (l u : List Float) (p k : ℕ) (w : Bool) → length l ≡ length u → rectangle_right (drop p l) (drop p u) ≡ w → false ≡ rectangle_right (take k (drop p l)) (take k (drop p u)) → k ≡ 4 → false ≡ w
four_fails_in l u p k w e s g a = four_fails l u p w e s (g ∙ ap (λ (j : ℕ). rectangle_right (take j (drop p l)) (take j (drop p u))) a)

pub four_passes_in : (l u : List Float) (p k q : ℕ) (w : Bool) → length l ≡ length u → rectangle_right (drop p l) (drop p u) ≡ w → true ≡ rectangle_right (take k (drop p l)) (take k (drop p u)) → k ≡ 4 → q ≡ p + 4
    → rectangle_right (drop q l) (drop q u) ≡ w
four_passes_in l u p k q w e s g a b =
    ap (λ (j : ℕ). rectangle_right (drop j l) (drop j u)) b ∙ four_passes l u p w e s (g ∙ ap (λ (j : ℕ). rectangle_right (take j (drop p l)) (take j (drop p u))) a)

-- after the turns what is left is what the code's slices have
pub rest_right : (l u : List Float) (p q : ℕ) (w : Bool) → rectangle_right (drop q l) (drop q u) ≡ w → q ≡ p → rectangle_right (take (length l - p) (drop p l)) (take (length u - p) (drop p u)) ≡ w
rest_right l u p q w s e = ap (λ (x : List Float). rectangle_right x (take (length u - p) (drop p u))) (take_rest l p) ∙ ap (rectangle_right (drop p l)) (take_rest u p) ∙ ap (λ (j : ℕ). rectangle_right (drop j l) (drop j u)) (sym e) ∙ s

pub rest_stored : (l u v w rest : List Float) (p q : ℕ) → length l ≡ length v → length u ≡ length v → w ≡ take q (rectangle l u v) ++ drop q v
    → rest ≡ rectangle (take (length l - p) (drop p l)) (take (length u - p) (drop p u)) (take (length w - p) (drop p w)) → q ≡ p → p ≤ length v → put_mid p (length w - p) w rest ≡ rectangle l u v
rest_stored l u v w rest p q e f s g a h =
    let t : rest ≡ rectangle (drop p l) (drop p u) (drop p w) =
    g ∙ ap (λ (x : List Float). rectangle x (take (length u - p) (drop p u)) (take (length w - p) (drop p w))) (take_rest l p)
    ∙ ap (λ (x : List Float). rectangle (drop p l) x (take (length w - p) (drop p w))) (take_rest u p) ∙ ap (rectangle (drop p l) (drop p u)) (take_rest w p) in
    let z : drop (length w - p) (drop p w) ≡ [] = drop_all (length w - p) (drop p w) (omega (arith, length-drop p w)) in
    ap (λ (x : List Float). take p w ++ (rest ++ x)) z ∙ ap (λ (x : List Float). take p w ++ x) (append-nil rest)
    ∙ fours_over l u v w rest p e f (s ∙ ap (λ (j : ℕ). take j (rectangle l u v) ++ drop j v) a) t h

-- Laws for a line that is cut at its first space. Assumes nothing.
use Rattle.std.specs.Prelude.{◌≡◌, refl, ltb, Bool, true, false, not, cond, List, [], ◌∷◌, ℕ, ◌+◌, ◌-◌, ◌≤◌, Some, None, eqb, length, take, drop, position}
use Rattle.std.specs.List.{position_or_len, slice_split, onto_first}
use Rattle.std.proofs.Common.{arith}
use borrow.Author.Tests.{ltb-true, ltb-false}
use Rattle.std.proofs.lemmas.List.{take_rest}
use Rattle.std.proofs.lemmas.List.Splits.{slice_split_first}
use Rattle.std.proofs.lemmas.Option.{cond_some}
use Rattle.words.specs.Splitting.{onto, words_of}

onto_is : (c : ℕ) (ws : List (List ℕ)) → onto c ws ≡ onto_first c ws
unfolding onto
onto_is c [] = refl
onto_is c (w ∷ ws) = refl

-- the words of a line are its parts between the spaces
pub words_split : (l : List ℕ) → words_of l ≡ slice_split (λ c. eqb c 32) l
unfolding words_of
words_split [] = refl
words_split (c ∷ l) = rw (words_split l, onto_is)

pub cut_some : (l : List ℕ) (e : ℕ) → position (λ c. eqb c 32) l ≡ Some e → words_of l ≡ take e l ∷ words_of (take (length l - (e + 1)) (drop (e + 1) l))
cut_some l e h =
    let p = λ (c : ℕ). eqb c 32 in
    let q = cond_some _ _ _ h in
    let first = slice_split_first p l 0 (ltb-true _ _ q.0) in
    rw (take_rest l (e + 1), words_split, first, words_split, q.1)

all_one : (l : List ℕ) → length l ≤ position_or_len (λ c. eqb c 32) l → words_of l ≡ l ∷ []
unfolding words_of onto
all_one [] h = refl
all_one (c ∷ l) h = go (eqb c 32) h (all_one l)
  where
    go : (t : Bool) → length (c ∷ l) ≤ cond (not t) (1 + position_or_len (λ c. eqb c 32) l) 0 → (length l ≤ position_or_len (λ c. eqb c 32) l → words_of l ≡ l ∷ []) → cond t ([] ∷ words_of l) (onto c (words_of l)) ≡ (c ∷ l) ∷ []
    go true h e = absurd (omega arith)
    go false h e = rw (e (omega arith))

pub cut_none : (l : List ℕ) → position (λ c. eqb c 32) l ≡ None → words_of l ≡ l ∷ []
cut_none l h = all_one l (go _ refl h)
  where
    go : (t : Bool) → ltb (position_or_len (λ c. eqb c 32) l) (length l) ≡ t → cond t (Some (position_or_len (λ c. eqb c 32) l)) None ≡ None → length l ≤ position_or_len (λ c. eqb c 32) l
    go true e h = cc
    go false e h = ltb-false _ _ e

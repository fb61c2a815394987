-- What is watched on every way through a process, whatever right-sized answers it gets: one predicate, of which `Traced`, `Ends` and `Counted` are instances. Assumes nothing.
use Rattle.std.specs.Prelude.{◌≡◌, refl, Bool, true, false, cond}
use Rattle.std.proofs.Common.{subst}
use Rattle.model.specs.Process.{handed, refused, failed, Process, ask, score, begin, stop, within}
use Rattle.model.specs.Paths.{Along, Shows, Watch, both, through}

-- the other watch, and an end that follows
pub along_shows : {Q H S S' : Type 0} (w : Watch Q S) (w' : Watch Q S') (r : S → S') → Shows w w' r → (P : S → H → Type 0) (P' : S' → H → Type 0)
    → ((x : S) (h : H) → P x h → P' (r x) h) → (x : S) (p : Process Q H) → Along w P x p → Along w' P' (r x) p
along_shows w w' r sh P P' then x (ask q k continue) t =
    λ a z. subst (λ (y : _). Along w' P' y (continue a)) (sh.answered x q k a) (along_shows w w' r sh P P' then (w.answered x q k a) (continue a) (t a z))
along_shows w w' r sh P P' then x (score half norm p) t = (
  sh.right x half norm t.0,
  subst (λ (y : _). Along w' P' y p) (sh.scored x half norm) (along_shows w w' r sh P P' then (w.scored x half norm) p t.1),
)
along_shows w w' r sh P P' then x (begin p) t = subst (λ (y : _). Along w' P' y p) (sh.begun x) (along_shows w w' r sh P P' then (w.begun x) p t)
along_shows w w' r sh P P' then x (stop (handed h)) t = then x h t
along_shows w w' r sh P P' then x (stop (refused k)) t = tt
along_shows w w' r sh P P' then x (stop (failed c)) t = tt

-- a weaker end
pub along_weaker : {Q H S : Type 0} (w : Watch Q S) (P P' : S → H → Type 0) → ((x : S) (h : H) → P x h → P' x h) → (x : S) (p : Process Q H) → Along w P x p → Along w P' x p
along_weaker w P P' weaker x p t =
    along_shows w w (λ y. y) (record { answered = λ y q k a. refl; scored = λ y half norm. refl; begun = λ y. refl; right = λ y half norm z. z }) P P' weaker x p t

-- a branch
pub along_cond : {Q H S : Type 0} (w : Watch Q S) (P : S → H → Type 0) (x : S) (t : Bool) (p q : Process Q H)
    → (t ≡ true → Along w P x p) → (t ≡ false → Along w P x q) → Along w P x (cond t p q)
along_cond w P x true p q yes' no' = yes' refl
along_cond w P x false p q yes' no' = no' refl

-- a process within another: what holds at its end leads on
pub along_within : {Q H Q' H' S : Type 0} (w : Watch Q' S) (P : S → H → Type 0) (P' : S → H' → Type 0) (carry : Q → Q') (next : H → Process Q' H')
    → ((x : S) (h : H) → P x h → Along w P' x (next h)) → (x : S) (p : Process Q H) → Along (through carry w) P x p → Along w P' x (within carry next p)
unfolding within
along_within w P P' carry next go x (ask q k continue) t = λ a r. along_within w P P' carry next go (w.answered x (carry q) k a) (continue a) (t a r)
along_within w P P' carry next go x (score half norm p) t = (t.0, along_within w P P' carry next go (w.scored x half norm) p t.1)
along_within w P P' carry next go x (begin p) t = along_within w P P' carry next go (w.begun x) p t
along_within w P P' carry next go x (stop (handed h)) t = go x h t
along_within w P P' carry next go x (stop (refused k)) t = tt
along_within w P P' carry next go x (stop (failed c)) t = tt

pub along_left : {Q H S S' : Type 0} (w : Watch Q S) (w' : Watch Q S') (P : S × S' → H → Type 0) (P' : S → H → Type 0) → ((x : S × S') (h : H) → P x h → P' x.0 h)
    → (x : S × S') (p : Process Q H) → Along (both w w') P x p → Along w P' x.0 p
along_left w w' P P' weaker x p t =
    along_shows (both w w') w (λ y. y.0) (record { answered = λ y q k a. refl; scored = λ y half norm. refl; begun = λ y. refl; right = λ y half norm z. z.0 }) P P' weaker x p t

pub along_right : {Q H S S' : Type 0} (w : Watch Q S) (w' : Watch Q S') (P : S × S' → H → Type 0) (P' : S' → H → Type 0) → ((x : S × S') (h : H) → P x h → P' x.1 h)
    → (x : S × S') (p : Process Q H) → Along (both w w') P x p → Along w' P' x.1 p
along_right w w' P P' weaker x p t =
    along_shows (both w w') w' (λ y. y.1) (record { answered = λ y q k a. refl; scored = λ y half norm. refl; begun = λ y. refl; right = λ y half norm z. z.1 }) P P' weaker x p t

-- Whatever way a run is kept, each call tells the same and leaves the same, for every start and list of answers, refused or not. Assumes nothing.
use Rattle.std.specs.Prelude.{◌≡◌, List, [], ◌∷◌}
use Rattle.std.proofs.Common.{sym, ap, ◌∙◌}
use Rattle.machine.specs.Keeping.{Input, Machine, Keeping, Begins, Seen, Lasts, Each, AllSame, Alike}

module _ {m : Machine} (k l : Keeping m) where
  same_places : (x : k.State) (y : l.State) → k.run x ≡ l.run y → k.places x ≡ l.places y
  same_places x y e = k.holds x ∙ ap m.vectors e ∙ sym (l.holds y)

  -- answers on states that stand for one run
  lasts_same : (x : k.State) (y : l.State) → k.run x ≡ l.run y → (is : List (Input m.Lent)) (os : List (Seen k)) (ps : List (Seen l)) → Lasts k x is os → Lasts l y is ps → AllSame k l os ps
  lasts_same x y e [] [] [] a b = tt
  lasts_same x y e [] [] (p ∷ ps) a b = absurd b
  lasts_same x y e [] (o ∷ os) ps a b = absurd a
  lasts_same x y e (i ∷ is) [] ps a b = absurd a
  lasts_same x y e (i ∷ is) (o ∷ os) [] a b = absurd b
  lasts_same x y e (i ∷ is) (o ∷ os) (p ∷ ps) a b =
      let run : k.run o.state ≡ l.run p.state = a.0.run ∙ ap (λ (r : m.Run). m.leaves r i) e ∙ sym b.0.run in (
        record {
          told = a.0.told ∙ ap (λ (r : m.Run). m.tells r i) e ∙ sym b.0.told;
          wrote = a.0.wrote ∙ ap (λ (r : m.Run). m.writes r i) e ∙ sym b.0.wrote;
          vectors = same_places o.state p.state run;
        },
        lasts_same o.state p.state run is os ps a.1 b.1,
      )

  -- "for each start and list of answers every vector's stretch holds what its array held, and questions, counts, refusals, ends and all that is handed back are the old ones"
  pub kept_alike : (w : m.Start) (t t' : m.Told) (x : k.State) (y : l.State) → Begins k w t x → Begins l w t' y
      → (is : List (Input m.Lent)) (os : List (Seen k)) (ps : List (Seen l)) → Lasts k x is os → Lasts l y is ps → Alike k l t t' x y os ps
  kept_alike w t t' x y c d is os ps a b =
      let run : k.run x ≡ l.run y = c.run ∙ sym d.run in
      record { told = c.told ∙ sym d.told; vectors = same_places x y run; answers = lasts_same x y run is os ps a b }

-- what no answer changes stays as it was
pub stays : {m : Machine} (k : Keeping m) {B : Type 0} (b : m.Run → B) → ((r : m.Run) (i : Input m.Lent) → b (m.leaves r i) ≡ b r)
    → (x : k.State) (z : B) → b (k.run x) ≡ z → (is : List (Input m.Lent)) (os : List (Seen k)) → Lasts k x is os → Each k (λ r. b r ≡ z) os
stays k b same x z e [] [] a = tt
stays k b same x z e [] (o ∷ os) a = absurd a
stays k b same x z e (i ∷ is) [] a = absurd a
stays k b same x z e (i ∷ is) (o ∷ os) a =
    let now : b (k.run o.state) ≡ z = ap b a.0.run ∙ same (k.run x) i ∙ e in (now, stays k b same o.state z now is os a.1)

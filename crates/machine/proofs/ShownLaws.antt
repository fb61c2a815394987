-- What a call for the points leaves is what it is to give, for a run of any kind. Assumes nothing.
use Rattle.std.specs.Prelude.{◌≡◌, refl, Bool, true, false, ◌&&◌, cond, List, eqb, Float, length}
use Rattle.std.proofs.Common.{ap, arith}
use Rattle.std.proofs.Math.Option.{Option, none, some}
use Rattle.machine.specs.Shown.{Shown, points_refusal, Shows, shown}

module _ {Q : Type 0} (first second : Q → List Float) (xs ys : List Float) where
  abbrev GivesShown : Option Q → Shown → Type 0
  GivesShown o g = Shows first second o xs g.first ys g.second g.number

  pub shown_shows : (o : Option Q) → GivesShown o (shown first second o xs ys)
  unfolding shown points_refusal
  shown_shows none = record { number = refl; kept = λ m e. (refl, refl); points = λ e. absurd (omega arith) }
  shown_shows (some q) = by (eqb (length xs) (length (first q)) && eqb (length ys) (length (second q))) refl
    where
      by : (t : Bool) → (eqb (length xs) (length (first q)) && eqb (length ys) (length (second q))) ≡ t
          → GivesShown (some q) (cond t (record { number = 0; first = first q; second = second q }) (record { number = 8; first = xs; second = ys }))
      by true e = record { number = rw e; kept = λ m k. absurd (omega arith); points = λ k p w. let z : q ≡ p = cc in (ap first z, ap second z) }
      by false e = record { number = rw e; kept = λ m k. (refl, refl); points = λ k. absurd (omega arith) }

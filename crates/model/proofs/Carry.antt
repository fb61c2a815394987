-- What an accepted answer, and the marks that a call passes, leave of each predicate: laws for a list of calls. Assumes nothing.
use Rattle.std.specs.Prelude.{ℕ, ◌-◌, ◌≤◌, refl, Bool, true, false, ◌&&◌, cond, List, ◌⊎◌, eqb, Float, length}
use Rattle.std.proofs.Math.Path.{◌≡◌, subst}
use Rattle.std.proofs.Common.{sym, inl, inr, arith, eqb-true}
use Rattle.std.proofs.Math.Option.{Option, none, some}
use Rattle.std.proofs.Math.Logic.{⊎_elim}
use Rattle.std.specs.Float.{Format}
use Rattle.model.specs.Process.{Kind, Answer, handed, failed, Process, ask, score, begin, stop}
use Rattle.model.specs.Refusals.{Reply, number, vector, yes, no, failure, wanted, as_number, as_vector, as_decision, may_fail, given, fits_kind, fits_places, fits_length, answer_refusal, go_on, replied, accept, remains}
use Rattle.model.specs.Bounds.{AtMost}
use Rattle.model.proofs.Bounds.{at_most_more}
use Rattle.model.specs.Paths.{RightSize, Watch, AtEnd, Along}
use Rattle.model.specs.Scoring.{Seen, Latest, tracing, Traced}
use Rattle.model.specs.Counts.{Tally, counting, Counted}
use Rattle.model.specs.Least.{Scored}
use Rattle.model.specs.Plans.{scoring, Ends}
use Rattle.model.specs.Carry.{MarksRight, answer_of, end_of, moved_by, state_after, state_past, weight_asked}

seven_not : {X : Type 0} → ◌≡◌ {A = ℕ} 7 0 → X
seven_not e = absurd (omega arith)

-- an answered vector that is not refused has the length asked
right_length : (t lent : Bool) → ◌≡◌ {A = ℕ} (cond (t && lent) 0 8) 0 → t ≡ true
right_length true lent e = refl
right_length false lent e = absurd (omega arith)

-- an accepted answer is a failure, or a right-sized answer that the continuation takes
pub accepted : {Q H : Type 0} (q : Q) (k : Kind) (continue : Answer k → Process Q H) (r : Reply) (v : List Float) (lent : Bool) → answer_refusal (some k) r (length v) lent ≡ 0
    → ((c : ℕ) × (answer_of k r v ≡ none) × (replied q k continue r v ≡ stop (failed c)))
    ⊎ ((a : Answer k) × RightSize k a × (answer_of k r v ≡ some a) × (replied q k continue r v ≡ continue a))
unfolding answer_refusal fits_kind fits_length fits_places given may_fail as_number as_vector as_decision answer_of replied go_on
accepted q Kind.number continue (number x) v lent e = inr (x, tt, refl, refl)
accepted q Kind.number continue vector v lent e = seven_not e
accepted q Kind.number continue yes v lent e = seven_not e
accepted q Kind.number continue no v lent e = seven_not e
accepted q Kind.number continue (failure c) v lent e = inl (c, refl, refl)
accepted q (Kind.vector n) continue (number x) v lent e = seven_not e
accepted q (Kind.vector n) continue vector v lent e = inr (v, eqb-true _ _ (right_length (eqb (length v) n) lent e), refl, refl)
accepted q (Kind.vector n) continue yes v lent e = seven_not e
accepted q (Kind.vector n) continue no v lent e = seven_not e
accepted q (Kind.vector n) continue (failure c) v lent e = inl (c, refl, refl)
accepted q (Kind.direction n) continue (number x) v lent e = seven_not e
accepted q (Kind.direction n) continue vector v lent e = inr (v, eqb-true _ _ (right_length (eqb (length v) n) lent e), refl, refl)
accepted q (Kind.direction n) continue yes v lent e = seven_not e
accepted q (Kind.direction n) continue no v lent e = seven_not e
accepted q (Kind.direction n) continue (failure c) v lent e = seven_not e
accepted q Kind.decision continue (number x) v lent e = seven_not e
accepted q Kind.decision continue vector v lent e = seven_not e
accepted q Kind.decision continue yes v lent e = inr (true, tt, refl, refl)
accepted q Kind.decision continue no v lent e = inr (false, tt, refl, refl)
accepted q Kind.decision continue (failure c) v lent e = seven_not e

six_not : {X : Type 0} → ◌≡◌ {A = ℕ} 6 0 → X
six_not e = absurd (omega arith)

-- it lies within the bound
pub at_most_asked : {Q H : Type 0} (w : Q → ℕ) (p : Process Q H) (b : ℕ) → AtMost w p b → weight_asked w p ≤ b
unfolding weight_asked
at_most_asked w (ask q k continue) b t = omega (arith, t.1)
at_most_asked w (score half norm p) b t = omega arith
at_most_asked w (begin p) b t = omega arith
at_most_asked w (stop e) b t = omega arith

-- an accepted answer leaves a bound smaller by what its question weighs
pub at_most_accept : {Q H : Type 0} (w : Q → ℕ) (p : Process Q H) (b : ℕ) (r : Reply) (v : List Float) (lent : Bool) → AtMost w p b
    → answer_refusal (wanted p) r (length v) lent ≡ 0 → AtMost w (accept p r v) (b - weight_asked w p)
unfolding wanted accept weight_asked answer_refusal
at_most_accept {Q} {H} w (ask q k continue) b r v lent t e =
    ⊎_elim (λ z. subst (λ (p : Process Q H). AtMost w p (b - w q)) (sym z.2) tt)
    (λ z. subst (λ (p : Process Q H). AtMost w p (b - w q)) (sym z.3) (at_most_more w (continue z.0) t.0 _ (omega (arith, t.1)) (t.2 z.0))) (accepted q k continue r v lent e)
at_most_accept w (score half norm p) b r v lent t e = six_not e
at_most_accept w (begin p) b r v lent t e = six_not e
at_most_accept w (stop x) b r v lent t e = six_not e

-- the marks that a call passes weigh nothing
pub at_most_remains : {Q H : Type 0} (w : Q → ℕ) (p : Process Q H) (b : ℕ) → AtMost w p b → AtMost w (remains p) b
unfolding remains
at_most_remains w (ask q k continue) b t = t
at_most_remains w (score half norm p) b t = at_most_remains w p b t
at_most_remains w (begin p) b t = at_most_remains w p b t
at_most_remains w (stop e) b t = tt

-- a run that may ask no question more has ended
pub at_most_ended : {Q H : Type 0} (p : Process Q H) → AtMost (λ q. 1) p 0 → wanted p ≡ none
unfolding wanted
at_most_ended (ask q k continue) t = absurd (omega (arith, t.1))
at_most_ended (score half norm p) t = refl
at_most_ended (begin p) t = refl
at_most_ended (stop e) t = refl

module _ {Q H S : Type 0} (w : Watch Q S) (P : S → H → Type 0) where
  pub along_accept : (x : S) (p : Process Q H) (r : Reply) (v : List Float) (lent : Bool) → Along w P x p
      → answer_refusal (wanted p) r (length v) lent ≡ 0 → Along w P (state_after w x p r v) (accept p r v)
  unfolding wanted accept state_after answer_refusal
  along_accept x (ask q k continue) r v lent t e =
      ⊎_elim (λ z. subst (λ (p : Process Q H). Along w P (moved_by (w.answered x q k) x (answer_of k r v)) p) (sym z.2) tt)
      (λ z. subst (λ (a : Option (Answer k)). Along w P (moved_by (w.answered x q k) x a) (replied q k continue r v)) (sym z.2)
      (subst (λ (p : Process Q H). Along w P (w.answered x q k z.0) p) (sym z.3) (t z.0 z.1))) (accepted q k continue r v lent e)
  along_accept x (score half norm p) r v lent t e = six_not e
  along_accept x (begin p) r v lent t e = six_not e
  along_accept x (stop y) r v lent t e = six_not e

  pub along_remains : (x : S) (p : Process Q H) → Along w P x p → Along w P (state_past w x p) (remains p)
  unfolding remains state_past
  along_remains x (ask q k continue) t = t
  along_remains x (score half norm p) t = along_remains (w.scored x half norm) p t.1
  along_remains x (begin p) t = along_remains (w.begun x) p t
  along_remains x (stop e) t = tt

  pub along_marks : (x : S) (p : Process Q H) → Along w P x p → MarksRight w x p
  along_marks x (ask q k continue) t = tt
  along_marks x (score half norm p) t = (t.0, along_marks (w.scored x half norm) p t.1)
  along_marks x (begin p) t = along_marks (w.begun x) p t
  along_marks x (stop e) t = tt

  pub along_handed : (x : S) (p : Process Q H) (h : H) → Along w P x p → end_of p ≡ some (handed h) → P (state_past w x p) h
  unfolding end_of state_past
  along_handed x (ask q k continue) h t e = let z : ◌≡◌ {A = ℕ} 0 1 = cc in absurd (omega arith)
  along_handed x (score half norm p) h t e = along_handed (w.scored x half norm) p h t.1 e
  along_handed x (begin p) h t e = along_handed (w.begun x) p h t e
  along_handed x (stop y) h t e = subst (AtEnd (P x)) (inside e) t
    where
      inside : some y ≡ some (handed h) → y ≡ handed h
      inside o = cc

-- ---- Traced

module _ {Q H : Type 0} (f : Format) (view : Q → Seen) (x : Latest) (p : Process Q H) (t : Traced f view x p) where
  -- the latest point and answer after an accepted reply
  pub traced_accept : (r : Reply) (v : List Float) (lent : Bool) → answer_refusal (wanted p) r (length v) lent ≡ 0 → Traced f view (state_after (tracing f view) x p r v) (accept p r v)
  traced_accept r v lent e = along_accept (tracing f view) (λ y h. Unit {0}) x p r v lent t e

  pub traced_remains : Traced f view (state_past (tracing f view) x p) (remains p)
  traced_remains = along_remains (tracing f view) (λ y h. Unit {0}) x p t

  -- each half step scored by the call is the latest PROJECT answer, with the norm of the latest GRADIENT's point minus it
  pub traced_marks : MarksRight (tracing f view) x p
  traced_marks = along_marks (tracing f view) (λ y h. Unit {0}) x p t

-- ---- Ends and Counted: no answer moves what they watch

moved_still : {S A : Type 0} (move : A → S) (x : S) → ((a : A) → move a ≡ x) → (o : Option A) → moved_by move x o ≡ x
moved_still move x still none = refl
moved_still move x still (some a) = still a

state_still : {Q H S : Type 0} (w : Watch Q S) (x : S) → ((q : Q) (k : Kind) (a : Answer k) → w.answered x q k a ≡ x) → (p : Process Q H) (r : Reply) (v : List Float) → state_after w x p r v ≡ x
unfolding state_after
state_still w x still (ask q k continue) r v = moved_still (w.answered x q k) x (still q k) (answer_of k r v)
state_still w x still (score half norm p) r v = refl
state_still w x still (begin p) r v = refl
state_still w x still (stop e) r v = refl

module _ {Q H : Type 0} (P : List Scored → H → Type 0) (scores : List Scored) (p : Process Q H) (t : Ends P scores p) where
  pub ends_accept : (r : Reply) (v : List Float) (lent : Bool) → answer_refusal (wanted p) r (length v) lent ≡ 0 → Ends P scores (accept p r v)
  ends_accept r v lent e =
      subst (λ (y : List Scored). Ends P y (accept p r v)) (state_still scoring scores (λ q k a. refl) p r v) (along_accept scoring P scores p r v lent t e)

  pub ends_remains : Ends P (state_past scoring scores p) (remains p)
  ends_remains = along_remains scoring P scores p t

  -- where the call hands something back, P holds of it and of the scores of the last inner solve
  pub ends_handed : (h : H) → end_of p ≡ some (handed h) → P (state_past scoring scores p) h
  ends_handed h e = along_handed scoring P scores p h t e

module _ {Q H : Type 0} (P : Tally → H → Type 0) (tally : Tally) (p : Process Q H) (t : Counted P tally p) where
  pub counted_accept : (r : Reply) (v : List Float) (lent : Bool) → answer_refusal (wanted p) r (length v) lent ≡ 0 → Counted P tally (accept p r v)
  counted_accept r v lent e =
      subst (λ (y : Tally). Counted P y (accept p r v)) (state_still counting tally (λ q k a. refl) p r v) (along_accept counting P tally p r v lent t e)

  pub counted_remains : Counted P (state_past counting tally p) (remains p)
  counted_remains = along_remains counting P tally p t

  pub counted_handed : (h : H) → end_of p ≡ some (handed h) → P (state_past counting tally p) h
  counted_handed h e = along_handed counting P tally p h t e

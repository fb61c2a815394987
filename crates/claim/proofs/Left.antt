-- What holds of a process holds of what is left of it, and of what has happened, after any list of calls. Assumes nothing.
use Prim.Native.Nat.{ℕ, zero, suc, ◌+◌, ◌-◌, ◌≤◌}
use Rattle.std.proofs.Math.Path.{◌≡◌, refl, subst}
use Rattle.std.specs.Prelude.{Bool, Float}
use mathlib.Core.List.{List, [], ◌∷◌}
use Rattle.std.proofs.Math.Option.{Option, none, some}
use native.Mathlib.Omega.{arith}
use Rattle.std.specs.Float.{Format}
use Rattle.model.specs.Process.{Kind, Process, handed, refused, ask, score, begin, stop}
use Rattle.model.specs.Refusals.{Reply, wanted, answer_refusal, accept, remains, or_refused}
use Rattle.model.specs.Bounds.{AtMost}
use Rattle.model.proofs.Bounds.{at_most_more}
use Rattle.model.specs.Paths.{Watch, Along}
use Rattle.model.specs.Scoring.{nothing_yet, tracing}
use Rattle.model.specs.Scoring.{Seen as Looks}
use Rattle.model.specs.Carry.{weight_asked, state_after, state_past, MarksRight, end_of}
use Rattle.model.proofs.Carry.{at_most_asked, at_most_accept, at_most_remains, along_accept, along_remains, along_marks, along_handed}
use Rattle.model.specs.Refusing.{Refuses, Awaits}
use Rattle.model.proofs.Refusing.{refuses_remains, awaits_accept}
use Rattle.machine.specs.Waits.{of_no_kind, any_refusal}
use Rattle.claim.specs.History.{Runs, Call}
use Rattle.claim.specs.Trace.{reply_of, refusal, leads_to, comes_to, where_accepted, remaining, Event, answered, scored, began, passed, taken, trace, watched, total_weight}
use Rattle.claim.specs.Claim.{latest, ScoresRight}
use Rattle.claim.specs.Left.{AllRight}

-- an answer that nothing refuses has a name
pub named : (w : Option Kind) (a : Option Reply) (vs : ℕ) (lent : Bool) → any_refusal w a vs lent ≡ 0 → answer_refusal w (reply_of a) vs lent ≡ 0
unfolding any_refusal of_no_kind
named none none vs lent e = absurd (omega arith)
named (some k) none vs lent e = absurd (omega arith)
named w (some a) vs lent e = e

-- ---- one call more

module _ {Q H : Type 0} (k : Runs Q H) (s : k.Settings) (p : Process Q H) where
  module _ (c : Call k) (cs : List (Call k)) where
    abbrev q : Process Q H
    q = remaining k s p cs

    -- the events before its marks
    abbrev events : List (Event Q)
    events = taken q (reply_of c.reply) c.vector (trace k s p cs)

    pub left_accepted : refusal k s q c ≡ 0 → remaining k s p (c ∷ cs) ≡ remains (leads_to k q c)
    unfolding remaining where_accepted
    left_accepted e = rw e

    pub left_refused : (m : ℕ) → refusal k s q c ≡ suc m → remaining k s p (c ∷ cs) ≡ q
    unfolding remaining where_accepted
    left_refused m e = rw e

    pub trace_accepted : refusal k s q c ≡ 0 → trace k s p (c ∷ cs) ≡ passed (leads_to k q c) events
    unfolding trace where_accepted
    trace_accepted e = rw e

    pub trace_refused : (m : ℕ) → refusal k s q c ≡ suc m → trace k s p (c ∷ cs) ≡ trace k s p cs
    unfolding trace where_accepted
    trace_refused m e = rw e

-- ---- what holds of the process holds of what is left

-- the marks and the answer of a call move a watch as the trace says
past_watched : {Q H S : Type 0} (w : Watch Q S) (x : S) (q : Process Q H) (es : List (Event Q)) → state_past w (watched w x es) q ≡ watched w x (passed q es)
unfolding state_past watched passed
past_watched w x (ask q k continue) es = refl
past_watched w x (score half norm p) es = past_watched w x p (scored half norm ∷ es)
past_watched w x (begin p) es = past_watched w x p (began ∷ es)
past_watched w x (stop e) es = refl

after_watched : {Q H S : Type 0} (w : Watch Q S) (x : S) (q : Process Q H) (r : Reply) (v : List Float) (es : List (Event Q)) → state_after w (watched w x es) q r v ≡ watched w x (taken q r v es)
unfolding state_after watched taken
after_watched w x (ask q k continue) r v es = refl
after_watched w x (score half norm p) r v es = refl
after_watched w x (begin p) r v es = refl
after_watched w x (stop e) r v es = refl

pub total_weight_passed : {Q H : Type 0} (w : Q → ℕ) (q : Process Q H) (es : List (Event Q)) → total_weight w (passed q es) ≡ total_weight w es
unfolding total_weight passed
total_weight_passed w (ask q k continue) es = refl
total_weight_passed w (score half norm p) es = total_weight_passed w p (scored half norm ∷ es)
total_weight_passed w (begin p) es = total_weight_passed w p (began ∷ es)
total_weight_passed w (stop e) es = refl

pub total_weight_taken : {Q H : Type 0} (w : Q → ℕ) (q : Process Q H) (r : Reply) (v : List Float) (es : List (Event Q)) → total_weight w (taken q r v es) ≡ weight_asked w q + total_weight w es
unfolding total_weight taken weight_asked
total_weight_taken w (ask q k continue) r v es = refl
total_weight_taken w (score half norm p) r v es = omega arith
total_weight_taken w (begin p) r v es = omega arith
total_weight_taken w (stop e) r v es = omega arith

pub scores_right : {Q : Type 0} (f : Format) (view : Q → Looks) (es : List (Event Q)) → AllRight (tracing f view) nothing_yet es → ScoresRight f view es
unfolding latest
scores_right f view [] a = tt
scores_right f view (answered q k v ∷ es) a = scores_right f view es a
scores_right f view (scored half norm ∷ es) a = (a.0, scores_right f view es a.1)
scores_right f view (began ∷ es) a = scores_right f view es a

marks_right : {Q H S : Type 0} (w : Watch Q S) (x : S) (q : Process Q H) (es : List (Event Q)) → MarksRight w (watched w x es) q → AllRight w x es → AllRight w x (passed q es)
unfolding watched passed
marks_right w x (ask q k continue) es t a = a
marks_right w x (score half norm p) es t a = marks_right w x p (scored half norm ∷ es) t.1 (t.0, a)
marks_right w x (begin p) es t a = marks_right w x p (began ∷ es) t a
marks_right w x (stop e) es t a = a

taken_right : {Q H S : Type 0} (w : Watch Q S) (x : S) (q : Process Q H) (r : Reply) (v : List Float) (es : List (Event Q)) → AllRight w x es → AllRight w x (taken q r v es)
unfolding taken
taken_right w x (ask q k continue) r v es a = a
taken_right w x (score half norm p) r v es a = a
taken_right w x (begin p) r v es a = a
taken_right w x (stop e) r v es a = a

-- an answer is accepted only where a question is asked
pub asked_one : {Q H : Type 0} (q : Process Q H) (r : Reply) (vs : ℕ) (lent : Bool) → answer_refusal (wanted q) r vs lent ≡ 0 → weight_asked (λ q. 1) q ≡ 1
unfolding wanted answer_refusal weight_asked
asked_one (ask q k continue) r vs lent e = refl
asked_one (score half norm p) r vs lent e = absurd (omega arith)
asked_one (begin p) r vs lent e = absurd (omega arith)
asked_one (stop x) r vs lent e = absurd (omega arith)

module _ {Q H : Type 0} (k : Runs Q H) (s : k.Settings) (p : Process Q H) where
  -- ---- every watch
  module _ {S : Type 0} (w : Watch Q S) (P : S → H → Type 0) (x : S) where
    abbrev Seen : List (Event Q) → Process Q H → Type 0
    Seen es q = Along w P (watched w x es) q

    -- where an accepted call leads, before its marks
    seen_accepted : (c : Call k) (es : List (Event Q)) (q : Process Q H) → Seen es q → refusal k s q c ≡ 0 → Seen (taken q (reply_of c.reply) c.vector es) (leads_to k q c)
    unfolding refusal leads_to
    seen_accepted c es q t e =
        subst (λ (y : S). Along w P y (accept q (reply_of c.reply) c.vector)) (after_watched w x q (reply_of c.reply) c.vector es)
        (along_accept w P (watched w x es) q (reply_of c.reply) c.vector (k.right s c.lent) t (named _ _ _ _ e))

    seen_remains : (es : List (Event Q)) (q : Process Q H) → Seen es q → Seen (passed q es) (remains q)
    seen_remains es q t = subst (λ (y : S). Along w P y (remains q)) (past_watched w x q es) (along_remains w P (watched w x es) q t)

    pub seen_left : Along w P x p → (cs : List (Call k)) → Seen (trace k s p cs) (remaining k s p cs)
    unfolding remaining trace watched
    seen_left t [] = seen_remains [] p t
    seen_left t (c ∷ cs) = by (seen_left t cs) (refusal k s (remaining k s p cs) c) refl
      where
        by : Seen (trace k s p cs) (remaining k s p cs) → (m : ℕ) → refusal k s (remaining k s p cs) c ≡ m → Seen (trace k s p (c ∷ cs)) (remaining k s p (c ∷ cs))
        by ih zero e =
            rw (left_accepted k s p c cs e, trace_accepted k s p c cs e)
            (seen_remains _ (leads_to k (remaining k s p cs) c) (seen_accepted c (trace k s p cs) (remaining k s p cs) ih e))
        by ih (suc m) e = rw (left_refused k s p c cs m e, trace_refused k s p c cs m e) ih

    -- each score was right
    pub right_left : Along w P x p → (cs : List (Call k)) → AllRight w x (trace k s p cs)
    unfolding trace watched
    right_left t [] = marks_right w x p [] (along_marks w P x p t) tt
    right_left t (c ∷ cs) = by (right_left t cs) (refusal k s (remaining k s p cs) c) refl
      where
        by : AllRight w x (trace k s p cs) → (m : ℕ) → refusal k s (remaining k s p cs) c ≡ m → AllRight w x (trace k s p (c ∷ cs))
        by ih zero e =
            rw (trace_accepted k s p c cs e)
            (marks_right w x (leads_to k (remaining k s p cs) c) _
            (along_marks w P _ (leads_to k (remaining k s p cs) c) (seen_accepted c (trace k s p cs) (remaining k s p cs) (seen_left t cs) e))
            (taken_right w x (remaining k s p cs) (reply_of c.reply) c.vector (trace k s p cs) ih))
        by ih (suc m) e = rw (trace_refused k s p c cs m e) ih

    -- where a call hands h back, P holds of h and of all that happened
    pub handed_left : Along w P x p → (c : Call k) (cs : List (Call k)) (h : H) → end_of (comes_to k s (remaining k s p cs) c) ≡ some (handed h) → P (watched w x (trace k s p (c ∷ cs))) h
    unfolding comes_to or_refused end_of
    handed_left t c cs h z = by (refusal k s (remaining k s p cs) c) refl
      where
        never : (m : ℕ) → some (refused (suc m)) ≡ some (handed h) → ⊥
        never m y = let o : ◌≡◌ {A = ℕ} 0 1 = cc in absurd (omega arith)

        by : (m : ℕ) → refusal k s (remaining k s p cs) c ≡ m → P (watched w x (trace k s p (c ∷ cs))) h
        by zero e =
            rw (trace_accepted k s p c cs e)
            (subst (λ (y : S). P y h) (past_watched w x (leads_to k (remaining k s p cs) c) _)
            (along_handed w P _ (leads_to k (remaining k s p cs) c) h (seen_accepted c (trace k s p cs) (remaining k s p cs) (seen_left t cs) e)
            (rw e at z)))
        by (suc m) e = absurd (never m (rw e at z))

  -- ---- every weight
  module _ (w : Q → ℕ) (b : ℕ) where
    -- what was accepted weighs at most b, and what q may still ask weighs no more than what is left of b
    abbrev Within : List (Event Q) → Process Q H → Type 0
    Within es q = (total_weight w es ≤ b) × AtMost w q (b - total_weight w es)

    within_accepted : (c : Call k) (es : List (Event Q)) (q : Process Q H) → Within es q → refusal k s q c ≡ 0 → Within (taken q (reply_of c.reply) c.vector es) (leads_to k q c)
    unfolding refusal leads_to
    within_accepted c es q t e =
        let more = total_weight_taken w q (reply_of c.reply) c.vector es in
        let less = at_most_asked w q (b - total_weight w es) t.1 in (
          omega (arith, more, less, t.0),
          subst (λ (m : ℕ). AtMost w (accept q (reply_of c.reply) c.vector) m) (omega (arith, more))
              (at_most_accept w q (b - total_weight w es) (reply_of c.reply) c.vector (k.right s c.lent) t.1 (named _ _ _ _ e)),
        )

    within_remains : (es : List (Event Q)) (q : Process Q H) → Within es q → Within (passed q es) (remains q)
    within_remains es q t = rw (total_weight_passed w q es) (t.0, at_most_remains w q _ t.1)

    pub within_left : AtMost w p b → (cs : List (Call k)) → Within (trace k s p cs) (remaining k s p cs)
    unfolding remaining trace total_weight
    within_left t [] = within_remains [] p (omega arith, at_most_more w p b _ (omega arith) t)
    within_left t (c ∷ cs) = by (within_left t cs) (refusal k s (remaining k s p cs) c) refl
      where
        by : Within (trace k s p cs) (remaining k s p cs) → (m : ℕ) → refusal k s (remaining k s p cs) c ≡ m → Within (trace k s p (c ∷ cs)) (remaining k s p (c ∷ cs))
        by ih zero e =
            rw (left_accepted k s p c cs e, trace_accepted k s p c cs e)
            (within_remains _ (leads_to k (remaining k s p cs) c) (within_accepted c (trace k s p cs) (remaining k s p cs) ih e))
        by ih (suc m) e = rw (left_refused k s p c cs m e, trace_refused k s p c cs m e) ih

  -- ---- the numbers by which it may end
  module _ (P : ℕ → Type 0) where
    pub awaits_accepted : (c : Call k) (q : Process Q H) → Awaits P q → refusal k s q c ≡ 0 → Refuses P (leads_to k q c)
    unfolding refusal leads_to
    awaits_accepted c q t e = awaits_accept P q (reply_of c.reply) c.vector (k.right s c.lent) t (named _ _ _ _ e)

    pub awaits_left : Refuses P p → (cs : List (Call k)) → Awaits P (remaining k s p cs)
    unfolding remaining
    awaits_left t [] = refuses_remains P p t
    awaits_left t (c ∷ cs) = by (awaits_left t cs) (refusal k s (remaining k s p cs) c) refl
      where
        by : Awaits P (remaining k s p cs) → (m : ℕ) → refusal k s (remaining k s p cs) c ≡ m → Awaits P (remaining k s p (c ∷ cs))
        by ih zero e = rw (left_accepted k s p c cs e) (refuses_remains P (leads_to k (remaining k s p cs) c) (awaits_accepted c (remaining k s p cs) ih e))
        by ih (suc m) e = rw (left_refused k s p c cs m e) ih

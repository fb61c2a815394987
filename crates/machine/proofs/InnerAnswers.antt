-- What the public calls of an inner solve leave meets what they are to give. Assumes nothing.
use Rattle.std.specs.Prelude.{ℕ, zero, suc, ◌≡◌, refl, Bool, true, false, cond, List, eqb, ltb, Float, length}
use Rattle.std.proofs.Common.{sym, ap, ◌∙◌, arith, leb-true}
use Rattle.std.proofs.Math.Option.{Option, none, some}
use Rattle.std.specs.Float.{Format}
use Rattle.model.specs.Process.{Kind, refused, stop}
use Rattle.model.specs.State.{Settings}
use Rattle.model.specs.Inner.{solve}
use Rattle.model.specs.Refusals.{Reply, wanted, answer_refusal, accept, remains, or_refused, sizes_right, limit_right, inner_refusal, start_inner}
use Rattle.model.proofs.Facts.{and_left, and_right}
use Rattle.model.proofs.Table.{inner_rows}
use Rattle.machine.specs.Told.{saying, given}
use Rattle.machine.specs.Told as Say
use Rattle.machine.specs.Waits.{Follows, unless_refused}
use Rattle.machine.specs.InnerRun.{Phase, Asked, Run, Left}
use Rattle.machine.specs.InnerRest.{sound, Sound, resume, rest, Goes, Takes}
use Rattle.machine.specs.InnerCalls.{refusal, Answers, Starts, asking, first_point, second_point, Points}
use Rattle.machine.specs.InnerAnswer.{wanted_at, wanted_by, question_at, question_of, turns, refused_by, plan_after, move_at, answered_at, answered, answer, answer_any, begun, no_run, start, points}
use Rattle.machine.proofs.ShownLaws.{shown_shows}
use Rattle.machine.proofs.WaitLaws.{none_taken, follows_wanted, follows_taken}
use Rattle.machine.proofs.InnerLaws as Law

module _ (f : Format) where
  -- ---- what is waited for

  -- what is left of a run at a phase, and the move that takes its answer
  pub follows : (r : Run) → Sound r → (p : Phase) → Follows (Goes f r.set r.beyond) (wanted_at r.set.n p) (move_at f r p) (resume f r p)
  unfolding resume
  follows r ok Phase.over = refl
  follows r ok Phase.cost = (_, _, refl, Law.cost_goes f r ok)
  follows r ok Phase.gradient = (_, _, refl, Law.gradient_goes f r ok)
  follows r ok Phase.shifted = (_, _, refl, Law.shifted_goes f r ok)
  follows r ok Phase.project = (_, _, refl, Law.project_goes f r ok)
  follows r ok Phase.half_cost = (_, _, refl, Law.half_cost_goes f r ok)
  follows r ok Phase.doubled_project = (_, _, refl, Law.doubled_project_goes f r ok)
  follows r ok Phase.doubled_cost = (_, _, refl, Law.doubled_cost_goes f r ok)
  follows r ok Phase.direction = (_, _, refl, Law.directed_goes f r ok)
  follows r ok Phase.first_cost = (_, _, refl, Law.first_cost_goes f r ok)
  follows r ok Phase.first_gradient = (_, _, refl, Law.first_gradient_goes f r ok)
  follows r ok Phase.first_project = (_, _, refl, Law.first_project_goes f r ok)
  follows r ok Phase.tried_cost = (_, _, refl, Law.tried_cost_goes f r ok)
  follows r ok Phase.tried_gradient = (_, _, refl, Law.tried_gradient_goes f r ok)
  follows r ok Phase.tried_project = (_, _, refl, Law.tried_project_goes f r ok)
  follows r ok Phase.time = (_, _, refl, Law.timed_goes f r ok)
  follows r ok Phase.last_cost = (_, _, refl, Law.last_cost_goes f r ok)

  pub wanted_is : (r : Run) → wanted (rest f r) ≡ wanted_by r
  unfolding rest wanted_by wanted
  wanted_is r = by (sound r) refl
    where
      by : (t : Bool) → sound r ≡ t → wanted (cond t (resume f r r.phase) (stop (refused 6))) ≡ cond t (wanted_at r.set.n r.phase) none
      by true q = follows_wanted (Goes f r.set r.beyond) _ _ _ (follows r q r.phase)
      by false q = refl

  pub wanted_sound : (r : Run) (k : Kind) → wanted_by r ≡ some k → Sound r
  unfolding wanted_by
  wanted_sound r k e = by (sound r) e
    where
      by : (t : Bool) → cond t (wanted_at r.set.n r.phase) none ≡ some k → t ≡ true
      by true q = refl
      by false q = cc

  -- ---- answer

  -- an answer that nothing refuses leaves what the process comes to, and the run is still one that a start made
  pub answered_goes : (r : Run) (a : Reply) (v : List Float) (vs : ℕ) (lent : Bool) → answer_refusal (wanted_by r) a vs lent ≡ 0
      → Goes f r.set r.beyond (accept (rest f r) a v) (answered f r a v)
  unfolding answered answered_at wanted_by
  answered_goes r a v vs lent z = by (sound r) refl z
    where
      by : (t : Bool) → sound r ≡ t → answer_refusal (cond t (wanted_at r.set.n r.phase) none) a vs lent ≡ 0 → Goes f r.set r.beyond (accept (rest f r) a v) (answered f r a v)
      by true q z =
          rw (Law.rest_sound f r q)
          (follows_taken (Goes f r.set r.beyond) _ _ _ _ _ a v vs lent (λ c. Law.fails_goes f r c q) (follows r q r.phase) z)
      by false q z = none_taken a vs lent z

  pub answered_takes : (r : Run) (a : Reply) (v : List Float) (vs : ℕ) (lent : Bool) → answer_refusal (wanted_by r) a vs lent ≡ 0 → Takes f r a v (answered f r a v)
  answered_takes r a v vs lent z = (answered_goes r a v vs lent z).comes

  pub refusal_is : (r : Run) (a : Reply) (vs us : ℕ) → refusal f r a vs us ≡ refused_by r a vs us
  unfolding refused_by
  refusal_is r a vs us = rw (wanted_is r)

  pub answer_refused : (r : Run) (a : Reply) (v us : List Float) (k : ℕ) → refused_by r a (length v) (length us) ≡ suc k → answer f r a v us ≡ turns r (suc k)
  unfolding answer
  answer_refused r a v us k e = rw e

  pub answer_accepted : (r : Run) (a : Reply) (v us : List Float) → refused_by r a (length v) (length us) ≡ 0 → answer f r a v us ≡ answered f r a v
  unfolding answer
  answer_accepted r a v us e = rw e

  pub answer_at : (r : Run) (p : Phase) (a : Reply) (v us : List Float) → refused_by r a (length v) (length us) ≡ 0 → r.phase ≡ p → answer f r a v us ≡ answered_at f r p a v
  unfolding answered
  answer_at r p a v us z e = answer_accepted r a v us z ∙ ap (λ (q : Phase). answered_at f r q a v) e

  -- what a call leaves, and the lent plan after it, are what the call is to give
  pub answers : (r : Run) (a : Reply) (v us : List Float) → Answers f r a v us (plan_after (answer f r a v us) us) (answer f r a v us)
  unfolding refused_by given
  answers r a v us =
      record {
        refused = λ k e. let q = answer_refused r a v us k (sym (refusal_is r a (length v) (length us)) ∙ e) in
            (ap (λ (l : Left). l.told) q, ap (λ (l : Left). l.run) q, ap (λ (l : Left). plan_after l us) q);
        accepted = λ e. let z = sym (refusal_is r a (length v) (length us)) ∙ e in
            let c = answered_takes r a v (length v) (eqb (length us) r.set.n) z in
            rw (answer_accepted r a v us z) (record { settings = c.settings; outcome = c.outcome; process = c.process; wrote = sym (c.plan us) });
      }

  -- a run that a start made is one after every call
  pub answer_sound : (r : Run) (a : Reply) (v us : List Float) → Sound r → Sound (answer f r a v us).run
  unfolding answer refused_by
  answer_sound r a v us ok = by (refused_by r a (length v) (length us)) refl
    where
      by : (k : ℕ) → refused_by r a (length v) (length us) ≡ k → Sound (unless_refused k (turns r) (answered f r a v)).run
      by zero z = (answered_goes r a v (length v) (eqb (length us) r.set.n) z).sound
      by (suc k) z = ok

  -- the places that no vector uses are never written
  pub answer_beyond : (r : Run) (a : Reply) (v us : List Float) → (answer f r a v us).run.beyond ≡ r.beyond
  unfolding answer refused_by
  answer_beyond r a v us = by (refused_by r a (length v) (length us)) refl
    where
      by : (k : ℕ) → refused_by r a (length v) (length us) ≡ k → (unless_refused k (turns r) (answered f r a v)).run.beyond ≡ r.beyond
      by zero z = (answered_goes r a v (length v) (eqb (length us) r.set.n) z).beyond
      by (suc k) z = refl

  -- the settings stay
  pub answer_set : (r : Run) (a : Reply) (v us : List Float) → (answer f r a v us).run.set ≡ r.set
  unfolding answer refused_by
  answer_set r a v us = by (refused_by r a (length v) (length us)) refl
    where
      by : (k : ℕ) → refused_by r a (length v) (length us) ≡ k → (unless_refused k (turns r) (answered f r a v)).run.set ≡ r.set
      by zero z = (answered_goes r a v (length v) (eqb (length us) r.set.n) z).comes.settings
      by (suc k) z = refl

  -- the same of any answer that C can give
  pub any_sound : (r : Run) (a : Option Reply) (v us : List Float) → Sound r → Sound (answer_any f r a v us).run
  unfolding answer_any
  any_sound r none v us ok = ok
  any_sound r (some a) v us ok = answer_sound r a v us ok

  pub any_set : (r : Run) (a : Option Reply) (v us : List Float) → (answer_any f r a v us).run.set ≡ r.set
  unfolding answer_any
  any_set r none v us = refl
  any_set r (some a) v us = answer_set r a v us

  pub any_beyond : (r : Run) (a : Option Reply) (v us : List Float) → (answer_any f r a v us).run.beyond ≡ r.beyond
  unfolding answer_any
  any_beyond r none v us = refl
  any_beyond r (some a) v us = answer_beyond r a v us

  -- ---- start

  -- an accepted start's run
  pub begun_sound : (s : Settings) (u : List Float) (r : Run) → inner_refusal s u ≡ 0 → Sound (begun s u r)
  unfolding sizes_right limit_right
  begun_sound s u r z =
      let rows = (inner_rows s u).none.0 z in
      Law.sound_made (begun s u r) (leb-true s.n 64 (and_left _ _ (and_right (ltb 0 s.n) _ rows.0))) (leb-true s.limit 10000 (and_right (ltb 0 s.limit) _ rows.1.1.0)) (omega arith) (omega arith)

  pub starts : (s : Settings) (u : List Float) (r : Run) → Starts f s u (start s u r)
  unfolding start start_inner or_refused saying remains solve resume
  starts s u r = by (inner_refusal s u) refl
    where
      by : (k : ℕ) → inner_refusal s u ≡ k → Starts f s u (unless_refused k (λ k. record { told = Say.Told.refused k; run = no_run s r }) (record { told = Say.Told.asked Asked.cost; run = begun s u r }))
      by zero z = record { settings = refl; outcome = rw z; process = rw z (Law.rest_sound f (begun s u r) (begun_sound s u r z)) }
      by (suc k) z = record { settings = refl; outcome = rw z; process = rw z (Law.rest_over f (no_run s r) refl) }

  -- ---- points

  pub question_is : (r : Run) → asking (rest f r) ≡ question_of r
  unfolding rest question_of asking resume
  question_is r = by (sound r)
    where
      at : (p : Phase) → asking (resume f r p) ≡ question_at r p
      at Phase.over = refl
      at Phase.cost = refl
      at Phase.gradient = refl
      at Phase.shifted = refl
      at Phase.project = refl
      at Phase.half_cost = refl
      at Phase.doubled_project = refl
      at Phase.doubled_cost = refl
      at Phase.direction = refl
      at Phase.first_cost = refl
      at Phase.first_gradient = refl
      at Phase.first_project = refl
      at Phase.tried_cost = refl
      at Phase.tried_gradient = refl
      at Phase.tried_project = refl
      at Phase.time = refl
      at Phase.last_cost = refl

      by : (t : Bool) → asking (cond t (resume f r r.phase) (stop (refused 6))) ≡ cond t (question_at r r.phase) none
      by true = at r.phase
      by false = refl

  pub shows : (r : Run) (xs ys : List Float) → Points f r xs (points r xs ys).first ys (points r xs ys).second (points r xs ys).number
  unfolding points
  shows r xs ys = rw (question_is r) (shown_shows first_point second_point xs ys (question_of r))

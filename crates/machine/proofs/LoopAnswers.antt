-- What the public calls of the multiplier loop leave meets what they are to give. Assumes nothing.
use Rattle.std.specs.Prelude.{ℕ, zero, suc, ◌-◌, ◌<◌, ◌≤◌, ◌≡◌, refl, Bool, true, false, ◌&&◌, cond, List, [], ltb, leb, Float, length}
use Rattle.std.proofs.Common.{sym, ap, ◌∙◌, subst, arith, leb-true, ltb-true}
use Rattle.std.proofs.Math.Option.{Option, none, some}
use Rattle.std.specs.Float.{Format}
use Rattle.model.specs.Vectors.{all_finite}
use Rattle.model.specs.Process.{Kind, Answer, refused, Process, stop, within, Question, LoopQuestion, converged, Loop}
use Rattle.model.specs.Loop as L
use Rattle.model.specs.Loop.{LoopSettings, LoopState, xi_of, loop}
use Rattle.model.specs.Refusals.{Reply, number, vector, yes, no, failure, wanted, as_number, as_vector, as_decision, answer_refusal, go_on, replied, accept, remains, or_refused, sizes_right, mappings_right, limit_right, loop_numbers_right, xi_right, loop_refusal, start_loop, penalty_in, multipliers_in}
use Rattle.model.proofs.Facts.{and_left, and_right}
use Rattle.model.proofs.Table.{loop_rows}
use Rattle.machine.specs.Told.{saying, given}
use Rattle.machine.specs.Told as Say
use Rattle.machine.specs.Waits.{Moves, taken, Follows, unless_refused}
use Rattle.machine.specs.InnerRun as InnerRun
use Rattle.machine.specs.InnerRest as InnerRest
use Rattle.machine.specs.InnerCalls.{asking}
use Rattle.machine.specs.InnerAnswer as Inner
use Rattle.machine.specs.LoopRun.{Phase, Run, Left, state_of, fails}
use Rattle.machine.specs.LoopMoves as Move
use Rattle.machine.specs.LoopMoves.{begins}
use Rattle.machine.specs.LoopRest.{is_last, sound, Sound, Ready, sized, resume, rest, Goes, Takes}
use Rattle.machine.specs.LoopCalls.{lent_right, refusal, Answers, Starts, first_point, second_point, Points, second_refusal, Second}
use Rattle.machine.specs.LoopAnswer.{wanted_at, wanted_by, carrying, question_at, question_of, turns, refused_by, plan_after, xi_after, answered_at, answered, answer, answer_any, begun, no_run, start, points, no_point, second_alone}
use Rattle.machine.specs.Shown.{points_refusal}
use Rattle.machine.proofs.ShownLaws.{shown_shows}
use Rattle.machine.proofs.WaitLaws.{none_taken, follows_taken}
use Rattle.machine.proofs.InnerAnswers as InnerAnswers
use Rattle.machine.proofs.LoopLaws as Law

-- ---- the inner solve's process inside the loop, by what it waits for
module _ {Q H Q' H' L : Type 0} (Comes : Process Q H → L → Type 0) (g : Q → Q') (next : H → Process Q' H') where
  within_wanted : (w : Option Kind) (move : Moves L w) (p : Process Q H) → Follows Comes w move p → wanted (within g next p) ≡ w
  unfolding wanted within
  within_wanted none move p e = rw e
  within_wanted (some k) move p e = rw e.2

  go_within : (q : Q) (k : Kind) (c : Answer k → Process Q H) (o : Option (Answer k)) → go_on (g q) k (λ a. within g next (c a)) o ≡ within g next (go_on q k c o)
  unfolding go_on within
  go_within q k c none = refl
  go_within q k c (some a) = refl

  replied_within : (q : Q) (k : Kind) (c : Answer k → Process Q H) (a : Reply) (v : List Float) → replied (g q) k (λ b. within g next (c b)) a v ≡ within g next (replied q k c a v)
  unfolding replied within
  replied_within q k c (number x) v = go_within q k c (as_number x k)
  replied_within q k c vector v = go_within q k c (as_vector v k)
  replied_within q k c yes v = go_within q k c (as_decision true k)
  replied_within q k c no v = go_within q k c (as_decision false k)
  replied_within q k c (failure x) v = refl

  within_accept : (w : Option Kind) (move : Moves L w) (p : Process Q H) (a : Reply) (v : List Float) → Follows Comes w move p → accept (within g next p) a v ≡ within g next (accept p a v)
  unfolding accept within
  within_accept none move p a v e = rw e
  within_accept (some k) move p a v e = rw e.2 (replied_within e.0 k e.1 a v)

within_asking : {H H' L : Type 0} (Comes : Process Question H → L → Type 0) (xi : List Float) (next : H → Process LoopQuestion H') (w : Option Kind) (move : Moves L w) (p : Process Question H)
    → Follows Comes w move p → asking (within (LoopQuestion.inner xi) next p) ≡ carrying xi (asking p)
unfolding asking within
within_asking Comes xi next none move p e = rw e
within_asking Comes xi next (some k) move p e = rw e.2

module _ (f : Format) where
  -- what an inner solve waits for, whatever run it is of
  inner_follows : (s : InnerRun.Run) → (move : Moves InnerRun.Left (Inner.wanted_by s)) × Follows (InnerRest.Goes f s.set s.beyond) (Inner.wanted_by s) move (InnerRest.rest f s)
  unfolding Inner.wanted_by InnerRest.rest
  inner_follows s = by (InnerRest.sound s) refl
    where
      by : (t : Bool) → InnerRest.sound s ≡ t
          → (move : Moves InnerRun.Left (cond t (Inner.wanted_at s.set.n s.phase) none))
          × Follows (InnerRest.Goes f s.set s.beyond) (cond t (Inner.wanted_at s.set.n s.phase) none) move (cond t (InnerRest.resume f s s.phase) (stop (refused 6)))
      by true q = (Inner.move_at f s s.phase, InnerAnswers.follows f s q s.phase)
      by false q = (tt, refl)

  -- ---- what is waited for
  pub wanted_is : (r : Run) → wanted (rest f r) ≡ wanted_by r
  unfolding rest wanted_by wanted resume
  wanted_is r = by (sound r)
    where
      at : (p : Phase) → wanted (resume f r p) ≡ wanted_at r p
      at Phase.over = refl
      at Phase.time = refl
      at Phase.project_y = refl
      at Phase.inner = let e = inner_follows r.solve in within_wanted (InnerRest.Goes f r.solve.set r.solve.beyond) _ _ _ e.0 _ e.1
      at Phase.f1 = refl
      at Phase.project_c = refl
      at Phase.f2 = refl
      at Phase.last_cost = refl

      by : (t : Bool) → wanted (cond t (resume f r r.phase) (stop (refused 6))) ≡ cond t (wanted_at r r.phase) none
      by true = at r.phase
      by false = refl

  pub wanted_sound : (r : Run) (k : Kind) → wanted_by r ≡ some k → Sound r
  unfolding wanted_by
  wanted_sound r k e = by (sound r) e
    where
      by : (t : Bool) → cond t (wanted_at r r.phase) none ≡ some k → t ≡ true
      by true q = refl
      by false q = cc

  -- at a phase, an answer that nothing refuses is one that the phase waits for, and a start made the run
  pub accepted_at : (r : Run) (p : Phase) (a : Reply) (vs : ℕ) (lent : Bool) → answer_refusal (wanted_by r) a vs lent ≡ 0 → r.phase ≡ p
      → Sound r × (answer_refusal (wanted_at r p) a vs lent ≡ 0)
  unfolding wanted_by
  accepted_at r p a vs lent z e = by (sound r) z
    where
      by : (t : Bool) → answer_refusal (cond t (wanted_at r r.phase) none) a vs lent ≡ 0 → (t ≡ true) × (answer_refusal (wanted_at r p) a vs lent ≡ 0)
      by true z = (refl, ap (λ (q : Phase). answer_refusal (wanted_at r q) a vs lent) (sym e) ∙ z)
      by false z = none_taken a vs lent z

  -- ---- answer

  -- an answer that nothing refuses leaves what the process comes to, and the run is still one that a start made
  pub answered_goes : (r : Run) (a : Reply) (v : List Float) (vs : ℕ) (lent : Bool) → answer_refusal (wanted_by r) a vs lent ≡ 0
      → Goes f r.set r.beyond (accept (rest f r) a v) (answered f r a v)
  unfolding answered answered_at resume
  answered_goes r a v vs lent z = rw (Law.rest_sound f r here.0) (at r.phase refl here.0 here.1)
    where
      takes : Sound r → (w : Option Kind) (move : Moves Left w) (p : Loop) → answer_refusal w a vs lent ≡ 0 → Follows (Goes f r.set r.beyond) w move p
          → Goes f r.set r.beyond (accept p a v) (taken (λ c. fails c r) (turns r 7) w move a v)
      takes q w move p z e = follows_taken (Goes f r.set r.beyond) (λ c. fails c r) (turns r 7) w move p a v vs lent (λ c. Law.fails_goes f r c (Law.sound_sized r q)) e z

      at : (p : Phase) → r.phase ≡ p → Sound r → answer_refusal (wanted_at r p) a vs lent ≡ 0 → Goes f r.set r.beyond (accept (resume f r p) a v) (answered_at f r p a v)
      at Phase.over e q z = none_taken a vs lent z
      at Phase.time e q z = takes q _ _ _ z (_, _, refl, Law.timed_goes f r (Law.sound_ready r q (ap is_last e)))
      at Phase.project_y e q z = takes q _ _ _ z (_, _, refl, Law.project_y_goes f r (Law.sound_ready r q (ap is_last e)))
      at Phase.inner e q z =
          let w = inner_follows r.solve in
          subst (λ (p : Loop). Goes f r.set r.beyond p (Move.inner f (Inner.answered f r.solve a v) r)) (sym (within_accept (InnerRest.Goes f r.solve.set r.solve.beyond) _ _ _ w.0 _ a v w.1))
          (Law.inner_goes f r (Law.sound_ready r q (ap is_last e)) _ _ _ (InnerAnswers.answered_goes f r.solve a v vs lent z))
      at Phase.f1 e q z = takes q _ _ _ z (_, _, refl, Law.f1_goes f r (Law.sound_ready r q (ap is_last e)))
      at Phase.project_c e q z = takes q _ _ _ z (_, _, refl, Law.project_c_goes f r (Law.sound_ready r q (ap is_last e)))
      at Phase.f2 e q z = takes q _ _ _ z (_, _, refl, Law.f2_goes f r (Law.sound_ready r q (ap is_last e)))
      at Phase.last_cost e q z = takes q _ _ _ z (_, _, refl, Law.last_cost_goes f r (Law.sound_sized r q))

      here : Sound r × (answer_refusal (wanted_at r r.phase) a vs lent ≡ 0)
      here = accepted_at r r.phase a vs lent z refl

  pub answered_takes : (r : Run) (a : Reply) (v : List Float) (vs : ℕ) (lent : Bool) → answer_refusal (wanted_by r) a vs lent ≡ 0 → Takes f r a v (answered f r a v)
  answered_takes r a v vs lent z = (answered_goes r a v vs lent z).comes

  pub refusal_is : (r : Run) (a : Reply) (vs us xs : ℕ) → refusal f r a vs us xs ≡ refused_by r a vs us xs
  unfolding refused_by
  refusal_is r a vs us xs = rw (wanted_is r)

  pub answer_refused : (r : Run) (a : Reply) (v us xs : List Float) (k : ℕ) → refused_by r a (length v) (length us) (length xs) ≡ suc k → answer f r a v us xs ≡ turns r (suc k)
  unfolding answer
  answer_refused r a v us xs k e = rw e

  pub answer_accepted : (r : Run) (a : Reply) (v us xs : List Float) → refused_by r a (length v) (length us) (length xs) ≡ 0 → answer f r a v us xs ≡ answered f r a v
  unfolding answer
  answer_accepted r a v us xs e = rw e

  pub answer_at : (r : Run) (p : Phase) (a : Reply) (v us xs : List Float) → refused_by r a (length v) (length us) (length xs) ≡ 0 → r.phase ≡ p → answer f r a v us xs ≡ answered_at f r p a v
  unfolding answered
  answer_at r p a v us xs z e = answer_accepted r a v us xs z ∙ ap (λ (q : Phase). answered_at f r q a v) e

  -- what a call leaves, and the lent u and xi after it, are what the call is to give
  pub answers : (r : Run) (a : Reply) (v us xs : List Float) → Answers f r a v us (plan_after (answer f r a v us xs) us) xs (xi_after (answer f r a v us xs) xs) (answer f r a v us xs)
  unfolding refused_by given
  answers r a v us xs =
      record {
        refused = λ k e. let q = answer_refused r a v us xs k (sym (refusal_is r a (length v) (length us) (length xs)) ∙ e) in
            (ap (λ (l : Left). l.told) q, ap (λ (l : Left). l.run) q, ap (λ (l : Left). plan_after l us) q, ap (λ (l : Left). xi_after l xs) q);
        accepted = λ e. let z = sym (refusal_is r a (length v) (length us) (length xs)) ∙ e in
            let c = answered_takes r a v (length v) (lent_right r.set (length us) (length xs)) z in
            let x = ap (λ (s : LoopSettings). given (answered f r a v).told (xi_of s (L.penalty_of s (answered f r a v).run.c) (answered f r a v).run.y_plus) xs) c.settings in
            rw (answer_accepted r a v us xs z) (record { settings = c.settings; outcome = c.outcome; process = c.process; plan = sym (c.plan us); xi = x ∙ sym (c.xi xs) });
      }

  -- a run that a start made is one after every call
  pub answer_sound : (r : Run) (a : Reply) (v us xs : List Float) → Sound r → Sound (answer f r a v us xs).run
  unfolding answer refused_by
  answer_sound r a v us xs ok = by (refused_by r a (length v) (length us) (length xs)) refl
    where
      by : (k : ℕ) → refused_by r a (length v) (length us) (length xs) ≡ k → Sound (unless_refused k (turns r) (answered f r a v)).run
      by zero z = (answered_goes r a v (length v) (lent_right r.set (length us) (length xs)) z).sound
      by (suc k) z = ok

  -- the places of y, y_plus and F1 that no vector uses are never written
  pub answer_beyond : (r : Run) (a : Reply) (v us xs : List Float) → (answer f r a v us xs).run.beyond ≡ r.beyond
  unfolding answer refused_by
  answer_beyond r a v us xs = by (refused_by r a (length v) (length us) (length xs)) refl
    where
      by : (k : ℕ) → refused_by r a (length v) (length us) (length xs) ≡ k → (unless_refused k (turns r) (answered f r a v)).run.beyond ≡ r.beyond
      by zero z = (answered_goes r a v (length v) (lent_right r.set (length us) (length xs)) z).beyond
      by (suc k) z = refl

  pub any_sound : (r : Run) (a : Option Reply) (v us xs : List Float) → Sound r → Sound (answer_any f r a v us xs).run
  unfolding answer_any
  any_sound r none v us xs ok = ok
  any_sound r (some a) v us xs ok = answer_sound r a v us xs ok

  pub any_beyond : (r : Run) (a : Option Reply) (v us xs : List Float) → (answer_any f r a v us xs).run.beyond ≡ r.beyond
  unfolding answer_any
  any_beyond r none v us xs = refl
  any_beyond r (some a) v us xs = answer_beyond r a v us xs

  -- ---- start

  -- an accepted start
  module _ (s : LoopSettings) (u xi : List Float) (r : Run) (z : loop_refusal f s u xi ≡ 0) where
    abbrev right : (sizes_right s.n (length u) ≡ true)
        × ((all_finite u ≡ true)
        × ((mappings_right s.n1 s.n2 s.set_y (length xi) ≡ true) × (((limit_right 10000 s.limit && limit_right 1000 s.outer) ≡ true) × ((loop_numbers_right f s ≡ true) × (xi_right xi ≡ true)))))
    right = (loop_rows f s u xi).none.0 z

    outer_some : 0 < s.outer
    unfolding limit_right
    outer_some = ltb-true 0 s.outer (and_left _ _ (and_right (limit_right 10000 s.limit) _ right.1.1.1.0))

    outer_fits : s.outer ≤ 1000
    unfolding limit_right
    outer_fits = leb-true s.outer 1000 (and_right (ltb 0 s.outer) _ (and_right (limit_right 10000 s.limit) _ right.1.1.1.0))

    pub begun_ready : Ready (begun s u xi r)
    unfolding sizes_right mappings_right limit_right sized L.inner_settings
    begun_ready =
        let a : leb s.n 64 ≡ true = and_left _ _ (and_right (ltb 0 s.n) _ right.0) in
        let b : leb s.n1 32 ≡ true = and_left _ _ right.1.1.0 in
        let c : leb s.n2 32 ≡ true = and_left _ _ (and_right (leb s.n1 32) _ right.1.1.0) in
        let d : leb s.limit 10000 ≡ true = and_right (ltb 0 s.limit) _ (and_left _ _ right.1.1.1.0) in
        (rw (a, b, c, d), Law.counts_made (begun s u xi r) (omega (arith, outer_fits)) (omega arith) (omega arith) (omega arith) refl)

    -- it begins its first outer iteration, after which K - 1 are left
    start_is : start_loop f s u xi ≡ L.begins f s (L.iterations f s (s.outer - 1)) (state_of (begun s u xi r))
    unfolding start_loop or_refused loop L.first_state L.iterations
    start_is =
        let k : s.outer ≡ suc (s.outer - 1) = omega (arith, outer_some) in
        ap (λ (m : ℕ). or_refused m (loop f s u (penalty_in xi) (multipliers_in xi))) z
        ∙ ap (λ (m : ℕ). L.iterations f s m converged (state_of (begun s u xi r))) k

  pub starts : (s : LoopSettings) (u xi : List Float) (r : Run) → Starts f s u xi (start f s u xi r)
  unfolding start start_loop or_refused saying remains
  starts s u xi r = by (loop_refusal f s u xi) refl
    where
      by : (k : ℕ) → loop_refusal f s u xi ≡ k
          → Starts f s u xi (unless_refused k (λ k. record { told = Say.Told.refused k; run = no_run s r }) (begins (begun s u xi r)))
      by zero z =
          let c = (Law.begins_goes f (begun s u xi r) (begun_ready s u xi r z)).comes in
          record { settings = c.settings; outcome = rw (start_is s u xi r z) c.outcome; process = rw (start_is s u xi r z) c.process }
      by (suc k) z = record { settings = refl; outcome = rw z; process = rw z (Law.rest_over f (no_run s r) refl) }

  -- ---- points
  pub question_is : (r : Run) → asking (rest f r) ≡ question_of r
  unfolding rest question_of asking resume
  question_is r = by (sound r)
    where
      at : (p : Phase) → asking (resume f r p) ≡ question_at r p
      at Phase.over = refl
      at Phase.time = refl
      at Phase.project_y = refl
      at Phase.inner =
          let e = inner_follows r.solve in
          within_asking (InnerRest.Goes f r.solve.set r.solve.beyond) (xi_of r.set r.c r.y) _ _ _ _ e.1 ∙ ap (carrying (xi_of r.set r.c r.y)) (InnerAnswers.question_is f r.solve)
      at Phase.f1 = refl
      at Phase.project_c = refl
      at Phase.f2 = refl
      at Phase.last_cost = refl

      by : (t : Bool) → asking (cond t (resume f r r.phase) (stop (refused 6))) ≡ cond t (question_at r r.phase) none
      by true = at r.phase
      by false = refl

  pub shows : (r : Run) (xs ys : List Float) → Points f r xs (points r xs ys).first ys (points r xs ys).second (points r xs ys).number
  unfolding points
  shows r xs ys = rw (question_is r) (shown_shows first_point second_point xs ys (question_of r))

  -- the second point alone
  second_number : (o : Option LoopQuestion) (ys : List Float) → points_refusal no_point second_point o 0 (length ys) ≡ second_refusal o (length ys)
  unfolding points_refusal second_refusal
  second_number none ys = refl
  second_number (some q) ys = refl

  pub second_shows : (r : Run) (ys : List Float) → Second f r ys (second_alone r ys).second (second_alone r ys).number
  unfolding second_alone
  second_shows r ys =
      let h = shown_shows no_point second_point [] ys (question_of r) in
      record {
        number = h.number ∙ second_number (question_of r) ys ∙ ap (λ (o : Option LoopQuestion). second_refusal o (length ys)) (sym (question_is r));
        kept = λ m e. (h.kept m e).1;
        point = λ e q w. (h.points e q (sym (question_is r) ∙ w)).1;
      }

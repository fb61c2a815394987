-- What each move of psi and d_psi leaves is what the process comes to there, and a whole answer is the table's, over any format. Assumes nothing.
use Rattle.std.specs.Prelude.{ℕ, zero, suc, ◌+◌, ◌≤◌, Bool, true, false, ◌&&◌, cond, List, [], ◌∷◌, leb, ltb, eqb, Float, length, take, drop}
use Rattle.std.proofs.Math.Path.{◌≡◌, refl, sym, ap, subst}
use Rattle.std.proofs.Common.{◌∙◌, arith, leb-true, eqb-true, eq-eqb, ne_eqb, take_at}
use Rattle.std.proofs.Math.Option.{Option, none, some}
use Rattle.std.specs.Float.{Format}
use Rattle.ieee.specs.Numbers.{null, larger}
use Rattle.ieee.specs.Sums.{squares}
use Rattle.model.specs.Constants.{one}
use Rattle.model.specs.Vectors.{minus, plus_over}
use Rattle.model.specs.Process.{Kind, Answer, handed, refused, failed, Process, ask, stop, PsiQuestion}
use Rattle.model.specs.Psi as S
use Rattle.model.specs.Refusals.{Reply, wanted, given, as_number, as_vector, as_decision, fits_kind, fits_places, fits_length, answer_refusal, go_on, replied, accept, remains, lent_after, lent_at, unless, sizes_right, xi_length, mappings_right, psi_refusal, penalty_in, multipliers_in, or_refused, start_psi, start_d_psi}
use Rattle.model.proofs.Facts.{and_left, and_right, zip_size}
use Rattle.machine.specs.Told as Say
use Rattle.machine.specs.InnerCalls.{asking}
use Rattle.machine.specs.PsiRun.{PsiPhase, DPsiPhase, Run, Left, PsiRun, PsiLeft, DPsiRun, DPsiLeft, overlay, at, having, with_t, copied, asks, ends, fails, refuses}
use Rattle.machine.specs.PsiMoves as Move
use Rattle.machine.specs.PsiMoves.{penalized, with_gradient, with_d, added}
use Rattle.machine.specs.PsiRest.{sound, Sound, rest, psi_resume, d_psi_resume, psi_rest, d_psi_rest, asked_of, psi_tells, d_psi_tells, Comes, PsiComes, DPsiComes, PsiTakes, DPsiTakes}
use Rattle.machine.specs.PsiCalls.{waits, psi_kind_at, d_psi_kind_at, ruled, psi_refuses, d_psi_refuses, psi_answer, d_psi_answer, PsiAnswers, DPsiAnswers, handed_out, Starts, PsiStarts, DPsiStarts, zeros, begun, psi_begun, d_psi_begun, first_point, second_point, points_refusal, Points, Placed}

-- ---- sizes of a run that a start made
pub sound_n : (s : S.Sizes) → Sound s → s.n ≤ 64
unfolding sound
sound_n s h = leb-true _ _ (and_left _ _ h)

pub sound_n1 : (s : S.Sizes) → Sound s → s.n1 ≤ 32
unfolding sound
sound_n1 s h = leb-true _ _ (and_left _ _ (and_right (leb s.n 64) _ h))

pub sound_n2 : (s : S.Sizes) → Sound s → s.n2 ≤ 32
unfolding sound
sound_n2 s h = leb-true _ _ (and_right (leb s.n1 32) _ (and_right (leb s.n 64) _ h))

-- ---- what is left of a run, and what a call has come to: a question, an end, a failure
module _ {P V H : Type 0} (resume : Run P V → P → Process PsiQuestion H) where
  pub rest_sound : (r : Run P V) → Sound r.sizes → rest resume r ≡ resume r r.phase
  unfolding rest
  rest_sound r h = rw h

  -- a run that has ended, or that no start made
  pub rest_over : (r : Run P V) → resume r r.phase ≡ stop (refused 6) → rest resume r ≡ stop (refused 6)
  unfolding rest
  rest_over r o = by (sound r.sizes)
    where
      by : (b : Bool) → cond b (resume r r.phase) (stop (refused 6)) ≡ stop (refused 6)
      by true = o
      by false = refl

  module _ {E : Type 0} (tells : H → E) (r : Run P V) (p : P) where
    asks_comes : (q : PsiQuestion) (k : Kind) (continue : Answer k → Process PsiQuestion H) → Sound r.sizes → resume (at p r) p ≡ ask q k continue
        → Comes tells resume r.sizes (ask q k continue) (asks (asked_of q) p r)
    unfolding Say.saying remains
    asks_comes q k continue h w = record { sizes = refl; outcome = refl; process = rest_sound (at p r) h ∙ w }

    module _ (o : resume (at p r) p ≡ stop (refused 6)) where
      ends_comes : (h : H) → Comes tells resume r.sizes (stop (handed h)) (ends (tells h) p r)
      unfolding Say.saying remains
      ends_comes h = record { sizes = refl; outcome = refl; process = rest_over (at p r) o }

      fails_comes : (c : ℕ) → Comes tells resume r.sizes (stop (failed c)) (fails c p r)
      unfolding Say.saying remains
      fails_comes c = record { sizes = refl; outcome = refl; process = rest_over (at p r) o }

  module _ {E : Type 0} (tells : H → E) (s : S.Sizes) where
    either : (t : Bool) (p q : Process PsiQuestion H) (l m : Left P V E) → Comes tells resume s p l → Comes tells resume s q m → Comes tells resume s (cond t p q) (cond t l m)
    either true p q l m c d = c
    either false p q l m c d = d

module _ (f : Format) where
  -- ---- the moves of psi
  ask_f2_comes : (r : PsiRun) → Sound r.sizes → PsiComes f r.sizes (S.psi_ask_f2 f r.sizes r.u r.c r.y r.so_far) (Move.psi_ask_f2 f r)
  unfolding S.psi_ask_f2 Move.psi_ask_f2 psi_resume
  ask_f2_comes r h =
      either (psi_resume f) psi_tells r.sizes (eqb r.sizes.n2 0) _ _ _ _
      (ends_comes (psi_resume f) psi_tells r PsiPhase.over refl r.so_far)
      (asks_comes (psi_resume f) psi_tells r PsiPhase.f2 (PsiQuestion.f2 r.u) _ _ h refl)

  cost_comes : (r : PsiRun) (x : Float) → Sound r.sizes → PsiComes f r.sizes (S.psi_cost f r.sizes r.u r.c r.y x) (Move.psi_got_cost f x r)
  unfolding S.psi_cost Move.psi_got_cost psi_resume
  cost_comes r x h =
      either (psi_resume f) psi_tells r.sizes (eqb r.sizes.n1 0) _ _ _ _
      (ask_f2_comes (having x r) h)
      (asks_comes (psi_resume f) psi_tells (having x r) PsiPhase.f1 (PsiQuestion.f1 r.u) _ _ h refl)

  f1_comes : (r : PsiRun) (v : List Float) → Sound r.sizes → PsiComes f r.sizes (S.psi_f1 f r.sizes r.u r.c r.y r.so_far v) (Move.psi_got_f1 f v r)
  unfolding S.psi_f1 Move.psi_got_f1 psi_resume
  f1_comes r v h = asks_comes (psi_resume f) psi_tells (with_t (plus_over f (larger r.c (one f)) v r.y) (copied v r)) PsiPhase.project_c (PsiQuestion.project_c (plus_over f (larger r.c (one f)) v r.y)) _ _ h refl

  projection_comes : (r : PsiRun) (v : List Float) → Sound r.sizes → PsiComes f r.sizes (S.psi_c f r.sizes r.u r.c r.y r.so_far r.t v) (Move.psi_got_projection f v r)
  unfolding S.psi_c Move.psi_got_projection
  projection_comes r v h = ask_f2_comes (having (penalized f (squares f (minus f r.t v)) r) (copied v r)) h

  f2_comes : (r : PsiRun) (v : List Float) → Sound r.sizes → PsiComes f r.sizes (S.psi_f2 f r.sizes r.u r.c r.y r.so_far v) (Move.psi_got_f2 f v r)
  unfolding S.psi_f2 Move.psi_got_f2 psi_resume
  f2_comes r v h = ends_comes (psi_resume f) psi_tells (copied v r) PsiPhase.over refl _

  -- ---- the moves of d_psi: nothing lent is written before the end
  module _ (r : DPsiRun) (h : Sound r.sizes) where
    d_asks : (p : DPsiPhase) (q : PsiQuestion) (k : Kind) (continue : Answer k → Process PsiQuestion (List Float)) → d_psi_resume f (at p r) p ≡ ask q k continue
        → DPsiComes f r.sizes (ask q k continue) (asks (asked_of q) p r)
    unfolding lent_after Say.given
    d_asks p q k continue w = record { comes = asks_comes (d_psi_resume f) d_psi_tells r p q k continue h w; result = λ us. refl }

    d_ends : DPsiComes f r.sizes (stop (handed r.so_far.gradient)) (ends tt DPsiPhase.over r)
    unfolding lent_after lent_at Say.given d_psi_resume
    d_ends = record { comes = ends_comes (d_psi_resume f) d_psi_tells r DPsiPhase.over refl r.so_far.gradient; result = λ us. refl }

  d_fails : (r : DPsiRun) (c : ℕ) → DPsiComes f r.sizes (stop (failed c)) (fails c DPsiPhase.over r)
  unfolding lent_after lent_at Say.given d_psi_resume
  d_fails r c = record { comes = fails_comes (d_psi_resume f) d_psi_tells r DPsiPhase.over refl c; result = λ us. refl }

  d_either : (s : S.Sizes) (t : Bool) (p q : Process PsiQuestion (List Float)) (l m : DPsiLeft) → DPsiComes f s p l → DPsiComes f s q m → DPsiComes f s (cond t p q) (cond t l m)
  d_either s true p q l m c d = c
  d_either s false p q l m c d = d

  d_ask_f2_comes : (r : DPsiRun) → Sound r.sizes → DPsiComes f r.sizes (S.d_psi_ask_f2 f r.sizes r.u r.c r.y r.so_far.gradient) (Move.d_psi_ask_f2 f r)
  unfolding S.d_psi_ask_f2 Move.d_psi_ask_f2 d_psi_resume
  d_ask_f2_comes r h = d_either r.sizes (eqb r.sizes.n2 0) _ _ _ _ (d_ends r h) (d_asks r h DPsiPhase.f2 (PsiQuestion.f2 r.u) _ _ refl)

  gradient_comes : (r : DPsiRun) (v : List Float) → Sound r.sizes → DPsiComes f r.sizes (S.d_psi_gradient f r.sizes r.u r.c r.y v) (Move.d_psi_got_gradient f v r)
  unfolding S.d_psi_gradient Move.d_psi_got_gradient d_psi_resume
  gradient_comes r v h =
      d_either r.sizes (eqb r.sizes.n1 0) _ _ _ _ (d_ask_f2_comes (with_gradient f v r) h) (d_asks (with_gradient f v r) h DPsiPhase.f1 (PsiQuestion.f1 r.u) _ _ refl)

  d_f1_comes : (r : DPsiRun) (v : List Float) → Sound r.sizes → DPsiComes f r.sizes (S.d_psi_f1 f r.sizes r.u r.c r.y r.so_far.gradient v) (Move.d_psi_got_f1 f v r)
  unfolding S.d_psi_f1 Move.d_psi_got_f1 d_psi_resume
  d_f1_comes r v h = d_asks (with_t (plus_over f r.c v r.y) (copied v r)) h DPsiPhase.project_c (PsiQuestion.project_c (plus_over f r.c v r.y)) _ _ refl

  -- the first places of what is laid over another list
  laid : (n : ℕ) (x w : List Float) → length x ≡ n → take n (overlay x w) ≡ x
  laid n x w e = take_at x (drop (length x) w) n e

  d_projection_comes : (r : DPsiRun) (v : List Float) → Sound r.sizes → length r.t ≡ r.sizes.n1 → length v ≡ r.sizes.n1
      → DPsiComes f r.sizes (S.d_psi_c f r.sizes r.u r.c r.y r.so_far.gradient r.t v) (Move.d_psi_got_projection f v r)
  unfolding S.d_psi_c Move.d_psi_got_projection d_psi_resume minus
  d_projection_comes r v h a b =
      let w : take r.sizes.n1 (overlay (minus f r.t v) r.so_far.d) ≡ minus f r.t v = laid _ _ _ (zip_size _ _ _ _ a b) in
      d_asks (with_d f (minus f r.t v) (copied v r)) h DPsiPhase.jf1t (PsiQuestion.jf1t r.u (minus f r.t v)) _ _ (rw w)

  jf1t_comes : (r : DPsiRun) (v : List Float) → Sound r.sizes → DPsiComes f r.sizes (S.d_psi_jf1 f r.sizes r.u r.c r.y r.so_far.gradient v) (Move.d_psi_got_jf1t f v r)
  unfolding S.d_psi_jf1 Move.d_psi_got_jf1t
  jf1t_comes r v h = d_ask_f2_comes (added f v r) h

  d_f2_comes : (r : DPsiRun) (v : List Float) → Sound r.sizes → length v ≡ r.sizes.n2 → DPsiComes f r.sizes (S.d_psi_f2 f r.sizes r.u r.c r.y r.so_far.gradient v) (Move.d_psi_got_f2 f v r)
  unfolding S.d_psi_f2 Move.d_psi_got_f2 d_psi_resume
  d_f2_comes r v h b =
      let w : take r.sizes.n2 (overlay v r.so_far.d) ≡ v = laid _ _ _ b in
      d_asks (with_d f v r) h DPsiPhase.jf2t (PsiQuestion.jf2t r.u v) _ _ (rw w)

  jf2t_comes : (r : DPsiRun) (v : List Float) → Sound r.sizes → DPsiComes f r.sizes (S.d_psi_jf2 f r.sizes r.u r.c r.y r.so_far.gradient v) (Move.d_psi_got_jf2t f v r)
  unfolding S.d_psi_jf2 Move.d_psi_got_jf2t
  jf2t_comes r v h = d_ends (added f v r) h

-- ---- the table at an answer
seven_not : {X : Type 0} → ◌≡◌ {A = ℕ} 7 0 → X
seven_not e = absurd (omega arith)

six_not : {X : Type 0} → ◌≡◌ {A = ℕ} 6 0 → X
six_not e = absurd (omega arith)

-- where a test of lengths passes, both are right
places_right : (a b : Bool) → ◌≡◌ {A = ℕ} (cond (a && b) 0 8) 0 → (a && b) ≡ true
places_right true true e = refl
places_right true false e = absurd (omega arith)
places_right false b e = absurd (omega arith)

-- an accepted vector has the length asked
pub accepted_length : (n vs : ℕ) (lent : Bool) → answer_refusal (some (Kind.vector n)) Reply.vector vs lent ≡ 0 → vs ≡ n
unfolding answer_refusal fits_kind given as_vector fits_length fits_places
accepted_length n vs lent e = eqb-true vs n (and_left (eqb vs n) lent (places_right (eqb vs n) lent e))

-- the lent places are right where an answer is accepted
pub accepted_lent : (k : Option Kind) (a : Reply) (vs : ℕ) (lent : Bool) → answer_refusal k a vs lent ≡ 0 → lent ≡ true
unfolding answer_refusal
accepted_lent none a vs lent e = six_not e
accepted_lent (some k) a vs lent e = by (fits_kind k a) e
  where
    by : (t : Bool) → ◌≡◌ {A = ℕ} (cond t (cond (fits_length k a vs && lent) 0 8) 7) 0 → lent ≡ true
    by true w = and_right (fits_length k a vs) lent (places_right (fits_length k a vs) lent w)
    by false w = seven_not w

-- where an answer is accepted a start made the run
pub accepted_at : {P : Type 0} (kind_at : S.Sizes → P → Option Kind) (s : S.Sizes) (p : P) (a : Reply) (vs : ℕ) (lent : Bool) → answer_refusal (waits kind_at s p) a vs lent ≡ 0
    → (Sound s) × (answer_refusal (kind_at s p) a vs lent ≡ 0)
unfolding waits answer_refusal
accepted_at kind_at s p a vs lent = by (sound s)
  where
    by : (t : Bool) → answer_refusal (cond t (kind_at s p) none) a vs lent ≡ 0 → (t ≡ true) × (answer_refusal (kind_at s p) a vs lent ≡ 0)
    by true e = (refl, e)
    by false e = six_not e

-- a refusal leaves the run as it was
pub ruled_refuses : {P V E : Type 0} (k : ℕ) (r : Run P V) (l : Left P V E) → (k ≡ 0 → ⊥) → ruled k r l ≡ refuses k r
unfolding ruled
ruled_refuses zero r l z = absurd (z refl)
ruled_refuses (suc k) r l z = refl

-- what a run waits for is the kind of its question
waits_rest : {P V H : Type 0} (resume : Run P V → P → Process PsiQuestion H) (kind_at : S.Sizes → P → Option Kind) (r : Run P V) → wanted (resume r r.phase) ≡ kind_at r.sizes r.phase
    → wanted (rest resume r) ≡ waits kind_at r.sizes r.phase
unfolding wanted rest waits
waits_rest resume kind_at r e = by (sound r.sizes)
  where
    by : (t : Bool) → wanted (cond t (resume r r.phase) (stop (refused 6))) ≡ cond t (kind_at r.sizes r.phase) none
    by true = e
    by false = refl

module _ (f : Format) where
  -- ---- psi: an answer that nothing refuses
  psi_taken : (r : PsiRun) (p : PsiPhase) (a : Reply) (v : List Float) → Sound r.sizes → answer_refusal (psi_kind_at r.sizes p) a (length v) true ≡ 0
      → PsiComes f r.sizes (accept (psi_resume f r p) a v) (Move.psi_move f p a v r)
  unfolding psi_kind_at answer_refusal fits_kind given as_number as_vector as_decision psi_resume accept replied go_on Move.psi_move
  psi_taken r PsiPhase.over a v h e = six_not e
  psi_taken r PsiPhase.cost (Reply.number x) v h e = cost_comes f r x h
  psi_taken r PsiPhase.cost (Reply.failure c) v h e = fails_comes (psi_resume f) psi_tells r PsiPhase.over refl c
  psi_taken r PsiPhase.cost a v h e = seven_not e
  psi_taken r PsiPhase.f1 Reply.vector v h e = f1_comes f r v h
  psi_taken r PsiPhase.f1 (Reply.failure c) v h e = fails_comes (psi_resume f) psi_tells r PsiPhase.over refl c
  psi_taken r PsiPhase.f1 a v h e = seven_not e
  psi_taken r PsiPhase.project_c Reply.vector v h e = projection_comes f r v h
  psi_taken r PsiPhase.project_c (Reply.failure c) v h e = fails_comes (psi_resume f) psi_tells r PsiPhase.over refl c
  psi_taken r PsiPhase.project_c a v h e = seven_not e
  psi_taken r PsiPhase.f2 Reply.vector v h e = f2_comes f r v h
  psi_taken r PsiPhase.f2 (Reply.failure c) v h e = fails_comes (psi_resume f) psi_tells r PsiPhase.over refl c
  psi_taken r PsiPhase.f2 a v h e = seven_not e

  pub psi_takes : (r : PsiRun) (a : Reply) (v : List Float) → psi_refuses r a (length v) ≡ 0 → PsiTakes f r a v (Move.psi_move f r.phase a v r)
  psi_takes r a v e =
      let w = accepted_at psi_kind_at r.sizes r.phase a (length v) true e in
      rw (rest_sound (psi_resume f) r w.0) (psi_taken r r.phase a v w.0 w.1)

  pub psi_wanted : (r : PsiRun) → wanted (psi_rest f r) ≡ waits psi_kind_at r.sizes r.phase
  unfolding wanted psi_resume psi_kind_at
  psi_wanted r = waits_rest (psi_resume f) psi_kind_at r (by r.phase)
    where
      by : (p : PsiPhase) → wanted (psi_resume f r p) ≡ psi_kind_at r.sizes p
      by PsiPhase.over = refl
      by PsiPhase.cost = refl
      by PsiPhase.f1 = refl
      by PsiPhase.project_c = refl
      by PsiPhase.f2 = refl

  -- a whole answer
  pub psi_answers : (r : PsiRun) (a : Reply) (v : List Float) → PsiAnswers f r a v (psi_answer f a v r)
  unfolding psi_answer ruled
  psi_answers r a v = by (psi_refuses r a (length v)) refl
    where
      by : (m : ℕ) → psi_refuses r a (length v) ≡ m → PsiAnswers f r a v (ruled m r (Move.psi_move f r.phase a v r))
      by zero e =
          record {
            refused = λ k q. absurd (omega (arith, e, ap (λ (o : Option Kind). answer_refusal o a (length v) true) (sym (psi_wanted r)) ∙ q));
            accepted = λ q. psi_takes r a v e;
          }
      by (suc m) e =
          let w : answer_refusal (wanted (psi_rest f r)) a (length v) true ≡ suc m = ap (λ (o : Option Kind). answer_refusal o a (length v) true) (psi_wanted r) ∙ e in
          record { refused = λ k q. (ap Say.Told.refused (sym w ∙ q), refl); accepted = λ q. absurd (omega (arith, w, q)) }

  -- ---- d_psi: an answer that nothing refuses
  d_psi_taken : (r : DPsiRun) (p : DPsiPhase) (a : Reply) (v : List Float) (lent : Bool) → Sound r.sizes → length r.t ≡ r.sizes.n1 → answer_refusal (d_psi_kind_at r.sizes p) a (length v) lent ≡ 0
      → DPsiComes f r.sizes (accept (d_psi_resume f r p) a v) (Move.d_psi_move f p a v r)
  unfolding d_psi_kind_at answer_refusal fits_kind given as_number as_vector as_decision d_psi_resume accept replied go_on Move.d_psi_move
  d_psi_taken r DPsiPhase.over a v lent h t e = six_not e
  d_psi_taken r DPsiPhase.gradient Reply.vector v lent h t e = gradient_comes f r v h
  d_psi_taken r DPsiPhase.gradient (Reply.failure c) v lent h t e = d_fails f r c
  d_psi_taken r DPsiPhase.gradient a v lent h t e = seven_not e
  d_psi_taken r DPsiPhase.f1 Reply.vector v lent h t e = d_f1_comes f r v h
  d_psi_taken r DPsiPhase.f1 (Reply.failure c) v lent h t e = d_fails f r c
  d_psi_taken r DPsiPhase.f1 a v lent h t e = seven_not e
  d_psi_taken r DPsiPhase.project_c Reply.vector v lent h t e = d_projection_comes f r v h t (accepted_length r.sizes.n1 (length v) lent e)
  d_psi_taken r DPsiPhase.project_c (Reply.failure c) v lent h t e = d_fails f r c
  d_psi_taken r DPsiPhase.project_c a v lent h t e = seven_not e
  d_psi_taken r DPsiPhase.jf1t Reply.vector v lent h t e = jf1t_comes f r v h
  d_psi_taken r DPsiPhase.jf1t (Reply.failure c) v lent h t e = d_fails f r c
  d_psi_taken r DPsiPhase.jf1t a v lent h t e = seven_not e
  d_psi_taken r DPsiPhase.f2 Reply.vector v lent h t e = d_f2_comes f r v h (accepted_length r.sizes.n2 (length v) lent e)
  d_psi_taken r DPsiPhase.f2 (Reply.failure c) v lent h t e = d_fails f r c
  d_psi_taken r DPsiPhase.f2 a v lent h t e = seven_not e
  d_psi_taken r DPsiPhase.jf2t Reply.vector v lent h t e = jf2t_comes f r v h
  d_psi_taken r DPsiPhase.jf2t (Reply.failure c) v lent h t e = d_fails f r c
  d_psi_taken r DPsiPhase.jf2t a v lent h t e = seven_not e

  pub d_psi_takes : (r : DPsiRun) (a : Reply) (v : List Float) (us : ℕ) → length r.t ≡ r.sizes.n1 → d_psi_refuses r a (length v) us ≡ 0 → DPsiTakes f r a v (Move.d_psi_move f r.phase a v r)
  d_psi_takes r a v us t e =
      let w = accepted_at d_psi_kind_at r.sizes r.phase a (length v) (eqb us r.sizes.n) e in
      rw (rest_sound (d_psi_resume f) r w.0) (d_psi_taken r r.phase a v (eqb us r.sizes.n) w.0 t w.1)

  pub d_psi_wanted : (r : DPsiRun) → wanted (d_psi_rest f r) ≡ waits d_psi_kind_at r.sizes r.phase
  unfolding wanted d_psi_resume d_psi_kind_at
  d_psi_wanted r = waits_rest (d_psi_resume f) d_psi_kind_at r (by r.phase)
    where
      by : (p : DPsiPhase) → wanted (d_psi_resume f r p) ≡ d_psi_kind_at r.sizes p
      by DPsiPhase.over = refl
      by DPsiPhase.gradient = refl
      by DPsiPhase.f1 = refl
      by DPsiPhase.project_c = refl
      by DPsiPhase.jf1t = refl
      by DPsiPhase.f2 = refl
      by DPsiPhase.jf2t = refl

  -- a whole answer, with the lent result; the vector t of a run has its n1 places
  pub d_psi_answers : (r : DPsiRun) (a : Reply) (v us : List Float) → length r.t ≡ r.sizes.n1 → DPsiAnswers f r a v us (handed_out (d_psi_answer f a v us r) us) (d_psi_answer f a v us r)
  unfolding d_psi_answer ruled Say.given
  d_psi_answers r a v us t = by (d_psi_refuses r a (length v) (length us)) refl
    where
      by : (m : ℕ) → d_psi_refuses r a (length v) (length us) ≡ m → DPsiAnswers f r a v us (handed_out (ruled m r (Move.d_psi_move f r.phase a v r)) us) (ruled m r (Move.d_psi_move f r.phase a v r))
      by zero e =
          let w : DPsiTakes f r a v (Move.d_psi_move f r.phase a v r) = d_psi_takes r a v (length us) t e in
          record {
            refused = λ k q. absurd (omega (arith, e, ap (λ (o : Option Kind). answer_refusal o a (length v) (eqb (length us) r.sizes.n)) (sym (d_psi_wanted r)) ∙ q));
            accepted = λ q. record { comes = w.comes; wrote = sym (w.result us) };
          }
      by (suc m) e =
          let w : answer_refusal (wanted (d_psi_rest f r)) a (length v) (eqb (length us) r.sizes.n) ≡ suc m =
          ap (λ (o : Option Kind). answer_refusal o a (length v) (eqb (length us) r.sizes.n)) (d_psi_wanted r) ∙ e in
          record { refused = λ k q. (ap Say.Told.refused (sym w ∙ q), refl, refl); accepted = λ q. absurd (omega (arith, w, q)) }

-- ---- a start comes to the process that document 01 begins at u and xi, or to its refusal
passed_first : (t : Bool) (k later : ℕ) → unless t (suc k) later ≡ 0 → t ≡ true
unfolding unless
passed_first true k later e = refl
passed_first false k later e = absurd (omega arith)

passed_later : (t : Bool) (k later : ℕ) → unless t (suc k) later ≡ 0 → later ≡ 0
unfolding unless
passed_later true k later e = e
passed_later false k later e = absurd (omega arith)

multipliers_length : (n1 : ℕ) (a b : Bool) → a ≡ eqb n1 0 → (xi : List Float) → length xi ≡ cond (a && b) 0 (n1 + 1) → length (multipliers_in xi) ≡ n1
unfolding multipliers_in
multipliers_length n1 true true z [] e = sym (eqb-true n1 0 (sym z))
multipliers_length n1 true false z [] e = absurd (omega arith)
multipliers_length n1 false b z [] e = absurd (omega arith)
multipliers_length n1 true true z (x ∷ y) e = absurd (omega arith)
multipliers_length n1 true false z (x ∷ y) e = omega arith
multipliers_length n1 false b z (x ∷ y) e = omega arith

xi_short : (n1 : ℕ) (t : Bool) (xis : ℕ) → n1 ≤ 32 → xis ≡ cond t 0 (n1 + 1) → xis ≤ 33
xi_short n1 true xis h e = omega arith
xi_short n1 false xis h e = omega arith

-- what an accepted start says
pub record Started (s : S.Sizes) (us : ℕ) (xi : List Float) : Type 0 where
  pub sound : Sound s
  pub places : us ≡ s.n
  pub xis : length xi ≤ 33
  pub multipliers : length (multipliers_in xi) ≡ s.n1

pub started : (s : S.Sizes) (us : ℕ) (xi : List Float) → psi_refusal s us (length xi) ≡ 0 → Started s us xi
unfolding psi_refusal sizes_right mappings_right sound xi_length
started s us xi e =
    let within = and_right (ltb 0 s.n) _ (passed_first _ 0 _ e) in
    let mappings = passed_first _ 1 _ (passed_later _ 0 _ e) in
    let others = and_right (leb s.n1 32) _ mappings in
    let n1 = and_left (leb s.n1 32) _ mappings in
    let long : length xi ≡ cond (eqb s.n1 0 && eqb s.n2 0) 0 (s.n1 + 1) = eqb-true _ _ (and_left _ _ (and_right (leb s.n2 32) _ others)) in
    record {
      sound = rw (and_left (leb s.n 64) _ within, n1, and_left (leb s.n2 32) _ others);
      places = eqb-true _ _ (and_right (leb s.n 64) _ within);
      xis = xi_short s.n1 (eqb s.n1 0 && eqb s.n2 0) (length xi) (leb-true _ _ n1) long;
      multipliers = multipliers_length s.n1 (eqb s.n1 0) (eqb s.n2 0) refl xi long;
    }

module _ {P V E H : Type 0} (tells : H → E) (resume : Run P V → P → Process PsiQuestion H) (over : P) (s : S.Sizes) (u xi : List Float) (begins : List Float → Left P V E) (p : Process PsiQuestion H) where
  start_comes : ((r : Run P V) → resume r over ≡ stop (refused 6)) → ((b : List Float) → Sound s → Comes tells resume s p (begins b)) → (l : Left P V E) → Starts over s u xi begins l
      → Comes tells resume s (or_refused (psi_refusal s (length u) (length xi)) p) l
  unfolding or_refused Say.saying remains
  start_comes o c l w = by (psi_refusal s (length u) (length xi)) refl
    where
      by : (k : ℕ) → psi_refusal s (length u) (length xi) ≡ k → Comes tells resume s (or_refused k p) l
      by zero e = subst (λ (m : Left P V E). Comes tells resume s p m) (sym (w.accepted e)) (c l.run.beyond (started s (length u) xi e).sound)
      by (suc k) e =
          let q = w.refused k e in
          record { sizes = w.sizes; outcome = q.0; process = rest_over resume l.run (ap (λ (z : P). resume l.run z) q.1 ∙ o l.run) }

module _ (f : Format) (s : S.Sizes) (u xi : List Float) where
  pub psi_starts : (l : PsiLeft) → PsiStarts s u xi l → PsiComes f s (start_psi f s u xi) l
  unfolding start_psi S.psi psi_resume
  psi_starts =
      start_comes psi_tells (psi_resume f) PsiPhase.over s u xi (psi_begun s u xi) (S.psi f s u (penalty_in xi) (multipliers_in xi)) (λ r. refl)
      (λ b h. asks_comes (psi_resume f) psi_tells (begun PsiPhase.cost s null u xi b) PsiPhase.cost (PsiQuestion.cost u) _ _ h refl)

  pub d_psi_starts : (l : DPsiLeft) → DPsiStarts s u xi l → Comes d_psi_tells (d_psi_resume f) s (start_d_psi f s u xi) l
  unfolding start_d_psi S.d_psi d_psi_resume
  d_psi_starts =
      start_comes d_psi_tells (d_psi_resume f) DPsiPhase.over s u xi (d_psi_begun s u xi) (S.d_psi f s u (penalty_in xi) (multipliers_in xi)) (λ r. refl)
      (λ b h. asks_comes (d_psi_resume f) d_psi_tells (begun DPsiPhase.gradient s (record { gradient = zeros s.n; d = zeros 64 }) u xi b) DPsiPhase.gradient (PsiQuestion.gradient u) _ _ h refl)

-- ---- points
module _ (p q xs ys : List Float) where
  pub placed_not_first : (length xs ≡ length p → ⊥) → Placed p q xs xs ys ys 8
  placed_not_first a = record { number = rw (ne_eqb (length xs) _ a); kept = λ i z. (refl, refl); points = λ z. absurd (omega arith) }

  pub placed_not_second : length xs ≡ length p → (length ys ≡ length q → ⊥) → Placed p q xs xs ys ys 8
  placed_not_second a b = record { number = rw (eq-eqb (length xs) _ a, ne_eqb (length ys) _ b); kept = λ i z. (refl, refl); points = λ z. absurd (omega arith) }

  pub placed_both : length xs ≡ length p → length ys ≡ length q → Placed p q xs p ys q 0
  placed_both a b = record { number = rw (eq-eqb (length xs) _ a, eq-eqb (length ys) _ b); kept = λ i z. absurd (omega arith); points = λ z. (refl, refl) }

module _ {P V H : Type 0} (resume : Run P V → P → Process PsiQuestion H) (r : Run P V) (xs xs' ys ys' : List Float) (m : ℕ) where
  -- those of the question that a run waits with
  pub points_at : (q : PsiQuestion) (k : Kind) (continue : Answer k → Process PsiQuestion H) → Sound r.sizes → resume r r.phase ≡ ask q k continue
      → Placed (first_point q) (second_point q) xs xs' ys ys' m → Points (rest resume r) xs xs' ys ys' m
  unfolding asking points_refusal
  points_at q k continue h e g =
      rw (rest_sound resume r h, e)
      (record {
        number = g.number;
        kept = g.kept;
        points = λ z o w. subst (λ (x : PsiQuestion). (xs' ≡ first_point x) × (ys' ≡ second_point x)) (inside q o w) (g.points z);
      })
    where
      inside : (a b : PsiQuestion) → some a ≡ some b → a ≡ b
      inside a b o = cc

-- a run that has ended has none
pub points_none : {H : Type 0} (p : Process PsiQuestion H) (xs ys : List Float) → p ≡ stop (refused 6) → Points p xs xs ys ys 6
unfolding asking points_refusal
points_none p xs ys e = rw e (record { number = refl; kept = λ i z. (refl, refl); points = λ z. absurd (omega arith) })

-- and so has one that no start made
pub rest_unsound : {P V H : Type 0} (resume : Run P V → P → Process PsiQuestion H) (r : Run P V) → sound r.sizes ≡ false → rest resume r ≡ stop (refused 6)
unfolding rest
rest_unsound resume r h = rw h

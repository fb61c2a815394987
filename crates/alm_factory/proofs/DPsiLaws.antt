-- What each way through a handler of d_psi leaves, from what its parts leave. Assumes nothing.
use Rattle.std.proofs.Common.{◌≡◌, refl, sym, ap, subst, true, ◌∙◌, ℕ, ◌≤◌, List, length, eqb, Float, arith, eqb-true, eq-eqb, ne_eqb}
use Rattle.std.specs.Float.{binary64}
use Rattle.std.proofs.Math.Option.{Option}
use Rattle.model.specs.Process.{Kind}
use Rattle.model.specs.Vectors.{minus, plus_times, plus_over}
use Rattle.model.specs.Refusals.{answer_refusal}
use Rattle.model.specs.Refusals as R
use Rattle.board.specs.Board.{vector, write}
use Rattle.board.proofs.Writes.{length_vector, length_write, vector_written}
use Rattle.board.proofs.Loops.{length_minus, length_plus_times, length_plus_over}
use Rattle.machine.specs.Told as Say
use Rattle.machine.specs.Waits.{Stays}
use Rattle.machine.proofs.WaitLaws.{unwritten, not_refused}
use Rattle.machine.specs.PsiRun as M
use Rattle.machine.specs.PsiMoves.{with_gradient, with_d, added, d_psi_move, d_psi_ask_f2, d_psi_got_gradient, d_psi_got_f1, d_psi_got_projection, d_psi_got_jf1t, d_psi_got_f2, d_psi_got_jf2t}
use Rattle.machine.specs.PsiCalls.{waits, d_psi_kind_at, d_psi_refuses, ruled, d_psi_answer}
use Rattle.machine.proofs.PsiLaws.{sound_n, sound_n1, sound_n2, accepted_at, accepted_length, accepted_lent, ruled_refuses}
use Rattle.panoc_engine.specs.declared.outcome.Outcome.TheVariants as O
use Rattle.panoc_engine.specs.declared.outcome.Refusal.{Refusal}
use Rattle.panoc_engine.specs.Told.{refusal_number}
use Rattle.alm_factory.specs.declared.records.DPsi.{DPsi}
use Rattle.alm_factory.specs.declared.records.DPsiMoved.{DPsiMoved}
use Rattle.alm_factory.specs.declared.records.DPsiRun.{DPsiRun}
use Rattle.alm_factory.specs.declared.records.PsiQuestion.TheVariants as Q
use Rattle.alm_factory.specs.declared.records.DPsiPhase.{DPsiPhase}
use Rattle.alm_factory.specs.declared.records.DPsiPhase.TheVariants as P
use Rattle.alm_factory.specs.Values.{sizes_of, d_psi_phase_of, told_of}
use Rattle.alm_factory.specs.Runs.{Y, GRADIENT, D_T, D, D_WORK, d_psi_run, d_psi_left, Stands, DPsiAccepts}
use Rattle.panoc_engine.proofs.Numbers.{refusal_some}
use Rattle.alm_factory.proofs.Boards.{write_gradient, write_d_t, write_d, write_d_work}

-- what is left, from the run that the board stands for
placed : Say.Told M.Asked (Unit {0}) → M.DPsiPhase → M.DPsiRun → M.DPsiLeft
placed t p r = record { told = t; run = M.at p r }

left_of : (s : DPsi) (m : DPsiMoved) (l : List Float) → d_psi_left s m l ≡ placed (told_of m.outcome) (d_psi_phase_of m.phase) (d_psi_run s l)
unfolding d_psi_left d_psi_run placed
left_of s m l = refl

module _ (s : DPsi) (l : List Float) where
  pub f2_none : s.sizes.n2 ≡ 0 → d_psi_left s (record { outcome = O.Ended tt; phase = P.Over }) l ≡ d_psi_ask_f2 binary64 (d_psi_run s l)
  unfolding d_psi_left d_psi_run d_psi_ask_f2
  f2_none z = rw (eq-eqb _ _ z) refl

  pub f2_asked : (s.sizes.n2 ≡ 0 → ⊥) → d_psi_left s (record { outcome = O.Asked Q.F2; phase = P.F2 }) l ≡ d_psi_ask_f2 binary64 (d_psi_run s l)
  unfolding d_psi_left d_psi_run d_psi_ask_f2
  f2_asked z = rw (ne_eqb _ _ z) refl

-- ---- a vector that is taken for the gradient, or for what a product is taken with
module _ (s : DPsi) (l l' v : List Float) (h : Stands 384 s.sizes l) where
  module _ (e : l' ≡ write GRADIENT v l) (q : length v ≡ s.sizes.n) where
    gradient_run : d_psi_run s l' ≡ with_gradient binary64 v (d_psi_run s l)
    gradient_run = rw e (write_gradient s l h v q)

    pub gradient_asks : (s.sizes.n1 ≡ 0 → ⊥) → d_psi_left s (record { outcome = O.Asked Q.F1; phase = P.F1 }) l' ≡ d_psi_got_gradient binary64 v (d_psi_run s l)
    unfolding d_psi_run d_psi_got_gradient placed
    gradient_asks z = rw (ne_eqb _ _ z) (left_of s _ l' ∙ ap (placed (Say.Told.asked M.Asked.f1) M.DPsiPhase.f1) gradient_run)

    pub gradient_goes : (m : DPsiMoved) → s.sizes.n1 ≡ 0 → ((k : List Float) → d_psi_left s m k ≡ d_psi_ask_f2 binary64 (d_psi_run s k))
        → d_psi_left s m l' ≡ d_psi_got_gradient binary64 v (d_psi_run s l)
    unfolding d_psi_run d_psi_got_gradient
    gradient_goes m z a = rw (eq-eqb _ _ z) (a l' ∙ ap (d_psi_ask_f2 binary64) gradient_run)

  pub f2_taken : l' ≡ write D v l → length v ≡ s.sizes.n2 → d_psi_left s (record { outcome = O.Asked Q.Jf2t; phase = P.Jf2t }) l' ≡ d_psi_got_f2 binary64 v (d_psi_run s l)
  unfolding d_psi_run d_psi_got_f2 placed
  f2_taken e q =
      let r : d_psi_run s l' ≡ with_d binary64 v (d_psi_run s l) = rw e (write_d s l h v (omega (arith, h.n2))) in
      left_of s _ l' ∙ ap (placed (Say.Told.asked M.Asked.jf2t) M.DPsiPhase.jf2t) r

-- ---- a vector answered that is copied, and what is worked out with it
module _ (s : DPsi) (l l' v : List Float) (h : Stands 384 s.sizes l) (e : l' ≡ write D_WORK v l) where
  copied_run : length v ≤ 64 → d_psi_run s l' ≡ M.copied v (d_psi_run s l)
  copied_run q = rw e (write_d_work s l h v q)

  copied_stands : length v ≤ 64 → Stands 384 s.sizes l'
  copied_stands q = record { n = h.n; n1 = h.n1; n2 = h.n2; places = ap length e ∙ length_write D_WORK v l (omega (arith, h.places)) ∙ h.places }

  -- F1
  pub f1_taken : (l2 : List Float) → length v ≡ s.sizes.n1 → l2 ≡ write D_T (plus_over binary64 s.c (vector D_WORK s.sizes.n1 l') (vector Y s.sizes.n1 l')) l'
      → d_psi_left s (record { outcome = O.Asked Q.ProjectC; phase = P.ProjectC }) l2 ≡ d_psi_got_f1 binary64 v (d_psi_run s l)
  unfolding d_psi_run d_psi_got_f1 placed
  f1_taken l2 q w =
      let n : length v ≤ 64 = omega (arith, h.n1) in
      let r = copied_run n in
      let y : vector Y s.sizes.n1 l' ≡ vector Y s.sizes.n1 l = ap (λ (z : M.DPsiRun). z.y) r in
      let x : vector D_WORK s.sizes.n1 l' ≡ v = ap (vector D_WORK s.sizes.n1) e ∙ vector_written D_WORK s.sizes.n1 v l q (omega (arith, h.places)) in
      let t : l2 ≡ write D_T (plus_over binary64 s.c v (vector Y s.sizes.n1 l)) l' = rw (← y, ← x) w in
      let k : length (plus_over binary64 s.c v (vector Y s.sizes.n1 l)) ≡ s.sizes.n1 = length_plus_over binary64 s.c v (vector Y s.sizes.n1 l) (q ∙ sym (length_vector Y s.sizes.n1 l)) ∙ q in
      let r2 : d_psi_run s l2 ≡ M.with_t (plus_over binary64 s.c v (vector Y s.sizes.n1 l)) (M.copied v (d_psi_run s l)) =
      ap (d_psi_run s) t ∙ write_d_t s l' (copied_stands n) _ k ∙ ap (M.with_t (plus_over binary64 s.c v (vector Y s.sizes.n1 l))) r in
      left_of s _ l2 ∙ ap (placed (Say.Told.asked M.Asked.project_c) M.DPsiPhase.project_c) r2

  -- the projection of t
  pub projection_taken : (l2 : List Float) → length v ≡ s.sizes.n1 → l2 ≡ write D (minus binary64 (vector D_T (length v) l') v) l'
      → d_psi_left s (record { outcome = O.Asked Q.Jf1t; phase = P.Jf1t }) l2 ≡ d_psi_got_projection binary64 v (d_psi_run s l)
  unfolding d_psi_run d_psi_got_projection placed
  projection_taken l2 q w =
      let n : length v ≤ 64 = omega (arith, h.n1) in
      let r = copied_run n in
      let t : vector D_T s.sizes.n1 l' ≡ vector D_T s.sizes.n1 l = ap (λ (z : M.DPsiRun). z.t) r in
      let x : l2 ≡ write D (minus binary64 (vector D_T s.sizes.n1 l) v) l' = rw (← t, ← q) w in
      let k : length (minus binary64 (vector D_T s.sizes.n1 l) v) ≤ 64 =
      omega (arith, h.n1, length_vector D_T s.sizes.n1 l, length_minus binary64 (vector D_T s.sizes.n1 l) v (length_vector D_T s.sizes.n1 l ∙ sym q)) in
      let r2 : d_psi_run s l2 ≡ with_d binary64 (minus binary64 (vector D_T s.sizes.n1 l) v) (M.copied v (d_psi_run s l)) =
      ap (d_psi_run s) x ∙ write_d s l' (copied_stands n) _ k ∙ ap (with_d binary64 (minus binary64 (vector D_T s.sizes.n1 l) v)) r in
      left_of s _ l2 ∙ ap (placed (Say.Told.asked M.Asked.jf1t) M.DPsiPhase.jf1t) r2

  -- a product
  module _ (l2 : List Float) (q : length v ≡ s.sizes.n) (w : l2 ≡ write GRADIENT (plus_times binary64 s.c (vector GRADIENT (length v) l') v) l') where
    added_run : d_psi_run s l2 ≡ added binary64 v (d_psi_run s l)
    unfolding d_psi_run
    added_run =
        let n : length v ≤ 64 = omega (arith, h.n) in
        let r = copied_run n in
        let g : vector GRADIENT s.sizes.n l' ≡ vector GRADIENT s.sizes.n l = ap (λ (z : M.DPsiRun). z.so_far.gradient) r in
        let x : l2 ≡ write GRADIENT (plus_times binary64 s.c (vector GRADIENT s.sizes.n l) v) l' = rw (← g, ← q) w in
        let k : length (plus_times binary64 s.c (vector GRADIENT s.sizes.n l) v) ≡ s.sizes.n =
        length_plus_times binary64 s.c (vector GRADIENT s.sizes.n l) v (length_vector GRADIENT s.sizes.n l ∙ sym q) ∙ length_vector GRADIENT s.sizes.n l in
        ap (d_psi_run s) x ∙ write_gradient s l' (copied_stands n) _ k ∙ ap (with_gradient binary64 (plus_times binary64 s.c (vector GRADIENT s.sizes.n l) v)) r

    pub jf1t_taken : (m : DPsiMoved) → ((k : List Float) → d_psi_left s m k ≡ d_psi_ask_f2 binary64 (d_psi_run s k)) → d_psi_left s m l2 ≡ d_psi_got_jf1t binary64 v (d_psi_run s l)
    unfolding d_psi_got_jf1t
    jf1t_taken m a = a l2 ∙ ap (d_psi_ask_f2 binary64) added_run

    pub jf2t_taken : d_psi_left s (record { outcome = O.Ended tt; phase = P.Over }) l2 ≡ d_psi_got_jf2t binary64 v (d_psi_run s l)
    unfolding d_psi_got_jf2t placed
    jf2t_taken = left_of s _ l2 ∙ ap (placed (Say.Told.ended tt) M.DPsiPhase.over) added_run

-- ---- an answer

-- where nothing refuses a vector it has the places that the phase asks for
pub vector_fits : (s : DPsi) (l : List Float) (vs : ℕ) → DPsiAccepts s R.Reply.vector vs → length l ≡ 384
    → (Stands 384 s.sizes l) × (s.phase ≡ P.Gradient → vs ≡ s.sizes.n) × (s.phase ≡ P.F1 → vs ≡ s.sizes.n1) × (s.phase ≡ P.ProjectC → vs ≡ s.sizes.n1) × (s.phase ≡ P.Jf1t → vs ≡ s.sizes.n)
    × (s.phase ≡ P.F2 → vs ≡ s.sizes.n2) × (s.phase ≡ P.Jf2t → vs ≡ s.sizes.n)
unfolding d_psi_kind_at
vector_fits s l vs e b =
    let w = accepted_at d_psi_kind_at (sizes_of s.sizes) (d_psi_phase_of s.phase) R.Reply.vector vs true e in
    let at : (p : DPsiPhase) → s.phase ≡ p → answer_refusal (d_psi_kind_at (sizes_of s.sizes) (d_psi_phase_of p)) R.Reply.vector vs true ≡ 0 =
    λ p q. subst (λ (z : DPsiPhase). answer_refusal (d_psi_kind_at (sizes_of s.sizes) (d_psi_phase_of z)) R.Reply.vector vs true ≡ 0) q w.1 in (
      record { n = sound_n (sizes_of s.sizes) w.0; n1 = sound_n1 (sizes_of s.sizes) w.0; n2 = sound_n2 (sizes_of s.sizes) w.0; places = b },
      λ q. accepted_length _ vs true (at P.Gradient q),
      λ q. accepted_length _ vs true (at P.F1 q),
      λ q. accepted_length _ vs true (at P.ProjectC q),
      λ q. accepted_length _ vs true (at P.Jf1t q),
      λ q. accepted_length _ vs true (at P.F2 q),
      λ q. accepted_length _ vs true (at P.Jf2t q),
    )

-- k is what the run waits for; us is the lent result
module _ (s : DPsi) (a : R.Reply) (v us : List Float) (k : Option Kind) (e : k ≡ waits d_psi_kind_at (sizes_of s.sizes) (d_psi_phase_of s.phase)) where
  module _ (z : 0 ≡ answer_refusal k a (length v) (eqb (length us) s.sizes.n)) where
    accepted : answer_refusal (waits d_psi_kind_at (sizes_of s.sizes) (d_psi_phase_of s.phase)) a (length v) (eqb (length us) s.sizes.n) ≡ 0
    accepted = rw (← e) (sym z)

    result_fits : length us ≡ s.sizes.n
    result_fits = eqb-true (length us) s.sizes.n (accepted_lent _ a (length v) _ accepted)

    -- the lent result is as long as asked, and so are all vectors
    pub accepts : (DPsiAccepts s a (length v)) × (length us ≤ 64)
    accepts =
        let t : eqb (length us) s.sizes.n ≡ true = accepted_lent _ a (length v) _ accepted in
        let n = sound_n (sizes_of s.sizes) (accepted_at d_psi_kind_at (sizes_of s.sizes) (d_psi_phase_of s.phase) a (length v) _ accepted).0 in
        let q = result_fits in
        (rw t at accepted, omega arith)

    module _ (l l' : List Float) (m : DPsiMoved) where
      pub answered : d_psi_left s m l' ≡ d_psi_move binary64 (d_psi_phase_of s.phase) a v (d_psi_run s l)
          → record { told = told_of m.outcome; run = d_psi_run (record s { phase = m.phase }) l' } ≡ d_psi_answer binary64 a v us (d_psi_run s l)
      unfolding d_psi_answer d_psi_left d_psi_run ruled
      answered w = rw accepted w

      pub handed : (ws : List Float) → ws ≡ Say.given (told_of m.outcome) (vector GRADIENT (length us) l') us → ws ≡ Say.given (told_of m.outcome) (d_psi_run (record s { phase = m.phase }) l').so_far.gradient us
      unfolding d_psi_run
      handed ws w = w ∙ ap (λ (n : ℕ). Say.given (told_of m.outcome) (vector GRADIENT n l') us) result_fits

  pub refused : (f : Refusal) (l : List Float) → refusal_number f ≡ answer_refusal k a (length v) (eqb (length us) s.sizes.n)
      → record { told = Say.Told.refused (refusal_number f); run = d_psi_run s l } ≡ d_psi_answer binary64 a v us (d_psi_run s l)
  unfolding d_psi_answer d_psi_run ruled
  refused f l z =
      let q : answer_refusal (waits d_psi_kind_at (sizes_of s.sizes) (d_psi_phase_of s.phase)) a (length v) (eqb (length us) s.sizes.n) ≡ refusal_number f = rw (← e) (sym z) in
      rw q (sym (ruled_refuses (refusal_number f) (d_psi_run s l) (d_psi_move binary64 (d_psi_phase_of s.phase) a v (d_psi_run s l)) (refusal_some f)))

  -- a refused answer leaves what it does not write
  pub stays : {R : Type 0} (l : List Float) (x : R) → Stays (d_psi_refuses (d_psi_run s l) a (length v) (length us)) x x
  stays l x = unwritten _ x

  pub stays_not : {R : Type 0} (l : List Float) (x y : R) → 0 ≡ answer_refusal k a (length v) (eqb (length us) s.sizes.n)
      → Stays (d_psi_refuses (d_psi_run s l) a (length v) (length us)) x y
  unfolding d_psi_run
  stays_not l x y z = not_refused _ x y (rw (← e) (sym z))

pub ruleset answers = (accepts, answered, handed, refused, stays)

-- a run by value stays where its parts do
pub run_stays : (k : ℕ) (run : DPsiRun) (s : DPsi) (l : List Float) → Stays k run.d_psi s → Stays k run.board l → Stays k run (record { d_psi = s; board = l })
run_stays k run s l a b = λ j e. let p = a j e in let q = b j e in rw (p, q) refl

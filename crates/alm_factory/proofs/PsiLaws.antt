-- What each way through a handler of psi leaves, from what its parts leave. Assumes nothing.
use Rattle.std.proofs.Common.{◌≡◌, refl, sym, ap, subst, true, ◌∙◌, ℕ, ◌≤◌, List, length, Float, arith, eq-eqb, ne_eqb}
use Rattle.std.specs.Float.{binary64}
use Rattle.std.specs.Float.Ieee.{add, mul, div}
use Rattle.ieee.specs.Numbers.{larger}
use Rattle.ieee.specs.Sums.{squares}
use Rattle.model.specs.Constants.{one, two}
use Rattle.model.specs.Vectors.{minus, plus_over}
use Rattle.std.proofs.Math.Option.{Option}
use Rattle.model.specs.Process.{Kind}
use Rattle.model.specs.Psi as S
use Rattle.model.specs.Refusals.{answer_refusal}
use Rattle.model.specs.Refusals as R
use Rattle.board.specs.Board.{vector, write}
use Rattle.board.proofs.Writes.{length_vector, length_write, vector_written}
use Rattle.board.proofs.Loops.{length_plus_over}
use Rattle.machine.specs.Told as Say
use Rattle.machine.specs.Waits.{Stays}
use Rattle.machine.proofs.WaitLaws.{unwritten, not_refused}
use Rattle.machine.specs.PsiRun as M
use Rattle.machine.proofs.PsiLaws.{sound_n, sound_n1, sound_n2, accepted_at, accepted_length, ruled_refuses}
use Rattle.machine.specs.PsiCalls.{waits, psi_kind_at, psi_refuses, ruled, psi_answer}
use Rattle.machine.specs.PsiMoves.{psi_move, psi_ask_f2, psi_got_cost, psi_got_f1, psi_got_projection, psi_got_f2}
use Rattle.panoc_engine.specs.declared.outcome.Outcome.TheVariants as O
use Rattle.panoc_engine.specs.declared.outcome.Refusal.{Refusal}
use Rattle.panoc_engine.specs.Told.{refusal_number}
use Rattle.alm_factory.specs.declared.records.Psi.{Psi}
use Rattle.alm_factory.specs.declared.records.PsiMoved.{PsiMoved}
use Rattle.alm_factory.specs.declared.records.PsiRun.{PsiRun}
use Rattle.alm_factory.specs.declared.records.PsiQuestion.TheVariants as Q
use Rattle.alm_factory.specs.declared.records.PsiPhase.{PsiPhase}
use Rattle.alm_factory.specs.declared.records.PsiPhase.TheVariants as P
use Rattle.alm_factory.specs.Values.{sizes_of, psi_phase_of, told_of}
use Rattle.alm_factory.specs.Runs.{Y, T, WORK, psi_run, psi_left, Stands, PsiAccepts}
use Rattle.panoc_engine.proofs.Numbers.{refusal_some}
use Rattle.alm_factory.proofs.Boards.{write_t, write_work}

-- the small part with another value
abbrev worth : Float → Psi → Psi
worth x s = record s { value = x }

module _ (s : Psi) (l : List Float) where
  pub f2_none : s.sizes.n2 ≡ 0 → psi_left s (record { outcome = O.Ended s.value; phase = P.Over; value = s.value }) l ≡ psi_ask_f2 binary64 (psi_run s l)
  unfolding psi_left psi_run psi_ask_f2
  f2_none z = rw (eq-eqb _ _ z) refl

  pub f2_asked : (s.sizes.n2 ≡ 0 → ⊥) → psi_left s (record { outcome = O.Asked Q.F2; phase = P.F2; value = s.value }) l ≡ psi_ask_f2 binary64 (psi_run s l)
  unfolding psi_left psi_run psi_ask_f2
  f2_asked z = rw (ne_eqb _ _ z) refl

  pub cost_asks : (x : Float) → (s.sizes.n1 ≡ 0 → ⊥) → psi_left s (record { outcome = O.Asked Q.F1; phase = P.F1; value = x }) l ≡ psi_got_cost binary64 x (psi_run s l)
  unfolding psi_left psi_run psi_got_cost
  cost_asks x z = rw (ne_eqb _ _ z) refl

  pub cost_goes : (x : Float) (m : PsiMoved) → s.sizes.n1 ≡ 0 → psi_left (worth x s) m l ≡ psi_ask_f2 binary64 (psi_run (worth x s) l) → psi_left s m l ≡ psi_got_cost binary64 x (psi_run s l)
  unfolding psi_left psi_run psi_got_cost
  cost_goes x m z e = rw (eq-eqb _ _ z) e

-- what is left, from the run that the board stands for
placed : Say.Told M.Asked Float → M.PsiPhase → Float → M.PsiRun → M.PsiLeft
placed t p x r = record { told = t; run = record r { phase = p; so_far = x } }

left_of : (s : Psi) (m : PsiMoved) (l : List Float) → psi_left s m l ≡ placed (told_of m.outcome) (psi_phase_of m.phase) m.value (psi_run s l)
unfolding psi_left psi_run placed
left_of s m l = refl

-- ---- a vector answered: it is copied to the board
module _ (s : Psi) (l l' v : List Float) (h : Stands 256 s.sizes l) (e : l' ≡ write WORK v l) where
  copied_run : length v ≤ 64 → psi_run s l' ≡ M.copied v (psi_run s l)
  copied_run q = rw e (write_work s l h v q)

  copied_stands : length v ≤ 64 → Stands 256 s.sizes l'
  copied_stands q = record { n = h.n; n1 = h.n1; n2 = h.n2; places = ap length e ∙ length_write WORK v l (omega (arith, h.places)) ∙ h.places }

  copied_vector : (n : ℕ) → length v ≡ n → vector WORK n l' ≡ v
  copied_vector n q = ap (vector WORK n) e ∙ vector_written WORK n v l q (omega (arith, h.places))

  -- F1
  pub f1_taken : (l2 : List Float) (d : Float) → length v ≡ s.sizes.n1 → d ≡ larger s.c (one binary64)
      → l2 ≡ write T (plus_over binary64 d (vector WORK s.sizes.n1 l') (vector Y s.sizes.n1 l')) l'
      → psi_left s (record { outcome = O.Asked Q.ProjectC; phase = P.ProjectC; value = s.value }) l2 ≡ psi_got_f1 binary64 v (psi_run s l)
  unfolding psi_run psi_got_f1 placed
  f1_taken l2 d q c w =
      let n : length v ≤ 64 = omega (arith, h.n1) in
      let r = copied_run n in
      let y : vector Y s.sizes.n1 l' ≡ vector Y s.sizes.n1 l = ap (λ (z : M.PsiRun). z.y) r in
      let t : l2 ≡ write T (plus_over binary64 (larger s.c (one binary64)) v (vector Y s.sizes.n1 l)) l' = rw (← c, ← y, ← (copied_vector s.sizes.n1 q)) w in
      let k : length (plus_over binary64 (larger s.c (one binary64)) v (vector Y s.sizes.n1 l)) ≡ s.sizes.n1 =
      length_plus_over binary64 (larger s.c (one binary64)) v (vector Y s.sizes.n1 l) (q ∙ sym (length_vector Y s.sizes.n1 l)) ∙ q in
      let r2 : psi_run s l2 ≡ M.with_t (plus_over binary64 (larger s.c (one binary64)) v (vector Y s.sizes.n1 l)) (M.copied v (psi_run s l)) =
      ap (psi_run s) t ∙ write_t s l' (copied_stands n) _ k ∙ ap (M.with_t (plus_over binary64 (larger s.c (one binary64)) v (vector Y s.sizes.n1 l))) r in
      left_of s _ l2 ∙ ap (placed (Say.Told.asked M.Asked.project_c) M.PsiPhase.project_c s.value) r2

  -- the projection of t
  pub projection_taken : (x z : Float) (m : PsiMoved) → length v ≡ s.sizes.n1 → x ≡ squares binary64 (minus binary64 (vector T (length v) l') v)
      → z ≡ add binary64 s.value (mul binary64 (div binary64 s.c (two binary64)) x) → ((k : List Float) → psi_left (worth z s) m k ≡ psi_ask_f2 binary64 (psi_run (worth z s) k))
      → psi_left s m l' ≡ psi_got_projection binary64 v (psi_run s l)
  unfolding psi_left psi_run psi_got_projection S.penalized
  projection_taken x z m q c w a =
      let r = copied_run (omega (arith, h.n1)) in
      let t : vector T s.sizes.n1 l' ≡ vector T s.sizes.n1 l = ap (λ (k : M.PsiRun). k.t) r in
      let d : x ≡ squares binary64 (minus binary64 (vector T s.sizes.n1 l) v) = rw (← t, ← q) c in
      a l' ∙ ap (λ (k : M.PsiRun). psi_ask_f2 binary64 (M.having z k)) r
      ∙ ap (λ (k : Float). psi_ask_f2 binary64 (M.having k (M.copied v (psi_run s l)))) (w ∙ ap (λ (k : Float). add binary64 s.value (mul binary64 (div binary64 s.c (two binary64)) k)) d)

  -- F2
  pub f2_taken : (x z : Float) → length v ≡ s.sizes.n2 → x ≡ squares binary64 (vector WORK s.sizes.n2 l') → z ≡ add binary64 s.value (mul binary64 (div binary64 s.c (two binary64)) x)
      → psi_left s (record { outcome = O.Ended z; phase = P.Over; value = s.value }) l' ≡ psi_got_f2 binary64 v (psi_run s l)
  unfolding psi_run psi_got_f2 placed S.penalized
  f2_taken x z q c w =
      let r = copied_run (omega (arith, h.n2)) in
      let d : x ≡ squares binary64 v = c ∙ ap (squares binary64) (copied_vector s.sizes.n2 q) in
      left_of s _ l' ∙ ap (placed (Say.Told.ended z) M.PsiPhase.over s.value) r
      ∙ ap (λ (k : Float). placed (Say.Told.ended k) M.PsiPhase.over s.value (M.copied v (psi_run s l))) (w ∙ ap (λ (k : Float). add binary64 s.value (mul binary64 (div binary64 s.c (two binary64)) k)) d)

-- ---- an answer: where nothing refuses a vector it has the places that the phase asks for
pub vector_fits : (s : Psi) (l : List Float) (vs : ℕ) → PsiAccepts s R.Reply.vector vs → length l ≡ 256
    → (Stands 256 s.sizes l) × (s.phase ≡ P.F1 → vs ≡ s.sizes.n1) × (s.phase ≡ P.ProjectC → vs ≡ s.sizes.n1) × (s.phase ≡ P.F2 → vs ≡ s.sizes.n2)
unfolding psi_kind_at
vector_fits s l vs e b =
    let w = accepted_at psi_kind_at (sizes_of s.sizes) (psi_phase_of s.phase) R.Reply.vector vs true e in
    let at : (p : PsiPhase) → s.phase ≡ p → answer_refusal (psi_kind_at (sizes_of s.sizes) (psi_phase_of p)) R.Reply.vector vs true ≡ 0 =
    λ p q. subst (λ (z : PsiPhase). answer_refusal (psi_kind_at (sizes_of s.sizes) (psi_phase_of z)) R.Reply.vector vs true ≡ 0) q w.1 in (
      record { n = sound_n (sizes_of s.sizes) w.0; n1 = sound_n1 (sizes_of s.sizes) w.0; n2 = sound_n2 (sizes_of s.sizes) w.0; places = b },
      λ q. accepted_length _ vs true (at P.F1 q),
      λ q. accepted_length _ vs true (at P.ProjectC q),
      λ q. accepted_length _ vs true (at P.F2 q),
    )

module _ (s : Psi) (l : List Float) (a : R.Reply) (v : List Float) (k : Option Kind) (e : k ≡ waits psi_kind_at (sizes_of s.sizes) (psi_phase_of s.phase)) where
  pub answered : (l' : List Float) (m : PsiMoved) → 0 ≡ answer_refusal k a (length v) true → psi_left s m l' ≡ psi_move binary64 (psi_phase_of s.phase) a v (psi_run s l)
      → record { told = told_of m.outcome; run = psi_run (record s { phase = m.phase; value = m.value }) l' } ≡ psi_answer binary64 a v (psi_run s l)
  unfolding psi_answer psi_left psi_run ruled
  answered l' m z w = let q : answer_refusal (waits psi_kind_at (sizes_of s.sizes) (psi_phase_of s.phase)) a (length v) true ≡ 0 = rw (← e) (sym z) in rw q w

  pub refused : (f : Refusal) → refusal_number f ≡ answer_refusal k a (length v) true
      → record { told = Say.Told.refused (refusal_number f); run = psi_run s l } ≡ psi_answer binary64 a v (psi_run s l)
  unfolding psi_answer psi_run ruled
  refused f z =
      let q : answer_refusal (waits psi_kind_at (sizes_of s.sizes) (psi_phase_of s.phase)) a (length v) true ≡ refusal_number f = rw (← e) (sym z) in
      rw q (sym (ruled_refuses (refusal_number f) (psi_run s l) (psi_move binary64 (psi_phase_of s.phase) a v (psi_run s l)) (refusal_some f)))

  -- a refused answer leaves what it does not write
  pub stays : {R : Type 0} (x : R) → Stays (psi_refuses (psi_run s l) a (length v)) x x
  stays x = unwritten _ x

  pub stays_not : {R : Type 0} (x y : R) → 0 ≡ answer_refusal k a (length v) true → Stays (psi_refuses (psi_run s l) a (length v)) x y
  unfolding psi_run
  stays_not x y z = not_refused _ x y (rw (← e) (sym z))

-- a run by value stays where its parts do
pub run_stays : (k : ℕ) (run : PsiRun) (s : Psi) (l : List Float) → Stays k run.psi s → Stays k run.board l → Stays k run (record { psi = s; board = l })
run_stays k run s l a b = λ j e. let p = a j e in let q = b j e in rw (p, q) refl

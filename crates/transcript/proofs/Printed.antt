-- What is printed of a question with its points. Assumes nothing.
use Rattle.std.proofs.Common.{◌≡◌, ◌≤◌, ◌+◌, refl, ap, ◌∙◌, ℕ, arith, true, false, Bool, ◌&&◌, cond, eqb, eq-eqb, List, [], ◌∷◌, length, min, take, replicate, Float}
use Rattle.std.proofs.Math.Path.{ap₂}
use Rattle.std.proofs.Math.Option.{Option, none, some}
use Rattle.std.proofs.lemmas.List.{take-replicate, length-replicate}
use Rattle.std.specs.declared.result.Result.{Result}
use Rattle.std.specs.Float.{binary64}
use Rattle.ieee.specs.Numbers.{null}
use Rattle.model.specs.Process.{Process, refused, stop, Question, LoopQuestion, PsiQuestion}
use Rattle.model.specs.Loop.{LoopSettings, xi_of}
use Rattle.model.specs.Refusals.{xi_length}
use Rattle.board.specs.Board.{vector, board_of, U, PLUS, STEP, HALF, FPR, BEST, Y, Y_PLUS}
use Rattle.board.proofs.Writes.{length_vector}
use Rattle.machine.specs.Shown.{Shown, shown}
use Rattle.machine.specs.InnerRun as Inner
use Rattle.machine.specs.InnerRest as InnerRest
use Rattle.machine.specs.InnerAnswer as InnerAnswer
use Rattle.machine.specs.InnerCalls as InnerCalls
use Rattle.machine.specs.InnerCalls.{asking}
use Rattle.machine.specs.LoopRun as Loop
use Rattle.machine.specs.LoopRest as LoopRest
use Rattle.machine.specs.LoopAnswer as LoopAnswer
use Rattle.machine.specs.LoopCalls as LoopCalls
use Rattle.machine.specs.PsiRun as Psi
use Rattle.machine.specs.PsiRest as PsiRest
use Rattle.machine.specs.PsiRest.{psi_resume, d_psi_resume, psi_rest, d_psi_rest}
use Rattle.machine.specs.PsiCalls.{Points, first_point, second_point, points_refusal, places_refusal}
use Rattle.machine.proofs.InnerLaws.{sound_n}
use Rattle.machine.proofs.LoopLaws.{sized_n, sized_n1, sound_sized}
use Rattle.machine.proofs.PsiLaws as PsiLaws
use Rattle.panoc_engine.specs.declared.outcome.Refusal.{Refusal}
use Rattle.panoc_engine.specs.declared.outcome.Refusal.TheVariants as R
use Rattle.panoc_engine.specs.declared.panoc_cache.Solve.{Solve}
use Rattle.panoc_engine.specs.declared.panoc_cache.Phase.{Phase}
use Rattle.panoc_engine.specs.declared.panoc_cache.Phase.TheVariants as P
use Rattle.panoc_engine.specs.Told.{refusal_number, number_in}
use Rattle.panoc_engine.specs.Values.{phase_of}
use Rattle.panoc_engine.specs.Runs.{run_of}
use Rattle.panoc_engine.specs.Places.{first_places, second_places}
use Rattle.panoc_optimizer.specs.Calls.{shows}
use Rattle.alm_engine.specs.declared.alm_cache.Alm.{Alm}
use Rattle.alm_engine.specs.declared.alm_cache.AlmPhase.{AlmPhase}
use Rattle.alm_engine.specs.declared.alm_cache.AlmPhase.TheVariants as A
use Rattle.alm_engine.specs.Values.{loop_settings_of, loop_phase_of}
use Rattle.alm_engine.specs.LoopBoard.{loop_board_of}
use Rattle.alm_engine.specs.LoopRuns.{loop_run}
use Rattle.alm_factory.specs.declared.records.Psi as PsiRecord
use Rattle.alm_factory.specs.declared.records.DPsi as DPsiRecord
use Rattle.alm_factory.specs.declared.records.PsiPhase.{PsiPhase}
use Rattle.alm_factory.specs.declared.records.PsiPhase.TheVariants as S
use Rattle.alm_factory.specs.declared.records.DPsiPhase.{DPsiPhase}
use Rattle.alm_factory.specs.declared.records.DPsiPhase.TheVariants as D
use Rattle.alm_factory.specs.Values.{sizes_of, psi_phase_of, d_psi_phase_of}
use Rattle.alm_factory.specs.Runs as V
use Rattle.alm_factory.specs.Runs.{psi_run, d_psi_run}
use Rattle.alm_factory.proofs.Boards.{take_vector}
use Rattle.transcript.specs.Texts.{shown_text, question_text, refused_text, inner_asked, inner_name, inner_then, loop_asked, loop_name, loop_then, penalty_asked, penalty_name, penalty_then}
use Rattle.transcript.specs.Places.{carried_second, own_first, own_second, loop_first, loop_second, psi_first, d_psi_first, d_psi_second}

-- no refusal has the number 0
pub refused_shown : (r : Refusal) (w t : List ℕ) (p q : List Float) → refused_text (refusal_number r) ≡ shown_text w t (refusal_number r) p q
unfolding shown_text
refused_shown R.Sizes w t p q = refl
refused_shown R.Mappings w t p q = refl
refused_shown R.Limits w t p q = refl
refused_shown R.Tolerances w t p q = refl
refused_shown R.Multipliers w t p q = refl
refused_shown R.Over w t p q = refl
refused_shown R.Kind w t p q = refl
refused_shown R.Lengths w t p q = refl
refused_shown R.FirstCost w t p q = refl
refused_shown R.HalfCost w t p q = refl
refused_shown R.DoubledCost w t p q = refl
refused_shown R.FirstIterate w t p q = refl
refused_shown R.Candidate w t p q = refl
refused_shown R.Plan w t p q = refl
refused_shown R.LastCost w t p q = refl
refused_shown R.OutOfTime w t p q = refl
refused_shown R.Infeasibility w t p q = refl
refused_shown R.InitialGuess w t p q = refl

-- ---- the points of the question that stands are printed where they have so many places, a and b, of which 64 are lent
abbrev Fits : {Q : Type 0} → (Q → List Float) → (Q → List Float) → Option Q → ℕ → ℕ → Type 0
Fits first second none a b = Unit {0}
Fits first second (some q) a b = (min a 64 ≡ length (first q)) × (min b 64 ≡ length (second q))

abbrev InnerFits : Option Question → ℕ → ℕ → Type 0
InnerFits = Fits InnerCalls.first_point InnerCalls.second_point

abbrev LoopFits : Option LoopQuestion → ℕ → ℕ → Type 0
LoopFits = Fits LoopCalls.first_point LoopCalls.second_point

abbrev PsiFits : Option PsiQuestion → ℕ → ℕ → Type 0
PsiFits = Fits first_point second_point

-- what is printed of what a call has put into the slices
abbrev said : List ℕ → List ℕ → Shown → List ℕ
said w t s = shown_text w t s.number s.first s.second

size_lent : (n : ℕ) (z : List Float) → z ≡ replicate 64 null → n ≤ 64 → length (take n z) ≡ n
size_lent n z e h = ap (λ (z : List Float). length (take n z)) e ∙ ap length (take-replicate n 64 null h) ∙ length-replicate n null

module _ (w t : List ℕ) (z z' : List Float) (zero : z ≡ replicate 64 null) (zero' : z' ≡ replicate 64 null) (n m a b : ℕ) (e : n ≡ min a 64) (f : m ≡ min b 64) where
  module _ {Q : Type 0} (first second : Q → List Float) where
    stands : (o : Option Q) → Fits first second o a b → said w t (shown first second o (take n z) (take m z')) ≡ question_text w t first second o
    unfolding shown shown_text question_text
    stands none g = refl
    stands (some q) g =
        let h : n ≤ 64 = omega arith in
        let k : m ≤ 64 = omega arith in
        let x = eq-eqb (length (take n z)) (length (first q)) (size_lent n z zero h ∙ e ∙ g.0) in
        let y = eq-eqb (length (take m z')) (length (second q)) (size_lent m z' zero' k ∙ f ∙ g.1) in
        rw (x, y) refl

  module _ (done : Result (Unit {0}) Refusal) (xs ys : List Float) where
    pub inner_said : (r : Inner.Run) (q : Inner.Asked) → InnerFits (InnerAnswer.question_of r) a b → w ≡ inner_name q → t ≡ inner_then q
        → shows done xs ys ≡ InnerAnswer.points r (take n z) (take m z') → shown_text w t (number_in done) xs ys ≡ inner_asked r q
    unfolding inner_asked InnerAnswer.points
    inner_said r q g c d s =
        ap (λ (s : Shown). said w t s) s ∙ stands InnerCalls.first_point InnerCalls.second_point (InnerAnswer.question_of r) g
        ∙ ap₂ (λ (x y : List ℕ). question_text x y InnerCalls.first_point InnerCalls.second_point (InnerAnswer.question_of r)) c d

    pub loop_said : (r : Loop.Run) (q : Loop.Asked) → LoopFits (LoopAnswer.question_of r) a b → w ≡ loop_name q → t ≡ loop_then q
        → shows done xs ys ≡ LoopAnswer.points r (take n z) (take m z') → shown_text w t (number_in done) xs ys ≡ loop_asked r q
    unfolding loop_asked LoopAnswer.points
    loop_said r q g c d s =
        ap (λ (s : Shown). said w t s) s ∙ stands LoopCalls.first_point LoopCalls.second_point (LoopAnswer.question_of r) g
        ∙ ap₂ (λ (x y : List ℕ). question_text x y LoopCalls.first_point LoopCalls.second_point (LoopAnswer.question_of r)) c d

  -- the same where what a call has put there is said as a relation
  module _ {H : Type 0} (p : Process PsiQuestion H) (k : ℕ) (xs ys : List Float) (g : Points p (take n z) xs (take m z') ys k) where
    related : shown_text w t k xs ys ≡ said w t (shown first_point second_point (asking p) (take n z) (take m z'))
    unfolding shown points_refusal shown_text
    related = by (asking p) refl
      where
        by : (o : Option PsiQuestion) → asking p ≡ o → shown_text w t k xs ys ≡ said w t (shown first_point second_point o (take n z) (take m z'))
        by none e = let n : k ≡ 6 = g.number ∙ ap (λ (o : Option PsiQuestion). points_refusal o (length (take n z)) (length (take m z'))) e in rw n refl
        by (some q) e = test (eqb (length (take n z)) (length (first_point q)) && eqb (length (take m z')) (length (second_point q))) refl
          where
            number : k ≡ places_refusal (first_point q) (second_point q) (length (take n z)) (length (take m z'))
            number = g.number ∙ ap (λ (o : Option PsiQuestion). points_refusal o (length (take n z)) (length (take m z'))) e

            test : (b : Bool) → (eqb (length (take n z)) (length (first_point q)) && eqb (length (take m z')) (length (second_point q))) ≡ b
                → shown_text w t k xs ys ≡ said w t (cond b (record { number = 0; first = first_point q; second = second_point q }) (record { number = 8; first = take n z; second = take m z' }))
            test true j = let n : k ≡ 0 = number ∙ ap (λ (b : Bool). cond b 0 8) j in let h = g.points n q e in let x = h.0 in let y = h.1 in rw (n, x, y) refl
            test false j = let n : k ≡ 8 = number ∙ ap (λ (b : Bool). cond b 0 8) j in rw n refl

    pub penalty_said : (q : Psi.Asked) → PsiFits (asking p) a b → w ≡ penalty_name q → t ≡ penalty_then q → shown_text w t k xs ys ≡ penalty_asked p q
    unfolding penalty_asked
    penalty_said q h c d =
        related ∙ stands first_point second_point (asking p) h ∙ ap₂ (λ (x y : List ℕ). question_text x y first_point second_point (asking p)) c d

-- ---- an inner solve: how many places the points have that stand on a board
module _ (s : Solve) (l : List Float) where
  module _ (h : s.set.n ≤ 64) where
    size : (j : ℕ) → min s.set.n 64 ≡ length (vector j s.set.n l)
    size j = omega (arith, h, length_vector j s.set.n l)

    inner_at : (k : Phase) → InnerFits (InnerAnswer.question_at (run_of s l) (phase_of k)) (first_places s.set.n k) (second_places s.set.n k)
    unfolding run_of board_of
    inner_at P.Over = tt
    inner_at P.Cost = (size U, refl)
    inner_at P.Gradient = (size U, refl)
    inner_at P.Shifted = (size U, refl)
    inner_at P.Project = (size STEP, refl)
    inner_at P.HalfCost = (size HALF, refl)
    inner_at P.DoubledProject = (size STEP, refl)
    inner_at P.DoubledCost = (size HALF, refl)
    inner_at P.Direction = (size FPR, size U)
    inner_at P.FirstCost = (size U, refl)
    inner_at P.FirstGradient = (size U, refl)
    inner_at P.FirstProject = (size STEP, refl)
    inner_at P.TriedCost = (size PLUS, refl)
    inner_at P.TriedGradient = (size PLUS, refl)
    inner_at P.TriedProject = (size STEP, refl)
    inner_at P.Time = (refl, refl)
    inner_at P.LastCost = (size BEST, refl)

  pub inner_fits : InnerFits (InnerAnswer.question_of (run_of s l)) (first_places s.set.n s.phase) (second_places s.set.n s.phase)
  unfolding run_of InnerAnswer.question_of
  inner_fits = by (InnerRest.sound (run_of s l)) refl
    where
      by : (t : Bool) → InnerRest.sound (run_of s l) ≡ t
          → InnerFits (cond t (InnerAnswer.question_at (run_of s l) (phase_of s.phase)) none) (first_places s.set.n s.phase) (second_places s.set.n s.phase)
      by true e = inner_at (sound_n (run_of s l) e) s.phase
      by false e = tt

-- ---- the loop
xi_size : (s : LoopSettings) (c : Float) (y : List Float) → s.n1 ≤ 32 → length y ≡ s.n1 → min (xi_length s.n1 s.n2) 64 ≡ length (xi_of s c y)
unfolding xi_of xi_length
xi_size s c y h e = by (eqb s.n1 0 && eqb s.n2 0)
  where
    by : (t : Bool) → min (cond t 0 (s.n1 + 1)) 64 ≡ length (cond t [] (c ∷ y))
    by true = refl
    by false = omega (arith, h, e)

module _ (s : Alm) (l : List Float) where
  module _ (h : s.set.n ≤ 64) (h1 : s.set.n1 ≤ 32) where
    here : (j : ℕ) → min s.set.n 64 ≡ length (vector j s.set.n (take 576 l))
    here j = omega (arith, h, length_vector j s.set.n (take 576 l))

    here1 : (j : ℕ) → min s.set.n1 64 ≡ length (vector j s.set.n1 l)
    here1 j = omega (arith, h1, length_vector j s.set.n1 l)

    xi : (c : Float) → min (xi_length s.set.n1 s.set.n2) 64 ≡ length (xi_of (loop_settings_of s.set) c (vector Y s.set.n1 l))
    xi c = xi_size (loop_settings_of s.set) c (vector Y s.set.n1 l) h1 (length_vector Y s.set.n1 l)

    abbrev many : ℕ
    many = xi_length s.set.n1 s.set.n2

    -- a question of the inner solve with the xi that it comes with
    abbrev carried : Option Question → Option LoopQuestion
    carried = LoopAnswer.carrying (xi_of (loop_run s l).set (loop_run s l).c (loop_run s l).y)

    carried_at : (k : Phase) → LoopFits (carried (InnerAnswer.question_at (loop_run s l).solve (phase_of k))) (first_places s.set.n k) (carried_second s.set.n many k)
    unfolding loop_run loop_board_of board_of
    carried_at P.Over = tt
    carried_at P.Cost = (here U, xi s.numbers.penalty)
    carried_at P.Gradient = (here U, xi s.numbers.penalty)
    carried_at P.Shifted = (here U, xi s.numbers.penalty)
    carried_at P.Project = (here STEP, refl)
    carried_at P.HalfCost = (here HALF, xi s.numbers.penalty)
    carried_at P.DoubledProject = (here STEP, refl)
    carried_at P.DoubledCost = (here HALF, xi s.numbers.penalty)
    carried_at P.Direction = (here FPR, here U)
    carried_at P.FirstCost = (here U, xi s.numbers.penalty)
    carried_at P.FirstGradient = (here U, xi s.numbers.penalty)
    carried_at P.FirstProject = (here STEP, refl)
    carried_at P.TriedCost = (here PLUS, xi s.numbers.penalty)
    carried_at P.TriedGradient = (here PLUS, xi s.numbers.penalty)
    carried_at P.TriedProject = (here STEP, refl)
    carried_at P.Time = (refl, refl)
    carried_at P.LastCost = (here BEST, xi s.numbers.penalty)

    loop_at : (k : AlmPhase) → LoopFits (LoopAnswer.question_at (loop_run s l) (loop_phase_of k)) (own_first s.set (first_places s.set.n s.solve.phase) k) (own_second many (carried_second s.set.n many s.solve.phase) k)
    unfolding loop_run loop_board_of board_of InnerAnswer.question_of
    loop_at A.Over = tt
    loop_at A.Time = (refl, refl)
    loop_at A.ProjectY = (here1 Y, refl)
    loop_at A.Inner = by (InnerRest.sound (loop_run s l).solve)
      where
        by : (t : Bool) → LoopFits (carried (cond t (InnerAnswer.question_at (loop_run s l).solve (phase_of s.solve.phase)) none))
            (first_places s.set.n s.solve.phase) (carried_second s.set.n many s.solve.phase)
        by true = carried_at s.solve.phase
        by false = tt
    loop_at A.F1 = (here BEST, refl)
    loop_at A.ProjectC = (here1 Y_PLUS, refl)
    loop_at A.F2 = (here BEST, refl)
    loop_at A.LastCost = (here U, xi null)

  pub loop_fits : LoopFits (LoopAnswer.question_of (loop_run s l)) (loop_first s) (loop_second s)
  unfolding loop_run LoopAnswer.question_of
  loop_fits = by (LoopRest.sound (loop_run s l)) refl
    where
      by : (t : Bool) → LoopRest.sound (loop_run s l) ≡ t
          → LoopFits (cond t (LoopAnswer.question_at (loop_run s l) (loop_phase_of s.phase)) none) (loop_first s) (loop_second s)
      by true e = let z = sound_sized (loop_run s l) e in loop_at (sized_n (loop_run s l) z) (sized_n1 (loop_run s l) z) s.phase
      by false e = tt

-- ---- psi and d_psi
module _ (s : PsiRecord.Psi) (l : List Float) where
  psi_at : s.sizes.n ≤ 64 → s.sizes.n1 ≤ 32 → (k : PsiPhase) → PsiFits (asking (psi_resume binary64 (psi_run s l) (psi_phase_of k))) (psi_first s.sizes k) 0
  unfolding psi_run psi_resume asking
  psi_at h h1 S.Over = tt
  psi_at h h1 S.Cost = (omega (arith, length_vector V.U s.sizes.n l), refl)
  psi_at h h1 S.F1 = (omega (arith, length_vector V.U s.sizes.n l), refl)
  psi_at h h1 S.ProjectC = (omega (arith, length_vector V.T s.sizes.n1 l), refl)
  psi_at h h1 S.F2 = (omega (arith, length_vector V.U s.sizes.n l), refl)

  pub psi_fits : PsiFits (asking (psi_rest binary64 (psi_run s l))) (psi_first s.sizes s.phase) 0
  unfolding psi_run PsiRest.rest asking
  psi_fits = by (PsiRest.sound (sizes_of s.sizes)) refl
    where
      by : (t : Bool) → PsiRest.sound (sizes_of s.sizes) ≡ t
          → PsiFits (asking (cond t (psi_resume binary64 (psi_run s l) (psi_phase_of s.phase)) (stop (refused 6)))) (psi_first s.sizes s.phase) 0
      by true e = psi_at (PsiLaws.sound_n (sizes_of s.sizes) e) (PsiLaws.sound_n1 (sizes_of s.sizes) e) s.phase
      by false e = tt

module _ (s : DPsiRecord.DPsi) (l : List Float) where
  module _ (h : s.sizes.n ≤ 64) (h1 : s.sizes.n1 ≤ 32) (h2 : s.sizes.n2 ≤ 32) where
    product : (k : ℕ) → k ≤ 32 → min k 64 ≡ length (take k (vector V.D 64 l))
    product k h = omega (arith, length_vector V.D k l, ap length (take_vector V.D k l (omega arith)))

    d_psi_at : (k : DPsiPhase) → PsiFits (asking (d_psi_resume binary64 (d_psi_run s l) (d_psi_phase_of k))) (d_psi_first s.sizes k) (d_psi_second s.sizes k)
    unfolding d_psi_run d_psi_resume asking
    d_psi_at D.Over = tt
    d_psi_at D.Gradient = (omega (arith, length_vector V.U s.sizes.n l), refl)
    d_psi_at D.F1 = (omega (arith, length_vector V.U s.sizes.n l), refl)
    d_psi_at D.ProjectC = (omega (arith, length_vector V.D_T s.sizes.n1 l), refl)
    d_psi_at D.Jf1t = (omega (arith, length_vector V.U s.sizes.n l), product s.sizes.n1 h1)
    d_psi_at D.F2 = (omega (arith, length_vector V.U s.sizes.n l), refl)
    d_psi_at D.Jf2t = (omega (arith, length_vector V.U s.sizes.n l), product s.sizes.n2 h2)

  pub d_psi_fits : PsiFits (asking (d_psi_rest binary64 (d_psi_run s l))) (d_psi_first s.sizes s.phase) (d_psi_second s.sizes s.phase)
  unfolding d_psi_run PsiRest.rest asking
  d_psi_fits = by (PsiRest.sound (sizes_of s.sizes)) refl
    where
      by : (t : Bool) → PsiRest.sound (sizes_of s.sizes) ≡ t
          → PsiFits (asking (cond t (d_psi_resume binary64 (d_psi_run s l) (d_psi_phase_of s.phase)) (stop (refused 6)))) (d_psi_first s.sizes s.phase) (d_psi_second s.sizes s.phase)
      by true e = d_psi_at (PsiLaws.sound_n (sizes_of s.sizes) e) (PsiLaws.sound_n1 (sizes_of s.sizes) e) (PsiLaws.sound_n2 (sizes_of s.sizes) e) s.phase
      by false e = tt

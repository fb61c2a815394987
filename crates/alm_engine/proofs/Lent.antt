-- The inner solve's board lent out of the loop's: what an answer to the inner solve leaves of the loop. Assumes nothing.
use Rattle.std.proofs.Common.{◌≡◌, refl, ap, sym, subst, ◌∙◌, ℕ, ◌+◌, ◌*◌, ◌-◌, ◌≤◌, true, List, ◌++◌, length, take, drop, Float, arith, length-append, length-drop, length-take-le, drop-drop, drop_at, take_at}
use Rattle.std.specs.Float.{binary64}
use Rattle.model.specs.State.{Settings}
use Rattle.model.specs.Refusals.{Reply, answer_refusal}
use Rattle.board.specs.Board.{vector, Y, Y_PLUS, F1}
use Rattle.machine.specs.InnerRun as InnerRun
use Rattle.machine.specs.InnerRest.{Counted}
use Rattle.machine.specs.InnerAnswer as Inner
use Rattle.machine.specs.LoopRun as L
use Rattle.machine.specs.LoopMoves as Move
use Rattle.machine.specs.LoopAnswer.{wanted_by, answered_at, answered}
use Rattle.machine.specs.LoopRest.{Sound}
use Rattle.machine.proofs.LoopLaws.{counts_n, sound_ready}
use Rattle.machine.proofs.InnerAnswers.{answered_goes}
use Rattle.panoc_engine.specs.declared.panoc_cache.Solve.{Solve}
use Rattle.panoc_engine.specs.Runs.{run_of}
use Rattle.alm_engine.specs.declared.alm_cache.Alm.{Alm}
use Rattle.alm_engine.specs.declared.alm_cache.AlmPhase.TheVariants as P
use Rattle.alm_engine.specs.LoopBoard.{loop_board_of}
use Rattle.alm_engine.specs.LoopRuns.{loop_run, Stands}
use Rattle.alm_engine.proofs.Accepted.{accepts_at, at_phase, stands_at}

module _ (l : List Float) (p : 768 ≤ length l) where
  pub lent_size : 576 ≡ length (take 576 l)
  lent_size = sym (length-take-le 576 l (omega arith))

  -- the board after a call that was lent its first 576 places, which are m now
  module _ (m : List Float) (k : length m ≡ length (take 576 l)) where
    size : length m ≡ 576
    size = k ∙ sym lent_size

    pub places_left : 768 ≤ length (m ++ drop 576 l)
    places_left = let e = size in let d = length-drop 576 l in simp length-append (omega arith)

    outer_vector : (j n : ℕ) → 9 ≤ j → vector j n (m ++ drop 576 l) ≡ vector j n l
    unfolding vector
    outer_vector j n h =
        let f : 64 * j ≡ 576 + (64 * j - 576) = omega arith in
        let d : (x : List Float) → drop (64 * j) x ≡ drop (64 * j - 576) (drop 576 x) = λ x. ap (λ (i : ℕ). drop i x) f ∙ sym (drop-drop (64 * j - 576) 576 x) in
        rw (d (m ++ drop 576 l), d l, drop_at m (drop 576 l) 576 size) refl

    lent_left : (s : Alm) (x : Solve) → x.set.n ≡ s.set.n → loop_run (record s { solve = x }) (m ++ drop 576 l) ≡ L.with_solve (run_of x m) (loop_run s l)
    unfolding loop_run loop_board_of run_of
    lent_left s x e =
        rw (e, take_at m (drop 576 l) 576 size, drop_at m (drop 576 l) 576 size, outer_vector Y s.set.n1 (omega arith), outer_vector Y_PLUS s.set.n1 (omega arith), outer_vector F1 s.set.n1 (omega arith)) refl

module _ (s : Alm) (l : List Float) (a : Reply) where
  -- its inner solve is of the same n, and waits for what the loop waits for
  inner_sound : (vs : ℕ) → s.phase ≡ P.Inner → answer_refusal (wanted_by (loop_run s l)) a vs true ≡ 0 → Sound (loop_run s l) × (answer_refusal (Inner.wanted_by (loop_run s l).solve) a vs true ≡ 0)
  unfolding loop_run
  inner_sound vs e z = accepts_at s l a vs z P.Inner e

  inner_same : (vs : ℕ) → s.phase ≡ P.Inner → answer_refusal (wanted_by (loop_run s l)) a vs true ≡ 0 → s.solve.set.n ≡ s.set.n
  unfolding loop_run
  inner_same vs e z = counts_n (loop_run s l) (sound_ready (loop_run s l) (inner_sound vs e z).0 (rw e refl)).1

  solve_is : s.solve.set.n ≡ s.set.n → (loop_run s l).solve ≡ run_of s.solve (take 576 l)
  unfolding loop_run loop_board_of run_of
  solve_is e = rw e refl

  pub inner_accepted : (vs : ℕ) → s.phase ≡ P.Inner → answer_refusal (wanted_by (loop_run s l)) a vs true ≡ 0 → answer_refusal (Inner.wanted_by (run_of s.solve (take 576 l))) a vs true ≡ 0
  inner_accepted vs e z = ap (λ (r : InnerRun.Run). answer_refusal (Inner.wanted_by r) a vs true) (sym (solve_is (inner_same vs e z))) ∙ (inner_sound vs e z).1

  -- x is what its small part has become, t what it has told, m its board
  module _ (v m : List Float) (vs : ℕ) (t : InnerRun.Told) (x : Solve) (p : 768 ≤ length l) (e : s.phase ≡ P.Inner) (z : answer_refusal (wanted_by (loop_run s l)) a vs true ≡ 0)
      (w : (let y : InnerRun.Left = record { told = t; run = run_of x m } in y) ≡ Inner.answered binary64 (run_of s.solve (take 576 l)) a v) where
    -- that n stays, and its steps are counted
    same_n : x.set.n ≡ s.solve.set.n
    unfolding run_of
    same_n =
        let g = answered_goes binary64 (run_of s.solve (take 576 l)) a v vs true (inner_accepted vs e z) in
        ap (λ (t : Settings). t.n) (ap (λ (t : InnerRun.Left). t.run.set) w ∙ g.comes.settings)

    pub inner_counted : Counted t
    inner_counted =
        let g = answered_goes binary64 (run_of s.solve (take 576 l)) a v vs true (inner_accepted vs e z) in
        subst (λ (t : InnerRun.Left). Counted t.told) (sym w) g.counted

    pub inner_stands : length m ≡ length (take 576 l) → Stands (record s { solve = x }) (m ++ drop 576 l)
    inner_stands k =
        let h = stands_at s l p (accepts_at s l a vs z P.Inner e).0 (rw e refl) in
        record {
          size = h.size;
          size_y = h.size_y;
          size_f2 = h.size_f2;
          outer = h.outer;
          inner = h.inner;
          found = h.found;
          places = places_left l p m k;
        }

    inner_at : Move.inner binary64 (Inner.answered binary64 (run_of s.solve (take 576 l)) a v) (loop_run s l) ≡ answered_at binary64 (loop_run s l) L.Phase.inner a v
    unfolding answered_at
    inner_at = ap (λ (t : InnerRun.Run). Move.inner binary64 (Inner.answered binary64 t a v) (loop_run s l)) (sym (solve_is (inner_same vs e z)))

    pub inner_carried : length m ≡ length (take 576 l) → Move.carried binary64 t (loop_run (record s { solve = x }) (m ++ drop 576 l)) ≡ answered binary64 (loop_run s l) a v
    inner_carried k =
        ap (Move.carried binary64 t) (lent_left l p m k s x (same_n ∙ inner_same vs e z))
        ∙ ap (λ (t : InnerRun.Left). Move.inner binary64 t (loop_run s l)) w
        ∙ inner_at
        ∙ sym (at_phase s l a v P.Inner e)

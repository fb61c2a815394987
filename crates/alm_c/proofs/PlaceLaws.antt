-- Where the points of the question lie. Assumes nothing.
use Rattle.std.proofs.Common.{◌≡◌, refl, ap, sym, subst, ℕ, ◌<◌, ◌≤◌, Bool, true, false, cond, List, [], length, take, Float, arith}
use Rattle.std.proofs.Math.Option.{Option, none, some}
use Rattle.model.specs.Process.{Question, LoopQuestion}
use Rattle.board.specs.Board.{vector, board_of, U, BEST, Y, Y_PLUS}
use Rattle.board.proofs.Loops.{vector_none}
use Rattle.machine.specs.InnerRun as InnerRun
use Rattle.machine.specs.InnerCalls as InnerCalls
use Rattle.machine.specs.InnerAnswer as Inner
use Rattle.machine.specs.LoopRest.{sound, is_last}
use Rattle.machine.specs.LoopCalls.{first_point, direction_point}
use Rattle.machine.specs.LoopAnswer.{carrying, question_at, question_of}
use Rattle.machine.proofs.LoopLaws.{sized_n, sound_sized, sound_ready, counts_n}
use Rattle.panoc_engine.specs.declared.panoc_cache.Phase.{Phase}
use Rattle.panoc_engine.specs.Places.{place_of}
use Rattle.panoc_engine.specs.Runs.{run_at, run_of}
use Rattle.panoc_fields.specs.Fields as Fields
use Rattle.panoc_fields.specs.Reads.{Lies}
use Rattle.panoc_fields.proofs.PlaceLaws.{long, run_lies}
use Rattle.alm_engine.specs.declared.alm_cache.Alm.{Alm}
use Rattle.alm_engine.specs.declared.alm_cache.AlmPhase.{AlmPhase}
use Rattle.alm_engine.specs.declared.alm_cache.AlmPhase.TheVariants as A
use Rattle.alm_engine.specs.Values.{loop_phase_of}
use Rattle.alm_engine.specs.LoopBoard.{loop_board_of}
use Rattle.alm_engine.specs.LoopRuns.{loop_run}
use Rattle.alm_engine.proofs.LoopHeld.{inner_vector}
use Rattle.alm_fields.specs.declared.fields.AlmC.{AlmC}
use Rattle.alm_fields.specs.Fields.{phase_at, alm_at}
use Rattle.alm_c.specs.Reads.{place_at, LoopLies}

abbrev LiesAt : Option LoopQuestion → List Float → ℕ → Type 0
LiesAt = Lies first_point direction_point

none_some : (q : LoopQuestion) → none ≡ some q → ⊥
none_some q e = cc

some_same : {q r : LoopQuestion} → some q ≡ some r → q ≡ r
some_same e = cc

none_lies : (l : List Float) (j : ℕ) → LiesAt none l j
none_lies l j = record { first_lies = λ q e. absurd (none_some q e); direction_lies = λ q e. absurd (none_some q e) }

-- a question of the loop's own
some_lies : (q : LoopQuestion) (l : List Float) (j n : ℕ) → first_point q ≡ vector j n l → direction_point q ≡ [] → LiesAt (some q) l j
some_lies q l j n f d =
    record {
      first_lies = λ r e. let t : q ≡ r = some_same e in rw (← t) (long (first_point q) j n l f);
      direction_lies = λ r e. let t : q ≡ r = some_same e in rw (← t) (rw d (sym (vector_none U l)));
    }

-- one of the inner solve, carried with xi
carried : (xi : List Float) (o : Option Question) (l : List Float) (j : ℕ) → Lies InnerCalls.first_point InnerCalls.second_point o l j → LiesAt (carrying xi o) l j
carried xi none l j h = none_lies l j
carried xi (some q) l j h =
    record {
      first_lies = λ r e. let t : LoopQuestion.inner xi q ≡ r = some_same e in rw (← t) (h.first_lies q refl);
      direction_lies = λ r e. let t : LoopQuestion.inner xi q ≡ r = some_same e in rw (← t) (h.direction_lies q refl);
    }

module _ (s : Alm) (l : List Float) (p : 768 ≤ length l) where
  module _ (h : sound (loop_run s l) ≡ true) where
    size : s.set.n ≤ 64
    unfolding loop_run
    size = sized_n (loop_run s l) (sound_sized (loop_run s l) h)

    here : (j : ℕ) → j < 9 → vector j s.set.n (take 576 l) ≡ vector j s.set.n l
    here j k = inner_vector l (omega arith) j s.set.n k size

    own_lies : (k : AlmPhase) (i : Phase) → (k ≡ A.Inner → ⊥) → LiesAt (question_at (loop_run s l) (loop_phase_of k)) l (place_at k i)
    unfolding loop_run loop_board_of board_of
    own_lies A.Over i n = none_lies l U
    own_lies A.Time i n = some_lies _ l U 0 (sym (vector_none U l)) refl
    own_lies A.ProjectY i n = some_lies _ l Y s.set.n1 refl refl
    own_lies A.Inner i n = absurd (n refl)
    own_lies A.F1 i n = some_lies _ l BEST s.set.n (here BEST (omega arith)) refl
    own_lies A.ProjectC i n = some_lies _ l Y_PLUS s.set.n1 refl refl
    own_lies A.F2 i n = some_lies _ l BEST s.set.n (here BEST (omega arith)) refl
    own_lies A.LastCost i n = some_lies _ l U s.set.n (here U (omega arith)) refl

    inner_lies : s.phase ≡ A.Inner → LiesAt (question_at (loop_run s l) (loop_phase_of A.Inner)) l (place_of s.solve.phase)
    unfolding loop_run loop_board_of run_of
    inner_lies e =
        let c : s.solve.set.n ≡ s.set.n = counts_n (loop_run s l) (sound_ready (loop_run s l) h (ap (λ (k : AlmPhase). is_last (loop_phase_of k)) e)).1 in
        let m : (j k : ℕ) → j < 9 → k ≤ s.solve.set.n → vector j k (take 576 l) ≡ vector j k l = λ j k g i. inner_vector l (omega arith) j k g (omega (arith, i, c, size)) in
        let g : run_of s.solve (take 576 l) ≡ (loop_run s l).solve = ap (λ (n : ℕ). run_at s.solve (board_of n (take 576 l))) c in
        carried _ (Inner.question_of (loop_run s l).solve) l (place_of s.solve.phase)
        (subst (λ (r : InnerRun.Run). Lies InnerCalls.first_point InnerCalls.second_point (Inner.question_of r) l (place_of s.solve.phase)) g (run_lies s.solve (take 576 l) l m))

    lies_at : (k : AlmPhase) → k ≡ s.phase → LiesAt (question_at (loop_run s l) (loop_phase_of k)) l (place_at k s.solve.phase)
    lies_at A.Over e = own_lies A.Over s.solve.phase (λ f. cc)
    lies_at A.Time e = own_lies A.Time s.solve.phase (λ f. cc)
    lies_at A.ProjectY e = own_lies A.ProjectY s.solve.phase (λ f. cc)
    lies_at A.Inner e = inner_lies (sym e)
    lies_at A.F1 e = own_lies A.F1 s.solve.phase (λ f. cc)
    lies_at A.ProjectC e = own_lies A.ProjectC s.solve.phase (λ f. cc)
    lies_at A.F2 e = own_lies A.F2 s.solve.phase (λ f. cc)
    lies_at A.LastCost e = own_lies A.LastCost s.solve.phase (λ f. cc)

  loop_lies : LiesAt (question_of (loop_run s l)) l (place_at s.phase s.solve.phase)
  unfolding question_of loop_run
  loop_lies = by (sound (loop_run s l)) refl
    where
      by : (t : Bool) → sound (loop_run s l) ≡ t → LiesAt (cond t (question_at (loop_run s l) (loop_phase_of s.phase)) none) l (place_at s.phase s.solve.phase)
      by true e = lies_at e s.phase refl
      by false e = none_lies l (place_at s.phase s.solve.phase)

pub lies : (run : AlmC) → 768 ≤ length run.board → (k : AlmPhase) (i : Phase) (j : ℕ) → k ≡ phase_at run.alm.phase → i ≡ Fields.phase_at run.inner.phase → j ≡ place_at k i → LoopLies run j
lies run p k i j e f g = rw (g, e, f) (loop_lies (alm_at run.inner run.alm) run.board p)

-- The points of a question have as many places as `first_places` and `second_places` say. Assumes nothing.
use Rattle.std.proofs.Common.{◌≡◌, refl, ap, sym, subst, ℕ, ◌+◌, ◌≤◌, Bool, true, false, cond, ◌&&◌, eqb, List, length, take, Float, arith}
use Rattle.std.proofs.Math.Option.{Option, none, some}
use Rattle.ieee.specs.Numbers.{null}
use Rattle.model.specs.Process.{Question, LoopQuestion}
use Rattle.model.specs.Loop.{xi_of}
use Rattle.model.specs.Refusals.{xi_length}
use Rattle.board.specs.Board.{vector, board_of, U, PLUS, STEP, HALF, FPR, BEST, Y, Y_PLUS}
use Rattle.board.proofs.Writes.{length_vector}
use Rattle.machine.specs.InnerRest as InnerRest
use Rattle.machine.specs.InnerAnswer as Inner
use Rattle.machine.specs.LoopRest.{sound, is_last}
use Rattle.machine.specs.LoopCalls.{first_point, second_point}
use Rattle.machine.specs.LoopAnswer as Answer
use Rattle.machine.proofs.LoopLaws.{counts_n, sound_ready, sized_n, sized_n1, sound_sized}
use Rattle.panoc_engine.specs.declared.panoc_cache.Phase.{Phase}
use Rattle.panoc_engine.specs.declared.panoc_cache.Phase.TheVariants as P
use Rattle.panoc_engine.specs.Places as Places
use Rattle.panoc_engine.specs.Values.{phase_of}
use Rattle.alm_engine.specs.declared.alm_cache.Alm.{Alm}
use Rattle.alm_engine.specs.declared.alm_cache.AlmPhase.{AlmPhase}
use Rattle.alm_engine.specs.declared.alm_cache.AlmPhase.TheVariants as A
use Rattle.alm_engine.specs.Values.{loop_settings_of, loop_phase_of}
use Rattle.alm_engine.specs.LoopBoard.{loop_board_of}
use Rattle.alm_engine.specs.LoopRuns.{loop_run}
use Rattle.alm_optimizer.specs.Sizes.{carries_xi, first_places_at, inner_second, second_places_at}
use Rattle.alm_optimizer.proofs.Shows.{xi_places}

-- the points of a question have x and y places
abbrev pub Fits : Option LoopQuestion → ℕ → ℕ → Type 0
Fits none x y = Unit {0}
Fits (some q) x y = (length (first_point q) ≡ x) × (length (second_point q) ≡ y)

module _ (s : Alm) (l : List Float) where
  here : (j : ℕ) → length (vector j s.set.n (take 576 l)) ≡ s.set.n
  here j = length_vector j s.set.n (take 576 l)

  xi : (c : Float) → length (xi_of (loop_settings_of s.set) c (vector Y s.set.n1 l)) ≡ xi_length s.set.n1 s.set.n2
  xi c = xi_places s.set c (vector Y s.set.n1 l) (length_vector Y s.set.n1 l)

  -- a question of the inner solve with the xi that it comes with
  abbrev carried : Option Question → Option LoopQuestion
  carried = Answer.carrying (xi_of (loop_run s l).set (loop_run s l).c (loop_run s l).y)

  abbrev many_of : ℕ → Phase → ℕ
  many_of n k = cond (carries_xi k) (xi_length s.set.n1 s.set.n2) (Places.second_places n k)

  abbrev many : Phase → ℕ
  many k = many_of s.set.n k

  carried_fits : (k : Phase) → Fits (carried (Inner.question_at (loop_run s l).solve (phase_of k))) (Places.first_places s.set.n k) (many k)
  unfolding loop_run loop_board_of board_of
  carried_fits P.Over = tt
  carried_fits P.Cost = (here U, xi s.numbers.penalty)
  carried_fits P.Gradient = (here U, xi s.numbers.penalty)
  carried_fits P.Shifted = (here U, xi s.numbers.penalty)
  carried_fits P.Project = (here STEP, refl)
  carried_fits P.HalfCost = (here HALF, xi s.numbers.penalty)
  carried_fits P.DoubledProject = (here STEP, refl)
  carried_fits P.DoubledCost = (here HALF, xi s.numbers.penalty)
  carried_fits P.Direction = (here FPR, here U)
  carried_fits P.FirstCost = (here U, xi s.numbers.penalty)
  carried_fits P.FirstGradient = (here U, xi s.numbers.penalty)
  carried_fits P.FirstProject = (here STEP, refl)
  carried_fits P.TriedCost = (here PLUS, xi s.numbers.penalty)
  carried_fits P.TriedGradient = (here PLUS, xi s.numbers.penalty)
  carried_fits P.TriedProject = (here STEP, refl)
  carried_fits P.Time = (refl, refl)
  carried_fits P.LastCost = (here BEST, xi s.numbers.penalty)

  inner_fits : (t : Bool) → Fits (carried (cond t (Inner.question_at (loop_run s l).solve (phase_of s.solve.phase)) none)) (Places.first_places s.set.n s.solve.phase) (many s.solve.phase)
  inner_fits true = carried_fits s.solve.phase
  inner_fits false = tt

  fits_at : (k : AlmPhase) → (k ≡ A.Inner → s.solve.set.n ≡ s.set.n) → Fits (Answer.question_at (loop_run s l) (loop_phase_of k)) (first_places_at s k) (second_places_at s k)
  unfolding loop_run loop_board_of board_of Inner.question_of
  fits_at A.Over h = tt
  fits_at A.Time h = (refl, refl)
  fits_at A.ProjectY h = (length_vector Y s.set.n1 l, refl)
  fits_at A.Inner h =
      subst (λ (n : ℕ). Fits (Answer.question_at (loop_run s l) (loop_phase_of A.Inner)) (Places.first_places n s.solve.phase) (many_of n s.solve.phase)) (sym (h refl)) (inner_fits (InnerRest.sound (loop_run s l).solve))
  fits_at A.F1 h = (here BEST, refl)
  fits_at A.ProjectC h = (length_vector Y_PLUS s.set.n1 l, refl)
  fits_at A.F2 h = (here BEST, refl)
  fits_at A.LastCost h = (here U, xi null)

  same : sound (loop_run s l) ≡ true → s.phase ≡ A.Inner → s.solve.set.n ≡ s.set.n
  unfolding loop_run
  same e h = counts_n (loop_run s l) ((sound_ready (loop_run s l) e (ap (λ (k : AlmPhase). is_last (loop_phase_of k)) h)).1)

  -- the points that a run waits with
  pub points_fit : Fits (Answer.question_of (loop_run s l)) (first_places_at s s.phase) (second_places_at s s.phase)
  unfolding loop_run Answer.question_of
  points_fit = by (sound (loop_run s l)) refl
    where
      by : (t : Bool) → sound (loop_run s l) ≡ t → Fits (cond t (Answer.question_at (loop_run s l) (loop_phase_of s.phase)) none) (first_places_at s s.phase) (second_places_at s s.phase)
      by true e = fits_at s.phase (same e)
      by false e = tt

-- ---- no point has more than 64 places
pub xi_room : (n1 n2 : ℕ) → n1 ≤ 32 → xi_length n1 n2 ≤ 33
unfolding xi_length
xi_room n1 n2 a = by (eqb n1 0 && eqb n2 0)
  where
    by : (c : Bool) → cond c 0 (n1 + 1) ≤ 33
    by true = omega arith
    by false = omega arith

inner_room : (n x : ℕ) (k : Phase) → n ≤ 64 → x ≤ 33 → (Places.first_places n k ≤ 64) × (cond (carries_xi k) x (Places.second_places n k) ≤ 64) × (Places.second_places n k ≤ 64)
inner_room n x P.Over h w = (omega arith, omega arith, omega arith)
inner_room n x P.Cost h w = (omega arith, omega arith, omega arith)
inner_room n x P.Gradient h w = (omega arith, omega arith, omega arith)
inner_room n x P.Shifted h w = (omega arith, omega arith, omega arith)
inner_room n x P.Project h w = (omega arith, omega arith, omega arith)
inner_room n x P.HalfCost h w = (omega arith, omega arith, omega arith)
inner_room n x P.DoubledProject h w = (omega arith, omega arith, omega arith)
inner_room n x P.DoubledCost h w = (omega arith, omega arith, omega arith)
inner_room n x P.Direction h w = (omega arith, omega arith, omega arith)
inner_room n x P.FirstCost h w = (omega arith, omega arith, omega arith)
inner_room n x P.FirstGradient h w = (omega arith, omega arith, omega arith)
inner_room n x P.FirstProject h w = (omega arith, omega arith, omega arith)
inner_room n x P.TriedCost h w = (omega arith, omega arith, omega arith)
inner_room n x P.TriedGradient h w = (omega arith, omega arith, omega arith)
inner_room n x P.TriedProject h w = (omega arith, omega arith, omega arith)
inner_room n x P.Time h w = (omega arith, omega arith, omega arith)
inner_room n x P.LastCost h w = (omega arith, omega arith, omega arith)

-- of the second point of a question of the inner solve, for any run
second_at_most : (n : ℕ) (k : Phase) → n ≤ 64 → Places.second_places n k ≤ 64
second_at_most n k h = (inner_room n 0 k h (omega arith)).2

pub room_with : (s : Alm) → carries_xi s.solve.phase ≡ true → s.set.n1 ≤ 32 → inner_second s ≤ 33
room_with s e h = let w = xi_room s.set.n1 s.set.n2 h in rw e w

pub room_without : (s : Alm) → carries_xi s.solve.phase ≡ false → s.solve.set.n ≤ 64 → inner_second s ≤ 64
room_without s e h = let w = second_at_most s.solve.set.n s.solve.phase h in rw e w

-- of a run that a start made
module _ (s : Alm) (l : List Float) (e : sound (loop_run s l) ≡ true) where
  size_n : s.set.n ≤ 64
  unfolding loop_run
  size_n = sized_n (loop_run s l) (sound_sized (loop_run s l) e)

  size_n1 : s.set.n1 ≤ 32
  unfolding loop_run
  size_n1 = sized_n1 (loop_run s l) (sound_sized (loop_run s l) e)

  room_at : (k : AlmPhase) → (k ≡ A.Inner → s.solve.set.n ≡ s.set.n) → (first_places_at s k ≤ 64) × (second_places_at s k ≤ 64)
  room_at A.Over h = (omega arith, omega arith)
  room_at A.Time h = (omega arith, omega arith)
  room_at A.ProjectY h = (omega (arith, size_n1), omega arith)
  room_at A.Inner h = let r = inner_room s.solve.set.n (xi_length s.set.n1 s.set.n2) s.solve.phase (omega (arith, h refl, size_n)) (xi_room s.set.n1 s.set.n2 size_n1) in (r.0, r.1)
  room_at A.F1 h = (size_n, omega arith)
  room_at A.ProjectC h = (omega (arith, size_n1), omega arith)
  room_at A.F2 h = (size_n, omega arith)
  room_at A.LastCost h = (size_n, omega (arith, xi_room s.set.n1 s.set.n2 size_n1))

  pub points_room : (first_places_at s s.phase ≤ 64) × (second_places_at s s.phase ≤ 64)
  points_room = room_at s.phase (same s l e)

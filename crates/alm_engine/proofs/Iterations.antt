-- What the beginning of an outer iteration and the end of the loop leave, from what their parts leave. Assumes nothing.
use Rattle.std.proofs.Common.{◌≡◌, refl, ap, sym, ◌∙◌, ℕ, suc, ◌-◌, Bool, true, false, ne_eqb, List, length, Float, arith}
use Rattle.model.specs.Process.{Status, not_converged_iterations, not_converged_out_of_time}
use Rattle.board.specs.Board.{write, Y}
use Rattle.machine.specs.LoopRun.{Run}
use Rattle.machine.specs.LoopMoves as Move
use Rattle.panoc_engine.specs.declared.panoc_cache.ExitStatus.{ExitStatus}
use Rattle.panoc_engine.specs.declared.panoc_cache.ExitStatus.TheVariants.{Converged, NotConvergedIterations, NotConvergedOutOfTime}
use Rattle.panoc_engine.specs.declared.outcome.Refusal.TheVariants as R
use Rattle.panoc_engine.specs.Values.{status_of}
use Rattle.alm_engine.specs.declared.alm_cache.Alm.{Alm}
use Rattle.alm_engine.specs.declared.alm_cache.AlmMoved.{AlmMoved}
use Rattle.alm_engine.specs.declared.alm_cache.AlmMoved.TheVariants.{To, Refused}
use Rattle.alm_engine.specs.declared.alm_cache.AlmPhase.TheVariants as P
use Rattle.alm_engine.specs.LoopRuns.{loop_run, Stands, loop_leaves}
use Rattle.alm_engine.proofs.LoopHeld.{stands, wrote_y}

module _ (s : Alm) (l : List Float) where
  pub concluded : (x : ExitStatus) → loop_leaves (To P.LastCost) (loop_run (record s { counts = record s.counts { status = x } }) l) ≡ Move.conclude (status_of x) (loop_run s l)
  unfolding loop_run loop_leaves Move.conclude
  concluded x = refl

  pub iteration_projects : s.set.has_set_y ≡ true → loop_leaves (To P.ProjectY) (loop_run s l) ≡ Move.iteration (loop_run s l)
  unfolding loop_run loop_leaves Move.iteration
  iteration_projects e = rw e refl

  pub iteration_solves : s.set.has_set_y ≡ false → loop_leaves (To P.Inner) (loop_run s l) ≡ Move.iteration (loop_run s l)
  unfolding loop_run loop_leaves Move.iteration
  iteration_solves e = rw e refl

  pub begins_timed : s.set.limited ≡ true → loop_leaves (To P.Time) (loop_run s l) ≡ Move.begins (loop_run s l)
  unfolding loop_run loop_leaves Move.begins
  begins_timed e = rw e refl

  pub begins_untimed : s.set.limited ≡ false → Move.iteration (loop_run s l) ≡ Move.begins (loop_run s l)
  unfolding loop_run Move.begins
  begins_untimed e = rw e refl

  -- ---- TIME
  pub timed_in : (t : Bool) (m : AlmMoved) → t ≡ true → loop_leaves m (loop_run s l) ≡ Move.iteration (loop_run s l) → loop_leaves m (loop_run (record s { counts = s.counts }) l) ≡ Move.timed t (loop_run s l)
  unfolding Move.timed
  timed_in t m e w = rw e w

  pub timed_first : (t : Bool) → t ≡ false → s.counts.outer.0 ≡ 0 → loop_leaves (Refused R.OutOfTime) (loop_run (record s { counts = s.counts }) l) ≡ Move.timed t (loop_run s l)
  unfolding loop_run loop_leaves Move.timed Move.out_of_time
  timed_first t e z = rw (e, z) refl

  pub timed_out : (t : Bool) → t ≡ false → (s.counts.outer.0 ≡ 0 → ⊥) → Move.conclude not_converged_out_of_time (loop_run s l) ≡ Move.timed t (loop_run s l)
  unfolding loop_run Move.timed Move.out_of_time
  timed_out t e z = let q = ne_eqb s.counts.outer.0 0 z in rw (e, q) refl

  -- ---- the projection on Y
  pub projected_y : Stands s l → (v l' : List Float) → l' ≡ write Y v l → length v ≡ s.set.n1 → loop_leaves (To P.Inner) (loop_run s l') ≡ Move.project_y v (loop_run s l)
  unfolding loop_run loop_leaves Move.project_y
  projected_y h v l' e q = let d = wrote_y (stands s l h) v q e in rw d.is refl

module _ (r : Run) where
  pub next_none : (m : ℕ) (e : Status) → m ≡ 0 → Move.conclude not_converged_iterations r ≡ Move.iterations m e r
  unfolding Move.iterations
  next_none m e z = rw z refl

  late : (m : ℕ) → Move.conclude not_converged_out_of_time r ≡ Move.iterations (suc m) not_converged_out_of_time r
  unfolding Move.iterations
  late m = refl

  pub next_late : (m : ℕ) (x : ExitStatus) → (m ≡ 0 → ⊥) → x ≡ NotConvergedOutOfTime → Move.conclude not_converged_out_of_time r ≡ Move.iterations m (status_of x) r
  next_late m x z e =
      let p : suc (m - 1) ≡ m = omega (arith, z) in
      late (m - 1) ∙ ap (λ (k : ℕ). Move.iterations k not_converged_out_of_time r) p ∙ ap (λ (y : ExitStatus). Move.iterations m (status_of y) r) (sym e)

  goes_on : (m : ℕ) (x : ExitStatus) → (x ≡ NotConvergedOutOfTime → ⊥) → Move.begins (record r { left = m }) ≡ Move.iterations (suc m) (status_of x) r
  unfolding Move.iterations
  goes_on m Converged k = refl
  goes_on m NotConvergedIterations k = refl
  goes_on m NotConvergedOutOfTime k = absurd (k refl)

pub next_begins : (s : Alm) (l : List Float) → (s.counts.left ≡ 0 → ⊥) → (s.counts.status ≡ NotConvergedOutOfTime → ⊥)
    → Move.begins (loop_run (record s { counts = record s.counts { left = s.counts.left - 1 } }) l) ≡ Move.iterations s.counts.left (status_of s.counts.status) (loop_run s l)
unfolding loop_run
next_begins s l z k =
    let p : suc (s.counts.left - 1) ≡ s.counts.left = omega (arith, z) in
    goes_on (loop_run s l) (s.counts.left - 1) s.counts.status k ∙ ap (λ (m : ℕ). Move.iterations m (status_of s.counts.status) (loop_run s l)) p

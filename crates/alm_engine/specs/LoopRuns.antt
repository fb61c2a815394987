-- The run of the machine that an Alm s and a board l stand for, and what the small records leave of it. Definitions only.
use Rattle.std.specs.Prelude.{◌*◌, ◌≤◌, List, Float, length}
use Rattle.std.specs.Float.{binary64}
use Rattle.model.specs.Loop.{next_penalty, next_akkt}
use Rattle.machine.specs.LoopRun as L
use Rattle.machine.specs.LoopMoves as Move
use Rattle.panoc_engine.specs.declared.outcome.Outcome.{Outcome}
use Rattle.panoc_engine.specs.declared.outcome.Stepped.{Stepped}
use Rattle.panoc_engine.specs.Told.{refusal_number}
use Rattle.panoc_engine.specs.Values.{status_of}
use Rattle.panoc_engine.specs.Runs.{run_at}
use Rattle.alm_engine.specs.declared.alm_cache.Alm.{Alm}
use Rattle.alm_engine.specs.declared.alm_cache.AlmPhase.TheVariants as P
use Rattle.alm_engine.specs.declared.alm_cache.AlmMoved.{AlmMoved}
use Rattle.alm_engine.specs.declared.alm_cache.AlmMoved.TheVariants.{To, Refused}
use Rattle.alm_engine.specs.declared.alm_cache.AlmQuestion.{AlmQuestion}
use Rattle.alm_engine.specs.declared.alm_cache.AlmOptimizerStatus.{AlmOptimizerStatus}
use Rattle.alm_engine.specs.declared.alm_cache.Iterated.{Iterated}
use Rattle.alm_engine.specs.declared.alm_cache.Counted.{Counted}
use Rattle.alm_engine.specs.declared.alm_cache.Weighed.{Weighed}
use Rattle.alm_engine.specs.Values.{loop_settings_of, loop_phase_of, loop_asked_at, loop_told_of}
use Rattle.alm_engine.specs.LoopBoard.{LoopBoard, loop_board_of}

-- ---- the run
abbrev pub loop_run_at : Alm → LoopBoard → L.Run
loop_run_at s b =
    record {
      phase = loop_phase_of s.phase;
      set = loop_settings_of s.set;
      status = status_of s.counts.status;
      left = s.counts.left;
      outer = s.counts.outer.0;
      inner = s.counts.inner.0;
      found = s.counts.found.0;
      c = s.numbers.penalty;
      akkt = s.numbers.akkt_tolerance;
      delta_y_norm = s.numbers.delta_y_norm;
      f2_norm = s.numbers.f2_norm;
      delta_y_norm_plus = s.numbers.delta_y_norm_plus;
      f2_norm_plus = s.numbers.f2_norm_plus;
      norm = s.numbers.norm_fpr;
      y = b.y;
      y_plus = b.y_plus;
      f1 = b.f1;
      solve = run_at s.solve b.inner;
      beyond = b.beyond;
    }

-- the inner solve's vectors have the loop's n places, so its run is that of the first 576 places where it is of the same n
unfoldable pub loop_run : Alm → List Float → L.Run
loop_run s l = loop_run_at s (loop_board_of s.set.n s.set.n1 l)

-- a run that a start made: its sizes and its counts are in range, and its board has all its places
pub record Stands (s : Alm) (l : List Float) : Type 0 where
  pub size : s.set.n ≤ 64
  pub size_y : s.set.n1 ≤ 32
  pub size_f2 : s.set.n2 ≤ 32
  pub outer : s.counts.outer.0 ≤ 999
  pub inner : s.counts.inner.0 ≤ 10000 * s.counts.outer.0
  pub found : s.counts.found.0 ≤ 10000
  pub places : 768 ≤ length l

-- ---- what an answer leaves: a question asked, or a refusal that ends the run
unfoldable pub loop_leaves : AlmMoved → L.Run → L.Left
loop_leaves (To P.Inner) r = Move.inner_solve r
loop_leaves (To p) r = L.asks (loop_asked_at p) (loop_phase_of p) r
loop_leaves (Refused k) r = L.stops (refusal_number k) r

-- what a small record leaves, put into s
abbrev pub loop_moved : Alm → AlmMoved → List Float → L.Left
loop_moved s m l = loop_leaves m (loop_run s l)

abbrev pub iterated : Alm → Iterated → List Float → L.Left
iterated s r l = loop_leaves r.moved (loop_run (record s { counts = r.counts }) l)

abbrev pub counted_run : Alm → Counted → List Float → L.Run
counted_run s r l = loop_run (record s { numbers = r.numbers; counts = r.counts }) l

abbrev pub weighed : Alm → Weighed → List Float → L.Left
weighed s r l = loop_leaves r.moved (loop_run (record s { numbers = r.numbers; counts = r.counts }) l)

-- a run whose iteration is done, with this penalty and tolerance; and one whose iteration did not end the loop: c, the inner tolerance and y are the next ones
unfoldable pub done : Float → Float → L.Run → L.Run
done c t r = Move.counted c t r

unfoldable pub renewed : L.Run → L.Run
renewed r = done (next_penalty binary64 r.set (L.found_all r)) (next_akkt binary64 r.set r.akkt) (record r { y = r.y_plus })

-- what an outcome leaves that ends the run
abbrev pub loop_ended : Alm → Outcome AlmQuestion AlmOptimizerStatus → List Float → L.Left
loop_ended s o l = record { told = loop_told_of o; run = loop_run (record s { phase = P.Over }) l }

-- what a call in place leaves
abbrev pub loop_stepped : Stepped (Outcome AlmQuestion AlmOptimizerStatus) Alm → List Float → L.Left
loop_stepped r l = record { told = loop_told_of r.outcome; run = loop_run r.state l }

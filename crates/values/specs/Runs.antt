-- Where the runs of the code stand, and what C sees of one that is started and given a list of answers. Definitions only.
use Rattle.std.specs.Prelude.{ℕ, ◌≡◌, List, Float}
use Rattle.std.specs.Float.{binary64}
use Rattle.machine.specs.Told as Say
use Rattle.machine.specs.Machines.{inner_machine, loop_machine, psi_machine, d_psi_machine}
use Rattle.machine.specs.Numbers.{outcome_number}
use Rattle.machine.specs.InnerAnswer as Inner
use Rattle.machine.specs.InnerRun as InnerRun
use Rattle.machine.specs.LoopAnswer as Loop
use Rattle.machine.specs.LoopRun as LoopRun
use Rattle.machine.specs.PsiRun as Psi
use Rattle.machine.specs.PsiCalls.{PsiStarts, DPsiStarts, Points}
use Rattle.machine.specs.PsiRest.{psi_rest, d_psi_rest}
use Rattle.panoc_engine.specs.declared.outcome.Outcome.{Outcome}
use Rattle.panoc_engine.specs.declared.outcome.Answered.{Answered}
use Rattle.panoc_engine.specs.declared.panoc_cache.Question.{Question}
use Rattle.panoc_engine.specs.declared.panoc_cache.SolverStatus.{SolverStatus}
use Rattle.panoc_engine.specs.declared.panoc_cache.Run.{Run}
use Rattle.panoc_engine.specs.Values.{settings_of}
use Rattle.panoc_engine.specs.Runs.{run_of}
use Rattle.panoc_engine.specs.Blank.{blank}
use Rattle.panoc_optimizer.specs.Calls.{gave, no_places}
use Rattle.alm_engine.specs.declared.alm_cache.AlmQuestion.{AlmQuestion}
use Rattle.alm_engine.specs.declared.alm_cache.AlmOptimizerStatus.{AlmOptimizerStatus}
use Rattle.alm_engine.specs.declared.alm_cache.AlmRun.{AlmRun}
use Rattle.alm_engine.specs.Values.{loop_settings_of}
use Rattle.alm_engine.specs.LoopRuns.{loop_run}
use Rattle.alm_optimizer.specs.Calls.{loop_gave, loop_blank}
use Rattle.alm_optimizer.specs.Calls as Alm
use Rattle.alm_factory.specs.declared.records.PsiQuestion.{PsiQuestion}
use Rattle.alm_factory.specs.declared.records.PsiRun.{PsiRun}
use Rattle.alm_factory.specs.declared.records.DPsiRun.{DPsiRun}
use Rattle.alm_factory.specs.Values.{sizes_of}
use Rattle.alm_factory.specs.Runs.{psi_gave, d_psi_gave}
use Rattle.values.specs.declared.task.Task.{Task}
use Rattle.values.specs.Tasks.{inner_settings, loop_settings, sizes}
use Rattle.values.specs.Feeding.{Stands, fed}

-- ---- an inner solve

abbrev pub InnerStands : Type 0
InnerStands = Stands (inner_machine binary64)

-- a run that a call has left, us being the lent plan
abbrev pub inner_at : InnerRun.Left → List Float → InnerStands
inner_at l us = record { told = l.told; run = l.run; lent = us }

abbrev pub inner_stands : Answered (Outcome Question SolverStatus) Run → List Float → InnerStands
inner_stands r us = inner_at (gave r) us

-- what a start at u leaves, and what the answers lead it to
abbrev pub inner_begun : Task → List Float → InnerRun.Left
inner_begun t u = Inner.start (settings_of (inner_settings t)) u (run_of (blank (inner_settings t)) no_places)

abbrev pub inner_fed : Task → List Float → List ℕ → List Float → List Float → InnerStands
inner_fed t u ks xs us = fed (inner_machine binary64) ks xs (inner_at (inner_begun t u) us)

-- ---- a loop; ws is the lent xi

abbrev pub LoopStands : Type 0
LoopStands = Stands (loop_machine binary64)

abbrev pub loop_at : LoopRun.Left → List Float → List Float → LoopStands
loop_at l us ws = record { told = l.told; run = l.run; lent = record { u = us; xi = ws } }

abbrev pub loop_stands : Answered (Outcome AlmQuestion AlmOptimizerStatus) AlmRun → List Float → List Float → LoopStands
loop_stands r us ws = loop_at (loop_gave r) us ws

abbrev pub loop_begun : Task → List Float → List Float → LoopRun.Left
loop_begun t u xi = Loop.start binary64 (loop_settings_of (loop_settings t)) u xi (loop_run (loop_blank (loop_settings t)) Alm.no_places)

abbrev pub loop_fed : Task → List Float → List Float → List ℕ → List Float → List Float → LoopStands
loop_fed t u xi ks xs us = fed (loop_machine binary64) ks xs (loop_at (loop_begun t u xi) us xi)

-- ---- psi

abbrev pub psi_at : Psi.PsiLeft → Stands (psi_machine binary64)
psi_at l = record { told = l.told; run = l.run; lent = tt }

abbrev pub psi_stands : Answered (Outcome PsiQuestion Float) PsiRun → Stands (psi_machine binary64)
psi_stands r = psi_at (psi_gave r)

-- the number that an end says, was before
abbrev pub value_after : Say.Told Psi.Asked Float → Float → Float
value_after (Say.Told.asked q) was = was
value_after (Say.Told.ended x) was = x
value_after (Say.Told.refused k) was = was
value_after (Say.Told.failed c) was = was

-- a run that begins at u and xi: C sees the number r
pub record PsiBegun (t : Task) (u xi : List Float) (r : ℕ) : Type 0 where
  pub begun : Psi.PsiLeft
  pub starts : PsiStarts (sizes_of (sizes t)) u xi begun
  pub number : r ≡ outcome_number begun.told

-- a run that begins at u and xi is given the answers: C sees the number r, and is in place of was
pub record PsiFed (t : Task) (u xi : List Float) (ks : List ℕ) (xs : List Float) (was is : Float) (r : ℕ) : Type 0 where
  pub begun : Psi.PsiLeft
  pub starts : PsiStarts (sizes_of (sizes t)) u xi begun
  pub number : r ≡ outcome_number (fed (psi_machine binary64) ks xs (psi_at begun)).told
  pub value : is ≡ value_after (fed (psi_machine binary64) ks xs (psi_at begun)).told was

-- the points of its first question are copied
pub record PsiShows (t : Task) (u xi xs xs' ys ys' : List Float) (r : ℕ) : Type 0 where
  pub begun : Psi.PsiLeft
  pub starts : PsiStarts (sizes_of (sizes t)) u xi begun
  pub shows : Points (psi_rest binary64 begun.run) xs xs' ys ys' r

-- ---- d_psi; us is the lent result

abbrev pub d_psi_at : Psi.DPsiLeft → List Float → Stands (d_psi_machine binary64)
d_psi_at l us = record { told = l.told; run = l.run; lent = us }

abbrev pub d_psi_stands : Answered (Outcome PsiQuestion (Unit {0})) DPsiRun → List Float → Stands (d_psi_machine binary64)
d_psi_stands r us = d_psi_at (d_psi_gave r) us

pub record DPsiBegun (t : Task) (u xi : List Float) (r : ℕ) : Type 0 where
  pub begun : Psi.DPsiLeft
  pub starts : DPsiStarts (sizes_of (sizes t)) u xi begun
  pub number : r ≡ outcome_number begun.told

pub record DPsiFed (t : Task) (u xi : List Float) (ks : List ℕ) (xs us ws : List Float) (r : ℕ) : Type 0 where
  pub begun : Psi.DPsiLeft
  pub starts : DPsiStarts (sizes_of (sizes t)) u xi begun
  pub number : r ≡ outcome_number (fed (d_psi_machine binary64) ks xs (d_psi_at begun us)).told
  pub result : ws ≡ (fed (d_psi_machine binary64) ks xs (d_psi_at begun us)).lent

pub record DPsiShows (t : Task) (u xi xs xs' ys ys' : List Float) (r : ℕ) : Type 0 where
  pub begun : Psi.DPsiLeft
  pub starts : DPsiStarts (sizes_of (sizes t)) u xi begun
  pub shows : Points (d_psi_rest binary64 begun.run) xs xs' ys ys' r

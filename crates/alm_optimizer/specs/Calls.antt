-- What the calls of the loop give, as the machine has it. Definitions only.
use Rattle.std.specs.Prelude.{ℕ, List, [], ◌∷◌, length, replicate, Float}
use Rattle.ieee.specs.Numbers.{null}
use Rattle.board.specs.Board.{vector}
use Rattle.machine.specs.LoopRun as L
use Rattle.panoc_engine.specs.declared.outcome.Outcome.{Outcome}
use Rattle.panoc_engine.specs.declared.panoc_cache.ExitStatus.TheVariants.{Converged}
use Rattle.panoc_engine.specs.declared.outcome.Answered.{Answered}
use Rattle.alm_engine.specs.declared.alm_cache.AlmSettings.{AlmSettings}
use Rattle.alm_engine.specs.declared.alm_cache.AlmPhase.TheVariants.{Over}
use Rattle.alm_engine.specs.declared.alm_cache.Alm.{Alm}
use Rattle.alm_engine.specs.declared.alm_cache.AlmQuestion.{AlmQuestion}
use Rattle.alm_engine.specs.declared.alm_cache.AlmOptimizerStatus.{AlmOptimizerStatus}
use Rattle.alm_engine.specs.declared.alm_cache.AlmRun.{AlmRun}
use Rattle.panoc_engine.specs.Blank.{blank}
use Rattle.alm_engine.specs.Values.{inner_given, loop_told_of}
use Rattle.alm_engine.specs.LoopRuns.{loop_run}

-- what a call by value gives
abbrev pub loop_gave : Answered (Outcome AlmQuestion AlmOptimizerStatus) AlmRun → L.Left
loop_gave r = record { told = loop_told_of r.outcome; run = loop_run r.run.alm r.run.board }

-- a board of zeros
unfoldable pub no_places : List Float
no_places = replicate 768 null

-- the small part of a run that has not begun; its numbers are worked out later
abbrev pub loop_blank : AlmSettings → Alm
loop_blank set =
    record {
      phase = Over;
      set = set;
      numbers =
          record {
            penalty = null;
            akkt_tolerance = set.initial_inner_tolerance;
            delta_y_norm = null;
            f2_norm = null;
            delta_y_norm_plus = null;
            f2_norm_plus = null;
            norm_fpr = null;
          };
      counts = record { left = 0; outer = record { 0 = 0 }; inner = record { 0 = 0 }; found = record { 0 = 0 }; status = Converged };
      solve = blank (inner_given set set.initial_inner_tolerance);
    }

-- the lent xi with the penalty c in its place 0, if it has one, and the first places of vector j from place 1 on
unfoldable pub xi_filled : ℕ → Float → List Float → List Float → List Float
xi_filled j c l [] = []
xi_filled j c l (x ∷ xs) = c ∷ vector j (length xs) l

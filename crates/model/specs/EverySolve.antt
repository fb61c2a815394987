-- Every way through an inner solve: what it scores, what it hands back, how it counts, shown by one walk through its continuations. Assumes nothing.
use Prim.Native.Nat.{ℕ, ◌+◌}
use Rattle.std.specs.Prelude.{◌≡◌, List, []}
use Rattle.std.specs.Float.{Format}
use Rattle.model.specs.Process.{Handed}
use Rattle.model.specs.State.{Settings}
use Rattle.model.specs.Paths.{Watch, both}
use Rattle.model.specs.Scoring.{Seen, Latest, nothing_yet, tracing}
use Rattle.model.specs.Counts.{Tally, counting}
use Rattle.model.specs.Least.{Scored}
use Rattle.model.specs.Plans.{scoring, SolvePlan}

-- ---- all three watches at once

abbrev pub Trail : Type 0
Trail = Latest × (List Scored × Tally)

abbrev pub watching : {Q : Type 0} → Format → (Q → Seen) → Watch Q Trail
watching f view = both (tracing f view) (both scoring counting)

-- what is known at the end of a solve that is the a-th, b half steps having been scored before it; G is what the plan asks of the start
pub record SolveEnd (s : Settings) (G : Type 0) (a b : ℕ) (x : Trail) (h : Handed) : Type 0 where
  pub plan : G → SolvePlan s x.1.0 h
  pub solves : x.1.1.solves ≡ a
  pub scores : x.1.1.scores ≡ b + (h.iterations + 2)

-- ---- the theorems

-- before the first solve of a run
unfoldable pub no_trail : Trail
no_trail = (nothing_yet, ([], record { solves = 0; scores = 0 }))

-- Every way through the multiplier loop: what it scores, what it hands back, how it counts, shown by one walk through its continuations over that of the inner solve. Assumes nothing.
use Prim.Native.Nat.{◌≤◌}
use Rattle.std.specs.Prelude.{◌≡◌}
use Rattle.std.specs.Float.{Format}
use Rattle.model.specs.Process.{converged, LoopHanded}
use Rattle.model.specs.Loop.{LoopSettings}
use Rattle.model.specs.Counts.{LoopCount}
use Rattle.model.specs.Plans.{ExitPassed, LoopPlan}
use Rattle.model.specs.EverySolve.{Trail}

-- what is known at the end of the loop; G is what the plan asks of the start
pub record LoopEnd (f : Format) (s : LoopSettings) (G : Type 0) (x : Trail) (h : LoopHanded) : Type 0 where
  pub plan : G → LoopPlan f s x.1.0 h
  pub exit : h.status ≡ converged → ExitPassed f s h
  pub most : h.outer ≤ s.outer
  pub count : LoopCount x.1.1 h

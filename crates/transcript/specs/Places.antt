-- How many places the points of a question have, by what a run waits for; those of an inner solve are panoc_optimizer's. Definitions only.
use Rattle.std.specs.Prelude.{ℕ}
use Rattle.model.specs.Refusals.{xi_length}
use Rattle.panoc_engine.specs.declared.panoc_cache.Phase.{Phase}
use Rattle.panoc_engine.specs.declared.panoc_cache.Phase.TheVariants as P
use Rattle.panoc_engine.specs.Places.{first_places}
use Rattle.alm_engine.specs.declared.alm_cache.Alm.{Alm}
use Rattle.alm_engine.specs.declared.alm_cache.AlmSettings.{AlmSettings}
use Rattle.alm_engine.specs.declared.alm_cache.AlmPhase.{AlmPhase}
use Rattle.alm_engine.specs.declared.alm_cache.AlmPhase.TheVariants as A
use Rattle.alm_factory.specs.declared.records.Sizes.{Sizes}
use Rattle.alm_factory.specs.declared.records.PsiPhase.{PsiPhase}
use Rattle.alm_factory.specs.declared.records.PsiPhase.TheVariants as Psi
use Rattle.alm_factory.specs.declared.records.DPsiPhase.{DPsiPhase}
use Rattle.alm_factory.specs.declared.records.DPsiPhase.TheVariants as DPsi

-- the second point of a question of the inner solve that the loop carries: u for DIRECTION, xi for COST and GRADIENT, n and x places
abbrev pub carried_second : ℕ → ℕ → Phase → ℕ
carried_second n x P.Over = 0
carried_second n x P.Project = 0
carried_second n x P.DoubledProject = 0
carried_second n x P.FirstProject = 0
carried_second n x P.TriedProject = 0
carried_second n x P.Time = 0
carried_second n x P.Direction = n
carried_second n x _ = x

-- the loop's, where the inner solve's have i
abbrev pub own_first : AlmSettings → ℕ → AlmPhase → ℕ
own_first s i A.Over = 0
own_first s i A.Time = 0
own_first s i A.ProjectY = s.n1
own_first s i A.Inner = i
own_first s i A.F1 = s.n
own_first s i A.ProjectC = s.n1
own_first s i A.F2 = s.n
own_first s i A.LastCost = s.n

abbrev pub own_second : ℕ → ℕ → AlmPhase → ℕ
own_second x i A.Inner = i
own_second x i A.LastCost = x
own_second x i _ = 0

abbrev pub loop_first : Alm → ℕ
loop_first s = own_first s.set (first_places s.set.n s.solve.phase) s.phase

abbrev pub loop_second : Alm → ℕ
loop_second s = own_second (xi_length s.set.n1 s.set.n2) (carried_second s.set.n (xi_length s.set.n1 s.set.n2) s.solve.phase) s.phase

-- those of psi, which have no second, and of d_psi
abbrev pub psi_first : Sizes → PsiPhase → ℕ
psi_first s Psi.ProjectC = s.n1
psi_first s _ = s.n

abbrev pub d_psi_first : Sizes → DPsiPhase → ℕ
d_psi_first s DPsi.ProjectC = s.n1
d_psi_first s _ = s.n

abbrev pub d_psi_second : Sizes → DPsiPhase → ℕ
d_psi_second s DPsi.Jf1t = s.n1
d_psi_second s DPsi.Jf2t = s.n2
d_psi_second s _ = 0

-- How many places the points of the loop's question have, by the phase of the run. Definitions only.
use Rattle.std.specs.Prelude.{ℕ, Bool, true, false, cond}
use Rattle.ieee.specs.Numbers.{null}
use Rattle.model.specs.Refusals.{xi_length}
use Rattle.panoc_engine.specs.declared.panoc_cache.Phase.{Phase}
use Rattle.panoc_engine.specs.Places as Inner
use Rattle.alm_engine.specs.declared.alm_cache.Alm.{Alm}
use Rattle.alm_engine.specs.declared.alm_cache.AlmPhase.{AlmPhase}
use Rattle.alm_engine.specs.declared.alm_cache.AlmPhase.TheVariants as A
use Rattle.alm_optimizer.specs.declared.showing.Second.{Second}
use Rattle.alm_optimizer.specs.declared.showing.Second.TheVariants.{Nothing, Iterate, Xi}
use Rattle.alm_optimizer.specs.Points.{carried_at}

-- whether a second point is a xi
abbrev pub is_xi : Second → Bool
is_xi Nothing = false
is_xi Iterate = false
is_xi (Xi c) = true

-- COST and GRADIENT come with xi
abbrev pub carries_xi : Phase → Bool
carries_xi p = is_xi (carried_at null p)

-- the places of the first and of the second point
abbrev pub first_places_at : Alm → AlmPhase → ℕ
first_places_at s A.Over = 0
first_places_at s A.Time = 0
first_places_at s A.ProjectY = s.set.n1
first_places_at s A.Inner = Inner.first_places s.solve.set.n s.solve.phase
first_places_at s A.F1 = s.set.n
first_places_at s A.ProjectC = s.set.n1
first_places_at s A.F2 = s.set.n
first_places_at s A.LastCost = s.set.n

abbrev pub inner_second : Alm → ℕ
inner_second s = cond (carries_xi s.solve.phase) (xi_length s.set.n1 s.set.n2) (Inner.second_places s.solve.set.n s.solve.phase)

abbrev pub second_places_at : Alm → AlmPhase → ℕ
second_places_at s A.Over = 0
second_places_at s A.Time = 0
second_places_at s A.ProjectY = 0
second_places_at s A.Inner = inner_second s
second_places_at s A.F1 = 0
second_places_at s A.ProjectC = 0
second_places_at s A.F2 = 0
second_places_at s A.LastCost = xi_length s.set.n1 s.set.n2

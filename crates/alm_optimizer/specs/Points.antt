-- The points of the question of a run: where they lie, and what a call gives that copies them. Definitions only.
use Rattle.std.specs.Prelude.{ℕ, ◌+◌, ◌*◌, ◌≤◌, List, [], length, Float}
use Rattle.std.specs.Prelude as Std
use Rattle.std.specs.declared.result.Result.{Result}
use Rattle.std.proofs.Math.Option.{Option, none, some}
use Rattle.ieee.specs.Numbers.{null}
use Rattle.model.specs.Process.{LoopQuestion}
use Rattle.model.specs.Loop.{xi_of}
use Rattle.model.specs.Refusals.{xi_length}
use Rattle.board.specs.Board.{vector, U, BEST, Y, Y_PLUS}
use Rattle.machine.specs.Shown.{Shown}
use Rattle.machine.specs.LoopCalls.{first_point, second_point}
use Rattle.panoc_engine.specs.declared.panoc_cache.Phase.{Phase}
use Rattle.panoc_engine.specs.declared.panoc_cache.Phase.TheVariants as P
use Rattle.panoc_engine.specs.declared.outcome.Refusal.{Refusal}
use Rattle.panoc_engine.specs.Told.{number_in}
use Rattle.panoc_engine.specs.Places.{place_of, first_places}
use Rattle.alm_engine.specs.declared.alm_cache.AlmSettings.{AlmSettings}
use Rattle.alm_engine.specs.declared.alm_cache.AlmPhase.{AlmPhase}
use Rattle.alm_engine.specs.declared.alm_cache.AlmPhase.TheVariants as A
use Rattle.alm_engine.specs.Values.{loop_settings_of}
use Rattle.alm_optimizer.specs.Calls.{xi_filled}
use Rattle.alm_optimizer.specs.declared.showing.Second.{Second}
use Rattle.alm_optimizer.specs.declared.showing.Second.TheVariants.{Nothing, Iterate, Xi}
use Rattle.alm_optimizer.specs.declared.showing.Located.{Located}

abbrev pub point : ℕ → ℕ → Second → Std.Option Located
point j n second = Std.Some (record { from = j; places = n; second = second })

-- of a question of the inner solve, c being the penalty: COST and GRADIENT have xi, DIRECTION has u
abbrev pub carried_at : Float → Phase → Second
carried_at c P.Over = Nothing
carried_at c P.Cost = Xi c
carried_at c P.Gradient = Xi c
carried_at c P.Shifted = Xi c
carried_at c P.Project = Nothing
carried_at c P.HalfCost = Xi c
carried_at c P.DoubledProject = Nothing
carried_at c P.DoubledCost = Xi c
carried_at c P.Direction = Iterate
carried_at c P.FirstCost = Xi c
carried_at c P.FirstGradient = Xi c
carried_at c P.FirstProject = Nothing
carried_at c P.TriedCost = Xi c
carried_at c P.TriedGradient = Xi c
carried_at c P.TriedProject = Nothing
carried_at c P.Time = Nothing
carried_at c P.LastCost = Xi c

abbrev pub inner_points : ℕ → Float → Phase → Std.Option Located
inner_points n c P.Over = Std.None
inner_points n c p = point (place_of p) (first_places n p) (carried_at c p)

-- of one of the loop's own: the last COST has a xi whose penalty is 0
abbrev pub own_points : AlmSettings → AlmPhase → Std.Option Located
own_points s A.Over = Std.None
own_points s A.Time = point U 0 Nothing
own_points s A.ProjectY = point Y s.n1 Nothing
own_points s A.Inner = Std.None
own_points s A.F1 = point BEST s.n Nothing
own_points s A.ProjectC = point Y_PLUS s.n1 Nothing
own_points s A.F2 = point BEST s.n Nothing
own_points s A.LastCost = point U s.n (Xi null)

-- the second point: how many places it has, what it is, and what is left of a lent slice xs
abbrev pub second_places : AlmSettings → Second → ℕ
second_places s Nothing = 0
second_places s Iterate = s.n
second_places s (Xi c) = xi_length s.n1 s.n2

abbrev pub second_in : AlmSettings → Second → List Float → List Float
second_in s Nothing l = []
second_in s Iterate l = vector U s.n l
second_in s (Xi c) l = xi_of (loop_settings_of s) c (vector Y s.n1 l)

abbrev pub second_filled : Second → List Float → List Float → List Float
second_filled Nothing l xs = xs
second_filled Iterate l xs = vector U (length xs) l
second_filled (Xi c) l xs = xi_filled Y c l xs

-- the points of a question, and those that lie in a board
abbrev pub pair_of : Option LoopQuestion → Option (List Float × List Float)
pair_of none = none
pair_of (some q) = some (first_point q, second_point q)

abbrev pub lying : AlmSettings → Std.Option Located → List Float → Option (List Float × List Float)
lying s Std.None l = none
lying s (Std.Some p) l = some (vector p.from p.places l, second_in s p.second l)

-- they lie within a board of 768 places
abbrev pub roomy : AlmSettings → Std.Option Located → Type 0
roomy s Std.None = Unit {0}
roomy s (Std.Some p) = (64 * p.from + p.places ≤ 768) × (s.n ≤ 64) × (s.n1 ≤ 32)

-- what a call gives that is lent two slices, which hold xs and ys then
abbrev pub shows : Result (Unit {0}) Refusal → List Float → List Float → Shown
shows r xs ys = record { number = number_in r; first = xs; second = ys }

-- What a run hands back: demand 3, the plan, its norm, its entries, Converged. Definitions only.
use Rattle.std.specs.Prelude.{ℕ, zero, suc, ◌+◌, ◌-◌, ◌≤◌, ◌≡◌, true, List, [], ◌∷◌, ◌++◌, ◌⊎◌, Float, length}
use Rattle.std.specs.Float.{Format}
use Rattle.std.specs.Float.Ieee.{add, mul, lt, le}
use Rattle.ieee.specs.Sums.{AllFinite}
use Rattle.model.specs.Constants.{epsilon}
use Rattle.model.specs.Process.{Process, converged, Handed, LoopHanded}
use Rattle.model.specs.State.{Settings}
use Rattle.model.specs.Loop.{LoopSettings, next_akkt}
use Rattle.model.specs.Paths.{Watch, Along}
use Rattle.model.specs.Least.{Scored, Chosen}

-- the half steps scored since the last inner solve began, in their order
abbrev pub scoring : {Q : Type 0} → Watch Q (List Scored)
scoring =
    record {
      answered = λ scores q k a. scores;
      scored = λ scores half norm. scores ++ (record { half = half; norm = norm } ∷ []);
      begun = λ scores. [];
      right = λ scores half norm. Unit {0};
    }

-- whatever is answered, P holds of the scores of the last inner solve and of what is handed back
abbrev pub Ends : {Q H : Type 0} → (List Scored → H → Type 0) → List Scored → Process Q H → Type 0
Ends P scores p = Along scoring P scores p

-- a plan of n places: the earliest scored half step of least finite norm, or zeros with infinity; every entry is finite
pub record Plan (n : ℕ) (scores : List Scored) (plan : List Float) (norm : Float) : Type 0 where
  pub chosen : Chosen n scores plan norm
  pub size : length plan ≡ n
  pub whole : AllFinite plan

-- what an inner solve hands back
pub record SolvePlan (s : Settings) (scores : List Scored) (h : Handed) : Type 0 where
  pub plan : Plan s.n scores h.plan h.norm
  pub converged : h.status ≡ converged → lt h.norm s.tolerance ≡ true
  pub steps : length scores ≡ h.iterations + 2
  pub within : h.iterations ≤ s.limit

-- the inner AKKT tolerance after k outer iterations
unfoldable pub akkt_at : Format → LoopSettings → ℕ → Float
akkt_at f s zero = s.akkt
akkt_at f s (suc k) = next_akkt f s (akkt_at f s k)

-- the exit tests of the last outer iteration passed, on what is handed back
pub record ExitPassed (f : Format) (s : LoopSettings) (h : LoopHanded) : Type 0 where
  pub multipliers : (s.n1 ≡ 0) ⊎ ((2 ≤ h.outer) × (le h.delta_y (add f (mul f h.penalty s.delta) (epsilon f)) ≡ true))
  pub mapping : (s.n2 ≡ 0) ⊎ (le h.f2 (add f s.delta (epsilon f)) ≡ true)
  pub akkt : le (akkt_at f s (h.outer - 1)) (add f s.epsilon (epsilon f)) ≡ true

-- what the loop hands back
pub record LoopPlan (f : Format) (s : LoopSettings) (scores : List Scored) (h : LoopHanded) : Type 0 where
  pub plan : Plan s.n scores h.plan h.norm
  pub converged : h.status ≡ converged → (lt h.norm s.tolerance ≡ true) × ExitPassed f s h
  pub size : length h.multipliers ≡ s.n1
  pub least : 1 ≤ h.outer
  pub most : h.outer ≤ s.outer

-- The client's claim for every list of calls, in the parts that the kinds of run share. Definitions only.
use Rattle.std.specs.Prelude.{ℕ, ◌≤◌, ◌≡◌, true, false, List, [], ◌∷◌, ◌++◌, ◌⊎◌, Float, length, replicate}
use Rattle.std.specs.Float.{Format, inf}
use Rattle.std.specs.Float.Ieee.{lt}
use Rattle.std.specs.Float.Ieee.Scale.{finite}
use Rattle.ieee.specs.Numbers.{null}
use Rattle.ieee.specs.Sums.{AllFinite}
use Rattle.model.specs.Process.{Process}
use Rattle.model.specs.Scoring.{Seen, Latest, nothing_yet, tracing, Residual}
use Rattle.model.specs.Counts.{Tally, counting}
use Rattle.model.specs.Least.{Scored, All}
use Rattle.model.specs.Plans.{scoring}
use Rattle.claim.specs.History.{Runs, Call, Meets}
use Rattle.claim.specs.Trace.{comes_to, remaining, Event, answered, scored, began, trace, watched, turned_down, accepted, total_weight}

-- P holds of each call, with the calls before it
abbrev pub Each : {A : Type 0} → (A → List A → Type 0) → List A → Type 0
Each P [] = Unit {0}
Each P (c ∷ cs) = P c cs × Each P cs

-- the run that the latest call returned, r where there is none
abbrev pub latest_run : {Q H : Type 0} → (k : Runs Q H) → k.Run → List (Call k) → k.Run
latest_run k r [] = r
latest_run k r (c ∷ cs) = c.run

-- the call left the run t and the lent places as they were
abbrev pub Unchanged : {Q H : Type 0} → (k : Runs Q H) → k.Run → Call k → Type 0
Unchanged k t c = (c.run ≡ t) × (c.wrote ≡ c.lent)

-- a run that has ended: each further answer is refused with 6
abbrev pub Over : {Q H : Type 0} → (k : Runs Q H) → k.Run → Type 0
Over k r = (c : Call k) → Meets k r c → (k.number c.outcome ≡ 6) × Unchanged k r c

-- Every kind of run: from the run r, of which document 01's process p is left, the calls cs have led to the run t; at most b answers are to be accepted.
pub record Follows {Q H : Type 0} (k : Runs Q H) (s : k.Settings) (p : Process Q H) (b : ℕ) (r : k.Run) (cs : List (Call k)) (t : k.Run) : Type 0 where
  -- "the run asks, scores, refuses and ends as document 01 says"
  pub rest : k.rest t ≡ remaining k s p cs
  pub says : Each (λ c before. c.outcome ≡ k.said (comes_to k s (remaining k s p before) c)) cs
  pub writes : Each (λ c before. c.wrote ≡ k.written s (comes_to k s (remaining k s p before) c) c.lent) cs
  -- "Refusals 6 to 8 leave the run unchanged"
  pub unchanged : Each (λ c before. turned_down k c ≡ true → Unchanged k (latest_run k r before) c) cs
  -- "every refusal leaves the lent plan and multipliers as the run found them"
  pub kept : Each (λ c before. k.hands c.outcome ≡ false → c.wrote ≡ c.lent) cs
  -- what gets none of 6 to 8 is what the table accepts
  pub counted : accepted k cs ≡ total_weight (λ q. 1) (trace k s p cs)
  -- "no more than .. answers are accepted"
  pub bound : accepted k cs ≤ b
  -- "and after that many the run has ended"
  pub ended : accepted k cs ≡ b → Over k t

-- ---- scores

-- the latest GRADIENT's point and the latest PROJECT answer since the last inner solve began
unfoldable pub latest : {Q : Type 0} → Format → (Q → Seen) → List (Event Q) → Latest
latest f view es = watched (tracing f view) nothing_yet es

-- "what is scored there is the solve's latest accepted PROJECT answer, and its norm is that of the residual, the latest GRADIENT's point minus this answer"
abbrev pub ScoresRight : {Q : Type 0} → Format → (Q → Seen) → List (Event Q) → Type 0
ScoresRight f view [] = Unit {0}
ScoresRight f view (answered q k a ∷ es) = ScoresRight f view es
ScoresRight f view (scored half norm ∷ es) = Residual f (latest f view es) half norm × ScoresRight f view es
ScoresRight f view (began ∷ es) = ScoresRight f view es

-- ---- the plan

-- the half steps scored since the last inner solve began, the earliest first
unfoldable pub scores : {Q : Type 0} → List (Event Q) → List Scored
scores es = watched scoring [] es

-- the inner solves begun, and the half steps scored in all of them
unfoldable pub tally : {Q : Type 0} → List (Event Q) → Tally
tally es = watched counting (record { solves = 0; scores = 0 }) es

-- "the earliest half step of least finite norm"
pub record Earliest (scores : List Scored) (plan : List Float) (norm : Float) : Type 0 where
  pub before : List Scored
  pub after : List Scored
  pub among : scores ≡ before ++ (record { half = plan; norm = norm } ∷ after)
  pub whole : finite norm ≡ true
  -- "every one scored before it has a larger norm or one that is not finite"
  pub larger : All (λ (y : Scored). (lt norm y.norm ≡ true) ⊎ (finite y.norm ≡ false)) before
  -- "and none scored after it has a smaller norm"
  pub least : All (λ (y : Scored). lt y.norm norm ≡ false) after

-- "If none there has a finite norm, it is zeros with norm infinity"
pub record Zeros (n : ℕ) (scores : List Scored) (plan : List Float) (norm : Float) : Type 0 where
  pub none : All (λ (y : Scored). finite y.norm ≡ false) scores
  pub zeros : plan ≡ replicate n null
  pub infinity : norm ≡ inf false

-- a plan of n places, with its norm
pub record Plan (n : ℕ) (scores : List Scored) (plan : List Float) (norm : Float) : Type 0 where
  pub chosen : Earliest scores plan norm ⊎ Zeros n scores plan norm
  pub size : length plan ≡ n
  -- "every entry of the plan is finite"
  pub whole : AllFinite plan

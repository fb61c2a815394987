-- How often an inner solve began and how often a half step was scored, over a whole run. Definitions only.
use Rattle.std.specs.Prelude.{ℕ, ◌+◌, ◌*◌, ◌≡◌}
use Rattle.model.specs.Process.{Process, Handed, LoopHanded}
use Rattle.model.specs.Paths.{Watch, Along}

-- the inner solves begun, and the half steps scored in all of them
pub record Tally : Type 0 where
  pub solves : ℕ
  pub scores : ℕ

abbrev pub counting : {Q : Type 0} → Watch Q Tally
counting =
    record {
      answered = λ t q k a. t;
      scored = λ t half norm. record { solves = t.solves; scores = t.scores + 1 };
      begun = λ t. record { solves = t.solves + 1; scores = t.scores };
      right = λ t half norm. Unit {0};
    }

-- whatever is answered, P holds of the tally and of what is handed back
abbrev pub Counted : {Q H : Type 0} → (Tally → H → Type 0) → Tally → Process Q H → Type 0
Counted P t p = Along counting P t p

-- a solve counts the steps after the first: each step scores once, the first one too, and the end once more
pub record SolveCount (t : Tally) (h : Handed) : Type 0 where
  pub solves : t.solves ≡ 1
  pub scores : t.scores ≡ h.iterations + 2

-- the loop counts its inner solves, and the steps after the first over all of them
pub record LoopCount (t : Tally) (h : LoopHanded) : Type 0 where
  pub solves : h.outer ≡ t.solves
  pub scores : h.inner + 2 * t.solves ≡ t.scores

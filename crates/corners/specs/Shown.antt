-- A run beside a transcript without its marks. Definitions only.
use Rattle.std.specs.Prelude.{◌≡◌, List, [], ◌∷◌}
use Rattle.model.specs.Process.{Process}
use Rattle.model.specs.Play.{Line, asked, scored, began, ended, turned, play}
use Rattle.model.specs.Script.{Entry, answers_in, lines_in}

-- what a host sees: the questions, the ends and the refusals
unfoldable pub spoken : {Q H : Type 0} → List (Line Q H) → List (Line Q H)
spoken [] = []
spoken (asked q ∷ t) = asked q ∷ spoken t
spoken (scored half norm ∷ t) = spoken t
spoken (began ∷ t) = spoken t
spoken (ended e ∷ t) = ended e ∷ spoken t
spoken (turned k ∷ t) = turned k ∷ spoken t

-- The process p, given the answers of a transcript, shows its lines.
unfoldable pub Shows : {Q H : Type 0} → Process Q H → List (Entry Q H) → Type 0
Shows p t = spoken (play p (answers_in t)) ≡ lines_in t

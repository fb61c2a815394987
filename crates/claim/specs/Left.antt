-- Each score among the events was right where it was made. Definitions only.
use mathlib.Core.List.{List, [], ◌∷◌}
use Rattle.model.specs.Paths.{Watch}
use Rattle.claim.specs.Trace.{Event, answered, scored, began, watched}

-- each score among the events was right where it was made
abbrev pub AllRight : {Q S : Type 0} → Watch Q S → S → List (Event Q) → Type 0
AllRight w x [] = Unit {0}
AllRight w x (answered q k a ∷ es) = AllRight w x es
AllRight w x (scored half norm ∷ es) = w.right (watched w x es) half norm × AllRight w x es
AllRight w x (began ∷ es) = AllRight w x es

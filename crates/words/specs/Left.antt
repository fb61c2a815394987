-- The words of a line that are still to come. Definitions only.
use Rattle.std.specs.Prelude.{ℕ, List, [], Option, Some, None}
use Rattle.words.specs.declared.Words.{Words}
use Rattle.words.specs.Splitting.{words_of}
use denote.Ref.{Bor}

-- of what is left of a line; none where nothing is
abbrev pub words_in : Option (Bor (List ℕ)) → List (List ℕ)
words_in None = []
words_in (Some line) = words_of line.now

abbrev pub words_left : Words → List (List ℕ)
words_left w = words_in w.left

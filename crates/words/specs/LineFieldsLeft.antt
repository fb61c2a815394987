-- What is left of a line. Definitions only.
use Rattle.std.specs.Prelude.{ℕ, List}
use Rattle.words.specs.Left.{words_left}
use Rattle.words.specs.declared.line_fields.Fields.{Fields}

-- its words
abbrev pub left : Fields → List (List ℕ)
left f = words_left f.words

-- `line_fields::Fields::rest` meets its contract: the floats read, with those still to come, are those of the line. Assumes nothing.
use Rattle.std.proofs.Common.{◌≡◌, []}
use Rattle.words.specs.Left.{words_left}
use Rattle.words.specs.Fields.{rest_field}
use Rattle.words.specs.LineFieldsLeft.{left}
use Rattle.words.proofs.line_fields.Fields.rest.Given as goal

abbrev pub invariant-loop-word : goal.invariant-loop-word
invariant-loop-word g l =
    (goal.iterator-loop-word g).can_next l.word-iterator
    × (goal.iterator-loop-word g).is_finite l.word-iterator
    × (rest_field g.row.N l.rest.items (words_left l.word-iterator) ≡ rest_field g.row.N [] (left l.fn.self))

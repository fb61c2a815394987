-- `line_fields::Fields::floats` meets its contract: the floats read, with those still to come, are those of the line. Assumes nothing.
use Rattle.std.proofs.Common.{◌≡◌, ◌-◌, [], length}
use Rattle.words.specs.Fields.{floats_field}
use Rattle.words.specs.LineFieldsLeft.{left}
use Rattle.words.proofs.line_fields.Fields.floats.Given as goal

abbrev pub invariant-loop : goal.invariant-loop
invariant-loop g l = (length l.floats.items ≡ l.counter) × (floats_field l.floats.items (l.n - l.counter) (left l.self) ≡ floats_field [] l.n (left l.fn.self))

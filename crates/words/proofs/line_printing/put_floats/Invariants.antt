-- `line_printing::put_floats` meets its contract: what stands and the floats to come make the text. Assumes nothing.
use Rattle.std.proofs.Common.{◌≡◌, ◌+◌, ◌*◌, ◌++◌, length, drop}
use Rattle.words.specs.Printing.{floats_text}
use Rattle.words.proofs.line_printing.put_floats.Given as goal

abbrev pub invariant-loop-x : goal.invariant-loop-x
invariant-loop-x g l =
    (length l.out.items ≡ length l.initial.out.items + 17 * l.x-index)
    × (l.out.items ++ floats_text (drop l.x-index l.xs) ≡ l.initial.out.items ++ floats_text l.xs)

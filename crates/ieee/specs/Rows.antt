-- Rows of the definitions, by computation: the roots of document 01's bench pieces first. Assumes nothing.
use Rattle.std.specs.Prelude.{ℕ}
use Rattle.std.specs.Float.{Format}
use Rattle.std.specs.Float.Ieee.{of_bits, to_bits}
use Rattle.ieee.specs.Root.{root}

-- the pattern of the root, from a pattern
abbrev pub on : Format → ℕ → ℕ
on f b = to_bits f (root f (of_bits f b))

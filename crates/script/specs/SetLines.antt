-- What a line of sets says: TRANSCRIPT.md, "Ready-made sets". Definitions only.
use Rattle.std.specs.Prelude.{ℕ, ◌+◌, ◌-◌, List, [], ◌∷◌, Option, Some, None, nat_lt, ◌==◌, if◌then◌else◌, length, codes}
use Rattle.std.specs.Str.{bytes_eq}
use Rattle.std.specs.Float.Ieee.{Float}
use Rattle.words.specs.Splitting.{words_of}
use Rattle.script.specs.declared.sets.Keyword.{Keyword}
use Rattle.script.specs.declared.sets.Change.{Change}
use Rattle.script.specs.declared.sets.SetLine.{SetLine}
use Rattle.words.specs.Fields.{Left, ◌>>=◌, whole_field, rest_field}

abbrev pub with_floats : Change → List Float → SetLine
with_floats c xs = record { change = c; floats = record { items = xs } }

-- nothing may be left
abbrev pub closed : Left → Change → Option SetLine
closed [] c = Some (with_floats c [])
closed (w ∷ s) c = None

-- box STRETCH LENGTH_LOWER LENGTH_UPPER X...
unfoldable pub box_line : Left → Option SetLine
box_line s = do
  (stretch, s) ← whole_field s
  (lower, s) ← whole_field s
  (upper, s) ← whole_field s
  xs ← rest_field 256 [] s
  if lower + upper == length xs then Some (with_floats (Change.Add (record { kind = 0; stretch = stretch; first = lower; second = upper })) xs) else None

-- ball STRETCH RADIUS X...
unfoldable pub ball_line : Left → Option SetLine
ball_line s = do
  (stretch, s) ← whole_field s
  xs ← rest_field 256 [] s
  if length xs == 0 then None else Some (with_floats (Change.Add (record { kind = 1; stretch = stretch; first = length xs - 1; second = 0 })) xs)

-- onto X...
unfoldable pub onto_line : Left → Option SetLine
onto_line s = do
  xs ← rest_field 256 [] s
  if nat_lt 128 (length xs) then None else Some (with_floats Change.Onto xs)

-- by the first word
abbrev pub keyword_of : List ℕ → Option Keyword
keyword_of w =
    if bytes_eq w (codes "sets") then Some Keyword.Sets
    else if bytes_eq w (codes "box") then Some Keyword.Rectangle
    else if bytes_eq w (codes "ball") then Some Keyword.Ball
    else if bytes_eq w (codes "onto") then Some Keyword.Onto
    else if bytes_eq w (codes "show_onto") then Some Keyword.ShowOnto
    else None

unfoldable pub line_by : Keyword → Left → Option SetLine
line_by Keyword.Sets s = closed s Change.Empty
line_by Keyword.Rectangle s = box_line s
line_by Keyword.Ball s = ball_line s
line_by Keyword.Onto s = onto_line s
line_by Keyword.ShowOnto s = closed s Change.ShowOnto

unfoldable pub by_words : Left → Option SetLine
by_words [] = None
by_words (w ∷ s) = do
  k ← keyword_of w
  line_by k s

unfoldable pub set_meant : List ℕ → Option SetLine
set_meant line = by_words (words_of line)

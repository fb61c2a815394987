-- The words that begin a line. Definitions only.
use Rattle.std.specs.Prelude.{ℕ, List, Option, Some, None, if◌then◌else◌, codes}
use Rattle.std.specs.Str.{bytes_eq}
use Rattle.words.specs.declared.keywords.Keyword.{Keyword}

abbrev pub keyword_of : List ℕ → Option Keyword
keyword_of w =
    if bytes_eq w (codes "inner") then Some Keyword.Inner
    else if bytes_eq w (codes "loop") then Some Keyword.Loop
    else if bytes_eq w (codes "psi") then Some Keyword.Psi
    else if bytes_eq w (codes "d_psi") then Some Keyword.DPsi
    else if bytes_eq w (codes "number") then Some Keyword.Number
    else if bytes_eq w (codes "vector") then Some Keyword.Vector
    else if bytes_eq w (codes "yes") then Some Keyword.Yes
    else if bytes_eq w (codes "no") then Some Keyword.No
    else if bytes_eq w (codes "failure") then Some Keyword.Failure
    else if bytes_eq w (codes "lend") then Some Keyword.Lend
    else if bytes_eq w (codes "show") then Some Keyword.Show
    else None

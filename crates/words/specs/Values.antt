-- What a tolerance reads as. Definitions only.
use Rattle.std.specs.Prelude.{ℕ, List, Option, Some, None, if◌then◌else◌, option_map}
use Rattle.std.specs.Float.Ieee.{Float}
use Rattle.words.specs.Reading.{float_of, is_dash}

-- a dash, which says that it is missing, or a float
abbrev pub tolerance_of : List ℕ → Option (Option Float)
tolerance_of w = if is_dash w then Some None else option_map Some (float_of w)

-- What is claimed of the sets, for every format; the theorems are in the modules of proofs/ that each comment names. Definitions only.
use Rattle.std.specs.Prelude.{◌≡◌, ℕ, ◌<◌, true, false, List, [], ◌∷◌, ◌++◌, map, Float, is_nan, length, take, drop}
use Rattle.std.specs.Float.{nan, inf, fin, Format, ◌≤ᶠ◌}
use Rattle.constraints.specs.Exact.{Rational, exact, AtMost, NoNearer}
use Rattle.constraints.specs.Box.{clamped, bounds_right}
use Rattle.constraints.specs.Table.{rectangle_of, Row, alone, cartesian_product, filled, sets_right, refusal}

-- ---- the box

-- a number within two bounds, which are finite
abbrev pub Within : Float → Float → Rational → Type 0
Within nan upper q = ⊥
Within (inf s) upper q = ⊥
Within (fin s m e) nan q = ⊥
Within (fin s m e) (inf t) q = ⊥
Within (fin s m e) (fin t n d) q = AtMost (exact s m e) q × AtMost q (exact t n d)

-- q is no nearer to the entry x than the float c is, which is finite. From an infinite entry every number is as far; there q lies no further its way than c.
abbrev pub NotNearer : Float → Float → Rational → Type 0
NotNearer x nan q = ⊥
NotNearer x (inf t) q = ⊥
NotNearer nan (fin t n d) q = ⊥
NotNearer (inf false) (fin t n d) q = AtMost q (exact t n d)
NotNearer (inf true) (fin t n d) q = AtMost (exact t n d) q
NotNearer (fin s m e) (fin t n d) q = NoNearer (exact s m e) (exact t n d) q

-- "for entries that are not NaN, no number within the bounds is nearer", not even one that is no float (`Nearest.nearest`)
abbrev pub Nearest : Type 0
Nearest = (lower upper x : Float) (q : Rational) → bounds_right lower upper ≡ true → is_nan x ≡ false → 0 < q.over → Within lower upper q → NotNearer x (clamped lower upper x) q

-- and what the box puts is within them (`Nearest.inside`)
abbrev pub Inside : Type 0
Inside = (lower upper x : Float) → bounds_right lower upper ≡ true → is_nan x ≡ false → (lower ≤ᶠ clamped lower upper x) × (clamped lower upper x ≤ᶠ upper)

-- ---- the table

-- "each stretch gets what its set alone gives" (`Products.each_stretch`), and the vector keeps its length (`Products.same_length`)
abbrev pub EachStretch : Type 0
EachStretch = (f : Format) (before : List Row) (r : Row) (later : List Row) (v : List Float) → sets_right (before ++ (r ∷ later)) (length v) ≡ true
    → take r.stretch (drop (filled before) (cartesian_product f (before ++ (r ∷ later)) v)) ≡ alone f r.constraint (take r.stretch (drop (filled before) v))

abbrev pub SameLength : Type 0
SameLength = (f : Format) (t : List Row) (v : List Float) → sets_right t (length v) ≡ true → length (cartesian_product f t v) ≡ length v

-- a box's bounds, and its row of a table
pub record Bounds : Type 0 where
  pub lower : List Float
  pub upper : List Float

abbrev pub row_of : Bounds → Row
row_of b = record { stretch = length b.lower; constraint = rectangle_of b.lower b.upper }

-- a table of boxes, and one box with all their bounds
abbrev pub boxes : List Bounds → List Row
boxes t = map row_of t

abbrev pub all_bounds : List Bounds → Bounds
all_bounds [] = record { lower = []; upper = [] }
all_bounds (b ∷ t) = record { lower = b.lower ++ (all_bounds t).lower; upper = b.upper ++ (all_bounds t).upper }

abbrev pub one_box : List Bounds → List Row
one_box t = row_of (all_bounds t) ∷ []

-- "a table of boxes equals one box with all their bounds" (`Products.one_box_gives`, `Products.one_box_refuses`)
abbrev pub OneBox : Type 0
OneBox = (f : Format) (t : List Bounds) (v : List Float) → sets_right (boxes t) (length v) ≡ true → cartesian_product f (boxes t) v ≡ cartesian_product f (one_box t) v

abbrev pub OneBoxRefuses : Type 0
OneBoxRefuses = (t : List Bounds) (n : ℕ) → sets_right (boxes t) n ≡ true → refusal (boxes t) n ≡ refusal (one_box t) n

-- a table of boxes gives twice what it gives once (`Products.twice`)
abbrev pub Twice : Type 0
Twice = (f : Format) (t : List Bounds) (v : List Float) → refusal (boxes t) (length v) ≡ 0
    → cartesian_product f (boxes t) (cartesian_product f (boxes t) v) ≡ cartesian_product f (boxes t) v

-- The vectors of a run in one flat array, vector after vector: place i of vector j is place 64 × j + i of the array, the board. Definitions only.
use Rattle.std.specs.Prelude.{ℕ, ◌+◌, ◌*◌, List, [], ◌∷◌, ◌++◌, length, take, drop, replicate, Float}
use Rattle.board.specs.Firsts.{firsts}

-- ---- boards of every kind of run

-- vector j, of n places
unfoldable pub vector : ℕ → ℕ → List Float → List Float
vector j n l = firsts n (drop (64 * j) l)

-- the board with the numbers x in the first places of vector j
unfoldable pub write : ℕ → List Float → List Float → List Float
write j x l = take (64 * j) l ++ (x ++ drop (64 * j + length x) l)

-- the other places of a board whose vectors have so many places each, one after the other; what lies behind the last vector is among them
unfoldable pub beyond : List ℕ → List Float → List Float
beyond [] l = l
beyond (n ∷ ns) l = drop n (take 64 l) ++ beyond ns (drop 64 l)

-- ---- the vectors by number: the code's constants have these names and numbers
abbrev pub U : ℕ
U = 0

abbrev pub PLUS : ℕ
PLUS = 1

abbrev pub GRADIENT : ℕ
GRADIENT = 2

abbrev pub PREVIOUS : ℕ
PREVIOUS = 3

abbrev pub STEP : ℕ
STEP = 4

abbrev pub HALF : ℕ
HALF = 5

abbrev pub FPR : ℕ
FPR = 6

abbrev pub DIRECTION : ℕ
DIRECTION = 7

abbrev pub BEST : ℕ
BEST = 8

-- besides, of a loop
abbrev pub Y : ℕ
Y = 9

abbrev pub Y_PLUS : ℕ
Y_PLUS = 10

abbrev pub F1 : ℕ
F1 = 11

-- ---- the vectors of an inner solve by name: the point u, the candidate, the gradient, the one before it, the gradient step, the half step, the residual, the direction, the best half step; and all
-- other places
pub record Board : Type 0 where
  pub u : List Float
  pub plus : List Float
  pub gradient : List Float
  pub previous : List Float
  pub step : List Float
  pub half : List Float
  pub fpr : List Float
  pub direction : List Float
  pub best : List Float
  pub beyond : List Float

-- those of a board whose vectors have n places
unfoldable pub board_of : ℕ → List Float → Board
board_of n l =
    record {
      u = vector U n l;
      plus = vector PLUS n l;
      gradient = vector GRADIENT n l;
      previous = vector PREVIOUS n l;
      step = vector STEP n l;
      half = vector HALF n l;
      fpr = vector FPR n l;
      direction = vector DIRECTION n l;
      best = vector BEST n l;
      beyond = beyond (replicate 9 n) l;
    }

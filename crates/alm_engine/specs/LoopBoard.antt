-- The vectors of a loop by name: its board has those of the inner solve first, then y, y_plus and F1. Definitions only.
use Rattle.std.specs.Prelude.{ℕ, List, replicate, take, drop, Float}
use Rattle.board.specs.Board.{vector, beyond, Board, board_of, Y, Y_PLUS, F1}

-- the inner solve's; y, y_plus and F1; and the places of these three that no vector uses
pub record LoopBoard : Type 0 where
  pub inner : Board
  pub y : List Float
  pub y_plus : List Float
  pub f1 : List Float
  pub beyond : List Float

-- those of a board whose inner vectors have n places, and y, y_plus and F1 n1
unfoldable pub loop_board_of : ℕ → ℕ → List Float → LoopBoard
loop_board_of n n1 l =
    record {
      inner = board_of n (take 576 l);
      y = vector Y n1 l;
      y_plus = vector Y_PLUS n1 l;
      f1 = vector F1 n1 l;
      beyond = beyond (replicate 3 n1) (drop 576 l);
    }

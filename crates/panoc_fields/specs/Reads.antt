-- What the calls give that read a run and write nothing in it. Definitions only.
use Rattle.std.specs.Prelude.{ℕ, ◌≡◌, List, Float, length}
use Rattle.std.proofs.Math.Option.{Option, some}
use Rattle.board.specs.Board.{vector, U}
use Rattle.machine.specs.Shown.{Shown}
use Rattle.machine.specs.InnerCalls.{first_point, second_point}
use Rattle.machine.specs.InnerAnswer.{question_of}
use Rattle.panoc_fields.specs.declared.fields.InnerC.{InnerC}
use Rattle.panoc_fields.specs.Fields.{run_at}

-- a number, and two lent slices that hold xs and ys then
abbrev pub gives : ℕ → List Float → List Float → Shown
gives r xs ys = record { number = r; first = xs; second = ys }

-- For a run of any kind: whatever question stands, its first point is the first places of vector j of the board l, and what DIRECTION has as its second those of u. Q is the questions, the points of a
-- question are functions of it
pub record Lies {Q : Type 0} (first direction : Q → List Float) (stands : Option Q) (l : List Float) (j : ℕ) : Type 0 where
  pub first_lies : (q : Q) → stands ≡ some q → first q ≡ vector j (length (first q)) l
  pub direction_lies : (q : Q) → stands ≡ some q → direction q ≡ vector U (length (direction q)) l

-- of an inner solve, of which DIRECTION alone has a second point
abbrev pub InnerLies : InnerC → ℕ → Type 0
InnerLies run j = Lies first_point second_point (question_of (run_at run.inner run.board)) run.board j

-- Where the points of the question that a loop waits with lie. Definitions only.
use Rattle.std.specs.Prelude.{ℕ}
use Rattle.board.specs.Board.{U, BEST, Y, Y_PLUS}
use Rattle.machine.specs.LoopCalls.{first_point, direction_point}
use Rattle.machine.specs.LoopAnswer.{question_of}
use Rattle.panoc_engine.specs.declared.panoc_cache.Phase.{Phase}
use Rattle.panoc_engine.specs.Places.{place_of}
use Rattle.panoc_fields.specs.Reads.{Lies}
use Rattle.alm_engine.specs.declared.alm_cache.AlmPhase.{AlmPhase}
use Rattle.alm_engine.specs.declared.alm_cache.AlmPhase.TheVariants as A
use Rattle.alm_fields.specs.declared.fields.AlmC.{AlmC}
use Rattle.alm_fields.specs.Fields.{loop_run_at}

-- the vector of the first one, p being the phase of the inner solve
abbrev pub place_at : AlmPhase → Phase → ℕ
place_at A.Over p = U
place_at A.Time p = U
place_at A.ProjectY p = Y
place_at A.Inner p = place_of p
place_at A.F1 p = BEST
place_at A.ProjectC p = Y_PLUS
place_at A.F2 p = BEST
place_at A.LastCost p = U

-- the law of panoc_fields, of a loop
abbrev pub LoopLies : AlmC → ℕ → Type 0
LoopLies run j = Lies first_point direction_point (question_of (loop_run_at run.inner run.alm run.board)) run.board j

-- The number of the question that a run waits with, as C sees it. Definitions only.
use Rattle.std.specs.Prelude.{ℕ}
use Rattle.std.proofs.Math.Option.{Option, none, some}
use Rattle.std.specs.Float.{Format}
use Rattle.model.specs.Process.{Question, LoopQuestion, PsiQuestion}
use Rattle.machine.specs.Numbers as Inner
use Rattle.machine.specs.LoopNumbers as Loop
use Rattle.machine.specs.PsiNumbers as Psi
use Rattle.machine.specs.InnerRun as InnerRun
use Rattle.machine.specs.InnerRest as InnerRest
use Rattle.machine.specs.InnerCalls.{asking}
use Rattle.machine.specs.InnerAnswer as InnerAnswer
use Rattle.machine.specs.LoopRun as LoopRun
use Rattle.machine.specs.LoopRest as LoopRest
use Rattle.machine.specs.LoopAnswer as LoopAnswer
use Rattle.machine.specs.PsiRun.{PsiRun, DPsiRun}
use Rattle.machine.specs.PsiRest.{asked_of, psi_rest, d_psi_rest}

-- 14 where no question stands
abbrev pub standing : {Q : Type 0} → (Q → ℕ) → Option Q → ℕ
standing number none = 14
standing number (some q) = number q

-- a question has the number that it is told with
abbrev pub inner_number : Question → ℕ
inner_number q = Inner.question_number (InnerRest.asked_of q)

abbrev pub loop_number : LoopQuestion → ℕ
loop_number q = Loop.question_number (LoopRest.asked_of q)

abbrev pub psi_number : PsiQuestion → ℕ
psi_number q = Psi.question_number (asked_of q)

-- of a run of each kind
abbrev pub inner_standing : InnerRun.Run → ℕ
inner_standing r = standing inner_number (InnerAnswer.question_of r)

abbrev pub loop_standing : LoopRun.Run → ℕ
loop_standing r = standing loop_number (LoopAnswer.question_of r)

abbrev pub psi_standing : Format → PsiRun → ℕ
psi_standing f r = standing psi_number (asking (psi_rest f r))

abbrev pub d_psi_standing : Format → DPsiRun → ℕ
d_psi_standing f r = standing psi_number (asking (d_psi_rest f r))

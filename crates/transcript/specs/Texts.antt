-- What a call is printed as, byte by byte, as a function of what the machine says that it leaves: TRANSCRIPT.md, "What is printed". Definitions only.
use Rattle.std.specs.Prelude.{ℕ, zero, suc, true, false, List, [], ◌∷◌, ◌++◌, Float, codes}
use Rattle.std.proofs.Math.Option.{Option, none, some}
use Rattle.std.specs.Float.{binary64}
use Rattle.model.specs.Process.{Status, converged, not_converged_iterations, not_converged_out_of_time, Process, PsiQuestion}
use Rattle.words.specs.Printing.{counted_text, floats_text, point_text}
use Rattle.machine.specs.Told.{Told}
use Rattle.machine.specs.InnerRun as Inner
use Rattle.machine.specs.InnerAnswer as InnerAnswer
use Rattle.machine.specs.InnerCalls as InnerCalls
use Rattle.machine.specs.InnerCalls.{asking}
use Rattle.machine.specs.LoopRun as Loop
use Rattle.machine.specs.LoopAnswer as LoopAnswer
use Rattle.machine.specs.LoopCalls as LoopCalls
use Rattle.machine.specs.PsiRun as Psi
use Rattle.machine.specs.PsiCalls as PsiCalls
use Rattle.machine.specs.PsiRest.{psi_rest, d_psi_rest}

-- ---- what all kinds of runs print alike

-- a refusal by the table's number, and a failure by the host's code
abbrev pub refused_text : ℕ → List ℕ
refused_text k = counted_text (codes "refused ") k

abbrev pub failed_text : ℕ → List ℕ
failed_text c = counted_text (codes "refused 9 ") c

-- an end with the first count
abbrev pub end_word : Status → List ℕ
end_word converged = codes "ended Converged "
end_word not_converged_iterations = codes "ended NotConvergedIterations "
end_word not_converged_out_of_time = codes "ended NotConvergedOutOfTime "

abbrev pub end_text : Status → ℕ → List ℕ
end_text s k = counted_text (end_word s) k

-- a question: its word w with the first point p, t with the second q; or the refusal by which the points are not had, 0 for none
unfoldable pub shown_text : List ℕ → List ℕ → ℕ → List Float → List Float → List ℕ
shown_text w t zero p q = point_text w p ++ point_text t q
shown_text w t (suc k) p q = refused_text (suc k)

-- a question that stands with its points, first and second; a run that has none is refused by 6
unfoldable pub question_text : {Q : Type 0} → List ℕ → List ℕ → (Q → List Float) → (Q → List Float) → Option Q → List ℕ
question_text w t first second none = refused_text 6
question_text w t first second (some q) = point_text w (first q) ++ point_text t (second q)

-- what a call tells: asked and ended are the lines of a question and of an end
unfoldable pub told_text : {Q E : Type 0} → (Q → List ℕ) → (E → List ℕ) → Told Q E → List ℕ
told_text asked ended (Told.asked q) = asked q
told_text asked ended (Told.ended e) = ended e
told_text asked ended (Told.refused k) = refused_text k
told_text asked ended (Told.failed c) = failed_text c

-- ---- an inner solve

-- the word of a question, and that of its second point
abbrev pub inner_name : Inner.Asked → List ℕ
inner_name Inner.Asked.cost = codes "cost"
inner_name Inner.Asked.gradient = codes "gradient"
inner_name Inner.Asked.project = codes "project"
inner_name (Inner.Asked.direction true) = codes "direction 1"
inner_name (Inner.Asked.direction false) = codes "direction 0"
inner_name Inner.Asked.time = codes "time"

abbrev pub inner_then : Inner.Asked → List ℕ
inner_then Inner.Asked.cost = []
inner_then Inner.Asked.gradient = []
inner_then Inner.Asked.project = []
inner_then (Inner.Asked.direction forget) = codes " u"
inner_then Inner.Asked.time = []

-- a question, with the points of the one that stands in the run
unfoldable pub inner_asked : Inner.Run → Inner.Asked → List ℕ
inner_asked r q = question_text (inner_name q) (inner_then q) InnerCalls.first_point InnerCalls.second_point (InnerAnswer.question_of r)

-- ended END ITERATIONS NORM COST
unfoldable pub inner_ended : Inner.Numbers → List ℕ
inner_ended e = end_text e.status e.iterations ++ floats_text (e.norm ∷ e.cost ∷ [])

-- what a call leaves
unfoldable pub inner_line : Inner.Left → List ℕ
inner_line l = told_text (inner_asked l.run) inner_ended l.told

-- ---- the loop

abbrev pub loop_name : Loop.Asked → List ℕ
loop_name (Loop.Asked.inner q) = inner_name q
loop_name Loop.Asked.time = codes "time"
loop_name Loop.Asked.project_y = codes "project_y"
loop_name Loop.Asked.f1 = codes "f1"
loop_name Loop.Asked.project_c = codes "project_c"
loop_name Loop.Asked.f2 = codes "f2"
loop_name Loop.Asked.cost = codes "cost"

-- COST and GRADIENT of the inner solve come with xi, too
abbrev pub carried_then : Inner.Asked → List ℕ
carried_then Inner.Asked.cost = codes " xi"
carried_then Inner.Asked.gradient = codes " xi"
carried_then Inner.Asked.project = []
carried_then (Inner.Asked.direction forget) = codes " u"
carried_then Inner.Asked.time = []

abbrev pub loop_then : Loop.Asked → List ℕ
loop_then (Loop.Asked.inner q) = carried_then q
loop_then Loop.Asked.time = []
loop_then Loop.Asked.project_y = []
loop_then Loop.Asked.f1 = []
loop_then Loop.Asked.project_c = []
loop_then Loop.Asked.f2 = []
loop_then Loop.Asked.cost = codes " xi"

unfoldable pub loop_asked : Loop.Run → Loop.Asked → List ℕ
loop_asked r q = question_text (loop_name q) (loop_then q) LoopCalls.first_point LoopCalls.second_point (LoopAnswer.question_of r)

-- ended END OUTER INNER NORM COST C DELTA_Y F2
unfoldable pub loop_ended : Loop.Numbers → List ℕ
loop_ended e = end_text e.status e.outer ++ counted_text (codes " ") e.inner ++ floats_text (e.norm ∷ e.cost ∷ e.penalty ∷ e.delta_y ∷ e.f2 ∷ [])

unfoldable pub loop_line : Loop.Left → List ℕ
loop_line l = told_text (loop_asked l.run) loop_ended l.told

-- ---- psi and d_psi, whose questions are alike

abbrev pub penalty_name : Psi.Asked → List ℕ
penalty_name Psi.Asked.cost = codes "cost"
penalty_name Psi.Asked.gradient = codes "gradient"
penalty_name Psi.Asked.f1 = codes "f1"
penalty_name Psi.Asked.project_c = codes "project_c"
penalty_name Psi.Asked.jf1t = codes "jf1t"
penalty_name Psi.Asked.f2 = codes "f2"
penalty_name Psi.Asked.jf2t = codes "jf2t"

-- the products alone have a second point
abbrev pub penalty_then : Psi.Asked → List ℕ
penalty_then Psi.Asked.cost = []
penalty_then Psi.Asked.gradient = []
penalty_then Psi.Asked.f1 = []
penalty_then Psi.Asked.project_c = []
penalty_then Psi.Asked.jf1t = codes " d"
penalty_then Psi.Asked.f2 = []
penalty_then Psi.Asked.jf2t = codes " d"

-- a question, with the points of the one that the process p asks
unfoldable pub penalty_asked : {H : Type 0} → Process PsiQuestion H → Psi.Asked → List ℕ
penalty_asked p q = question_text (penalty_name q) (penalty_then q) PsiCalls.first_point PsiCalls.second_point (asking p)

-- the end of psi has its number, that of d_psi nothing
abbrev pub psi_ended : Float → List ℕ
psi_ended x = point_text (codes "ended") (x ∷ [])

abbrev pub d_psi_ended : Unit {0} → List ℕ
d_psi_ended e = codes "ended"

unfoldable pub psi_line : Psi.PsiLeft → List ℕ
psi_line l = told_text (penalty_asked (psi_rest binary64 l.run)) psi_ended l.told

unfoldable pub d_psi_line : Psi.DPsiLeft → List ℕ
d_psi_line l = told_text (penalty_asked (d_psi_rest binary64 l.run)) d_psi_ended l.told

-- What goes out comes in again: a decoder gives back what its encoder was given. Assumes nothing.
use Rattle.std.specs.Prelude.{◌≡◌, refl, Bool, true, false, Float}
use Rattle.std.proofs.Math.Option.{Option, none, some}
use Rattle.model.specs.Process.{Status, converged, not_converged_iterations, not_converged_out_of_time}
use Rattle.machine.specs.InnerRun.{Phase, Asked}
use Rattle.machine.specs.LoopRun as Loop
use Rattle.machine.specs.LoopNumbers as LoopNumbers
use Rattle.machine.specs.PsiRun as Psi
use Rattle.machine.specs.PsiRun.{PsiPhase, DPsiPhase}
use Rattle.machine.specs.PsiNumbers as PsiNumbers
use Rattle.machine.specs.PsiNumbers.{psi_phase_number, psi_phase_of, d_psi_phase_number, d_psi_phase_of}
use Rattle.machine.specs.Numbers.{question_number, question_of, phase_number, phase_of, status_number, status_of, flag_number, flag_of, set_number, set_value, set_of}

pub phase_back : (p : Phase) → phase_of (phase_number p) ≡ p
phase_back Phase.over = refl
phase_back Phase.cost = refl
phase_back Phase.gradient = refl
phase_back Phase.shifted = refl
phase_back Phase.project = refl
phase_back Phase.half_cost = refl
phase_back Phase.doubled_project = refl
phase_back Phase.doubled_cost = refl
phase_back Phase.direction = refl
phase_back Phase.first_cost = refl
phase_back Phase.first_gradient = refl
phase_back Phase.first_project = refl
phase_back Phase.tried_cost = refl
phase_back Phase.tried_gradient = refl
phase_back Phase.tried_project = refl
phase_back Phase.time = refl
phase_back Phase.last_cost = refl

pub question_back : (q : Asked) → question_of (question_number q) ≡ q
question_back Asked.cost = refl
question_back Asked.gradient = refl
question_back Asked.project = refl
question_back (Asked.direction false) = refl
question_back (Asked.direction true) = refl
question_back Asked.time = refl

pub status_back : (e : Status) → status_of (status_number e) ≡ e
status_back converged = refl
status_back not_converged_iterations = refl
status_back not_converged_out_of_time = refl

pub flag_back : (b : Bool) → flag_of (flag_number b) ≡ b
flag_back true = refl
flag_back false = refl

pub set_back : (t : Option Float) → set_of (set_number t) (set_value t) ≡ t
set_back none = refl
set_back (some t) = refl

pub loop_phase_back : (p : Loop.Phase) → LoopNumbers.phase_of (LoopNumbers.phase_number p) ≡ p
loop_phase_back Loop.Phase.over = refl
loop_phase_back Loop.Phase.time = refl
loop_phase_back Loop.Phase.project_y = refl
loop_phase_back Loop.Phase.inner = refl
loop_phase_back Loop.Phase.f1 = refl
loop_phase_back Loop.Phase.project_c = refl
loop_phase_back Loop.Phase.f2 = refl
loop_phase_back Loop.Phase.last_cost = refl

pub loop_question_back : (q : Loop.Asked) → LoopNumbers.question_of (LoopNumbers.question_number q) ≡ q
loop_question_back (Loop.Asked.inner Asked.cost) = refl
loop_question_back (Loop.Asked.inner Asked.gradient) = refl
loop_question_back (Loop.Asked.inner Asked.project) = refl
loop_question_back (Loop.Asked.inner (Asked.direction false)) = refl
loop_question_back (Loop.Asked.inner (Asked.direction true)) = refl
loop_question_back (Loop.Asked.inner Asked.time) = refl
loop_question_back Loop.Asked.time = refl
loop_question_back Loop.Asked.project_y = refl
loop_question_back Loop.Asked.f1 = refl
loop_question_back Loop.Asked.project_c = refl
loop_question_back Loop.Asked.f2 = refl
loop_question_back Loop.Asked.cost = refl

-- those of psi and d_psi
pub psi_question_back : (q : Psi.Asked) → PsiNumbers.question_of (PsiNumbers.question_number q) ≡ q
psi_question_back Psi.Asked.cost = refl
psi_question_back Psi.Asked.gradient = refl
psi_question_back Psi.Asked.f1 = refl
psi_question_back Psi.Asked.project_c = refl
psi_question_back Psi.Asked.f2 = refl
psi_question_back Psi.Asked.jf1t = refl
psi_question_back Psi.Asked.jf2t = refl

pub psi_phase_back : (p : PsiPhase) → psi_phase_of (psi_phase_number p) ≡ p
psi_phase_back PsiPhase.over = refl
psi_phase_back PsiPhase.cost = refl
psi_phase_back PsiPhase.f1 = refl
psi_phase_back PsiPhase.project_c = refl
psi_phase_back PsiPhase.f2 = refl

pub d_psi_phase_back : (p : DPsiPhase) → d_psi_phase_of (d_psi_phase_number p) ≡ p
d_psi_phase_back DPsiPhase.over = refl
d_psi_phase_back DPsiPhase.gradient = refl
d_psi_phase_back DPsiPhase.f1 = refl
d_psi_phase_back DPsiPhase.project_c = refl
d_psi_phase_back DPsiPhase.jf1t = refl
d_psi_phase_back DPsiPhase.f2 = refl
d_psi_phase_back DPsiPhase.jf2t = refl

-- What the enums of the code stand for in the machine. Definitions only.
use Rattle.model.specs.Psi as S
use Rattle.machine.specs.Told as Say
use Rattle.machine.specs.PsiRun as M
use Rattle.panoc_engine.specs.declared.outcome.Outcome.{Outcome}
use Rattle.panoc_engine.specs.Told.{telling}
use Rattle.alm_factory.specs.declared.records.Sizes.{Sizes}
use Rattle.alm_factory.specs.declared.records.PsiQuestion.{PsiQuestion}
use Rattle.alm_factory.specs.declared.records.PsiQuestion.TheVariants as Q
use Rattle.alm_factory.specs.declared.records.PsiPhase.{PsiPhase}
use Rattle.alm_factory.specs.declared.records.PsiPhase.TheVariants as P
use Rattle.alm_factory.specs.declared.records.DPsiPhase.{DPsiPhase}
use Rattle.alm_factory.specs.declared.records.DPsiPhase.TheVariants as D

-- n, n1 and n2
abbrev pub sizes_of : Sizes → S.Sizes
sizes_of s = record { n = s.n; n1 = s.n1; n2 = s.n2 }

-- a question
abbrev pub asked_of : PsiQuestion → M.Asked
asked_of Q.Cost = M.Asked.cost
asked_of Q.Gradient = M.Asked.gradient
asked_of Q.F1 = M.Asked.f1
asked_of Q.ProjectC = M.Asked.project_c
asked_of Q.Jf1t = M.Asked.jf1t
asked_of Q.F2 = M.Asked.f2
asked_of Q.Jf2t = M.Asked.jf2t

-- what a run waits for
abbrev pub psi_phase_of : PsiPhase → M.PsiPhase
psi_phase_of P.Over = M.PsiPhase.over
psi_phase_of P.Cost = M.PsiPhase.cost
psi_phase_of P.F1 = M.PsiPhase.f1
psi_phase_of P.ProjectC = M.PsiPhase.project_c
psi_phase_of P.F2 = M.PsiPhase.f2

abbrev pub d_psi_phase_of : DPsiPhase → M.DPsiPhase
d_psi_phase_of D.Over = M.DPsiPhase.over
d_psi_phase_of D.Gradient = M.DPsiPhase.gradient
d_psi_phase_of D.F1 = M.DPsiPhase.f1
d_psi_phase_of D.ProjectC = M.DPsiPhase.project_c
d_psi_phase_of D.Jf1t = M.DPsiPhase.jf1t
d_psi_phase_of D.F2 = M.DPsiPhase.f2
d_psi_phase_of D.Jf2t = M.DPsiPhase.jf2t

-- what a call says: psi ends with its number, d_psi with nothing to say
abbrev pub same : {A : Type 0} → A → A
same x = x

abbrev pub told_of : {E : Type 0} → Outcome PsiQuestion E → Say.Told M.Asked E
told_of = telling asked_of same

-- The numbers that C sees and gives, of the enums of psi and d_psi; the rest is as in `Numbers`. Definitions only.
use Rattle.std.specs.Prelude.{ℕ, List, [], ◌∷◌, ◌++◌, replicate, get_or}
use Rattle.machine.specs.PsiRun.{Asked, PsiPhase, DPsiPhase}

-- the questions have the numbers that they have in the loop
abbrev pub question_number : Asked → ℕ
question_number Asked.cost = 0
question_number Asked.gradient = 1
question_number Asked.f1 = 8
question_number Asked.project_c = 9
question_number Asked.f2 = 10
question_number Asked.jf1t = 12
question_number Asked.jf2t = 13

-- the question that a number tells; one of no question is the Jacobian product of F2
abbrev pub others : List Asked
others = replicate 6 Asked.jf2t ++ (Asked.f1 ∷ Asked.project_c ∷ Asked.f2 ∷ Asked.jf2t ∷ Asked.jf1t ∷ [])

abbrev pub question_of : ℕ → Asked
question_of m = get_or (Asked.cost ∷ Asked.gradient ∷ others) m Asked.jf2t

-- the phases of psi; a number of none is over
abbrev pub psi_phase_number : PsiPhase → ℕ
psi_phase_number PsiPhase.over = 0
psi_phase_number PsiPhase.cost = 1
psi_phase_number PsiPhase.f1 = 2
psi_phase_number PsiPhase.project_c = 3
psi_phase_number PsiPhase.f2 = 4

abbrev pub psi_phases : List PsiPhase
psi_phases = PsiPhase.over ∷ PsiPhase.cost ∷ PsiPhase.f1 ∷ PsiPhase.project_c ∷ PsiPhase.f2 ∷ []

abbrev pub psi_phase_of : ℕ → PsiPhase
psi_phase_of m = get_or psi_phases m PsiPhase.over

-- those of d_psi
abbrev pub d_psi_phase_number : DPsiPhase → ℕ
d_psi_phase_number DPsiPhase.over = 0
d_psi_phase_number DPsiPhase.gradient = 1
d_psi_phase_number DPsiPhase.f1 = 2
d_psi_phase_number DPsiPhase.project_c = 3
d_psi_phase_number DPsiPhase.jf1t = 4
d_psi_phase_number DPsiPhase.f2 = 5
d_psi_phase_number DPsiPhase.jf2t = 6

abbrev pub d_psi_phases : List DPsiPhase
d_psi_phases = DPsiPhase.over ∷ DPsiPhase.gradient ∷ DPsiPhase.f1 ∷ DPsiPhase.project_c ∷ DPsiPhase.jf1t ∷ DPsiPhase.f2 ∷ DPsiPhase.jf2t ∷ []

abbrev pub d_psi_phase_of : ℕ → DPsiPhase
d_psi_phase_of m = get_or d_psi_phases m DPsiPhase.over

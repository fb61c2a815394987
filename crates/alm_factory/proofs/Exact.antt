-- What stands for a value of psi's and d_psi's code stands for no other. Assumes nothing.
use Rattle.std.proofs.Common.{◌≡◌, refl}
use Rattle.model.specs.Psi as S
use Rattle.machine.specs.PsiRun as M
use Rattle.panoc_engine.specs.declared.outcome.Outcome.{Outcome}
use Rattle.panoc_engine.proofs.Exact.{by_back, telling_exact}
use Rattle.alm_factory.specs.declared.records.Sizes.{Sizes}
use Rattle.alm_factory.specs.declared.records.PsiQuestion.{PsiQuestion}
use Rattle.alm_factory.specs.declared.records.PsiQuestion.TheVariants as Q
use Rattle.alm_factory.specs.Values.{sizes_of, asked_of, same, told_of}

abbrev sizes_back : S.Sizes → Sizes
sizes_back s = record { n = s.n; n1 = s.n1; n2 = s.n2 }

pub sizes_exact : (s t : Sizes) → sizes_of s ≡ sizes_of t → s ≡ t
sizes_exact = by_back sizes_of sizes_back (λ s. refl)

abbrev question_back : M.Asked → PsiQuestion
question_back M.Asked.cost = Q.Cost
question_back M.Asked.gradient = Q.Gradient
question_back M.Asked.f1 = Q.F1
question_back M.Asked.project_c = Q.ProjectC
question_back M.Asked.jf1t = Q.Jf1t
question_back M.Asked.f2 = Q.F2
question_back M.Asked.jf2t = Q.Jf2t

question_round : (q : PsiQuestion) → question_back (asked_of q) ≡ q
question_round Q.Cost = refl
question_round Q.Gradient = refl
question_round Q.F1 = refl
question_round Q.ProjectC = refl
question_round Q.Jf1t = refl
question_round Q.F2 = refl
question_round Q.Jf2t = refl

pub psi_told_exact : {E : Type 0} (o p : Outcome PsiQuestion E) → told_of o ≡ told_of p → o ≡ p
psi_told_exact = telling_exact asked_of question_back question_round same same (λ e. refl)

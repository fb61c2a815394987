-- What is left of a run of psi or d_psi, as a process of document 01, and what a call comes to. A run that no start made, with a size out of range, counts as one that has ended. Definitions only.
use Rattle.std.specs.Prelude.{ℕ, ◌≡◌, Bool, true, ◌&&◌, cond, List, leb, Float, take}
use Rattle.std.specs.Float.{Format}
use Rattle.model.specs.Process.{Kind, refused, Process, ask, stop, PsiQuestion, Psi, DPsi}
use Rattle.model.specs.Psi as S
use Rattle.model.specs.Refusals.{Reply, accept, remains, lent_after}
use Rattle.machine.specs.Told as Say
use Rattle.machine.specs.PsiRun.{Asked, PsiPhase, DPsiPhase, Run, Left, PsiRun, PsiLeft, DPsiRun, DPsiLeft}

-- n at most 64, n1 and n2 at most 32
unfoldable pub sound : S.Sizes → Bool
sound s = leb s.n 64 && (leb s.n1 32 && leb s.n2 32)

-- sizes of a run that a start made
abbrev pub Sound : S.Sizes → Type 0
Sound s = sound s ≡ true

-- what is left of a run: resume is the question of a phase, and what follows its answer
unfoldable pub rest : {P V H : Type 0} → (Run P V → P → Process PsiQuestion H) → Run P V → Process PsiQuestion H
rest resume r = cond (sound r.sizes) (resume r r.phase) (stop (refused 6))

module _ (f : Format) where
  unfoldable pub psi_resume : PsiRun → PsiPhase → Psi
  psi_resume r PsiPhase.over = stop (refused 6)
  psi_resume r PsiPhase.cost = ask (PsiQuestion.cost r.u) Kind.number (S.psi_cost f r.sizes r.u r.c r.y)
  psi_resume r PsiPhase.f1 = ask (PsiQuestion.f1 r.u) (Kind.vector r.sizes.n1) (S.psi_f1 f r.sizes r.u r.c r.y r.so_far)
  psi_resume r PsiPhase.project_c = ask (PsiQuestion.project_c r.t) (Kind.vector r.sizes.n1) (S.psi_c f r.sizes r.u r.c r.y r.so_far r.t)
  psi_resume r PsiPhase.f2 = ask (PsiQuestion.f2 r.u) (Kind.vector r.sizes.n2) (S.psi_f2 f r.sizes r.u r.c r.y r.so_far)

  module _ (r : DPsiRun) where
    abbrev g : List Float
    g = r.so_far.gradient

    -- what a product is taken with: the first k places of d
    abbrev d : ℕ → List Float
    d k = take k r.so_far.d

    unfoldable pub d_psi_resume : DPsiPhase → DPsi
    d_psi_resume DPsiPhase.over = stop (refused 6)
    d_psi_resume DPsiPhase.gradient = ask (PsiQuestion.gradient r.u) (Kind.vector r.sizes.n) (S.d_psi_gradient f r.sizes r.u r.c r.y)
    d_psi_resume DPsiPhase.f1 = ask (PsiQuestion.f1 r.u) (Kind.vector r.sizes.n1) (S.d_psi_f1 f r.sizes r.u r.c r.y g)
    d_psi_resume DPsiPhase.project_c = ask (PsiQuestion.project_c r.t) (Kind.vector r.sizes.n1) (S.d_psi_c f r.sizes r.u r.c r.y g r.t)
    d_psi_resume DPsiPhase.jf1t = ask (PsiQuestion.jf1t r.u (d r.sizes.n1)) (Kind.vector r.sizes.n) (S.d_psi_jf1 f r.sizes r.u r.c r.y g)
    d_psi_resume DPsiPhase.f2 = ask (PsiQuestion.f2 r.u) (Kind.vector r.sizes.n2) (S.d_psi_f2 f r.sizes r.u r.c r.y g)
    d_psi_resume DPsiPhase.jf2t = ask (PsiQuestion.jf2t r.u (d r.sizes.n2)) (Kind.vector r.sizes.n) (S.d_psi_jf2 f r.sizes r.u r.c r.y g)

  abbrev pub psi_rest : PsiRun → Psi
  psi_rest = rest psi_resume

  abbrev pub d_psi_rest : DPsiRun → DPsi
  d_psi_rest = rest d_psi_resume

-- ---- what a call tells of the process that it has come to
abbrev pub asked_of : PsiQuestion → Asked
asked_of (PsiQuestion.cost u) = Asked.cost
asked_of (PsiQuestion.gradient u) = Asked.gradient
asked_of (PsiQuestion.f1 u) = Asked.f1
asked_of (PsiQuestion.project_c t) = Asked.project_c
asked_of (PsiQuestion.jf1t u d) = Asked.jf1t
asked_of (PsiQuestion.f2 u) = Asked.f2
asked_of (PsiQuestion.jf2t u d) = Asked.jf2t

-- psi says its number; the numbers of d_psi stand in the lent result
abbrev pub psi_tells : Float → Float
psi_tells x = x

abbrev pub d_psi_tells : List Float → Unit {0}
d_psi_tells g = tt

-- what d_psi hands back: the n numbers of the result
abbrev pub result_of : List Float → List Float
result_of g = g

-- a call has come to the process p, with the sizes s: tells is what it says of what is handed back
pub record Comes {P V E H : Type 0} (tells : H → E) (resume : Run P V → P → Process PsiQuestion H) (s : S.Sizes) (p : Process PsiQuestion H) (l : Left P V E) : Type 0 where
  pub sizes : l.run.sizes ≡ s
  pub outcome : l.told ≡ Say.saying asked_of tells p
  pub process : rest resume l.run ≡ remains p

abbrev pub PsiComes : Format → S.Sizes → Psi → PsiLeft → Type 0
PsiComes f = Comes psi_tells (psi_resume f)

-- at its end the numbers of d_psi lie in the gradient, and nothing lent is written yet
pub record DPsiComes (f : Format) (s : S.Sizes) (p : DPsi) (l : DPsiLeft) : Type 0 where
  pub comes : Comes d_psi_tells (d_psi_resume f) s p l
  pub result : (us : List Float) → lent_after result_of p us ≡ Say.given l.told l.run.so_far.gradient us

-- an answer that nothing refuses: v is the vector answered
abbrev pub PsiTakes : Format → PsiRun → Reply → List Float → PsiLeft → Type 0
PsiTakes f r a v l = PsiComes f r.sizes (accept (psi_rest f r) a v) l

abbrev pub DPsiTakes : Format → DPsiRun → Reply → List Float → DPsiLeft → Type 0
DPsiTakes f r a v l = DPsiComes f r.sizes (accept (d_psi_rest f r) a v) l

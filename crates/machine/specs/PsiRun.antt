-- The runs of psi and d_psi: what each keeps between two calls, and what a call leaves of it. No type of any code stands here. Definitions only.
use Rattle.std.specs.Prelude.{ℕ, List, ◌++◌, Float, length, drop}
use Rattle.model.specs.Psi.{Sizes}
use Rattle.machine.specs.Told as Say

-- a question, less its points
pub data Asked : Type 0 where
  cost : Asked
  gradient : Asked
  f1 : Asked
  project_c : Asked
  jf1t : Asked
  f2 : Asked
  jf2t : Asked

-- what a run of psi waits for
pub data PsiPhase : Type 0 where
  over : PsiPhase
  cost : PsiPhase
  f1 : PsiPhase
  project_c : PsiPhase
  f2 : PsiPhase

-- what a run of d_psi waits for
pub data DPsiPhase : Type 0 where
  over : DPsiPhase
  gradient : DPsiPhase
  f1 : DPsiPhase
  project_c : DPsiPhase
  jf1t : DPsiPhase
  f2 : DPsiPhase
  jf2t : DPsiPhase

-- A run at a phase P, with V so far: sizes and c; u, y and t = F1 + y over a number; the last answer that was copied; and the places that no vector uses, which no move reads or writes.
-- work has all its places, since vectors of n, n1 and n2 places come to stand in it.
pub record Run (P V : Type 0) : Type 0 where
  pub phase : P
  pub sizes : Sizes
  pub c : Float
  pub so_far : V
  pub u : List Float
  pub y : List Float
  pub t : List Float
  pub work : List Float
  pub beyond : List Float

-- what d_psi has so far: the gradient, and what the next product is taken with, which has all its places, as work has
pub record Sum : Type 0 where
  pub gradient : List Float
  pub d : List Float

-- what a call leaves: E is what an end says
pub record Left (P V E : Type 0) : Type 0 where
  pub told : Say.Told Asked E
  pub run : Run P V

-- psi has its number so far, and ends with it
abbrev pub PsiRun : Type 0
PsiRun = Run PsiPhase Float

abbrev pub PsiLeft : Type 0
PsiLeft = Left PsiPhase Float Float

-- d_psi ends with nothing to say: its numbers lie in the gradient
abbrev pub DPsiRun : Type 0
DPsiRun = Run DPsiPhase Sum

abbrev pub DPsiLeft : Type 0
DPsiLeft = Left DPsiPhase Sum (Unit {0})

-- x over the first places of w, the further ones as they were
abbrev pub overlay : List Float → List Float → List Float
overlay x w = x ++ drop (length x) w

-- ---- a run elsewhere
abbrev pub at : {P V : Type 0} → P → Run P V → Run P V
at p r = record r { phase = p }

abbrev pub having : {P V : Type 0} → V → Run P V → Run P V
having x r = record r { so_far = x }

abbrev pub with_t : {P V : Type 0} → List Float → Run P V → Run P V
with_t t r = record r { t = t }

abbrev pub copied : {P V : Type 0} → List Float → Run P V → Run P V
copied v r = record r { work = overlay v r.work }

-- ---- what a call leaves: a question asked, an end, a failure that the host reports, and a refusal, which leaves the run as it was
abbrev pub asks : {P V E : Type 0} → Asked → P → Run P V → Left P V E
asks a p r = record { told = Say.Told.asked a; run = at p r }

abbrev pub ends : {P V E : Type 0} → E → P → Run P V → Left P V E
ends e p r = record { told = Say.Told.ended e; run = at p r }

abbrev pub fails : {P V E : Type 0} → ℕ → P → Run P V → Left P V E
fails c p r = record { told = Say.Told.failed c; run = at p r }

abbrev pub refuses : {P V E : Type 0} → ℕ → Run P V → Left P V E
refuses k r = record { told = Say.Told.refused k; run = r }

-- The run of the machine that the small part of a run and its board stand for, and what a call leaves of it. Definitions only.
use Rattle.std.specs.Prelude.{ℕ, suc, ◌≡◌, true, ◌≤◌, List, [], ◌∷◌, Float, length, replicate}
use Rattle.ieee.specs.Numbers.{null}
use Rattle.model.specs.Refusals.{Reply, answer_refusal, psi_refusal}
use Rattle.board.specs.Board.{vector, beyond}
use Rattle.machine.specs.PsiRun as M
use Rattle.machine.specs.PsiCalls.{waits, psi_kind_at, d_psi_kind_at}
use Rattle.panoc_engine.specs.declared.outcome.Outcome.{Outcome}
use Rattle.panoc_engine.specs.declared.outcome.Stepped.{Stepped}
use Rattle.panoc_engine.specs.declared.outcome.Answered.{Answered}
use Rattle.alm_factory.specs.declared.records.Sizes.{Sizes}
use Rattle.alm_factory.specs.declared.records.PsiQuestion.{PsiQuestion}
use Rattle.alm_factory.specs.declared.records.Psi.{Psi}
use Rattle.alm_factory.specs.declared.records.PsiRun.{PsiRun}
use Rattle.alm_factory.specs.declared.records.PsiMoved.{PsiMoved}
use Rattle.alm_factory.specs.declared.records.DPsi.{DPsi}
use Rattle.alm_factory.specs.declared.records.DPsiRun.{DPsiRun}
use Rattle.alm_factory.specs.declared.records.DPsiMoved.{DPsiMoved}
use Rattle.alm_factory.specs.Values.{sizes_of, psi_phase_of, d_psi_phase_of, told_of}

-- ---- the vectors by number: the code's constants have these names and numbers
abbrev pub U : ℕ
U = 0

abbrev pub Y : ℕ
Y = 1

abbrev pub T : ℕ
T = 2

abbrev pub WORK : ℕ
WORK = 3

abbrev pub GRADIENT : ℕ
GRADIENT = 2

abbrev pub D_T : ℕ
D_T = 3

abbrev pub D : ℕ
D = 4

abbrev pub D_WORK : ℕ
D_WORK = 5

-- how many places of each vector a run has; work and d have all
abbrev pub psi_places : Sizes → List ℕ
psi_places s = s.n ∷ (s.n1 ∷ (s.n1 ∷ (64 ∷ [])))

abbrev pub d_psi_places : Sizes → List ℕ
d_psi_places s = s.n ∷ (s.n1 ∷ (s.n ∷ (s.n1 ∷ (64 ∷ (64 ∷ [])))))

-- where the table refuses a start, the board stays as it was: l before, l' after
abbrev pub Stays : Sizes → List Float → List Float → List Float → List Float → Type 0
Stays s u xi l l' = (k : ℕ) → psi_refusal (sizes_of s) (length u) (length xi) ≡ suc k → l' ≡ l

-- a board of k zeros
unfoldable pub blank : ℕ → List Float
blank k = replicate k null

-- ---- the run, of the small part s and the board l
unfoldable pub psi_run : Psi → List Float → M.PsiRun
psi_run s l =
    record {
      phase = psi_phase_of s.phase;
      sizes = sizes_of s.sizes;
      c = s.c;
      so_far = s.value;
      u = vector U s.sizes.n l;
      y = vector Y s.sizes.n1 l;
      t = vector T s.sizes.n1 l;
      work = vector WORK 64 l;
      beyond = beyond (psi_places s.sizes) l;
    }

unfoldable pub d_psi_run : DPsi → List Float → M.DPsiRun
d_psi_run s l =
    record {
      phase = d_psi_phase_of s.phase;
      sizes = sizes_of s.sizes;
      c = s.c;
      so_far = record { gradient = vector GRADIENT s.sizes.n l; d = vector D 64 l };
      u = vector U s.sizes.n l;
      y = vector Y s.sizes.n1 l;
      t = vector D_T s.sizes.n1 l;
      work = vector D_WORK 64 l;
      beyond = beyond (d_psi_places s.sizes) l;
    }

-- that of a run by value
abbrev pub psi_of : PsiRun → M.PsiRun
psi_of r = psi_run r.psi r.board

abbrev pub d_psi_of : DPsiRun → M.DPsiRun
d_psi_of r = d_psi_run r.d_psi r.board

-- sizes of a run that a start made, and a board of k places
pub record Stands (k : ℕ) (s : Sizes) (l : List Float) : Type 0 where
  pub n : s.n ≤ 64
  pub n1 : s.n1 ≤ 32
  pub n2 : s.n2 ≤ 32
  pub places : length l ≡ k

-- nothing refuses an answer with a vector of so many places
abbrev pub PsiAccepts : Psi → Reply → ℕ → Type 0
PsiAccepts s a vs = answer_refusal (waits psi_kind_at (sizes_of s.sizes) (psi_phase_of s.phase)) a vs true ≡ 0

abbrev pub DPsiAccepts : DPsi → Reply → ℕ → Type 0
DPsiAccepts s a vs = answer_refusal (waits d_psi_kind_at (sizes_of s.sizes) (d_psi_phase_of s.phase)) a vs true ≡ 0

-- ---- what a handler leaves of s and the board, what a call in place, and what a call by value
unfoldable pub psi_left : Psi → PsiMoved → List Float → M.PsiLeft
psi_left s m l = record { told = told_of m.outcome; run = psi_run (record s { phase = m.phase; value = m.value }) l }

unfoldable pub d_psi_left : DPsi → DPsiMoved → List Float → M.DPsiLeft
d_psi_left s m l = record { told = told_of m.outcome; run = d_psi_run (record s { phase = m.phase }) l }

abbrev pub psi_stepped : Stepped (Outcome PsiQuestion Float) Psi → List Float → M.PsiLeft
psi_stepped r l = record { told = told_of r.outcome; run = psi_run r.state l }

abbrev pub d_psi_stepped : Stepped (Outcome PsiQuestion (Unit {0})) DPsi → List Float → M.DPsiLeft
d_psi_stepped r l = record { told = told_of r.outcome; run = d_psi_run r.state l }

abbrev pub psi_gave : Answered (Outcome PsiQuestion Float) PsiRun → M.PsiLeft
psi_gave r = record { told = told_of r.outcome; run = psi_of r.run }

abbrev pub d_psi_gave : Answered (Outcome PsiQuestion (Unit {0})) DPsiRun → M.DPsiLeft
d_psi_gave r = record { told = told_of r.outcome; run = d_psi_of r.run }

-- What the public calls of psi and d_psi give, as functions of the run, and in terms of the process that is left of it. Definitions only.
use Rattle.std.specs.Prelude.{ℕ, zero, suc, ◌≡◌, true, cond, ◌&&◌, List, [], eqb, Float, length, replicate}
use Rattle.std.proofs.Math.Option.{Option, none, some}
use Rattle.std.specs.Float.{Format}
use Rattle.ieee.specs.Numbers.{null}
use Rattle.model.specs.Process.{Kind, Process, PsiQuestion, DPsi}
use Rattle.model.specs.Psi.{Sizes}
use Rattle.model.specs.Refusals.{Reply, wanted, answer_refusal, accept, lent_after, psi_refusal, penalty_in, multipliers_in}
use Rattle.machine.specs.Told as Say
use Rattle.machine.specs.Waits.{of_no_kind}
use Rattle.machine.specs.InnerCalls.{asking}
use Rattle.machine.specs.PsiRun.{Asked, PsiPhase, DPsiPhase, Run, Left, PsiRun, PsiLeft, DPsiRun, DPsiLeft, asks, refuses}
use Rattle.machine.specs.PsiMoves.{psi_move, d_psi_move}
use Rattle.machine.specs.PsiRest.{sound, psi_rest, d_psi_resume, d_psi_rest, Comes, PsiComes, d_psi_tells, result_of}

-- ---- a start

-- what an accepted start begins at u and xi, with nothing so far: the vectors that hold nothing yet hold zeros
abbrev pub zeros : ℕ → List Float
zeros n = replicate n null

abbrev pub begun : {P V : Type 0} → P → Sizes → V → List Float → List Float → List Float → Run P V
begun p s x u xi beyond =
    record { phase = p; sizes = s; c = penalty_in xi; so_far = x; u = u; y = multipliers_in xi; t = zeros s.n1; work = zeros 64; beyond = beyond }

abbrev pub psi_begun : Sizes → List Float → List Float → List Float → PsiLeft
psi_begun s u xi beyond = asks Asked.cost PsiPhase.cost (begun PsiPhase.cost s null u xi beyond)

abbrev pub d_psi_begun : Sizes → List Float → List Float → List Float → DPsiLeft
d_psi_begun s u xi beyond = asks Asked.gradient DPsiPhase.gradient (begun DPsiPhase.gradient s (record { gradient = zeros s.n; d = zeros 64 }) u xi beyond)

-- a start at u and xi: where the table refuses, its number and a run that has ended; else what the start begins
pub record Starts {P V E : Type 0} (over : P) (s : Sizes) (u xi : List Float) (begins : List Float → Left P V E) (l : Left P V E) : Type 0 where
  pub sizes : l.run.sizes ≡ s
  pub refused : (k : ℕ) → psi_refusal s (length u) (length xi) ≡ suc k → (l.told ≡ Say.Told.refused (suc k)) × (l.run.phase ≡ over)
  pub accepted : psi_refusal s (length u) (length xi) ≡ 0 → l ≡ begins l.run.beyond

abbrev pub PsiStarts : Sizes → List Float → List Float → PsiLeft → Type 0
PsiStarts s u xi = Starts PsiPhase.over s u xi (psi_begun s u xi)

abbrev pub DPsiStarts : Sizes → List Float → List Float → DPsiLeft → Type 0
DPsiStarts s u xi = Starts DPsiPhase.over s u xi (d_psi_begun s u xi)

-- ---- an answer

-- what a run of sizes s waits for at a phase: nothing where it has ended, or where no start made it
unfoldable pub waits : {P : Type 0} → (Sizes → P → Option Kind) → Sizes → P → Option Kind
waits kind_at s p = cond (sound s) (kind_at s p) none

unfoldable pub psi_kind_at : Sizes → PsiPhase → Option Kind
psi_kind_at s PsiPhase.over = none
psi_kind_at s PsiPhase.cost = some Kind.number
psi_kind_at s PsiPhase.f1 = some (Kind.vector s.n1)
psi_kind_at s PsiPhase.project_c = some (Kind.vector s.n1)
psi_kind_at s PsiPhase.f2 = some (Kind.vector s.n2)

unfoldable pub d_psi_kind_at : Sizes → DPsiPhase → Option Kind
d_psi_kind_at s DPsiPhase.over = none
d_psi_kind_at s DPsiPhase.gradient = some (Kind.vector s.n)
d_psi_kind_at s DPsiPhase.f1 = some (Kind.vector s.n1)
d_psi_kind_at s DPsiPhase.project_c = some (Kind.vector s.n1)
d_psi_kind_at s DPsiPhase.jf1t = some (Kind.vector s.n)
d_psi_kind_at s DPsiPhase.f2 = some (Kind.vector s.n2)
d_psi_kind_at s DPsiPhase.jf2t = some (Kind.vector s.n)

-- the refusal k, where it is one, with the run as it was; else what the call leaves
unfoldable pub ruled : {P V E : Type 0} → ℕ → Run P V → Left P V E → Left P V E
ruled zero r l = l
ruled (suc k) r l = refuses (suc k) r

-- the number by which the table refuses an answer, 0 for none; vs is the length of the answered vector, us that of the lent result
abbrev pub psi_refuses : PsiRun → Reply → ℕ → ℕ
psi_refuses r a vs = answer_refusal (waits psi_kind_at r.sizes r.phase) a vs true

abbrev pub d_psi_refuses : DPsiRun → Reply → ℕ → ℕ → ℕ
d_psi_refuses r a vs us = answer_refusal (waits d_psi_kind_at r.sizes r.phase) a vs (eqb us r.sizes.n)

-- the lent result us after a call
abbrev pub handed_out : DPsiLeft → List Float → List Float
handed_out l us = Say.given l.told l.run.so_far.gradient us

module _ (f : Format) where
  -- the whole answer: v is the vector answered
  unfoldable pub psi_answer : Reply → List Float → PsiRun → PsiLeft
  psi_answer a v r = ruled (psi_refuses r a (length v)) r (psi_move f r.phase a v r)

  -- us is the lent result before the call
  unfoldable pub d_psi_answer : Reply → List Float → List Float → DPsiRun → DPsiLeft
  d_psi_answer a v us r = ruled (d_psi_refuses r a (length v) (length us)) r (d_psi_move f r.phase a v r)

  -- any answer that C can give: none is of a kind of no name
  unfoldable pub psi_answer_any : Option Reply → List Float → PsiRun → PsiLeft
  psi_answer_any none v r = refuses (of_no_kind (waits psi_kind_at r.sizes r.phase)) r
  psi_answer_any (some a) v r = psi_answer a v r

  unfoldable pub d_psi_answer_any : Option Reply → List Float → List Float → DPsiRun → DPsiLeft
  d_psi_answer_any none v us r = refuses (of_no_kind (waits d_psi_kind_at r.sizes r.phase)) r
  d_psi_answer_any (some a) v us r = d_psi_answer a v us r

  -- ---- the same in terms of the process: where the table refuses, its number and the run unchanged; else what the process comes to
  pub record PsiAnswers (r : PsiRun) (a : Reply) (v : List Float) (l : PsiLeft) : Type 0 where
    pub refused : (k : ℕ) → answer_refusal (wanted (psi_rest f r)) a (length v) true ≡ suc k → (l.told ≡ Say.Told.refused (suc k)) × (l.run ≡ r)
    pub accepted : answer_refusal (wanted (psi_rest f r)) a (length v) true ≡ 0 → PsiComes f r.sizes (accept (psi_rest f r) a v) l

  -- a call of d_psi has come to the process p, with the sizes s: us and ws are the lent result before and after
  pub record DPsiReaches (s : Sizes) (p : DPsi) (us ws : List Float) (l : DPsiLeft) : Type 0 where
    pub comes : Comes d_psi_tells (d_psi_resume f) s p l
    pub wrote : ws ≡ lent_after result_of p us

  pub record DPsiAnswers (r : DPsiRun) (a : Reply) (v us ws : List Float) (l : DPsiLeft) : Type 0 where
    pub refused : (k : ℕ) → answer_refusal (wanted (d_psi_rest f r)) a (length v) (eqb (length us) r.sizes.n) ≡ suc k → (l.told ≡ Say.Told.refused (suc k)) × (l.run ≡ r) × (ws ≡ us)
    pub accepted : answer_refusal (wanted (d_psi_rest f r)) a (length v) (eqb (length us) r.sizes.n) ≡ 0 → DPsiReaches r.sizes (accept (d_psi_rest f r) a v) us ws l

-- ---- the points: a product has u and a vector
abbrev pub first_point : PsiQuestion → List Float
first_point (PsiQuestion.cost u) = u
first_point (PsiQuestion.gradient u) = u
first_point (PsiQuestion.f1 u) = u
first_point (PsiQuestion.project_c t) = t
first_point (PsiQuestion.jf1t u d) = u
first_point (PsiQuestion.f2 u) = u
first_point (PsiQuestion.jf2t u d) = u

abbrev pub second_point : PsiQuestion → List Float
second_point (PsiQuestion.cost u) = []
second_point (PsiQuestion.gradient u) = []
second_point (PsiQuestion.f1 u) = []
second_point (PsiQuestion.project_c t) = []
second_point (PsiQuestion.jf1t u d) = d
second_point (PsiQuestion.f2 u) = []
second_point (PsiQuestion.jf2t u d) = d

-- 8 where a lent slice, of length xs or ys, is not as long as its point, else 0
abbrev pub places_refusal : List Float → List Float → ℕ → ℕ → ℕ
places_refusal p q xs ys = cond (eqb xs (length p) && eqb ys (length q)) 0 8

-- 6 where the run has ended
unfoldable pub points_refusal : Option PsiQuestion → ℕ → ℕ → ℕ
points_refusal none xs ys = 6
points_refusal (some q) xs ys = places_refusal (first_point q) (second_point q) xs ys

-- points: the number of the refusal, 0 for none, and what stands in the lent slices afterwards; p is what is left of the run
pub record Points {H : Type 0} (p : Process PsiQuestion H) (xs xs' ys ys' : List Float) (k : ℕ) : Type 0 where
  pub number : k ≡ points_refusal (asking p) (length xs) (length ys)
  pub kept : (m : ℕ) → k ≡ suc m → (xs' ≡ xs) × (ys' ≡ ys)
  pub points : k ≡ 0 → (q : PsiQuestion) → asking p ≡ some q → (xs' ≡ first_point q) × (ys' ≡ second_point q)

-- the points p and q into two lent slices
pub record Placed (p q xs xs' ys ys' : List Float) (k : ℕ) : Type 0 where
  pub number : k ≡ places_refusal p q (length xs) (length ys)
  pub kept : (m : ℕ) → k ≡ suc m → (xs' ≡ xs) × (ys' ≡ ys)
  pub points : k ≡ 0 → (xs' ≡ p) × (ys' ≡ q)

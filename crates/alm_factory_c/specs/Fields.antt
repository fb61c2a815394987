-- What the fields of the structs of C stand for, and what a call leaves in them. Definitions only.
use Rattle.std.specs.Prelude.{ℕ, suc, ◌≡◌, true, List, [], ◌∷◌, Float, length, eqb, get_or}
use Rattle.std.proofs.Math.Option.{Option}
use Rattle.std.specs.Float.{binary64}
use Rattle.model.specs.Refusals.{Reply}
use Rattle.machine.specs.Told.{Told, asked, ended, refused, failed}
use Rattle.machine.specs.Waits.{any_refusal}
use Rattle.machine.specs.Numbers.{outcome_number, told_number, table_number}
use Rattle.machine.specs.PsiNumbers.{question_number, psi_phase_number, d_psi_phase_number}
use Rattle.machine.specs.PsiRun as M
use Rattle.machine.specs.PsiCalls.{waits, psi_kind_at, d_psi_kind_at, psi_answer_any, d_psi_answer_any, handed_out, PsiStarts, DPsiStarts}
use Rattle.alm_factory.specs.declared.records.PsiPhase.{PsiPhase}
use Rattle.alm_factory.specs.declared.records.PsiPhase.TheVariants as P
use Rattle.alm_factory.specs.declared.records.DPsiPhase.{DPsiPhase}
use Rattle.alm_factory.specs.declared.records.DPsiPhase.TheVariants as D
use Rattle.alm_factory.specs.declared.records.Psi.{Psi}
use Rattle.alm_factory.specs.declared.records.DPsi.{DPsi}
use Rattle.alm_factory.specs.declared.records.PsiMoved.{PsiMoved}
use Rattle.alm_factory.specs.declared.records.DPsiMoved.{DPsiMoved}
use Rattle.alm_factory.specs.declared.records.Sizes.{Sizes}
use Rattle.alm_factory.specs.Values.{sizes_of, psi_phase_of, d_psi_phase_of, told_of}
use Rattle.alm_factory.specs.Runs.{psi_run, d_psi_run, Stays}
use Rattle.alm_factory_c.specs.declared.psi.PsiC.{PsiC}
use Rattle.alm_factory_c.specs.declared.d_psi.DPsiC.{DPsiC}

-- ---- what comes in: a number of no phase is of a run that has ended
abbrev pub psi_phases : List PsiPhase
psi_phases = P.Over ∷ P.Cost ∷ P.F1 ∷ P.ProjectC ∷ P.F2 ∷ []

abbrev pub psi_at : ℕ → PsiPhase
psi_at m = get_or psi_phases m P.Over

abbrev pub d_psi_phases : List DPsiPhase
d_psi_phases = D.Over ∷ D.Gradient ∷ D.F1 ∷ D.ProjectC ∷ D.Jf1t ∷ D.F2 ∷ D.Jf2t ∷ []

abbrev pub d_psi_at : ℕ → DPsiPhase
d_psi_at m = get_or d_psi_phases m D.Over

-- ---- psi

abbrev pub psi_small : PsiC → Psi
psi_small r = record { phase = psi_at r.phase; sizes = record { n = r.n; n1 = r.n1; n2 = r.n2 }; c = r.c; value = r.value }

abbrev pub psi_of : PsiC → M.PsiRun
psi_of r = psi_run (psi_small r) r.board

-- what stands as the number that psi ends with
abbrev pub final : Told M.Asked Float → Float → Float
final (asked q) was = was
final (ended e) was = e
final (refused k) was = was
final (failed c) was = was

abbrev pub no_number : {E : Type 0} → E → ℕ
no_number e = 0

-- what a handler changes, put into the fields
abbrev pub psi_put : PsiMoved → PsiC → PsiC
psi_put m was =
    record was {
      phase = psi_phase_number (psi_phase_of m.phase);
      outcome = outcome_number (told_of m.outcome);
      told = told_number question_number no_number (told_of m.outcome);
      value = m.value;
      answer = final (told_of m.outcome) was.answer;
    }

-- a call has left l: what it tells, in exact numbers, and the run
pub record PsiKept (l : M.PsiLeft) (was is : PsiC) (r : ℕ) : Type 0 where
  pub number : r ≡ table_number l.told
  pub outcome : is.outcome ≡ outcome_number l.told
  pub told : is.told ≡ told_number question_number no_number l.told
  pub answer : is.answer ≡ final l.told was.answer
  pub phase : is.phase ≡ psi_phase_number l.run.phase
  pub run : psi_of is ≡ l.run

-- the number by which the table refuses an answer, 0 for none
abbrev pub psi_refusal_of : PsiC → Option Reply → ℕ → ℕ
psi_refusal_of was a vs = any_refusal (waits psi_kind_at (sizes_of (psi_small was).sizes) (psi_phase_of (psi_at was.phase))) a vs true

-- an answer: where the table refuses, its number and nothing written; else what the machine leaves
pub record PsiLeaves (a : Option Reply) (v : List Float) (was is : PsiC) (r : ℕ) : Type 0 where
  pub refused : (k : ℕ) → psi_refusal_of was a (length v) ≡ suc k → (r ≡ suc k) × (is ≡ was)
  pub accepted : psi_refusal_of was a (length v) ≡ 0 → PsiKept (psi_answer_any binary64 a v (psi_of was)) was is r

-- a start: one that is refused leaves every place of the board as it was
pub record PsiBegins (s : Sizes) (u xi : List Float) (was is : PsiC) (r : ℕ) : Type 0 where
  pub left : M.PsiLeft
  pub starts : PsiStarts (sizes_of s) u xi left
  pub kept : PsiKept left was is r
  pub stays : Stays s u xi was.board is.board

-- ---- d_psi, with the lent result

abbrev pub d_psi_small : DPsiC → DPsi
d_psi_small r = record { phase = d_psi_at r.phase; sizes = record { n = r.n; n1 = r.n1; n2 = r.n2 }; c = r.c }

abbrev pub d_psi_of : DPsiC → M.DPsiRun
d_psi_of r = d_psi_run (d_psi_small r) r.board

abbrev pub d_psi_put : DPsiMoved → DPsiC → DPsiC
d_psi_put m was =
    record was {
      phase = d_psi_phase_number (d_psi_phase_of m.phase);
      outcome = outcome_number (told_of m.outcome);
      told = told_number question_number no_number (told_of m.outcome);
    }

pub record DPsiKept (l : M.DPsiLeft) (is : DPsiC) (r : ℕ) : Type 0 where
  pub number : r ≡ table_number l.told
  pub outcome : is.outcome ≡ outcome_number l.told
  pub told : is.told ≡ told_number question_number no_number l.told
  pub phase : is.phase ≡ d_psi_phase_number l.run.phase
  pub run : d_psi_of is ≡ l.run

abbrev pub d_psi_refusal_of : DPsiC → Option Reply → ℕ → ℕ → ℕ
d_psi_refusal_of was a vs us = any_refusal (waits d_psi_kind_at (sizes_of (d_psi_small was).sizes) (d_psi_phase_of (d_psi_at was.phase))) a vs (eqb us was.n)

pub record DPsiLeaves (a : Option Reply) (v us ws : List Float) (was is : DPsiC) (r : ℕ) : Type 0 where
  pub refused : (k : ℕ) → d_psi_refusal_of was a (length v) (length us) ≡ suc k → (r ≡ suc k) × (is ≡ was) × (ws ≡ us)
  pub accepted : d_psi_refusal_of was a (length v) (length us) ≡ 0
      → DPsiKept (d_psi_answer_any binary64 a v us (d_psi_of was)) is r × (ws ≡ handed_out (d_psi_answer_any binary64 a v us (d_psi_of was)) us)

pub record DPsiBegins (s : Sizes) (u xi : List Float) (was is : DPsiC) (r : ℕ) : Type 0 where
  pub left : M.DPsiLeft
  pub starts : DPsiStarts (sizes_of s) u xi left
  pub kept : DPsiKept left is r
  pub stays : Stays s u xi was.board is.board

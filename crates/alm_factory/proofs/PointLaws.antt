-- The points of psi and d_psi, by the vectors that hold them. Assumes nothing.
use Rattle.std.proofs.Common.{◌≡◌, refl, sym, ap, ◌∙◌, ℕ, ◌≤◌, true, false, List, length, Float}
use Rattle.std.specs.Float.{binary64}
use Rattle.model.specs.Process.{Kind, Answer, Process, refused, ask, stop, PsiQuestion}
use Rattle.model.specs.Process as A
use Rattle.board.specs.Board.{vector}
use Rattle.board.proofs.Writes.{length_vector}
use Rattle.board.proofs.Loops.{vector_none}
use Rattle.machine.specs.PsiRest.{sound, psi_resume, d_psi_resume, psi_rest, d_psi_rest}
use Rattle.machine.specs.PsiCalls.{first_point, second_point, Placed, Points}
use Rattle.machine.proofs.PsiLaws.{sound_n, sound_n1, sound_n2, placed_not_first, placed_not_second, points_at, points_none, rest_unsound, rest_over}
use Rattle.alm_factory.specs.declared.records.Psi.{Psi}
use Rattle.alm_factory.specs.declared.records.PsiPhase.{PsiPhase}
use Rattle.alm_factory.specs.declared.records.PsiPhase.TheVariants as P
use Rattle.alm_factory.specs.declared.records.DPsi.{DPsi}
use Rattle.alm_factory.specs.declared.records.DPsiPhase.{DPsiPhase}
use Rattle.alm_factory.specs.declared.records.DPsiPhase.TheVariants as D
use Rattle.alm_factory.specs.Values.{sizes_of, psi_phase_of, d_psi_phase_of}
use Rattle.alm_factory.specs.Runs as V
use Rattle.alm_factory.specs.Runs.{psi_run, d_psi_run}
use Rattle.alm_factory.proofs.Boards.{take_vector}

-- ---- a slice of another length than its point's
module _ (j n i m : ℕ) (l xs ys : List Float) where
  pub not_first : (length xs ≡ n → ⊥) → Placed (vector j n l) (vector i m l) xs xs ys ys 8
  not_first z = placed_not_first (vector j n l) (vector i m l) xs ys (λ e. z (e ∙ length_vector j n l))

  pub not_second : length xs ≡ n → (length ys ≡ m → ⊥) → Placed (vector j n l) (vector i m l) xs xs ys ys 8
  not_second e z = placed_not_second (vector j n l) (vector i m l) xs ys (e ∙ sym (length_vector j n l)) (λ w. z (w ∙ length_vector i m l))

-- ---- psi: at each phase, where it has ended, and where no start made it
module _ (s : Psi) (l xs xs' ys ys' : List Float) (k : ℕ) (h : sound (sizes_of s.sizes) ≡ true) where
  psi_at : (p : PsiPhase) (q : PsiQuestion) (a : Kind) (continue : Answer a → A.Psi) → s.phase ≡ p → psi_resume binary64 (psi_run s l) (psi_phase_of p) ≡ ask q a continue
      → Placed (first_point q) (second_point q) xs xs' ys ys' k → Points (psi_rest binary64 (psi_run s l)) xs xs' ys ys' k
  unfolding psi_run
  psi_at p q a continue e w g =
      points_at (psi_resume binary64) (psi_run s l) xs xs' ys ys' k q a continue h (ap (λ (z : PsiPhase). psi_resume binary64 (psi_run s l) (psi_phase_of z)) e ∙ w) g

  pub cost_points : s.phase ≡ P.Cost → Placed (vector V.U s.sizes.n l) (vector V.U 0 l) xs xs' ys ys' k → Points (psi_rest binary64 (psi_run s l)) xs xs' ys ys' k
  unfolding psi_run psi_resume
  cost_points e g = psi_at P.Cost _ _ _ e refl (rw (vector_none V.U l) at g)

  pub f1_points : s.phase ≡ P.F1 → Placed (vector V.U s.sizes.n l) (vector V.U 0 l) xs xs' ys ys' k → Points (psi_rest binary64 (psi_run s l)) xs xs' ys ys' k
  unfolding psi_run psi_resume
  f1_points e g = psi_at P.F1 _ _ _ e refl (rw (vector_none V.U l) at g)

  pub f2_points : s.phase ≡ P.F2 → Placed (vector V.U s.sizes.n l) (vector V.U 0 l) xs xs' ys ys' k → Points (psi_rest binary64 (psi_run s l)) xs xs' ys ys' k
  unfolding psi_run psi_resume
  f2_points e g = psi_at P.F2 _ _ _ e refl (rw (vector_none V.U l) at g)

  pub project_c_points : s.phase ≡ P.ProjectC → Placed (vector V.T s.sizes.n1 l) (vector V.U 0 l) xs xs' ys ys' k → Points (psi_rest binary64 (psi_run s l)) xs xs' ys ys' k
  unfolding psi_run psi_resume
  project_c_points e g = psi_at P.ProjectC _ _ _ e refl (rw (vector_none V.U l) at g)

pub over_points : (s : Psi) (l xs ys : List Float) → s.phase ≡ P.Over → Points (psi_rest binary64 (psi_run s l)) xs xs ys ys 6
unfolding psi_run psi_resume
over_points s l xs ys e = points_none _ xs ys (rest_over (psi_resume binary64) (psi_run s l) (ap (λ (z : PsiPhase). psi_resume binary64 (psi_run s l) (psi_phase_of z)) e))

pub unsound_points : (s : Psi) (l xs ys : List Float) → sound (sizes_of s.sizes) ≡ false → Points (psi_rest binary64 (psi_run s l)) xs xs ys ys 6
unfolding psi_run
unsound_points s l xs ys h = points_none _ xs ys (rest_unsound (psi_resume binary64) (psi_run s l) h)

-- ---- d_psi
module _ (s : DPsi) (l xs xs' ys ys' : List Float) (k : ℕ) (h : sound (sizes_of s.sizes) ≡ true) where
  d_psi_at : (p : DPsiPhase) (q : PsiQuestion) (a : Kind) (continue : Answer a → A.DPsi) → s.phase ≡ p → d_psi_resume binary64 (d_psi_run s l) (d_psi_phase_of p) ≡ ask q a continue
      → Placed (first_point q) (second_point q) xs xs' ys ys' k → Points (d_psi_rest binary64 (d_psi_run s l)) xs xs' ys ys' k
  unfolding d_psi_run
  d_psi_at p q a continue e w g =
      points_at (d_psi_resume binary64) (d_psi_run s l) xs xs' ys ys' k q a continue h (ap (λ (z : DPsiPhase). d_psi_resume binary64 (d_psi_run s l) (d_psi_phase_of z)) e ∙ w) g

  pub gradient_points : s.phase ≡ D.Gradient → Placed (vector V.U s.sizes.n l) (vector V.U 0 l) xs xs' ys ys' k → Points (d_psi_rest binary64 (d_psi_run s l)) xs xs' ys ys' k
  unfolding d_psi_run d_psi_resume
  gradient_points e g = d_psi_at D.Gradient _ _ _ e refl (rw (vector_none V.U l) at g)

  pub d_f1_points : s.phase ≡ D.F1 → Placed (vector V.U s.sizes.n l) (vector V.U 0 l) xs xs' ys ys' k → Points (d_psi_rest binary64 (d_psi_run s l)) xs xs' ys ys' k
  unfolding d_psi_run d_psi_resume
  d_f1_points e g = d_psi_at D.F1 _ _ _ e refl (rw (vector_none V.U l) at g)

  pub d_f2_points : s.phase ≡ D.F2 → Placed (vector V.U s.sizes.n l) (vector V.U 0 l) xs xs' ys ys' k → Points (d_psi_rest binary64 (d_psi_run s l)) xs xs' ys ys' k
  unfolding d_psi_run d_psi_resume
  d_f2_points e g = d_psi_at D.F2 _ _ _ e refl (rw (vector_none V.U l) at g)

  pub d_project_c_points : s.phase ≡ D.ProjectC → Placed (vector V.D_T s.sizes.n1 l) (vector V.U 0 l) xs xs' ys ys' k → Points (d_psi_rest binary64 (d_psi_run s l)) xs xs' ys ys' k
  unfolding d_psi_run d_psi_resume
  d_project_c_points e g = d_psi_at D.ProjectC _ _ _ e refl (rw (vector_none V.U l) at g)

  pub jf1t_points : s.phase ≡ D.Jf1t → s.sizes.n1 ≤ 64 → Placed (vector V.U s.sizes.n l) (vector V.D s.sizes.n1 l) xs xs' ys ys' k → Points (d_psi_rest binary64 (d_psi_run s l)) xs xs' ys ys' k
  unfolding d_psi_run d_psi_resume
  jf1t_points e n g = d_psi_at D.Jf1t _ _ _ e refl (rw (← (take_vector V.D s.sizes.n1 l n)) at g)

  pub jf2t_points : s.phase ≡ D.Jf2t → s.sizes.n2 ≤ 64 → Placed (vector V.U s.sizes.n l) (vector V.D s.sizes.n2 l) xs xs' ys ys' k → Points (d_psi_rest binary64 (d_psi_run s l)) xs xs' ys ys' k
  unfolding d_psi_run d_psi_resume
  jf2t_points e n g = d_psi_at D.Jf2t _ _ _ e refl (rw (← (take_vector V.D s.sizes.n2 l n)) at g)

pub d_over_points : (s : DPsi) (l xs ys : List Float) → s.phase ≡ D.Over → Points (d_psi_rest binary64 (d_psi_run s l)) xs xs ys ys 6
unfolding d_psi_run d_psi_resume
d_over_points s l xs ys e = points_none _ xs ys (rest_over (d_psi_resume binary64) (d_psi_run s l) (ap (λ (z : DPsiPhase). d_psi_resume binary64 (d_psi_run s l) (d_psi_phase_of z)) e))

pub d_unsound_points : (s : DPsi) (l xs ys : List Float) → sound (sizes_of s.sizes) ≡ false → Points (d_psi_rest binary64 (d_psi_run s l)) xs xs ys ys 6
unfolding d_psi_run
d_unsound_points s l xs ys h = points_none _ xs ys (rest_unsound (d_psi_resume binary64) (d_psi_run s l) h)

pub ruleset psi_points = (sound_n, sound_n1, over_points, unsound_points)

pub ruleset d_psi_points = (sound_n, sound_n1, sound_n2, d_over_points, d_unsound_points)

-- What an answer by value gives is where the machine stands after it. Assumes nothing.
use Rattle.std.proofs.Common.{◌≡◌, refl, List, Float}
use Rattle.std.specs.Float.{binary64}
use Rattle.model.specs.Refusals.{Reply}
use Rattle.machine.specs.Machines.{inner_machine, loop_machine, psi_machine, d_psi_machine}
use Rattle.machine.specs.InnerRun as InnerRun
use Rattle.machine.specs.InnerAnswer as Inner
use Rattle.machine.specs.LoopRun as LoopRun
use Rattle.machine.specs.LoopAnswer as Loop
use Rattle.machine.specs.PsiRun.{PsiLeft, DPsiLeft}
use Rattle.machine.specs.PsiCalls.{psi_answer, psi_answer_any, d_psi_answer, d_psi_answer_any, handed_out}
use Rattle.values.specs.Feeding.{next}
use Rattle.values.specs.Runs.{inner_at, loop_at, psi_at, d_psi_at}

-- an answer, by what the call before it left (s) and what it leaves (l); us and vs are the lent places before and after
module _ (a : Reply) (v : List Float) where
  pub inner_next : (s l : InnerRun.Left) (us vs : List Float) → l ≡ Inner.answer binary64 s.run a v us → vs ≡ Inner.plan_after (Inner.answer binary64 s.run a v us) us
      → inner_at l vs ≡ next (inner_machine binary64) (inner_at s us) a v
  unfolding Inner.answer_any
  inner_next s l us vs e p = rw (e, p) refl

  pub loop_next : (s l : LoopRun.Left) (us vs xs ys : List Float) → l ≡ Loop.answer binary64 s.run a v us xs → vs ≡ Loop.plan_after (Loop.answer binary64 s.run a v us xs) us
      → ys ≡ Loop.xi_after (Loop.answer binary64 s.run a v us xs) xs → loop_at l vs ys ≡ next (loop_machine binary64) (loop_at s us xs) a v
  unfolding Loop.answer_any
  loop_next s l us vs xs ys e p q = rw (e, p, q) refl

  pub psi_next : (s l : PsiLeft) → l ≡ psi_answer binary64 a v s.run → psi_at l ≡ next (psi_machine binary64) (psi_at s) a v
  unfolding psi_answer_any
  psi_next s l e = rw e refl

  pub d_psi_next : (s l : DPsiLeft) (us vs : List Float) → l ≡ d_psi_answer binary64 a v us s.run → vs ≡ handed_out l us → d_psi_at l vs ≡ next (d_psi_machine binary64) (d_psi_at s us) a v
  unfolding d_psi_answer_any
  d_psi_next s l us vs e p = rw (p, e) refl

-- What a whole run gives: the client's claim for the list of answers that was fed to it, whatever they are. Definitions only.
use Rattle.std.specs.Prelude.{ℕ, suc, ◌≡◌, List, [], Float, length}
use Rattle.std.specs.Float.{binary64}
use Rattle.model.specs.Process.{stop, refused}
use Rattle.model.specs.State.{Settings}
use Rattle.model.specs.Loop.{LoopSettings}
use Rattle.model.specs.Psi.{Sizes}
use Rattle.model.specs.Refusals.{inner_refusal, loop_refusal, psi_refusal}
use Rattle.machine.specs.InnerRun as Inner
use Rattle.machine.specs.InnerCalls as InnerCalls
use Rattle.machine.specs.LoopRun as Loop
use Rattle.machine.specs.LoopCalls as LoopCalls
use Rattle.machine.specs.PsiRun.{PsiLeft, DPsiLeft}
use Rattle.machine.specs.PsiCalls.{PsiStarts, DPsiStarts}
use Rattle.claim.specs.History.{Runs, Call}
use Rattle.claim.specs.Claim.{Over}
use Rattle.claim.specs.History.{Answer}
use Rattle.claim.specs.Inner.{inner_runs, InnerClaim}
use Rattle.claim.specs.Loop.{loop_runs, LoopClaim}
use Rattle.claim.specs.Psi.{psi_runs, PsiClaim, d_psi_runs, DPsiClaim}
use Rattle.whole_runs.specs.Feed.{Fed}

-- From a start that the table refuses by the number n, 0 for none, with the answers xs: the lent places held w and now w', the last call told o and returned t.
-- Starts is the contract of a start, of what it told and the run that it returned; Claim is the claim, from that run, for a list of calls that led to a run.
pub record Ran {Q H : Type 0} (k : Runs Q H) (n : ℕ) (Starts : k.Outcome → k.Run → Type 0) (Claim : k.Run → List (Call k) → k.Run → Type 0)
    (w w' : k.Lent) (xs : List Answer) (o : k.Outcome) (t : k.Run) : Type 0 where
  -- what the start told, and the run that it returned
  pub told : k.Outcome
  pub begun : k.Run
  pub starts : Starts told begun
  -- "no run", and nothing is fed
  pub refused : (m : ℕ) → n ≡ suc m → (o ≡ k.said (stop (refused (suc m)))) × Over k t × (w' ≡ w)
  -- "For every list of answers from an accepted start, whichever of them are refused": a call for each, and the claim for these calls
  pub fed : n ≡ 0 → Fed k begun told w xs [] o w' t
  pub claim : (z : n ≡ 0) → Claim begun ((fed z).calls) t

-- an inner solve from u: us and ws are the lent plan before and after, l what the last call gave
abbrev pub Solves : Settings → List Float → List Answer → List Float → List Float → Inner.Left → Type 0
Solves s u xs us ws l =
    Ran (inner_runs binary64) (inner_refusal s u) (λ o r. InnerCalls.Starts binary64 s u (record { told = o; run = r })) (InnerClaim binary64 s u)
    us ws xs l.told l.run

-- the loop from u and xi: us, xs and us', xs' are the lent plan and multipliers before and after
abbrev pub LoopSolves : LoopSettings → List Float → List Float → List Answer → List Float → List Float → List Float → List Float → Loop.Left → Type 0
LoopSolves s u xi list us us' xs xs' l =
    Ran (loop_runs binary64) (loop_refusal binary64 s u xi) (λ o r. LoopCalls.Starts binary64 s u xi (record { told = o; run = r })) (LoopClaim binary64 s u xi)
    (record { u = us; xi = xs }) (record { u = us'; xi = xs' }) list l.told l.run

-- psi, whose answers lend nothing to be written
abbrev pub Psi : Sizes → List Float → List Float → List Answer → PsiLeft → Type 0
Psi s u xi list l =
    Ran (psi_runs binary64) (psi_refusal s (length u) (length xi)) (λ o r. PsiStarts s u xi (record { told = o; run = r })) (PsiClaim binary64 s u xi)
    tt tt list l.told l.run

-- d_psi: us and ws are the lent result before and after
abbrev pub DPsi : Sizes → List Float → List Float → List Answer → List Float → List Float → DPsiLeft → Type 0
DPsi s u xi list us ws l =
    Ran (d_psi_runs binary64) (psi_refusal s (length u) (length xi)) (λ o r. DPsiStarts s u xi (record { told = o; run = r })) (DPsiClaim binary64 s u xi)
    us ws list l.told l.run

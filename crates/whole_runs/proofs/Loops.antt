-- The multiplier loop: one call more, and the whole run. Assumes nothing.
use Rattle.std.proofs.Common.{◌≡◌, ap, sym, subst, ◌∙◌, ℕ, List, [], Float}
use Rattle.std.proofs.Math.Option.{some}
use Rattle.std.specs.Float.{binary64}
use Rattle.model.specs.Loop.{LoopSettings}
use Rattle.model.specs.Refusals.{Reply, loop_refusal}
use Rattle.machine.specs.Told as Say
use Rattle.machine.specs.Numbers.{table_number}
use Rattle.machine.specs.LoopRun.{Run, Left}
use Rattle.machine.specs.LoopAnswer.{start, answer, answer_any, plan_after, xi_after}
use Rattle.machine.specs.LoopCalls.{Starts}
use Rattle.machine.proofs.LoopAnswers as LoopLaw
use Rattle.claim.specs.History.{AnswersAny}
use Rattle.claim.specs.Loop.{loop_runs}
use Rattle.claim.specs.History as P
use Rattle.claim.proofs.LoopProof.{loop_claim, loop_no_run}
use Rattle.claim.proofs.Meets.{loop_met, start_asks}
use Rattle.whole_runs.specs.Feed.{Fed}
use Rattle.whole_runs.specs.Whole.{LoopSolves}
use Rattle.whole_runs.proofs.Feeds.{ran_refused, ran_fed}

-- an answer meets the contract
pub loop_solve_met : (r : Run) (a : Reply) (v us us' xs xs' : List Float) (l : Left) → l ≡ answer binary64 r a v us xs
    → us' ≡ plan_after (answer binary64 r a v us xs) us → xs' ≡ xi_after (answer binary64 r a v us xs) xs
    → AnswersAny (loop_runs binary64) r (some a) v (record { u = us; xi = xs }) (record { u = us'; xi = xs' }) l.told l.run
unfolding answer_any
loop_solve_met r a v us us' xs xs' l e p x =
    loop_met binary64 r (some a) v us us' xs xs' l e (p ∙ ap (λ (y : Left). plan_after y us) (sym e)) (x ∙ ap (λ (y : Left). xi_after y xs) (sym e))

module _ (s : LoopSettings) (u xi : List Float) (r₀ : Run) (l : Left) (e : l ≡ start binary64 s u xi r₀) (us xs : List Float) (list : List P.Answer) where
  starts : Starts binary64 s u xi l
  starts = subst (Starts binary64 s u xi) (sym e) (LoopLaw.starts binary64 s u xi r₀)

  -- an accepted start asks something
  asks : loop_refusal binary64 s u xi ≡ 0 → table_number l.told ≡ 0
  asks z = ap (λ (x : Left). table_number x.told) e ∙ start_asks binary64 s u xi r₀ z

  positive : (m : ℕ) → l.told ≡ Say.Told.refused m → loop_refusal binary64 s u xi ≡ 0 → m ≡ 0
  positive m t z = sym (ap table_number t) ∙ asks z

  pub loop_refused : (m : ℕ) → l.told ≡ Say.Told.refused m → (m ≡ 0 → ⊥) → LoopSolves s u xi list us us xs xs l
  unfolding Say.saying
  loop_refused m t k = ran_refused (loop_runs binary64) (loop_refusal binary64 s u xi) l.told l.run starts (record { u = us; xi = xs }) list (loop_no_run binary64 s u xi l starts) (λ z. k (positive m t z))

  pub loop_fed : ((m : ℕ) → l.told ≡ Say.Told.refused m → ⊥) → {us' xs' : List Float} {l' : Left}
      → Fed (loop_runs binary64) l.run l.told (record { u = us; xi = xs }) list [] l'.told (record { u = us'; xi = xs' }) l'.run → LoopSolves s u xi list us us' xs xs' l'
  unfolding Say.saying
  loop_fed z h =
      ran_fed (loop_runs binary64) (loop_refusal binary64 s u xi) l.told l.run starts (record { u = us; xi = xs }) list (loop_no_run binary64 s u xi l starts) z h
      (λ n. loop_claim binary64 s u xi l starts (asks n) h.history)

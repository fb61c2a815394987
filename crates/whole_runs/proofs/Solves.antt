-- An inner solve by value: one call more, and the whole run. Assumes nothing.
use Rattle.std.proofs.Common.{◌≡◌, refl, ap, sym, subst, ◌∙◌, ℕ, List, [], Float}
use Rattle.std.proofs.Math.Option.{some}
use Rattle.std.specs.Float.{binary64}
use Rattle.model.specs.State.{Settings}
use Rattle.model.specs.Refusals.{Reply, inner_refusal}
use Rattle.machine.specs.Told as Say
use Rattle.machine.specs.InnerRun.{Run, Left, Asked}
use Rattle.machine.specs.InnerAnswer.{start, answer, answer_any, plan_after}
use Rattle.machine.specs.InnerCalls.{Starts}
use Rattle.machine.proofs.InnerAnswers as InnerLaw
use Rattle.claim.specs.History.{AnswersAny}
use Rattle.claim.specs.Inner.{inner_runs}
use Rattle.claim.specs.History as P
use Rattle.claim.proofs.InnerProof.{inner_claim, inner_no_run}
use Rattle.claim.proofs.Meets.{inner_met}
use Rattle.whole_runs.specs.Feed.{Fed}
use Rattle.whole_runs.specs.Whole.{Solves}
use Rattle.whole_runs.proofs.Feeds.{ran_refused, ran_fed}

-- an answer meets the contract
pub solve_met : (r : Run) (a : Reply) (v us ws : List Float) (l : Left) → l ≡ answer binary64 r a v us → ws ≡ plan_after (answer binary64 r a v us) us → AnswersAny (inner_runs binary64) r (some a) v us ws l.told l.run
unfolding answer_any
solve_met r a v us ws l e w = inner_met binary64 r (some a) v us ws l e (w ∙ ap (λ (x : Left). plan_after x us) (sym e))

module _ (s : Settings) (u : List Float) (r₀ : Run) (l : Left) (e : l ≡ start s u r₀) (us : List Float) (xs : List P.Answer) where
  starts : Starts binary64 s u l
  starts = subst (Starts binary64 s u) (sym e) (InnerLaw.starts binary64 s u r₀)

  -- an accepted start asks COST
  asks : inner_refusal s u ≡ 0 → l.told ≡ Say.Told.asked Asked.cost
  unfolding start
  asks z = rw z at (ap (λ (x : Left). x.told) e)

  pub solve_refused : (m : ℕ) → l.told ≡ Say.Told.refused m → Solves s u xs us us l
  unfolding Say.saying
  solve_refused m t = ran_refused (inner_runs binary64) (inner_refusal s u) l.told l.run starts us xs (inner_no_run binary64 s u l starts) (λ z. let q = sym (asks z) ∙ t in absurd cc)

  pub solve_fed : ((m : ℕ) → l.told ≡ Say.Told.refused m → ⊥) → {ws : List Float} {l' : Left} → Fed (inner_runs binary64) l.run l.told us xs [] l'.told ws l'.run → Solves s u xs us ws l'
  unfolding Say.saying
  solve_fed z h = ran_fed (inner_runs binary64) (inner_refusal s u) l.told l.run starts us xs (inner_no_run binary64 s u l starts) z h (λ n. inner_claim binary64 s u l starts (rw (asks n) refl) h.history)

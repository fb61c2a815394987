-- What a run that moves stands for. Assumes nothing.
use Rattle.std.proofs.Common.{◌≡◌, refl, true, List, Float}
use Rattle.model.specs.Loop.{inner_settings}
use Rattle.machine.specs.LoopMoves as Move
use Rattle.panoc_engine.specs.declared.panoc_cache.ExitStatus.TheVariants.{Converged}
use Rattle.panoc_engine.specs.declared.panoc_cache.Phase.TheVariants as Inner
use Rattle.panoc_engine.specs.declared.panoc_cache.Question.TheVariants as Asks
use Rattle.panoc_engine.specs.declared.outcome.Refusal.{Refusal}
use Rattle.panoc_engine.specs.declared.outcome.Outcome.TheVariants as O
use Rattle.alm_engine.specs.declared.alm_cache.Alm.{Alm}
use Rattle.alm_engine.specs.declared.alm_cache.AlmMoved.TheVariants.{To, Refused}
use Rattle.alm_engine.specs.declared.alm_cache.AlmPhase.{AlmPhase}
use Rattle.alm_engine.specs.declared.alm_cache.AlmPhase.TheVariants as P
use Rattle.alm_engine.specs.declared.alm_cache.AlmQuestion.{AlmQuestion}
use Rattle.alm_engine.specs.declared.alm_cache.AlmQuestion.TheVariants as Q
use Rattle.alm_engine.specs.Values.{inner_given, loop_asked_of, loop_asked_at}
use Rattle.alm_engine.specs.LoopRuns.{loop_run, loop_leaves, loop_stepped}

module _ (s : Alm) (l : List Float) where
  pub solve_begins :
      loop_stepped
      (record {
        outcome = O.Asked (Q.Inner Asks.Cost);
        state =
            record s {
              phase = P.Inner;
              solve =
                  record s.solve {
                    phase = Inner.Cost;
                    set = inner_given s.set s.numbers.akkt_tolerance;
                    counts = record { left = 0; iterations = record { 0 = 0 }; status = Converged; rounds = 0 };
                    forget = true;
                  };
            };
      }) l
      ≡ Move.inner_solve (loop_run s l)
  unfolding loop_run Move.inner_solve inner_settings
  solve_begins = refl

  pub solves : Move.inner_solve (loop_run s l) ≡ loop_leaves (To P.Inner) (loop_run s l)
  unfolding loop_leaves
  solves = refl

  pub goes : (p : AlmPhase) (q : AlmQuestion) → (p ≡ P.Inner → ⊥) → loop_asked_of q ≡ loop_asked_at p
      → loop_stepped (record { outcome = O.Asked q; state = record s { phase = p } }) l ≡ loop_leaves (To p) (loop_run s l)
  unfolding loop_run loop_leaves
  goes P.Over q h e = rw e refl
  goes P.Time q h e = rw e refl
  goes P.ProjectY q h e = rw e refl
  goes P.Inner q h e = absurd (h refl)
  goes P.F1 q h e = rw e refl
  goes P.ProjectC q h e = rw e refl
  goes P.F2 q h e = rw e refl
  goes P.LastCost q h e = rw e refl

  pub stops : (k : Refusal) → loop_stepped (record { outcome = O.Refused k; state = record s { phase = P.Over } }) l ≡ loop_leaves (Refused k) (loop_run s l)
  unfolding loop_run loop_leaves
  stops k = refl

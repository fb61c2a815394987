-- What a run that moves stands for. Assumes nothing.
use Rattle.std.proofs.Common.{◌≡◌, refl, List, Float}
use Rattle.panoc_engine.specs.declared.panoc_cache.Solve.{Solve}
use Rattle.panoc_engine.specs.declared.panoc_cache.Phase.{Phase}
use Rattle.panoc_engine.specs.declared.panoc_cache.Phase.TheVariants as P
use Rattle.panoc_engine.specs.declared.panoc_cache.Question.{Question}
use Rattle.panoc_engine.specs.declared.panoc_cache.Moved.TheVariants.{To, Refused}
use Rattle.panoc_engine.specs.declared.outcome.Refusal.{Refusal}
use Rattle.panoc_engine.specs.declared.outcome.Outcome.TheVariants as O
use Rattle.panoc_engine.specs.Values.{asked_of, asked_at}
use Rattle.panoc_engine.specs.Runs.{run_of, leaves, stepped}

module _ (s : Solve) (l : List Float) where
  pub goes : (p : Phase) (q : Question) → asked_of q ≡ asked_at p s.forget → stepped (record { outcome = O.Asked q; state = record s { phase = p } }) l ≡ leaves (To p) (run_of s l)
  unfolding run_of leaves
  goes p q e = rw e refl

  pub stops : (k : Refusal) → stepped (record { outcome = O.Refused k; state = record s { phase = P.Over } }) l ≡ leaves (Refused k) (run_of s l)
  unfolding run_of leaves
  stops k = refl

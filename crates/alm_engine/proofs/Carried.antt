-- What an inner solve comes to leaves of the loop. Assumes nothing.
use Rattle.std.proofs.Common.{◌≡◌, refl, subst, ℕ, ◌≤◌, List, Float}
use Rattle.std.specs.Float.{binary64}
use Rattle.machine.specs.InnerRest.{Counted}
use Rattle.machine.specs.LoopMoves as Move
use Rattle.panoc_engine.specs.declared.panoc_cache.Question.{Question}
use Rattle.panoc_engine.specs.declared.panoc_cache.SolverStatus.{SolverStatus}
use Rattle.panoc_engine.specs.declared.outcome.Refusal.{Refusal}
use Rattle.panoc_engine.specs.declared.outcome.Outcome.{Outcome}
use Rattle.panoc_engine.specs.declared.outcome.Outcome.TheVariants as O
use Rattle.panoc_engine.specs.Values.{numbers_of, told_of}
use Rattle.alm_engine.specs.declared.alm_cache.Alm.{Alm}
use Rattle.alm_engine.specs.declared.alm_cache.AlmPhase.TheVariants as P
use Rattle.alm_engine.specs.declared.alm_cache.AlmQuestion.TheVariants as Q
use Rattle.alm_engine.specs.LoopRuns.{loop_run, loop_ended, loop_stepped}

pub counted_end : (o : Outcome Question SolverStatus) (e : SolverStatus) → Counted (told_of o) → o ≡ O.Ended e → e.iterations.0 ≤ 10000
counted_end o e h q = subst (λ (x : Outcome Question SolverStatus). Counted (told_of x)) q h

module _ (s : Alm) (l : List Float) where
  pub solved_is : (e : SolverStatus)
      → Move.ask_f1 binary64 (loop_run (record s { counts = record s.counts { status = e.exit_status; found = e.iterations }; numbers = record s.numbers { norm_fpr = e.norm_fpr } }) l)
      ≡ Move.ask_f1 binary64 (Move.solved (numbers_of e) (loop_run s l))
  unfolding loop_run
  solved_is e = refl

  pub carried_asked : (o : Outcome Question SolverStatus) (q : Question) → o ≡ O.Asked q
      → loop_stepped (record { outcome = O.Asked (Q.Inner q); state = record s { phase = P.Inner } }) l ≡ Move.carried binary64 (told_of o) (loop_run s l)
  unfolding loop_run Move.carried
  carried_asked o q e = rw e refl

  pub carried_ended : (o : Outcome Question SolverStatus) (e : SolverStatus) → o ≡ O.Ended e → Move.ask_f1 binary64 (Move.solved (numbers_of e) (loop_run s l)) ≡ Move.carried binary64 (told_of o) (loop_run s l)
  unfolding Move.carried
  carried_ended o e q = rw q refl

  pub carried_refused : (o : Outcome Question SolverStatus) (k : Refusal) → o ≡ O.Refused k → loop_ended s (O.Refused k) l ≡ Move.carried binary64 (told_of o) (loop_run s l)
  unfolding loop_run Move.carried
  carried_refused o k e = rw e refl

  pub carried_failed : (o : Outcome Question SolverStatus) (c : ℕ) → o ≡ O.Failed c → loop_ended s (O.Failed c) l ≡ Move.carried binary64 (told_of o) (loop_run s l)
  unfolding loop_run Move.carried
  carried_failed o c e = rw e refl

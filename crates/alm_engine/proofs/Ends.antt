-- What the last COST leaves, from what its parts leave. Assumes nothing.
use Rattle.std.proofs.Common.{◌≡◌, refl, Bool, true, false, cond, ◌&&◌, eqb, eqb-true, List, Float}
use Rattle.std.specs.Float.{binary64}
use Rattle.std.specs.Float.Ieee.{is_nan, of_bits}
use Rattle.ieee.specs.Numbers.{null}
use Rattle.ieee.proofs.Special.{zero_bits}
use Rattle.model.specs.Loop as L
use Rattle.machine.specs.LoopMoves as Move
use Rattle.panoc_engine.specs.declared.outcome.Outcome.TheVariants as O
use Rattle.panoc_engine.specs.declared.outcome.Refusal.TheVariants as R
use Rattle.alm_engine.specs.declared.alm_cache.Alm.{Alm}
use Rattle.alm_engine.specs.Values.{loop_settings_of}
use Rattle.alm_engine.specs.LoopRuns.{loop_run, loop_ended}

module _ (s : Alm) where
  abbrev penalty : Float
  penalty = L.penalty_of (loop_settings_of s.set) s.numbers.penalty

  pub penalty_empty : s.set.n1 ≡ 0 → s.set.n2 ≡ 0 → of_bits binary64 0 ≡ penalty
  unfolding L.penalty_of
  penalty_empty p q = rw (p, q) (zero_bits binary64)

  pub penalty_there : (s.set.n1 ≡ 0 → s.set.n2 ≡ 0 → ⊥) → s.numbers.penalty ≡ penalty
  unfolding L.penalty_of
  penalty_there h = by (eqb s.set.n1 0) (eqb s.set.n2 0) refl refl
    where
      by : (i j : Bool) → eqb s.set.n1 0 ≡ i → eqb s.set.n2 0 ≡ j → s.numbers.penalty ≡ cond (eqb s.set.n1 0 && eqb s.set.n2 0) null s.numbers.penalty
      by true true p q = absurd (h (eqb-true _ _ p) (eqb-true _ _ q))
      by true false p q = rw (p, q) refl
      by false j p q = rw p refl

module _ (s : Alm) (l : List Float) (x : Float) where
  pub last_delta : is_nan s.numbers.delta_y_norm ≡ true → loop_ended s (O.Refused R.Infeasibility) l ≡ Move.last_cost x (loop_run s l)
  unfolding loop_run Move.last_cost
  last_delta e = rw e refl

  pub last_norm : is_nan s.numbers.delta_y_norm ≡ false → is_nan s.numbers.f2_norm ≡ true → loop_ended s (O.Refused R.Infeasibility) l ≡ Move.last_cost x (loop_run s l)
  unfolding loop_run Move.last_cost
  last_norm e q = rw (e, q) refl

  pub last_gives : (c : Float) → is_nan s.numbers.delta_y_norm ≡ false → is_nan s.numbers.f2_norm ≡ false → c ≡ penalty s
      → loop_ended s
      (O.Ended
      (record {
        exit_status = s.counts.status;
        num_outer_iterations = s.counts.outer;
        num_inner_iterations = s.counts.inner;
        last_problem_norm_fpr = s.numbers.norm_fpr;
        delta_y_norm = s.numbers.delta_y_norm;
        f2_norm = s.numbers.f2_norm;
        penalty = c;
        cost = x;
      })) l
      ≡ Move.last_cost x (loop_run s l)
  unfolding loop_run Move.last_cost
  last_gives c e q w = rw (e, q, w) refl

-- The run of the machine that a Solve s and a board l stand for, and what the small records leave of it. Definitions only.
use Rattle.std.specs.Prelude.{ℕ, ◌≡◌, ◌-◌, ◌≤◌, Bool, true, false, List, Float, length}
use Rattle.ieee.specs.Sums.{squares, norm}
use Rattle.model.specs.Vectors.{minus, dot}
use Rattle.board.specs.Formulas.{residual}
use Rattle.model.specs.State.{Best}
use Rattle.board.specs.Board.{Board, board_of, vector, PLUS, GRADIENT, HALF, FPR, BEST}
use Rattle.machine.specs.InnerRun as M
use Rattle.machine.specs.InnerMoves as Move
use Rattle.std.specs.Float.{binary64}
use Rattle.panoc_engine.specs.declared.panoc_cache.Solve.{Solve}
use Rattle.panoc_engine.specs.declared.panoc_cache.Moved.{Moved}
use Rattle.panoc_engine.specs.declared.panoc_cache.Moved.TheVariants.{To, Refused}
use Rattle.panoc_engine.specs.declared.panoc_cache.Next.{Next}
use Rattle.panoc_engine.specs.declared.panoc_cache.Next.TheVariants.{Again, Time, Step, Finish}
use Rattle.panoc_engine.specs.declared.panoc_cache.HalfStep.{HalfStep}
use Rattle.panoc_engine.specs.declared.panoc_cache.Onward.{Onward}
use Rattle.panoc_engine.specs.declared.panoc_cache.Scored.{Scored}
use Rattle.panoc_engine.specs.declared.panoc_cache.Phase.{Phase}
use Rattle.panoc_engine.specs.declared.panoc_cache.Phase.TheVariants as P
use Rattle.panoc_engine.specs.declared.panoc_cache.Question.{Question}
use Rattle.panoc_engine.specs.declared.panoc_cache.SolverStatus.{SolverStatus}
use Rattle.panoc_engine.specs.declared.outcome.Outcome.{Outcome}
use Rattle.panoc_engine.specs.declared.outcome.Stepped.{Stepped}
use Rattle.panoc_engine.specs.declared.panoc_cache.Costed.{Costed}
use Rattle.panoc_engine.specs.declared.panoc_cache.Shifted.{Shifted}
use Rattle.panoc_engine.specs.declared.panoc_cache.Estimated.{Estimated}
use Rattle.panoc_engine.specs.declared.panoc_cache.Doubled.{Doubled}
use Rattle.panoc_engine.specs.declared.panoc_cache.Searched.{Searched}
use Rattle.panoc_engine.specs.declared.panoc_cache.Tested.{Tested}
use Rattle.panoc_engine.specs.Told.{refusal_number}
use Rattle.panoc_engine.specs.Values.{settings_of, status_of, phase_of, asked_at, told_of}

-- ---- the run
abbrev pub run_at : Solve → Board → M.Run
run_at s b =
    record {
      phase = phase_of s.phase;
      set = settings_of s.set;
      status = status_of s.counts.status;
      left = s.counts.left;
      rounds = s.counts.rounds;
      forget = s.forget;
      state =
          record {
            at =
                record {
                  u = b.u;
                  gradient = b.gradient;
                  gradient_step = b.step;
                  half = b.half;
                  previous = b.previous;
                  lipschitz = s.gammas.lipschitz_constant;
                  gamma = s.gammas.gamma;
                  sigma = s.gammas.sigma;
                  cost = s.cost_value;
                  best = record { point = b.best; norm = s.norms.best_norm_gamma_fpr };
                  count = s.counts.iterations.0;
                };
            residual = b.fpr;
            norm = s.norms.norm_gamma_fpr;
          };
      candidate = b.plus;
      direction = b.direction;
      tau = s.norms.tau;
      rhs = s.norms.rhs_ls;
      norm_h = s.norm_h;
      beyond = b.beyond;
    }

unfoldable pub run_of : Solve → List Float → M.Run
run_of s l = run_at s (board_of s.set.n l)

-- a run that a start made: its size and its counts are in range, and its board has all its places
pub record Stands (s : Solve) (l : List Float) : Type 0 where
  pub size : s.set.n ≤ 64
  pub limit : s.set.max_iter ≤ 10000
  pub left : s.counts.left ≤ 10000
  pub done : s.counts.iterations.0 ≤ 10000 - s.counts.left
  pub places : 576 ≤ length l

-- ---- what an answer leaves: a question asked, or a refusal that ends the run
unfoldable pub leaves : Moved → M.Run → M.Left
leaves (To p) r = M.asks (asked_at p r.forget) (phase_of p) r
leaves (Refused k) r = M.stops (refusal_number k) r

-- what a small record leaves, put into s
abbrev pub moved : Solve → Moved → List Float → M.Left
moved s m l = leaves m (run_of s l)

abbrev pub costed : Solve → Costed → List Float → M.Left
costed s r l = leaves r.moved (run_of (record s { cost_value = r.cost_value }) l)

abbrev pub shifting : Solve → Shifted → List Float → M.Left
shifting s r l = leaves r.moved (run_of (record s { norm_h = r.norm_h }) l)

abbrev pub estimated : Solve → Estimated → List Float → M.Left
estimated s r l = leaves r.moved (run_of (record s { gammas = r.gammas }) l)

abbrev pub doubled : Solve → Doubled → List Float → M.Left
doubled s r l =
    leaves r.moved (run_of (record s { gammas = r.gammas; norms = r.norms; counts = record s.counts { rounds = r.rounds }; forget = r.forget }) l)

abbrev pub searched : Solve → Searched → List Float → M.Left
searched s r l = leaves r.moved (run_of (record s { norms = r.norms; counts = record s.counts { rounds = r.rounds } }) l)

abbrev pub tested : Solve → Tested → List Float → M.Left
tested s r l = leaves r.moved (run_of (record s { norms = r.norms; counts = r.counts }) l)

-- what an outcome leaves that ends the run
abbrev pub ended : Solve → Outcome Question SolverStatus → List Float → M.Left
ended s o l = record { told = told_of o; run = run_of (record s { phase = P.Over }) l }

-- what a call gives that leaves the board l
abbrev pub stepped : Stepped (Outcome Question SolverStatus) Solve → List Float → M.Left
stepped r l = record { told = told_of r.outcome; run = run_of r.state l }

-- what follows a half step
unfoldable pub followed : Next → M.Run → M.Left
followed Again r = leaves (To P.TriedCost) r
followed Time r = leaves (To P.Time) r
followed Step r = Move.step binary64 r
followed Finish r = Move.finish binary64 r

-- what a half step h leaves, put into s
abbrev pub halved : Solve → HalfStep → List Float → M.Left
halved s h l = followed h.next (run_of (record s { norms = h.norms; counts = h.counts }) l)

-- once the counts are o's
abbrev pub going : Solve → Onward → List Float → M.Left
going s o l = followed o.next (run_of (record s { counts = o.counts }) l)

-- where the vectors fit: n at most 64, and a board that has all its places
pub record Fits (s : Solve) (l : List Float) : Type 0 where
  pub size : s.set.n ≤ 64
  pub places : 576 ≤ length l

-- the norm of the half step's residual, which u and the half step give
abbrev pub norm_at : ℕ → List Float → Float
norm_at n l = norm binary64 (residual binary64 n l)

-- the best half step, whose norm is x
abbrev pub best_at : ℕ → List Float → Float → Best
best_at n l x = record { point = vector BEST n l; norm = x }

-- that residual lies in its place, x is its norm and z its product with the gradient
pub record ResidualLies (x z : Float) (n : ℕ) (l : List Float) : Type 0 where
  pub left : vector FPR n l ≡ residual binary64 n l
  pub size : x ≡ norm_at n l
  pub product : z ≡ dot binary64 (vector GRADIENT n l) (residual binary64 n l)

-- so it is where a half step is taken
pub record Summed (next : Next) (x z : Float) (n : ℕ) (l : List Float) : Type 0 where
  pub taken : (next ≡ Again → ⊥) → ResidualLies x z n l

-- y is the square of the norm of the candidate's residual, and z its product with the gradient
pub record Candidate (y z : Float) (n : ℕ) (l : List Float) : Type 0 where
  pub size : y ≡ squares binary64 (minus binary64 (vector PLUS n l) (vector HALF n l))
  pub product : z ≡ dot binary64 (vector GRADIENT n l) (minus binary64 (vector PLUS n l) (vector HALF n l))

-- what follows a half step once its tests are done, where over says that the solve ends
abbrev pub next_phase : Next → Phase
next_phase Again = P.TriedCost
next_phase Time = P.Time
next_phase Step = P.HalfCost
next_phase Finish = P.LastCost

unfoldable pub scored : Next → Bool → M.Run → M.Left
scored next true r = Move.finish binary64 r
scored next false r = leaves (To (next_phase next)) r

abbrev pub scoring : Solve → Next → Scored → List Float → M.Left
scoring s next r l = scored next r.over (run_of (record s { norms = r.norms }) l)

-- PROJECT of a gradient step, at the start, at the first iterate or at a candidate
abbrev pub projected : Phase → List Float → M.Run → M.Left
projected P.Project v r = Move.project binary64 v r
projected P.FirstProject v r = Move.first_project binary64 v r
projected _ v r = Move.tried_project binary64 v r

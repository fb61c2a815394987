-- What the public calls of an inner solve give, in terms of the process that is left of a run. Definitions only.
use Rattle.std.specs.Prelude.{ℕ, suc, ◌≡◌, List, [], eqb, Float, length}
use Rattle.std.proofs.Math.Option.{Option, none, some}
use Rattle.std.specs.Float.{Format}
use Rattle.model.specs.Process.{ask, score, begin, stop, Question, Process, Solve}
use Rattle.model.specs.State.{Settings}
use Rattle.model.specs.Refusals.{Reply, wanted, answer_refusal, accept, remains, lent_after, plan_of, start_inner}
use Rattle.machine.specs.Told as Say
use Rattle.machine.specs.Shown.{Shows}
use Rattle.machine.specs.InnerRun.{Run, Left}
use Rattle.machine.specs.InnerRest.{rest, said}

module _ (f : Format) where
  -- a call has come to the process p, under the settings s: us and ws are the lent u before and after
  pub record Reaches (s : Settings) (p : Solve) (us ws : List Float) (l : Left) : Type 0 where
    pub settings : l.run.set ≡ s
    pub outcome : l.told ≡ said p
    pub process : rest f l.run ≡ remains p
    pub wrote : ws ≡ lent_after plan_of p us

  -- the number by which the table refuses an answer to what is left of a run, 0 for none; vs and us are the lengths of the lent slices
  abbrev pub refusal : Run → Reply → ℕ → ℕ → ℕ
  refusal r a vs us = answer_refusal (wanted (rest f r)) a vs (eqb us r.set.n)

  -- answer: where the table refuses, its number, the run and the lent u unchanged; else what the process comes to
  pub record Answers (r : Run) (a : Reply) (v us ws : List Float) (l : Left) : Type 0 where
    pub refused : (k : ℕ) → refusal r a (length v) (length us) ≡ suc k → (l.told ≡ Say.Told.refused (suc k)) × (l.run ≡ r) × (ws ≡ us)
    pub accepted : refusal r a (length v) (length us) ≡ 0 → Reaches r.set (accept (rest f r) a v) us ws l

  -- start: the process that document 01 begins at u, or its refusal; nothing lent is written
  pub record Starts (s : Settings) (u : List Float) (l : Left) : Type 0 where
    pub settings : l.run.set ≡ s
    pub outcome : l.told ≡ said (start_inner f s u)
    pub process : rest f l.run ≡ remains (start_inner f s u)

-- the question that a process asks
unfoldable pub asking : {Q H : Type 0} → Process Q H → Option Q
asking (ask q k continue) = some q
asking (score half norm p) = none
asking (begin p) = none
asking (stop e) = none

-- the points of a question: DIRECTION has the residual and u
abbrev pub first_point : Question → List Float
first_point (Question.cost u) = u
first_point (Question.gradient u) = u
first_point (Question.project p) = p
first_point (Question.direction forget r u) = r
first_point Question.time = []

abbrev pub second_point : Question → List Float
second_point (Question.cost u) = []
second_point (Question.gradient u) = []
second_point (Question.project p) = []
second_point (Question.direction forget r u) = u
second_point Question.time = []

-- points: xs, ys and xs', ys' are the lent slices before and after
abbrev pub Points : Format → Run → List Float → List Float → List Float → List Float → ℕ → Type 0
Points f r xs xs' ys ys' k = Shows first_point second_point (asking (rest f r)) xs xs' ys ys' k

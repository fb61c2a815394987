-- What the public calls of the multiplier loop give, in terms of the process that is left of a run. Definitions only.
use Rattle.std.specs.Prelude.{ℕ, suc, ◌≡◌, Bool, ◌&&◌, cond, List, [], eqb, Float, length}
use Rattle.std.proofs.Math.Option.{Option, none, some}
use Rattle.std.specs.Float.{Format}
use Rattle.model.specs.Process.{Question, LoopQuestion, Loop}
use Rattle.model.specs.Loop.{LoopSettings}
use Rattle.model.specs.Refusals.{Reply, wanted, answer_refusal, accept, remains, lent_after, loop_plan, loop_xi, start_loop, xi_length}
use Rattle.machine.specs.Told as Say
use Rattle.machine.specs.Shown.{Shows}
use Rattle.machine.specs.InnerCalls as Inner
use Rattle.machine.specs.InnerCalls.{asking}
use Rattle.machine.specs.LoopRun.{Run, Left}
use Rattle.machine.specs.LoopRest.{rest, said}

-- whether the lent u and xi have the lengths asked
abbrev pub lent_right : LoopSettings → ℕ → ℕ → Bool
lent_right s us xs = eqb us s.n && eqb xs (xi_length s.n1 s.n2)

module _ (f : Format) where
  -- a call has come to the process p, under the settings s: us, xs and us', xs' are the lent u and xi before and after
  pub record Reaches (s : LoopSettings) (p : Loop) (us us' xs xs' : List Float) (l : Left) : Type 0 where
    pub settings : l.run.set ≡ s
    pub outcome : l.told ≡ said p
    pub process : rest f l.run ≡ remains p
    pub plan : us' ≡ lent_after loop_plan p us
    pub xi : xs' ≡ lent_after (loop_xi s) p xs

  -- the number by which the table refuses an answer to what is left of a run, 0 for none; the lengths of the lent slices are vs, us and xs
  abbrev pub refusal : Run → Reply → ℕ → ℕ → ℕ → ℕ
  refusal r a vs us xs = answer_refusal (wanted (rest f r)) a vs (lent_right r.set us xs)

  -- answer: where the table refuses, its number, the run and the lent places unchanged; else what the process comes to
  pub record Answers (r : Run) (a : Reply) (v us us' xs xs' : List Float) (l : Left) : Type 0 where
    pub refused : (k : ℕ) → refusal r a (length v) (length us) (length xs) ≡ suc k → (l.told ≡ Say.Told.refused (suc k)) × (l.run ≡ r) × (us' ≡ us) × (xs' ≡ xs)
    pub accepted : refusal r a (length v) (length us) (length xs) ≡ 0 → Reaches r.set (accept (rest f r) a v) us us' xs xs' l

  -- start: the process that document 01 begins at u and xi, or its refusal; nothing lent is written
  pub record Starts (s : LoopSettings) (u xi : List Float) (l : Left) : Type 0 where
    pub settings : l.run.set ≡ s
    pub outcome : l.told ≡ said (start_loop f s u xi)
    pub process : rest f l.run ≡ remains (start_loop f s u xi)

-- the points of a question: COST and GRADIENT have u and xi
abbrev pub carried_second : List Float → Question → List Float
carried_second xi (Question.cost u) = xi
carried_second xi (Question.gradient u) = xi
carried_second xi (Question.project p) = []
carried_second xi (Question.direction forget r u) = u
carried_second xi Question.time = []

abbrev pub first_point : LoopQuestion → List Float
first_point (LoopQuestion.inner xi q) = Inner.first_point q
first_point LoopQuestion.time = []
first_point (LoopQuestion.project_y y) = y
first_point (LoopQuestion.f1 u) = u
first_point (LoopQuestion.project_c t) = t
first_point (LoopQuestion.f2 u) = u
first_point (LoopQuestion.cost u xi) = u

abbrev pub second_point : LoopQuestion → List Float
second_point (LoopQuestion.inner xi q) = carried_second xi q
second_point LoopQuestion.time = []
second_point (LoopQuestion.project_y y) = []
second_point (LoopQuestion.f1 u) = []
second_point (LoopQuestion.project_c t) = []
second_point (LoopQuestion.f2 u) = []
second_point (LoopQuestion.cost u xi) = xi

-- what DIRECTION has as its second, no place for another question
abbrev pub direction_point : LoopQuestion → List Float
direction_point (LoopQuestion.inner xi q) = Inner.second_point q
direction_point LoopQuestion.time = []
direction_point (LoopQuestion.project_y y) = []
direction_point (LoopQuestion.f1 u) = []
direction_point (LoopQuestion.project_c t) = []
direction_point (LoopQuestion.f2 u) = []
direction_point (LoopQuestion.cost u xi) = []

-- points: xs, ys and xs', ys' are the lent slices before and after
abbrev pub Points : Format → Run → List Float → List Float → List Float → List Float → ℕ → Type 0
Points f r xs xs' ys ys' k = Shows first_point second_point (asking (rest f r)) xs xs' ys ys' k

-- the second point alone: 6 where the run has ended, 8 where the slice is not as long as that point, else 0
unfoldable pub second_refusal : Option LoopQuestion → ℕ → ℕ
second_refusal none ys = 6
second_refusal (some q) ys = cond (eqb ys (length (second_point q))) 0 8

-- ys and ys' are the lent slice before and after
pub record Second (f : Format) (r : Run) (ys ys' : List Float) (k : ℕ) : Type 0 where
  pub number : k ≡ second_refusal (asking (rest f r)) (length ys)
  pub kept : (m : ℕ) → k ≡ suc m → ys' ≡ ys
  pub point : k ≡ 0 → (q : LoopQuestion) → asking (rest f r) ≡ some q → ys' ≡ second_point q

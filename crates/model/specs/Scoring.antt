-- What is scored: document 01, "what is scored there is the solve's latest accepted PROJECT answer, and its norm is that of the residual, the latest GRADIENT's point minus this answer". Definitions only.
use Rattle.std.specs.Prelude.{◌≡◌, List, [], Float}
use Rattle.std.proofs.Math.Option.{Option, none, some}
use Rattle.std.specs.Float.{Format}
use Rattle.ieee.specs.Sums.{norm}
use Rattle.model.specs.Vectors.{minus}
use Rattle.model.specs.Process.{Kind, number, vector, direction, decision, Answer, Process, Question, LoopQuestion}
use Rattle.model.specs.Paths.{Watch, Along}

-- what scoring looks at in a question: GRADIENT at a point, PROJECT, or another
pub data Seen : Type 0 where
  gradient_at : List Float → Seen
  projects : Seen
  other : Seen

unfoldable pub seen : Question → Seen
seen (Question.cost u) = other
seen (Question.gradient u) = gradient_at u
seen (Question.project u) = projects
seen (Question.direction forget residual u) = other
seen Question.time = other

-- a question of the loop, through the question of the inner solve that it carries
unfoldable pub seen_in_loop : LoopQuestion → Seen
seen_in_loop (LoopQuestion.inner xi q) = seen q
seen_in_loop LoopQuestion.time = other
seen_in_loop (LoopQuestion.project_y y) = other
seen_in_loop (LoopQuestion.f1 u) = other
seen_in_loop (LoopQuestion.project_c v) = other
seen_in_loop (LoopQuestion.f2 u) = other
seen_in_loop (LoopQuestion.cost u xi) = other

-- the solve's latest GRADIENT's point, and its latest PROJECT answer
pub record Latest : Type 0 where
  pub point : Option (List Float)
  pub answer : Option (List Float)

-- where an inner solve begins there is neither
unfoldable pub nothing_yet : Latest
nothing_yet = record { point = none; answer = none }

-- the vector answered; none where the answer is no vector
unfoldable pub vector_in : (k : Kind) → Answer k → List Float
vector_in number x = []
vector_in (vector n) v = v
vector_in (direction n) v = v
vector_in decision b = []

unfoldable pub after : Seen → List Float → Latest → Latest
after (gradient_at p) v x = record { point = some p; answer = x.answer }
after projects v x = record { point = x.point; answer = some v }
after other v x = x

-- half is the latest PROJECT answer, and y the norm of the latest GRADIENT's point minus it
pub record Residual (f : Format) (x : Latest) (half : List Float) (y : Float) : Type 0 where
  pub answer : x.answer ≡ some half
  pub from : List Float
  pub point : x.point ≡ some from
  pub norm : y ≡ norm f (minus f from half)

-- each scored half step is the latest PROJECT answer, its norm that of the latest GRADIENT's point minus it
abbrev pub tracing : {Q : Type 0} → Format → (Q → Seen) → Watch Q Latest
tracing f view =
    record {
      answered = λ x q k a. after (view q) (vector_in k a) x;
      scored = λ x half y. x;
      begun = λ x. nothing_yet;
      right = λ x half y. Residual f x half y;
    }

abbrev pub Traced : {Q H : Type 0} → Format → (Q → Seen) → Latest → Process Q H → Type 0
Traced f view x p = Along (tracing f view) (λ x h. Unit {0}) x p

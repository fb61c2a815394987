-- What a run asks, where it scores, how it ends: a run as a process over its questions Q and what it hands back, H. Definitions only.
use Rattle.std.specs.Prelude.{ℕ, Bool, List, Float}

-- What answers a question: a number; a vector of so many places; a direction, a vector for which no failure is taken; a yes or no.
pub data Kind : Type 0 where
  number : Kind
  vector : ℕ → Kind
  direction : ℕ → Kind
  decision : Kind

abbrev pub Answer : Kind → Type 0
Answer number = Float
Answer (vector n) = List Float
Answer (direction n) = List Float
Answer decision = Bool

-- How a run ends: it hands something back, or it is refused by a number of the table, or the host reported a failure, whose code comes back.
pub data End (H : Type 0) : Type 0 where
  handed : H → End H
  refused : ℕ → End H
  failed : ℕ → End H

-- A question with the kind of its answer, and what follows each answer; the mark that a half step is scored, with its norm; the mark that an inner solve begins; the end.
pub data Process (Q H : Type 0) : Type 0 where
  ask : Q → (k : Kind) → (Answer k → Process Q H) → Process Q H
  score : List Float → Float → Process Q H → Process Q H
  begin : Process Q H → Process Q H
  stop : End H → Process Q H

abbrev pub on_end : {H Q' H' : Type 0} → (H → Process Q' H') → End H → Process Q' H'
on_end next (handed h) = next h
on_end next (refused k) = stop (refused k)
on_end next (failed c) = stop (failed c)

-- a process inside another: its questions are carried, and what it hands back leads to what is next
unfoldable pub within : {Q H Q' H' : Type 0} → (Q → Q') → (H → Process Q' H') → Process Q H → Process Q' H'
within carry next (ask q k continue) = ask (carry q) k (λ a. within carry next (continue a))
within carry next (score half norm p) = score half norm (within carry next p)
within carry next (begin p) = begin (within carry next p)
within carry next (stop e) = on_end next e

-- ---- the questions, with their points

-- of the inner solve: COST, GRADIENT and PROJECT at a point; DIRECTION with forget or not, the residual and u; TIME
pub data Question : Type 0 where
  cost : List Float → Question
  gradient : List Float → Question
  project : List Float → Question
  direction : Bool → List Float → List Float → Question
  time : Question

-- of the loop: a question of the inner solve that it carries, with xi; its own TIME; the projections on Y and C; F1 and F2; the last COST at u and xi
pub data LoopQuestion : Type 0 where
  inner : List Float → Question → LoopQuestion
  time : LoopQuestion
  project_y : List Float → LoopQuestion
  f1 : List Float → LoopQuestion
  project_c : List Float → LoopQuestion
  f2 : List Float → LoopQuestion
  cost : List Float → List Float → LoopQuestion

-- of psi and d_psi: cost and gradient of f, F1, the projection on C, F2, and the transposed Jacobian products at u with a vector
pub data PsiQuestion : Type 0 where
  cost : List Float → PsiQuestion
  gradient : List Float → PsiQuestion
  f1 : List Float → PsiQuestion
  project_c : List Float → PsiQuestion
  jf1t : List Float → List Float → PsiQuestion
  f2 : List Float → PsiQuestion
  jf2t : List Float → List Float → PsiQuestion

-- ---- what is handed back

-- the three ends
pub data Status : Type 0 where
  converged : Status
  not_converged_iterations : Status
  not_converged_out_of_time : Status

-- of an inner solve
pub record Handed : Type 0 where
  pub plan : List Float
  pub status : Status
  pub iterations : ℕ
  pub norm : Float
  pub cost : Float

-- of the loop
pub record LoopHanded : Type 0 where
  pub plan : List Float
  pub multipliers : List Float
  pub penalty : Float
  pub status : Status
  pub outer : ℕ
  pub inner : ℕ
  pub norm : Float
  pub delta_y : Float
  pub f2 : Float
  pub cost : Float

-- the processes
abbrev pub Solve : Type 0
Solve = Process Question Handed

abbrev pub Loop : Type 0
Loop = Process LoopQuestion LoopHanded

abbrev pub Psi : Type 0
Psi = Process PsiQuestion Float

abbrev pub DPsi : Type 0
DPsi = Process PsiQuestion (List Float)

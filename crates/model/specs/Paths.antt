-- What is watched on every way through a process, whatever right-sized answers it gets: one predicate, of which `Traced`, `Ends` and `Counted` are instances. Assumes nothing.
use Rattle.std.specs.Prelude.{◌≡◌, List, Float, length}
use Rattle.model.specs.Process.{Kind, number, vector, direction, decision, Answer, End, handed, refused, failed, Process, ask, score, begin, stop}

-- an answer has as many places as were asked
abbrev pub RightSize : (k : Kind) → Answer k → Type 0
RightSize number x = Unit {0}
RightSize (vector n) v = length v ≡ n
RightSize (direction n) v = length v ≡ n
RightSize decision b = Unit {0}

-- A watch over questions Q: a state S that each answer, each score and each beginning of an inner solve moves, and what must be right of a score where it is made.
pub record Watch (Q S : Type 0) : Type 1 where
  pub answered : S → Q → (k : Kind) → Answer k → S
  pub scored : S → List Float → Float → S
  pub begun : S → S
  pub right : S → List Float → Float → Type 0

-- P holds of what is handed back, where something is
abbrev pub AtEnd : {H : Type 0} → (H → Type 0) → End H → Type 0
AtEnd P (handed h) = P h
AtEnd P (refused k) = Unit {0}
AtEnd P (failed c) = Unit {0}

-- whatever right-sized answers are given: each score is right, and P holds of the state and what is handed back
abbrev pub Along : {Q H S : Type 0} → Watch Q S → (S → H → Type 0) → S → Process Q H → Type 0
Along w P x (ask q k continue) = (a : Answer k) → RightSize k a → Along w P (w.answered x q k a) (continue a)
Along w P x (score half norm p) = w.right x half norm × Along w P (w.scored x half norm) p
Along w P x (begin p) = Along w P (w.begun x) p
Along w P x (stop e) = AtEnd (P x) e

-- ---- laws

-- what one watch sees shows what another sees: r gives the other's state
pub record Shows {Q S S' : Type 0} (w : Watch Q S) (w' : Watch Q S') (r : S → S') : Type 0 where
  pub answered : (x : S) (q : Q) (k : Kind) (a : Answer k) → r (w.answered x q k a) ≡ w'.answered (r x) q k a
  pub scored : (x : S) (half : List Float) (norm : Float) → r (w.scored x half norm) ≡ w'.scored (r x) half norm
  pub begun : (x : S) → r (w.begun x) ≡ w'.begun (r x)
  pub right : (x : S) (half : List Float) (norm : Float) → w.right x half norm → w'.right (r x) half norm

-- the watch, seen from inside a process whose questions are carried
abbrev pub through : {Q Q' S : Type 0} → (Q → Q') → Watch Q' S → Watch Q S
through carry w = record { answered = λ x q. w.answered x (carry q); scored = w.scored; begun = w.begun; right = w.right }

-- two watches at once
abbrev pub both : {Q S S' : Type 0} → Watch Q S → Watch Q S' → Watch Q (S × S')
both w w' =
    record {
      answered = λ x q k a. (w.answered x.0 q k a, w'.answered x.1 q k a);
      scored = λ x half norm. (w.scored x.0 half norm, w'.scored x.1 half norm);
      begun = λ x. (w.begun x.0, w'.begun x.1);
      right = λ x half norm. w.right x.0 half norm × w'.right x.1 half norm;
    }

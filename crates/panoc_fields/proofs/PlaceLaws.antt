-- Where the points of the question lie. Assumes nothing.
use Rattle.std.proofs.Common.{◌≡◌, refl, ap, sym, ◌∙◌, ℕ, Bool, true, false, cond, ◌<◌, ◌≤◌, List, length, Float, arith}
use Rattle.std.proofs.Math.Option.{none, some}
use Rattle.model.specs.Process.{Question}
use Rattle.board.specs.Board.{vector, U}
use Rattle.board.proofs.Writes.{length_vector}
use Rattle.machine.specs.InnerRest.{sound}
use Rattle.machine.specs.InnerCalls.{first_point, second_point}
use Rattle.machine.specs.InnerAnswer.{question_at, question_of}
use Rattle.panoc_engine.specs.declared.panoc_cache.Phase.{Phase}
use Rattle.panoc_engine.specs.declared.panoc_cache.Phase.TheVariants as P
use Rattle.panoc_engine.specs.declared.panoc_cache.Solve.{Solve}
use Rattle.panoc_engine.specs.Values.{phase_of}
use Rattle.panoc_engine.specs.Runs.{run_of}
use Rattle.panoc_engine.specs.Places.{place_of, first_places, second_places}
use Rattle.panoc_engine.proofs.Asks.{asks}
use Rattle.panoc_fields.specs.declared.fields.InnerC.{InnerC}
use Rattle.panoc_fields.specs.Fields.{phase_at, solve_at}
use Rattle.panoc_fields.specs.Reads.{Lies, InnerLies}

-- a list that is the first places of a vector is as many of them as it has
pub long : (v : List Float) (j n : ℕ) (l : List Float) → v ≡ vector j n l → v ≡ vector j (length v) l
long v j n l e = e ∙ ap (λ (k : ℕ). vector j k l) (sym (length_vector j n l) ∙ ap length (sym e))

none_some : (q : Question) → none ≡ some q → ⊥
none_some q e = cc

some_same : {q r : Question} → some q ≡ some r → q ≡ r
some_same e = cc

-- m is l, or the board of a loop of whose first places the inner solve's l is
module _ (s : Solve) (l m : List Float) (same : (j k : ℕ) → j < 9 → k ≤ s.set.n → vector j k l ≡ vector j k m) where
  not_over : (p : Phase) (q : Question) → question_at (run_of s l) (phase_of p) ≡ some q → p ≡ P.Over → ⊥
  not_over p q e o = none_some q (sym (ap (λ (x : Phase). question_at (run_of s l) (phase_of x)) o) ∙ e)

  -- the question is that of `asks`
  first_at : (p : Phase) (q : Question) → question_at (run_of s l) (phase_of p) ≡ some q → first_point q ≡ vector (place_of p) (length (first_point q)) m
  first_at p q e =
      let a = asks s l p (not_over p q e) in
      let t : a.question ≡ q = some_same (sym a.is ∙ e) in
      rw (← t) (long (first_point a.question) (place_of p) (first_places s.set.n p) m (a.first ∙ same (place_of p) (first_places s.set.n p) a.known a.few))

  second_at : (p : Phase) (q : Question) → question_at (run_of s l) (phase_of p) ≡ some q → second_point q ≡ vector U (length (second_point q)) m
  second_at p q e =
      let a = asks s l p (not_over p q e) in
      let t : a.question ≡ q = some_same (sym a.is ∙ e) in
      rw (← t) (long (second_point a.question) U (second_places s.set.n p) m (a.second ∙ same U (second_places s.set.n p) (omega arith) a.few_second))

  pub run_lies : Lies first_point second_point (question_of (run_of s l)) m (place_of s.phase)
  unfolding question_of run_of
  run_lies = by (sound (run_of s l))
    where
      by : (t : Bool) → Lies first_point second_point (cond t (question_at (run_of s l) (phase_of s.phase)) none) m (place_of s.phase)
      by true = record { first_lies = first_at s.phase; direction_lies = second_at s.phase }
      by false = record { first_lies = λ q e. absurd (none_some q e); direction_lies = λ q e. absurd (none_some q e) }

pub lies : (run : InnerC) (p : Phase) (j n : ℕ) → p ≡ phase_at run.inner.phase → j ≡ place_of p → n ≡ j → InnerLies run n
lies run p j n e f g = rw (g, f, e) (run_lies (solve_at run.inner) run.board run.board (λ j k h i. refl))

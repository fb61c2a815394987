-- The table is total and in its order: a start or an answer gets the number k exactly where the condition of k fails and those tested before it hold, and none, 0, exactly where all hold. Assumes nothing.
use Rattle.std.specs.Prelude.{ℕ, ◌≡◌, refl, ◌↔◌, Bool, List, Float}
use Rattle.std.specs.Float.{Format}
use Rattle.model.specs.Process.{Kind, Process, ask, score, begin, stop}
use Rattle.model.specs.State.{Settings}
use Rattle.model.specs.Loop.{LoopSettings}
use Rattle.model.specs.Psi.{Sizes}
use Rattle.model.specs.Refusals.{unless, inner_refusal, loop_refusal, psi_refusal, Reply, wanted, answer_refusal, remains}
use Rattle.model.proofs.Tests.{never, fails, passed, among}
use Rattle.model.specs.Table.{AnswerRows, InnerRows, LoopRows, Over, PsiRows, answer_tests, inner_tests, loop_tests, psi_tests}

-- at every start
pub inner_rows : (s : Settings) (u : List Float) → InnerRows s u
unfolding inner_refusal
inner_rows s u =
    let ts = inner_tests s u in
    record { one = fails ts tt 0; nineteen = fails ts tt 18; three = fails ts tt 2; four = fails ts tt 3; none = passed ts tt; total = among ts }

-- at every start
pub loop_rows : (f : Format) (s : LoopSettings) (u xi : List Float) → LoopRows f s u xi
unfolding loop_refusal
loop_rows f s u xi =
    let ts = loop_tests f s u xi in
    record {
      one = fails ts tt 0;
      nineteen = fails ts tt 18;
      two = fails ts tt 1;
      three = fails ts tt 2;
      four = fails ts tt 3;
      five = fails ts tt 4;
      none = passed ts tt;
      total = among ts;
    }

-- at every start
pub psi_rows : (s : Sizes) (us xis : ℕ) → PsiRows s us xis
unfolding psi_refusal
psi_rows s us xis =
    let ts = psi_tests s us xis in
    record { one = fails ts tt 0; two = fails ts tt 1; none = passed ts tt; total = among ts }

-- at every answer
pub answer_rows : (k : Kind) (a : Reply) (vs : ℕ) (lent : Bool) → AnswerRows k a vs lent
unfolding answer_refusal unless
answer_rows k a vs lent =
    let ts = answer_tests k a vs lent in
    record { six = never ts 5 tt; seven = fails ts tt 6; eight = fails ts tt 7; none = passed ts tt; total = among ts }

-- at every answer
pub over_row : {Q H : Type 0} (p : Process Q H) (a : Reply) (vs : ℕ) (lent : Bool) → (answer_refusal (wanted (remains p)) a vs lent ≡ 6) ↔ Over p
unfolding wanted remains answer_refusal
over_row (ask q k continue) a vs lent = (λ e. absurd ((answer_rows k a vs lent).six e), λ w. absurd w)
over_row (score half norm p) a vs lent = over_row p a vs lent
over_row (begin p) a vs lent = over_row p a vs lent
over_row (stop e) a vs lent = (λ w. tt, λ w. refl)

-- The claim for psi and d_psi. Definitions only.
use Rattle.std.specs.Prelude.{◌≡◌, true, List, eqb, Float, length}
use Rattle.std.proofs.Math.Option.{some}
use Rattle.std.specs.Float.{Format}
use Rattle.model.specs.Process.{PsiQuestion, Psi, DPsi}
use Rattle.model.specs.Psi.{Sizes, psi, d_psi}
use Rattle.model.specs.Refusals.{lent_after, penalty_in, multipliers_in}
use Rattle.machine.specs.Told as Say
use Rattle.machine.specs.Numbers.{table_number}
use Rattle.machine.specs.InnerCalls.{asking}
use Rattle.machine.specs.PsiRun.{Asked, PsiRun, DPsiRun}
use Rattle.machine.specs.PsiRest.{psi_rest, d_psi_rest, asked_of, psi_tells, d_psi_tells, result_of}
use Rattle.machine.specs.PsiCalls.{PsiAnswers, DPsiAnswers, first_point, second_point, Points}
use Rattle.claim.specs.History.{hands_back, Runs, Call}
use Rattle.claim.specs.Trace.{remaining}
use Rattle.claim.specs.Claim.{Each, Follows}

-- ---- psi, whose answers lend nothing to be written

abbrev pub psi_runs : Format → Runs PsiQuestion Float
psi_runs f =
    record {
      Run = PsiRun;
      Settings = Sizes;
      Lent = Unit {0};
      Outcome = Say.Told Asked Float;
      Answers = λ run a v w w' o r. PsiAnswers f run a v (record { told = o; run = r });
      settings = λ run. run.sizes;
      rest = psi_rest f;
      right = λ s w. true;
      said = Say.saying asked_of psi_tells;
      written = λ s p w. w;
      hands = hands_back;
      number = table_number;
    }

-- document 01's process for the sizes s, from u and xi
abbrev pub psi_of : Format → Sizes → List Float → List Float → Psi
psi_of f s u xi = psi f s u (penalty_in xi) (multipliers_in xi)

-- the start with s, u and xi returned r, and the calls cs have led to t
pub record PsiClaim (f : Format) (s : Sizes) (u xi : List Float) (r : PsiRun) (cs : List (Call (psi_runs f))) (t : PsiRun) : Type 0 where
  -- "for psi and d_psi the bound is their 4 and 6 instead"; `says` has the number that it ends with
  pub follows : Follows (psi_runs f) s (psi_of f s u xi) 4 r cs t
  -- its questions have document 01's points
  pub points : (xs xs' ys ys' : List Float) → Points (psi_rest f t) xs xs' ys ys' 0 → (q : PsiQuestion) → asking (remaining (psi_runs f) s (psi_of f s u xi) cs) ≡ some q → (xs' ≡ first_point q) × (ys' ≡ second_point q)

-- ---- d_psi, whose answers lend the result

abbrev pub d_psi_runs : Format → Runs PsiQuestion (List Float)
d_psi_runs f =
    record {
      Run = DPsiRun;
      Settings = Sizes;
      Lent = List Float;
      Outcome = Say.Told Asked (Unit {0});
      Answers = λ run a v us ws o r. DPsiAnswers f run a v us ws (record { told = o; run = r });
      settings = λ run. run.sizes;
      rest = d_psi_rest f;
      right = λ s us. eqb (length us) s.n;
      said = Say.saying asked_of d_psi_tells;
      written = λ s p us. lent_after result_of p us;
      hands = hands_back;
      number = table_number;
    }

abbrev pub d_psi_of : Format → Sizes → List Float → List Float → DPsi
d_psi_of f s u xi = d_psi f s u (penalty_in xi) (multipliers_in xi)

pub record DPsiClaim (f : Format) (s : Sizes) (u xi : List Float) (r : DPsiRun) (cs : List (Call (d_psi_runs f))) (t : DPsiRun) : Type 0 where
  -- "for psi and d_psi the bound is their 4 and 6 instead"; `writes` has the numbers that it writes, `kept` that it writes them "at its end only"
  pub follows : Follows (d_psi_runs f) s (d_psi_of f s u xi) 6 r cs t
  -- its questions have document 01's points
  pub points : (xs xs' ys ys' : List Float) → Points (d_psi_rest f t) xs xs' ys ys' 0 → (q : PsiQuestion) → asking (remaining (d_psi_runs f) s (d_psi_of f s u xi) cs) ≡ some q → (xs' ≡ first_point q) × (ys' ≡ second_point q)
  -- "`d_psi` writes n numbers into a lent slice"
  pub result : Each (λ c before. c.outcome ≡ Say.Told.ended tt → length c.wrote ≡ s.n) cs

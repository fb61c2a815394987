-- The machines of the four kinds of run, and where their vectors stand: their numbers in the flat array, and how many places of its 64 each has. Definitions only.
use Rattle.std.specs.Prelude.{ℕ, refl, cond, List, [], ◌∷◌, ◌++◌, Float, length, ltb, get_or}
use Rattle.std.specs.Float.{Format}
use Rattle.model.specs.State.{Settings}
use Rattle.model.specs.Loop.{LoopSettings}
use Rattle.model.specs.Psi.{Sizes}
use Rattle.model.specs.Refusals.{psi_refusal}
use Rattle.machine.specs.InnerRun as Inner
use Rattle.machine.specs.InnerAnswer as InnerAnswer
use Rattle.machine.specs.LoopRun as Loop
use Rattle.machine.specs.LoopAnswer as LoopAnswer
use Rattle.machine.specs.PsiRun.{Asked, PsiPhase, DPsiPhase, PsiRun, PsiLeft, DPsiRun, DPsiLeft, refuses}
use Rattle.machine.specs.PsiCalls.{psi_begun, psi_answer_any, d_psi_begun, d_psi_answer_any, handed_out}
use Rattle.machine.specs.Told.{Told}
use Rattle.machine.specs.Waits.{unless_refused}
use Rattle.machine.specs.Keeping.{Machine, Layout}

-- what a start is given: settings, u and xi (none for an inner solve), and the run that the places held before
pub record Given (S R : Type 0) : Type 0 where
  pub set : S
  pub u : List Float
  pub xi : List Float
  pub before : R

-- the lent u and xi of a loop
pub record Places : Type 0 where
  pub u : List Float
  pub xi : List Float

-- ---- an inner solve
abbrev pub inner_machine : Format → Machine
inner_machine f =
    record {
      Run = Inner.Run;
      Told = Inner.Told;
      Start = Given Settings Inner.Run;
      Lent = List Float;
      begins = λ w. (InnerAnswer.start w.set w.u w.before).told;
      begun = λ w. (InnerAnswer.start w.set w.u w.before).run;
      tells = λ r i. (InnerAnswer.answer_any f r i.reply i.vector i.lent).told;
      leaves = λ r i. (InnerAnswer.answer_any f r i.reply i.vector i.lent).run;
      writes = λ r i. InnerAnswer.plan_after (InnerAnswer.answer_any f r i.reply i.vector i.lent) i.lent;
      vectors = λ r. r.state.at.u ∷ r.candidate ∷ r.state.at.gradient ∷ r.state.at.previous ∷ r.state.at.gradient_step ∷ r.state.at.half ∷ r.state.residual ∷ r.direction ∷ r.state.at.best.point ∷ [];
    }

abbrev with_nine : (ℕ → List Float) → Inner.Run → Inner.Run
with_nine v r =
    record r {
      state =
          record r.state {
            at = record r.state.at { u = v 0; gradient = v 2; previous = v 3; gradient_step = v 4; half = v 5; best = record r.state.at.best { point = v 8 } };
            residual = v 6;
          };
      candidate = v 1;
      direction = v 7;
    }

abbrev pub inner_layout : (f : Format) → Layout (inner_machine f)
inner_layout f = record { numbers = 0 ∷ 1 ∷ 2 ∷ 3 ∷ 4 ∷ 5 ∷ 6 ∷ 7 ∷ 8 ∷ []; size = λ r j. r.set.n; with_vectors = with_nine; back = λ v r. refl }

-- ---- the loop: the inner solve's nine first, then y, y_plus and F1
abbrev pub loop_machine : Format → Machine
loop_machine f =
    record {
      Run = Loop.Run;
      Told = Loop.Told;
      Start = Given LoopSettings Loop.Run;
      Lent = Places;
      begins = λ w. (LoopAnswer.start f w.set w.u w.xi w.before).told;
      begun = λ w. (LoopAnswer.start f w.set w.u w.xi w.before).run;
      tells = λ r i. (LoopAnswer.answer_any f r i.reply i.vector i.lent.u i.lent.xi).told;
      leaves = λ r i. (LoopAnswer.answer_any f r i.reply i.vector i.lent.u i.lent.xi).run;
      writes = λ r i. record {
        u = LoopAnswer.plan_after (LoopAnswer.answer_any f r i.reply i.vector i.lent.u i.lent.xi) i.lent.u;
        xi = LoopAnswer.xi_after (LoopAnswer.answer_any f r i.reply i.vector i.lent.u i.lent.xi) i.lent.xi;
      };
      vectors = λ r. (inner_machine f).vectors r.solve ++ (r.y ∷ r.y_plus ∷ r.f1 ∷ []);
    }

abbrev pub loop_layout : (f : Format) → Layout (loop_machine f)
loop_layout f =
    record {
      numbers = 0 ∷ 1 ∷ 2 ∷ 3 ∷ 4 ∷ 5 ∷ 6 ∷ 7 ∷ 8 ∷ 9 ∷ 10 ∷ 11 ∷ [];
      size = λ r j. cond (ltb j 9) r.set.n r.set.n1;
      with_vectors = λ v r. record r { solve = with_nine v r.solve; y = v 9; y_plus = v 10; f1 = v 11 };
      back = λ v r. refl;
    }

-- ---- psi, whose answers lend nothing to be written: u, y, t and what was copied

-- a start: what it begins, or its refusal, with no run
unfoldable pub psi_start : Sizes → List Float → List Float → PsiRun → PsiLeft
psi_start s u xi r =
    unless_refused (psi_refusal s (length u) (length xi)) (λ k. refuses k (record r { phase = PsiPhase.over; sizes = s })) (psi_begun s u xi r.beyond)

abbrev pub psi_machine : Format → Machine
psi_machine f =
    record {
      Run = PsiRun;
      Told = Told Asked Float;
      Start = Given Sizes PsiRun;
      Lent = Unit {0};
      begins = λ w. (psi_start w.set w.u w.xi w.before).told;
      begun = λ w. (psi_start w.set w.u w.xi w.before).run;
      tells = λ r i. (psi_answer_any f i.reply i.vector r).told;
      leaves = λ r i. (psi_answer_any f i.reply i.vector r).run;
      writes = λ r i. i.lent;
      vectors = λ r. r.u ∷ r.y ∷ r.t ∷ r.work ∷ [];
    }

abbrev pub psi_layout : (f : Format) → Layout (psi_machine f)
psi_layout f =
    record {
      numbers = 0 ∷ 1 ∷ 2 ∷ 3 ∷ [];
      size = λ r j. get_or (r.sizes.n ∷ r.sizes.n1 ∷ r.sizes.n1 ∷ 64 ∷ []) j 0;
      with_vectors = λ v r. record r { u = v 0; y = v 1; t = v 2; work = v 3 };
      back = λ v r. refl;
    }

-- ---- d_psi, whose answers lend the result: u, y, the gradient, t, what a product is taken with, and what was copied
unfoldable pub d_psi_start : Sizes → List Float → List Float → DPsiRun → DPsiLeft
d_psi_start s u xi r =
    unless_refused (psi_refusal s (length u) (length xi)) (λ k. refuses k (record r { phase = DPsiPhase.over; sizes = s })) (d_psi_begun s u xi r.beyond)

abbrev pub d_psi_machine : Format → Machine
d_psi_machine f =
    record {
      Run = DPsiRun;
      Told = Told Asked (Unit {0});
      Start = Given Sizes DPsiRun;
      Lent = List Float;
      begins = λ w. (d_psi_start w.set w.u w.xi w.before).told;
      begun = λ w. (d_psi_start w.set w.u w.xi w.before).run;
      tells = λ r i. (d_psi_answer_any f i.reply i.vector i.lent r).told;
      leaves = λ r i. (d_psi_answer_any f i.reply i.vector i.lent r).run;
      writes = λ r i. handed_out (d_psi_answer_any f i.reply i.vector i.lent r) i.lent;
      vectors = λ r. r.u ∷ r.y ∷ r.so_far.gradient ∷ r.t ∷ r.so_far.d ∷ r.work ∷ [];
    }

abbrev pub d_psi_layout : (f : Format) → Layout (d_psi_machine f)
d_psi_layout f =
    record {
      numbers = 0 ∷ 1 ∷ 2 ∷ 3 ∷ 4 ∷ 5 ∷ [];
      size = λ r j. get_or (r.sizes.n ∷ r.sizes.n1 ∷ r.sizes.n ∷ r.sizes.n1 ∷ 64 ∷ 64 ∷ []) j 0;
      with_vectors = λ v r. record r { u = v 0; y = v 1; so_far = record { gradient = v 2; d = v 4 }; t = v 3; work = v 5 };
      back = λ v r. refl;
    }

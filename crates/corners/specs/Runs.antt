-- Whole runs, computed on the definitions: each question with its point and the answer that it gets, each score, the end. Assumes nothing.
use Rattle.std.specs.Prelude.{refl, true, false, List, [], ◌∷◌, Float}
use Rattle.std.proofs.Math.Option.{some}
use Rattle.std.specs.Float.{binary64}
use Rattle.std.specs.Float.Ieee.{neg}
use Rattle.ieee.specs.Numbers.{null}
use Rattle.model.specs.Process as Asks
use Rattle.model.specs.Process.{handed, converged, not_converged_iterations}
use Rattle.model.specs.State.{Settings}
use Rattle.model.specs.Loop.{LoopSettings}
use Rattle.model.specs.Psi.{Sizes}
use Rattle.model.specs.Refusals.{start_inner, start_loop, start_psi, start_d_psi}
use Rattle.model.specs.Play.{asked, scored, began, ended}
use Rattle.model.specs.Script.{int, ◌·2^◌, ◌/2^◌, only, number, vector, answer_yes, COST, GRADIENT, PROJECT, DIRECTION, COST_in, GRADIENT_in, PROJECT_in, DIRECTION_in, TIME_in, says, ◌▷◌, Goes, all_inner, all_loop, all_psi}

-- ---- the loop with nothing but u, twice: each inner solve starts its previous gradient at zeros (docs/DIFFERENCES.md, 1). With the gradient of the solve before, the second solve would end at once

-- 0
abbrev at0 : List Float
at0 = only null

-- 1
abbrev at1 : List Float
at1 = only (int 1)

-- 1e-12, the shift of 0
abbrev moved : List Float
moved = only (4951760157141521 /2^ 92)

-- 1e-12 - γ × 1, where L is 0 and γ thus 0.95 / 1e-10
abbrev far : List Float
far = only (neg (37109375 ·2^ 8))

-- M = 1 and K = 2; the first AKKT tolerance is 1
abbrev twice : LoopSettings
twice =
    record {
      n = 1;
      n1 = 0;
      n2 = 0;
      set_y = false;
      limit = 1;
      outer = 2;
      limited = false;
      tolerance = int 1;
      epsilon = 1 /2^ 1;
      delta = int 1;
      akkt = int 1;
      penalty_factor = 1 ·2^ 1;
      epsilon_factor = 1 /2^ 1;
      coefficient = 1 /2^ 1;
    }

-- the second solve asks DIRECTION; the inner count is 2
pub starts_at_zeros :
    Goes (start_loop binary64 twice at0 [])
    (says began
    ∷ COST_in [] at0 ▷ number null
    ∷ GRADIENT_in [] at0 ▷ vector at1
    ∷ GRADIENT_in [] moved ▷ vector at1
    ∷ PROJECT_in [] far ▷ vector at0
    ∷ says (scored at0 (4951760157141521 /2^ 92))
    ∷ COST_in [] at0 ▷ number (neg (int 1))
    ∷ DIRECTION_in [] true moved moved ▷ vector at0
    ∷ COST_in [] at0 ▷ number null
    ∷ GRADIENT_in [] at0 ▷ vector at1
    ∷ PROJECT_in [] far ▷ vector at0
    ∷ says (scored at0 null)
    ∷ says (scored at0 null)
    ∷ COST_in [] at0 ▷ number null
    ∷ says began
    ∷ COST_in [] at0 ▷ number null
    ∷ GRADIENT_in [] at0 ▷ vector at1
    ∷ GRADIENT_in [] moved ▷ vector at1
    ∷ PROJECT_in [] far ▷ vector at0
    ∷ says (scored at0 (4951760157141521 /2^ 92))
    ∷ COST_in [] at0 ▷ number (neg (int 1))
    ∷ DIRECTION_in [] true moved moved ▷ vector at0
    ∷ COST_in [] at0 ▷ number null
    ∷ GRADIENT_in [] at0 ▷ vector at1
    ∷ PROJECT_in [] far ▷ vector at0
    ∷ says (scored at0 null)
    ∷ says (scored at0 null)
    ∷ COST_in [] at0 ▷ number null
    ∷ asked (Asks.LoopQuestion.cost at0 []) ▷ number null
    ∷ says (ended (handed (record { plan = at0; multipliers = []; penalty = null; status = not_converged_iterations; outer = 2; inner = 2; norm = null; delta_y = null; f2 = null; cost = null })))
    ∷ [])
unfolding all_loop
starts_at_zeros = refl

-- ---- An inner solve of two places. The first is shifted by 1e-6 of itself and stays so; at the second, which is negative, 1e-12 is lost in rounding. γ is 1.
-- The first step fails by its AKKT residual alone, (1 + 1, 0 + 2), since the previous gradient is zeros. At the second the copy precedes the test, so that the residual is (1, 0);
-- against the first gradient, (1, 2), it would be (1, 2) and fail. Of two half steps of norm 1 the first is kept.

-- 1048574.9514250485, whose shift leads to 1048576
abbrev before : List Float
before = 1125898780943843 /2^ 30 ∷ neg (1 ·2^ 20) ∷ []

-- where the shift leads
abbrev after : List Float
after = 1 ·2^ 20 ∷ neg (1 ·2^ 20) ∷ []

-- the first half step
abbrev first : List Float
first = int 1048575 ∷ neg (1 ·2^ 20) ∷ []

-- the second
abbrev second : List Float
second = 524287 ·2^ 1 ∷ neg (1 ·2^ 20) ∷ []

-- n = 2, and both tolerances are 2
abbrev two : Settings
two = record { n = 2; limit = 10; limited = false; tolerance = 1 ·2^ 1; akkt = some (1 ·2^ 1) }

-- u stays shifted, and the copy of the gradient precedes the test
pub stays_shifted :
    Goes (start_inner binary64 two before)
    (says began
    ∷ COST before ▷ number null
    ∷ GRADIENT before ▷ vector (int 1 ∷ 1 ·2^ 1 ∷ [])
    ∷ GRADIENT after ▷ vector (4443124451329665 /2^ 60 ∷ 1 ·2^ 1 ∷ [])
    ∷ PROJECT (int 1048575 ∷ neg (524289 ·2^ 1) ∷ []) ▷ vector first
    ∷ says (scored first (int 1))
    ∷ COST first ▷ number (neg (int 1))
    ∷ DIRECTION true (int 1 ∷ null ∷ []) after ▷ vector (null ∷ null ∷ [])
    ∷ COST first ▷ number (neg (int 1))
    ∷ GRADIENT first ▷ vector (int 1 ∷ 1 ·2^ 2 ∷ [])
    ∷ PROJECT (524287 ·2^ 1 ∷ neg (262145 ·2^ 2) ∷ []) ▷ vector second
    ∷ says (scored second (int 1))
    ∷ says (scored second (int 1))
    ∷ COST first ▷ number (neg (1 ·2^ 1))
    ∷ says (ended (handed (record { plan = first; status = converged; iterations = 1; norm = int 1; cost = neg (1 ·2^ 1) })))
    ∷ [])
unfolding all_inner
stays_shifted = refl

-- ---- psi and d_psi with c = 1/2 and y = 1: psi divides y by max(c, 1), d_psi by c

-- 3
abbrev at3 : List Float
at3 = only (int 3)

-- a place of each
abbrev one : Sizes
one = record { n = 1; n1 = 1; n2 = 1 }

-- t = 2 + 1 / 1, P = 1
pub psi_by_larger :
    Goes (start_psi binary64 one at3 (1 /2^ 1 ∷ int 1 ∷ []))
    (asked (Asks.PsiQuestion.cost at3) ▷ number (int 1)
    ∷ asked (Asks.PsiQuestion.f1 at3) ▷ vector (only (1 ·2^ 1))
    ∷ asked (Asks.PsiQuestion.project_c at3) ▷ vector (only (int 1))
    ∷ asked (Asks.PsiQuestion.f2 at3) ▷ vector (only (1 ·2^ 1))
    ∷ says (ended (handed (int 3)))
    ∷ [])
unfolding all_psi
psi_by_larger = refl

-- t = 2 + 1 / (1/2), P = 1
pub d_psi_by_c :
    Goes (start_d_psi binary64 one at3 (1 /2^ 1 ∷ int 1 ∷ []))
    (asked (Asks.PsiQuestion.gradient at3) ▷ vector (only (int 1))
    ∷ asked (Asks.PsiQuestion.f1 at3) ▷ vector (only (1 ·2^ 1))
    ∷ asked (Asks.PsiQuestion.project_c (only (1 ·2^ 2))) ▷ vector (only (int 1))
    ∷ asked (Asks.PsiQuestion.jf1t at3 at3) ▷ vector (only (1 ·2^ 1))
    ∷ asked (Asks.PsiQuestion.f2 at3) ▷ vector (only (1 ·2^ 1))
    ∷ asked (Asks.PsiQuestion.jf2t at3 (only (1 ·2^ 1))) ▷ vector (only (1 ·2^ 2))
    ∷ says (ended (handed (only (1 ·2^ 2))))
    ∷ [])
unfolding all_psi
d_psi_by_c = refl

-- ---- The loop with both mappings, a set Y and a limit. At the first iteration c stays; at the second |F2| has decreased from 4 to 1 and |y_plus - y| stays 4, so c becomes 4; the third passes the
-- exit test. The last COST has c = 0 and y = 1 of that iteration, the multipliers handed back are y_plus = 2. u is so far below 0 that its shift is lost in rounding.

-- u of the first two solves
abbrev here : List Float
here = only (neg (1 ·2^ 20))

-- and of the third
abbrev there : List Float
there = only (neg (524287 ·2^ 1))

-- c and y of the first iteration, y projected on Y
abbrev xi1 : List Float
xi1 = int 1 ∷ int 1 ∷ []

-- of the second
abbrev xi2 : List Float
xi2 = int 1 ∷ int 5 ∷ []

-- of the third
abbrev xi3 : List Float
xi3 = 1 ·2^ 2 ∷ int 1 ∷ []

-- K = 3; c is multiplied by 4
abbrev thrice : LoopSettings
thrice =
    record {
      n = 1;
      n1 = 1;
      n2 = 1;
      set_y = true;
      limit = 10;
      outer = 3;
      limited = true;
      tolerance = int 1;
      epsilon = 1 /2^ 1;
      delta = int 1;
      akkt = int 1;
      penalty_factor = 1 ·2^ 2;
      epsilon_factor = 1 /2^ 1;
      coefficient = 1 /2^ 1;
    }

-- c is multiplied at the second iteration and not at the first, and y_plus is handed back
pub multiplied_once :
    Goes (start_loop binary64 thrice here (int 1 ∷ 1 ·2^ 1 ∷ []))
    (asked Asks.LoopQuestion.time ▷ answer_yes
    ∷ asked (Asks.LoopQuestion.project_y (only (1 ·2^ 1))) ▷ vector (only (int 1))
    ∷ says began
    ∷ COST_in xi1 here ▷ number null
    ∷ GRADIENT_in xi1 here ▷ vector at0
    ∷ GRADIENT_in xi1 here ▷ vector at0
    ∷ PROJECT_in xi1 here ▷ vector here
    ∷ says (scored here null)
    ∷ says (scored here null)
    ∷ COST_in xi1 here ▷ number null
    ∷ asked (Asks.LoopQuestion.f1 here) ▷ vector (only (int 3))
    ∷ asked (Asks.LoopQuestion.project_c (only (1 ·2^ 2))) ▷ vector (only (neg (int 1)))
    ∷ asked (Asks.LoopQuestion.f2 here) ▷ vector (only (1 ·2^ 2))
    ∷ asked Asks.LoopQuestion.time ▷ answer_yes
    ∷ asked (Asks.LoopQuestion.project_y (only (int 5))) ▷ vector (only (int 5))
    ∷ says began
    ∷ COST_in xi2 here ▷ number null
    ∷ GRADIENT_in xi2 here ▷ vector at0
    ∷ GRADIENT_in xi2 here ▷ vector at0
    ∷ PROJECT_in xi2 here ▷ vector there
    ∷ says (scored there (1 ·2^ 1))
    ∷ COST_in xi2 there ▷ number null
    ∷ DIRECTION_in xi2 true (only (neg (1 ·2^ 1))) here ▷ vector at0
    ∷ COST_in xi2 there ▷ number null
    ∷ GRADIENT_in xi2 there ▷ vector at0
    ∷ PROJECT_in xi2 there ▷ vector there
    ∷ TIME_in xi2 ▷ answer_yes
    ∷ says (scored there null)
    ∷ says (scored there null)
    ∷ COST_in xi2 there ▷ number null
    ∷ asked (Asks.LoopQuestion.f1 there) ▷ vector (only (int 1))
    ∷ asked (Asks.LoopQuestion.project_c (only (3 ·2^ 1))) ▷ vector (only (int 5))
    ∷ asked (Asks.LoopQuestion.f2 there) ▷ vector (only (int 1))
    ∷ asked Asks.LoopQuestion.time ▷ answer_yes
    ∷ asked (Asks.LoopQuestion.project_y (only (int 1))) ▷ vector (only (int 1))
    ∷ says began
    ∷ COST_in xi3 there ▷ number null
    ∷ GRADIENT_in xi3 there ▷ vector at0
    ∷ GRADIENT_in xi3 there ▷ vector at0
    ∷ PROJECT_in xi3 there ▷ vector there
    ∷ says (scored there null)
    ∷ says (scored there null)
    ∷ COST_in xi3 there ▷ number null
    ∷ asked (Asks.LoopQuestion.f1 there) ▷ vector (only (1 ·2^ 1))
    ∷ asked (Asks.LoopQuestion.project_c (only (9 /2^ 2))) ▷ vector (only (7 /2^ 2))
    ∷ asked (Asks.LoopQuestion.f2 there) ▷ vector (only (1 /2^ 1))
    ∷ asked (Asks.LoopQuestion.cost there (null ∷ int 1 ∷ [])) ▷ number (int 7)
    ∷ says (ended (handed (record { plan = there; multipliers = only (1 ·2^ 1); penalty = 1 ·2^ 2; status = converged; outer = 3; inner = 1; norm = null; delta_y = int 1; f2 = 1 /2^ 1; cost = int 7 })))
    ∷ [])
unfolding all_loop
multiplied_once = refl

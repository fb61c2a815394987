-- The table: document 01, "Refused, by place", 1 to 5 and 19 at a start and 6 to 9 at an answer, and what each leaves. 10 to 18 are ends of the processes. Definitions only.
use Rattle.std.specs.Prelude.{ℕ, zero, suc, ◌+◌, Bool, true, false, ◌&&◌, not, cond, List, [], ◌∷◌, eqb, leb, ltb, Float, length}
use Rattle.std.proofs.Math.Option.{Option, none, some}
use Rattle.std.specs.Float.{Format}
use Rattle.std.specs.Float.Ieee.{lt, le}
use Rattle.std.specs.Float.Ieee.Scale.{finite}
use Rattle.ieee.specs.Numbers.{null}
use Rattle.model.specs.Constants.{one}
use Rattle.model.specs.Vectors.{all_finite}
use Rattle.model.specs.Process.{Kind, Answer, End, handed, refused, failed, Process, ask, score, begin, stop, Handed, LoopHanded, Solve, Loop, Psi, DPsi}
use Rattle.model.specs.State.{Settings}
use Rattle.model.specs.Inner.{solve}
use Rattle.model.specs.Loop.{LoopSettings, xi_of, loop}
use Rattle.model.specs.Psi.{Sizes, psi, d_psi}

-- ---- at a start: the number of the refusal, 0 for none. "Within a place the lower number comes first", but 19 "after 1 and before 2"

-- k where the test failed, else what comes later
unfoldable pub unless : Bool → ℕ → ℕ → ℕ
unless passed k later = cond passed later k

-- 1: "n outside its sizes, or u of another length", us
unfoldable pub sizes_right : ℕ → ℕ → Bool
sizes_right n us = ltb 0 n && (leb n 64 && eqb us n)

-- "xi is empty if n1 = n2 = 0, else the penalty c and then n1 multipliers y"
unfoldable pub xi_length : ℕ → ℕ → ℕ
xi_length n1 n2 = cond (eqb n1 0 && eqb n2 0) 0 (n1 + 1)

-- 2: "n1 or n2 above 32, xi of another length, Y set with n1 = 0"
unfoldable pub mappings_right : ℕ → ℕ → Bool → ℕ → Bool
mappings_right n1 n2 set_y xis = leb n1 32 && (leb n2 32 && (eqb xis (xi_length n1 n2) && not (set_y && eqb n1 0)))

-- 3: "M 1 to 10,000; K 1 to 1,000"
unfoldable pub limit_right : ℕ → ℕ → Bool
limit_right most m = ltb 0 m && leb m most

-- 4: "finite and above 0", "finite and at least 1", "strictly between 0 and 1"
unfoldable pub tolerance_right : Float → Bool
tolerance_right t = finite t && lt null t

unfoldable pub akkt_right : Option Float → Bool
akkt_right none = true
akkt_right (some t) = tolerance_right t

unfoldable pub factor_right : Format → Float → Bool
factor_right f x = finite x && le (one f) x

unfoldable pub fraction_right : Format → Float → Bool
fraction_right f x = lt null x && lt x (one f)

unfoldable pub loop_numbers_right : Format → LoopSettings → Bool
loop_numbers_right f s =
    tolerance_right s.tolerance
    && (tolerance_right s.epsilon
    && (tolerance_right s.delta && (tolerance_right s.akkt && (factor_right f s.penalty_factor && (fraction_right f s.epsilon_factor && fraction_right f s.coefficient)))))

-- 5: "c not finite or not above 0, a y not finite"
unfoldable pub xi_right : List Float → Bool
xi_right [] = true
xi_right (c ∷ y) = tolerance_right c && all_finite y

-- 19: "u not finite, checked after 1 and before 2": all_finite of the lent u
unfoldable pub inner_refusal : Settings → List Float → ℕ
inner_refusal s u =
    unless (sizes_right s.n (length u)) 1
    (unless (all_finite u) 19 (unless (limit_right 10000 s.limit) 3 (unless (tolerance_right s.tolerance && akkt_right s.akkt) 4 0)))

unfoldable pub loop_refusal : Format → LoopSettings → List Float → List Float → ℕ
loop_refusal f s u xi =
    unless (sizes_right s.n (length u)) 1
    (unless (all_finite u) 19 (unless (mappings_right s.n1 s.n2 s.set_y (length xi)) 2
    (unless (limit_right 10000 s.limit && limit_right 1000 s.outer) 3 (unless (loop_numbers_right f s) 4 (unless (xi_right xi) 5 0)))))

-- psi and d_psi have no such settings, "take any c and y" and "take any u"
unfoldable pub psi_refusal : Sizes → ℕ → ℕ → ℕ
psi_refusal s us xis = unless (sizes_right s.n us) 1 (unless (mappings_right s.n1 s.n2 false xis) 2 0)

-- ---- the runs that an accepted start begins

-- c and y of a xi: 0 and none where it is empty
unfoldable pub penalty_in : List Float → Float
penalty_in [] = null
penalty_in (c ∷ y) = c

unfoldable pub multipliers_in : List Float → List Float
multipliers_in [] = []
multipliers_in (c ∷ y) = y

-- p, or the refusal k: "no run"
unfoldable pub or_refused : {Q H : Type 0} → ℕ → Process Q H → Process Q H
or_refused zero p = p
or_refused (suc k) p = stop (refused (suc k))

unfoldable pub start_inner : Format → Settings → List Float → Solve
start_inner f s u = or_refused (inner_refusal s u) (solve f s u)

unfoldable pub start_loop : Format → LoopSettings → List Float → List Float → Loop
start_loop f s u xi = or_refused (loop_refusal f s u xi) (loop f s u (penalty_in xi) (multipliers_in xi))

unfoldable pub start_psi : Format → Sizes → List Float → List Float → Psi
start_psi f s u xi = or_refused (psi_refusal s (length u) (length xi)) (psi f s u (penalty_in xi) (multipliers_in xi))

unfoldable pub start_d_psi : Format → Sizes → List Float → List Float → DPsi
start_d_psi f s u xi = or_refused (psi_refusal s (length u) (length xi)) (d_psi f s u (penalty_in xi) (multipliers_in xi))

-- ---- at an answer

-- "An answer is a number, a vector in a lent slice, a yes or no, or a failure"
pub data Reply : Type 0 where
  number : Float → Reply
  vector : Reply
  yes : Reply
  no : Reply
  failure : ℕ → Reply

-- what a process waits for; it has ended where it is none
unfoldable pub wanted : {Q H : Type 0} → Process Q H → Option Kind
wanted (ask q k continue) = some k
wanted (score half norm p) = none
wanted (begin p) = none
wanted (stop e) = none

-- the answer that a number, a vector, a yes or no gives to a question of a kind, none to one of another kind
unfoldable pub as_number : Float → (k : Kind) → Option (Answer k)
as_number x Kind.number = some x
as_number x (Kind.vector n) = none
as_number x (Kind.direction n) = none
as_number x Kind.decision = none

unfoldable pub as_vector : List Float → (k : Kind) → Option (Answer k)
as_vector v Kind.number = none
as_vector v (Kind.vector n) = some v
as_vector v (Kind.direction n) = some v
as_vector v Kind.decision = none

unfoldable pub as_decision : Bool → (k : Kind) → Option (Answer k)
as_decision b Kind.number = none
as_decision b (Kind.vector n) = none
as_decision b (Kind.direction n) = none
as_decision b Kind.decision = some b

-- "failure for TIME or DIRECTION" is not taken
unfoldable pub may_fail : Kind → Bool
may_fail Kind.number = true
may_fail (Kind.vector n) = true
may_fail (Kind.direction n) = false
may_fail Kind.decision = false

unfoldable pub given : {A : Type 0} → Option A → Bool
given none = false
given (some a) = true

-- 7: "not the kind asked, or failure for TIME or DIRECTION"
unfoldable pub fits_kind : Kind → Reply → Bool
fits_kind k (number x) = given (as_number x k)
fits_kind k vector = given (as_vector [] k)
fits_kind k yes = given (as_decision true k)
fits_kind k no = given (as_decision false k)
fits_kind k (failure c) = may_fail k

-- 8: "a lent slice not of the length asked": the answered one, of length vs, is tested only where a vector is answered
unfoldable pub fits_places : Kind → ℕ → Bool
fits_places Kind.number vs = true
fits_places (Kind.vector n) vs = eqb vs n
fits_places (Kind.direction n) vs = eqb vs n
fits_places Kind.decision vs = true

unfoldable pub fits_length : Kind → Reply → ℕ → Bool
fits_length k (number x) vs = true
fits_length k vector vs = fits_places k vs
fits_length k yes vs = true
fits_length k no vs = true
fits_length k (failure c) vs = true

-- the number of the refusal, 0 for none; `lentRight` says that each place that the call lends has the length asked
unfoldable pub answer_refusal : Option Kind → Reply → ℕ → Bool → ℕ
answer_refusal none a vs lent_right = 6
answer_refusal (some k) a vs lent_right = cond (fits_kind k a) (cond (fits_length k a vs && lent_right) 0 8) 7

-- ---- what an answer leads to, v being the vector lent with it

-- the continuation at an answer; where there is none, the question stays
unfoldable pub go_on : {Q H : Type 0} → Q → (k : Kind) → (Answer k → Process Q H) → Option (Answer k) → Process Q H
go_on q k continue none = ask q k continue
go_on q k continue (some a) = continue a

-- 9: "host reports failure; its 32-bit code comes back"
unfoldable pub replied : {Q H : Type 0} → Q → (k : Kind) → (Answer k → Process Q H) → Reply → List Float → Process Q H
replied q k continue (number x) v = go_on q k continue (as_number x k)
replied q k continue vector v = go_on q k continue (as_vector v k)
replied q k continue yes v = go_on q k continue (as_decision true k)
replied q k continue no v = go_on q k continue (as_decision false k)
replied q k continue (failure c) v = stop (failed c)

unfoldable pub accept : {Q H : Type 0} → Process Q H → Reply → List Float → Process Q H
accept (ask q k continue) a v = replied q k continue a v
accept (score half norm p) a v = score half norm p
accept (begin p) a v = begin p
accept (stop e) a v = stop e

-- ---- what is left of a process that a call has come to: past its marks; "ended" after an end, so that the next answer gets 6
unfoldable pub remains : {Q H : Type 0} → Process Q H → Process Q H
remains (ask q k continue) = ask q k continue
remains (score half norm p) = remains p
remains (begin p) = remains p
remains (stop e) = stop (refused 6)

-- ---- the lent places: "written only when a plan is handed back: u whole, c into place 0, and the multipliers into the part of xi from place 1 on"

-- what stands in a lent place: what an end hands back there, else what was there
unfoldable pub lent_at : {H : Type 0} → (H → List Float) → End H → List Float → List Float
lent_at give (handed h) was = give h
lent_at give (refused k) was = was
lent_at give (failed c) was = was

unfoldable pub lent_after : {Q H : Type 0} → (H → List Float) → Process Q H → List Float → List Float
lent_after give (ask q k continue) was = was
lent_after give (score half norm p) was = lent_after give p was
lent_after give (begin p) was = lent_after give p was
lent_after give (stop e) was = lent_at give e was

-- u and xi of the loop
unfoldable pub plan_of : Handed → List Float
plan_of h = h.plan

unfoldable pub loop_plan : LoopHanded → List Float
loop_plan h = h.plan

unfoldable pub loop_xi : LoopSettings → LoopHanded → List Float
loop_xi s h = xi_of s h.penalty h.multipliers

-- What each accepted answer leaves of a run of psi and of d_psi. Formulas are the model's (`Psi`); what is said here is what of them a run keeps. Definitions only.
use Rattle.std.specs.Prelude.{cond, List, eqb, Float}
use Rattle.std.specs.Float.{Format}
use Rattle.ieee.specs.Numbers.{larger}
use Rattle.ieee.specs.Sums.{squares}
use Rattle.model.specs.Constants.{one}
use Rattle.model.specs.Vectors.{minus, plus_times, plus_over}
use Rattle.model.specs.Psi as S
use Rattle.model.specs.Refusals.{Reply}
use Rattle.machine.specs.PsiRun.{Asked, PsiPhase, DPsiPhase, PsiRun, PsiLeft, DPsiRun, DPsiLeft, overlay, having, with_t, copied, asks, ends, fails, refuses}

module _ (f : Format) where
  -- ---- psi

  -- the part of F1 is in: F2, or the end where there is none
  unfoldable pub psi_ask_f2 : PsiRun → PsiLeft
  psi_ask_f2 r = cond (eqb r.sizes.n2 0) (ends r.so_far PsiPhase.over r) (asks Asked.f2 PsiPhase.f2 r)

  unfoldable pub psi_got_cost : Float → PsiRun → PsiLeft
  psi_got_cost x r = cond (eqb r.sizes.n1 0) (psi_ask_f2 (having x r)) (asks Asked.f1 PsiPhase.f1 (having x r))

  unfoldable pub psi_got_f1 : List Float → PsiRun → PsiLeft
  psi_got_f1 v r = asks Asked.project_c PsiPhase.project_c (with_t (plus_over f (larger r.c (one f)) v r.y) (copied v r))

  -- the number so far, with (c/2) × x added
  abbrev pub penalized : Float → PsiRun → Float
  penalized x r = S.penalized f r.sizes r.u r.c r.y r.so_far x

  unfoldable pub psi_got_projection : List Float → PsiRun → PsiLeft
  psi_got_projection v r = psi_ask_f2 (having (penalized (squares f (minus f r.t v)) r) (copied v r))

  unfoldable pub psi_got_f2 : List Float → PsiRun → PsiLeft
  psi_got_f2 v r = ends (penalized (squares f v) r) PsiPhase.over (copied v r)

  -- ---- d_psi

  -- a run with another gradient, and with something else to take a product with
  abbrev pub with_gradient : List Float → DPsiRun → DPsiRun
  with_gradient g r = having (record r.so_far { gradient = g }) r

  abbrev pub with_d : List Float → DPsiRun → DPsiRun
  with_d x r = having (record r.so_far { d = overlay x r.so_far.d }) r

  -- the product v, c times, added to the gradient
  abbrev pub added : List Float → DPsiRun → DPsiRun
  added v r = with_gradient (plus_times f r.c r.so_far.gradient v) (copied v r)

  -- the part of F1 is in: F2, or the end where there is none
  unfoldable pub d_psi_ask_f2 : DPsiRun → DPsiLeft
  d_psi_ask_f2 r = cond (eqb r.sizes.n2 0) (ends tt DPsiPhase.over r) (asks Asked.f2 DPsiPhase.f2 r)

  unfoldable pub d_psi_got_gradient : List Float → DPsiRun → DPsiLeft
  d_psi_got_gradient v r = cond (eqb r.sizes.n1 0) (d_psi_ask_f2 (with_gradient v r)) (asks Asked.f1 DPsiPhase.f1 (with_gradient v r))

  unfoldable pub d_psi_got_f1 : List Float → DPsiRun → DPsiLeft
  d_psi_got_f1 v r = asks Asked.project_c DPsiPhase.project_c (with_t (plus_over f r.c v r.y) (copied v r))

  unfoldable pub d_psi_got_projection : List Float → DPsiRun → DPsiLeft
  d_psi_got_projection v r = asks Asked.jf1t DPsiPhase.jf1t (with_d (minus f r.t v) (copied v r))

  unfoldable pub d_psi_got_jf1t : List Float → DPsiRun → DPsiLeft
  d_psi_got_jf1t v r = d_psi_ask_f2 (added v r)

  unfoldable pub d_psi_got_f2 : List Float → DPsiRun → DPsiLeft
  d_psi_got_f2 v r = asks Asked.jf2t DPsiPhase.jf2t (with_d v r)

  unfoldable pub d_psi_got_jf2t : List Float → DPsiRun → DPsiLeft
  d_psi_got_jf2t v r = ends tt DPsiPhase.over (added v r)

  -- ---- the move of an answer of the kind asked; one of another kind is refused
  unfoldable pub psi_move : PsiPhase → Reply → List Float → PsiRun → PsiLeft
  psi_move p (Reply.failure c) v r = fails c PsiPhase.over r
  psi_move PsiPhase.cost (Reply.number x) v r = psi_got_cost x r
  psi_move PsiPhase.f1 Reply.vector v r = psi_got_f1 v r
  psi_move PsiPhase.project_c Reply.vector v r = psi_got_projection v r
  psi_move PsiPhase.f2 Reply.vector v r = psi_got_f2 v r
  psi_move p a v r = refuses 7 r

  unfoldable pub d_psi_move : DPsiPhase → Reply → List Float → DPsiRun → DPsiLeft
  d_psi_move p (Reply.failure c) v r = fails c DPsiPhase.over r
  d_psi_move DPsiPhase.gradient Reply.vector v r = d_psi_got_gradient v r
  d_psi_move DPsiPhase.f1 Reply.vector v r = d_psi_got_f1 v r
  d_psi_move DPsiPhase.project_c Reply.vector v r = d_psi_got_projection v r
  d_psi_move DPsiPhase.jf1t Reply.vector v r = d_psi_got_jf1t v r
  d_psi_move DPsiPhase.f2 Reply.vector v r = d_psi_got_f2 v r
  d_psi_move DPsiPhase.jf2t Reply.vector v r = d_psi_got_jf2t v r
  d_psi_move p a v r = refuses 7 r

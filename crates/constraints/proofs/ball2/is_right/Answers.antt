-- `ball2::is_right` meets its contract: each turn tests a place of the centre. Assumes nothing.
use Rattle.std.proofs.Common.{arith, sym, ◌∙◌, inl, inr}
use Rattle.std.specs.Float.{binary64}
use Rattle.constraints.proofs.Turns.{ball_begun, radius_fails, finite_fails, finite_turn, finite_over}
use Rattle.constraints.proofs.ball2.is_right.Goals as goal
use Rattle.constraints.proofs.ball2.is_right.Goals.{then-not-is_finite-via-then-not-is_finite, then-not-is_finite-via-else-not-is_finite+then-radius}

pub returns-then-not-is_finite : goal.returns-then-not-is_finite
returns-then-not-is_finite c =
    radius_fails binary64 _ _
    (elim c.then-not-is_finite.branch [
      | then-not-is_finite-via-then-not-is_finite w ↦ inl (sym w.if-not-is_finite.true ∙ c.is_finite.ensures)
      | then-not-is_finite-via-else-not-is_finite+then-radius w ↦ inr w.if-radius.true
    ])

pub loop-c-init : goal.loop-c-init
loop-c-init c = ball_begun binary64 _ _ (sym c.if-not-is_finite.false ∙ c.is_finite.ensures) c.if-radius.false

pub returns-then-not-is_finite-2 : goal.returns-then-not-is_finite-2
returns-then-not-is_finite-2 c = finite_fails c.args.centre.now c.loop-c.c-index _ c.loop-c.invariant (sym c.if-not-is_finite-2.true ∙ c.is_finite-in-loop-c.ensures) (omega arith)

pub loop-c-preserved : goal.loop-c-preserved
loop-c-preserved c = finite_turn c.args.centre.now c.loop-c.c-index _ c.loop-c.invariant (sym c.if-not-is_finite-2.false ∙ c.is_finite-in-loop-c.ensures) (omega arith)

pub returns : goal.returns
returns c = finite_over c.args.centre.now _ _ c.loop-c.invariant (omega arith)

use Rattle.std.proofs.Common.{ap, ◌∙◌, sym, Bool}
use Rattle.machine.specs.Numbers.{question_number}
use Rattle.panoc_engine.specs.Values.{asked_at}
use Rattle.panoc_fields.specs.Fields.{solve_at}
use Rattle.panoc_fields.proofs.StandLaws.{stands_unsound, stands_over, stands_at}
use Rattle.panoc_fields.proofs.calls.standing.Goals as goal

pub returns-then-not-in_range : goal.returns-then-not-in_range
returns-then-not-in_range c = λ b. stands_unsound (solve_at c.args.run.now) _ c.in_range.ensures b c.if-not-in_range.true

pub returns-in-Over : goal.returns-in-Over
returns-in-Over c = λ b. stands_over (solve_at c.args.run.now) _ c.in_range.ensures b c.if-not-in_range.false (sym c.in-Over.is ∙ c.phase_at-phase.ensures)

pub returns : goal.returns
returns c =
    λ b. stands_at (solve_at c.args.run.now) _ c.in_range.ensures b c.if-not-in_range.false _ c.phase_at-phase.ensures c.in_default.not-Over _
    (c.question_number.ensures ∙ ap question_number (c.question_at.ensures ∙ ap (λ (f : Bool). asked_at c.phase_at-phase.result f) c.flag_at.ensures))

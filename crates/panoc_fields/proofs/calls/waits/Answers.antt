use Rattle.std.proofs.Common.{sym, ap, ◌∙◌}
use Rattle.machine.specs.InnerAnswer.{wanted_at}
use Rattle.panoc_engine.specs.declared.panoc_cache.Phase.{Phase}
use Rattle.panoc_engine.specs.Values.{phase_of}
use Rattle.panoc_engine.proofs.Answered.{wanted_some, wanted_none}
use Rattle.panoc_fields.specs.Fields.{solve_at}
use Rattle.panoc_fields.proofs.calls.waits.Goals as goal

pub returns-then-in_range : goal.returns-then-in_range
returns-then-in_range c =
    λ l. wanted_some (solve_at c.args.run.now) l _ (sym (c.in_range.ensures l) ∙ c.if-in_range.true)
    (c.wants_at.ensures ∙ ap (λ (p : Phase). wanted_at c.args.run.now.n (phase_of p)) c.phase_at.ensures)

pub returns-else-in_range : goal.returns-else-in_range
returns-else-in_range c = λ l. wanted_none (solve_at c.args.run.now) l (sym (c.in_range.ensures l) ∙ c.if-in_range.false)

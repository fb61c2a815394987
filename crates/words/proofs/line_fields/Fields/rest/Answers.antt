-- `line_fields::Fields::rest` meets its contract: the floats read, with those still to come, are those of the line. Assumes nothing.
use Rattle.std.proofs.Common.{sym, ◌∙◌, arith}
use Rattle.words.proofs.FloatLaws.{rest_full, rest_other, on_err}
use Rattle.words.proofs.line_fields.Fields.rest.Goals as goal

pub returns-in_err-read_float : goal.returns-in_err-read_float
returns-in_err-read_float g c = rw c.from_residual.ensures (sym (rest_other g.row.N c.loop-word.rest.items _ _ _ c.in-Some.ensures.steps (sym c.in_err-read_float.ensures)) ∙ c.loop-word.invariant.2)

pub returns-in_err-ok : goal.returns-in_err-ok
returns-in_err-ok g c =
    let full = on_err c.try_push.result _ c.in_err-ok.ensures.value c.try_push.ensures.full in
    rw c.from_residual-in_err-ok.ensures (sym (rest_full g.row.N c.loop-word.rest.items _ _ _ c.in-Some.ensures.steps _ (sym c.in_ok-read_float.ensures) (omega arith)) ∙ c.loop-word.invariant.2)

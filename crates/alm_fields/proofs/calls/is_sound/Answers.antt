use Rattle.std.proofs.Common.{sym, ap, ◌∙◌}
use Rattle.machine.specs.LoopRest.{is_last}
use Rattle.alm_engine.specs.declared.alm_cache.AlmPhase.{AlmPhase}
use Rattle.alm_engine.specs.Values.{loop_phase_of}
use Rattle.alm_optimizer.proofs.Waits.{sound_unsized, sound_last, sound_counted}
use Rattle.alm_fields.specs.Fields.{alm_at}
use Rattle.alm_fields.proofs.calls.is_sound.Goals as goal

pub returns-then-is_last : goal.returns-then-is_last
returns-then-is_last c =
    λ l. c.if-is_last.true
    ∙ sound_last (alm_at c.args.inner.now c.args.alm.now) l _ (c.is_sized.ensures l) c.if-is_sized.true (sym (c.is_last.ensures ∙ ap (λ (p : AlmPhase). is_last (loop_phase_of p)) c.phase_at.ensures) ∙ c.if-is_last.true)

pub returns-else-is_last : goal.returns-else-is_last
returns-else-is_last c =
    λ l. sound_counted (alm_at c.args.inner.now c.args.alm.now) l _ _ (c.is_sized.ensures l) c.if-is_sized.true (sym (c.is_last.ensures ∙ ap (λ (p : AlmPhase). is_last (loop_phase_of p)) c.phase_at.ensures) ∙ c.if-is_last.false)
    (c.is_counted.ensures l)

pub returns-else-is_sized : goal.returns-else-is_sized
returns-else-is_sized c = λ l. c.if-is_sized.false ∙ sound_unsized (alm_at c.args.inner.now c.args.alm.now) l _ (c.is_sized.ensures l) c.if-is_sized.false

use Rattle.std.proofs.Common.{sym, ap, ◌∙◌}
use Rattle.machine.specs.LoopAnswer.{own_at}
use Rattle.alm_engine.specs.declared.alm_cache.AlmPhase.{AlmPhase}
use Rattle.alm_engine.specs.declared.alm_cache.AlmSettings.{AlmSettings}
use Rattle.alm_engine.specs.Values.{loop_phase_of, loop_settings_of}
use Rattle.alm_optimizer.proofs.Waits.{wanted_none, wanted_inner, wanted_own}
use Rattle.alm_fields.specs.Fields.{settings_at, alm_at}
use Rattle.alm_fields.proofs.calls.waits.Goals as goal

pub returns-then-not-is_sound : goal.returns-then-not-is_sound
returns-then-not-is_sound c = λ l. wanted_none (alm_at c.args.inner.now c.args.alm.now) l _ (c.is_sound.ensures l) c.if-not-is_sound.true

pub returns-in-Inner : goal.returns-in-Inner
returns-in-Inner c = λ l. wanted_inner (alm_at c.args.inner.now c.args.alm.now) l _ _ (c.is_sound.ensures l) c.if-not-is_sound.false (sym c.in-Inner.ensures) (c.waits.ensures l)

pub returns : goal.returns
returns c =
    λ l. wanted_own (alm_at c.args.inner.now c.args.alm.now) l _ _ (c.is_sound.ensures l) c.if-not-is_sound.false (λ e. c.in_default.not-Inner (c.phase_at-phase.ensures ∙ e))
    (c.wants_own.ensures
    ∙ ap (λ (x : AlmSettings). own_at (loop_settings_of x) (loop_phase_of c.phase_at-phase.result)) c.settings_of.ensures
    ∙ ap (λ (p : AlmPhase). own_at (loop_settings_of (settings_at c.args.alm.now)) (loop_phase_of p)) c.phase_at-phase.ensures)

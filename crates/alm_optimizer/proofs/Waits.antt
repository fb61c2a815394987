-- What a run of the loop waits for. Assumes nothing.
use Rattle.std.proofs.Common.{◌≡◌, refl, ap, sym, ◌∙◌, ℕ, Bool, true, false, ◌&&◌, ◌||◌, List, Float}
use Rattle.std.proofs.Math.Option.{Option, none}
use Rattle.model.specs.Process.{Kind}
use Rattle.model.specs.Refusals.{Reply, answer_refusal}
use Rattle.machine.specs.InnerRest as InnerRest
use Rattle.machine.specs.InnerAnswer as Inner
use Rattle.machine.specs.LoopRun.{Phase}
use Rattle.machine.specs.LoopRest.{sized, counts, is_last, sound}
use Rattle.machine.specs.LoopCalls.{lent_right}
use Rattle.machine.specs.LoopAnswer.{own_at, wanted_at, wanted_by, refused_by}
use Rattle.panoc_engine.specs.Runs.{run_of}
use Rattle.alm_engine.specs.declared.alm_cache.Alm.{Alm}
use Rattle.alm_engine.specs.declared.alm_cache.AlmPhase.{AlmPhase}
use Rattle.alm_engine.specs.declared.alm_cache.AlmPhase.TheVariants as P
use Rattle.alm_engine.specs.Values.{loop_settings_of, loop_phase_of}
use Rattle.alm_engine.specs.LoopRuns.{loop_run}

module _ (s : Alm) (l : List Float) where
  -- ---- whether a start made the run
  sound_parts : sound (loop_run s l) ≡ (sized (loop_run s l) && (is_last (loop_phase_of s.phase) || counts (loop_run s l)))
  unfolding loop_run sound
  sound_parts = refl

  pub sound_unsized : (c : Bool) → c ≡ sized (loop_run s l) → c ≡ false → false ≡ sound (loop_run s l)
  sound_unsized c e q = let x : sized (loop_run s l) ≡ false = sym e ∙ q in rw (sound_parts, x) refl

  pub sound_last : (c : Bool) → c ≡ sized (loop_run s l) → c ≡ true → is_last (loop_phase_of s.phase) ≡ true → true ≡ sound (loop_run s l)
  sound_last c e q h = let x : sized (loop_run s l) ≡ true = sym e ∙ q in rw (sound_parts, x, h) refl

  pub sound_counted : (c d : Bool) → c ≡ sized (loop_run s l) → c ≡ true → is_last (loop_phase_of s.phase) ≡ false → d ≡ counts (loop_run s l) → d ≡ sound (loop_run s l)
  sound_counted c d e q h w = let x : sized (loop_run s l) ≡ true = sym e ∙ q in rw (sound_parts, x, h) w

  -- ---- what it waits for
  pub wanted_none : (c : Bool) → c ≡ sound (loop_run s l) → c ≡ false → none ≡ wanted_by (loop_run s l)
  unfolding wanted_by
  wanted_none c e q = let x : sound (loop_run s l) ≡ false = sym e ∙ q in rw x refl

  wanted_here : (c : Bool) → c ≡ sound (loop_run s l) → c ≡ true → wanted_by (loop_run s l) ≡ wanted_at (loop_run s l) (loop_phase_of s.phase)
  unfolding loop_run wanted_by
  wanted_here c e q = let x : sound (loop_run s l) ≡ true = sym e ∙ q in rw x refl

  inner_wanted : (m : List Float) → Inner.wanted_by (run_of s.solve m) ≡ wanted_at (loop_run s l) Phase.inner
  unfolding loop_run run_of Inner.wanted_by InnerRest.sound
  inner_wanted m = refl

  pub wanted_inner : (c : Bool) (w : Option Kind) → c ≡ sound (loop_run s l) → c ≡ true → s.phase ≡ P.Inner → w ≡ Inner.wanted_by (run_of s.solve l) → w ≡ wanted_by (loop_run s l)
  wanted_inner c w e q h v = v ∙ inner_wanted l ∙ ap (λ (p : AlmPhase). wanted_at (loop_run s l) (loop_phase_of p)) (sym h) ∙ sym (wanted_here c e q)

  own : (p : AlmPhase) → (p ≡ P.Inner → ⊥) → own_at (loop_settings_of s.set) (loop_phase_of p) ≡ wanted_at (loop_run s l) (loop_phase_of p)
  unfolding loop_run
  own P.Over h = refl
  own P.Time h = refl
  own P.ProjectY h = refl
  own P.Inner h = absurd (h refl)
  own P.F1 h = refl
  own P.ProjectC h = refl
  own P.F2 h = refl
  own P.LastCost h = refl

  pub wanted_own : (c : Bool) (w : Option Kind) → c ≡ sound (loop_run s l) → c ≡ true → (s.phase ≡ P.Inner → ⊥) → w ≡ own_at (loop_settings_of s.set) (loop_phase_of s.phase)
      → w ≡ wanted_by (loop_run s l)
  wanted_own c w e q h v = v ∙ own s.phase h ∙ sym (wanted_here c e q)

  -- ---- why an answer is refused
  pub refused_is : (w : Option Kind) (t : Bool) (a : Reply) (x vs us xs : ℕ) → w ≡ wanted_by (loop_run s l) → t ≡ lent_right (loop_settings_of s.set) us xs → x ≡ answer_refusal w a vs t
      → x ≡ refused_by (loop_run s l) a vs us xs
  unfolding loop_run refused_by
  refused_is w t a x vs us xs e g h = h ∙ ap (λ (y : Option Kind). answer_refusal y a vs t) e ∙ ap (λ (y : Bool). answer_refusal (wanted_by (loop_run s l)) a vs y) g

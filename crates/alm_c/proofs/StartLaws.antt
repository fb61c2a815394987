-- What a start for C comes to. Assumes nothing.
use Rattle.std.proofs.Common.{◌≡◌, ap, sym, ◌∙◌, ℕ, ◌-◌, ◌≤◌, List, length, Float, arith}
use Rattle.std.specs.Float.{binary64}
use Rattle.model.specs.Refusals.{loop_refusal, penalty_in, multipliers_in}
use Rattle.board.specs.Board.{write, U, Y, Y_PLUS}
use Rattle.machine.specs.LoopRun as L
use Rattle.machine.specs.LoopMoves.{begins}
use Rattle.machine.specs.LoopAnswer.{start}
use Rattle.panoc_engine.specs.declared.outcome.Refusal.{Refusal}
use Rattle.panoc_engine.specs.declared.outcome.Outcome.TheVariants as O
use Rattle.panoc_engine.specs.Told.{refusal_number}
use Rattle.panoc_fields.specs.declared.fields.InnerFields.{InnerFields}
use Rattle.alm_engine.specs.declared.alm_cache.Alm.{Alm}
use Rattle.alm_engine.specs.declared.alm_cache.AlmMoved.{AlmMoved}
use Rattle.alm_engine.specs.declared.alm_cache.AlmSettings.{AlmSettings}
use Rattle.alm_engine.specs.Values.{loop_settings_of}
use Rattle.alm_engine.specs.LoopRuns.{loop_run, loop_moved, loop_ended}
use Rattle.alm_optimizer.specs.Calls.{loop_blank}
use Rattle.alm_optimizer.proofs.Starts.{start_stops, start_places, start_multipliers, start_limit, start_begins}
use Rattle.alm_c.specs.declared.start.LoopSettings.{LoopSettings}
use Rattle.alm_c.specs.Starts.{settings_in, holding}
use Rattle.alm_fields.specs.declared.fields.AlmEnd.{AlmEnd}
use Rattle.alm_fields.specs.declared.fields.AlmFields.{AlmFields}
use Rattle.alm_fields.specs.Fields.{settings_at, alm_at, Seen, exact}

-- the fields i and a hold the settings and else what `loop_blank` has; given is what is read of them
module _ (set : LoopSettings) (u xi l : List Float) (was held a : AlmFields) (i : InnerFields) (given : AlmSettings) where
  module _ (h : held ≡ holding set was) (blank_held : alm_at i a ≡ loop_blank (settings_at held)) (end_held : a.end ≡ held.end) (read : given ≡ settings_at a) where
    blank_is : alm_at i a ≡ loop_blank (settings_in set)
    blank_is = blank_held ∙ ap (λ (f : AlmFields). loop_blank (settings_at f)) h

    end_is : a.end ≡ was.end
    end_is = end_held ∙ ap (λ (f : AlmFields). f.end) h

    given_is : given ≡ settings_in set
    given_is = read ∙ ap (λ (s : Alm). s.set) blank_is

    refusal_is : loop_refusal binary64 (loop_settings_of given) u xi ≡ loop_refusal binary64 (loop_settings_of (settings_in set)) u xi
    refusal_is = ap (λ (s : AlmSettings). loop_refusal binary64 (loop_settings_of s) u xi) given_is

    -- what a call gives is seen as v
    abbrev Begun : Seen → Type 0
    Begun v = v ≡ exact (start binary64 (loop_settings_of (settings_in set)) u xi (loop_run (loop_blank (settings_in set)) l)) was.end

    pub start_refused : (v : Seen) (k : Refusal) → refusal_number k ≡ loop_refusal binary64 (loop_settings_of given) u xi → v ≡ exact (loop_ended (alm_at i a) (O.Refused k) l) a.end → Begun v
    start_refused v k e g =
        g
        ∙ ap (λ (z : AlmEnd). exact (loop_ended (alm_at i a) (O.Refused k) l) z) end_is
        ∙ ap (λ (s : Alm). exact (loop_ended s (O.Refused k) l) was.end) blank_is
        ∙ ap (λ (t : L.Left). exact t was.end) (start_stops (settings_in set) u xi l k (e ∙ refusal_is))

    -- one that nothing refuses, w being its multipliers, c its penalty, and k the outer iterations that may still begin
    module _ (n : 0 ≡ loop_refusal binary64 (loop_settings_of given) u xi) (w : List Float) (e : w ≡ multipliers_in xi) where
      pub begun_places : length u ≤ 64
      begun_places = start_places (settings_in set) u xi l (n ∙ refusal_is)

      pub begun_multipliers : length w ≤ 32
      begun_multipliers = let f = start_multipliers (settings_in set) u xi l (n ∙ refusal_is) in omega (arith, ap length e, f)

      pub begun_limit : 1 ≤ given.max_outer_iterations
      begun_limit = let f = start_limit (settings_in set) u xi l (n ∙ refusal_is) in omega (arith, ap (λ (s : AlmSettings). s.max_outer_iterations) given_is, f)

      module _ (c : Float) (k : ℕ) where
        abbrev opened : Alm → Alm
        opened s = record s { numbers = record s.numbers { penalty = c }; counts = record s.counts { left = k } }

        pub start_begun : (v : Seen) (l1 l2 l3 : List Float) (m : AlmMoved) → 768 ≤ length l → l1 ≡ write U u l → l2 ≡ write Y w l1 → l3 ≡ write Y_PLUS w l2 → c ≡ penalty_in xi
            → k ≡ given.max_outer_iterations - 1 → (s : Alm) → s ≡ opened (alm_at i a) → ((l : List Float) → loop_moved s m l ≡ begins (loop_run s l))
            → v ≡ exact (loop_moved (opened (alm_at i a)) m l3) a.end → Begun v
        start_begun v l1 l2 l3 m p d1 d2 d3 f g s z b q =
            q
            ∙ ap (λ (z : AlmEnd). exact (loop_moved (opened (alm_at i a)) m l3) z) end_is
            ∙ ap (λ (t : L.Left). exact t was.end)
            (ap (λ (y : Alm). loop_moved y m l3) (sym z)
            ∙ b l3
            ∙ ap (λ (y : Alm). begins (loop_run y l3)) z
            ∙ ap (λ (s : Alm). begins (loop_run (opened s) l3)) blank_is
            ∙ start_begins (settings_in set) u xi l (n ∙ refusal_is) l1 l2 l3 w c k p d1 d2 d3 e f (g ∙ ap (λ (s : AlmSettings). s.max_outer_iterations - 1) given_is))

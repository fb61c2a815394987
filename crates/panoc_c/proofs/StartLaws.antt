-- What a start for C comes to. Assumes nothing.
use Rattle.std.proofs.Common.{◌≡◌, refl, ap, ◌∙◌, ℕ, ◌≤◌, Bool, List, length, Float}
use Rattle.std.specs.Prelude as Std
use Rattle.machine.specs.Numbers.{flag_of}
use Rattle.model.specs.Refusals.{inner_refusal}
use Rattle.board.specs.Board.{write, U}
use Rattle.machine.specs.InnerRun as M
use Rattle.machine.specs.InnerAnswer.{start}
use Rattle.panoc_engine.specs.declared.panoc_cache.Settings.{Settings}
use Rattle.panoc_engine.specs.declared.panoc_cache.Solve.{Solve}
use Rattle.panoc_engine.specs.declared.panoc_cache.Phase.TheVariants as P
use Rattle.panoc_engine.specs.declared.panoc_cache.Moved.TheVariants.{To}
use Rattle.panoc_engine.specs.declared.outcome.Refusal.{Refusal}
use Rattle.panoc_engine.specs.declared.outcome.Outcome.TheVariants as O
use Rattle.panoc_engine.specs.Told.{refusal_number}
use Rattle.panoc_engine.specs.Values.{settings_of}
use Rattle.panoc_engine.specs.Runs.{run_of, leaves, moved, ended}
use Rattle.panoc_engine.specs.Blank.{blank}
use Rattle.panoc_optimizer.proofs.Calls.{start_stops, start_begins}
use Rattle.panoc_fields.specs.declared.fields.InnerEnd.{InnerEnd}
use Rattle.panoc_fields.specs.declared.fields.InnerFields.{InnerFields}
use Rattle.panoc_fields.specs.Fields.{akkt_at, solve_at, seen, exact}
use Rattle.panoc_c.specs.Starts.{settings_at}

-- the settings as the code takes them
pub settings_same : (n m l h : ℕ) (t a : Float) (b : Bool) (o : Std.Option Float) → b ≡ flag_of l → o ≡ akkt_at h a
    → (let s : Settings = record { n = n; max_iter = m; limited = b; tolerance = t; akkt_tolerance = o } in s) ≡ settings_at n m l t h a
settings_same n m l h t a b o e g = rw (e, g) refl

-- f holds the settings and else what `blank` has; is is what the last step left of it
module _ (set : Settings) (u l : List Float) (f is : InnerFields) (b : solve_at f ≡ blank set) (n : ℕ) (x : InnerEnd) (y : f.end ≡ x) (set' : Settings) (w : set' ≡ set) where
  pub start_refused : (k : Refusal) → refusal_number k ≡ inner_refusal (settings_of set') u → seen n is l ≡ exact (ended (solve_at f) (O.Refused k) l) f.end
      → seen n is l ≡ exact (start (settings_of set) u (run_of (blank set) l)) x
  start_refused k e g =
      g
      ∙ ap (λ (z : InnerEnd). exact (ended (solve_at f) (O.Refused k) l) z) y
      ∙ ap (λ (s : Solve). exact (ended s (O.Refused k) l) x) b
      ∙ ap (λ (t : M.Left). exact t x) (start_stops set u k l l refl (e ∙ ap (λ (s : Settings). inner_refusal (settings_of s) u) w))

  pub start_begun : (l' : List Float) → l' ≡ write U u l → 576 ≤ length l → 0 ≡ inner_refusal (settings_of set') u → seen n is l' ≡ exact (moved (solve_at f) (To P.Cost) l') f.end
      → seen n is l' ≡ exact (start (settings_of set) u (run_of (blank set) l)) x
  unfolding run_of leaves
  start_begun l' d p e g =
      g
      ∙ ap (λ (z : InnerEnd). exact (moved (solve_at f) (To P.Cost) l') z) y
      ∙ ap (λ (s : Solve). exact (moved s (To P.Cost) l') x) b
      ∙ ap (λ (t : M.Left). exact t x) (start_begins set u l l l' d refl p (e ∙ ap (λ (s : Settings). inner_refusal (settings_of s) u) w))

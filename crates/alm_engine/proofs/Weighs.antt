-- What the weighing of an outer iteration leaves, from what its parts leave. Assumes nothing.
use Rattle.std.proofs.Common.{◌≡◌, refl, ap, ◌∙◌, ℕ, ◌+◌, ◌≤◌, true, false, ne_eqb, List, length, Float, arith}
use Rattle.std.specs.Float.{binary64}
use Rattle.std.specs.Float.Ieee.{of_bits}
use Rattle.ieee.proofs.Special.{zero_bits}
use Rattle.model.specs.Loop as L
use Rattle.board.specs.Firsts.{firsts}
use Rattle.board.specs.Board.{vector, write, U, BEST, Y, Y_PLUS}
use Rattle.board.proofs.Writes.{length_vector}
use Rattle.machine.specs.LoopRun.{Run, found_all}
use Rattle.machine.specs.LoopMoves as Move
use Rattle.panoc_engine.specs.Values.{status_of}
use Rattle.alm_engine.specs.declared.alm_cache.Alm.{Alm}
use Rattle.alm_engine.specs.declared.alm_cache.AlmMoved.TheVariants.{To}
use Rattle.alm_engine.specs.declared.alm_cache.AlmPhase.TheVariants as P
use Rattle.alm_engine.specs.Values.{loop_settings_of}
use Rattle.alm_engine.specs.LoopRuns.{loop_run, Stands, loop_leaves, done, renewed, weighed}
use Rattle.alm_engine.specs.LoopBoard.{loop_board_of}
use Rattle.alm_engine.proofs.LoopHeld.{stands, longer, in_y_plus, size_of_y_plus, wrote_y, plan_left}

-- ---- an iteration that is done
pub counted_is : (s : Alm) (l l' : List Float) (c t : Float) → Stands s l → l' ≡ write U (vector BEST s.set.n l) l
    → loop_run
    (record s {
      numbers = record s.numbers { penalty = c; akkt_tolerance = t; delta_y_norm = s.numbers.delta_y_norm_plus; f2_norm = s.numbers.f2_norm_plus };
      counts = record s.counts { outer = record { 0 = s.counts.outer.0 + 1 }; inner = record { 0 = s.counts.inner.0 + s.counts.found.0 } };
    }) l'
    ≡ done c t (loop_run s l)
unfolding loop_run done
counted_is s l l' c t h e =
    let d = plan_left (stands s l h) e in
    rw d.is refl

-- ---- the weighing
weighs_out : (r : Run) → L.exits binary64 r.set (found_all r) ≡ true → Move.conclude r.status (Move.counted r.c r.akkt r) ≡ Move.weigh binary64 r
unfolding Move.weigh
weighs_out r e = rw e refl

weighs_on : (r : Run) → L.exits binary64 r.set (found_all r) ≡ false
    → Move.iterations r.left r.status (Move.counted (L.next_penalty binary64 r.set (found_all r)) (L.next_akkt binary64 r.set r.akkt) (record r { y = r.y_plus })) ≡ Move.weigh binary64 r
unfolding Move.weigh
weighs_on r e = rw e refl

module _ (s : Alm) (l : List Float) where
  pub weigh_ends : (t : Alm) (l' : List Float) → L.exits binary64 (loop_settings_of s.set) (found_all (loop_run s l)) ≡ true
      → loop_run t l' ≡ done s.numbers.penalty s.numbers.akkt_tolerance (loop_run s l) → Move.conclude (status_of s.counts.status) (loop_run t l') ≡ Move.weigh binary64 (loop_run s l)
  unfolding loop_run done
  weigh_ends t l' e d = ap (Move.conclude (status_of s.counts.status)) d ∙ weighs_out (loop_run s l) e

  pub stands_y : Stands s l → (j : ℕ) (l' : List Float) → l' ≡ write Y (vector j s.set.n1 l) l → 768 ≤ length l'
  stands_y h j l' e =
      let z = length_vector j s.set.n1 l in
      let m = h.size_y in
      longer Y (vector j s.set.n1 l) l l' (omega arith) h.places e

  pub renewed_is : Stands s l → (l' : List Float) (p a : Float) → p ≡ L.next_penalty binary64 (loop_settings_of s.set) (found_all (loop_run s l))
      → a ≡ L.next_akkt binary64 (loop_settings_of s.set) s.numbers.akkt_tolerance → l' ≡ write Y (vector Y_PLUS s.set.n1 l) l → done p a (loop_run s l') ≡ renewed (loop_run s l)
  unfolding loop_run renewed
  renewed_is h l' p a pv av y =
      let b = stands s l h in
      let y' = rw (in_y_plus b) at y in
      let g = wrote_y b _ (size_of_y_plus b) y' in
      rw (g.is, pv, av) refl

  pub weigh_goes : (t : Alm) (l' : List Float) → L.exits binary64 (loop_settings_of s.set) (found_all (loop_run s l)) ≡ false → loop_run t l' ≡ renewed (loop_run s l)
      → Move.iterations t.counts.left (status_of t.counts.status) (loop_run t l') ≡ Move.weigh binary64 (loop_run s l)
  unfolding loop_run done renewed
  weigh_goes t l' e d = ap (λ (r : Run). Move.iterations r.left r.status r) d ∙ weighs_on (loop_run s l) e

  -- ---- F2 and F1, where they are
  pub f2_none : s.set.n2 ≡ 0 → Move.weigh binary64 (loop_run (record s { numbers = record s.numbers { f2_norm_plus = of_bits binary64 0 } }) l) ≡ Move.ask_f2 binary64 (loop_run s l)
  unfolding loop_run Move.ask_f2
  f2_none e = rw (e, zero_bits) refl

  pub f2_asks : (s.set.n2 ≡ 0 → ⊥) → weighed s (record { moved = To P.F2; numbers = s.numbers; counts = s.counts }) l ≡ Move.ask_f2 binary64 (loop_run s l)
  unfolding loop_run loop_leaves Move.ask_f2
  f2_asks e = let q = ne_eqb s.set.n2 0 e in rw q refl

  pub f1_none : s.set.n1 ≡ 0 → Move.ask_f2 binary64 (loop_run (record s { numbers = record s.numbers { delta_y_norm_plus = of_bits binary64 0 } }) l) ≡ Move.ask_f1 binary64 (loop_run s l)
  unfolding loop_run loop_board_of vector firsts Move.ask_f1
  f1_none e = rw (e, zero_bits) refl

  pub f1_asks : (s.set.n1 ≡ 0 → ⊥) → weighed s (record { moved = To P.F1; numbers = s.numbers; counts = s.counts }) l ≡ Move.ask_f1 binary64 (loop_run s l)
  unfolding loop_run loop_leaves Move.ask_f1
  f1_asks e = let q = ne_eqb s.set.n1 0 e in rw q refl

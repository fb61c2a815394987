-- The tests of an outer iteration and the numbers of the next one, as the code writes them. Assumes nothing.
use Rattle.std.proofs.Common.{◌≡◌, refl, sym, ap, ◌∙◌, Bool, true, false, cond, not, ◌&&◌, ◌||◌, eqb, eq-eqb, ne_eqb, List, Float}
use Rattle.std.specs.Float.{binary64}
use Rattle.std.specs.Float.Ieee.{add, mul, le, of_bits}
use Rattle.ieee.specs.Numbers.{larger}
use Rattle.model.specs.Constants.{epsilon}
use Rattle.model.specs.Loop as L
use Rattle.model.proofs.Literals.{epsilon_bits}
use Rattle.machine.specs.LoopRun.{found_all}
use Rattle.alm_engine.specs.declared.alm_cache.Alm.{Alm}
use Rattle.alm_engine.specs.Values.{loop_settings_of}
use Rattle.alm_engine.specs.LoopRuns.{loop_run}
use Rattle.alm_engine.specs.Tests.{settled_y, settled_f2}

-- f64::EPSILON
abbrev tiny : Float
tiny = of_bits binary64 4372995238176751616

module _ (s : Alm) where
  -- ---- the exit test
  pub settled_y_none : s.set.n1 ≡ 0 → true ≡ settled_y s
  unfolding settled_y
  settled_y_none e = rw e refl

  pub settled_y_first : (s.set.n1 ≡ 0 → ⊥) → s.counts.outer.0 ≡ 0 → false ≡ settled_y s
  unfolding settled_y
  settled_y_first h e = let q = ne_eqb s.set.n1 0 h in rw (q, e) refl

  pub settled_y_is : (s.set.n1 ≡ 0 → ⊥) → (s.counts.outer.0 ≡ 0 → ⊥)
      → le s.numbers.delta_y_norm_plus (add binary64 (mul binary64 s.numbers.penalty s.set.delta_tolerance) tiny) ≡ settled_y s
  unfolding settled_y
  settled_y_is h g =
      let q = ne_eqb s.set.n1 0 h in
      let p = ne_eqb s.counts.outer.0 0 g in
      rw (q, p, epsilon_bits) refl

  pub settled_f2_none : s.set.n2 ≡ 0 → true ≡ settled_f2 s
  unfolding settled_f2
  settled_f2_none e = rw e refl

  pub settled_f2_is : (s.set.n2 ≡ 0 → ⊥) → le s.numbers.f2_norm_plus (add binary64 s.set.delta_tolerance tiny) ≡ settled_f2 s
  unfolding settled_f2
  settled_f2_is h = let q = ne_eqb s.set.n2 0 h in rw (q, epsilon_bits) refl

  pub decreased_is : (x y : Float) → le x (add binary64 (mul binary64 s.set.sufficient_decrease_coeff y) tiny) ≡ L.decreased binary64 (loop_settings_of s.set) x y
  unfolding L.decreased
  decreased_is x y = rw epsilon_bits refl

  pub akkt_is : (m : Float) → m ≡ larger s.set.epsilon_tolerance (mul binary64 s.set.epsilon_update_factor s.numbers.akkt_tolerance) → m ≡ L.next_akkt binary64 (loop_settings_of s.set) s.numbers.akkt_tolerance
  unfolding L.next_akkt
  akkt_is m e = e

module _ (s : Alm) (l : List Float) where
  exits_at : L.exits binary64 (loop_settings_of s.set) (found_all (loop_run s l))
      ≡ (settled_y s && (settled_f2 s && le s.numbers.akkt_tolerance (add binary64 s.set.epsilon_tolerance (epsilon binary64))))
  unfolding loop_run L.exits settled_y settled_f2
  exits_at = refl

  pub exits_is : (c d : Bool) → c ≡ settled_y s → c ≡ true → d ≡ settled_f2 s → d ≡ true
      → le s.numbers.akkt_tolerance (add binary64 s.set.epsilon_tolerance tiny) ≡ L.exits binary64 (loop_settings_of s.set) (found_all (loop_run s l))
  exits_is c d e q g p =
      let x : settled_y s ≡ true = sym e ∙ q in
      let y : settled_f2 s ≡ true = sym g ∙ p in
      rw (exits_at, x, y, epsilon_bits) refl

  pub exits_not_f2 : (c d : Bool) → c ≡ settled_y s → c ≡ true → d ≡ settled_f2 s → d ≡ false → false ≡ L.exits binary64 (loop_settings_of s.set) (found_all (loop_run s l))
  exits_not_f2 c d e q g p =
      let x : settled_y s ≡ true = sym e ∙ q in
      let y : settled_f2 s ≡ false = sym g ∙ p in
      rw (exits_at, x, y) refl

  pub exits_not_y : (c : Bool) → c ≡ settled_y s → c ≡ false → false ≡ L.exits binary64 (loop_settings_of s.set) (found_all (loop_run s l))
  exits_not_y c e q = let x : settled_y s ≡ false = sym e ∙ q in rw (exits_at, x) refl

  -- ---- whether the penalty stays
  abbrev d_y : Bool
  d_y = L.decreased binary64 (loop_settings_of s.set) s.numbers.delta_y_norm_plus s.numbers.delta_y_norm

  abbrev d_f : Bool
  d_f = L.decreased binary64 (loop_settings_of s.set) s.numbers.f2_norm_plus s.numbers.f2_norm

  abbrev stalls : Bool
  stalls = L.stalls binary64 (loop_settings_of s.set) (found_all (loop_run s l))

  stalls_at : (i j : Bool) → eqb s.set.n1 0 ≡ i → eqb s.set.n2 0 ≡ j → stalls ≡ (not (i && j) && ((i || d_y) && (j || d_f)))
  unfolding loop_run L.stalls
  stalls_at i j p q = rw (p, q) refl

  pub stalls_none : s.set.n1 ≡ 0 → s.set.n2 ≡ 0 → false ≡ stalls
  stalls_none p q = sym (stalls_at true true (eq-eqb _ _ p) (eq-eqb _ _ q))

  pub stalls_f2 : (d : Bool) → s.set.n1 ≡ 0 → (s.set.n2 ≡ 0 → ⊥) → d ≡ d_f → d ≡ stalls
  stalls_f2 d p q e = e ∙ sym (stalls_at true false (eq-eqb _ _ p) (ne_eqb _ _ q))

  pub stalls_y : (d : Bool) → (s.set.n1 ≡ 0 → ⊥) → d ≡ d_y → d ≡ true → s.set.n2 ≡ 0 → true ≡ stalls
  stalls_y d p e t q = sym (stalls_at false true (ne_eqb _ _ p) (eq-eqb _ _ q) ∙ ap (λ (c : Bool). c && true) (sym e ∙ t))

  pub stalls_both : (d c : Bool) → (s.set.n1 ≡ 0 → ⊥) → d ≡ d_y → d ≡ true → (s.set.n2 ≡ 0 → ⊥) → c ≡ d_f → c ≡ stalls
  stalls_both d c p e t q g = g ∙ sym (stalls_at false false (ne_eqb _ _ p) (ne_eqb _ _ q) ∙ ap (λ (x : Bool). x && d_f) (sym e ∙ t))

  pub stalls_not : (d : Bool) → (s.set.n1 ≡ 0 → ⊥) → d ≡ d_y → d ≡ false → false ≡ stalls
  stalls_not d p e t = by (eqb s.set.n2 0) refl
    where
      by : (j : Bool) → eqb s.set.n2 0 ≡ j → false ≡ stalls
      by true q = sym (stalls_at false true (ne_eqb _ _ p) q ∙ ap (λ (x : Bool). x && true) (sym e ∙ t))
      by false q = sym (stalls_at false false (ne_eqb _ _ p) q ∙ ap (λ (x : Bool). x && d_f) (sym e ∙ t))

  -- ---- the next penalty
  abbrev next : Float
  next = L.next_penalty binary64 (loop_settings_of s.set) (found_all (loop_run s l))

  next_at : next ≡ cond (eqb s.counts.outer.0 0 || stalls) s.numbers.penalty (mul binary64 s.numbers.penalty s.set.penalty_update_factor)
  unfolding loop_run L.next_penalty
  next_at = refl

  pub penalty_first : s.counts.outer.0 ≡ 0 → s.numbers.penalty ≡ next
  penalty_first e = let q = eq-eqb _ _ e in rw (next_at, q) refl

  pub penalty_stays : (d : Bool) → (s.counts.outer.0 ≡ 0 → ⊥) → d ≡ stalls → d ≡ true → s.numbers.penalty ≡ next
  penalty_stays d h e t =
      let q = ne_eqb s.counts.outer.0 0 h in
      let x : stalls ≡ true = sym e ∙ t in
      rw (next_at, q, x) refl

  pub penalty_grows : (d : Bool) → (s.counts.outer.0 ≡ 0 → ⊥) → d ≡ stalls → d ≡ false → mul binary64 s.numbers.penalty s.set.penalty_update_factor ≡ next
  penalty_grows d h e t =
      let q = ne_eqb s.counts.outer.0 0 h in
      let x : stalls ≡ false = sym e ∙ t in
      rw (next_at, q, x) refl

-- The bench pieces that document 01 marks ◆, as rows of one statement. Assumes nothing.
use Rattle.std.specs.Prelude.{ℕ, ◌-◌, ◌*◌, ◌^◌, ◌≡◌, true, false, ◌&&◌, List, [], pos, Float, length}
use Rattle.std.specs.Float.{Format, binary64, nan, inf, fin}
use Rattle.std.specs.Float.Ieee.{round}
use Rattle.ieee.specs.Numbers.{null}
use Rattle.ieee.specs.Rows as Roots
use Rattle.model.specs.Vectors.{all_finite, shift}
use Rattle.model.specs.State.{Settings, no_best, keep}
use Rattle.model.specs.Loop.{LoopSettings}
use Rattle.model.specs.Psi.{Sizes}
use Rattle.model.specs.Process.{converged}
use Rattle.model.specs.Bounds.{AtMost, weigh, only_cost}
use Rattle.model.specs.Plans.{Ends}
use Rattle.model.specs.Refusals.{start_inner, start_loop, mappings_right, limit_right, tolerance_right, akkt_right, loop_numbers_right, xi_right, inner_refusal, loop_refusal, psi_refusal}

-- a row for each piece
pub record Bench : Type 0 where
  -- roots, by the bits of binary64: of 4, of 2, of 2^-1074, of 0x7FEFFFFFFFFFFFFF, of -0
  pub root_four : Roots.on binary64 0x4010_0000_0000_0000 ≡ 0x4000_0000_0000_0000
  pub root_two : Roots.on binary64 0x4000_0000_0000_0000 ≡ 0x3FF6_A09E_667F_3BCD
  pub root_least : Roots.on binary64 1 ≡ (1023 - 537) * 2 ^ 52
  pub root_largest : Roots.on binary64 0x7FEF_FFFF_FFFF_FFFF ≡ 0x5FEF_FFFF_FFFF_FFFF
  pub root_minus_zero : Roots.on binary64 0x8000_0000_0000_0000 ≡ 0x8000_0000_0000_0000
  -- "shift at -2 and at 0 is 1e-12"
  pub shift_below : shift binary64 (fin true 1 (pos 1)) ≡ round binary64 false 1 (10 ^ 12)
  pub shift_zero : shift binary64 null ≡ round binary64 false 1 (10 ^ 12)
  -- "norms 3, 1, 1: the second is kept"
  pub second_kept : (n : ℕ) (a b c : List Float)
      → keep (keep (keep (no_best n) a (fin false 3 (pos 0))) b (fin false 1 (pos 0))) c (fin false 1 (pos 0)) ≡ record { point = b; norm = fin false 1 (pos 0) }
  -- "norms NaN, infinity: zeros kept"
  pub zeros_kept : (n : ℕ) (a b : List Float) → keep (keep (no_best n) a nan) b (inf false) ≡ no_best n
  -- "M = 1: at most 86 questions, 36 of them COST", whatever is answered
  pub questions_86 : (f : Format) (s : Settings) (u : List Float) → s.limit ≡ 1 → AtMost (λ q. 1) (start_inner f s u) 86
  pub cost_36 : (f : Format) (s : Settings) (u : List Float) → s.limit ≡ 1 → AtMost (weigh only_cost) (start_inner f s u) 36
  -- "K = 1 with n1 = 1 never Converged", whatever is answered
  pub never_converged : (f : Format) (s : LoopSettings) (u xi : List Float) → s.n1 ≡ 1 → s.outer ≡ 1 → Ends (λ scores h. h.status ≡ converged → ⊥) [] (start_loop f s u xi)
  -- "n = 64 accepted, 65 and 0 refused with 1": whatever else is started with; accepted where nothing else is wrong
  pub inner_64 : (s : Settings) (u : List Float) → s.n ≡ 64 → length u ≡ 64 → all_finite u ≡ true → limit_right 10000 s.limit ≡ true
      → (tolerance_right s.tolerance && akkt_right s.akkt) ≡ true → inner_refusal s u ≡ 0
  pub inner_65 : (s : Settings) (u : List Float) → s.n ≡ 65 → inner_refusal s u ≡ 1
  pub inner_0 : (s : Settings) (u : List Float) → s.n ≡ 0 → inner_refusal s u ≡ 1
  pub loop_64 : (f : Format) (s : LoopSettings) (u xi : List Float) → s.n ≡ 64 → length u ≡ 64 → all_finite u ≡ true → mappings_right s.n1 s.n2 s.set_y (length xi) ≡ true
      → (limit_right 10000 s.limit && limit_right 1000 s.outer) ≡ true → loop_numbers_right f s ≡ true → xi_right xi ≡ true → loop_refusal f s u xi ≡ 0
  pub loop_65 : (f : Format) (s : LoopSettings) (u xi : List Float) → s.n ≡ 65 → loop_refusal f s u xi ≡ 1
  pub loop_0 : (f : Format) (s : LoopSettings) (u xi : List Float) → s.n ≡ 0 → loop_refusal f s u xi ≡ 1
  pub psi_64 : (s : Sizes) (xis : ℕ) → s.n ≡ 64 → mappings_right s.n1 s.n2 false xis ≡ true → psi_refusal s 64 xis ≡ 0
  pub psi_65 : (s : Sizes) (us xis : ℕ) → s.n ≡ 65 → psi_refusal s us xis ≡ 1
  pub psi_0 : (s : Sizes) (us xis : ℕ) → s.n ≡ 0 → psi_refusal s us xis ≡ 1

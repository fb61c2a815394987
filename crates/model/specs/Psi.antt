-- The penalty functions psi and d_psi, with their two divisors. Definitions only.
use Rattle.std.specs.Prelude.{ℕ, cond, List, eqb, Float}
use Rattle.std.specs.Float.{Format}
use Rattle.std.specs.Float.Ieee.{add, mul, div}
use Rattle.ieee.specs.Numbers.{larger}
use Rattle.ieee.specs.Sums.{squares}
use Rattle.model.specs.Constants.{one, two}
use Rattle.model.specs.Vectors.{minus, plus_times, plus_over}
use Rattle.model.specs.Process.{number, vector, handed, ask, stop, f1, project_c, f2, jf1t, jf2t, Psi, DPsi}
use Rattle.model.specs.Process as Asks

-- n, n1 and n2
pub record Sizes : Type 0 where
  pub n : ℕ
  pub n1 : ℕ
  pub n2 : ℕ

module _ (f : Format) (s : Sizes) (u : List Float) (c : Float) (y : List Float) where
  -- ---- "`psi` is f + (c/2) × |t - P|² + (c/2) × |F2|², t = F1 + y / max(c, 1), P its projection"

  -- v with (c/2) × x added
  unfoldable pub penalized : Float → Float → Float
  penalized v x = add f v (mul f (div f c (two f)) x)

  unfoldable pub psi_f2 : Float → List Float → Psi
  psi_f2 v z = stop (handed (penalized v (squares f z)))

  unfoldable pub psi_ask_f2 : Float → Psi
  psi_ask_f2 v = cond (eqb s.n2 0) (stop (handed v)) (ask (f2 u) (vector s.n2) (psi_f2 v))

  unfoldable pub psi_c : Float → List Float → List Float → Psi
  psi_c v t p = psi_ask_f2 (penalized v (squares f (minus f t p)))

  unfoldable pub psi_f1 : Float → List Float → Psi
  psi_f1 v w = ask (project_c (plus_over f (larger c (one f)) w y)) (vector s.n1) (psi_c v (plus_over f (larger c (one f)) w y))

  unfoldable pub psi_cost : Float → Psi
  psi_cost v = cond (eqb s.n1 0) (psi_ask_f2 v) (ask (f1 u) (vector s.n1) (psi_f1 v))

  unfoldable pub psi : Psi
  psi = ask (Asks.PsiQuestion.cost u) number psi_cost

  -- ---- "`d_psi` .. adds, to the gradient of f, c × each transposed Jacobian product, taken with t - P (here t = F1 + y / c) and with F2"

  unfoldable pub d_psi_jf2 : List Float → List Float → DPsi
  d_psi_jf2 g j = stop (handed (plus_times f c g j))

  unfoldable pub d_psi_f2 : List Float → List Float → DPsi
  d_psi_f2 g z = ask (jf2t u z) (vector s.n) (d_psi_jf2 g)

  unfoldable pub d_psi_ask_f2 : List Float → DPsi
  d_psi_ask_f2 g = cond (eqb s.n2 0) (stop (handed g)) (ask (f2 u) (vector s.n2) (d_psi_f2 g))

  unfoldable pub d_psi_jf1 : List Float → List Float → DPsi
  d_psi_jf1 g j = d_psi_ask_f2 (plus_times f c g j)

  unfoldable pub d_psi_c : List Float → List Float → List Float → DPsi
  d_psi_c g t p = ask (jf1t u (minus f t p)) (vector s.n) (d_psi_jf1 g)

  unfoldable pub d_psi_f1 : List Float → List Float → DPsi
  d_psi_f1 g w = ask (project_c (plus_over f c w y)) (vector s.n1) (d_psi_c g (plus_over f c w y))

  unfoldable pub d_psi_gradient : List Float → DPsi
  d_psi_gradient g = cond (eqb s.n1 0) (d_psi_ask_f2 g) (ask (f1 u) (vector s.n1) (d_psi_f1 g))

  unfoldable pub d_psi : DPsi
  d_psi = ask (Asks.PsiQuestion.gradient u) (vector s.n) d_psi_gradient

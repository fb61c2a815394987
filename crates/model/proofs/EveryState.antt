-- Single sentences of document 01 at every state and for every answer, where a run shows one case alone. Assumes nothing.
use Rattle.std.specs.Prelude.{◌≡◌, true, false, List, eqb, Float}
use Rattle.std.proofs.Math.Path.{refl}
use Rattle.std.specs.Float.{Format}
use Rattle.std.specs.Float.Ieee.Scale.{finite}
use Rattle.ieee.specs.Numbers.{null, larger}
use Rattle.ieee.specs.Sums.{norm}
use Rattle.model.specs.Constants.{one}
use Rattle.model.specs.Vectors.{shifts, shifted, plus_over}
use Rattle.model.specs.Process.{Status, Loop, number, vector, ask, inner, within, project_c}
use Rattle.model.specs.Process as Asks
use Rattle.model.specs.State.{Settings, Iterate, State, with_u}
use Rattle.model.specs.Inner.{Next, kept_gradient, half_cost, doubling, search, trial, retry, descent, onward, start_gradient, start_shifted, solve}
use Rattle.model.specs.Loop.{LoopSettings, LoopState, Found, xi_of, exits, next_penalty, counted, conclude, concluded, weighed, carried_of, inner_settings, inner_solve, solved}
use Rattle.model.specs.Psi.{Sizes, psi_f1, psi_c, d_psi_f1, d_psi_c}

-- ---- the inner solve

-- "keep the previous gradient if at least one step is done": then the gradient at hand is kept
pub kept_later : (i : Iterate) → eqb i.count 0 ≡ false → kept_gradient i ≡ i.gradient
unfolding kept_gradient
kept_later i e = rw e

-- "The engine leaves u shifted": the solve goes on from there
pub goes_on_shifted :
    (f : Format) (s : Settings) (u : List Float) (c : Float) (g : List Float) →
    start_gradient f s u c g ≡ ask (Asks.Question.gradient (shifted f u)) (vector s.n) (start_shifted f s (norm f (shifts f u)) (shifted f u) c g)
unfolding start_gradient
goes_on_shifted f s u c g = refl

module _ (f : Format) (s : Settings) (e : Status) (next : Next) (st : State) where
  -- "with fewer than 10 rounds"
  pub ten_rounds : (c : Float) → finite c ≡ true → half_cost f s e next st c ≡ doubling f s 10 e next (eqb st.at.count 0) st c
  unfolding half_cost
  ten_rounds c p = rw p

  -- "for τ = 1, 1/2, .. 1/1024, eleven at most": after the first, ten more
  pub ten_more : (d : List Float) → search f s e next st d ≡ trial f s e next (retry f s 10 e next (one f) (descent f st) d) (one f) (descent f st) d st
  unfolding search
  ten_more d = refl

  -- "The fallback after ten halvings is overwritten by the last candidate": none is left, and u becomes w
  pub last_taken : (τ v : Float) (d w : List Float) → retry f s 0 e next τ v d w st ≡ onward f s e next (with_u w st.at)
  unfolding retry
  last_taken τ v d w = refl

-- ---- the loop
module _ (f : Format) (s : LoopSettings) (r : Found) where
  -- "c is multiplied, except at the first iteration"
  pub first_keeps : r.from.outer ≡ 0 → next_penalty f s r ≡ r.from.c
  unfolding next_penalty
  first_keeps e = rw e

  -- "When it passes, the y in xi stay those of that iteration"; "At the end COST with c = 0"
  pub passed_asks :
      (next : Status → LoopState → Loop) →
      exits f s r ≡ true →
      weighed f s next r ≡ ask (Asks.LoopQuestion.cost r.plan (xi_of s null r.from.y)) number (concluded f s r.status (counted f s r r.from.c r.from.y r.from.akkt))
  unfolding weighed conclude counted
  passed_asks next e = rw e

-- each outer iteration has an inner solve of its own, from its u, c, y and tolerance
pub solves_each :
    (f : Format) (s : LoopSettings) (next : Status → LoopState → Loop) (st : LoopState) →
    inner_solve f s next st ≡ within (inner (xi_of s st.c st.y)) (solved f s next (carried_of st)) (solve f (inner_settings s st) st.u)
unfolding inner_solve
solves_each f s next st = refl

-- ---- psi and d_psi

-- "t = F1 + y / max(c, 1)"
pub psi_over_larger :
    (f : Format) (s : Sizes) (u : List Float) (c : Float) (y : List Float) (v : Float) (w : List Float) →
    psi_f1 f s u c y v w ≡ ask (project_c (plus_over f (larger c (one f)) w y)) (vector s.n1) (psi_c f s u c y v (plus_over f (larger c (one f)) w y))
unfolding psi_f1
psi_over_larger f s u c y v w = refl

-- "here t = F1 + y / c"
pub d_psi_over_c :
    (f : Format) (s : Sizes) (u : List Float) (c : Float) (y : List Float) (g w : List Float) →
    d_psi_f1 f s u c y g w ≡ ask (project_c (plus_over f c w y)) (vector s.n1) (d_psi_c f s u c y g (plus_over f c w y))
unfolding d_psi_f1
d_psi_over_c f s u c y g w = refl

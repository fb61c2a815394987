-- What each move of an inner solve leaves is what the process comes to there, over any format. Assumes nothing.
use Rattle.std.specs.Prelude.{ℕ, zero, suc, ◌-◌, ◌≤◌, Bool, true, false, ◌&&◌, cond, List, leb, eqb, Float}
use Rattle.std.proofs.Math.Path.{◌≡◌, refl, ap, subst, fun_ext}
use Rattle.std.proofs.Common.{◌∙◌, arith, le-leb, leb-true}
use Rattle.std.specs.Float.{Format}
use Rattle.std.specs.Float.Ieee.{lt}
use Rattle.std.specs.Float.Ieee.Scale.{finite}
use Rattle.model.specs.Constants.{max_lipschitz_constant, max_lipschitz_updates}
use Rattle.model.specs.Vectors.{all_finite}
use Rattle.model.specs.Process.{Kind, Answer, refused, failed, ask, score, stop, Question, Status, converged, not_converged_iterations, not_converged_out_of_time, Solve}
use Rattle.model.specs.State.{Settings, State, with_u, with_half, with_sigma}
use Rattle.model.specs.Inner as I
use Rattle.model.specs.Refusals.{remains, lent_after, lent_at, plan_of}
use Rattle.model.proofs.Facts.{and_left, and_right}
use Rattle.machine.specs.Told.{saying, given}
use Rattle.machine.specs.InnerRun.{Phase, Run, Left, with_iterate, asks, stops, fails}
use Rattle.machine.specs.InnerMoves as Move
use Rattle.machine.specs.InnerMoves.{stepped, scored, entered, settled, tried_at, first_at, renewed, opening_of, opened_at}
use Rattle.machine.specs.InnerRest.{sound, Sound, doubling_at, half_cost_at, next_of, retry_of, doubling_of, resume, rest, asked_of, Goes}

-- ---- a run that a start made
pub sound_n : (r : Run) → Sound r → r.set.n ≤ 64
unfolding sound
sound_n r h = leb-true _ _ (and_left _ _ h)

pub sound_limit : (r : Run) → Sound r → r.set.limit ≤ 10000
unfolding sound
sound_limit r h = leb-true _ _ (and_left _ _ (and_right (leb r.set.n 64) _ h))

pub sound_left : (r : Run) → Sound r → r.left ≤ 10000
unfolding sound
sound_left r h = leb-true _ _ (and_left _ _ (and_right (leb r.set.limit 10000) _ (and_right (leb r.set.n 64) _ h)))

pub sound_count : (r : Run) → Sound r → r.state.at.count ≤ 10000 - r.left
unfolding sound
sound_count r h = leb-true _ _ (and_right (leb r.left 10000) _ (and_right (leb r.set.limit 10000) _ (and_right (leb r.set.n 64) _ h)))

pub sound_made : (r : Run) → r.set.n ≤ 64 → r.set.limit ≤ 10000 → r.left ≤ 10000 → r.state.at.count ≤ 10000 - r.left → Sound r
unfolding sound
sound_made r a b c d = rw (le-leb _ _ a, le-leb _ _ b, le-leb _ _ c, le-leb _ _ d)

-- one step fewer is left, one more is done
pub sound_next : (r : Run) (l : ℕ) → Sound r → r.left ≡ suc l → Sound (stepped l r)
sound_next r l ok z =
    sound_made (stepped l r) (sound_n r ok) (sound_limit r ok) (omega (arith, sound_left r ok)) (omega (arith, sound_left r ok, sound_count r ok))

module _ (f : Format) where
  -- ---- what is left of such a run
  pub rest_sound : (r : Run) → Sound r → rest f r ≡ resume f r r.phase
  unfolding rest
  rest_sound r h = rw h

  pub rest_at : (r : Run) (p : Phase) → Sound r → r.phase ≡ p → rest f r ≡ resume f r p
  rest_at r p h e = rest_sound r h ∙ ap (λ (q : Phase). resume f r q) e

  pub rest_over : (r : Run) → r.phase ≡ Phase.over → rest f r ≡ stop (refused 6)
  unfolding rest resume
  rest_over r e = by (sound r) (ap (λ (q : Phase). resume f r q) e)
    where
      by : (b : Bool) → resume f r r.phase ≡ stop (refused 6) → cond b (resume f r r.phase) (stop (refused 6)) ≡ stop (refused 6)
      by true q = q
      by false q = refl

  -- ---- a question, a refusal that ends the run, a failure, a mark that is passed, one of two by a test
  asks_goes : (r : Run) (p : Phase) (q : Question) (k : Kind) (continue : Answer k → Solve) → Sound r → resume f (record r { phase = p }) p ≡ ask q k continue
      → Goes f r.set r.beyond (ask q k continue) (asks (asked_of q) p r)
  unfolding saying remains lent_after given sound
  asks_goes r p q k continue h w =
      record {
        comes = record { settings = refl; outcome = refl; process = rest_sound (record r { phase = p }) h ∙ w; plan = λ us. refl };
        sound = h;
        counted = tt;
        beyond = refl;
      }

  stops_goes : (r : Run) (k : ℕ) → Sound r → Goes f r.set r.beyond (stop (refused k)) (stops k r)
  unfolding saying remains lent_after lent_at given sound
  stops_goes r k ok = record { comes = record { settings = refl; outcome = refl; process = rest_over (record r { phase = Phase.over }) refl; plan = λ us. refl }; sound = ok; counted = tt; beyond = refl }

  pub fails_goes : (r : Run) (c : ℕ) → Sound r → Goes f r.set r.beyond (stop (failed c)) (fails c r)
  unfolding saying remains lent_after lent_at given sound
  fails_goes r c ok = record { comes = record { settings = refl; outcome = refl; process = rest_over (record r { phase = Phase.over }) refl; plan = λ us. refl }; sound = ok; counted = tt; beyond = refl }

  score_goes : (s : Settings) (b : List Float) (h : List Float) (x : Float) (p : Solve) (l : Left) → Goes f s b p l → Goes f s b (score h x p) l
  unfolding saying remains lent_after
  score_goes s b h x p l c =
      record {
        comes = record { settings = c.comes.settings; outcome = c.comes.outcome; process = c.comes.process; plan = c.comes.plan };
        sound = c.sound;
        counted = c.counted;
        beyond = c.beyond;
      }

  either : (s : Settings) (b : List Float) (t : Bool) (p q : Solve) (l m : Left) → Goes f s b p l → Goes f s b q m → Goes f s b (cond t p q) (cond t l m)
  either s b true p q l m c d = c
  either s b false p q l m c d = d

  -- ---- the half step held to a right side of the Lipschitz check that is kept
  doubling_kept : (s : Settings) (e : Status) (next : I.Next) (k : ℕ) (forget : Bool) (st : State) (c : Float)
      → doubling_at f s e next k forget (I.lipschitz_check_rhs f st) st c ≡ I.doubling f s k e next forget st c
  unfolding doubling_at I.doubling
  doubling_kept s e next zero forget st c = refl
  doubling_kept s e next (suc k) forget st c = refl

  half_cost_kept : (s : Settings) (e : Status) (next : I.Next) (st : State) → half_cost_at f s e next (I.lipschitz_check_rhs f st) st ≡ I.half_cost f s e next st
  unfolding half_cost_at I.half_cost
  half_cost_kept s e next st =
      fun_ext (λ c. ap (λ (p : Solve). cond (finite c) p (stop (refused 11))) (doubling_kept s e next max_lipschitz_updates (eqb st.at.count 0) st c))

  -- ---- the parts of a step
  finish_goes : (r : Run) → Sound r → Goes f r.set r.beyond (I.finish f r.set r.status r.state.at) (Move.finish f r)
  unfolding I.finish I.last_test Move.finish resume sound
  finish_goes r ok =
      score_goes _ _ _ _ _ _ (either _ _ (all_finite r.state.at.u) _ _ _ _ (asks_goes (scored f r) Phase.last_cost _ _ _ ok refl) (stops_goes (scored f r) 15 ok))

  step_goes : (r : Run) → Sound r → Goes f r.set r.beyond (I.step f r.set r.status (next_of f r) r.state.at) (Move.step f r)
  unfolding I.step I.tested I.entered Move.step resume sound
  step_goes r ok =
      score_goes _ _ _ _ _ _
      (either _ _ (I.passes f r.set (I.entered f r.set r.state.at)) _ _ _ _
      (finish_goes (entered f r) ok)
      (asks_goes (record (entered f r) { rhs = I.lipschitz_check_rhs f (I.entered f r.set r.state.at) }) Phase.half_cost _ _ _ ok
      (ap (λ (k : Float → Solve). ask (Question.cost r.state.at.half) Kind.number k) (half_cost_kept r.set r.status (next_of f r) (I.entered f r.set r.state.at)))))

  pub timed_goes : (r : Run) → Sound r → (t : Bool) → Goes f r.set r.beyond (I.timed f r.set r.left (next_of f r) r.state.at t) (Move.timed f t r)
  unfolding I.timed Move.timed sound
  timed_goes r ok t = step_goes (record r { status = I.standing f r.set r.left t }) ok

  laps_goes : (r : Run) (l : ℕ) → r.left ≡ l → Sound r → Goes f r.set r.beyond (I.laps f r.set l r.state.at) (Move.laps f l r)
  unfolding I.laps Move.laps resume sound
  laps_goes r zero z ok = finish_goes (record r { status = not_converged_iterations }) ok
  laps_goes r (suc l) z ok =
      either _ _ r.set.limited _ _ _ _
      (asks_goes (stepped l r) Phase.time Question.time Kind.decision _ (sound_next r l ok z) refl)
      (timed_goes (stepped l r) (sound_next r l ok z) true)

  onward_goes : (r : Run) (e : Status) → r.status ≡ e → Sound r → Goes f r.set r.beyond (I.onward f r.set e (next_of f r) r.state.at) (Move.onward f e r)
  unfolding I.onward Move.onward
  onward_goes r converged q ok = laps_goes r r.left refl ok
  onward_goes r not_converged_iterations q ok = subst (λ (z : Status). Goes f r.set r.beyond (I.finish f r.set z r.state.at) (Move.finish f r)) q (finish_goes r ok)
  onward_goes r not_converged_out_of_time q ok = subst (λ (z : Status). Goes f r.set r.beyond (I.finish f r.set z r.state.at) (Move.finish f r)) q (finish_goes r ok)

  -- ---- DIRECTION and the doubling
  ask_direction_goes : (r : Run) → Sound r → Goes f r.set r.beyond (I.ask_direction f r.set r.status (next_of f r) r.forget r.state) (Move.ask_direction f r)
  unfolding I.ask_direction Move.ask_direction resume sound
  ask_direction_goes r ok =
      asks_goes (with_iterate (with_sigma (I.sigma_of f r.state.at.gamma) r.state.at) r) Phase.direction (Question.direction r.forget r.state.residual r.state.at.u) _ _ ok refl

  doubling_goes : (r : Run) (k : ℕ) (c : Float) → Sound r → Goes f r.set r.beyond (doubling_at f r.set r.status (next_of f r) k r.forget r.rhs r.state c) (Move.doubling f k c r)
  unfolding doubling_at Move.doubling I.doubled resume sound
  doubling_goes r zero c ok = ask_direction_goes r ok
  doubling_goes r (suc k) c ok =
      either _ _ (lt r.rhs c && lt r.state.at.lipschitz (max_lipschitz_constant f)) _ _ _ _
      (asks_goes (record (with_iterate (I.doubled f r.set r.state.at) r) { rounds = k }) Phase.doubled_project _ _ _ ok refl)
      (ask_direction_goes r ok)

  -- ---- a later step's move
  adopt_goes : (r : Run) → Sound r → Goes f r.set r.beyond (I.onward f r.set r.status (next_of f r) (with_u r.candidate r.state.at)) (Move.adopt f r)
  unfolding Move.adopt sound
  adopt_goes r ok = onward_goes (settled f (with_iterate (with_u r.candidate r.state.at) r)) r.status refl ok

  again_goes : (r : Run) (k : ℕ) → Sound r
      → Goes f r.set r.beyond (I.retry f r.set k r.status (next_of f r) r.tau r.rhs r.direction r.candidate r.state) (Move.again f k r)
  unfolding I.retry I.trial Move.again resume sound
  again_goes r zero ok = adopt_goes r ok
  again_goes r (suc k) ok = asks_goes (Move.again f (suc k) r).run Phase.tried_cost _ _ _ ok refl

  -- ---- one law for each answer
  module _ (r : Run) (ok : Sound r) where
    pub cost_goes : (x : Float) → Goes f r.set r.beyond (I.start_cost f r.set r.state.at.u x) (Move.cost f x r)
    unfolding resume I.start_cost Move.cost sound
    cost_goes x = asks_goes (Move.cost f x r).run Phase.gradient _ _ _ ok refl

    pub gradient_goes : (v : List Float) → Goes f r.set r.beyond (I.start_gradient f r.set r.state.at.u r.state.at.cost v) (Move.gradient f v r)
    unfolding resume I.start_gradient Move.gradient sound
    gradient_goes v = asks_goes (Move.gradient f v r).run Phase.shifted _ _ _ ok refl

    pub shifted_goes : (v : List Float) → Goes f r.set r.beyond (I.start_shifted f r.set r.norm_h r.state.at.u r.state.at.cost r.state.at.gradient v) (Move.shifted_gradient f v r)
    unfolding resume I.start_shifted I.opening Move.shifted_gradient sound
    shifted_goes v =
        either _ _ (finite r.state.at.cost && all_finite r.state.at.gradient) _ _ _ _ (asks_goes (opened_at f v r) Phase.project _ _ _ ok refl) (stops_goes r 10 ok)

    pub project_goes : (v : List Float) → Goes f r.set r.beyond (I.start_project f r.set (opening_of f r) v) (Move.project f v r)
    unfolding I.start_project I.begun Move.project
    project_goes v =
        let t = record (with_iterate (I.begun f r.set (opening_of f r) v) r) { status = converged; left = r.set.limit } in
        step_goes t (sound_made t (sound_n r ok) (sound_limit r ok) (sound_limit r ok) (omega arith))

    pub half_cost_goes : (x : Float) → Goes f r.set r.beyond (half_cost_at f r.set r.status (next_of f r) r.rhs r.state x) (Move.half_cost f x r)
    unfolding half_cost_at Move.half_cost sound
    half_cost_goes x =
        either _ _ (finite x) _ _ _ _
        (doubling_goes (record r { forget = eqb r.state.at.count 0; rounds = max_lipschitz_updates }) max_lipschitz_updates x ok)
        (stops_goes r 11 ok)

    pub doubled_project_goes : (v : List Float) → Goes f r.set r.beyond (I.doubled_project f r.set (doubling_of f r) r.state.at v) (Move.doubled_project f v r)
    unfolding resume I.doubled_project Move.doubled_project sound
    doubled_project_goes v = asks_goes (Move.doubled_project f v r).run Phase.doubled_cost _ _ _ ok refl

    pub doubled_cost_goes : (x : Float) → Goes f r.set r.beyond (I.doubled_cost f r.set (doubling_of f r) r.state.at x) (Move.doubled_cost f x r)
    unfolding I.doubled_cost I.renewed Move.doubled_cost sound
    doubled_cost_goes x =
        either _ _ (finite x) _ _ _ _
        (subst (λ (q : Solve). Goes f r.set r.beyond q (Move.doubling f r.rounds x (renewed f r))) (doubling_kept r.set r.status (next_of f r) r.rounds true (I.renewed f r.set r.state.at) x)
        (doubling_goes (renewed f r) r.rounds x ok))
        (stops_goes r 12 ok)

    pub directed_goes : (v : List Float) → Goes f r.set r.beyond (I.directed f r.set r.status (next_of f r) r.state v) (Move.directed f v r)
    unfolding resume I.directed I.first_move I.search I.trial Move.directed Move.search sound
    directed_goes v =
        either _ _ (eqb r.state.at.count 0) _ _ _ _
        (asks_goes (with_iterate (with_u r.state.at.half r.state.at) r) Phase.first_cost _ _ _ ok refl)
        (asks_goes (Move.search f v r).run Phase.tried_cost _ _ _ ok refl)

    pub first_cost_goes : (x : Float) → Goes f r.set r.beyond (I.first_cost f r.set r.status (next_of f r) r.state.at x) (Move.first_cost f x r)
    unfolding resume I.first_cost Move.first_cost sound
    first_cost_goes x = asks_goes (Move.first_cost f x r).run Phase.first_gradient _ _ _ ok refl

    pub first_gradient_goes : (v : List Float) → Goes f r.set r.beyond (I.first_gradient f r.set r.status (next_of f r) r.state.at v) (Move.first_gradient f v r)
    unfolding resume I.first_gradient Move.first_gradient sound
    first_gradient_goes v =
        either _ _ (finite r.state.at.cost && all_finite v) _ _ _ _ (asks_goes (first_at f v r) Phase.first_project _ _ _ ok refl) (stops_goes (first_at f v r) 13 ok)

    pub first_project_goes : (v : List Float) → Goes f r.set r.beyond (I.first_project f r.set r.status (next_of f r) r.state.at v) (Move.first_project f v r)
    unfolding I.first_project Move.first_project sound
    first_project_goes v = onward_goes (settled f (with_iterate (with_half v r.state.at) r)) r.status refl ok

    pub tried_cost_goes : (x : Float) → Goes f r.set r.beyond (I.tried_cost f r.set r.status (next_of f r) (retry_of f r) r.rhs r.candidate r.state x) (Move.tried_cost f x r)
    unfolding resume I.tried_cost Move.tried_cost sound
    tried_cost_goes x = asks_goes (Move.tried_cost f x r).run Phase.tried_gradient _ _ _ ok refl

    pub tried_gradient_goes : (v : List Float) → Goes f r.set r.beyond (I.tried_gradient f r.set r.status (next_of f r) (retry_of f r) r.rhs r.candidate r.state v) (Move.tried_gradient f v r)
    unfolding resume I.tried_gradient Move.tried_gradient sound
    tried_gradient_goes v =
        either _ _ (finite r.state.at.cost && all_finite v) _ _ _ _ (asks_goes (tried_at f v r) Phase.tried_project _ _ _ ok refl) (stops_goes (tried_at f v r) 14 ok)

    pub tried_project_goes : (v : List Float) → Goes f r.set r.beyond (I.tried_project f r.set r.status (next_of f r) (retry_of f r) r.rhs r.candidate r.state v) (Move.tried_project f v r)
    unfolding I.tried_project Move.tried_project sound
    tried_project_goes v =
        let s = with_iterate (with_half v r.state.at) r in
        either _ _ (lt r.rhs (I.envelope f (with_half v r.state.at))) _ _ _ _ (again_goes s r.rounds ok) (adopt_goes s ok)

    pub last_cost_goes : (x : Float) → Goes f r.set r.beyond (I.last_cost f r.set r.status r.state.at.best r.state.at.count x) (Move.last_cost f x r)
    unfolding I.last_cost Move.last_cost saying remains lent_after lent_at plan_of given sound
    last_cost_goes x =
        either _ _ (finite x) _ _ _ _
        (record { comes = record { settings = refl; outcome = refl; process = rest_over (record r { phase = Phase.over }) refl; plan = λ us. refl }; sound = ok; counted = omega (arith, sound_count r ok); beyond = refl })
        (stops_goes r 16 ok)

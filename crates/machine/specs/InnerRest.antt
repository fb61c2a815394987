-- What is left of a run of the inner solve, as a process of document 01, and what a call comes to. A run that no start made, with a size or a counter out of range, counts as one that has ended. Definitions only.
use Rattle.std.specs.Prelude.{ℕ, zero, suc, ◌-◌, ◌≤◌, ◌≡◌, Bool, true, ◌&&◌, cond, List, leb, eqb, Float}
use Rattle.std.specs.Float.{Format}
use Rattle.std.specs.Float.Ieee.{lt}
use Rattle.std.specs.Float.Ieee.Scale.{finite}
use Rattle.model.specs.Constants.{max_lipschitz_constant, max_lipschitz_updates}
use Rattle.model.specs.Process.{Kind, refused, ask, stop, Question, Status, Handed, Solve}
use Rattle.model.specs.State.{Settings, State}
use Rattle.model.specs.Inner as I
use Rattle.model.specs.Refusals.{Reply, accept, remains, lent_after, plan_of}
use Rattle.machine.specs.Told as Say
use Rattle.machine.specs.InnerRun.{Phase, Asked, Numbers, Told, Run, Left}
use Rattle.machine.specs.InnerMoves.{opening_of}

-- n at most 64, M at most 10,000, and as many steps done and left as M allows
unfoldable pub sound : Run → Bool
sound r = leb r.set.n 64 && (leb r.set.limit 10000 && (leb r.left 10000 && leb r.state.at.count (10000 - r.left)))

-- a run that a start made
abbrev pub Sound : Run → Type 0
Sound r = sound r ≡ true

module _ (f : Format) where
  -- what follows the cost c at the half step where that is held to a number v that is kept; it is the model's where v is its right side of the Lipschitz check
  module _ (s : Settings) (e : Status) (next : I.Next) where
    -- k doublings more
    unfoldable pub doubling_at : ℕ → Bool → Float → State → Float → Solve
    doubling_at zero forget v st c = I.ask_direction f s e next forget st
    doubling_at (suc k) forget v st c =
        cond (lt v c && lt st.at.lipschitz (max_lipschitz_constant f))
        (ask (Question.project (I.doubled f s st.at).gradient_step) (Kind.vector s.n) (I.doubled_project f s (I.doubling f s k e next true) (I.doubled f s st.at)))
        (I.ask_direction f s e next forget st)

    unfoldable pub half_cost_at : Float → State → Float → Solve
    half_cost_at v st c = cond (finite c) (doubling_at max_lipschitz_updates (eqb st.at.count 0) v st c) (stop (refused 11))

  module _ (r : Run) where
    -- the steps that may still begin, the candidates and the doublings that may still follow
    abbrev pub next_of : I.Next
    next_of = I.laps f r.set r.left

    abbrev pub retry_of : List Float → State → Solve
    retry_of = I.retry f r.set r.rounds r.status next_of r.tau r.rhs r.direction

    abbrev pub doubling_of : State → Float → Solve
    doubling_of = I.doubling f r.set r.rounds r.status next_of true

    -- the question of a phase, and what follows its answer
    unfoldable pub resume : Phase → Solve
    resume Phase.over = stop (refused 6)
    resume Phase.cost = ask (Question.cost r.state.at.u) Kind.number (I.start_cost f r.set r.state.at.u)
    resume Phase.gradient = ask (Question.gradient r.state.at.u) (Kind.vector r.set.n) (I.start_gradient f r.set r.state.at.u r.state.at.cost)
    resume Phase.shifted = ask (Question.gradient r.state.at.u) (Kind.vector r.set.n) (I.start_shifted f r.set r.norm_h r.state.at.u r.state.at.cost r.state.at.gradient)
    resume Phase.project = ask (Question.project r.state.at.gradient_step) (Kind.vector r.set.n) (I.start_project f r.set (opening_of f r))
    resume Phase.half_cost = ask (Question.cost r.state.at.half) Kind.number (half_cost_at r.set r.status next_of r.rhs r.state)
    resume Phase.doubled_project = ask (Question.project r.state.at.gradient_step) (Kind.vector r.set.n) (I.doubled_project f r.set doubling_of r.state.at)
    resume Phase.doubled_cost = ask (Question.cost r.state.at.half) Kind.number (I.doubled_cost f r.set doubling_of r.state.at)
    resume Phase.direction =
        ask (Question.direction r.forget r.state.residual r.state.at.u) (Kind.direction r.set.n) (I.directed f r.set r.status next_of r.state)
    resume Phase.first_cost = ask (Question.cost r.state.at.u) Kind.number (I.first_cost f r.set r.status next_of r.state.at)
    resume Phase.first_gradient = ask (Question.gradient r.state.at.u) (Kind.vector r.set.n) (I.first_gradient f r.set r.status next_of r.state.at)
    resume Phase.first_project = ask (Question.project r.state.at.gradient_step) (Kind.vector r.set.n) (I.first_project f r.set r.status next_of r.state.at)
    resume Phase.tried_cost = ask (Question.cost r.candidate) Kind.number (I.tried_cost f r.set r.status next_of retry_of r.rhs r.candidate r.state)
    resume Phase.tried_gradient =
        ask (Question.gradient r.candidate) (Kind.vector r.set.n) (I.tried_gradient f r.set r.status next_of retry_of r.rhs r.candidate r.state)
    resume Phase.tried_project =
        ask (Question.project r.state.at.gradient_step) (Kind.vector r.set.n) (I.tried_project f r.set r.status next_of retry_of r.rhs r.candidate r.state)
    resume Phase.time = ask Question.time Kind.decision (I.timed f r.set r.left next_of r.state.at)
    resume Phase.last_cost = ask (Question.cost r.state.at.best.point) Kind.number (I.last_cost f r.set r.status r.state.at.best r.state.at.count)

    unfoldable pub rest : Solve
    rest = cond (sound r) (resume r.phase) (stop (refused 6))

-- ---- what a call tells of the process that it has come to
abbrev pub asked_of : Question → Asked
asked_of (Question.cost u) = Asked.cost
asked_of (Question.gradient u) = Asked.gradient
asked_of (Question.project p) = Asked.project
asked_of (Question.direction forget r u) = Asked.direction forget
asked_of Question.time = Asked.time

abbrev pub end_said : Handed → Numbers
end_said h = record { status = h.status; iterations = h.iterations; norm = h.norm; cost = h.cost }

abbrev pub said : Solve → Told
said = Say.saying asked_of end_said

-- a call has come to the process p, under the settings s: a plan lies in the best half step, and nothing lent is written yet
pub record Comes (f : Format) (s : Settings) (p : Solve) (l : Left) : Type 0 where
  pub settings : l.run.set ≡ s
  pub outcome : l.told ≡ said p
  pub process : rest f l.run ≡ remains p
  pub plan : (us : List Float) → lent_after plan_of p us ≡ Say.given l.told l.run.state.at.best.point us

-- an end counts at most 10,000 steps
abbrev pub Counted : Told → Type 0
Counted (Say.Told.asked q) = Unit {0}
Counted (Say.Told.ended e) = e.iterations ≤ 10000
Counted (Say.Told.refused k) = Unit {0}
Counted (Say.Told.failed c) = Unit {0}

-- the same of a run that a start made: it still is one, its steps are counted, and the places b that no vector uses are as they were
pub record Goes (f : Format) (s : Settings) (b : List Float) (p : Solve) (l : Left) : Type 0 where
  pub comes : Comes f s p l
  pub sound : Sound l.run
  pub counted : Counted l.told
  pub beyond : l.run.beyond ≡ b

-- an answer that nothing refuses: v is the vector lent with it
abbrev pub Takes : Format → Run → Reply → List Float → Left → Type 0
Takes f r a v l = Comes f r.set (accept (rest f r) a v) l

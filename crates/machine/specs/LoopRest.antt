-- What is left of a run of the multiplier loop, as a process of document 01, and what a call comes to. A run that no start made counts as one that has ended. Definitions only.
use Rattle.std.specs.Prelude.{◌-◌, ◌*◌, ◌≡◌, Bool, true, false, ◌&&◌, ◌||◌, cond, List, leb, eqb, Float}
use Rattle.std.specs.Float.{Format}
use Rattle.ieee.specs.Numbers.{null}
use Rattle.model.specs.Process.{Kind, refused, ask, stop, within, LoopQuestion, Status, LoopHanded, Solve, Loop}
use Rattle.model.specs.Loop as L
use Rattle.model.specs.Loop.{LoopSettings, LoopState, xi_of, penalty_of}
use Rattle.model.specs.Refusals.{Reply, accept, remains, lent_after, loop_plan, loop_xi}
use Rattle.machine.specs.Told as Say
use Rattle.machine.specs.InnerRest as Inner
use Rattle.machine.specs.LoopRun.{Phase, Asked, Numbers, Told, Run, Left, u_of, plan_of, state_of, carried_of, found_of, found_y}

-- sizes as document 01 has them, and M at most 10,000
unfoldable pub sized : Run → Bool
sized r = leb r.set.n 64 && (leb r.set.n1 32 && (leb r.set.n2 32 && leb r.set.limit 10000))

-- as many outer iterations done and left as K allows, at most 10,000 inner ones in each, and an inner solve of the same n
unfoldable pub counts : Run → Bool
counts r =
    leb r.left 999
    && (leb r.outer (999 - r.left) && (leb r.inner (10000 * r.outer) && (leb r.found 10000 && eqb r.solve.set.n r.set.n)))

-- the last question has no iteration before it, nor has the end
abbrev pub is_last : Phase → Bool
is_last Phase.over = true
is_last Phase.time = false
is_last Phase.project_y = false
is_last Phase.inner = false
is_last Phase.f1 = false
is_last Phase.project_c = false
is_last Phase.f2 = false
is_last Phase.last_cost = true

unfoldable pub sound : Run → Bool
sound r = sized r && (is_last r.phase || counts r)

-- a run that a start made; and one that may begin or go on with an outer iteration
abbrev pub Sound : Run → Type 0
Sound r = sound r ≡ true

abbrev pub Ready : Run → Type 0
Ready r = (sized r ≡ true) × (counts r ≡ true)

module _ (f : Format) where
  module _ (r : Run) where
    -- the outer iterations that may still begin
    abbrev pub next_of : Status → LoopState → Loop
    next_of = L.iterations f r.set r.left

    -- a process of the inner solve, inside the loop
    abbrev pub inside : Solve → Loop
    inside = within (LoopQuestion.inner (xi_of r.set r.c r.y)) (L.solved f r.set next_of (carried_of r))

    -- the question of a phase, and what follows its answer
    unfoldable pub resume : Phase → Loop
    resume Phase.over = stop (refused 6)
    resume Phase.time = ask LoopQuestion.time Kind.decision (L.timed f r.set next_of (state_of r))
    resume Phase.project_y = ask (LoopQuestion.project_y r.y) (Kind.vector r.set.n1) (L.got_y f r.set next_of (state_of r))
    resume Phase.inner = inside (Inner.rest f r.solve)
    resume Phase.f1 = ask (LoopQuestion.f1 (plan_of r)) (Kind.vector r.set.n1) (L.got_f1 f r.set next_of (found_of r))
    resume Phase.project_c = ask (LoopQuestion.project_c r.y_plus) (Kind.vector r.set.n1) (L.got_c f r.set next_of (found_of r) r.f1)
    resume Phase.f2 = ask (LoopQuestion.f2 (plan_of r)) (Kind.vector r.set.n2) (L.got_f2 f r.set next_of (found_y r))
    resume Phase.last_cost = ask (LoopQuestion.cost (u_of r) (xi_of r.set null r.y)) Kind.number (L.concluded f r.set r.status (state_of r))

    unfoldable pub rest : Loop
    rest = cond (sound r) (resume r.phase) (stop (refused 6))

-- ---- what a call tells of the process that it has come to
abbrev pub asked_of : LoopQuestion → Asked
asked_of (LoopQuestion.inner xi q) = Asked.inner (Inner.asked_of q)
asked_of LoopQuestion.time = Asked.time
asked_of (LoopQuestion.project_y y) = Asked.project_y
asked_of (LoopQuestion.f1 u) = Asked.f1
asked_of (LoopQuestion.project_c t) = Asked.project_c
asked_of (LoopQuestion.f2 u) = Asked.f2
asked_of (LoopQuestion.cost u xi) = Asked.cost

abbrev pub end_said : LoopHanded → Numbers
end_said h =
    record {
      status = h.status;
      outer = h.outer;
      inner = h.inner;
      norm = h.norm;
      delta_y = h.delta_y;
      f2 = h.f2;
      penalty = h.penalty;
      cost = h.cost;
    }

abbrev pub said : Loop → Told
said = Say.saying asked_of end_said

-- a call has come to the process p, under the settings s: a plan lies in u, its multipliers in y_plus, and nothing lent is written yet
pub record Comes (f : Format) (s : LoopSettings) (p : Loop) (l : Left) : Type 0 where
  pub settings : l.run.set ≡ s
  pub outcome : l.told ≡ said p
  pub process : rest f l.run ≡ remains p
  pub plan : (us : List Float) → lent_after loop_plan p us ≡ Say.given l.told (u_of l.run) us
  pub xi : (xs : List Float) → lent_after (loop_xi s) p xs ≡ Say.given l.told (xi_of s (penalty_of s l.run.c) l.run.y_plus) xs

-- the same of a run that a start made: it still is one, and the places b that no vector uses are as they were
pub record Goes (f : Format) (s : LoopSettings) (b : List Float) (p : Loop) (l : Left) : Type 0 where
  pub comes : Comes f s p l
  pub sound : Sound l.run
  pub beyond : l.run.beyond ≡ b

-- an answer that nothing refuses: v is the vector lent with it
abbrev pub Takes : Format → Run → Reply → List Float → Left → Type 0
Takes f r a v l = Comes f r.set (accept (rest f r) a v) l

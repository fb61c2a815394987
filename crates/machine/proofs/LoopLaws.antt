-- What each move of the multiplier loop leaves is what the process comes to there, over any format. Assumes nothing.
use Rattle.std.specs.Prelude.{ℕ, zero, suc, ◌-◌, ◌*◌, ◌≤◌, Bool, true, false, ◌||◌, cond, List, [], leb, eqb, Float}
use Rattle.std.proofs.Math.Path.{◌≡◌, refl, sym, ap, subst}
use Rattle.std.proofs.Common.{◌∙◌, arith, le-leb, leb-true, eq-eqb, eqb-true}
use Rattle.std.specs.Float.{Format}
use Rattle.std.specs.Float.Ieee.{is_nan}
use Rattle.ieee.specs.Numbers.{null}
use Rattle.ieee.specs.Sums.{norm}
use Rattle.model.specs.Vectors.{minus, plus_times, plus_over}
use Rattle.model.specs.Process.{Kind, Answer, handed, refused, failed, ask, score, begin, stop, within, LoopQuestion, Status, converged, not_converged_iterations, not_converged_out_of_time, Solve, Loop}
use Rattle.model.specs.State.{Settings}
use Rattle.model.specs.Inner as I
use Rattle.model.specs.Loop as L
use Rattle.model.specs.Loop.{LoopSettings, xi_of}
use Rattle.model.specs.Refusals.{remains, lent_after, lent_at, plan_of, loop_plan, loop_xi}
use Rattle.model.proofs.Facts.{and_left, and_right}
use Rattle.machine.specs.Told.{saying, given}
use Rattle.machine.specs.Told as Say
use Rattle.machine.specs.InnerRun as Inner
use Rattle.machine.specs.InnerRest as InnerRest
use Rattle.machine.proofs.InnerLaws as InnerLaws
use Rattle.machine.specs.InnerAnswer.{begun}
use Rattle.machine.specs.LoopRun.{Phase, Run, Left, u_of, state_of, found_of, found_y, found_all, with_solve, scratched, asks, stops, fails}
use Rattle.machine.specs.LoopMoves as Move
use Rattle.machine.specs.LoopMoves.{counted, multiplied, solved}
use Rattle.machine.specs.LoopRest.{sized, counts, is_last, sound, Sound, Ready, next_of, inside, resume, rest, asked_of, Goes}

-- ---- a run that a start made
module _ (r : Run) (h : sized r ≡ true) where
  pub sized_n : r.set.n ≤ 64
  unfolding sized
  sized_n = leb-true _ _ (and_left _ _ h)

  pub sized_n1 : r.set.n1 ≤ 32
  unfolding sized
  sized_n1 = leb-true _ _ (and_left _ _ (and_right (leb r.set.n 64) _ h))

  pub sized_n2 : r.set.n2 ≤ 32
  unfolding sized
  sized_n2 = leb-true _ _ (and_left _ _ (and_right (leb r.set.n1 32) _ (and_right (leb r.set.n 64) _ h)))

  pub sized_limit : r.set.limit ≤ 10000
  unfolding sized
  sized_limit = leb-true _ _ (and_right (leb r.set.n2 32) _ (and_right (leb r.set.n1 32) _ (and_right (leb r.set.n 64) _ h)))

module _ (r : Run) (h : counts r ≡ true) where
  pub counts_left : r.left ≤ 999
  unfolding counts
  counts_left = leb-true _ _ (and_left _ _ h)

  pub counts_outer : r.outer ≤ 999 - r.left
  unfolding counts
  counts_outer = leb-true _ _ (and_left _ _ (and_right (leb r.left 999) _ h))

  pub counts_inner : r.inner ≤ 10000 * r.outer
  unfolding counts
  counts_inner = leb-true _ _ (and_left _ _ (and_right (leb r.outer (999 - r.left)) _ (and_right (leb r.left 999) _ h)))

  pub counts_found : r.found ≤ 10000
  unfolding counts
  counts_found = leb-true _ _ (and_left _ _ (and_right (leb r.inner (10000 * r.outer)) _ (and_right (leb r.outer (999 - r.left)) _ (and_right (leb r.left 999) _ h))))

  pub counts_n : r.solve.set.n ≡ r.set.n
  unfolding counts
  counts_n = eqb-true _ _ (and_right (leb r.found 10000) _ (and_right (leb r.inner (10000 * r.outer)) _ (and_right (leb r.outer (999 - r.left)) _ (and_right (leb r.left 999) _ h))))

pub counts_made : (r : Run) → r.left ≤ 999 → r.outer ≤ 999 - r.left → r.inner ≤ 10000 * r.outer → r.found ≤ 10000 → r.solve.set.n ≡ r.set.n → counts r ≡ true
unfolding counts
counts_made r a b c d e = rw (le-leb _ _ a, le-leb _ _ b, le-leb _ _ c, le-leb _ _ d, eq-eqb _ _ e)

-- a run whose outer iteration is counted
pub record Closing (r : Run) : Type 0 where
  pub sizes : sized r ≡ true
  pub left : r.left ≤ 999
  pub outer : r.outer ≤ 1000 - r.left
  pub inner : r.inner ≤ 10000 * r.outer
  pub found : r.found ≤ 10000
  pub same : r.solve.set.n ≡ r.set.n

or_right : (a b : Bool) → b ≡ true → (a || b) ≡ true
or_right true b e = refl
or_right false b e = e

pub ready_sound : (r : Run) → Ready r → Sound r
unfolding sound
ready_sound r h = rw h.0 (or_right (is_last r.phase) (counts r) h.1)

pub last_sound : (r : Run) → sized r ≡ true → is_last r.phase ≡ true → Sound r
unfolding sound
last_sound r h e = rw (h, e)

pub sound_sized : (r : Run) → Sound r → sized r ≡ true
unfolding sound
sound_sized r h = and_left _ _ h

pub sound_ready : (r : Run) → Sound r → is_last r.phase ≡ false → Ready r
unfolding sound
sound_ready r h e = (and_left _ _ h, rw e at (and_right (sized r) _ h))

module _ (f : Format) where
  -- ---- what is left of such a run
  pub rest_sound : (r : Run) → Sound r → rest f r ≡ resume f r r.phase
  unfolding rest
  rest_sound r h = rw h

  pub rest_at : (r : Run) (p : Phase) → Sound r → r.phase ≡ p → rest f r ≡ resume f r p
  rest_at r p h e = rest_sound r h ∙ ap (λ (q : Phase). resume f r q) e

  pub rest_over : (r : Run) → r.phase ≡ Phase.over → rest f r ≡ stop (refused 6)
  unfolding rest resume
  rest_over r e = by (sound r) (ap (λ (q : Phase). resume f r q) e)
    where
      by : (b : Bool) → resume f r r.phase ≡ stop (refused 6) → cond b (resume f r r.phase) (stop (refused 6)) ≡ stop (refused 6)
      by true q = q
      by false q = refl

  -- ---- a question, a refusal that ends the run, a failure, a mark that is passed, one of two by a test
  asks_goes : (r : Run) (p : Phase) (q : LoopQuestion) (k : Kind) (continue : Answer k → Loop) → Sound (record r { phase = p }) → resume f (record r { phase = p }) p ≡ ask q k continue
      → Goes f r.set r.beyond (ask q k continue) (asks (asked_of q) p r)
  unfolding saying remains lent_after given
  asks_goes r p q k continue h w =
      record {
        comes = record { settings = refl; outcome = refl; process = rest_sound (record r { phase = p }) h ∙ w; plan = λ us. refl; xi = λ xs. refl };
        sound = h;
        beyond = refl;
      }

  stops_goes : (r : Run) (k : ℕ) → sized r ≡ true → Goes f r.set r.beyond (stop (refused k)) (stops k r)
  unfolding saying remains lent_after lent_at given sized
  stops_goes r k h =
      record {
        comes = record { settings = refl; outcome = refl; process = rest_over (record r { phase = Phase.over }) refl; plan = λ us. refl; xi = λ xs. refl };
        sound = last_sound (record r { phase = Phase.over }) h refl;
        beyond = refl;
      }

  pub fails_goes : (r : Run) (c : ℕ) → sized r ≡ true → Goes f r.set r.beyond (stop (failed c)) (fails c r)
  unfolding saying remains lent_after lent_at given sized
  fails_goes r c h =
      record {
        comes = record { settings = refl; outcome = refl; process = rest_over (record r { phase = Phase.over }) refl; plan = λ us. refl; xi = λ xs. refl };
        sound = last_sound (record r { phase = Phase.over }) h refl;
        beyond = refl;
      }

  either : (s : LoopSettings) (b : List Float) (t : Bool) (p q : Loop) (l m : Left) → Goes f s b p l → Goes f s b q m → Goes f s b (cond t p q) (cond t l m)
  either s b true p q l m c d = c
  either s b false p q l m c d = d

  -- the same run at another phase, ready as it was
  phase_ready : (r : Run) (p : Phase) → Ready r → Sound (record r { phase = p })
  unfolding sized counts
  phase_ready r p h = ready_sound (record r { phase = p }) h

  -- ---- the end
  conclude_goes : (r : Run) (e : Status) → sized r ≡ true → Goes f r.set r.beyond (L.conclude f r.set e (state_of r)) (Move.conclude e r)
  unfolding L.conclude Move.conclude resume sized
  conclude_goes r e h = asks_goes (record r { status = e }) Phase.last_cost (LoopQuestion.cost (u_of r) (xi_of r.set null r.y)) _ _ (last_sound (Move.conclude e r).run h refl) refl

  pub last_cost_goes : (r : Run) → sized r ≡ true → (x : Float) → Goes f r.set r.beyond (L.concluded f r.set r.status (state_of r) x) (Move.last_cost x r)
  unfolding L.concluded Move.last_cost saying remains lent_after lent_at loop_plan loop_xi given sized
  last_cost_goes r h x =
      either _ _ (is_nan r.delta_y_norm || is_nan r.f2_norm) _ _ _ _
      (stops_goes r 18 h)
      (record {
        comes = record { settings = refl; outcome = refl; process = rest_over (record r { phase = Phase.over }) refl; plan = λ us. refl; xi = λ xs. refl };
        sound = last_sound (record r { phase = Phase.over }) h refl;
        beyond = refl;
      })

  -- ---- an outer iteration begins

  -- the same run with another inner solve of its n, ready as it was
  solve_ready : (r : Run) (i : Inner.Run) → i.set.n ≡ r.set.n → Ready r → Ready (with_solve i r)
  unfolding sized
  solve_ready r i e h = (h.0, counts_made (with_solve i r) (counts_left r h.1) (counts_outer r h.1) (counts_inner r h.1) (counts_found r h.1) e)

  inner_solve_goes : (r : Run) → Ready r → Goes f r.set r.beyond (L.inner_solve f r.set (next_of f r) (state_of r)) (Move.inner_solve r)
  unfolding L.inner_solve L.inner_settings Move.inner_solve saying remains lent_after given within I.solve resume InnerRest.resume sized counts
  inner_solve_goes r h =
      let i = begun (L.inner_settings r.set (state_of r)) (u_of r) r.solve in
      let s = phase_ready (with_solve i r) Phase.inner (solve_ready r i refl h) in
      record {
        comes = record {
          settings = refl;
          outcome = refl;
          process = rest_sound (Move.inner_solve r).run s ∙ ap (inside f r) (InnerLaws.rest_sound f i (InnerLaws.sound_made i (sized_n r h.0) (sized_limit r h.0) (omega arith) (omega arith)));
          plan = λ us. refl;
          xi = λ xs. refl;
        };
        sound = s;
        beyond = refl;
      }

  pub project_y_goes : (r : Run) → Ready r → (v : List Float) → Goes f r.set r.beyond (L.got_y f r.set (next_of f r) (state_of r) v) (Move.project_y v r)
  unfolding L.got_y Move.project_y sized counts
  project_y_goes r h v = inner_solve_goes (record r { y = v }) h

  iteration_goes : (r : Run) → Ready r → Goes f r.set r.beyond (L.iteration f r.set (next_of f r) (state_of r)) (Move.iteration r)
  unfolding L.iteration Move.iteration resume
  iteration_goes r h =
      either _ _ r.set.set_y _ _ _ _ (asks_goes r Phase.project_y (LoopQuestion.project_y r.y) _ _ (phase_ready r Phase.project_y h) refl) (inner_solve_goes r h)

  pub timed_goes : (r : Run) → Ready r → (t : Bool) → Goes f r.set r.beyond (L.timed f r.set (next_of f r) (state_of r) t) (Move.timed t r)
  unfolding L.timed L.out_of_time Move.timed Move.out_of_time
  timed_goes r h t = either _ _ t _ _ _ _ (iteration_goes r h) (either _ _ (eqb r.outer 0) _ _ _ _ (stops_goes r 17 h.0) (conclude_goes r not_converged_out_of_time h.0))

  pub begins_goes : (r : Run) → Ready r → Goes f r.set r.beyond (L.begins f r.set (next_of f r) (state_of r)) (Move.begins r)
  unfolding L.begins Move.begins resume
  begins_goes r h = either _ _ r.set.limited _ _ _ _ (asks_goes r Phase.time LoopQuestion.time _ _ (phase_ready r Phase.time h) refl) (iteration_goes r h)

  -- one iteration fewer is left
  next_ready : (r : Run) (l : ℕ) → Closing r → r.left ≡ suc l → Ready (record r { left = l })
  unfolding sized
  next_ready r l h z = (h.sizes, counts_made (record r { left = l }) (omega (arith, h.left)) (omega (arith, h.left, h.outer)) h.inner h.found h.same)

  iterations_goes : (r : Run) (l : ℕ) (e : Status) → Closing r → r.left ≡ l → Goes f r.set r.beyond (L.iterations f r.set l e (state_of r)) (Move.iterations l e r)
  unfolding L.iterations Move.iterations
  iterations_goes r zero e h z = conclude_goes r not_converged_iterations h.sizes
  iterations_goes r (suc l) converged h z = begins_goes (record r { left = l }) (next_ready r l h z)
  iterations_goes r (suc l) not_converged_iterations h z = begins_goes (record r { left = l }) (next_ready r l h z)
  iterations_goes r (suc l) not_converged_out_of_time h z = conclude_goes r not_converged_out_of_time h.sizes

  -- ---- after the inner solve
  counted_closing : (r : Run) (c t : Float) → Ready r → Closing (counted c t r)
  unfolding sized
  counted_closing r c t h =
      record {
        sizes = h.0;
        left = counts_left r h.1;
        outer = omega (arith, counts_left r h.1, counts_outer r h.1);
        inner = omega (arith, counts_inner r h.1, counts_found r h.1);
        found = counts_found r h.1;
        same = counts_n r h.1;
      }

  weigh_goes : (r : Run) → Ready r → Goes f r.set r.beyond (L.weighed f r.set (next_of f r) (found_all r)) (Move.weigh f r)
  unfolding L.weighed L.counted Move.weigh sized counts
  weigh_goes r h =
      let r' = record r { y = r.y_plus } in
      either _ _ (L.exits f r.set (found_all r)) _ _ _ _
      (conclude_goes (counted r.c r.akkt r) r.status h.0)
      (iterations_goes (counted (L.next_penalty f r.set (found_all r)) (L.next_akkt f r.set r.akkt) r') r.left r.status (counted_closing r' (L.next_penalty f r.set (found_all r)) (L.next_akkt f r.set r.akkt) h) refl)

  ask_f2_goes : (r : Run) → Ready r → Goes f r.set r.beyond (L.ask_f2 f r.set (next_of f r) (found_y r)) (Move.ask_f2 f r)
  unfolding L.ask_f2 Move.ask_f2 resume sized counts
  ask_f2_goes r h =
      either _ _ (eqb r.set.n2 0) _ _ _ _
      (weigh_goes (record r { f2_norm_plus = null }) h)
      (asks_goes r Phase.f2 (LoopQuestion.f2 (found_y r).plan) _ _ (phase_ready r Phase.f2 h) refl)

  ask_f1_goes : (r : Run) → Ready r → Goes f r.set r.beyond (L.ask_f1 f r.set (next_of f r) (found_of r)) (Move.ask_f1 f r)
  unfolding L.ask_f1 Move.ask_f1 resume sized counts
  ask_f1_goes r h =
      either _ _ (eqb r.set.n1 0) _ _ _ _
      (ask_f2_goes (record r { y_plus = r.y; delta_y_norm_plus = null }) h)
      (asks_goes r Phase.f1 (LoopQuestion.f1 (found_of r).plan) _ _ (phase_ready r Phase.f1 h) refl)

  module _ (r : Run) (h : Ready r) (v : List Float) where
    pub f1_goes : Goes f r.set r.beyond (L.got_f1 f r.set (next_of f r) (found_of r) v) (Move.f1 f v r)
    unfolding L.got_f1 Move.f1 resume sized counts
    f1_goes = asks_goes (Move.f1 f v r).run Phase.project_c (LoopQuestion.project_c (plus_over f r.c v r.y)) _ _ (phase_ready (Move.f1 f v r).run Phase.project_c h) refl

    pub project_c_goes : Goes f r.set r.beyond (L.got_c f r.set (next_of f r) (found_of r) r.f1 v) (Move.project_c f v r)
    unfolding L.got_c Move.project_c sized counts
    project_c_goes = ask_f2_goes (multiplied f (plus_times f r.c r.y (minus f r.f1 v)) (scratched v r)) h

    pub f2_goes : Goes f r.set r.beyond (L.got_f2 f r.set (next_of f r) (found_y r) v) (Move.f2 f v r)
    unfolding L.got_f2 Move.f2 sized counts
    f2_goes = weigh_goes (record (scratched v r) { f2_norm_plus = norm f v }) h

  -- ---- the inner solve's answers
  score_goes : (s : LoopSettings) (b : List Float) (h : List Float) (x : Float) (p : Loop) (l : Left) → Goes f s b p l → Goes f s b (score h x p) l
  unfolding saying remains lent_after
  score_goes s b h x p l g =
      record {
        comes = record { settings = g.comes.settings; outcome = g.comes.outcome; process = g.comes.process; plan = g.comes.plan; xi = g.comes.xi };
        sound = g.sound;
        beyond = g.beyond;
      }

  begin_goes : (s : LoopSettings) (b : List Float) (p : Loop) (l : Left) → Goes f s b p l → Goes f s b (begin p) l
  unfolding saying remains lent_after
  begin_goes s b p l g =
      record {
        comes = record { settings = g.comes.settings; outcome = g.comes.outcome; process = g.comes.process; plan = g.comes.plan; xi = g.comes.xi };
        sound = g.sound;
        beyond = g.beyond;
      }

  module _ (r : Run) (h : Ready r) (b : List Float) (l : Inner.Left) where
    -- the loop's run with what an answer left of its inner solve
    abbrev held : Run
    held = with_solve l.run r

    held_ready : l.run.set ≡ r.solve.set → Ready held
    held_ready e = solve_ready r l.run (ap (λ (s : Settings). s.n) e ∙ counts_n r h.1) h

    solved_ready : (e : Inner.Numbers) → l.run.set ≡ r.solve.set → e.iterations ≤ 10000 → Ready (solved e held)
    unfolding sized
    solved_ready e q m =
        let k = held_ready q in
        (h.0, counts_made (solved e held) (counts_left r h.1) (counts_outer r h.1) (counts_inner r h.1) m (counts_n held k.1))

    -- whatever process p the inner solve has come to, the loop has come to p inside it
    pub inner_goes : (p : Solve) → InnerRest.Goes f r.solve.set b p l → Goes f r.set r.beyond (inside f r p) (Move.inner f l r)
    unfolding within L.solved Move.carried saying remains lent_after lent_at plan_of given resume sized counts
    inner_goes (ask q k continue) g =
        let s = phase_ready held Phase.inner (held_ready g.comes.settings) in
        subst (λ (t : Inner.Told). Goes f r.set r.beyond (inside f r (ask q k continue)) (Move.carried f t held)) (sym g.comes.outcome)
        (record {
          comes = record { settings = refl; outcome = refl; process = rest_sound (record held { phase = Phase.inner }) s ∙ ap (inside f r) g.comes.process; plan = λ us. refl; xi = λ xs. refl };
          sound = s;
          beyond = refl;
        })
    inner_goes (score half x p) g =
        score_goes _ _ _ _ _ _
        (inner_goes p
        (record {
          comes = record { settings = g.comes.settings; outcome = g.comes.outcome; process = g.comes.process; plan = g.comes.plan };
          sound = g.sound;
          counted = g.counted;
          beyond = g.beyond;
        }))
    inner_goes (begin p) g =
        begin_goes _ _ _ _
        (inner_goes p
        (record {
          comes = record { settings = g.comes.settings; outcome = g.comes.outcome; process = g.comes.process; plan = g.comes.plan };
          sound = g.sound;
          counted = g.counted;
          beyond = g.beyond;
        }))
    inner_goes (stop (handed x)) g =
        let e = InnerRest.end_said x in
        let ended : l.told ≡ Say.Told.ended e = g.comes.outcome in
        let plan : l.run.state.at.best.point ≡ x.plan = sym (g.comes.plan [] ∙ ap (λ (t : Inner.Told). given t l.run.state.at.best.point []) ended) in
        let n : e.iterations ≤ 10000 = subst (λ (t : Inner.Told). InnerRest.Counted t) ended g.counted in
        subst (λ (t : Inner.Told). Goes f r.set r.beyond (inside f r (stop (handed x))) (Move.carried f t held)) (sym ended)
        (subst (λ (u : List Float). Goes f r.set r.beyond (L.ask_f1 f r.set (next_of f r) (record (found_of (solved e held)) { plan = u })) (Move.ask_f1 f (solved e held))) plan
        (ask_f1_goes (solved e held) (solved_ready e g.comes.settings n)))
    inner_goes (stop (refused k)) g =
        subst (λ (t : Inner.Told). Goes f r.set r.beyond (stop (refused k)) (Move.carried f t held)) (sym g.comes.outcome) (stops_goes held k h.0)
    inner_goes (stop (failed c)) g =
        subst (λ (t : Inner.Told). Goes f r.set r.beyond (stop (failed c)) (Move.carried f t held)) (sym g.comes.outcome) (fails_goes held c h.0)

-- The claim holds for an inner solve used alone. Assumes nothing.
use Rattle.std.specs.Prelude.{ℕ, suc, ◌≤◌, ◌≡◌, refl, true, List, [], ◌∷◌, Float}
use Rattle.std.proofs.Common.{sym, ◌∙◌, subst, arith}
use Rattle.std.proofs.Math.Path.{ap}
use Rattle.std.specs.Float.{Format}
use Rattle.model.specs.Process.{Handed, Solve, handed, refused, failed, ask, score, begin, stop}
use Rattle.model.specs.State.{Settings}
use Rattle.model.specs.Inner.{solve}
use Rattle.model.specs.Refusals.{inner_refusal, start_inner, remains, lent_after, lent_at, plan_of}
use Rattle.model.specs.Bounds.{AtMost, Weights, weigh, only_cost, only_gradient, only_project, only_direction, only_time}
use Rattle.model.proofs.Bounds.{at_most_more, solve_questions_at_most, solve_cost_at_most, solve_gradient_at_most, solve_project_at_most, solve_direction_at_most, solve_time_at_most}
use Rattle.model.specs.Scoring.{seen, nothing_yet, tracing}
use Rattle.model.specs.Carry.{end_of}
use Rattle.model.specs.Least.{Scored}
use Rattle.model.specs.Plans.{scoring, Ends, SolvePlan}
use Rattle.model.specs.Refusing.{Among}
use Rattle.model.proofs.Refusing.{solve_refuses}
use Rattle.model.proofs.Starts.{start_inner_ends}
use Rattle.model.proofs.EverySolve.{solve_traced}
use Rattle.machine.specs.Told as Say
use Rattle.machine.specs.Told.{saying}
use Rattle.machine.specs.Numbers.{table_number}
use Rattle.machine.specs.InnerRun.{Numbers, Run, Left}
use Rattle.machine.specs.InnerRest.{said, asked_of, end_said}
use Rattle.machine.specs.InnerCalls.{Starts, asking}
use Rattle.claim.specs.History.{Call, History}
use Rattle.claim.specs.Trace.{total_weight, remaining}
use Rattle.claim.specs.Claim.{Over, scores}
use Rattle.claim.specs.Lawful.{Gives, nothing, back, Lawful}
use Rattle.claim.proofs.Lawful.{gives_as, begins, numbered}
use Rattle.claim.proofs.Left.{scores_right, right_left, within_left}
use Rattle.claim.specs.Follow.{After, Back}
use Rattle.claim.proofs.Follow.{no_run, follow, follows, each_each, each_back}
use Rattle.claim.proofs.Chosen.{plan_is}
use Rattle.claim.specs.Inner.{inner_runs, trace_of, InnerHands, InnerClaim}

-- ---- the contract of the calls, in the shared terms

module _ (f : Format) where
  gives : (s : Settings) (q : Solve) → Gives (inner_runs f) s q
  unfolding saying lent_after lent_at end_of
  gives s (ask q k continue) = nothing refl (λ was. refl)
  gives s (score half norm p) = gives_as (inner_runs f) s refl refl (λ was. refl) (gives s p)
  gives s (begin p) = gives_as (inner_runs f) s refl refl (λ was. refl) (gives s p)
  gives s (stop (handed h)) = back h refl refl (λ was. refl)
  gives s (stop (refused m)) = nothing refl (λ was. refl)
  gives s (stop (failed c)) = nothing refl (λ was. refl)

  lawful : Lawful (inner_runs f)
  unfolding saying
  lawful =
      record {
        refuses = λ r a v us ws o t meets m e. meets.refused m e;
        accepts = λ r a v us ws o t meets e. let to = meets.accepted e in record { settings = to.settings; outcome = to.outcome; process = to.process; wrote = to.wrote };
        numbered = numbered asked_of end_said;
        gives = gives;
        hands = λ h. refl;
      }

-- ---- the claim

-- the plan of the model, on what is handed back
hands_is : (s : Settings) (es : List Scored) (h : Handed) (e : Numbers) (u : List Float) → SolvePlan s es h → said (stop (handed h)) ≡ Say.Told.ended e → u ≡ h.plan → InnerHands s es e u
unfolding saying
hands_is s es h e u p o w = subst (λ (v : List Float). InnerHands s es e v) (sym w) (subst (λ (d : Numbers). InnerHands s es d h.plan) same of)
  where
    of : InnerHands s es (end_said h) h.plan
    of = record { plan = plan_is p.plan; converged = p.converged; iterations = p.steps; most = p.within }

    same : end_said h ≡ e
    same = cc

beyond : (m : ℕ) → Among 10 16 m → 9 ≤ m
beyond m z = omega (arith, z.0)

module _ (f : Format) (s : Settings) (u : List Float) where
  -- the questions of a kind that were accepted
  spent : (w : Weights) (b c : ℕ) → AtMost (weigh w) (solve f s u) b → b ≤ c → (cs : List (Call (inner_runs f))) → total_weight (weigh w) (trace_of f s u cs) ≤ c
  spent w b c most l cs = omega (arith, (within_left (inner_runs f) s (solve f s u) (weigh w) b most cs).0)

  hands_one : (c : Call (inner_runs f)) (before : List (Call (inner_runs f)))
      → ((inner_runs f).hands c.outcome ≡ true → Back (inner_runs f) s (solve f s u) scoring (SolvePlan s) [] c before)
      → (e : Numbers) → c.outcome ≡ Say.Told.ended e → InnerHands s (scores (trace_of f s u (c ∷ before))) e c.wrote
  unfolding lent_after lent_at plan_of scores
  hands_one c before b e o = let z = b (ap (inner_runs f).hands o) in hands_is s _ z.what e c.wrote z.holds (sym z.outcome ∙ o) z.wrote

  module _ (a : Left) (begins_at : Starts f s u a) (taken : table_number a.told ≡ 0) where
    same_start : start_inner f s u ≡ solve f s u
    unfolding start_inner
    same_start = begins (inner_runs f) (lawful f) _ (solve f s u) a.told begins_at.outcome taken

    first : After (inner_runs f) s (solve f s u) [] a.run
    unfolding remaining
    first = record { settings = begins_at.settings; rest = begins_at.process ∙ ap remains same_start }

    ends : Ends (SolvePlan s) [] (solve f s u)
    ends = subst (Ends (SolvePlan s) []) same_start (start_inner_ends f s u)

    -- From an accepted start, whatever list of calls follows.
    pub inner_claim : {cs : List (Call (inner_runs f))} {t : Run} → History (inner_runs f) a.run cs t → InnerClaim f s u a.run cs t
    inner_claim {cs} h =
        record {
          follows = follows (inner_runs f) (lawful f) s (solve f s u) (Among 10 16) beyond (solve_refuses f s u) a.run first _
              (at_most_more _ (solve f s u) _ _ (omega arith) (solve_questions_at_most f s u)) h;
          points = λ xs xs' ys ys' z q e. z.points refl q
              (ap asking (follow (inner_runs f) (lawful f) s (solve f s u) (Among 10 16) beyond (solve_refuses f s u) a.run first h).rest ∙ e);
          costs = spent only_cost _ _ (solve_cost_at_most f s u) (omega arith) cs;
          gradients = spent only_gradient _ _ (solve_gradient_at_most f s u) (omega arith) cs;
          projections = spent only_project _ _ (solve_project_at_most f s u) (omega arith) cs;
          directions = spent only_direction _ _ (solve_direction_at_most f s u) (omega arith) cs;
          times = spent only_time _ _ (solve_time_at_most f s u) (omega arith) cs;
          scored = scores_right f seen (trace_of f s u cs) (right_left (inner_runs f) s (solve f s u) (tracing f seen) _ nothing_yet (solve_traced f s u) cs);
          plan = each_each _ _ hands_one cs (each_back (inner_runs f) (lawful f) s (solve f s u) (Among 10 16) beyond (solve_refuses f s u) a.run first scoring (SolvePlan s) [] ends h);
        }

  -- A start that the table refuses: its number, and no run.
  pub inner_no_run : (a : Left) → Starts f s u a → (m : ℕ) → inner_refusal s u ≡ suc m → (a.told ≡ Say.Told.refused (suc m)) × Over (inner_runs f) a.run
  unfolding start_inner saying
  inner_no_run a begins_at m e = no_run (inner_runs f) (lawful f) _ m (solve f s u) a.told a.run begins_at.outcome begins_at.process e

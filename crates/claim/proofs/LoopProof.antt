-- The claim holds for the multiplier loop. Assumes nothing.
use Rattle.std.specs.Prelude.{ℕ, suc, ◌≤◌, ◌≡◌, true, Float}
use Rattle.std.proofs.Math.Path.{refl, ap}
use Rattle.std.proofs.Common.{sym, ◌∙◌, subst, arith}
use mathlib.Core.List.{List, [], ◌∷◌}
use Rattle.std.specs.Float.{Format}
use Rattle.model.specs.Process.{LoopHanded, LoopQuestion, Loop, handed, refused, failed, ask, score, begin, stop}
use Rattle.model.specs.Loop.{LoopSettings}
use Rattle.model.specs.Refusals.{loop_refusal, penalty_in, multipliers_in, start_loop, remains, lent_after, lent_at, loop_plan, loop_xi}
use Rattle.model.specs.Bounds.{worst_case}
use Rattle.model.proofs.Bounds.{at_most_more}
use Rattle.model.proofs.LoopBounds.{loop_at_most}
use Rattle.model.specs.Scoring.{seen_in_loop, nothing_yet, tracing}
use Rattle.model.specs.Counts.{counting, LoopCount}
use Rattle.model.specs.Carry.{end_of}
use Rattle.model.specs.Plans.{scoring, Ends, LoopPlan}
use Rattle.model.specs.Refusing.{Refuses, Among}
use Rattle.model.proofs.Refusing.{loop_refuses}
use Rattle.model.proofs.Starts.{start_loop_ends}
use Rattle.model.proofs.EveryLoop.{loop_traced, loop_counted}
use Rattle.machine.specs.Told as Say
use Rattle.machine.specs.Told.{saying}
use Rattle.machine.specs.Numbers.{table_number}
use Rattle.machine.specs.InnerCalls.{asking}
use Rattle.machine.specs.LoopRun.{Numbers, Run, Left}
use Rattle.machine.specs.LoopRest.{said, asked_of, end_said}
use Rattle.machine.specs.LoopCalls.{Starts}
use Rattle.machine.specs.Machines.{Places}
use Rattle.claim.specs.History.{Runs, Call, History}
use Rattle.claim.specs.Trace.{remaining, Event}
use Rattle.claim.specs.Claim.{Over, scores, tally}
use Rattle.claim.specs.Loop.{loop_of, LoopHands, LoopClaim, loop_runs, trace_of}
use Rattle.claim.specs.Lawful.{Gives, nothing, back, Lawful}
use Rattle.claim.proofs.Lawful.{gives_as, begins, numbered}
use Rattle.claim.proofs.Left.{scores_right, right_left}
use Rattle.claim.specs.Follow.{After, Back}
use Rattle.claim.proofs.Follow.{no_run, follow, follows, each_both, each_back}
use Rattle.claim.proofs.Chosen.{plan_is}

-- ---- outcomes

end_is : (h : LoopHanded) (e : Numbers) → said (stop (handed h)) ≡ Say.Told.ended e → end_said h ≡ e
unfolding saying
end_is h e o = cc

beyond : (m : ℕ) → Among 10 18 m → 9 ≤ m
beyond m z = omega (arith, z.0)

places_is : {u u' xi xi' : List Float} → u ≡ u' → xi ≡ xi' → ◌≡◌ {A = Places} (record { u = u; xi = xi }) (record { u = u'; xi = xi' })
places_is a b = cc

module _ (f : Format) where
  -- the plan and the counts of the model, on what is handed back
  hands_is : (s : LoopSettings) (es : List (Event LoopQuestion)) (h j : LoopHanded) (e : Numbers) (w : Places) → LoopPlan f s (scores es) h → LoopCount (tally es) j
      → end_said h ≡ e → end_said j ≡ e → w ≡ record { u = h.plan; xi = loop_xi s h } → LoopHands f s es e w
  unfolding loop_xi
  hands_is s es h j e w p q o n z = subst (LoopHands f s es e) (sym z) (subst (λ (d : Numbers). LoopHands f s es d (record { u = h.plan; xi = loop_xi s h })) o of)
    where
      alike : end_said j ≡ end_said h
      alike = n ∙ sym o

      same_inner : j.inner ≡ h.inner
      same_inner = ap (λ (d : Numbers). d.inner) alike

      of : LoopHands f s es (end_said h) (record { u = h.plan; xi = loop_xi s h })
      of =
          record {
            plan = plan_is p.plan;
            converged = λ y. let t = p.converged y in (t.0, record { multipliers = t.1.multipliers; mapping = t.1.mapping; akkt = t.1.akkt });
            multipliers = (h.multipliers, p.size, refl);
            outer = sym (ap (λ (d : Numbers). d.outer) alike) ∙ q.solves;
            inner = omega (arith, same_inner, q.scores);
            least = p.least;
            most = p.most;
          }

  gives : (s : LoopSettings) (q : Loop) → Gives (loop_runs f) s q
  unfolding saying lent_after lent_at end_of
  gives s (ask q k continue) = nothing refl (λ was. refl)
  gives s (score half norm p) = gives_as (loop_runs f) s refl refl (λ was. refl) (gives s p)
  gives s (begin p) = gives_as (loop_runs f) s refl refl (λ was. refl) (gives s p)
  gives s (stop (handed h)) = back h refl refl (λ was. refl)
  gives s (stop (refused m)) = nothing refl (λ was. refl)
  gives s (stop (failed c)) = nothing refl (λ was. refl)

  lawful : Lawful (loop_runs f)
  unfolding saying
  lawful =
      record {
        refuses = λ r a v w w' o t meets m e. let no = meets.refused m e in (no.0, no.1, places_is no.2 no.3);
        accepts = λ r a v w w' o t meets e. let to = meets.accepted e in record { settings = to.settings; outcome = to.outcome; process = to.process; wrote = places_is to.plan to.xi };
        numbered = numbered asked_of end_said;
        gives = gives;
        hands = λ h. refl;
      }

module _ (f : Format) (s : LoopSettings) (u xi : List Float) where
  abbrev p : Loop
  p = loop_of f s u xi

  abbrev runs : Runs LoopQuestion LoopHanded
  runs = loop_runs f

  refusing : Refuses (Among 10 18) p
  refusing = loop_refuses f s u (penalty_in xi) (multipliers_in xi)

  hands_one : (c : Call runs) (before : List (Call runs)) → (runs.hands c.outcome ≡ true → Back runs s p scoring (LoopPlan f s) [] c before)
      → (runs.hands c.outcome ≡ true → Back runs s p counting LoopCount (record { solves = 0; scores = 0 }) c before)
      → (e : Numbers) → c.outcome ≡ Say.Told.ended e → LoopHands f s (trace_of f s u xi (c ∷ before)) e c.wrote
  unfolding lent_after lent_at loop_plan scores tally
  hands_one c before x y e o =
      let z = x (ap runs.hands o) in
      let w = y (ap runs.hands o) in
      hands_is f s _ z.what w.what e c.wrote z.holds w.holds (end_is z.what e (sym z.outcome ∙ o)) (end_is w.what e (sym w.outcome ∙ o)) z.wrote

  module _ (a : Left) (begins_at : Starts f s u xi a) (taken : table_number a.told ≡ 0) where
    same_start : start_loop f s u xi ≡ p
    unfolding start_loop
    same_start = begins runs (lawful f) _ p a.told begins_at.outcome taken

    first : After runs s p [] a.run
    unfolding remaining
    first = record { settings = begins_at.settings; rest = begins_at.process ∙ ap remains same_start }

    ends : Ends (LoopPlan f s) [] p
    ends = subst (Ends (LoopPlan f s) []) same_start (start_loop_ends f s u xi)

    -- From an accepted start, whatever list of calls follows.
    pub loop_claim : {cs : List (Call runs)} {t : Run} → History runs a.run cs t → LoopClaim f s u xi a.run cs t
    unfolding worst_case
    loop_claim {cs} h =
        record {
          follows = follows runs (lawful f) s p (Among 10 18) beyond refusing a.run first _ (at_most_more _ p _ _ (omega arith) (loop_at_most f s u (penalty_in xi) (multipliers_in xi))) h;
          points = λ xs xs' ys ys' z q e. z.points refl q (ap asking (follow runs (lawful f) s p (Among 10 18) beyond refusing a.run first h).rest ∙ e);
          scored = scores_right f seen_in_loop (trace_of f s u xi cs) (right_left runs s p (tracing f seen_in_loop) _ nothing_yet (loop_traced f s u (penalty_in xi) (multipliers_in xi)) cs);
          plan = each_both _ _ _ hands_one cs (each_back runs (lawful f) s p (Among 10 18) beyond refusing a.run first scoring (LoopPlan f s) [] ends h)
              (each_back runs (lawful f) s p (Among 10 18) beyond refusing a.run first counting LoopCount (record { solves = 0; scores = 0 }) (loop_counted f s u (penalty_in xi) (multipliers_in xi)) h);
        }

  -- A start that the table refuses: its number, and no run.
  pub loop_no_run : (a : Left) → Starts f s u xi a → (m : ℕ) → loop_refusal f s u xi ≡ suc m → (a.told ≡ Say.Told.refused (suc m)) × Over runs a.run
  unfolding start_loop saying
  loop_no_run a begins_at m e = no_run runs (lawful f) _ m p a.told a.run begins_at.outcome begins_at.process e

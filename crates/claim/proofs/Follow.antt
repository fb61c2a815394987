-- Every list of calls follows the process, for any kind of run that keeps its contract. Assumes nothing.
use Rattle.std.specs.Prelude.{ℕ, zero, suc, ◌-◌, ◌≤◌, ◌≡◌, refl, Bool, true, false, cond, ◌&&◌, List, [], ◌∷◌, leb, length}
use Rattle.std.proofs.Math.Path.{sym, ap}
use Rattle.std.proofs.Common.{◌∙◌, subst, true≢false, arith}
use Rattle.std.proofs.Math.Option.{Option, none, some}
use Rattle.std.proofs.lemmas.Bool.{lt-leb}
use Rattle.model.specs.Process.{Kind, Process, handed, refused, failed, ask, score, begin, stop}
use Rattle.model.specs.Refusals.{Reply, wanted, fits_kind, fits_length, answer_refusal, remains, or_refused}
use Rattle.model.specs.Bounds.{AtMost}
use Rattle.model.specs.Paths.{Watch, Along}
use Rattle.model.proofs.Carry.{at_most_ended}
use Rattle.model.specs.Refusing.{Refuses}
use Rattle.machine.specs.Waits.{of_no_kind, any_refusal}
use Rattle.claim.specs.History.{Runs, Call, Meets, History, begun, more}
use Rattle.claim.specs.Trace.{reply_of, refusal, leads_to, comes_to, remaining, trace, six_to_eight, turned_down, accepted, total_weight}
use Rattle.claim.specs.Claim.{Each, latest_run, Over, Follows}
use Rattle.claim.specs.Lawful.{refused_by, ComesTo, Gives, nothing, back, Lawful}
use Rattle.claim.proofs.Lawful.{refuses, accepts, gives_kept, refused_hands}
use Rattle.claim.proofs.Left.{named, left_accepted, left_refused, trace_accepted, trace_refused, total_weight_passed, total_weight_taken, asked_one, handed_left, within_left, awaits_accepted, awaits_left}
use Rattle.claim.specs.Follow.{After, Back, One}

-- ---- the table's numbers

down_by : (m n : ℕ) → n ≡ suc m → six_to_eight n ≡ true → six_to_eight (suc m) ≡ true
down_by m n e h = rw e at h

and_not : (a b : Bool) → b ≡ false → a && b ≡ false
and_not true b e = e
and_not false b e = refl

-- the table refuses an answer by 6, 7 or 8
table_down : (w : Option Kind) (r : Reply) (vs : ℕ) (lent : Bool) (m : ℕ) → answer_refusal w r vs lent ≡ suc m → six_to_eight (suc m) ≡ true
unfolding answer_refusal six_to_eight
table_down none r vs lent m e = down_by m 6 e refl
table_down (some k) r vs lent m e = by (fits_kind k r) (fits_length k r vs && lent) e
  where
    by : (a b : Bool) → cond a (cond b 0 8) 7 ≡ suc m → six_to_eight (suc m) ≡ true
    by true true w = absurd (omega arith)
    by true false w = down_by m 8 w refl
    by false b w = down_by m 7 w refl

any_down : (w : Option Kind) (a : Option Reply) (vs : ℕ) (lent : Bool) (m : ℕ) → any_refusal w a vs lent ≡ suc m → six_to_eight (suc m) ≡ true
unfolding any_refusal of_no_kind six_to_eight
any_down none none vs lent m e = down_by m 6 e refl
any_down (some k) none vs lent m e = down_by m 7 e refl
any_down w (some a) vs lent m e = table_down w a vs lent m e

-- where nothing is waited for, every answer gets 6
any_over : (a : Option Reply) (vs : ℕ) (lent : Bool) → any_refusal none a vs lent ≡ 6
unfolding any_refusal answer_refusal of_no_kind
any_over none vs lent = refl
any_over (some a) vs lent = refl

-- ---- ended

module _ {Q H : Type 0} (k : Runs Q H) (law : Lawful k) where
  -- a run that waits for nothing has ended
  over : (t : k.Run) → wanted (k.rest t) ≡ none → Over k t
  unfolding refusal refused_by
  over t e c meets =
      let same = refuses k law t c meets 5 (ap (λ (z : Option Kind). any_refusal z c.reply (length c.vector) (k.right (k.settings t) c.lent)) e ∙ any_over c.reply _ _) in
      (ap k.number same.0 ∙ law.numbered (stop (refused 6)), (same.1, same.2))

  -- a start that the table refuses: its number, and no run
  pub no_run : (j m : ℕ) (p : Process Q H) (o : k.Outcome) (r : k.Run) → o ≡ k.said (or_refused j p) → k.rest r ≡ remains (or_refused j p) → j ≡ suc m → (o ≡ k.said (stop (refused (suc m)))) × Over k r
  unfolding or_refused remains wanted
  no_run j m p o r e f z = (
    e ∙ ap (λ (i : ℕ). k.said (or_refused i p)) z,
    over r (ap wanted (f ∙ ap (λ (i : ℕ). remains (or_refused i p)) z)),
  )

-- ---- a list of calls

past_eight : (m : ℕ) → 9 ≤ m → six_to_eight m ≡ false
unfolding six_to_eight
past_eight m l = and_not (leb 6 m) _ (lt-leb m _ (omega arith))

-- a number by which nothing ends is none of 6 to 8
not_down : {Q H : Type 0} (P : ℕ → Type 0) → ((m : ℕ) → P m → 9 ≤ m) → (q : Process Q H) → Refuses P q → six_to_eight (refused_by q) ≡ false
unfolding refused_by six_to_eight
not_down P beyond (ask q k continue) t = refl
not_down P beyond (score half norm p) t = not_down P beyond p t
not_down P beyond (begin p) t = not_down P beyond p t
not_down P beyond (stop (handed h)) t = refl
not_down P beyond (stop (refused m)) t = past_eight m (beyond m t)
not_down P beyond (stop (failed c)) t = refl

pub each_both : {A : Type 0} (F G K : A → List A → Type 0) → ((c : A) (cs : List A) → F c cs → G c cs → K c cs) → (cs : List A) → Each F cs → Each G cs → Each K cs
each_both F G K go [] e d = tt
each_both F G K go (c ∷ cs) e d = (go c cs e.0 d.0, each_both F G K go cs e.1 d.1)

pub each_each : {A : Type 0} (F G : A → List A → Type 0) → ((c : A) (cs : List A) → F c cs → G c cs) → (cs : List A) → Each F cs → Each G cs
each_each F G go [] e = tt
each_each F G go (c ∷ cs) e = (go c cs e.0, each_each F G go cs e.1)

module _ {Q H : Type 0} (k : Runs Q H) (law : Lawful k) (s : k.Settings) (p : Process Q H) (P : ℕ → Type 0) (beyond : (m : ℕ) → P m → 9 ≤ m) (good : Refuses P p) where
  module _ (cs : List (Call k)) (t : k.Run) (a : After k s p cs t) (c : Call k) (meets : Meets k t c) where
    abbrev now : Process Q H
    now = remaining k s p cs

    here : refusal k (k.settings t) (k.rest t) c ≡ refusal k s now c
    here = ap (λ (z : k.Settings). refusal k z (k.rest t) c) a.settings ∙ ap (λ (z : Process Q H). refusal k s z c) a.rest

    -- the table refuses
    module _ (m : ℕ) (e : refusal k s now c ≡ suc m) where
      same : (c.outcome ≡ k.said (stop (refused (suc m)))) × (c.run ≡ t) × (c.wrote ≡ c.lent)
      same = refuses k law t c meets m (here ∙ e)

      comes_refused : comes_to k s now c ≡ stop (refused (suc m))
      unfolding comes_to or_refused
      comes_refused = rw e

      down : turned_down k c ≡ true
      unfolding turned_down refusal refused_by
      down = rw (same.0, law.numbered (stop (refused (suc m)))) (any_down (wanted now) c.reply (length c.vector) (k.right s c.lent) m e)

      count_same : accepted k cs ≡ total_weight (λ q. 1) (trace k s p cs) → accepted k (c ∷ cs) ≡ total_weight (λ q. 1) (trace k s p (c ∷ cs))
      unfolding accepted
      count_same h = rw (down, trace_refused k s p c cs m e) h

      one_refused : One k s p cs t c
      one_refused =
          record {
            after = record {
              settings = ap k.settings same.1 ∙ a.settings;
              rest = ap k.rest same.1 ∙ a.rest ∙ sym (left_refused k s p c cs m e);
            };
            says = same.0 ∙ ap k.said (sym comes_refused);
            writes = same.2 ∙ sym (gives_kept k law s (stop (refused (suc m))) (refused_hands k law s (suc m)) c.lent) ∙ ap (λ (z : Process Q H). k.written s z c.lent) (sym comes_refused);
            unchanged = λ d. (same.1, same.2);
            kept = λ d. same.2;
            count = count_same;
          }

    -- the answer is accepted
    module _ (e : refusal k s now c ≡ 0) where
      abbrev next : Process Q H
      next = leads_to k now c

      to : ComesTo k s (leads_to k now c) c.lent c.wrote c.outcome c.run
      to = subst (λ (z : k.Settings). ComesTo k z (leads_to k now c) c.lent c.wrote c.outcome c.run) a.settings (subst (λ (z : Process Q H). ComesTo k (k.settings t) (leads_to k z c) c.lent c.wrote c.outcome c.run) a.rest (accepts k law t c meets (here ∙ e)))

      comes_accepted : comes_to k s now c ≡ leads_to k now c
      unfolding comes_to or_refused
      comes_accepted = rw e

      up : turned_down k c ≡ false
      unfolding turned_down
      up = rw (to.outcome, law.numbered next) (not_down P beyond next (awaits_accepted k s p P c now (awaits_left k s p P good cs) e))

      count_more : accepted k cs ≡ total_weight (λ q. 1) (trace k s p cs) → accepted k (c ∷ cs) ≡ total_weight (λ q. 1) (trace k s p (c ∷ cs))
      unfolding accepted refusal
      count_more h =
          rw (up, trace_accepted k s p c cs e, total_weight_passed (λ q. 1) next)
          (omega (arith, h, total_weight_taken (λ q. 1) now (reply_of c.reply) c.vector (trace k s p cs), asked_one now (reply_of c.reply) (length c.vector) (k.right s c.lent) (named _ _ _ _ e)))

      one_accepted : One k s p cs t c
      one_accepted =
          record {
            after = record { settings = to.settings; rest = to.process ∙ sym (left_accepted k s p c cs e) };
            says = to.outcome ∙ ap k.said (sym comes_accepted);
            writes = to.wrote ∙ ap (λ (z : Process Q H). k.written s z c.lent) (sym comes_accepted);
            unchanged = λ d. absurd (true≢false (sym d ∙ up));
            kept = λ d. to.wrote ∙ gives_kept k law s next (ap k.hands (sym to.outcome) ∙ d) c.lent;
            count = count_more;
          }

    one : One k s p cs t c
    one = by (refusal k s now c) refl
      where
        by : (m : ℕ) → refusal k s now c ≡ m → One k s p cs t c
        by zero e = one_accepted e
        by (suc m) e = one_refused m e

  -- ---- the whole list

  module _ (r : k.Run) (first : After k s p [] r) where
    pub follow : {cs : List (Call k)} {t : k.Run} → History k r cs t → After k s p cs t
    follow begun = first
    follow (more {t = t} {cs = cs} h c meets) = (one cs t (follow h) c meets).after

    latest_is : {cs : List (Call k)} {t : k.Run} → History k r cs t → latest_run k r cs ≡ t
    latest_is begun = refl
    latest_is (more h c meets) = refl

    -- what holds of one call more holds of each
    pub each_one : (F : Call k → List (Call k) → Type 0) → ((cs : List (Call k)) (t : k.Run) (c : Call k) → latest_run k r cs ≡ t → One k s p cs t c → F c cs) → {cs : List (Call k)} {t : k.Run} → History k r cs t → Each F cs
    each_one F go begun = tt
    each_one F go (more {t = t} {cs = cs} h c meets) = (go cs t c (latest_is h) (one cs t (follow h) c meets), each_one F go h)

    counted : {cs : List (Call k)} {t : k.Run} → History k r cs t → accepted k cs ≡ total_weight (λ q. 1) (trace k s p cs)
    unfolding accepted trace total_weight
    counted begun = sym (total_weight_passed (λ q. 1) p [])
    counted (more {t = t} {cs = cs} h c meets) = (one cs t (follow h) c meets).count (counted h)

    -- where a call hands something back, P holds of it and of all that happened
    pub each_back : {S : Type 0} (w : Watch Q S) (R : S → H → Type 0) (x : S) → Along w R x p → {cs : List (Call k)} {t : k.Run} → History k r cs t
        → Each (λ c before. k.hands c.outcome ≡ true → Back k s p w R x c before) cs
    each_back w R x t h = each_one _ (λ cs u c e o. hand cs u c o) h
      where
        hand : (cs : List (Call k)) (u : k.Run) (c : Call k) → One k s p cs u c → k.hands c.outcome ≡ true → Back k s p w R x c cs
        hand cs u c o y = by (law.gives s (comes_to k s (remaining k s p cs) c))
          where
            by : Gives k s (comes_to k s (remaining k s p cs) c) → Back k s p w R x c cs
            by (nothing a b) = absurd (true≢false (sym y ∙ ap k.hands o.says ∙ a))
            by (back z a b d) = record { what = z; outcome = o.says ∙ b; wrote = o.writes ∙ d c.lent; holds = handed_left k s p w R x t c cs z a }

    module _ (b : ℕ) (most : AtMost (λ q. 1) p b) where
      pub follows : {cs : List (Call k)} {t : k.Run} → History k r cs t → Follows k s p b r cs t
      follows {cs} {t} h =
          record {
            rest = (follow h).rest;
            says = each_one _ (λ ds u c e o. o.says) h;
            writes = each_one _ (λ ds u c e o. o.writes) h;
            unchanged = each_one _ (λ ds u c e o d. ((o.unchanged d).0 ∙ sym e, (o.unchanged d).1)) h;
            kept = each_one _ (λ ds u c e o. o.kept) h;
            counted = counted h;
            bound = omega (arith, counted h, held.0);
            ended = λ e. over k law t (ap wanted (follow h).rest ∙ at_most_ended (remaining k s p cs) (subst (AtMost (λ q. 1) (remaining k s p cs)) (omega (arith, counted h, e)) held.1));
          }
        where
          held : (total_weight (λ q. 1) (trace k s p cs) ≤ b) × AtMost (λ q. 1) (remaining k s p cs) (b - total_weight (λ q. 1) (trace k s p cs))
          held = within_left k s p (λ q. 1) b most cs

-- Answers fed to a run one after the other, of any kind. Assumes nothing.
use Rattle.std.proofs.Common.{◌≡◌, refl, subst, ℕ, suc, ◌+◌, ◌<◌, ◌≤◌, List, [], ◌∷◌, length, Float, take, drop, get_or}
use Rattle.std.proofs.lemmas.List.{drop_more, drop_all}
use Rattle.std.proofs.Math.Option.{some}
use Rattle.model.specs.Process.{stop, refused}
use Rattle.machine.specs.Told as Say
use Rattle.panoc_engine.specs.declared.outcome.Outcome.{Outcome}
use Rattle.panoc_engine.specs.declared.outcome.Outcome.TheVariants as O
use Rattle.panoc_engine.specs.declared.outcome.Refusal.{Refusal}
use Rattle.panoc_engine.specs.Told.{telling}
use Rattle.panoc_engine.specs.Values.{reply_of}
use Rattle.claim.specs.History.{Runs, Call, AnswersAny, begun, more}
use Rattle.claim.specs.Claim.{Over}
use Rattle.claim.specs.History as P
use Rattle.whole_runs.specs.declared.answers.Answer.{Answer}
use Rattle.whole_runs.specs.Feed.{answers, Fed}
use Rattle.whole_runs.specs.Whole.{Ran}

-- ---- the calls
module _ {Q H : Type 0} (k : Runs Q H) where
  pub fed_none : (r : k.Run) (o : k.Outcome) (w : k.Lent) (xs : List P.Answer) → Fed k r o w xs xs o w r
  fed_none r o w xs = record { calls = []; answers = refl; history = begun; handed_on = tt; outcome = refl; wrote = refl }

  module _ {r : k.Run} {o : k.Outcome} {w : k.Lent} {xs : List P.Answer} {o' : k.Outcome} {w' : k.Lent} {t : k.Run} where
    -- one call more, that meets the contract
    pub fed_next : (a : P.Answer) (rest : List P.Answer) → Fed k r o w xs (a ∷ rest) o' w' t → (o'' : k.Outcome) (w'' : k.Lent) (t'' : k.Run) → AnswersAny k t a.reply a.vector w' w'' o'' t'' → Fed k r o w xs rest o'' w'' t''
    fed_next a rest h o'' w'' t'' meets =
        let c : Call k = record { reply = a.reply; vector = a.vector; lent = w'; wrote = w''; outcome = o''; run = t'' } in
        record { calls = c ∷ h.calls; answers = h.answers; history = more h.history c meets; handed_on = (h.wrote, h.handed_on); outcome = refl; wrote = refl }

    -- the answer at place i of the lent list
    pub fed_more : (list : List Answer) (floats : List Float) (i : ℕ) (d : Answer) → i < length list → Fed k r o w xs (answers (drop i list) floats) o' w' t
        → (v rest : List Float) → v ≡ take ((get_or list i d).length) floats → rest ≡ drop ((get_or list i d).length) floats
        → (o'' : k.Outcome) (w'' : k.Lent) (t'' : k.Run) → AnswersAny k t (some (reply_of ((get_or list i d).reply))) v w' w'' o'' t'' → Fed k r o w xs (answers (drop (i + 1) list) rest) o'' w'' t''
    fed_more list floats i d l h v rest e g o'' w'' t'' meets =
        let a : P.Answer = record { reply = some (reply_of ((get_or list i d).reply)); vector = v } in
        fed_next a (answers (drop (i + 1) list) rest) (rw (e, g) (subst (λ (m : List Answer). Fed k r o w xs (answers m floats) o' w' t) (drop_more list i d l) h)) o'' w'' t'' meets

    -- the whole list
    pub fed_all : (list : List Answer) (floats : List Float) (i : ℕ) → length list ≤ i → Fed k r o w xs (answers (drop i list) floats) o' w' t → Fed k r o w xs [] o' w' t
    fed_all list floats i l h = subst (λ (m : List Answer). Fed k r o w xs (answers m floats) o' w' t) (drop_all i list l) h

-- ---- what a start told

-- an outcome that is a refusal
pub told_refused : {Q E A H : Type 0} (asks : Q → A) (ends : E → H) (o : Outcome Q E) (m : ℕ) → telling asks ends o ≡ Say.Told.refused m → (r : Refusal) × (o ≡ O.Refused r)
told_refused asks ends (O.Asked q) m e = absurd cc
told_refused asks ends (O.Ended x) m e = absurd cc
told_refused asks ends (O.Refused r) m e = (r, refl)
told_refused asks ends (O.Failed c) m e = absurd cc

module _ {Q H : Type 0} (k : Runs Q H) (n : ℕ) {Starts : k.Outcome → k.Run → Type 0} {Claim : k.Run → List (Call k) → k.Run → Type 0} (told : k.Outcome) (r : k.Run) (starts : Starts told r) (w : k.Lent) (xs : List P.Answer)
    (no_run : (m : ℕ) → n ≡ suc m → (told ≡ k.said (stop (refused (suc m)))) × Over k r) where
  -- a start that is refused
  pub ran_refused : (n ≡ 0 → ⊥) → Ran k n Starts Claim w w xs told r
  ran_refused z =
      record {
        told = told;
        begun = r;
        starts = starts;
        refused = λ m e. ((no_run m e).0, (no_run m e).1, refl);
        fed = λ e. absurd (z e);
        claim = λ e. absurd (z e);
      }

  -- one that is accepted
  pub ran_fed : ((m : ℕ) → told ≡ k.said (stop (refused m)) → ⊥) → {w' : k.Lent} {o : k.Outcome} {t : k.Run} (h : Fed k r told w xs [] o w' t) → (n ≡ 0 → Claim r h.calls t) → Ran k n Starts Claim w w' xs o t
  ran_fed z h c =
      record {
        told = told;
        begun = r;
        starts = starts;
        refused = λ m e. absurd (z (suc m) ((no_run m e).0));
        fed = λ e. h;
        claim = c;
      }

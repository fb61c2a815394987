-- What a call for C comes to, refused or not. Assumes nothing.
use Rattle.std.proofs.Common.{◌≡◌, refl, ap, sym, subst, ◌∙◌, ℕ, ◌≤◌, Bool, true, false, cond, ◌&&◌, eqb, eqb-true, List, length, Float, arith}
use Rattle.std.proofs.Math.Option.{Option, none, some}
use Rattle.std.specs.Float.{binary64}
use Rattle.model.specs.Process.{Kind}
use Rattle.model.specs.State as S
use Rattle.model.specs.Refusals.{Reply, answer_refusal, fits_kind, fits_length, fits_places, given, as_number, as_vector, as_decision, may_fail}
use Rattle.board.specs.Board.{vector, board_of, BEST}
use Rattle.machine.specs.Told as Say
use Rattle.machine.specs.Waits.{unless_refused, of_no_kind, any_refusal}
use Rattle.machine.specs.Numbers.{outcome_number}
use Rattle.machine.specs.InnerRun as M
use Rattle.machine.specs.InnerAnswer.{wanted_by, refused_by, turns, plan_after, answered, answer, answer_any}
use Rattle.machine.proofs.InnerAnswers.{answered_takes}
use Rattle.panoc_engine.specs.declared.panoc_cache.Solve.{Solve}
use Rattle.panoc_engine.specs.declared.outcome.Refusal.{Refusal}
use Rattle.panoc_engine.specs.Told.{refusal_number}
use Rattle.panoc_engine.specs.Runs.{run_of}
use Rattle.panoc_engine.proofs.Answered.{accepted_stands}
use Rattle.panoc_engine.proofs.Numbers.{refusal_some}
use Rattle.panoc_fields.specs.declared.fields.InnerC.{InnerC}
use Rattle.panoc_fields.specs.Fields.{Seen, solve_at, run_at, seen, exact, handed, refusal_at, answer_at, Leaves}

-- an answer of no kind has a number too
pub of_no_kind_some : (w : Option Kind) → of_no_kind w ≡ 0 → ⊥
unfolding of_no_kind
of_no_kind_some none e = omega arith
of_no_kind_some (some k) e = omega arith

-- where nothing is refused the lent place fits
accepted_at : (w : Option Kind) (a : Reply) (vs : ℕ) (t : Bool) → answer_refusal w a vs t ≡ 0 → (t ≡ true) × (answer_refusal w a vs true ≡ 0)
unfolding answer_refusal
accepted_at none a vs t e = absurd (omega arith)
accepted_at (some k) a vs true e = (refl, e)
accepted_at (some k) a vs false e = absurd (by (fits_kind k a) (fits_length k a vs) e)
  where
    by : (c d : Bool) → ◌≡◌ {A = ℕ} (cond c (cond (d && false) 0 8) 7) 0 → ⊥
    by true true w = omega arith
    by true false w = omega arith
    by false d w = omega arith

-- the lent plan by what is told
pub handed_as : {Q E : Type 0} (t : Say.Told Q E) (k : ℕ) (h us : List Float) → k ≡ outcome_number t → cond (eqb k 1) h us ≡ Say.given t h us
unfolding Say.given
handed_as (Say.Told.asked q) k h us e = rw e refl
handed_as (Say.Told.ended x) k h us e = rw e refl
handed_as (Say.Told.refused c) k h us e = rw e refl
handed_as (Say.Told.failed c) k h us e = rw e refl

module _ (was : InnerC) (v us : List Float) (s : Solve) (i : s ≡ solve_at was.inner) (w : Option Kind) (d : (l : List Float) → w ≡ wanted_by (run_of s l)) where
  e : w ≡ wanted_by (run_at was.inner was.board)
  e = d was.board ∙ ap (λ (o : Solve). wanted_by (run_of o was.board)) i

  -- a refused answer
  pub leaves_of_no_kind : (o : Option Reply) (number : ℕ) → none ≡ o → number ≡ of_no_kind w → Leaves o v us us was was number
  unfolding any_refusal
  leaves_of_no_kind o number q z =
      subst (λ (o : Option Reply). Leaves o v us us was was number) q
      (record { refused = λ k t. (z ∙ ap of_no_kind e ∙ t, refl, refl); accepted = λ t. absurd (of_no_kind_some _ t) })

  module _ (a : Reply) (o : Option Reply) (q : some a ≡ o) where
    pub leaves_refused : (k : Refusal) → refusal_number k ≡ answer_refusal w a (length v) (eqb (length us) was.inner.n) → Leaves o v us us was was (refusal_number k)
    unfolding any_refusal
    leaves_refused k z =
        let y : refusal_number k ≡ refusal_at was (some a) (length v) (length us) = z ∙ ap (λ (x : Option Kind). answer_refusal x a (length v) (eqb (length us) was.inner.n)) e in
        subst (λ (o : Option Reply). Leaves o v us us was was (refusal_number k)) q
        (record { refused = λ j t. (y ∙ t, refl, refl); accepted = λ t. absurd (refusal_some k (y ∙ t)) })

    -- one that nothing refuses
    module _ (z : 0 ≡ answer_refusal w a (length v) (eqb (length us) was.inner.n)) where
      pub accepted_places : answer_refusal (wanted_by (run_at was.inner was.board)) a (length v) true ≡ 0
      accepted_places = sym (ap (λ (x : Option Kind). answer_refusal x a (length v) true) e) ∙ (accepted_at w a (length v) _ (sym z)).1

      pub accepted_size : length us ≡ was.inner.n
      accepted_size = eqb-true (length us) was.inner.n ((accepted_at w a (length v) _ (sym z)).0)

      pub accepted_room : 576 ≤ length was.board → length us ≤ 64
      accepted_room p = let h = accepted_stands (solve_at was.inner) was.board a (length v) p accepted_places in omega (arith, accepted_size, h.size)

      module _ (is : InnerC) (r : ℕ) (ws : List Float) (g : seen r is.inner is.board ≡ exact (answered binary64 (run_at was.inner was.board) a v) was.inner.end) (h : ws ≡ handed is us) where
        abbrev left : M.Left
        left = answered binary64 (run_at was.inner was.board) a v

        plan_given : ws ≡ plan_after left us
        unfolding run_of board_of
        plan_given =
            let c = (answered_takes binary64 (run_at was.inner was.board) a v (length v) true accepted_places).settings in
            let m : run_at is.inner is.board ≡ left.run = ap (λ (x : Seen). x.run) g in
            let n : is.inner.n ≡ was.inner.n = ap (λ (x : M.Run). x.set.n) m ∙ ap (λ (x : S.Settings). x.n) c in
            h
            ∙ handed_as left.told is.inner.outcome (vector BEST (length us) is.board) us (ap (λ (x : Seen). x.outcome) g)
            ∙ ap (λ (k : ℕ). Say.given left.told (vector BEST k is.board) us) (accepted_size ∙ sym n)
            ∙ ap (λ (x : M.Run). Say.given left.told x.state.at.best.point us) m

        pub leaves_goes : Leaves o v us ws was is r
        unfolding run_of any_refusal answer_any answer refused_by
        leaves_goes =
            let y : refusal_at was (some a) (length v) (length us) ≡ 0 = sym (z ∙ ap (λ (x : Option Kind). answer_refusal x a (length v) (eqb (length us) was.inner.n)) e) in
            let t : answer_at was (some a) v us ≡ left = ap (λ (k : ℕ). unless_refused k (turns (run_at was.inner was.board)) left) y in
            subst (λ (o : Option Reply). Leaves o v us ws was is r) q
            (record {
              refused = λ j n. absurd (omega (arith, y, n));
              accepted = λ n. (g ∙ ap (λ (l : M.Left). exact l was.inner.end) (sym t), plan_given ∙ ap (λ (l : M.Left). plan_after l us) (sym t));
            })

-- the length of a vector lent beside a number or a decision does not matter
pub number_any : (w : Option Kind) (x : Float) (vs : ℕ) → answer_refusal w (Reply.number x) vs true ≡ 0 → answer_refusal w (Reply.number x) 0 true ≡ 0
unfolding answer_refusal fits_kind fits_length fits_places given as_number as_vector as_decision may_fail
number_any none x vs e = e
number_any (some Kind.number) x vs e = e
number_any (some (Kind.vector n)) x vs e = e
number_any (some (Kind.direction n)) x vs e = e
number_any (some Kind.decision) x vs e = e

pub yes_any : (w : Option Kind) (vs : ℕ) → answer_refusal w Reply.yes vs true ≡ 0 → answer_refusal w Reply.yes 0 true ≡ 0
unfolding answer_refusal fits_kind fits_length fits_places given as_number as_vector as_decision may_fail
yes_any none vs e = e
yes_any (some Kind.number) vs e = e
yes_any (some (Kind.vector n)) vs e = e
yes_any (some (Kind.direction n)) vs e = e
yes_any (some Kind.decision) vs e = e

pub no_any : (w : Option Kind) (vs : ℕ) → answer_refusal w Reply.no vs true ≡ 0 → answer_refusal w Reply.no 0 true ≡ 0
unfolding answer_refusal fits_kind fits_length fits_places given as_number as_vector as_decision may_fail
no_any none vs e = e
no_any (some Kind.number) vs e = e
no_any (some (Kind.vector n)) vs e = e
no_any (some (Kind.direction n)) vs e = e
no_any (some Kind.decision) vs e = e

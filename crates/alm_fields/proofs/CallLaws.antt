-- What a call for C comes to, refused or not. Assumes nothing.
use Rattle.std.proofs.Common.{◌≡◌, refl, ap, sym, subst, ◌∙◌, ℕ, ◌≤◌, Bool, true, List, length, Float, arith}
use Rattle.std.proofs.Math.Option.{Option, none, some}
use Rattle.std.specs.Float.{binary64}
use Rattle.model.specs.Process.{Kind}
use Rattle.model.specs.Refusals.{Reply, answer_refusal}
use Rattle.board.specs.Board.{vector, U, Y_PLUS}
use Rattle.machine.specs.Waits.{of_no_kind, any_refusal}
use Rattle.machine.specs.LoopCalls.{lent_right}
use Rattle.machine.specs.LoopRun as L
use Rattle.machine.specs.LoopAnswer.{wanted_by, refused_by, plan_after, xi_after, answered, answer_any}
use Rattle.panoc_engine.specs.declared.panoc_cache.Reply as C
use Rattle.panoc_engine.specs.declared.outcome.Refusal.{Refusal}
use Rattle.panoc_engine.specs.Told.{refusal_number}
use Rattle.panoc_engine.specs.Values.{reply_of}
use Rattle.panoc_engine.proofs.Numbers.{refusal_some}
use Rattle.panoc_fields.proofs.CallLaws.{of_no_kind_some, handed_as}
use Rattle.alm_engine.specs.Values.{loop_settings_of}
use Rattle.alm_engine.specs.LoopRuns.{loop_run}
use Rattle.alm_optimizer.specs.Calls.{xi_filled}
use Rattle.alm_optimizer.proofs.Answers as Given
use Rattle.alm_fields.specs.declared.fields.AlmC.{AlmC}
use Rattle.alm_fields.specs.Fields.{Seen, settings_at, alm_at, loop_run_at, seen, exact, handed_plan, handed_xi, refusal_at, answer_at, Leaves}

module _ (was : AlmC) (v us xs : List Float) (w : Option Kind) (d : (l : List Float) → w ≡ wanted_by (loop_run_at was.inner was.alm l)) (t : Bool)
    (f : t ≡ lent_right (loop_settings_of (settings_at was.alm)) (length us) (length xs)) where
  e : w ≡ wanted_by (loop_run_at was.inner was.alm was.board)
  e = d was.board

  -- a refused answer
  pub leaves_of_no_kind : (o : Option Reply) (number : ℕ) → none ≡ o → number ≡ of_no_kind w → Leaves o v us us xs xs was was number
  unfolding any_refusal
  leaves_of_no_kind o number q z =
      subst (λ (o : Option Reply). Leaves o v us us xs xs was was number) q
      (record { refused = λ k t. (z ∙ ap of_no_kind e ∙ t, refl, refl, refl); accepted = λ t. absurd (of_no_kind_some _ t) })

  module _ (a : C.Reply) (o : Option Reply) (q : some (reply_of a) ≡ o) where
    refusal_is : answer_refusal w (reply_of a) (length v) t ≡ refusal_at was (some (reply_of a)) (length v) (length us) (length xs)
    unfolding any_refusal
    refusal_is =
        ap (λ (x : Option Kind). answer_refusal x (reply_of a) (length v) t) e
        ∙ ap (λ (x : Bool). answer_refusal (wanted_by (loop_run_at was.inner was.alm was.board)) (reply_of a) (length v) x) f

    pub leaves_refused : (k : Refusal) → refusal_number k ≡ answer_refusal w (reply_of a) (length v) t → Leaves o v us us xs xs was was (refusal_number k)
    leaves_refused k z =
        let y : refusal_number k ≡ refusal_at was (some (reply_of a)) (length v) (length us) (length xs) = z ∙ refusal_is in
        subst (λ (o : Option Reply). Leaves o v us us xs xs was was (refusal_number k)) q
        (record { refused = λ j t. (y ∙ t, refl, refl, refl); accepted = λ t. absurd (refusal_some k (y ∙ t)) })

    -- one that nothing refuses
    module _ (z : 0 ≡ answer_refusal w (reply_of a) (length v) t) where
      accepts : 0 ≡ refused_by (loop_run_at was.inner was.alm was.board) (reply_of a) (length v) (length us) (length xs)
      unfolding refused_by any_refusal loop_run
      accepts = z ∙ refusal_is

      pub accepted_places : answer_refusal (wanted_by (loop_run_at was.inner was.alm was.board)) (reply_of a) (length v) true ≡ 0
      accepted_places = Given.accepted_places (alm_at was.inner was.alm) was.board a v us xs accepts

      pub accepted_room : (length us ≤ 64) × (length xs ≤ 64)
      accepted_room =
          let h = Given.accepted_us (alm_at was.inner was.alm) was.board a v us xs accepts in
          let k = Given.accepted_xs (alm_at was.inner was.alm) was.board a v us xs accepts in
          (h, omega (arith, k))

      module _ (is : AlmC) (r : ℕ) (us' xs' : List Float)
          (g : seen r is.inner is.alm is.board ≡ exact (answered binary64 (loop_run_at was.inner was.alm was.board) (reply_of a) v) was.alm.end)
          (hu : us' ≡ handed_plan is us) (hx : xs' ≡ handed_xi is xs) (p : 576 ≤ length is.board) where
        abbrev left : L.Left
        left = answered binary64 (loop_run_at was.inner was.alm was.board) (reply_of a) v

        leaves_is : (let y : L.Left = record { told = left.told; run = loop_run_at is.inner is.alm is.board } in y) ≡ left
        leaves_is = ap (λ (x : L.Run). let y : L.Left = record { told = left.told; run = x } in y) (ap (λ (x : Seen). x.run) g)

        answer_is : left ≡ answer_at was (some (reply_of a)) v us xs
        unfolding answer_any
        answer_is = Given.answer_goes (alm_at was.inner was.alm) was.board a v us xs accepts

        plan_is : us' ≡ plan_after (answer_at was (some (reply_of a)) v us xs) us
        unfolding answer_any
        plan_is =
            hu
            ∙ handed_as left.told is.inner.outcome (vector U (length us) is.board) us (ap (λ (x : Seen). x.outcome) g)
            ∙ Given.plan_given (alm_at was.inner was.alm) was.board a v us xs accepts left.told (alm_at is.inner is.alm) is.board leaves_is p

        xi_is : xs' ≡ xi_after (answer_at was (some (reply_of a)) v us xs) xs
        unfolding answer_any
        xi_is =
            hx
            ∙ handed_as left.told is.inner.outcome (xi_filled Y_PLUS is.alm.numbers.penalty is.board xs) xs (ap (λ (x : Seen). x.outcome) g)
            ∙ Given.xi_given (alm_at was.inner was.alm) was.board a v us xs accepts left.told (alm_at is.inner is.alm) is.board leaves_is

        pub leaves_goes : Leaves o v us us' xs xs' was is r
        leaves_goes =
            let y : refusal_at was (some (reply_of a)) (length v) (length us) (length xs) ≡ 0 = sym (z ∙ refusal_is) in
            subst (λ (o : Option Reply). Leaves o v us us' xs xs' was is r) q
            (record {
              refused = λ j n. absurd (omega (arith, y, n));
              accepted = λ n. (g ∙ ap (λ (l : L.Left). exact l was.alm.end) answer_is, plan_is, xi_is);
            })

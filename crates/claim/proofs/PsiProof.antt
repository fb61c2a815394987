-- The claim holds for psi and d_psi. Assumes nothing.
use Rattle.std.specs.Prelude.{ℕ, suc, ◌≤◌, ◌≡◌, refl, true, List, [], Float, length}
use Rattle.std.proofs.Common.{ap, ◌∙◌, arith}
use Rattle.std.specs.Float.{Format}
use Rattle.model.specs.Process.{Psi, DPsi, handed, refused, failed, ask, score, begin, stop}
use Rattle.model.specs.Psi.{Sizes}
use Rattle.model.specs.Refusals.{psi_refusal, penalty_in, multipliers_in, start_psi, start_d_psi, remains, lent_after, lent_at}
use Rattle.model.proofs.Bounds.{at_most_more, psi_at_most, d_psi_at_most}
use Rattle.model.specs.Carry.{end_of}
use Rattle.model.specs.Plans.{scoring}
use Rattle.model.proofs.EveryPsi.{d_psi_ends}
use Rattle.model.proofs.Refusing.{psi_refuses, d_psi_refuses}
use Rattle.machine.specs.Told as Say
use Rattle.machine.specs.Told.{saying}
use Rattle.machine.specs.Numbers.{table_number}
use Rattle.machine.specs.InnerCalls.{asking}
use Rattle.machine.specs.PsiRun.{PsiRun, PsiLeft, DPsiRun, DPsiLeft}
use Rattle.machine.specs.PsiRest.{asked_of, psi_tells, d_psi_tells}
use Rattle.machine.specs.PsiCalls.{PsiStarts, DPsiStarts}
use Rattle.machine.proofs.PsiLaws.{psi_starts, d_psi_starts}
use Rattle.claim.specs.History.{Call, History}
use Rattle.claim.specs.Trace.{remaining}
use Rattle.claim.specs.Claim.{Over}
use Rattle.claim.specs.Psi.{psi_runs, psi_of, PsiClaim, d_psi_runs, d_psi_of, DPsiClaim}
use Rattle.claim.specs.Lawful.{Gives, nothing, back, Lawful}
use Rattle.claim.proofs.Lawful.{gives_as, begins, numbered}
use Rattle.claim.specs.Follow.{After, Back}
use Rattle.claim.proofs.Follow.{no_run, follow, follows, each_each, each_back}

beyond : (m : ℕ) → ⊥ → 9 ≤ m
beyond m z = absurd z

module _ (f : Format) where
  -- ---- the contracts of the calls, in the shared terms

  psi_gives : (s : Sizes) (q : Psi) → Gives (psi_runs f) s q
  unfolding saying end_of
  psi_gives s (ask q k continue) = nothing refl (λ was. refl)
  psi_gives s (score half norm p) = gives_as (psi_runs f) s refl refl (λ was. refl) (psi_gives s p)
  psi_gives s (begin p) = gives_as (psi_runs f) s refl refl (λ was. refl) (psi_gives s p)
  psi_gives s (stop (handed h)) = back h refl refl (λ was. refl)
  psi_gives s (stop (refused m)) = nothing refl (λ was. refl)
  psi_gives s (stop (failed c)) = nothing refl (λ was. refl)

  psi_lawful : Lawful (psi_runs f)
  unfolding saying
  psi_lawful =
      record {
        refuses = λ r a v w w' o t meets m e. let no = meets.refused m e in (no.0, no.1, refl);
        accepts = λ r a v w w' o t meets e. let to = meets.accepted e in record { settings = to.sizes; outcome = to.outcome; process = to.process; wrote = refl };
        numbered = numbered asked_of psi_tells;
        gives = psi_gives;
        hands = λ h. refl;
      }

  d_psi_gives : (s : Sizes) (q : DPsi) → Gives (d_psi_runs f) s q
  unfolding saying lent_after lent_at end_of
  d_psi_gives s (ask q k continue) = nothing refl (λ was. refl)
  d_psi_gives s (score half norm p) = gives_as (d_psi_runs f) s refl refl (λ was. refl) (d_psi_gives s p)
  d_psi_gives s (begin p) = gives_as (d_psi_runs f) s refl refl (λ was. refl) (d_psi_gives s p)
  d_psi_gives s (stop (handed h)) = back h refl refl (λ was. refl)
  d_psi_gives s (stop (refused m)) = nothing refl (λ was. refl)
  d_psi_gives s (stop (failed c)) = nothing refl (λ was. refl)

  d_psi_lawful : Lawful (d_psi_runs f)
  unfolding saying
  d_psi_lawful =
      record {
        refuses = λ r a v us ws o t meets m e. meets.refused m e;
        accepts = λ r a v us ws o t meets e. let to = meets.accepted e in record { settings = to.comes.sizes; outcome = to.comes.outcome; process = to.comes.process; wrote = to.wrote };
        numbered = numbered asked_of d_psi_tells;
        gives = d_psi_gives;
        hands = λ h. refl;
      }

-- ---- psi

module _ (f : Format) (s : Sizes) (u xi : List Float) where
  module _ (a : PsiLeft) (begins_at : PsiStarts s u xi a) (taken : table_number a.told ≡ 0) where
    psi_same : start_psi f s u xi ≡ psi_of f s u xi
    unfolding start_psi
    psi_same = begins (psi_runs f) (psi_lawful f) _ (psi_of f s u xi) a.told (psi_starts f s u xi a begins_at).outcome taken

    psi_first : After (psi_runs f) s (psi_of f s u xi) [] a.run
    unfolding remaining
    psi_first = let c = psi_starts f s u xi a begins_at in record { settings = c.sizes; rest = c.process ∙ ap remains psi_same }

    -- From an accepted start of psi, whatever list of calls follows.
    pub psi_claim : {cs : List (Call (psi_runs f))} {t : PsiRun} → History (psi_runs f) a.run cs t → PsiClaim f s u xi a.run cs t
    psi_claim h =
        let refusing = psi_refuses f s u (penalty_in xi) (multipliers_in xi) in
        record {
          follows = follows (psi_runs f) (psi_lawful f) s (psi_of f s u xi) (λ k. ⊥) beyond refusing a.run psi_first _ (at_most_more _ (psi_of f s u xi) _ _ (omega arith) (psi_at_most f s u (penalty_in xi) (multipliers_in xi))) h;
          points = λ xs xs' ys ys' z q e. z.points refl q (ap asking (follow (psi_runs f) (psi_lawful f) s (psi_of f s u xi) (λ k. ⊥) beyond refusing a.run psi_first h).rest ∙ e);
        }

  -- A start that the table refuses: its number, and no run.
  pub psi_no_run : (a : PsiLeft) → PsiStarts s u xi a → (m : ℕ) → psi_refusal s (length u) (length xi) ≡ suc m → (a.told ≡ Say.Told.refused (suc m)) × Over (psi_runs f) a.run
  unfolding start_psi saying
  psi_no_run a begins_at m e = let c = psi_starts f s u xi a begins_at in no_run (psi_runs f) (psi_lawful f) _ m (psi_of f s u xi) a.told a.run c.outcome c.process e

  -- ---- d_psi
  module _ (a : DPsiLeft) (begins_at : DPsiStarts s u xi a) (taken : table_number a.told ≡ 0) where
    d_psi_same : start_d_psi f s u xi ≡ d_psi_of f s u xi
    unfolding start_d_psi
    d_psi_same = begins (d_psi_runs f) (d_psi_lawful f) _ (d_psi_of f s u xi) a.told (d_psi_starts f s u xi a begins_at).outcome taken

    d_psi_first : After (d_psi_runs f) s (d_psi_of f s u xi) [] a.run
    unfolding remaining
    d_psi_first = let c = d_psi_starts f s u xi a begins_at in record { settings = c.sizes; rest = c.process ∙ ap remains d_psi_same }

    result_one : (c : Call (d_psi_runs f)) (before : List (Call (d_psi_runs f)))
        → ((d_psi_runs f).hands c.outcome ≡ true → Back (d_psi_runs f) s (d_psi_of f s u xi) scoring (λ scores g. length g ≡ s.n) [] c before) → c.outcome ≡ Say.Told.ended tt → length c.wrote ≡ s.n
    unfolding lent_after lent_at
    result_one c before b o = let z = b (ap (d_psi_runs f).hands o) in ap length z.wrote ∙ z.holds

    -- From an accepted start of d_psi, whatever list of calls follows.
    pub d_psi_claim : {cs : List (Call (d_psi_runs f))} {t : DPsiRun} → History (d_psi_runs f) a.run cs t → DPsiClaim f s u xi a.run cs t
    d_psi_claim {cs} h =
        let refusing = d_psi_refuses f s u (penalty_in xi) (multipliers_in xi) in
        record {
          follows = follows (d_psi_runs f) (d_psi_lawful f) s (d_psi_of f s u xi) (λ k. ⊥) beyond refusing a.run d_psi_first _ (at_most_more _ (d_psi_of f s u xi) _ _ (omega arith) (d_psi_at_most f s u (penalty_in xi) (multipliers_in xi))) h;
          points = λ xs xs' ys ys' z q e. z.points refl q (ap asking (follow (d_psi_runs f) (d_psi_lawful f) s (d_psi_of f s u xi) (λ k. ⊥) beyond refusing a.run d_psi_first h).rest ∙ e);
          result = each_each _ _ result_one cs
              (each_back (d_psi_runs f) (d_psi_lawful f) s (d_psi_of f s u xi) (λ k. ⊥) beyond refusing a.run d_psi_first scoring (λ scores g. length g ≡ s.n) [] (d_psi_ends f s u (penalty_in xi) (multipliers_in xi)) h);
        }

  -- A start that the table refuses: its number, and no run.
  pub d_psi_no_run : (a : DPsiLeft) → DPsiStarts s u xi a → (m : ℕ) → psi_refusal s (length u) (length xi) ≡ suc m → (a.told ≡ Say.Told.refused (suc m)) × Over (d_psi_runs f) a.run
  unfolding start_d_psi saying
  d_psi_no_run a begins_at m e = let c = d_psi_starts f s u xi a begins_at in no_run (d_psi_runs f) (d_psi_lawful f) _ m (d_psi_of f s u xi) a.told a.run c.outcome c.process e

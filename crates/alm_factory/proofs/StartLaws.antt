-- What a start leaves of a run: where it is refused, and what it begins. Assumes nothing.
use Rattle.std.proofs.Common.{◌≡◌, refl, sym, ap, ◌∙◌, ℕ, ◌≤◌, List, length, Float, arith}
use Rattle.std.specs.Float.{binary64}
use Rattle.std.specs.Float.Ieee.{of_bits}
use Rattle.ieee.proofs.Special.{zero_bits}
use Rattle.model.specs.Refusals.{psi_refusal, penalty_in, multipliers_in}
use Rattle.board.specs.Board.{write, beyond}
use Rattle.board.proofs.Writes.{length_write}
use Rattle.machine.specs.Told as Say
use Rattle.machine.specs.PsiRun as M
use Rattle.machine.specs.PsiCalls.{PsiStarts, DPsiStarts, psi_begun, d_psi_begun}
use Rattle.machine.proofs.PsiLaws.{sound_n, sound_n1, sound_n2, Started, started}
use Rattle.panoc_engine.specs.declared.outcome.Refusal.{Refusal}
use Rattle.panoc_engine.specs.Told.{refusal_number}
use Rattle.alm_factory.specs.declared.records.Sizes.{Sizes}
use Rattle.alm_factory.specs.declared.records.Psi.{Psi}
use Rattle.alm_factory.specs.declared.records.PsiPhase.TheVariants as P
use Rattle.alm_factory.specs.declared.records.DPsi.{DPsi}
use Rattle.alm_factory.specs.declared.records.DPsiPhase.TheVariants as D
use Rattle.alm_factory.specs.Values.{sizes_of}
use Rattle.alm_factory.specs.Runs as V
use Rattle.alm_factory.specs.Runs.{Stays, blank, psi_run, d_psi_run, psi_places, d_psi_places, Stands}
use Rattle.panoc_engine.proofs.Numbers.{refusal_some}
use Rattle.alm_factory.proofs.Boards.{zero_vector, length_blank, write_u, write_y, write_d_u, write_d_y}

module _ (s : Sizes) (u xi : List Float) where
  -- ---- a refusal
  module _ (f : Refusal) (e : refusal_number f ≡ psi_refusal (sizes_of s) (length u) (length xi)) (c : Float) (l : List Float) where
    pub psi_refused : (x : Float) → PsiStarts (sizes_of s) u xi (record { told = Say.Told.refused (refusal_number f); run = psi_run (record { phase = P.Over; sizes = s; c = c; value = x }) l })
    unfolding psi_run
    psi_refused x = record { sizes = refl; refused = λ k q. (ap Say.Told.refused (e ∙ q), refl); accepted = λ q. absurd (refusal_some f (e ∙ q)) }

    pub d_psi_refused : DPsiStarts (sizes_of s) u xi (record { told = Say.Told.refused (refusal_number f); run = d_psi_run (record { phase = D.Over; sizes = s; c = c }) l })
    unfolding d_psi_run
    d_psi_refused = record { sizes = refl; refused = λ k q. (ap Say.Told.refused (e ∙ q), refl); accepted = λ q. absurd (refusal_some f (e ∙ q)) }

  -- ---- what a start begins, on a board of zeros
  module _ (e : 0 ≡ psi_refusal (sizes_of s) (length u) (length xi)) where
    -- nothing is owed of a start that is taken
    pub start_writes : (l l' : List Float) → Stays s u xi l l'
    start_writes l l' k q = absurd (omega (arith, e, q))

    ok : Started (sizes_of s) (length u) xi
    ok = started (sizes_of s) (length u) xi (sym e)

    -- the lent u and xi fit
    pub start_fits : (length u ≤ 64) × (length xi ≤ 33)
    start_fits = let n = sound_n (sizes_of s) ok.sound in let p = ok.places in (omega arith, ok.xis)

    stands : (k : ℕ) (l : List Float) → length l ≡ k → Stands k s l
    stands k l p = record { n = sound_n (sizes_of s) ok.sound; n1 = sound_n1 (sizes_of s) ok.sound; n2 = sound_n2 (sizes_of s) ok.sound; places = p }

    written : (k : ℕ) → 256 ≤ k → length (write V.U u (blank k)) ≡ k
    written k h = let q = length_blank k in let f = start_fits.0 in length_write V.U u (blank k) (omega arith) ∙ q

    module _ (l : List Float) (c : Float) (z : c ≡ penalty_in xi) where
      pub psi_started : l ≡ write V.Y (multipliers_in xi) (write V.U u (blank 256))
          → PsiStarts (sizes_of s) u xi (record { told = Say.Told.asked M.Asked.cost; run = psi_run (record { phase = P.Cost; sizes = s; c = c; value = of_bits binary64 0 }) l })
      unfolding psi_run
      psi_started w = record { sizes = refl; refused = λ k q. absurd (omega (arith, e, q)); accepted = λ q. whole ∙ ap (psi_begun (sizes_of s) u xi) (sym (ap (λ (m : M.PsiLeft). m.run.beyond) whole)) }
        where
          p : Psi
          p = record { phase = P.Cost; sizes = s; c = c; value = of_bits binary64 0 }

          run : psi_run p l ≡ record (psi_run p (blank 256)) { u = u; y = multipliers_in xi }
          run =
              ap (psi_run p) w ∙ write_y p (write V.U u (blank 256)) (stands 256 _ (written 256 (omega arith))) (multipliers_in xi) ok.multipliers
              ∙ ap (λ (r : M.PsiRun). record r { y = multipliers_in xi }) (write_u p (blank 256) (stands 256 _ (length_blank 256)) u ok.places)

          whole : record { told = Say.Told.asked M.Asked.cost; run = psi_run p l } ≡ psi_begun (sizes_of s) u xi (beyond (psi_places s) (blank 256))
          whole =
              let n1 = sound_n1 (sizes_of s) ok.sound in
              ap (λ (r : M.PsiRun). record { told = Say.Told.asked M.Asked.cost; run = r }) run
              ∙ rw (z, zero_bits binary64, zero_vector V.T s.n1 256 (omega arith), zero_vector V.WORK 64 256 (omega arith)) refl

      pub d_psi_started : l ≡ write V.Y (multipliers_in xi) (write V.U u (blank 384))
          → DPsiStarts (sizes_of s) u xi (record { told = Say.Told.asked M.Asked.gradient; run = d_psi_run (record { phase = D.Gradient; sizes = s; c = c }) l })
      unfolding d_psi_run
      d_psi_started w = record { sizes = refl; refused = λ k q. absurd (omega (arith, e, q)); accepted = λ q. whole ∙ ap (d_psi_begun (sizes_of s) u xi) (sym (ap (λ (m : M.DPsiLeft). m.run.beyond) whole)) }
        where
          p : DPsi
          p = record { phase = D.Gradient; sizes = s; c = c }

          run : d_psi_run p l ≡ record (d_psi_run p (blank 384)) { u = u; y = multipliers_in xi }
          run =
              ap (d_psi_run p) w ∙ write_d_y p (write V.U u (blank 384)) (stands 384 _ (written 384 (omega arith))) (multipliers_in xi) ok.multipliers
              ∙ ap (λ (r : M.DPsiRun). record r { y = multipliers_in xi }) (write_d_u p (blank 384) (stands 384 _ (length_blank 384)) u ok.places)

          whole : record { told = Say.Told.asked M.Asked.gradient; run = d_psi_run p l } ≡ d_psi_begun (sizes_of s) u xi (beyond (d_psi_places s) (blank 384))
          whole =
              let n = sound_n (sizes_of s) ok.sound in
              let n1 = sound_n1 (sizes_of s) ok.sound in
              ap (λ (r : M.DPsiRun). record { told = Say.Told.asked M.Asked.gradient; run = r }) run
              ∙ rw (z, zero_vector V.GRADIENT s.n 384 (omega arith), zero_vector V.D_T s.n1 384 (omega arith), zero_vector V.D 64 384 (omega arith), zero_vector V.D_WORK 64 384 (omega arith)) refl

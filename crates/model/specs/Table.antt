-- The table is total and in its order: a start or an answer gets the number k exactly where the condition of k fails and those tested before it hold, and none, 0, exactly where all hold. Assumes nothing.
use Rattle.std.specs.Prelude.{ℕ, ◌≡◌, ◌⊎◌, ◌↔◌, Bool, true, false, ◌&&◌, List, [], ◌∷◌, Float, length}
use Rattle.std.proofs.Math.Option.{some}
use Rattle.std.specs.Float.{Format}
use Rattle.model.specs.Vectors.{all_finite}
use Rattle.model.specs.Process.{Kind, Process, ask, score, begin, stop}
use Rattle.model.specs.State.{Settings}
use Rattle.model.specs.Loop.{LoopSettings}
use Rattle.model.specs.Psi.{Sizes}
use Rattle.model.specs.Refusals.{sizes_right, mappings_right, limit_right, tolerance_right, akkt_right, loop_numbers_right, xi_right, inner_refusal, loop_refusal, psi_refusal, Reply, fits_kind, fits_length, answer_refusal}
use Rattle.model.specs.Tests.{Test, test}

-- ---- an inner start

-- its conditions, in their order
abbrev pub inner_tests : Settings → List Float → List Test
inner_tests s u =
    test 1 (sizes_right s.n (length u)) ∷ test 19 (all_finite u) ∷ test 3 (limit_right 10000 s.limit) ∷ test 4 (tolerance_right s.tolerance && akkt_right s.akkt) ∷ []

-- which number says what
pub record InnerRows (s : Settings) (u : List Float) : Type 0 where
  pub one : (inner_refusal s u ≡ 1) ↔ (sizes_right s.n (length u) ≡ false)
  pub nineteen : (inner_refusal s u ≡ 19) ↔ ((sizes_right s.n (length u) ≡ true) × (all_finite u ≡ false))
  pub three : (inner_refusal s u ≡ 3) ↔ ((sizes_right s.n (length u) ≡ true) × ((all_finite u ≡ true) × (limit_right 10000 s.limit ≡ false)))
  pub four :
      (inner_refusal s u ≡ 4)
      ↔ ((sizes_right s.n (length u) ≡ true)
      × ((all_finite u ≡ true) × ((limit_right 10000 s.limit ≡ true) × ((tolerance_right s.tolerance && akkt_right s.akkt) ≡ false))))
  pub none :
      (inner_refusal s u ≡ 0)
      ↔ ((sizes_right s.n (length u) ≡ true)
      × ((all_finite u ≡ true) × ((limit_right 10000 s.limit ≡ true) × ((tolerance_right s.tolerance && akkt_right s.akkt) ≡ true))))
  pub total :
      (inner_refusal s u ≡ 1) ⊎ ((inner_refusal s u ≡ 19) ⊎ ((inner_refusal s u ≡ 3) ⊎ ((inner_refusal s u ≡ 4) ⊎ (inner_refusal s u ≡ 0))))

-- ---- a start of the loop

-- its conditions, in their order
abbrev pub loop_tests : Format → LoopSettings → List Float → List Float → List Test
loop_tests f s u xi =
    test 1 (sizes_right s.n (length u))
    ∷ test 19 (all_finite u)
    ∷ test 2 (mappings_right s.n1 s.n2 s.set_y (length xi))
    ∷ test 3 (limit_right 10000 s.limit && limit_right 1000 s.outer)
    ∷ test 4 (loop_numbers_right f s)
    ∷ test 5 (xi_right xi)
    ∷ []

-- which number says what
pub record LoopRows (f : Format) (s : LoopSettings) (u xi : List Float) : Type 0 where
  pub one : (loop_refusal f s u xi ≡ 1) ↔ (sizes_right s.n (length u) ≡ false)
  pub nineteen : (loop_refusal f s u xi ≡ 19) ↔ ((sizes_right s.n (length u) ≡ true) × (all_finite u ≡ false))
  pub two : (loop_refusal f s u xi ≡ 2) ↔ ((sizes_right s.n (length u) ≡ true) × ((all_finite u ≡ true) × (mappings_right s.n1 s.n2 s.set_y (length xi) ≡ false)))
  pub three :
      (loop_refusal f s u xi ≡ 3)
      ↔ ((sizes_right s.n (length u) ≡ true) × ((all_finite u ≡ true) × ((mappings_right s.n1 s.n2 s.set_y (length xi) ≡ true) × ((limit_right 10000 s.limit && limit_right 1000 s.outer) ≡ false))))
  pub four :
      (loop_refusal f s u xi ≡ 4)
      ↔ ((sizes_right s.n (length u) ≡ true)
      × ((all_finite u ≡ true) × ((mappings_right s.n1 s.n2 s.set_y (length xi) ≡ true) × (((limit_right 10000 s.limit && limit_right 1000 s.outer) ≡ true) × (loop_numbers_right f s ≡ false)))))
  pub five :
      (loop_refusal f s u xi ≡ 5)
      ↔ ((sizes_right s.n (length u) ≡ true)
      × ((all_finite u ≡ true)
      × ((mappings_right s.n1 s.n2 s.set_y (length xi) ≡ true) × (((limit_right 10000 s.limit && limit_right 1000 s.outer) ≡ true) × ((loop_numbers_right f s ≡ true) × (xi_right xi ≡ false))))))
  pub none :
      (loop_refusal f s u xi ≡ 0)
      ↔ ((sizes_right s.n (length u) ≡ true)
      × ((all_finite u ≡ true)
      × ((mappings_right s.n1 s.n2 s.set_y (length xi) ≡ true) × (((limit_right 10000 s.limit && limit_right 1000 s.outer) ≡ true) × ((loop_numbers_right f s ≡ true) × (xi_right xi ≡ true))))))
  pub total :
      (loop_refusal f s u xi ≡ 1)
      ⊎ ((loop_refusal f s u xi ≡ 19)
      ⊎ ((loop_refusal f s u xi ≡ 2)
      ⊎ ((loop_refusal f s u xi ≡ 3) ⊎ ((loop_refusal f s u xi ≡ 4) ⊎ ((loop_refusal f s u xi ≡ 5) ⊎ (loop_refusal f s u xi ≡ 0))))))

-- ---- a start of psi or of d_psi

-- its conditions, in their order
abbrev pub psi_tests : Sizes → ℕ → ℕ → List Test
psi_tests s us xis = test 1 (sizes_right s.n us) ∷ test 2 (mappings_right s.n1 s.n2 false xis) ∷ []

-- which number says what
pub record PsiRows (s : Sizes) (us xis : ℕ) : Type 0 where
  pub one : (psi_refusal s us xis ≡ 1) ↔ (sizes_right s.n us ≡ false)
  pub two : (psi_refusal s us xis ≡ 2) ↔ ((sizes_right s.n us ≡ true) × (mappings_right s.n1 s.n2 false xis ≡ false))
  pub none : (psi_refusal s us xis ≡ 0) ↔ ((sizes_right s.n us ≡ true) × (mappings_right s.n1 s.n2 false xis ≡ true))
  pub total : (psi_refusal s us xis ≡ 1) ⊎ ((psi_refusal s us xis ≡ 2) ⊎ (psi_refusal s us xis ≡ 0))

-- ---- an answer to a question of the kind k: never 6; "7 not the kind asked, or failure for TIME or DIRECTION", "8 a lent slice not of the length asked"

-- its conditions, in their order
abbrev pub answer_tests : Kind → Reply → ℕ → Bool → List Test
answer_tests k a vs lent = test 7 (fits_kind k a) ∷ test 8 (fits_length k a vs && lent) ∷ []

-- which number says what
pub record AnswerRows (k : Kind) (a : Reply) (vs : ℕ) (lent : Bool) : Type 0 where
  pub six : answer_refusal (some k) a vs lent ≡ 6 → ⊥
  pub seven : (answer_refusal (some k) a vs lent ≡ 7) ↔ (fits_kind k a ≡ false)
  pub eight : (answer_refusal (some k) a vs lent ≡ 8) ↔ ((fits_kind k a ≡ true) × ((fits_length k a vs && lent) ≡ false))
  pub none : (answer_refusal (some k) a vs lent ≡ 0) ↔ ((fits_kind k a ≡ true) × ((fits_length k a vs && lent) ≡ true))
  pub total : (answer_refusal (some k) a vs lent ≡ 7) ⊎ ((answer_refusal (some k) a vs lent ≡ 8) ⊎ (answer_refusal (some k) a vs lent ≡ 0))

-- ---- "6 the run has ended": exactly there, whatever is answered

-- past its marks a process has no question
abbrev pub Over : {Q H : Type 0} → Process Q H → Type 0
Over (ask q k continue) = ⊥
Over (score half norm p) = Over p
Over (begin p) = Over p
Over (stop e) = Unit {0}

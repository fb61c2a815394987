-- Corners of document 01, whole, as the Rust plays them (tests/corners.py wrote this file): psi. Assumes nothing.
use Rattle.std.specs.Prelude.{refl, false, [], ◌∷◌}
use Rattle.std.specs.Float.{nan, inf, binary64}
use Rattle.std.specs.Float.Ieee.{neg}
use Rattle.ieee.specs.Numbers.{null}
use Rattle.model.specs.Process as Asks
use Rattle.model.specs.Process.{handed, refused, failed}
use Rattle.model.specs.Refusals.{start_psi}
use Rattle.model.specs.Play.{asked, ended, turned}
use Rattle.model.specs.Script.{int, ◌·2^◌, ◌/2^◌, only, number, vector, answer_yes, failure, says, ◌▷◌, all_psi}
use Rattle.corners.specs.Shown.{Shows, spoken}

-- ---- starts: the sizes, and the lower number first

pub starts_the_sizes_65 :
    Shows (start_psi binary64 (record { n = 0; n1 = 0; n2 = 0 }) [] [])
    (says (ended (refused 1))
    ∷ [])
unfolding all_psi Shows spoken
starts_the_sizes_65 = refl

pub starts_the_sizes_66 :
    Shows (start_psi binary64 (record { n = 2; n1 = 0; n2 = 0 }) (only null) [])
    (says (ended (refused 1))
    ∷ [])
unfolding all_psi Shows spoken
starts_the_sizes_66 = refl

pub starts_the_sizes_67 :
    Shows (start_psi binary64 (record { n = 1; n1 = 0; n2 = 33 }) (only null) (only (int 1)))
    (says (ended (refused 2))
    ∷ [])
unfolding all_psi Shows spoken
starts_the_sizes_67 = refl

pub starts_the_sizes_68 :
    Shows (start_psi binary64 (record { n = 1; n1 = 0; n2 = 0 }) (only null) (only (int 1)))
    (says (ended (refused 2))
    ∷ [])
unfolding all_psi Shows spoken
starts_the_sizes_68 = refl

pub starts_the_sizes_69 :
    Shows (start_psi binary64 (record { n = 1; n1 = 1; n2 = 0 }) (only null) (only (int 1)))
    (ended (refused 2) ▷ number null
    ∷ says (turned 6)
    ∷ [])
unfolding all_psi Shows spoken
starts_the_sizes_69 = refl

-- ---- starts: 19, a u that is not finite, after 1 and before 2; psi and d_psi take any

pub starts_19_11 :
    Shows (start_psi binary64 (record { n = 1; n1 = 0; n2 = 0 }) (only nan) [])
    (asked (Asks.PsiQuestion.cost (only nan)) ▷ number null
    ∷ says (ended (handed null))
    ∷ [])
unfolding all_psi Shows spoken
starts_19_11 = refl

-- ---- a start drops the open run

pub a_start_drops_the_open_run_4 :
    Shows (start_psi binary64 (record { n = 1; n1 = 0; n2 = 0 }) (only null) [])
    (asked (Asks.PsiQuestion.cost (only null)) ▷ number (1 ·2^ 2)
    ∷ says (ended (handed (1 ·2^ 2)))
    ∷ [])
unfolding all_psi Shows spoken
a_start_drops_the_open_run_4 = refl

-- ---- psi: y by the larger of c and 1

pub psi_y_by_the_larger_of_c_and_1_1 :
    Shows (start_psi binary64 (record { n = 1; n1 = 1; n2 = 0 }) (only (1 ·2^ 1)) (1 /2^ 1 ∷ int 1 ∷ []))
    (asked (Asks.PsiQuestion.cost (only (1 ·2^ 1))) ▷ number (int 3)
    ∷ asked (Asks.PsiQuestion.f1 (only (1 ·2^ 1))) ▷ vector (only (int 1))
    ∷ asked (Asks.PsiQuestion.project_c (only (1 ·2^ 1))) ▷ vector (only (1 /2^ 1))
    ∷ ended (handed (57 /2^ 4)) ▷ number null
    ∷ says (turned 6)
    ∷ [])
unfolding all_psi Shows spoken
psi_y_by_the_larger_of_c_and_1_1 = refl

pub psi_y_by_the_larger_of_c_and_1_2 :
    Shows (start_psi binary64 (record { n = 1; n1 = 1; n2 = 0 }) (only (1 ·2^ 1)) (1 ·2^ 2 ∷ int 1 ∷ []))
    (asked (Asks.PsiQuestion.cost (only (1 ·2^ 1))) ▷ number (int 3)
    ∷ asked (Asks.PsiQuestion.f1 (only (1 ·2^ 1))) ▷ vector (only (int 1))
    ∷ asked (Asks.PsiQuestion.project_c (only (5 /2^ 2))) ▷ vector (only (1 /2^ 1))
    ∷ says (ended (handed (33 /2^ 3)))
    ∷ [])
unfolding all_psi Shows spoken
psi_y_by_the_larger_of_c_and_1_2 = refl

pub psi_y_by_the_larger_of_c_and_1_3 :
    Shows (start_psi binary64 (record { n = 1; n1 = 1; n2 = 0 }) (only (1 ·2^ 1)) (int 1 ∷ int 1 ∷ []))
    (asked (Asks.PsiQuestion.cost (only (1 ·2^ 1))) ▷ number (int 3)
    ∷ asked (Asks.PsiQuestion.f1 (only (1 ·2^ 1))) ▷ vector (only (int 1))
    ∷ asked (Asks.PsiQuestion.project_c (only (1 ·2^ 1))) ▷ vector (only (1 /2^ 1))
    ∷ says (ended (handed (33 /2^ 3)))
    ∷ [])
unfolding all_psi Shows spoken
psi_y_by_the_larger_of_c_and_1_3 = refl

pub psi_y_by_the_larger_of_c_and_1_4 :
    Shows (start_psi binary64 (record { n = 1; n1 = 1; n2 = 0 }) (only (1 ·2^ 1)) (nan ∷ int 1 ∷ []))
    (asked (Asks.PsiQuestion.cost (only (1 ·2^ 1))) ▷ number (int 3)
    ∷ asked (Asks.PsiQuestion.f1 (only (1 ·2^ 1))) ▷ vector (only (int 1))
    ∷ asked (Asks.PsiQuestion.project_c (only (1 ·2^ 1))) ▷ vector (only (1 /2^ 1))
    ∷ says (ended (handed nan))
    ∷ [])
unfolding all_psi Shows spoken
psi_y_by_the_larger_of_c_and_1_4 = refl

pub psi_y_by_the_larger_of_c_and_1_5 :
    Shows (start_psi binary64 (record { n = 1; n1 = 1; n2 = 0 }) (only (1 ·2^ 1)) (null ∷ int 1 ∷ []))
    (asked (Asks.PsiQuestion.cost (only (1 ·2^ 1))) ▷ number (int 3)
    ∷ asked (Asks.PsiQuestion.f1 (only (1 ·2^ 1))) ▷ vector (only (int 1))
    ∷ asked (Asks.PsiQuestion.project_c (only (1 ·2^ 1))) ▷ vector (only (1 /2^ 1))
    ∷ says (ended (handed (int 3)))
    ∷ [])
unfolding all_psi Shows spoken
psi_y_by_the_larger_of_c_and_1_5 = refl

pub psi_y_by_the_larger_of_c_and_1_6 :
    Shows (start_psi binary64 (record { n = 1; n1 = 1; n2 = 0 }) (only (1 ·2^ 1)) (neg (1 ·2^ 1) ∷ int 1 ∷ []))
    (asked (Asks.PsiQuestion.cost (only (1 ·2^ 1))) ▷ number (int 3)
    ∷ asked (Asks.PsiQuestion.f1 (only (1 ·2^ 1))) ▷ vector (only (int 1))
    ∷ asked (Asks.PsiQuestion.project_c (only (1 ·2^ 1))) ▷ vector (only (1 /2^ 1))
    ∷ says (ended (handed (3 /2^ 2)))
    ∷ [])
unfolding all_psi Shows spoken
psi_y_by_the_larger_of_c_and_1_6 = refl

pub psi_y_by_the_larger_of_c_and_1_7 :
    Shows (start_psi binary64 (record { n = 1; n1 = 1; n2 = 0 }) (only (1 ·2^ 1)) (inf false ∷ inf false ∷ []))
    (asked (Asks.PsiQuestion.cost (only (1 ·2^ 1))) ▷ number (int 3)
    ∷ asked (Asks.PsiQuestion.f1 (only (1 ·2^ 1))) ▷ vector (only (int 1))
    ∷ asked (Asks.PsiQuestion.project_c (only nan)) ▷ vector (only (1 /2^ 1))
    ∷ says (ended (handed nan))
    ∷ [])
unfolding all_psi Shows spoken
psi_y_by_the_larger_of_c_and_1_7 = refl

pub psi_y_by_the_larger_of_c_and_1_8 :
    Shows (start_psi binary64 (record { n = 2; n1 = 0; n2 = 2 }) (1 ·2^ 1 ∷ int 1 ∷ []) (only (int 3)))
    (asked (Asks.PsiQuestion.cost (1 ·2^ 1 ∷ int 1 ∷ [])) ▷ number (neg (int 1))
    ∷ asked (Asks.PsiQuestion.f2 (1 ·2^ 1 ∷ int 1 ∷ [])) ▷ vector (1 /2^ 2 ∷ int 3 ∷ [])
    ∷ says (ended (handed (403 /2^ 5)))
    ∷ [])
unfolding all_psi Shows spoken
psi_y_by_the_larger_of_c_and_1_8 = refl

pub psi_y_by_the_larger_of_c_and_1_9 :
    Shows (start_psi binary64 (record { n = 2; n1 = 1; n2 = 2 }) (1 ·2^ 1 ∷ int 1 ∷ []) (int 3 ∷ 1 /2^ 1 ∷ []))
    (asked (Asks.PsiQuestion.cost (1 ·2^ 1 ∷ int 1 ∷ [])) ▷ number nan
    ∷ asked (Asks.PsiQuestion.f1 (1 ·2^ 1 ∷ int 1 ∷ [])) ▷ vector (only (1 /2^ 2))
    ∷ asked (Asks.PsiQuestion.project_c (only (3752999689475413 /2^ 53))) ▷ vector (only (1 /2^ 2))
    ∷ asked (Asks.PsiQuestion.f2 (1 ·2^ 1 ∷ int 1 ∷ [])) ▷ vector (1 /2^ 2 ∷ int 3 ∷ [])
    ∷ says (ended (handed nan))
    ∷ [])
unfolding all_psi Shows spoken
psi_y_by_the_larger_of_c_and_1_9 = refl

pub psi_y_by_the_larger_of_c_and_1_10 :
    Shows (start_psi binary64 (record { n = 2; n1 = 2; n2 = 1 }) (1 ·2^ 1 ∷ int 1 ∷ []) (int 3 ∷ 1 /2^ 1 ∷ neg (1 /2^ 1) ∷ []))
    (asked (Asks.PsiQuestion.cost (1 ·2^ 1 ∷ int 1 ∷ [])) ▷ answer_yes
    ∷ turned 7 ▷ vector (only (int 1))
    ∷ turned 7 ▷ number (int 1)
    ∷ asked (Asks.PsiQuestion.f1 (1 ·2^ 1 ∷ int 1 ∷ [])) ▷ vector (only (1 /2^ 2))
    ∷ turned 8 ▷ vector (1 /2^ 2 ∷ int 1 ∷ [])
    ∷ asked (Asks.PsiQuestion.project_c (3752999689475413 /2^ 53 ∷ 7505999378950827 /2^ 53 ∷ [])) ▷ number null
    ∷ turned 7 ▷ vector (1 /2^ 2 ∷ 1 /2^ 1 ∷ [])
    ∷ asked (Asks.PsiQuestion.f2 (1 ·2^ 1 ∷ int 1 ∷ [])) ▷ vector (int 3 ∷ 1 ·2^ 2 ∷ [])
    ∷ turned 8 ▷ vector (only (int 3))
    ∷ says (ended (handed (8280055564905131 /2^ 49)))
    ∷ [])
unfolding all_psi Shows spoken
psi_y_by_the_larger_of_c_and_1_10 = refl

pub psi_y_by_the_larger_of_c_and_1_11 :
    Shows (start_psi binary64 (record { n = 1; n1 = 1; n2 = 1 }) (only (1 ·2^ 1)) (int 1 ∷ int 1 ∷ []))
    (asked (Asks.PsiQuestion.cost (only (1 ·2^ 1))) ▷ failure 30
    ∷ says (ended (failed 30))
    ∷ [])
unfolding all_psi Shows spoken
psi_y_by_the_larger_of_c_and_1_11 = refl

pub psi_y_by_the_larger_of_c_and_1_12 :
    Shows (start_psi binary64 (record { n = 1; n1 = 1; n2 = 1 }) (only (1 ·2^ 1)) (int 1 ∷ int 1 ∷ []))
    (asked (Asks.PsiQuestion.cost (only (1 ·2^ 1))) ▷ number null
    ∷ asked (Asks.PsiQuestion.f1 (only (1 ·2^ 1))) ▷ failure 31
    ∷ says (ended (failed 31))
    ∷ [])
unfolding all_psi Shows spoken
psi_y_by_the_larger_of_c_and_1_12 = refl

pub psi_y_by_the_larger_of_c_and_1_13 :
    Shows (start_psi binary64 (record { n = 1; n1 = 1; n2 = 1 }) (only (1 ·2^ 1)) (int 1 ∷ int 1 ∷ []))
    (asked (Asks.PsiQuestion.cost (only (1 ·2^ 1))) ▷ number null
    ∷ asked (Asks.PsiQuestion.f1 (only (1 ·2^ 1))) ▷ vector (only null)
    ∷ asked (Asks.PsiQuestion.project_c (only (int 1))) ▷ failure 32
    ∷ says (ended (failed 32))
    ∷ [])
unfolding all_psi Shows spoken
psi_y_by_the_larger_of_c_and_1_13 = refl

pub psi_y_by_the_larger_of_c_and_1_14 :
    Shows (start_psi binary64 (record { n = 1; n1 = 1; n2 = 1 }) (only (1 ·2^ 1)) (int 1 ∷ int 1 ∷ []))
    (asked (Asks.PsiQuestion.cost (only (1 ·2^ 1))) ▷ number null
    ∷ asked (Asks.PsiQuestion.f1 (only (1 ·2^ 1))) ▷ vector (only null)
    ∷ asked (Asks.PsiQuestion.project_c (only (int 1))) ▷ vector (only null)
    ∷ asked (Asks.PsiQuestion.f2 (only (1 ·2^ 1))) ▷ failure 33
    ∷ ended (failed 33) ▷ number null
    ∷ says (turned 6)
    ∷ [])
unfolding all_psi Shows spoken
psi_y_by_the_larger_of_c_and_1_14 = refl

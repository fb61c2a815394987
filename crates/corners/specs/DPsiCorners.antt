-- Corners of document 01, whole, as the Rust plays them (tests/corners.py wrote this file): d_psi. Assumes nothing.
use Rattle.std.specs.Prelude.{refl, true, false, [], ◌∷◌}
use Rattle.std.specs.Float.{nan, inf, binary64}
use Rattle.std.specs.Float.Ieee.{neg}
use Rattle.ieee.specs.Numbers.{null}
use Rattle.model.specs.Process as Asks
use Rattle.model.specs.Process.{handed, refused, failed}
use Rattle.model.specs.Refusals.{start_d_psi}
use Rattle.model.specs.Play.{asked, ended, turned}
use Rattle.model.specs.Script.{int, ◌·2^◌, ◌/2^◌, only, number, vector, failure, says, ◌▷◌, all_psi}
use Rattle.corners.specs.Shown.{Shows, spoken}

-- ---- starts: the sizes, and the lower number first

pub starts_the_sizes_70 :
    Shows (start_d_psi binary64 (record { n = 0; n1 = 0; n2 = 0 }) [] [])
    (says (ended (refused 1))
    ∷ [])
unfolding all_psi Shows spoken
starts_the_sizes_70 = refl

pub starts_the_sizes_71 :
    Shows (start_d_psi binary64 (record { n = 1; n1 = 0; n2 = 1 }) (only null) [])
    (says (ended (refused 2))
    ∷ [])
unfolding all_psi Shows spoken
starts_the_sizes_71 = refl

pub starts_the_sizes_72 :
    Shows (start_d_psi binary64 (record { n = 1; n1 = 1; n2 = 0 }) (only null) [])
    (ended (refused 2) ▷ vector (only null)
    ∷ says (turned 6)
    ∷ [])
unfolding all_psi Shows spoken
starts_the_sizes_72 = refl

-- ---- starts: 19, a u that is not finite, after 1 and before 2; psi and d_psi take any

pub starts_19_12 :
    Shows (start_d_psi binary64 (record { n = 1; n1 = 0; n2 = 0 }) (only (inf false)) [])
    (asked (Asks.PsiQuestion.gradient (only (inf false))) ▷ vector (only null)
    ∷ says (ended (handed (only null)))
    ∷ [])
unfolding all_psi Shows spoken
starts_19_12 = refl

-- ---- d_psi: y by c, also where c is 0

pub d_psi_y_by_c_1 :
    Shows (start_d_psi binary64 (record { n = 1; n1 = 1; n2 = 0 }) (only (1 ·2^ 1)) (1 /2^ 1 ∷ int 1 ∷ []))
    (asked (Asks.PsiQuestion.gradient (only (1 ·2^ 1))) ▷ vector (only (int 3))
    ∷ asked (Asks.PsiQuestion.f1 (only (1 ·2^ 1))) ▷ vector (only (int 1))
    ∷ asked (Asks.PsiQuestion.project_c (only (int 3))) ▷ vector (only (1 /2^ 1))
    ∷ asked (Asks.PsiQuestion.jf1t (only (1 ·2^ 1)) (only (5 /2^ 1))) ▷ vector (only (int 7))
    ∷ says (ended (handed (only (13 /2^ 1))))
    ∷ [])
unfolding all_psi Shows spoken
d_psi_y_by_c_1 = refl

pub d_psi_y_by_c_2 :
    Shows (start_d_psi binary64 (record { n = 1; n1 = 1; n2 = 0 }) (only (1 ·2^ 1)) (null ∷ int 1 ∷ []))
    (asked (Asks.PsiQuestion.gradient (only (1 ·2^ 1))) ▷ vector (only (int 3))
    ∷ asked (Asks.PsiQuestion.f1 (only (1 ·2^ 1))) ▷ vector (only (int 1))
    ∷ asked (Asks.PsiQuestion.project_c (only (inf false))) ▷ vector (only (1 /2^ 1))
    ∷ asked (Asks.PsiQuestion.jf1t (only (1 ·2^ 1)) (only (inf false))) ▷ vector (only (int 7))
    ∷ says (ended (handed (only (int 3))))
    ∷ [])
unfolding all_psi Shows spoken
d_psi_y_by_c_2 = refl

pub d_psi_y_by_c_3 :
    Shows (start_d_psi binary64 (record { n = 1; n1 = 1; n2 = 0 }) (only (1 ·2^ 1)) (null ∷ null ∷ []))
    (asked (Asks.PsiQuestion.gradient (only (1 ·2^ 1))) ▷ vector (only (int 3))
    ∷ asked (Asks.PsiQuestion.f1 (only (1 ·2^ 1))) ▷ vector (only (int 1))
    ∷ asked (Asks.PsiQuestion.project_c (only nan)) ▷ vector (only (1 /2^ 1))
    ∷ asked (Asks.PsiQuestion.jf1t (only (1 ·2^ 1)) (only nan)) ▷ vector (only (int 7))
    ∷ says (ended (handed (only (int 3))))
    ∷ [])
unfolding all_psi Shows spoken
d_psi_y_by_c_3 = refl

pub d_psi_y_by_c_4 :
    Shows (start_d_psi binary64 (record { n = 1; n1 = 1; n2 = 0 }) (only (1 ·2^ 1)) (neg (null) ∷ int 1 ∷ []))
    (asked (Asks.PsiQuestion.gradient (only (1 ·2^ 1))) ▷ vector (only (int 3))
    ∷ asked (Asks.PsiQuestion.f1 (only (1 ·2^ 1))) ▷ vector (only (int 1))
    ∷ asked (Asks.PsiQuestion.project_c (only (inf true))) ▷ vector (only (1 /2^ 1))
    ∷ asked (Asks.PsiQuestion.jf1t (only (1 ·2^ 1)) (only (inf true))) ▷ vector (only (inf false))
    ∷ says (ended (handed (only nan)))
    ∷ [])
unfolding all_psi Shows spoken
d_psi_y_by_c_4 = refl

pub d_psi_y_by_c_5 :
    Shows (start_d_psi binary64 (record { n = 2; n1 = 0; n2 = 0 }) (1 ·2^ 1 ∷ int 1 ∷ []) [])
    (asked (Asks.PsiQuestion.gradient (1 ·2^ 1 ∷ int 1 ∷ [])) ▷ vector (int 3 ∷ neg (null) ∷ [])
    ∷ says (ended (handed (int 3 ∷ neg (null) ∷ [])))
    ∷ [])
unfolding all_psi Shows spoken
d_psi_y_by_c_5 = refl

pub d_psi_y_by_c_6 :
    Shows (start_d_psi binary64 (record { n = 2; n1 = 1; n2 = 2 }) (1 ·2^ 1 ∷ int 1 ∷ []) (int 3 ∷ 1 /2^ 1 ∷ []))
    (asked (Asks.PsiQuestion.gradient (1 ·2^ 1 ∷ int 1 ∷ [])) ▷ vector (int 1 ∷ 3602879701896397 /2^ 55 ∷ [])
    ∷ asked (Asks.PsiQuestion.f1 (1 ·2^ 1 ∷ int 1 ∷ [])) ▷ vector (only (1 /2^ 2))
    ∷ asked (Asks.PsiQuestion.project_c (only (3752999689475413 /2^ 53))) ▷ vector (only (int 1))
    ∷ asked (Asks.PsiQuestion.jf1t (1 ·2^ 1 ∷ int 1 ∷ []) (only (neg (5254199565265579 /2^ 53)))) ▷ vector (3602879701896397 /2^ 55 ∷ 3602879701896397 /2^ 54 ∷ [])
    ∷ asked (Asks.PsiQuestion.f2 (1 ·2^ 1 ∷ int 1 ∷ [])) ▷ vector (int 1 ∷ 1 ·2^ 1 ∷ [])
    ∷ asked (Asks.PsiQuestion.jf2t (1 ·2^ 1 ∷ int 1 ∷ []) (int 1 ∷ 1 ·2^ 1 ∷ [])) ▷ vector (5404319552844595 /2^ 54 ∷ 3152519739159347 /2^ 52 ∷ [])
    ∷ ended (handed (2476979795053773 /2^ 50 ∷ 3152519739159347 /2^ 50 ∷ [])) ▷ vector (5404319552844595 /2^ 54 ∷ 3152519739159347 /2^ 52 ∷ [])
    ∷ says (turned 6)
    ∷ [])
unfolding all_psi Shows spoken
d_psi_y_by_c_6 = refl

pub d_psi_y_by_c_7 :
    Shows (start_d_psi binary64 (record { n = 2; n1 = 0; n2 = 1 }) (1 ·2^ 1 ∷ int 1 ∷ []) (only (int 3)))
    (asked (Asks.PsiQuestion.gradient (1 ·2^ 1 ∷ int 1 ∷ [])) ▷ number null
    ∷ turned 7 ▷ vector (only (int 1))
    ∷ says (turned 8)
    ∷ [])
unfolding all_psi Shows spoken
d_psi_y_by_c_7 = refl

pub d_psi_y_by_c_8 :
    Shows (start_d_psi binary64 (record { n = 1; n1 = 1; n2 = 1 }) (only (1 ·2^ 1)) (int 1 ∷ int 1 ∷ []))
    (asked (Asks.PsiQuestion.gradient (only (1 ·2^ 1))) ▷ failure 41
    ∷ says (ended (failed 41))
    ∷ [])
unfolding all_psi Shows spoken
d_psi_y_by_c_8 = refl

pub d_psi_y_by_c_9 :
    Shows (start_d_psi binary64 (record { n = 1; n1 = 1; n2 = 1 }) (only (1 ·2^ 1)) (int 1 ∷ int 1 ∷ []))
    (asked (Asks.PsiQuestion.gradient (only (1 ·2^ 1))) ▷ vector (only (int 1))
    ∷ asked (Asks.PsiQuestion.f1 (only (1 ·2^ 1))) ▷ failure 42
    ∷ says (ended (failed 42))
    ∷ [])
unfolding all_psi Shows spoken
d_psi_y_by_c_9 = refl

pub d_psi_y_by_c_10 :
    Shows (start_d_psi binary64 (record { n = 1; n1 = 1; n2 = 1 }) (only (1 ·2^ 1)) (int 1 ∷ int 1 ∷ []))
    (asked (Asks.PsiQuestion.gradient (only (1 ·2^ 1))) ▷ vector (only (int 1))
    ∷ asked (Asks.PsiQuestion.f1 (only (1 ·2^ 1))) ▷ vector (only (int 1))
    ∷ asked (Asks.PsiQuestion.project_c (only (1 ·2^ 1))) ▷ failure 43
    ∷ says (ended (failed 43))
    ∷ [])
unfolding all_psi Shows spoken
d_psi_y_by_c_10 = refl

pub d_psi_y_by_c_11 :
    Shows (start_d_psi binary64 (record { n = 1; n1 = 1; n2 = 1 }) (only (1 ·2^ 1)) (int 1 ∷ int 1 ∷ []))
    (asked (Asks.PsiQuestion.gradient (only (1 ·2^ 1))) ▷ vector (only (int 1))
    ∷ asked (Asks.PsiQuestion.f1 (only (1 ·2^ 1))) ▷ vector (only (int 1))
    ∷ asked (Asks.PsiQuestion.project_c (only (1 ·2^ 1))) ▷ vector (only (int 1))
    ∷ asked (Asks.PsiQuestion.jf1t (only (1 ·2^ 1)) (only (int 1))) ▷ failure 44
    ∷ says (ended (failed 44))
    ∷ [])
unfolding all_psi Shows spoken
d_psi_y_by_c_11 = refl

pub d_psi_y_by_c_12 :
    Shows (start_d_psi binary64 (record { n = 1; n1 = 1; n2 = 1 }) (only (1 ·2^ 1)) (int 1 ∷ int 1 ∷ []))
    (asked (Asks.PsiQuestion.gradient (only (1 ·2^ 1))) ▷ vector (only (int 1))
    ∷ asked (Asks.PsiQuestion.f1 (only (1 ·2^ 1))) ▷ vector (only (int 1))
    ∷ asked (Asks.PsiQuestion.project_c (only (1 ·2^ 1))) ▷ vector (only (int 1))
    ∷ asked (Asks.PsiQuestion.jf1t (only (1 ·2^ 1)) (only (int 1))) ▷ vector (only (int 1))
    ∷ asked (Asks.PsiQuestion.f2 (only (1 ·2^ 1))) ▷ failure 45
    ∷ says (ended (failed 45))
    ∷ [])
unfolding all_psi Shows spoken
d_psi_y_by_c_12 = refl

pub d_psi_y_by_c_13 :
    Shows (start_d_psi binary64 (record { n = 1; n1 = 1; n2 = 1 }) (only (1 ·2^ 1)) (int 1 ∷ int 1 ∷ []))
    (asked (Asks.PsiQuestion.gradient (only (1 ·2^ 1))) ▷ vector (only (int 1))
    ∷ asked (Asks.PsiQuestion.f1 (only (1 ·2^ 1))) ▷ vector (only (int 1))
    ∷ asked (Asks.PsiQuestion.project_c (only (1 ·2^ 1))) ▷ vector (only (int 1))
    ∷ asked (Asks.PsiQuestion.jf1t (only (1 ·2^ 1)) (only (int 1))) ▷ vector (only (int 1))
    ∷ asked (Asks.PsiQuestion.f2 (only (1 ·2^ 1))) ▷ vector (only (int 1))
    ∷ asked (Asks.PsiQuestion.jf2t (only (1 ·2^ 1)) (only (int 1))) ▷ failure 46
    ∷ says (ended (failed 46))
    ∷ [])
unfolding all_psi Shows spoken
d_psi_y_by_c_13 = refl

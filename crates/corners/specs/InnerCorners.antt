-- Corners of document 01, whole, as the Rust plays them (tests/corners.py wrote this file): inner solves. Assumes nothing.
use Rattle.std.specs.Prelude.{refl, true, false, [], ◌∷◌}
use Rattle.std.proofs.Math.Option.{none, some}
use Rattle.std.specs.Float.{nan, inf, binary64}
use Rattle.std.specs.Float.Ieee.{neg}
use Rattle.ieee.specs.Numbers.{null}
use Rattle.model.specs.Process as Asks
use Rattle.model.specs.Process.{handed, refused, failed, converged, not_converged_iterations, not_converged_out_of_time}
use Rattle.model.specs.Refusals.{start_inner}
use Rattle.model.specs.Play.{asked, ended, turned}
use Rattle.model.specs.Script.{int, ◌·2^◌, ◌/2^◌, only, number, vector, answer_yes, answer_no, failure, says, ◌▷◌, all_inner}
use Rattle.corners.specs.Shown.{Shows, spoken}

-- ---- starts: the sizes, and the lower number first

pub starts_the_sizes_1 :
    Shows (start_inner binary64 (record { n = 0; limit = 1; limited = false; tolerance = int 1; akkt = none }) [])
    (says (ended (refused 1))
    ∷ [])
unfolding all_inner Shows spoken
starts_the_sizes_1 = refl

pub starts_the_sizes_2 :
    Shows (start_inner binary64 (record { n = 65; limit = 1; limited = false; tolerance = int 1; akkt = none }) (null ∷ null ∷ null ∷ []))
    (says (ended (refused 1))
    ∷ [])
unfolding all_inner Shows spoken
starts_the_sizes_2 = refl

pub starts_the_sizes_3 :
    Shows (start_inner binary64 (record { n = 2; limit = 1; limited = false; tolerance = int 1; akkt = none }) (only null))
    (says (ended (refused 1))
    ∷ [])
unfolding all_inner Shows spoken
starts_the_sizes_3 = refl

pub starts_the_sizes_4 :
    Shows (start_inner binary64 (record { n = 1; limit = 1; limited = false; tolerance = int 1; akkt = none }) (null ∷ null ∷ []))
    (says (ended (refused 1))
    ∷ [])
unfolding all_inner Shows spoken
starts_the_sizes_4 = refl

pub starts_the_sizes_5 :
    Shows (start_inner binary64 (record { n = 18446744073709551615; limit = 1; limited = false; tolerance = int 1; akkt = none }) (only null))
    (says (ended (refused 1))
    ∷ [])
unfolding all_inner Shows spoken
starts_the_sizes_5 = refl

pub starts_the_sizes_6 :
    Shows (start_inner binary64 (record { n = 0; limit = 0; limited = false; tolerance = null; akkt = none }) [])
    (says (ended (refused 1))
    ∷ [])
unfolding all_inner Shows spoken
starts_the_sizes_6 = refl

pub starts_the_sizes_7 :
    Shows (start_inner binary64 (record { n = 1; limit = 10000; limited = false; tolerance = int 1; akkt = none }) (only null))
    (says (asked (Asks.Question.cost (only null)))
    ∷ [])
unfolding all_inner Shows spoken
starts_the_sizes_7 = refl

pub starts_the_sizes_8 :
    Shows (start_inner binary64 (record { n = 1; limit = 10001; limited = false; tolerance = int 1; akkt = none }) (only null))
    (says (ended (refused 3))
    ∷ [])
unfolding all_inner Shows spoken
starts_the_sizes_8 = refl

pub starts_the_sizes_9 :
    Shows (start_inner binary64 (record { n = 1; limit = 0; limited = false; tolerance = int 1; akkt = none }) (only null))
    (says (ended (refused 3))
    ∷ [])
unfolding all_inner Shows spoken
starts_the_sizes_9 = refl

pub starts_the_sizes_10 :
    Shows (start_inner binary64 (record { n = 1; limit = 10001; limited = false; tolerance = neg (int 1); akkt = none }) (only null))
    (says (ended (refused 3))
    ∷ [])
unfolding all_inner Shows spoken
starts_the_sizes_10 = refl

pub starts_the_sizes_11 :
    Shows (start_inner binary64 (record { n = 1; limit = 1; limited = false; tolerance = null; akkt = none }) (only null))
    (says (ended (refused 4))
    ∷ [])
unfolding all_inner Shows spoken
starts_the_sizes_11 = refl

pub starts_the_sizes_12 :
    Shows (start_inner binary64 (record { n = 1; limit = 1; limited = false; tolerance = neg (null); akkt = none }) (only null))
    (says (ended (refused 4))
    ∷ [])
unfolding all_inner Shows spoken
starts_the_sizes_12 = refl

pub starts_the_sizes_13 :
    Shows (start_inner binary64 (record { n = 1; limit = 1; limited = false; tolerance = nan; akkt = none }) (only null))
    (says (ended (refused 4))
    ∷ [])
unfolding all_inner Shows spoken
starts_the_sizes_13 = refl

pub starts_the_sizes_14 :
    Shows (start_inner binary64 (record { n = 1; limit = 1; limited = false; tolerance = inf false; akkt = none }) (only null))
    (says (ended (refused 4))
    ∷ [])
unfolding all_inner Shows spoken
starts_the_sizes_14 = refl

pub starts_the_sizes_15 :
    Shows (start_inner binary64 (record { n = 1; limit = 1; limited = false; tolerance = neg (int 1); akkt = none }) (only null))
    (says (ended (refused 4))
    ∷ [])
unfolding all_inner Shows spoken
starts_the_sizes_15 = refl

pub starts_the_sizes_16 :
    Shows (start_inner binary64 (record { n = 1; limit = 1; limited = false; tolerance = 1 /2^ 1074; akkt = none }) (only null))
    (says (asked (Asks.Question.cost (only null)))
    ∷ [])
unfolding all_inner Shows spoken
starts_the_sizes_16 = refl

pub starts_the_sizes_17 :
    Shows (start_inner binary64 (record { n = 1; limit = 1; limited = false; tolerance = 9007199254740991 ·2^ 971; akkt = some (1 /2^ 1074) }) (only null))
    (says (asked (Asks.Question.cost (only null)))
    ∷ [])
unfolding all_inner Shows spoken
starts_the_sizes_17 = refl

pub starts_the_sizes_18 :
    Shows (start_inner binary64 (record { n = 1; limit = 1; limited = false; tolerance = int 1; akkt = some null }) (only null))
    (says (ended (refused 4))
    ∷ [])
unfolding all_inner Shows spoken
starts_the_sizes_18 = refl

pub starts_the_sizes_19 :
    Shows (start_inner binary64 (record { n = 1; limit = 1; limited = false; tolerance = int 1; akkt = some nan }) (only null))
    (says (ended (refused 4))
    ∷ [])
unfolding all_inner Shows spoken
starts_the_sizes_19 = refl

pub starts_the_sizes_20 :
    Shows (start_inner binary64 (record { n = 1; limit = 1; limited = false; tolerance = int 1; akkt = some (inf false) }) (only null))
    (says (ended (refused 4))
    ∷ [])
unfolding all_inner Shows spoken
starts_the_sizes_20 = refl

pub starts_the_sizes_21 :
    Shows (start_inner binary64 (record { n = 1; limit = 1; limited = false; tolerance = int 1; akkt = some (neg (int 1)) }) (only null))
    (says (ended (refused 4))
    ∷ [])
unfolding all_inner Shows spoken
starts_the_sizes_21 = refl

pub starts_the_sizes_22 :
    Shows (start_inner binary64 (record { n = 1; limit = 1; limited = false; tolerance = int 1; akkt = none }) (only nan))
    (says (ended (refused 19))
    ∷ [])
unfolding all_inner Shows spoken
starts_the_sizes_22 = refl

-- ---- starts: 19, a u that is not finite, after 1 and before 2; psi and d_psi take any

pub starts_19_1 :
    Shows (start_inner binary64 (record { n = 1; limit = 1; limited = false; tolerance = int 1; akkt = none }) (only (inf false)))
    (ended (refused 19) ▷ number null
    ∷ says (turned 6)
    ∷ [])
unfolding all_inner Shows spoken
starts_19_1 = refl

pub starts_19_2 :
    Shows (start_inner binary64 (record { n = 1; limit = 1; limited = false; tolerance = int 1; akkt = none }) (only (inf true)))
    (says (ended (refused 19))
    ∷ [])
unfolding all_inner Shows spoken
starts_19_2 = refl

pub starts_19_3 :
    Shows (start_inner binary64 (record { n = 3; limit = 1; limited = false; tolerance = int 1; akkt = none }) (null ∷ null ∷ nan ∷ []))
    (says (ended (refused 19))
    ∷ [])
unfolding all_inner Shows spoken
starts_19_3 = refl

pub starts_19_4 :
    Shows (start_inner binary64 (record { n = 2; limit = 1; limited = false; tolerance = int 1; akkt = none }) (only nan))
    (says (ended (refused 1))
    ∷ [])
unfolding all_inner Shows spoken
starts_19_4 = refl

pub starts_19_5 :
    Shows (start_inner binary64 (record { n = 1; limit = 0; limited = false; tolerance = null; akkt = none }) (only nan))
    (says (ended (refused 19))
    ∷ [])
unfolding all_inner Shows spoken
starts_19_5 = refl

pub starts_19_6 :
    Shows (start_inner binary64 (record { n = 1; limit = 1; limited = false; tolerance = int 1; akkt = none }) (only (9007199254740991 ·2^ 971)))
    (says (asked (Asks.Question.cost (only (9007199254740991 ·2^ 971))))
    ∷ [])
unfolding all_inner Shows spoken
starts_19_6 = refl

-- ---- the shift: negative and zero get 1e-12; 1e-6 × s where that is more

pub the_shift_negative_and_zero_get_1e_12_1 :
    Shows (start_inner binary64 (record { n = 5; limit = 1; limited = false; tolerance = 1 /2^ 1; akkt = none }) (neg (1 ·2^ 1) ∷ null ∷ 1 ·2^ 1 ∷ 4722366482869645 /2^ 72 ∷ 2361183241434823 /2^ 71 ∷ []))
    (asked (Asks.Question.cost (neg (1 ·2^ 1) ∷ null ∷ 1 ·2^ 1 ∷ 4722366482869645 /2^ 72 ∷ 2361183241434823 /2^ 71 ∷ [])) ▷ number null
    ∷ asked (Asks.Question.gradient (neg (1 ·2^ 1) ∷ null ∷ 1 ·2^ 1 ∷ 4722366482869645 /2^ 72 ∷ 2361183241434823 /2^ 71 ∷ [])) ▷ vector (null ∷ null ∷ null ∷ null ∷ null ∷ [])
    ∷ asked (Asks.Question.gradient (neg (1125899906842061 /2^ 49) ∷ 4951760157141521 /2^ 92 ∷ 4503604130970123 /2^ 51 ∷ 147574100163629 /2^ 67 ∷ 4722371205236129 /2^ 72 ∷ [])) ▷ vector (null ∷ null ∷ null ∷ null ∷ null ∷ [])
    ∷ asked (Asks.Question.project (neg (1125899906842061 /2^ 49) ∷ 4951760157141521 /2^ 92 ∷ 4503604130970123 /2^ 51 ∷ 147574100163629 /2^ 67 ∷ 4722371205236129 /2^ 72 ∷ [])) ▷ vector (null ∷ null ∷ null ∷ null ∷ null ∷ [])
    ∷ asked (Asks.Question.cost (null ∷ null ∷ null ∷ null ∷ null ∷ [])) ▷ number null
    ∷ asked (Asks.Question.direction true (neg (1125899906842061 /2^ 49) ∷ 4951760157141521 /2^ 92 ∷ 4503604130970123 /2^ 51 ∷ 147574100163629 /2^ 67 ∷ 4722371205236129 /2^ 72 ∷ []) (neg (1125899906842061 /2^ 49) ∷ 4951760157141521 /2^ 92 ∷ 4503604130970123 /2^ 51 ∷ 147574100163629 /2^ 67 ∷ 4722371205236129 /2^ 72 ∷ [])) ▷ vector (null ∷ null ∷ null ∷ null ∷ null ∷ [])
    ∷ asked (Asks.Question.cost (null ∷ null ∷ null ∷ null ∷ null ∷ [])) ▷ number null
    ∷ asked (Asks.Question.gradient (null ∷ null ∷ null ∷ null ∷ null ∷ [])) ▷ vector (null ∷ null ∷ null ∷ null ∷ null ∷ [])
    ∷ asked (Asks.Question.project (null ∷ null ∷ null ∷ null ∷ null ∷ [])) ▷ vector (null ∷ null ∷ null ∷ null ∷ null ∷ [])
    ∷ asked (Asks.Question.cost (null ∷ null ∷ null ∷ null ∷ null ∷ [])) ▷ number null
    ∷ says (ended (handed (record { plan = (null ∷ null ∷ null ∷ null ∷ null ∷ []); status = not_converged_iterations; iterations = 1; norm = null; cost = null })))
    ∷ [])
unfolding all_inner Shows spoken
the_shift_negative_and_zero_get_1e_12_1 = refl

-- ---- L: NaN gives the largest γ and no doubling

pub l_nan_gives_the_largest_and_no_doubling_1 :
    Shows (start_inner binary64 (record { n = 1; limit = 1; limited = false; tolerance = 1 /2^ 1; akkt = none }) (only null))
    (asked (Asks.Question.cost (only null)) ▷ number null
    ∷ asked (Asks.Question.gradient (only null)) ▷ vector (only null)
    ∷ asked (Asks.Question.gradient (only (4951760157141521 /2^ 92))) ▷ vector (only nan)
    ∷ asked (Asks.Question.project (only (4951760157141521 /2^ 92))) ▷ vector (only (int 1))
    ∷ asked (Asks.Question.cost (only (int 1))) ▷ number (1953125 ·2^ 9)
    ∷ asked (Asks.Question.direction true (only (neg (9007199254731985 /2^ 53))) (only (4951760157141521 /2^ 92))) ▷ vector (only null)
    ∷ asked (Asks.Question.cost (only (int 1))) ▷ number null
    ∷ asked (Asks.Question.gradient (only (int 1))) ▷ vector (only null)
    ∷ asked (Asks.Question.project (only (int 1))) ▷ vector (only (int 1))
    ∷ asked (Asks.Question.cost (only (int 1))) ▷ number null
    ∷ says (ended (handed (record { plan = (only (int 1)); status = not_converged_iterations; iterations = 1; norm = null; cost = null })))
    ∷ [])
unfolding all_inner Shows spoken
l_nan_gives_the_largest_and_no_doubling_1 = refl

-- ---- L: 0 stays 0 when doubled; ten rounds and no more

pub l_0_stays_0_when_doubled_1 :
    Shows (start_inner binary64 (record { n = 1; limit = 1; limited = false; tolerance = 1 /2^ 1; akkt = none }) (only null))
    (asked (Asks.Question.cost (only null)) ▷ number null
    ∷ asked (Asks.Question.gradient (only null)) ▷ vector (only (int 1))
    ∷ asked (Asks.Question.gradient (only (4951760157141521 /2^ 92))) ▷ vector (only (int 1))
    ∷ asked (Asks.Question.project (only (neg (37109375 ·2^ 8)))) ▷ vector (only (int 1))
    ∷ asked (Asks.Question.cost (only (int 1))) ▷ number (1953125 ·2^ 9)
    ∷ asked (Asks.Question.project (only (neg (37109375 ·2^ 7)))) ▷ vector (only (int 1))
    ∷ asked (Asks.Question.cost (only (int 1))) ▷ number (1953125 ·2^ 9)
    ∷ asked (Asks.Question.project (only (neg (37109375 ·2^ 6)))) ▷ vector (only (int 1))
    ∷ asked (Asks.Question.cost (only (int 1))) ▷ number (1953125 ·2^ 9)
    ∷ asked (Asks.Question.project (only (neg (37109375 ·2^ 5)))) ▷ vector (only (int 1))
    ∷ asked (Asks.Question.cost (only (int 1))) ▷ number (1953125 ·2^ 9)
    ∷ asked (Asks.Question.project (only (neg (37109375 ·2^ 4)))) ▷ vector (only (int 1))
    ∷ asked (Asks.Question.cost (only (int 1))) ▷ number (1953125 ·2^ 9)
    ∷ asked (Asks.Question.project (only (neg (37109375 ·2^ 3)))) ▷ vector (only (int 1))
    ∷ asked (Asks.Question.cost (only (int 1))) ▷ number (1953125 ·2^ 9)
    ∷ asked (Asks.Question.project (only (neg (37109375 ·2^ 2)))) ▷ vector (only (int 1))
    ∷ asked (Asks.Question.cost (only (int 1))) ▷ number (1953125 ·2^ 9)
    ∷ asked (Asks.Question.project (only (neg (37109375 ·2^ 1)))) ▷ vector (only (int 1))
    ∷ asked (Asks.Question.cost (only (int 1))) ▷ number (1953125 ·2^ 9)
    ∷ asked (Asks.Question.project (only (neg (int 37109375)))) ▷ vector (only (int 1))
    ∷ asked (Asks.Question.cost (only (int 1))) ▷ number (1953125 ·2^ 9)
    ∷ asked (Asks.Question.project (only (neg (37109375 /2^ 1)))) ▷ vector (only (int 1))
    ∷ asked (Asks.Question.cost (only (int 1))) ▷ number (1953125 ·2^ 9)
    ∷ asked (Asks.Question.project (only (neg (37109375 /2^ 2)))) ▷ vector (only (int 1))
    ∷ asked (Asks.Question.cost (only (int 1))) ▷ number (1953125 ·2^ 9)
    ∷ asked (Asks.Question.direction true (only (neg (9007199254731985 /2^ 53))) (only (4951760157141521 /2^ 92))) ▷ vector (only null)
    ∷ asked (Asks.Question.cost (only (int 1))) ▷ number null
    ∷ asked (Asks.Question.gradient (only (int 1))) ▷ vector (only null)
    ∷ asked (Asks.Question.project (only (int 1))) ▷ vector (only (int 1))
    ∷ asked (Asks.Question.cost (only (int 1))) ▷ number null
    ∷ says (ended (handed (record { plan = (only (int 1)); status = not_converged_iterations; iterations = 1; norm = null; cost = null })))
    ∷ [])
unfolding all_inner Shows spoken
l_0_stays_0_when_doubled_1 = refl

-- ---- L: infinite gives γ = 0

pub l_infinite_gives_0_1 :
    Shows (start_inner binary64 (record { n = 1; limit = 1; limited = false; tolerance = 1 /2^ 1; akkt = none }) (only null))
    (asked (Asks.Question.cost (only null)) ▷ number null
    ∷ asked (Asks.Question.gradient (only null)) ▷ vector (only (int 1))
    ∷ asked (Asks.Question.gradient (only (4951760157141521 /2^ 92))) ▷ vector (only (inf false))
    ∷ asked (Asks.Question.project (only (4951760157141521 /2^ 92))) ▷ vector (only (int 1))
    ∷ asked (Asks.Question.cost (only (int 1))) ▷ number (int 1)
    ∷ asked (Asks.Question.direction true (only (neg (9007199254731985 /2^ 53))) (only (4951760157141521 /2^ 92))) ▷ vector (only null)
    ∷ asked (Asks.Question.cost (only (int 1))) ▷ number null
    ∷ asked (Asks.Question.gradient (only (int 1))) ▷ vector (only (1 ·2^ 1))
    ∷ asked (Asks.Question.project (only (int 1))) ▷ vector (only (int 3))
    ∷ asked (Asks.Question.cost (only (int 3))) ▷ number (int 1)
    ∷ asked (Asks.Question.direction false (only (neg (1 ·2^ 1))) (only (int 1))) ▷ vector (only (int 1))
    ∷ asked (Asks.Question.cost (only null)) ▷ number null
    ∷ asked (Asks.Question.gradient (only null)) ▷ vector (only null)
    ∷ asked (Asks.Question.project (only null)) ▷ vector (only null)
    ∷ asked (Asks.Question.cost (only null)) ▷ number (1 ·2^ 1)
    ∷ says (ended (handed (record { plan = (only null); status = not_converged_iterations; iterations = 1; norm = null; cost = 1 ·2^ 1 })))
    ∷ [])
unfolding all_inner Shows spoken
l_infinite_gives_0_1 = refl

-- ---- L: at 1e9 and above no doubling; just below, one round

pub l_at_1e9_and_above_no_doubling_1 :
    Shows (start_inner binary64 (record { n = 1; limit = 1; limited = false; tolerance = 1 /2^ 1; akkt = none }) (only null))
    (asked (Asks.Question.cost (only null)) ▷ number null
    ∷ asked (Asks.Question.gradient (only null)) ▷ vector (only null)
    ∷ asked (Asks.Question.gradient (only (4951760157141521 /2^ 92))) ▷ vector (only (1152921504606847 /2^ 60))
    ∷ asked (Asks.Question.project (only (4951760157141521 /2^ 92))) ▷ vector (only (int 1))
    ∷ asked (Asks.Question.cost (only (int 1))) ▷ number (3552713678800501 ·2^ 48)
    ∷ asked (Asks.Question.direction true (only (neg (9007199254731985 /2^ 53))) (only (4951760157141521 /2^ 92))) ▷ vector (only (int 1))
    ∷ says (asked (Asks.Question.cost (only (int 1))))
    ∷ [])
unfolding all_inner Shows spoken
l_at_1e9_and_above_no_doubling_1 = refl

pub l_at_1e9_and_above_no_doubling_2 :
    Shows (start_inner binary64 (record { n = 1; limit = 1; limited = false; tolerance = 1 /2^ 1; akkt = none }) (only null))
    (asked (Asks.Question.cost (only null)) ▷ number null
    ∷ asked (Asks.Question.gradient (only null)) ▷ vector (only null)
    ∷ asked (Asks.Question.gradient (only (4951760157141521 /2^ 92))) ▷ vector (only (2282784579121557 /2^ 61))
    ∷ asked (Asks.Question.project (only (4951760157141521 /2^ 92))) ▷ vector (only (int 1))
    ∷ asked (Asks.Question.cost (only (int 1))) ▷ number (3552713678800501 ·2^ 48)
    ∷ asked (Asks.Question.project (only (4951760157141521 /2^ 92))) ▷ vector (only (int 1))
    ∷ asked (Asks.Question.cost (only (int 1))) ▷ number (3552713678800501 ·2^ 48)
    ∷ asked (Asks.Question.direction true (only (neg (9007199254731985 /2^ 53))) (only (4951760157141521 /2^ 92))) ▷ vector (only (int 1))
    ∷ says (asked (Asks.Question.cost (only (int 1))))
    ∷ [])
unfolding all_inner Shows spoken
l_at_1e9_and_above_no_doubling_2 = refl

-- ---- scoring: norms 3, 1, 1, the second is kept

pub scoring_norms_3_1 :
    Shows (start_inner binary64 (record { n = 1; limit = 1; limited = false; tolerance = 1 /2^ 1; akkt = none }) (only null))
    (asked (Asks.Question.cost (only null)) ▷ number null
    ∷ asked (Asks.Question.gradient (only null)) ▷ vector (only null)
    ∷ asked (Asks.Question.gradient (only (4951760157141521 /2^ 92))) ▷ vector (only null)
    ∷ asked (Asks.Question.project (only (4951760157141521 /2^ 92))) ▷ vector (only (neg (int 3)))
    ∷ asked (Asks.Question.cost (only (neg (int 3)))) ▷ number null
    ∷ asked (Asks.Question.direction true (only (1688849860264499 /2^ 49)) (only (4951760157141521 /2^ 92))) ▷ vector (only null)
    ∷ asked (Asks.Question.cost (only (neg (int 3)))) ▷ number null
    ∷ asked (Asks.Question.gradient (only (neg (int 3)))) ▷ vector (only null)
    ∷ asked (Asks.Question.project (only (neg (int 3)))) ▷ vector (only (neg (1 ·2^ 1)))
    ∷ asked (Asks.Question.cost (only (neg (1 ·2^ 1)))) ▷ number null
    ∷ asked (Asks.Question.direction false (only (neg (int 1))) (only (neg (int 3)))) ▷ vector (only null)
    ∷ asked (Asks.Question.cost (only (neg (int 3)))) ▷ number (neg (int 9))
    ∷ asked (Asks.Question.gradient (only (neg (int 3)))) ▷ vector (only null)
    ∷ asked (Asks.Question.project (only (neg (int 3)))) ▷ vector (only (neg (1 ·2^ 2)))
    ∷ asked (Asks.Question.cost (only (neg (1 ·2^ 1)))) ▷ number (int 7)
    ∷ says (ended (handed (record { plan = (only (neg (1 ·2^ 1))); status = not_converged_iterations; iterations = 1; norm = int 1; cost = int 7 })))
    ∷ [])
unfolding all_inner Shows spoken
scoring_norms_3_1 = refl

-- ---- scoring: norms that are infinite leave zeros with infinity

pub scoring_norms_that_are_infinite_leave_zeros_with_infinity_1 :
    Shows (start_inner binary64 (record { n = 1; limit = 1; limited = false; tolerance = 1 /2^ 1; akkt = none }) (only null))
    (asked (Asks.Question.cost (only null)) ▷ number null
    ∷ asked (Asks.Question.gradient (only null)) ▷ vector (only null)
    ∷ asked (Asks.Question.gradient (only (4951760157141521 /2^ 92))) ▷ vector (only null)
    ∷ asked (Asks.Question.project (only (4951760157141521 /2^ 92))) ▷ vector (only (2941796710330669 ·2^ 613))
    ∷ asked (Asks.Question.cost (only (2941796710330669 ·2^ 613))) ▷ number null
    ∷ asked (Asks.Question.direction true (only (neg (2941796710330669 ·2^ 613))) (only (4951760157141521 /2^ 92))) ▷ vector (only null)
    ∷ asked (Asks.Question.cost (only (2941796710330669 ·2^ 613))) ▷ number null
    ∷ asked (Asks.Question.gradient (only (2941796710330669 ·2^ 613))) ▷ vector (only null)
    ∷ asked (Asks.Question.project (only (2941796710330669 ·2^ 613))) ▷ vector (only (neg (2941796710330669 ·2^ 613)))
    ∷ asked (Asks.Question.cost (only (neg (2941796710330669 ·2^ 613)))) ▷ number null
    ∷ asked (Asks.Question.direction false (only (2941796710330669 ·2^ 614)) (only (2941796710330669 ·2^ 613))) ▷ vector (only (2941796710330669 ·2^ 613))
    ∷ asked (Asks.Question.cost (only null)) ▷ number (neg (int 1))
    ∷ asked (Asks.Question.gradient (only null)) ▷ vector (only null)
    ∷ asked (Asks.Question.project (only null)) ▷ vector (only (2941796710330669 ·2^ 613))
    ∷ asked (Asks.Question.cost (only null)) ▷ number (int 5)
    ∷ says (ended (handed (record { plan = (only null); status = not_converged_iterations; iterations = 1; norm = inf false; cost = int 5 })))
    ∷ [])
unfolding all_inner Shows spoken
scoring_norms_that_are_infinite_leave_zeros_with_infinity_1 = refl

-- ---- scoring: NaN, then infinity; the last u is NaN (15)

pub scoring_nan_1 :
    Shows (start_inner binary64 (record { n = 2; limit = 1; limited = false; tolerance = 1 /2^ 1; akkt = none }) (null ∷ int 1 ∷ []))
    (asked (Asks.Question.cost (null ∷ int 1 ∷ [])) ▷ number null
    ∷ asked (Asks.Question.gradient (null ∷ int 1 ∷ [])) ▷ vector (null ∷ null ∷ [])
    ∷ asked (Asks.Question.gradient (4951760157141521 /2^ 92 ∷ 4503604130970123 /2^ 52 ∷ [])) ▷ vector (null ∷ null ∷ [])
    ∷ asked (Asks.Question.project (4951760157141521 /2^ 92 ∷ 4503604130970123 /2^ 52 ∷ [])) ▷ vector (nan ∷ null ∷ [])
    ∷ asked (Asks.Question.cost (nan ∷ null ∷ [])) ▷ number null
    ∷ asked (Asks.Question.direction true (nan ∷ 4503604130970123 /2^ 52 ∷ []) (4951760157141521 /2^ 92 ∷ 4503604130970123 /2^ 52 ∷ [])) ▷ vector (null ∷ null ∷ [])
    ∷ asked (Asks.Question.cost (nan ∷ null ∷ [])) ▷ number null
    ∷ asked (Asks.Question.gradient (nan ∷ null ∷ [])) ▷ vector (null ∷ null ∷ [])
    ∷ asked (Asks.Question.project (nan ∷ null ∷ [])) ▷ vector (inf false ∷ null ∷ [])
    ∷ asked (Asks.Question.cost (inf false ∷ null ∷ [])) ▷ number null
    ∷ asked (Asks.Question.direction false (nan ∷ null ∷ []) (nan ∷ null ∷ [])) ▷ vector (null ∷ null ∷ [])
    ∷ asked (Asks.Question.cost (nan ∷ null ∷ [])) ▷ number null
    ∷ asked (Asks.Question.gradient (nan ∷ null ∷ [])) ▷ vector (null ∷ null ∷ [])
    ∷ asked (Asks.Question.project (nan ∷ null ∷ [])) ▷ vector (null ∷ null ∷ [])
    ∷ ended (refused 15) ▷ number null
    ∷ says (turned 6)
    ∷ [])
unfolding all_inner Shows spoken
scoring_nan_1 = refl

-- ---- norm 0 is below every tolerance

pub norm_0_is_below_every_tolerance_1 :
    Shows (start_inner binary64 (record { n = 1; limit = 1; limited = false; tolerance = 1 /2^ 1074; akkt = none }) (only null))
    (asked (Asks.Question.cost (only null)) ▷ number null
    ∷ asked (Asks.Question.gradient (only null)) ▷ vector (only null)
    ∷ asked (Asks.Question.gradient (only (4951760157141521 /2^ 92))) ▷ vector (only null)
    ∷ asked (Asks.Question.project (only (4951760157141521 /2^ 92))) ▷ vector (only (4951760157141521 /2^ 92))
    ∷ asked (Asks.Question.cost (only (4951760157141521 /2^ 92))) ▷ number null
    ∷ says (ended (handed (record { plan = (only (4951760157141521 /2^ 92)); status = converged; iterations = 0; norm = null; cost = null })))
    ∷ [])
unfolding all_inner Shows spoken
norm_0_is_below_every_tolerance_1 = refl

-- ---- the root of 2^-1074 is 2^-537; a square that vanishes gives norm 0

pub the_root_of_2_1074_is_2_537_1 :
    Shows (start_inner binary64 (record { n = 1; limit = 1; limited = false; tolerance = 5438853046443695 /2^ 617; akkt = none }) (only (neg (int 1))))
    (asked (Asks.Question.cost (only (neg (int 1)))) ▷ number null
    ∷ asked (Asks.Question.gradient (only (neg (int 1)))) ▷ vector (only null)
    ∷ asked (Asks.Question.gradient (only (neg (9007199254731985 /2^ 53)))) ▷ vector (only null)
    ∷ asked (Asks.Question.project (only (neg (9007199254731985 /2^ 53)))) ▷ vector (only null)
    ∷ asked (Asks.Question.cost (only null)) ▷ number null
    ∷ asked (Asks.Question.direction true (only (neg (9007199254731985 /2^ 53))) (only (neg (9007199254731985 /2^ 53)))) ▷ vector (only null)
    ∷ asked (Asks.Question.cost (only null)) ▷ number null
    ∷ asked (Asks.Question.gradient (only null)) ▷ vector (only null)
    ∷ asked (Asks.Question.project (only null)) ▷ vector (only (1 /2^ 537))
    ∷ asked (Asks.Question.cost (only (1 /2^ 537))) ▷ number null
    ∷ asked (Asks.Question.direction false (only (neg (1 /2^ 537))) (only null)) ▷ vector (only null)
    ∷ asked (Asks.Question.cost (only null)) ▷ number (neg (int 1))
    ∷ asked (Asks.Question.gradient (only null)) ▷ vector (only null)
    ∷ asked (Asks.Question.project (only null)) ▷ vector (only (int 1))
    ∷ asked (Asks.Question.cost (only (1 /2^ 537))) ▷ number (int 5)
    ∷ says (ended (handed (record { plan = (only (1 /2^ 537)); status = not_converged_iterations; iterations = 1; norm = 1 /2^ 537; cost = int 5 })))
    ∷ [])
unfolding all_inner Shows spoken
the_root_of_2_1074_is_2_537_1 = refl

pub the_root_of_2_1074_is_2_537_2 :
    Shows (start_inner binary64 (record { n = 1; limit = 1; limited = false; tolerance = 5438853046443695 /2^ 617; akkt = none }) (only (neg (int 1))))
    (asked (Asks.Question.cost (only (neg (int 1)))) ▷ number null
    ∷ asked (Asks.Question.gradient (only (neg (int 1)))) ▷ vector (only null)
    ∷ asked (Asks.Question.gradient (only (neg (9007199254731985 /2^ 53)))) ▷ vector (only null)
    ∷ asked (Asks.Question.project (only (neg (9007199254731985 /2^ 53)))) ▷ vector (only null)
    ∷ asked (Asks.Question.cost (only null)) ▷ number null
    ∷ asked (Asks.Question.direction true (only (neg (9007199254731985 /2^ 53))) (only (neg (9007199254731985 /2^ 53)))) ▷ vector (only null)
    ∷ asked (Asks.Question.cost (only null)) ▷ number null
    ∷ asked (Asks.Question.gradient (only null)) ▷ vector (only null)
    ∷ asked (Asks.Question.project (only null)) ▷ vector (only (8104522595470689 /2^ 591))
    ∷ asked (Asks.Question.cost (only (8104522595470689 /2^ 591))) ▷ number (int 5)
    ∷ says (ended (handed (record { plan = (only (8104522595470689 /2^ 591)); status = not_converged_iterations; iterations = 1; norm = null; cost = int 5 })))
    ∷ [])
unfolding all_inner Shows spoken
the_root_of_2_1074_is_2_537_2 = refl

-- ---- norm √2, then 2

pub norm_2_1 :
    Shows (start_inner binary64 (record { n = 2; limit = 1; limited = false; tolerance = 1 /2^ 1; akkt = none }) (neg (4951760157141521 /2^ 92) ∷ neg (4951760157141521 /2^ 92) ∷ []))
    (asked (Asks.Question.cost (neg (4951760157141521 /2^ 92) ∷ neg (4951760157141521 /2^ 92) ∷ [])) ▷ number null
    ∷ asked (Asks.Question.gradient (neg (4951760157141521 /2^ 92) ∷ neg (4951760157141521 /2^ 92) ∷ [])) ▷ vector (null ∷ null ∷ [])
    ∷ asked (Asks.Question.gradient (null ∷ null ∷ [])) ▷ vector (null ∷ null ∷ [])
    ∷ asked (Asks.Question.project (null ∷ null ∷ [])) ▷ vector (int 1 ∷ int 1 ∷ [])
    ∷ asked (Asks.Question.cost (int 1 ∷ int 1 ∷ [])) ▷ number null
    ∷ asked (Asks.Question.direction true (neg (int 1) ∷ neg (int 1) ∷ []) (null ∷ null ∷ [])) ▷ vector (null ∷ null ∷ [])
    ∷ asked (Asks.Question.cost (int 1 ∷ int 1 ∷ [])) ▷ number null
    ∷ asked (Asks.Question.gradient (int 1 ∷ int 1 ∷ [])) ▷ vector (null ∷ null ∷ [])
    ∷ asked (Asks.Question.project (int 1 ∷ int 1 ∷ [])) ▷ vector (int 1 ∷ int 3 ∷ [])
    ∷ asked (Asks.Question.cost (int 1 ∷ int 3 ∷ [])) ▷ number null
    ∷ asked (Asks.Question.direction false (null ∷ neg (1 ·2^ 1) ∷ []) (int 1 ∷ int 1 ∷ [])) ▷ vector (null ∷ null ∷ [])
    ∷ asked (Asks.Question.cost (int 1 ∷ int 1 ∷ [])) ▷ number (neg (int 1))
    ∷ asked (Asks.Question.gradient (int 1 ∷ int 1 ∷ [])) ▷ vector (null ∷ null ∷ [])
    ∷ asked (Asks.Question.project (int 1 ∷ int 1 ∷ [])) ▷ vector (int 1 ∷ int 3 ∷ [])
    ∷ asked (Asks.Question.cost (int 1 ∷ int 1 ∷ [])) ▷ number null
    ∷ says (ended (handed (record { plan = (int 1 ∷ int 1 ∷ []); status = not_converged_iterations; iterations = 1; norm = 6369051672525773 /2^ 52; cost = null })))
    ∷ [])
unfolding all_inner Shows spoken
norm_2_1 = refl

-- ---- the root of the largest float; the others are infinite

pub the_root_of_the_largest_float_1 :
    Shows (start_inner binary64 (record { n = 2; limit = 1; limited = false; tolerance = 1 /2^ 1; akkt = none }) (neg (4951760157141521 /2^ 92) ∷ neg (4951760157141521 /2^ 92) ∷ []))
    (asked (Asks.Question.cost (neg (4951760157141521 /2^ 92) ∷ neg (4951760157141521 /2^ 92) ∷ [])) ▷ number null
    ∷ asked (Asks.Question.gradient (neg (4951760157141521 /2^ 92) ∷ neg (4951760157141521 /2^ 92) ∷ [])) ▷ vector (null ∷ null ∷ [])
    ∷ asked (Asks.Question.gradient (null ∷ null ∷ [])) ▷ vector (null ∷ null ∷ [])
    ∷ asked (Asks.Question.project (null ∷ null ∷ [])) ▷ vector (neg (9007199254740991 ·2^ 459) ∷ neg (5 ·2^ 483) ∷ [])
    ∷ asked (Asks.Question.cost (neg (9007199254740991 ·2^ 459) ∷ neg (5 ·2^ 483) ∷ [])) ▷ number null
    ∷ asked (Asks.Question.direction true (9007199254740991 ·2^ 459 ∷ 5 ·2^ 483 ∷ []) (null ∷ null ∷ [])) ▷ vector (null ∷ null ∷ [])
    ∷ asked (Asks.Question.cost (neg (9007199254740991 ·2^ 459) ∷ neg (5 ·2^ 483) ∷ [])) ▷ number null
    ∷ asked (Asks.Question.gradient (neg (9007199254740991 ·2^ 459) ∷ neg (5 ·2^ 483) ∷ [])) ▷ vector (null ∷ null ∷ [])
    ∷ asked (Asks.Question.project (neg (9007199254740991 ·2^ 459) ∷ neg (5 ·2^ 483) ∷ [])) ▷ vector (9007199254740991 ·2^ 459 ∷ null ∷ [])
    ∷ asked (Asks.Question.cost (9007199254740991 ·2^ 459 ∷ null ∷ [])) ▷ number null
    ∷ asked (Asks.Question.direction false (neg (9007199254740991 ·2^ 460) ∷ neg (5 ·2^ 483) ∷ []) (neg (9007199254740991 ·2^ 459) ∷ neg (5 ·2^ 483) ∷ [])) ▷ vector (neg (9007199254740991 ·2^ 459) ∷ neg (5 ·2^ 483) ∷ [])
    ∷ asked (Asks.Question.cost (null ∷ null ∷ [])) ▷ number null
    ∷ asked (Asks.Question.gradient (null ∷ null ∷ [])) ▷ vector (null ∷ null ∷ [])
    ∷ asked (Asks.Question.project (null ∷ null ∷ [])) ▷ vector (6406665904585923 ·2^ 479 ∷ null ∷ [])
    ∷ asked (Asks.Question.cost (neg (9007199254740991 ·2^ 459) ∷ neg (5 ·2^ 483) ∷ [])) ▷ number (int 5)
    ∷ says (ended (handed (record { plan = (neg (9007199254740991 ·2^ 459) ∷ neg (5 ·2^ 483) ∷ []); status = not_converged_iterations; iterations = 1; norm = 9007199254740991 ·2^ 459; cost = int 5 })))
    ∷ [])
unfolding all_inner Shows spoken
the_root_of_the_largest_float_1 = refl

-- ---- the tolerance: a norm equal to it does not pass, one below it does

pub the_tolerance_a_norm_equal_to_it_does_not_pass_1 :
    Shows (start_inner binary64 (record { n = 1; limit = 2; limited = false; tolerance = int 1; akkt = none }) (only null))
    (asked (Asks.Question.cost (only null)) ▷ number null
    ∷ asked (Asks.Question.gradient (only null)) ▷ vector (only null)
    ∷ asked (Asks.Question.gradient (only (4951760157141521 /2^ 92))) ▷ vector (only null)
    ∷ asked (Asks.Question.project (only (4951760157141521 /2^ 92))) ▷ vector (only (1 ·2^ 1))
    ∷ asked (Asks.Question.cost (only (1 ·2^ 1))) ▷ number null
    ∷ asked (Asks.Question.direction true (only (neg (1125899906842061 /2^ 49))) (only (4951760157141521 /2^ 92))) ▷ vector (only null)
    ∷ asked (Asks.Question.cost (only (1 ·2^ 1))) ▷ number null
    ∷ asked (Asks.Question.gradient (only (1 ·2^ 1))) ▷ vector (only null)
    ∷ asked (Asks.Question.project (only (1 ·2^ 1))) ▷ vector (only (int 3))
    ∷ asked (Asks.Question.cost (only (int 3))) ▷ number null
    ∷ asked (Asks.Question.direction false (only (neg (int 1))) (only (1 ·2^ 1))) ▷ vector (only (int 1))
    ∷ asked (Asks.Question.cost (only (int 1))) ▷ number null
    ∷ asked (Asks.Question.gradient (only (int 1))) ▷ vector (only null)
    ∷ asked (Asks.Question.project (only (int 1))) ▷ vector (only (4503599627370497 /2^ 52))
    ∷ asked (Asks.Question.cost (only (4503599627370497 /2^ 52))) ▷ number (1 ·2^ 2)
    ∷ says (ended (handed (record { plan = (only (4503599627370497 /2^ 52)); status = not_converged_iterations; iterations = 2; norm = 1 /2^ 52; cost = 1 ·2^ 2 })))
    ∷ [])
unfolding all_inner Shows spoken
the_tolerance_a_norm_equal_to_it_does_not_pass_1 = refl

-- ---- AKKT: at the first step γ × gradient is part of it, later it equals the norm

pub akkt_at_the_first_step_gradient_is_part_of_it_1 :
    Shows (start_inner binary64 (record { n = 1; limit = 3; limited = false; tolerance = 1 ·2^ 1; akkt = some (int 1) }) (only null))
    (asked (Asks.Question.cost (only null)) ▷ number null
    ∷ asked (Asks.Question.gradient (only null)) ▷ vector (only (int 1))
    ∷ asked (Asks.Question.gradient (only (4951760157141521 /2^ 92))) ▷ vector (only (int 1))
    ∷ asked (Asks.Question.project (only (neg (37109375 ·2^ 8)))) ▷ vector (only (1 /2^ 1))
    ∷ asked (Asks.Question.cost (only (1 /2^ 1))) ▷ number (neg (int 1))
    ∷ asked (Asks.Question.direction true (only (neg (4503599627361489 /2^ 53))) (only (4951760157141521 /2^ 92))) ▷ vector (only null)
    ∷ asked (Asks.Question.cost (only (1 /2^ 1))) ▷ number null
    ∷ asked (Asks.Question.gradient (only (1 /2^ 1))) ▷ vector (only (int 1))
    ∷ asked (Asks.Question.project (only (neg (18999999999 /2^ 1)))) ▷ vector (only null)
    ∷ asked (Asks.Question.cost (only (1 /2^ 1))) ▷ number (int 3)
    ∷ says (ended (handed (record { plan = (only (1 /2^ 1)); status = converged; iterations = 1; norm = 4503599627361489 /2^ 53; cost = int 3 })))
    ∷ [])
unfolding all_inner Shows spoken
akkt_at_the_first_step_gradient_is_part_of_it_1 = refl

pub akkt_at_the_first_step_gradient_is_part_of_it_2 :
    Shows (start_inner binary64 (record { n = 1; limit = 3; limited = false; tolerance = 1 ·2^ 1; akkt = some (int 1) }) (only null))
    (asked (Asks.Question.cost (only null)) ▷ number null
    ∷ asked (Asks.Question.gradient (only null)) ▷ vector (only (4951760157141521 /2^ 92))
    ∷ asked (Asks.Question.gradient (only (4951760157141521 /2^ 92))) ▷ vector (only (4951760157141521 /2^ 92))
    ∷ asked (Asks.Question.project (only (neg (2738188573153031 /2^ 58)))) ▷ vector (only (1 /2^ 1))
    ∷ asked (Asks.Question.cost (only (1 /2^ 1))) ▷ number (int 3)
    ∷ says (ended (handed (record { plan = (only (1 /2^ 1)); status = converged; iterations = 0; norm = 4503599627361489 /2^ 53; cost = int 3 })))
    ∷ [])
unfolding all_inner Shows spoken
akkt_at_the_first_step_gradient_is_part_of_it_2 = refl

pub akkt_at_the_first_step_gradient_is_part_of_it_3 :
    Shows (start_inner binary64 (record { n = 1; limit = 3; limited = false; tolerance = 1 ·2^ 1; akkt = some (int 1) }) (only null))
    (asked (Asks.Question.cost (only null)) ▷ number null
    ∷ asked (Asks.Question.gradient (only null)) ▷ vector (only null)
    ∷ asked (Asks.Question.gradient (only (4951760157141521 /2^ 92))) ▷ vector (only null)
    ∷ asked (Asks.Question.project (only (4951760157141521 /2^ 92))) ▷ vector (only (1 ·2^ 1))
    ∷ asked (Asks.Question.cost (only (1 ·2^ 1))) ▷ number null
    ∷ asked (Asks.Question.direction true (only (neg (1125899906842061 /2^ 49))) (only (4951760157141521 /2^ 92))) ▷ vector (only null)
    ∷ asked (Asks.Question.cost (only (1 ·2^ 1))) ▷ number null
    ∷ asked (Asks.Question.gradient (only (1 ·2^ 1))) ▷ vector (only null)
    ∷ asked (Asks.Question.project (only (1 ·2^ 1))) ▷ vector (only (int 1))
    ∷ asked (Asks.Question.cost (only (int 1))) ▷ number null
    ∷ asked (Asks.Question.direction false (only (int 1)) (only (1 ·2^ 1))) ▷ vector (only null)
    ∷ asked (Asks.Question.cost (only (1 ·2^ 1))) ▷ number (neg (int 1))
    ∷ asked (Asks.Question.gradient (only (1 ·2^ 1))) ▷ vector (only null)
    ∷ asked (Asks.Question.project (only (1 ·2^ 1))) ▷ vector (only (4503599627370497 /2^ 52))
    ∷ asked (Asks.Question.cost (only (4503599627370497 /2^ 52))) ▷ number (int 1)
    ∷ says (ended (handed (record { plan = (only (4503599627370497 /2^ 52)); status = converged; iterations = 2; norm = 4503599627370495 /2^ 52; cost = int 1 })))
    ∷ [])
unfolding all_inner Shows spoken
akkt_at_the_first_step_gradient_is_part_of_it_3 = refl

-- ---- M = 1: the second step passes its test and the end is NotConvergedIterations all the same

pub m_1_the_second_step_passes_its_test_and_the_end_is_not_converged_iterations_all_the_same_1 :
    Shows (start_inner binary64 (record { n = 1; limit = 1; limited = false; tolerance = int 1; akkt = none }) (only null))
    (asked (Asks.Question.cost (only null)) ▷ number null
    ∷ asked (Asks.Question.gradient (only null)) ▷ vector (only null)
    ∷ asked (Asks.Question.gradient (only (4951760157141521 /2^ 92))) ▷ vector (only null)
    ∷ asked (Asks.Question.project (only (4951760157141521 /2^ 92))) ▷ vector (only (1 ·2^ 1))
    ∷ asked (Asks.Question.cost (only (1 ·2^ 1))) ▷ number null
    ∷ asked (Asks.Question.direction true (only (neg (1125899906842061 /2^ 49))) (only (4951760157141521 /2^ 92))) ▷ vector (only null)
    ∷ asked (Asks.Question.cost (only (1 ·2^ 1))) ▷ number null
    ∷ asked (Asks.Question.gradient (only (1 ·2^ 1))) ▷ vector (only null)
    ∷ asked (Asks.Question.project (only (1 ·2^ 1))) ▷ vector (only (5 /2^ 1))
    ∷ asked (Asks.Question.cost (only (5 /2^ 1))) ▷ number (int 1)
    ∷ says (ended (handed (record { plan = (only (5 /2^ 1)); status = not_converged_iterations; iterations = 1; norm = 1 /2^ 1; cost = int 1 })))
    ∷ [])
unfolding all_inner Shows spoken
m_1_the_second_step_passes_its_test_and_the_end_is_not_converged_iterations_all_the_same_1 = refl

pub m_1_the_second_step_passes_its_test_and_the_end_is_not_converged_iterations_all_the_same_2 :
    Shows (start_inner binary64 (record { n = 1; limit = 2; limited = false; tolerance = int 1; akkt = none }) (only null))
    (asked (Asks.Question.cost (only null)) ▷ number null
    ∷ asked (Asks.Question.gradient (only null)) ▷ vector (only null)
    ∷ asked (Asks.Question.gradient (only (4951760157141521 /2^ 92))) ▷ vector (only null)
    ∷ asked (Asks.Question.project (only (4951760157141521 /2^ 92))) ▷ vector (only (1 ·2^ 1))
    ∷ asked (Asks.Question.cost (only (1 ·2^ 1))) ▷ number null
    ∷ asked (Asks.Question.direction true (only (neg (1125899906842061 /2^ 49))) (only (4951760157141521 /2^ 92))) ▷ vector (only null)
    ∷ asked (Asks.Question.cost (only (1 ·2^ 1))) ▷ number null
    ∷ asked (Asks.Question.gradient (only (1 ·2^ 1))) ▷ vector (only null)
    ∷ asked (Asks.Question.project (only (1 ·2^ 1))) ▷ vector (only (5 /2^ 1))
    ∷ asked (Asks.Question.cost (only (5 /2^ 1))) ▷ number (int 1)
    ∷ says (ended (handed (record { plan = (only (5 /2^ 1)); status = converged; iterations = 1; norm = 1 /2^ 1; cost = int 1 })))
    ∷ [])
unfolding all_inner Shows spoken
m_1_the_second_step_passes_its_test_and_the_end_is_not_converged_iterations_all_the_same_2 = refl

pub m_1_the_second_step_passes_its_test_and_the_end_is_not_converged_iterations_all_the_same_3 :
    Shows (start_inner binary64 (record { n = 1; limit = 1; limited = false; tolerance = int 1; akkt = none }) (only null))
    (asked (Asks.Question.cost (only null)) ▷ number null
    ∷ asked (Asks.Question.gradient (only null)) ▷ vector (only null)
    ∷ asked (Asks.Question.gradient (only (4951760157141521 /2^ 92))) ▷ vector (only null)
    ∷ asked (Asks.Question.project (only (4951760157141521 /2^ 92))) ▷ vector (only (1 /2^ 2))
    ∷ asked (Asks.Question.cost (only (1 /2^ 2))) ▷ number (int 1)
    ∷ says (ended (handed (record { plan = (only (1 /2^ 2)); status = converged; iterations = 0; norm = 9007199254704963 /2^ 55; cost = int 1 })))
    ∷ [])
unfolding all_inner Shows spoken
m_1_the_second_step_passes_its_test_and_the_end_is_not_converged_iterations_all_the_same_3 = refl

-- ---- TIME: a no, then a step that passes; a no, then a step that does not; a no where M is reached

pub time_a_no_1 :
    Shows (start_inner binary64 (record { n = 1; limit = 5; limited = true; tolerance = int 1; akkt = none }) (only null))
    (asked (Asks.Question.cost (only null)) ▷ number null
    ∷ asked (Asks.Question.gradient (only null)) ▷ vector (only null)
    ∷ asked (Asks.Question.gradient (only (4951760157141521 /2^ 92))) ▷ vector (only null)
    ∷ asked (Asks.Question.project (only (4951760157141521 /2^ 92))) ▷ vector (only (1 ·2^ 1))
    ∷ asked (Asks.Question.cost (only (1 ·2^ 1))) ▷ number null
    ∷ asked (Asks.Question.direction true (only (neg (1125899906842061 /2^ 49))) (only (4951760157141521 /2^ 92))) ▷ vector (only null)
    ∷ asked (Asks.Question.cost (only (1 ·2^ 1))) ▷ number null
    ∷ asked (Asks.Question.gradient (only (1 ·2^ 1))) ▷ vector (only null)
    ∷ asked (Asks.Question.project (only (1 ·2^ 1))) ▷ vector (only (5 /2^ 1))
    ∷ asked Asks.Question.time ▷ answer_no
    ∷ asked (Asks.Question.cost (only (5 /2^ 1))) ▷ number (int 1)
    ∷ says (ended (handed (record { plan = (only (5 /2^ 1)); status = not_converged_out_of_time; iterations = 1; norm = 1 /2^ 1; cost = int 1 })))
    ∷ [])
unfolding all_inner Shows spoken
time_a_no_1 = refl

pub time_a_no_2 :
    Shows (start_inner binary64 (record { n = 1; limit = 5; limited = true; tolerance = int 1; akkt = none }) (only null))
    (asked (Asks.Question.cost (only null)) ▷ number null
    ∷ asked (Asks.Question.gradient (only null)) ▷ vector (only null)
    ∷ asked (Asks.Question.gradient (only (4951760157141521 /2^ 92))) ▷ vector (only null)
    ∷ asked (Asks.Question.project (only (4951760157141521 /2^ 92))) ▷ vector (only (1 ·2^ 1))
    ∷ asked (Asks.Question.cost (only (1 ·2^ 1))) ▷ number null
    ∷ asked (Asks.Question.direction true (only (neg (1125899906842061 /2^ 49))) (only (4951760157141521 /2^ 92))) ▷ vector (only null)
    ∷ asked (Asks.Question.cost (only (1 ·2^ 1))) ▷ number null
    ∷ asked (Asks.Question.gradient (only (1 ·2^ 1))) ▷ vector (only null)
    ∷ asked (Asks.Question.project (only (1 ·2^ 1))) ▷ vector (only (1 ·2^ 2))
    ∷ asked Asks.Question.time ▷ answer_no
    ∷ asked (Asks.Question.cost (only (1 ·2^ 2))) ▷ number null
    ∷ asked (Asks.Question.direction false (only (neg (1 ·2^ 1))) (only (1 ·2^ 1))) ▷ vector (only null)
    ∷ asked (Asks.Question.cost (only (1 ·2^ 1))) ▷ number (neg (int 1))
    ∷ asked (Asks.Question.gradient (only (1 ·2^ 1))) ▷ vector (only null)
    ∷ asked (Asks.Question.project (only (1 ·2^ 1))) ▷ vector (only null)
    ∷ asked (Asks.Question.cost (only (1 ·2^ 1))) ▷ number (int 1)
    ∷ says (ended (handed (record { plan = (only (1 ·2^ 1)); status = not_converged_out_of_time; iterations = 1; norm = 1125899906842061 /2^ 49; cost = int 1 })))
    ∷ [])
unfolding all_inner Shows spoken
time_a_no_2 = refl

pub time_a_no_3 :
    Shows (start_inner binary64 (record { n = 1; limit = 1; limited = true; tolerance = int 1; akkt = none }) (only null))
    (asked (Asks.Question.cost (only null)) ▷ number null
    ∷ asked (Asks.Question.gradient (only null)) ▷ vector (only null)
    ∷ asked (Asks.Question.gradient (only (4951760157141521 /2^ 92))) ▷ vector (only null)
    ∷ asked (Asks.Question.project (only (4951760157141521 /2^ 92))) ▷ vector (only (1 ·2^ 1))
    ∷ asked (Asks.Question.cost (only (1 ·2^ 1))) ▷ number null
    ∷ asked (Asks.Question.direction true (only (neg (1125899906842061 /2^ 49))) (only (4951760157141521 /2^ 92))) ▷ vector (only null)
    ∷ asked (Asks.Question.cost (only (1 ·2^ 1))) ▷ number null
    ∷ asked (Asks.Question.gradient (only (1 ·2^ 1))) ▷ vector (only null)
    ∷ asked (Asks.Question.project (only (1 ·2^ 1))) ▷ vector (only (1 ·2^ 2))
    ∷ asked Asks.Question.time ▷ answer_no
    ∷ asked (Asks.Question.cost (only (1 ·2^ 2))) ▷ number null
    ∷ asked (Asks.Question.direction false (only (neg (1 ·2^ 1))) (only (1 ·2^ 1))) ▷ vector (only null)
    ∷ asked (Asks.Question.cost (only (1 ·2^ 1))) ▷ number (neg (int 1))
    ∷ asked (Asks.Question.gradient (only (1 ·2^ 1))) ▷ vector (only null)
    ∷ asked (Asks.Question.project (only (1 ·2^ 1))) ▷ vector (only null)
    ∷ asked (Asks.Question.cost (only (1 ·2^ 1))) ▷ number (int 1)
    ∷ says (ended (handed (record { plan = (only (1 ·2^ 1)); status = not_converged_iterations; iterations = 1; norm = 1125899906842061 /2^ 49; cost = int 1 })))
    ∷ [])
unfolding all_inner Shows spoken
time_a_no_3 = refl

pub time_a_no_4 :
    Shows (start_inner binary64 (record { n = 1; limit = 5; limited = true; tolerance = int 1; akkt = none }) (only null))
    (asked (Asks.Question.cost (only null)) ▷ number null
    ∷ asked (Asks.Question.gradient (only null)) ▷ vector (only null)
    ∷ asked (Asks.Question.gradient (only (4951760157141521 /2^ 92))) ▷ vector (only null)
    ∷ asked (Asks.Question.project (only (4951760157141521 /2^ 92))) ▷ vector (only (1 ·2^ 1))
    ∷ asked (Asks.Question.cost (only (1 ·2^ 1))) ▷ number null
    ∷ asked (Asks.Question.direction true (only (neg (1125899906842061 /2^ 49))) (only (4951760157141521 /2^ 92))) ▷ vector (only null)
    ∷ asked (Asks.Question.cost (only (1 ·2^ 1))) ▷ number null
    ∷ asked (Asks.Question.gradient (only (1 ·2^ 1))) ▷ vector (only null)
    ∷ asked (Asks.Question.project (only (1 ·2^ 1))) ▷ vector (only (1 ·2^ 2))
    ∷ asked Asks.Question.time ▷ answer_yes
    ∷ asked (Asks.Question.cost (only (1 ·2^ 2))) ▷ number null
    ∷ asked (Asks.Question.direction false (only (neg (1 ·2^ 1))) (only (1 ·2^ 1))) ▷ vector (only null)
    ∷ asked (Asks.Question.cost (only (1 ·2^ 1))) ▷ number null
    ∷ asked (Asks.Question.gradient (only (1 ·2^ 1))) ▷ vector (only null)
    ∷ asked (Asks.Question.project (only (1 ·2^ 1))) ▷ vector (only (5 /2^ 1))
    ∷ asked Asks.Question.time ▷ answer_yes
    ∷ asked (Asks.Question.cost (only (5 /2^ 1))) ▷ number (int 1)
    ∷ says (ended (handed (record { plan = (only (5 /2^ 1)); status = converged; iterations = 2; norm = 1 /2^ 1; cost = int 1 })))
    ∷ [])
unfolding all_inner Shows spoken
time_a_no_4 = refl

-- ---- half steps made while doubling are not scored

pub half_steps_made_while_doubling_are_not_scored_1 :
    Shows (start_inner binary64 (record { n = 1; limit = 1; limited = false; tolerance = 1 /2^ 1; akkt = none }) (only null))
    (asked (Asks.Question.cost (only null)) ▷ number null
    ∷ asked (Asks.Question.gradient (only null)) ▷ vector (only null)
    ∷ asked (Asks.Question.gradient (only (4951760157141521 /2^ 92))) ▷ vector (only null)
    ∷ asked (Asks.Question.project (only (4951760157141521 /2^ 92))) ▷ vector (only (int 3))
    ∷ asked (Asks.Question.cost (only (int 3))) ▷ number (int 1)
    ∷ asked (Asks.Question.project (only (4951760157141521 /2^ 92))) ▷ vector (only (1 /2^ 3))
    ∷ asked (Asks.Question.cost (only (1 /2^ 3))) ▷ number (neg (int 1))
    ∷ asked (Asks.Question.direction true (only (neg (4503599627334467 /2^ 55))) (only (4951760157141521 /2^ 92))) ▷ vector (only null)
    ∷ asked (Asks.Question.cost (only (1 /2^ 3))) ▷ number null
    ∷ asked (Asks.Question.gradient (only (1 /2^ 3))) ▷ vector (only null)
    ∷ asked (Asks.Question.project (only (1 /2^ 3))) ▷ vector (only (1 ·2^ 1))
    ∷ asked (Asks.Question.cost (only (1 ·2^ 1))) ▷ number null
    ∷ asked (Asks.Question.direction false (only (neg (15 /2^ 3))) (only (1 /2^ 3))) ▷ vector (only null)
    ∷ asked (Asks.Question.cost (only (1 /2^ 3))) ▷ number (neg (int 9))
    ∷ asked (Asks.Question.gradient (only (1 /2^ 3))) ▷ vector (only null)
    ∷ asked (Asks.Question.project (only (1 /2^ 3))) ▷ vector (only (int 3))
    ∷ asked (Asks.Question.cost (only (1 ·2^ 1))) ▷ number (int 7)
    ∷ says (ended (handed (record { plan = (only (1 ·2^ 1)); status = not_converged_iterations; iterations = 1; norm = 15 /2^ 3; cost = int 7 })))
    ∷ [])
unfolding all_inner Shows spoken
half_steps_made_while_doubling_are_not_scored_1 = refl

-- ---- an eleventh candidate is accepted; σ and γ after doubling

pub an_eleventh_candidate_is_accepted_1 :
    Shows (start_inner binary64 (record { n = 1; limit = 1; limited = false; tolerance = 1 /2^ 1; akkt = none }) (only (int 1)))
    (asked (Asks.Question.cost (only (int 1))) ▷ number (int 1)
    ∷ asked (Asks.Question.gradient (only (int 1))) ▷ vector (only (int 1))
    ∷ asked (Asks.Question.gradient (only (4503604130970123 /2^ 52))) ▷ vector (only (4503604130970123 /2^ 52))
    ∷ asked (Asks.Question.project (only (225184484616181 /2^ 52))) ▷ vector (only null)
    ∷ asked (Asks.Question.cost (only null)) ▷ number (int 5)
    ∷ asked (Asks.Question.project (only (9235915264817 /2^ 44))) ▷ vector (only (1 /2^ 2))
    ∷ asked (Asks.Question.cost (only (1 /2^ 2))) ▷ number (neg (int 1))
    ∷ asked (Asks.Question.direction true (only (3377704224127499 /2^ 52)) (only (4503604130970123 /2^ 52))) ▷ vector (only (1 /2^ 1))
    ∷ asked (Asks.Question.cost (only (1 /2^ 2))) ▷ number (int 1)
    ∷ asked (Asks.Question.gradient (only (1 /2^ 2))) ▷ vector (only (1 /2^ 1))
    ∷ asked (Asks.Question.project (only (112589990508277 /2^ 53))) ▷ vector (only (neg (int 1)))
    ∷ asked (Asks.Question.cost (only (neg (int 1)))) ▷ number (neg (int 1))
    ∷ asked (Asks.Question.direction false (only (5 /2^ 2)) (only (1 /2^ 2))) ▷ vector (only (1 /2^ 1))
    ∷ asked (Asks.Question.cost (only (neg (1 /2^ 2)))) ▷ number (int 9)
    ∷ asked (Asks.Question.gradient (only (neg (1 /2^ 2)))) ▷ vector (only (1 /2^ 1))
    ∷ asked (Asks.Question.project (only (neg (4391009636862219 /2^ 53)))) ▷ vector (only (int 1))
    ∷ asked (Asks.Question.cost (only (neg (5 /2^ 3)))) ▷ number (int 9)
    ∷ asked (Asks.Question.gradient (only (neg (5 /2^ 3)))) ▷ vector (only (1 /2^ 1))
    ∷ asked (Asks.Question.project (only (neg (7768709357390091 /2^ 53)))) ▷ vector (only (int 1))
    ∷ asked (Asks.Question.cost (only (neg (13 /2^ 4)))) ▷ number (int 9)
    ∷ asked (Asks.Question.gradient (only (neg (13 /2^ 4)))) ▷ vector (only (1 /2^ 1))
    ∷ asked (Asks.Question.project (only (neg (2364389804413507 /2^ 51)))) ▷ vector (only (int 1))
    ∷ asked (Asks.Question.cost (only (neg (29 /2^ 5)))) ▷ number (int 9)
    ∷ asked (Asks.Question.gradient (only (neg (29 /2^ 5)))) ▷ vector (only (1 /2^ 1))
    ∷ asked (Asks.Question.project (only (neg (2575496036946499 /2^ 51)))) ▷ vector (only (int 1))
    ∷ asked (Asks.Question.cost (only (neg (61 /2^ 6)))) ▷ number (int 9)
    ∷ asked (Asks.Question.gradient (only (neg (61 /2^ 6)))) ▷ vector (only (1 /2^ 1))
    ∷ asked (Asks.Question.project (only (neg (2681049153212995 /2^ 51)))) ▷ vector (only (int 1))
    ∷ asked (Asks.Question.cost (only (neg (125 /2^ 7)))) ▷ number (int 9)
    ∷ asked (Asks.Question.gradient (only (neg (125 /2^ 7)))) ▷ vector (only (1 /2^ 1))
    ∷ asked (Asks.Question.project (only (neg (2733825711346243 /2^ 51)))) ▷ vector (only (int 1))
    ∷ asked (Asks.Question.cost (only (neg (253 /2^ 8)))) ▷ number (int 9)
    ∷ asked (Asks.Question.gradient (only (neg (253 /2^ 8)))) ▷ vector (only (1 /2^ 1))
    ∷ asked (Asks.Question.project (only (neg (2760213990412867 /2^ 51)))) ▷ vector (only (int 1))
    ∷ asked (Asks.Question.cost (only (neg (509 /2^ 9)))) ▷ number (int 9)
    ∷ asked (Asks.Question.gradient (only (neg (509 /2^ 9)))) ▷ vector (only (1 /2^ 1))
    ∷ asked (Asks.Question.project (only (neg (2773408129946179 /2^ 51)))) ▷ vector (only (int 1))
    ∷ asked (Asks.Question.cost (only (neg (1021 /2^ 10)))) ▷ number (int 9)
    ∷ asked (Asks.Question.gradient (only (neg (1021 /2^ 10)))) ▷ vector (only (1 /2^ 1))
    ∷ asked (Asks.Question.project (only (neg (2780005199712835 /2^ 51)))) ▷ vector (only (int 1))
    ∷ asked (Asks.Question.cost (only (neg (2045 /2^ 11)))) ▷ number (int 9)
    ∷ asked (Asks.Question.gradient (only (neg (2045 /2^ 11)))) ▷ vector (only (1 /2^ 1))
    ∷ asked (Asks.Question.project (only (neg (2783303734596163 /2^ 51)))) ▷ vector (only (int 1))
    ∷ asked (Asks.Question.cost (only (neg (4093 /2^ 12)))) ▷ number (neg (int 99))
    ∷ asked (Asks.Question.gradient (only (neg (4093 /2^ 12)))) ▷ vector (only (1 /2^ 1))
    ∷ asked (Asks.Question.project (only (neg (2784953002037827 /2^ 51)))) ▷ vector (only (int 1))
    ∷ asked (Asks.Question.cost (only null)) ▷ number (1 ·2^ 1)
    ∷ says (ended (handed (record { plan = (only null); status = not_converged_iterations; iterations = 1; norm = 4503604130970123 /2^ 52; cost = 1 ·2^ 1 })))
    ∷ [])
unfolding all_inner Shows spoken
an_eleventh_candidate_is_accepted_1 = refl

-- ---- the fallback after ten halvings is overwritten by the last candidate

pub the_fallback_after_ten_halvings_is_overwritten_by_the_last_candidate_1 :
    Shows (start_inner binary64 (record { n = 1; limit = 2; limited = false; tolerance = 1 /2^ 1; akkt = none }) (only (int 1)))
    (asked (Asks.Question.cost (only (int 1))) ▷ number (int 1)
    ∷ asked (Asks.Question.gradient (only (int 1))) ▷ vector (only (int 1))
    ∷ asked (Asks.Question.gradient (only (4503604130970123 /2^ 52))) ▷ vector (only (4503604130970123 /2^ 52))
    ∷ asked (Asks.Question.project (only (225184484616181 /2^ 52))) ▷ vector (only null)
    ∷ asked (Asks.Question.cost (only null)) ▷ number (neg (int 1))
    ∷ asked (Asks.Question.direction true (only (4503604130970123 /2^ 52)) (only (4503604130970123 /2^ 52))) ▷ vector (only (1 /2^ 1))
    ∷ asked (Asks.Question.cost (only null)) ▷ number (int 1)
    ∷ asked (Asks.Question.gradient (only null)) ▷ vector (only (1 /2^ 1))
    ∷ asked (Asks.Question.project (only (neg (2139209823176971 /2^ 52)))) ▷ vector (only (neg (int 1)))
    ∷ asked (Asks.Question.cost (only (neg (int 1)))) ▷ number (neg (int 1))
    ∷ asked (Asks.Question.direction false (only (int 1)) (only null)) ▷ vector (only (1 /2^ 1))
    ∷ asked (Asks.Question.cost (only (neg (1 /2^ 1)))) ▷ number (int 9)
    ∷ asked (Asks.Question.gradient (only (neg (1 /2^ 1)))) ▷ vector (only (1 /2^ 1))
    ∷ asked (Asks.Question.project (only (neg (4391009636862219 /2^ 52)))) ▷ vector (only (int 1))
    ∷ asked (Asks.Question.cost (only (neg (3 /2^ 2)))) ▷ number (int 9)
    ∷ asked (Asks.Question.gradient (only (neg (3 /2^ 2)))) ▷ vector (only (1 /2^ 1))
    ∷ asked (Asks.Question.project (only (neg (5516909543704843 /2^ 52)))) ▷ vector (only (int 1))
    ∷ asked (Asks.Question.cost (only (neg (7 /2^ 3)))) ▷ number (int 9)
    ∷ asked (Asks.Question.gradient (only (neg (7 /2^ 3)))) ▷ vector (only (1 /2^ 1))
    ∷ asked (Asks.Question.project (only (neg (6079859497126155 /2^ 52)))) ▷ vector (only (int 1))
    ∷ asked (Asks.Question.cost (only (neg (15 /2^ 4)))) ▷ number (int 9)
    ∷ asked (Asks.Question.gradient (only (neg (15 /2^ 4)))) ▷ vector (only (1 /2^ 1))
    ∷ asked (Asks.Question.project (only (neg (6361334473836811 /2^ 52)))) ▷ vector (only (int 1))
    ∷ asked (Asks.Question.cost (only (neg (31 /2^ 5)))) ▷ number (int 9)
    ∷ asked (Asks.Question.gradient (only (neg (31 /2^ 5)))) ▷ vector (only (1 /2^ 1))
    ∷ asked (Asks.Question.project (only (neg (6502071962192139 /2^ 52)))) ▷ vector (only (int 1))
    ∷ asked (Asks.Question.cost (only (neg (63 /2^ 6)))) ▷ number (int 9)
    ∷ asked (Asks.Question.gradient (only (neg (63 /2^ 6)))) ▷ vector (only (1 /2^ 1))
    ∷ asked (Asks.Question.project (only (neg (6572440706369803 /2^ 52)))) ▷ vector (only (int 1))
    ∷ asked (Asks.Question.cost (only (neg (127 /2^ 7)))) ▷ number (int 9)
    ∷ asked (Asks.Question.gradient (only (neg (127 /2^ 7)))) ▷ vector (only (1 /2^ 1))
    ∷ asked (Asks.Question.project (only (neg (6607625078458635 /2^ 52)))) ▷ vector (only (int 1))
    ∷ asked (Asks.Question.cost (only (neg (255 /2^ 8)))) ▷ number (int 9)
    ∷ asked (Asks.Question.gradient (only (neg (255 /2^ 8)))) ▷ vector (only (1 /2^ 1))
    ∷ asked (Asks.Question.project (only (neg (6625217264503051 /2^ 52)))) ▷ vector (only (int 1))
    ∷ asked (Asks.Question.cost (only (neg (511 /2^ 9)))) ▷ number (int 9)
    ∷ asked (Asks.Question.gradient (only (neg (511 /2^ 9)))) ▷ vector (only (1 /2^ 1))
    ∷ asked (Asks.Question.project (only (neg (6634013357525259 /2^ 52)))) ▷ vector (only (int 1))
    ∷ asked (Asks.Question.cost (only (neg (1023 /2^ 10)))) ▷ number (int 9)
    ∷ asked (Asks.Question.gradient (only (neg (1023 /2^ 10)))) ▷ vector (only (1 /2^ 1))
    ∷ asked (Asks.Question.project (only (neg (6638411404036363 /2^ 52)))) ▷ vector (only (int 1))
    ∷ asked (Asks.Question.cost (only (neg (2047 /2^ 11)))) ▷ number (int 9)
    ∷ asked (Asks.Question.gradient (only (neg (2047 /2^ 11)))) ▷ vector (only (1 /2^ 1))
    ∷ asked (Asks.Question.project (only (neg (6640610427291915 /2^ 52)))) ▷ vector (only (1 ·2^ 3))
    ∷ asked (Asks.Question.cost (only (1 ·2^ 3))) ▷ number null
    ∷ asked (Asks.Question.direction false (only (neg (18431 /2^ 11))) (only (neg (2047 /2^ 11)))) ▷ vector (only (1 /2^ 1))
    ∷ asked (Asks.Question.cost (only (neg (3071 /2^ 11)))) ▷ number (neg (int 99))
    ∷ asked (Asks.Question.gradient (only (neg (3071 /2^ 11)))) ▷ vector (only (1 /2^ 1))
    ∷ asked (Asks.Question.project (only (neg (8892410240977163 /2^ 52)))) ▷ vector (only (int 1))
    ∷ asked (Asks.Question.cost (only (neg (int 1)))) ▷ number (1 ·2^ 1)
    ∷ says (ended (handed (record { plan = (only (neg (int 1))); status = not_converged_iterations; iterations = 2; norm = int 1; cost = 1 ·2^ 1 })))
    ∷ [])
unfolding all_inner Shows spoken
the_fallback_after_ten_halvings_is_overwritten_by_the_last_candidate_1 = refl

-- ---- 10: after the third answer, for the first cost and gradient; a shifted gradient that is not finite is taken

pub at_10_after_the_third_answer_1 :
    Shows (start_inner binary64 (record { n = 1; limit = 1; limited = false; tolerance = int 1; akkt = none }) (only null))
    (asked (Asks.Question.cost (only null)) ▷ number nan
    ∷ asked (Asks.Question.gradient (only null)) ▷ vector (only (int 1))
    ∷ asked (Asks.Question.gradient (only (4951760157141521 /2^ 92))) ▷ vector (only (int 1))
    ∷ says (ended (refused 10))
    ∷ [])
unfolding all_inner Shows spoken
at_10_after_the_third_answer_1 = refl

pub at_10_after_the_third_answer_2 :
    Shows (start_inner binary64 (record { n = 2; limit = 1; limited = false; tolerance = int 1; akkt = none }) (null ∷ null ∷ []))
    (asked (Asks.Question.cost (null ∷ null ∷ [])) ▷ number (int 1)
    ∷ asked (Asks.Question.gradient (null ∷ null ∷ [])) ▷ vector (int 1 ∷ inf false ∷ [])
    ∷ asked (Asks.Question.gradient (4951760157141521 /2^ 92 ∷ 4951760157141521 /2^ 92 ∷ [])) ▷ vector (int 1 ∷ int 1 ∷ [])
    ∷ ended (refused 10) ▷ number (int 1)
    ∷ says (turned 6)
    ∷ [])
unfolding all_inner Shows spoken
at_10_after_the_third_answer_2 = refl

pub at_10_after_the_third_answer_3 :
    Shows (start_inner binary64 (record { n = 1; limit = 1; limited = false; tolerance = int 1; akkt = none }) (only null))
    (asked (Asks.Question.cost (only null)) ▷ number (inf true)
    ∷ asked (Asks.Question.gradient (only null)) ▷ vector (only nan)
    ∷ asked (Asks.Question.gradient (only (4951760157141521 /2^ 92))) ▷ vector (only nan)
    ∷ says (ended (refused 10))
    ∷ [])
unfolding all_inner Shows spoken
at_10_after_the_third_answer_3 = refl

pub at_10_after_the_third_answer_4 :
    Shows (start_inner binary64 (record { n = 2; limit = 1; limited = false; tolerance = int 1; akkt = none }) (null ∷ null ∷ []))
    (asked (Asks.Question.cost (null ∷ null ∷ [])) ▷ number (int 1)
    ∷ asked (Asks.Question.gradient (null ∷ null ∷ [])) ▷ vector (int 1 ∷ int 1 ∷ [])
    ∷ asked (Asks.Question.gradient (4951760157141521 /2^ 92 ∷ 4951760157141521 /2^ 92 ∷ [])) ▷ vector (int 1 ∷ inf false ∷ [])
    ∷ asked (Asks.Question.project (4951760157141521 /2^ 92 ∷ 4951760157141521 /2^ 92 ∷ [])) ▷ vector (int 1 ∷ int 1 ∷ [])
    ∷ says (asked (Asks.Question.cost (int 1 ∷ int 1 ∷ [])))
    ∷ [])
unfolding all_inner Shows spoken
at_10_after_the_third_answer_4 = refl

-- ---- 11 and 12

pub at_11_and_12_1 :
    Shows (start_inner binary64 (record { n = 1; limit = 1; limited = false; tolerance = int 1; akkt = none }) (only null))
    (asked (Asks.Question.cost (only null)) ▷ number null
    ∷ asked (Asks.Question.gradient (only null)) ▷ vector (only null)
    ∷ asked (Asks.Question.gradient (only (4951760157141521 /2^ 92))) ▷ vector (only null)
    ∷ asked (Asks.Question.project (only (4951760157141521 /2^ 92))) ▷ vector (only (1 ·2^ 1))
    ∷ asked (Asks.Question.cost (only (1 ·2^ 1))) ▷ number (inf false)
    ∷ ended (refused 11) ▷ number null
    ∷ says (turned 6)
    ∷ [])
unfolding all_inner Shows spoken
at_11_and_12_1 = refl

pub at_11_and_12_2 :
    Shows (start_inner binary64 (record { n = 1; limit = 1; limited = false; tolerance = int 1; akkt = none }) (only null))
    (asked (Asks.Question.cost (only null)) ▷ number null
    ∷ asked (Asks.Question.gradient (only null)) ▷ vector (only null)
    ∷ asked (Asks.Question.gradient (only (4951760157141521 /2^ 92))) ▷ vector (only null)
    ∷ asked (Asks.Question.project (only (4951760157141521 /2^ 92))) ▷ vector (only (1 ·2^ 1))
    ∷ asked (Asks.Question.cost (only (1 ·2^ 1))) ▷ number nan
    ∷ says (ended (refused 11))
    ∷ [])
unfolding all_inner Shows spoken
at_11_and_12_2 = refl

pub at_11_and_12_3 :
    Shows (start_inner binary64 (record { n = 1; limit = 1; limited = false; tolerance = int 1; akkt = none }) (only null))
    (asked (Asks.Question.cost (only null)) ▷ number null
    ∷ asked (Asks.Question.gradient (only null)) ▷ vector (only null)
    ∷ asked (Asks.Question.gradient (only (4951760157141521 /2^ 92))) ▷ vector (only null)
    ∷ asked (Asks.Question.project (only (4951760157141521 /2^ 92))) ▷ vector (only (1 ·2^ 1))
    ∷ asked (Asks.Question.cost (only (1 ·2^ 1))) ▷ number (int 1)
    ∷ asked (Asks.Question.project (only (4951760157141521 /2^ 92))) ▷ vector (only (1 ·2^ 1))
    ∷ asked (Asks.Question.cost (only (1 ·2^ 1))) ▷ number nan
    ∷ says (ended (refused 12))
    ∷ [])
unfolding all_inner Shows spoken
at_11_and_12_3 = refl

pub at_11_and_12_4 :
    Shows (start_inner binary64 (record { n = 1; limit = 1; limited = false; tolerance = int 1; akkt = none }) (only null))
    (asked (Asks.Question.cost (only null)) ▷ number null
    ∷ asked (Asks.Question.gradient (only null)) ▷ vector (only null)
    ∷ asked (Asks.Question.gradient (only (4951760157141521 /2^ 92))) ▷ vector (only null)
    ∷ asked (Asks.Question.project (only (4951760157141521 /2^ 92))) ▷ vector (only (1 ·2^ 1))
    ∷ asked (Asks.Question.cost (only (1 ·2^ 1))) ▷ number (int 1)
    ∷ asked (Asks.Question.project (only (4951760157141521 /2^ 92))) ▷ vector (only (1 ·2^ 1))
    ∷ asked (Asks.Question.cost (only (1 ·2^ 1))) ▷ number (inf true)
    ∷ says (ended (refused 12))
    ∷ [])
unfolding all_inner Shows spoken
at_11_and_12_4 = refl

-- ---- 13 and 14 come after GRADIENT, also where the COST was not finite

pub at_13_and_14_come_after_gradient_1 :
    Shows (start_inner binary64 (record { n = 1; limit = 1; limited = false; tolerance = int 1; akkt = none }) (only null))
    (asked (Asks.Question.cost (only null)) ▷ number null
    ∷ asked (Asks.Question.gradient (only null)) ▷ vector (only null)
    ∷ asked (Asks.Question.gradient (only (4951760157141521 /2^ 92))) ▷ vector (only null)
    ∷ asked (Asks.Question.project (only (4951760157141521 /2^ 92))) ▷ vector (only (1 ·2^ 1))
    ∷ asked (Asks.Question.cost (only (1 ·2^ 1))) ▷ number null
    ∷ asked (Asks.Question.direction true (only (neg (1125899906842061 /2^ 49))) (only (4951760157141521 /2^ 92))) ▷ vector (only null)
    ∷ asked (Asks.Question.cost (only (1 ·2^ 1))) ▷ number nan
    ∷ asked (Asks.Question.gradient (only (1 ·2^ 1))) ▷ vector (only null)
    ∷ says (ended (refused 13))
    ∷ [])
unfolding all_inner Shows spoken
at_13_and_14_come_after_gradient_1 = refl

pub at_13_and_14_come_after_gradient_2 :
    Shows (start_inner binary64 (record { n = 1; limit = 1; limited = false; tolerance = int 1; akkt = none }) (only null))
    (asked (Asks.Question.cost (only null)) ▷ number null
    ∷ asked (Asks.Question.gradient (only null)) ▷ vector (only null)
    ∷ asked (Asks.Question.gradient (only (4951760157141521 /2^ 92))) ▷ vector (only null)
    ∷ asked (Asks.Question.project (only (4951760157141521 /2^ 92))) ▷ vector (only (1 ·2^ 1))
    ∷ asked (Asks.Question.cost (only (1 ·2^ 1))) ▷ number null
    ∷ asked (Asks.Question.direction true (only (neg (1125899906842061 /2^ 49))) (only (4951760157141521 /2^ 92))) ▷ vector (only null)
    ∷ asked (Asks.Question.cost (only (1 ·2^ 1))) ▷ number null
    ∷ asked (Asks.Question.gradient (only (1 ·2^ 1))) ▷ vector (only (inf true))
    ∷ says (ended (refused 13))
    ∷ [])
unfolding all_inner Shows spoken
at_13_and_14_come_after_gradient_2 = refl

pub at_13_and_14_come_after_gradient_3 :
    Shows (start_inner binary64 (record { n = 1; limit = 1; limited = false; tolerance = int 1; akkt = none }) (only null))
    (asked (Asks.Question.cost (only null)) ▷ number null
    ∷ asked (Asks.Question.gradient (only null)) ▷ vector (only null)
    ∷ asked (Asks.Question.gradient (only (4951760157141521 /2^ 92))) ▷ vector (only null)
    ∷ asked (Asks.Question.project (only (4951760157141521 /2^ 92))) ▷ vector (only (1 ·2^ 1))
    ∷ asked (Asks.Question.cost (only (1 ·2^ 1))) ▷ number null
    ∷ asked (Asks.Question.direction true (only (neg (1125899906842061 /2^ 49))) (only (4951760157141521 /2^ 92))) ▷ vector (only null)
    ∷ asked (Asks.Question.cost (only (1 ·2^ 1))) ▷ number null
    ∷ asked (Asks.Question.gradient (only (1 ·2^ 1))) ▷ vector (only null)
    ∷ asked (Asks.Question.project (only (1 ·2^ 1))) ▷ vector (only (1 ·2^ 2))
    ∷ asked (Asks.Question.cost (only (1 ·2^ 2))) ▷ number null
    ∷ asked (Asks.Question.direction false (only (neg (1 ·2^ 1))) (only (1 ·2^ 1))) ▷ vector (only null)
    ∷ asked (Asks.Question.cost (only (1 ·2^ 1))) ▷ number (inf false)
    ∷ asked (Asks.Question.gradient (only (1 ·2^ 1))) ▷ vector (only null)
    ∷ says (ended (refused 14))
    ∷ [])
unfolding all_inner Shows spoken
at_13_and_14_come_after_gradient_3 = refl

pub at_13_and_14_come_after_gradient_4 :
    Shows (start_inner binary64 (record { n = 1; limit = 1; limited = false; tolerance = int 1; akkt = none }) (only null))
    (asked (Asks.Question.cost (only null)) ▷ number null
    ∷ asked (Asks.Question.gradient (only null)) ▷ vector (only null)
    ∷ asked (Asks.Question.gradient (only (4951760157141521 /2^ 92))) ▷ vector (only null)
    ∷ asked (Asks.Question.project (only (4951760157141521 /2^ 92))) ▷ vector (only (1 ·2^ 1))
    ∷ asked (Asks.Question.cost (only (1 ·2^ 1))) ▷ number null
    ∷ asked (Asks.Question.direction true (only (neg (1125899906842061 /2^ 49))) (only (4951760157141521 /2^ 92))) ▷ vector (only null)
    ∷ asked (Asks.Question.cost (only (1 ·2^ 1))) ▷ number null
    ∷ asked (Asks.Question.gradient (only (1 ·2^ 1))) ▷ vector (only null)
    ∷ asked (Asks.Question.project (only (1 ·2^ 1))) ▷ vector (only (1 ·2^ 2))
    ∷ asked (Asks.Question.cost (only (1 ·2^ 2))) ▷ number null
    ∷ asked (Asks.Question.direction false (only (neg (1 ·2^ 1))) (only (1 ·2^ 1))) ▷ vector (only null)
    ∷ asked (Asks.Question.cost (only (1 ·2^ 1))) ▷ number null
    ∷ asked (Asks.Question.gradient (only (1 ·2^ 1))) ▷ vector (only nan)
    ∷ says (ended (refused 14))
    ∷ [])
unfolding all_inner Shows spoken
at_13_and_14_come_after_gradient_4 = refl

-- ---- 15: a direction that is not finite; 16: the cost at the best half step

pub at_15_a_direction_that_is_not_finite_1 :
    Shows (start_inner binary64 (record { n = 1; limit = 1; limited = false; tolerance = int 1; akkt = none }) (only null))
    (asked (Asks.Question.cost (only null)) ▷ number null
    ∷ asked (Asks.Question.gradient (only null)) ▷ vector (only null)
    ∷ asked (Asks.Question.gradient (only (4951760157141521 /2^ 92))) ▷ vector (only null)
    ∷ asked (Asks.Question.project (only (4951760157141521 /2^ 92))) ▷ vector (only (1 ·2^ 1))
    ∷ asked (Asks.Question.cost (only (1 ·2^ 1))) ▷ number null
    ∷ asked (Asks.Question.direction true (only (neg (1125899906842061 /2^ 49))) (only (4951760157141521 /2^ 92))) ▷ vector (only null)
    ∷ asked (Asks.Question.cost (only (1 ·2^ 1))) ▷ number null
    ∷ asked (Asks.Question.gradient (only (1 ·2^ 1))) ▷ vector (only null)
    ∷ asked (Asks.Question.project (only (1 ·2^ 1))) ▷ vector (only (1 ·2^ 2))
    ∷ asked (Asks.Question.cost (only (1 ·2^ 2))) ▷ number null
    ∷ asked (Asks.Question.direction false (only (neg (1 ·2^ 1))) (only (1 ·2^ 1))) ▷ vector (only (inf false))
    ∷ asked (Asks.Question.cost (only (inf true))) ▷ number (neg (int 1))
    ∷ asked (Asks.Question.gradient (only (inf true))) ▷ vector (only null)
    ∷ asked (Asks.Question.project (only (inf true))) ▷ vector (only (inf true))
    ∷ says (ended (refused 15))
    ∷ [])
unfolding all_inner Shows spoken
at_15_a_direction_that_is_not_finite_1 = refl

pub at_15_a_direction_that_is_not_finite_2 :
    Shows (start_inner binary64 (record { n = 1; limit = 1; limited = false; tolerance = int 1; akkt = none }) (only null))
    (asked (Asks.Question.cost (only null)) ▷ number null
    ∷ asked (Asks.Question.gradient (only null)) ▷ vector (only null)
    ∷ asked (Asks.Question.gradient (only (4951760157141521 /2^ 92))) ▷ vector (only null)
    ∷ asked (Asks.Question.project (only (4951760157141521 /2^ 92))) ▷ vector (only (1 /2^ 1))
    ∷ asked (Asks.Question.cost (only (1 /2^ 1))) ▷ number nan
    ∷ ended (refused 16) ▷ number null
    ∷ says (turned 6)
    ∷ [])
unfolding all_inner Shows spoken
at_15_a_direction_that_is_not_finite_2 = refl

-- ---- 9 at every question that can fail, and 7 at those that cannot

pub at_9_at_every_question_that_can_fail_1 :
    Shows (start_inner binary64 (record { n = 1; limit = 1; limited = true; tolerance = int 1; akkt = none }) (only null))
    (asked (Asks.Question.cost (only null)) ▷ failure 0
    ∷ ended (failed 0) ▷ number null
    ∷ says (turned 6)
    ∷ [])
unfolding all_inner Shows spoken
at_9_at_every_question_that_can_fail_1 = refl

pub at_9_at_every_question_that_can_fail_2 :
    Shows (start_inner binary64 (record { n = 1; limit = 1; limited = true; tolerance = int 1; akkt = none }) (only null))
    (asked (Asks.Question.cost (only null)) ▷ number null
    ∷ asked (Asks.Question.gradient (only null)) ▷ failure 4294967295
    ∷ says (ended (failed 4294967295))
    ∷ [])
unfolding all_inner Shows spoken
at_9_at_every_question_that_can_fail_2 = refl

pub at_9_at_every_question_that_can_fail_3 :
    Shows (start_inner binary64 (record { n = 1; limit = 1; limited = true; tolerance = int 1; akkt = none }) (only null))
    (asked (Asks.Question.cost (only null)) ▷ number null
    ∷ asked (Asks.Question.gradient (only null)) ▷ vector (only null)
    ∷ asked (Asks.Question.gradient (only (4951760157141521 /2^ 92))) ▷ failure 1
    ∷ says (ended (failed 1))
    ∷ [])
unfolding all_inner Shows spoken
at_9_at_every_question_that_can_fail_3 = refl

pub at_9_at_every_question_that_can_fail_4 :
    Shows (start_inner binary64 (record { n = 1; limit = 1; limited = true; tolerance = int 1; akkt = none }) (only null))
    (asked (Asks.Question.cost (only null)) ▷ number null
    ∷ asked (Asks.Question.gradient (only null)) ▷ vector (only null)
    ∷ asked (Asks.Question.gradient (only (4951760157141521 /2^ 92))) ▷ vector (only null)
    ∷ asked (Asks.Question.project (only (4951760157141521 /2^ 92))) ▷ failure 2
    ∷ says (ended (failed 2))
    ∷ [])
unfolding all_inner Shows spoken
at_9_at_every_question_that_can_fail_4 = refl

pub at_9_at_every_question_that_can_fail_5 :
    Shows (start_inner binary64 (record { n = 1; limit = 1; limited = true; tolerance = int 1; akkt = none }) (only null))
    (asked (Asks.Question.cost (only null)) ▷ number null
    ∷ asked (Asks.Question.gradient (only null)) ▷ vector (only null)
    ∷ asked (Asks.Question.gradient (only (4951760157141521 /2^ 92))) ▷ vector (only null)
    ∷ asked (Asks.Question.project (only (4951760157141521 /2^ 92))) ▷ vector (only (1 ·2^ 1))
    ∷ asked (Asks.Question.cost (only (1 ·2^ 1))) ▷ failure 3
    ∷ says (ended (failed 3))
    ∷ [])
unfolding all_inner Shows spoken
at_9_at_every_question_that_can_fail_5 = refl

pub at_9_at_every_question_that_can_fail_6 :
    Shows (start_inner binary64 (record { n = 1; limit = 1; limited = true; tolerance = int 1; akkt = none }) (only null))
    (asked (Asks.Question.cost (only null)) ▷ number null
    ∷ asked (Asks.Question.gradient (only null)) ▷ vector (only null)
    ∷ asked (Asks.Question.gradient (only (4951760157141521 /2^ 92))) ▷ vector (only null)
    ∷ asked (Asks.Question.project (only (4951760157141521 /2^ 92))) ▷ vector (only (1 ·2^ 1))
    ∷ asked (Asks.Question.cost (only (1 ·2^ 1))) ▷ number (int 1)
    ∷ asked (Asks.Question.project (only (4951760157141521 /2^ 92))) ▷ failure 4
    ∷ says (ended (failed 4))
    ∷ [])
unfolding all_inner Shows spoken
at_9_at_every_question_that_can_fail_6 = refl

pub at_9_at_every_question_that_can_fail_7 :
    Shows (start_inner binary64 (record { n = 1; limit = 1; limited = true; tolerance = int 1; akkt = none }) (only null))
    (asked (Asks.Question.cost (only null)) ▷ number null
    ∷ asked (Asks.Question.gradient (only null)) ▷ vector (only null)
    ∷ asked (Asks.Question.gradient (only (4951760157141521 /2^ 92))) ▷ vector (only null)
    ∷ asked (Asks.Question.project (only (4951760157141521 /2^ 92))) ▷ vector (only (1 ·2^ 1))
    ∷ asked (Asks.Question.cost (only (1 ·2^ 1))) ▷ number (int 1)
    ∷ asked (Asks.Question.project (only (4951760157141521 /2^ 92))) ▷ vector (only (1 ·2^ 1))
    ∷ asked (Asks.Question.cost (only (1 ·2^ 1))) ▷ failure 5
    ∷ says (ended (failed 5))
    ∷ [])
unfolding all_inner Shows spoken
at_9_at_every_question_that_can_fail_7 = refl

pub at_9_at_every_question_that_can_fail_8 :
    Shows (start_inner binary64 (record { n = 1; limit = 1; limited = true; tolerance = int 1; akkt = none }) (only null))
    (asked (Asks.Question.cost (only null)) ▷ number null
    ∷ asked (Asks.Question.gradient (only null)) ▷ vector (only null)
    ∷ asked (Asks.Question.gradient (only (4951760157141521 /2^ 92))) ▷ vector (only null)
    ∷ asked (Asks.Question.project (only (4951760157141521 /2^ 92))) ▷ vector (only (1 ·2^ 1))
    ∷ asked (Asks.Question.cost (only (1 ·2^ 1))) ▷ number null
    ∷ asked (Asks.Question.direction true (only (neg (1125899906842061 /2^ 49))) (only (4951760157141521 /2^ 92))) ▷ failure 6
    ∷ turned 7 ▷ vector (null ∷ null ∷ [])
    ∷ turned 8 ▷ vector []
    ∷ turned 8 ▷ number null
    ∷ turned 7 ▷ vector (only null)
    ∷ asked (Asks.Question.cost (only (1 ·2^ 1))) ▷ failure 7
    ∷ says (ended (failed 7))
    ∷ [])
unfolding all_inner Shows spoken
at_9_at_every_question_that_can_fail_8 = refl

pub at_9_at_every_question_that_can_fail_9 :
    Shows (start_inner binary64 (record { n = 1; limit = 1; limited = true; tolerance = int 1; akkt = none }) (only null))
    (asked (Asks.Question.cost (only null)) ▷ number null
    ∷ asked (Asks.Question.gradient (only null)) ▷ vector (only null)
    ∷ asked (Asks.Question.gradient (only (4951760157141521 /2^ 92))) ▷ vector (only null)
    ∷ asked (Asks.Question.project (only (4951760157141521 /2^ 92))) ▷ vector (only (1 ·2^ 1))
    ∷ asked (Asks.Question.cost (only (1 ·2^ 1))) ▷ number null
    ∷ asked (Asks.Question.direction true (only (neg (1125899906842061 /2^ 49))) (only (4951760157141521 /2^ 92))) ▷ vector (only null)
    ∷ asked (Asks.Question.cost (only (1 ·2^ 1))) ▷ number null
    ∷ asked (Asks.Question.gradient (only (1 ·2^ 1))) ▷ failure 8
    ∷ says (ended (failed 8))
    ∷ [])
unfolding all_inner Shows spoken
at_9_at_every_question_that_can_fail_9 = refl

pub at_9_at_every_question_that_can_fail_10 :
    Shows (start_inner binary64 (record { n = 1; limit = 1; limited = true; tolerance = int 1; akkt = none }) (only null))
    (asked (Asks.Question.cost (only null)) ▷ number null
    ∷ asked (Asks.Question.gradient (only null)) ▷ vector (only null)
    ∷ asked (Asks.Question.gradient (only (4951760157141521 /2^ 92))) ▷ vector (only null)
    ∷ asked (Asks.Question.project (only (4951760157141521 /2^ 92))) ▷ vector (only (1 ·2^ 1))
    ∷ asked (Asks.Question.cost (only (1 ·2^ 1))) ▷ number null
    ∷ asked (Asks.Question.direction true (only (neg (1125899906842061 /2^ 49))) (only (4951760157141521 /2^ 92))) ▷ vector (only null)
    ∷ asked (Asks.Question.cost (only (1 ·2^ 1))) ▷ number null
    ∷ asked (Asks.Question.gradient (only (1 ·2^ 1))) ▷ vector (only null)
    ∷ asked (Asks.Question.project (only (1 ·2^ 1))) ▷ failure 9
    ∷ says (ended (failed 9))
    ∷ [])
unfolding all_inner Shows spoken
at_9_at_every_question_that_can_fail_10 = refl

pub at_9_at_every_question_that_can_fail_11 :
    Shows (start_inner binary64 (record { n = 1; limit = 1; limited = true; tolerance = int 1; akkt = none }) (only null))
    (asked (Asks.Question.cost (only null)) ▷ number null
    ∷ asked (Asks.Question.gradient (only null)) ▷ vector (only null)
    ∷ asked (Asks.Question.gradient (only (4951760157141521 /2^ 92))) ▷ vector (only null)
    ∷ asked (Asks.Question.project (only (4951760157141521 /2^ 92))) ▷ vector (only (1 ·2^ 1))
    ∷ asked (Asks.Question.cost (only (1 ·2^ 1))) ▷ number null
    ∷ asked (Asks.Question.direction true (only (neg (1125899906842061 /2^ 49))) (only (4951760157141521 /2^ 92))) ▷ vector (only null)
    ∷ asked (Asks.Question.cost (only (1 ·2^ 1))) ▷ number null
    ∷ asked (Asks.Question.gradient (only (1 ·2^ 1))) ▷ vector (only null)
    ∷ asked (Asks.Question.project (only (1 ·2^ 1))) ▷ vector (only (1 ·2^ 2))
    ∷ asked Asks.Question.time ▷ failure 10
    ∷ turned 7 ▷ number null
    ∷ turned 7 ▷ vector (only null)
    ∷ turned 7 ▷ answer_yes
    ∷ asked (Asks.Question.cost (only (1 ·2^ 2))) ▷ number null
    ∷ asked (Asks.Question.direction false (only (neg (1 ·2^ 1))) (only (1 ·2^ 1))) ▷ vector (only null)
    ∷ asked (Asks.Question.cost (only (1 ·2^ 1))) ▷ failure 11
    ∷ says (ended (failed 11))
    ∷ [])
unfolding all_inner Shows spoken
at_9_at_every_question_that_can_fail_11 = refl

pub at_9_at_every_question_that_can_fail_12 :
    Shows (start_inner binary64 (record { n = 1; limit = 1; limited = true; tolerance = int 1; akkt = none }) (only null))
    (asked (Asks.Question.cost (only null)) ▷ number null
    ∷ asked (Asks.Question.gradient (only null)) ▷ vector (only null)
    ∷ asked (Asks.Question.gradient (only (4951760157141521 /2^ 92))) ▷ vector (only null)
    ∷ asked (Asks.Question.project (only (4951760157141521 /2^ 92))) ▷ vector (only (1 ·2^ 1))
    ∷ asked (Asks.Question.cost (only (1 ·2^ 1))) ▷ number null
    ∷ asked (Asks.Question.direction true (only (neg (1125899906842061 /2^ 49))) (only (4951760157141521 /2^ 92))) ▷ vector (only null)
    ∷ asked (Asks.Question.cost (only (1 ·2^ 1))) ▷ number null
    ∷ asked (Asks.Question.gradient (only (1 ·2^ 1))) ▷ vector (only null)
    ∷ asked (Asks.Question.project (only (1 ·2^ 1))) ▷ vector (only (1 ·2^ 2))
    ∷ asked Asks.Question.time ▷ answer_yes
    ∷ asked (Asks.Question.cost (only (1 ·2^ 2))) ▷ number null
    ∷ asked (Asks.Question.direction false (only (neg (1 ·2^ 1))) (only (1 ·2^ 1))) ▷ vector (only null)
    ∷ asked (Asks.Question.cost (only (1 ·2^ 1))) ▷ number null
    ∷ asked (Asks.Question.gradient (only (1 ·2^ 1))) ▷ failure 12
    ∷ says (ended (failed 12))
    ∷ [])
unfolding all_inner Shows spoken
at_9_at_every_question_that_can_fail_12 = refl

pub at_9_at_every_question_that_can_fail_13 :
    Shows (start_inner binary64 (record { n = 1; limit = 1; limited = true; tolerance = int 1; akkt = none }) (only null))
    (asked (Asks.Question.cost (only null)) ▷ number null
    ∷ asked (Asks.Question.gradient (only null)) ▷ vector (only null)
    ∷ asked (Asks.Question.gradient (only (4951760157141521 /2^ 92))) ▷ vector (only null)
    ∷ asked (Asks.Question.project (only (4951760157141521 /2^ 92))) ▷ vector (only (1 ·2^ 1))
    ∷ asked (Asks.Question.cost (only (1 ·2^ 1))) ▷ number null
    ∷ asked (Asks.Question.direction true (only (neg (1125899906842061 /2^ 49))) (only (4951760157141521 /2^ 92))) ▷ vector (only null)
    ∷ asked (Asks.Question.cost (only (1 ·2^ 1))) ▷ number null
    ∷ asked (Asks.Question.gradient (only (1 ·2^ 1))) ▷ vector (only null)
    ∷ asked (Asks.Question.project (only (1 ·2^ 1))) ▷ vector (only (1 ·2^ 2))
    ∷ asked Asks.Question.time ▷ answer_yes
    ∷ asked (Asks.Question.cost (only (1 ·2^ 2))) ▷ number null
    ∷ asked (Asks.Question.direction false (only (neg (1 ·2^ 1))) (only (1 ·2^ 1))) ▷ vector (only null)
    ∷ asked (Asks.Question.cost (only (1 ·2^ 1))) ▷ number null
    ∷ asked (Asks.Question.gradient (only (1 ·2^ 1))) ▷ vector (only null)
    ∷ asked (Asks.Question.project (only (1 ·2^ 1))) ▷ failure 13
    ∷ says (ended (failed 13))
    ∷ [])
unfolding all_inner Shows spoken
at_9_at_every_question_that_can_fail_13 = refl

pub at_9_at_every_question_that_can_fail_14 :
    Shows (start_inner binary64 (record { n = 1; limit = 1; limited = true; tolerance = int 1; akkt = none }) (only null))
    (asked (Asks.Question.cost (only null)) ▷ number null
    ∷ asked (Asks.Question.gradient (only null)) ▷ vector (only null)
    ∷ asked (Asks.Question.gradient (only (4951760157141521 /2^ 92))) ▷ vector (only null)
    ∷ asked (Asks.Question.project (only (4951760157141521 /2^ 92))) ▷ vector (only (1 /2^ 1))
    ∷ asked (Asks.Question.cost (only (1 /2^ 1))) ▷ failure 14
    ∷ ended (failed 14) ▷ failure 15
    ∷ says (turned 6)
    ∷ [])
unfolding all_inner Shows spoken
at_9_at_every_question_that_can_fail_14 = refl

-- ---- 6 before 7 before 8, lent lengths before 9

pub at_6_before_7_before_8_1 :
    Shows (start_inner binary64 (record { n = 2; limit = 1; limited = true; tolerance = int 1; akkt = none }) (null ∷ neg (int 3) ∷ []))
    (asked (Asks.Question.cost (null ∷ neg (int 3) ∷ [])) ▷ answer_yes
    ∷ turned 7 ▷ vector (null ∷ null ∷ [])
    ∷ turned 7 ▷ number null
    ∷ asked (Asks.Question.gradient (null ∷ neg (int 3) ∷ [])) ▷ vector (only null)
    ∷ turned 8 ▷ vector (null ∷ null ∷ null ∷ [])
    ∷ turned 8 ▷ number null
    ∷ turned 7 ▷ answer_no
    ∷ turned 7 ▷ vector (null ∷ null ∷ [])
    ∷ asked (Asks.Question.gradient (4951760157141521 /2^ 92 ∷ neg (1688849860263373 /2^ 49) ∷ [])) ▷ vector (null ∷ null ∷ [])
    ∷ asked (Asks.Question.project (4951760157141521 /2^ 92 ∷ neg (1688849860263373 /2^ 49) ∷ [])) ▷ vector (1 /2^ 2 ∷ neg (int 3) ∷ [])
    ∷ asked (Asks.Question.cost (1 /2^ 2 ∷ neg (int 3) ∷ [])) ▷ vector (1 /2^ 1 ∷ 1 /2^ 1 ∷ [])
    ∷ turned 7 ▷ number (int 9)
    ∷ says (ended (handed (record { plan = (1 /2^ 2 ∷ neg (int 3) ∷ []); status = converged; iterations = 0; norm = 9007199254704963 /2^ 55; cost = int 9 })))
    ∷ [])
unfolding all_inner Shows spoken
at_6_before_7_before_8_1 = refl

-- ---- an inner solve lends u alone: xi may have any length

pub an_inner_solve_lends_u_alone_xi_may_have_any_length_1 :
    Shows (start_inner binary64 (record { n = 1; limit = 1; limited = false; tolerance = int 1; akkt = none }) (only null))
    (says (asked (Asks.Question.cost (only null)))
    ∷ [])
unfolding all_inner Shows spoken
an_inner_solve_lends_u_alone_xi_may_have_any_length_1 = refl

-- ---- a start drops the open run

pub a_start_drops_the_open_run_1 :
    Shows (start_inner binary64 (record { n = 1; limit = 1; limited = false; tolerance = int 1; akkt = none }) (only null))
    (asked (Asks.Question.cost (only null)) ▷ number null
    ∷ says (asked (Asks.Question.gradient (only null)))
    ∷ [])
unfolding all_inner Shows spoken
a_start_drops_the_open_run_1 = refl

pub a_start_drops_the_open_run_2 :
    Shows (start_inner binary64 (record { n = 1; limit = 0; limited = false; tolerance = int 1; akkt = none }) (only null))
    (ended (refused 3) ▷ vector (only null)
    ∷ says (turned 6)
    ∷ [])
unfolding all_inner Shows spoken
a_start_drops_the_open_run_2 = refl

pub a_start_drops_the_open_run_3 :
    Shows (start_inner binary64 (record { n = 1; limit = 1; limited = false; tolerance = int 1; akkt = none }) (only (1 /2^ 1)))
    (says (asked (Asks.Question.cost (only (1 /2^ 1))))
    ∷ [])
unfolding all_inner Shows spoken
a_start_drops_the_open_run_3 = refl

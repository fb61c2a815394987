-- Corners of document 01, whole, as the Rust plays them (tests/corners.py wrote this file): the loop. Assumes nothing.
use Rattle.std.specs.Prelude.{refl, true, false, [], ◌∷◌}
use Rattle.std.specs.Float.{nan, inf, binary64}
use Rattle.std.specs.Float.Ieee.{neg}
use Rattle.ieee.specs.Numbers.{null}
use Rattle.model.specs.Process as Asks
use Rattle.model.specs.Process.{handed, refused, failed, converged, not_converged_iterations, not_converged_out_of_time}
use Rattle.model.specs.Refusals.{start_loop}
use Rattle.model.specs.Play.{asked, ended, turned}
use Rattle.model.specs.Script.{int, ◌·2^◌, ◌/2^◌, only, number, vector, answer_yes, answer_no, failure, says, ◌▷◌, all_loop}
use Rattle.corners.specs.Shown.{Shows, spoken}

-- ---- starts: the sizes, and the lower number first

pub starts_the_sizes_23 :
    Shows (start_loop binary64 (record { n = 1; n1 = 0; n2 = 33; set_y = false; limit = 1; outer = 1; limited = false; tolerance = int 1; epsilon = int 1; delta = int 1; akkt = int 1; penalty_factor = 1 ·2^ 1; epsilon_factor = 1 /2^ 1; coefficient = 1 /2^ 1 }) (only null) (only (int 1)))
    (says (ended (refused 2))
    ∷ [])
unfolding all_loop Shows spoken
starts_the_sizes_23 = refl

pub starts_the_sizes_24 :
    Shows (start_loop binary64 (record { n = 1; n1 = 18446744073709551615; n2 = 0; set_y = false; limit = 1; outer = 1; limited = false; tolerance = int 1; epsilon = int 1; delta = int 1; akkt = int 1; penalty_factor = 1 ·2^ 1; epsilon_factor = 1 /2^ 1; coefficient = 1 /2^ 1 }) (only null) [])
    (says (ended (refused 2))
    ∷ [])
unfolding all_loop Shows spoken
starts_the_sizes_24 = refl

pub starts_the_sizes_25 :
    Shows (start_loop binary64 (record { n = 1; n1 = 0; n2 = 18446744073709551615; set_y = false; limit = 1; outer = 1; limited = false; tolerance = int 1; epsilon = int 1; delta = int 1; akkt = int 1; penalty_factor = 1 ·2^ 1; epsilon_factor = 1 /2^ 1; coefficient = 1 /2^ 1 }) (only null) (only (int 1)))
    (says (ended (refused 2))
    ∷ [])
unfolding all_loop Shows spoken
starts_the_sizes_25 = refl

pub starts_the_sizes_26 :
    Shows (start_loop binary64 (record { n = 1; n1 = 1; n2 = 0; set_y = false; limit = 1; outer = 1; limited = false; tolerance = int 1; epsilon = int 1; delta = int 1; akkt = int 1; penalty_factor = 1 ·2^ 1; epsilon_factor = 1 /2^ 1; coefficient = 1 /2^ 1 }) (only null) (only (int 1)))
    (says (ended (refused 2))
    ∷ [])
unfolding all_loop Shows spoken
starts_the_sizes_26 = refl

pub starts_the_sizes_27 :
    Shows (start_loop binary64 (record { n = 1; n1 = 1; n2 = 0; set_y = false; limit = 1; outer = 1; limited = false; tolerance = int 1; epsilon = int 1; delta = int 1; akkt = int 1; penalty_factor = 1 ·2^ 1; epsilon_factor = 1 /2^ 1; coefficient = 1 /2^ 1 }) (only null) (int 1 ∷ null ∷ null ∷ []))
    (says (ended (refused 2))
    ∷ [])
unfolding all_loop Shows spoken
starts_the_sizes_27 = refl

pub starts_the_sizes_28 :
    Shows (start_loop binary64 (record { n = 1; n1 = 0; n2 = 0; set_y = false; limit = 1; outer = 1; limited = false; tolerance = int 1; epsilon = int 1; delta = int 1; akkt = int 1; penalty_factor = 1 ·2^ 1; epsilon_factor = 1 /2^ 1; coefficient = 1 /2^ 1 }) (only null) (only (int 1)))
    (says (ended (refused 2))
    ∷ [])
unfolding all_loop Shows spoken
starts_the_sizes_28 = refl

pub starts_the_sizes_29 :
    Shows (start_loop binary64 (record { n = 1; n1 = 0; n2 = 1; set_y = false; limit = 1; outer = 1; limited = false; tolerance = int 1; epsilon = int 1; delta = int 1; akkt = int 1; penalty_factor = 1 ·2^ 1; epsilon_factor = 1 /2^ 1; coefficient = 1 /2^ 1 }) (only null) [])
    (says (ended (refused 2))
    ∷ [])
unfolding all_loop Shows spoken
starts_the_sizes_29 = refl

pub starts_the_sizes_30 :
    Shows (start_loop binary64 (record { n = 1; n1 = 0; n2 = 1; set_y = true; limit = 1; outer = 1; limited = false; tolerance = int 1; epsilon = int 1; delta = int 1; akkt = int 1; penalty_factor = 1 ·2^ 1; epsilon_factor = 1 /2^ 1; coefficient = 1 /2^ 1 }) (only null) (only (int 1)))
    (says (ended (refused 2))
    ∷ [])
unfolding all_loop Shows spoken
starts_the_sizes_30 = refl

pub starts_the_sizes_31 :
    Shows (start_loop binary64 (record { n = 1; n1 = 0; n2 = 0; set_y = true; limit = 1; outer = 1; limited = false; tolerance = int 1; epsilon = int 1; delta = int 1; akkt = int 1; penalty_factor = 1 ·2^ 1; epsilon_factor = 1 /2^ 1; coefficient = 1 /2^ 1 }) (only null) [])
    (says (ended (refused 2))
    ∷ [])
unfolding all_loop Shows spoken
starts_the_sizes_31 = refl

pub starts_the_sizes_32 :
    Shows (start_loop binary64 (record { n = 2; n1 = 1; n2 = 0; set_y = false; limit = 0; outer = 0; limited = false; tolerance = null; epsilon = int 1; delta = int 1; akkt = int 1; penalty_factor = 1 ·2^ 1; epsilon_factor = 1 /2^ 1; coefficient = 1 /2^ 1 }) (only null) (only (int 1)))
    (says (ended (refused 1))
    ∷ [])
unfolding all_loop Shows spoken
starts_the_sizes_32 = refl

pub starts_the_sizes_33 :
    Shows (start_loop binary64 (record { n = 1; n1 = 1; n2 = 0; set_y = false; limit = 0; outer = 0; limited = false; tolerance = null; epsilon = int 1; delta = int 1; akkt = int 1; penalty_factor = 1 ·2^ 1; epsilon_factor = 1 /2^ 1; coefficient = 1 /2^ 1 }) (only null) (only (int 1)))
    (says (ended (refused 2))
    ∷ [])
unfolding all_loop Shows spoken
starts_the_sizes_33 = refl

pub starts_the_sizes_34 :
    Shows (start_loop binary64 (record { n = 1; n1 = 1; n2 = 0; set_y = false; limit = 0; outer = 1; limited = false; tolerance = null; epsilon = int 1; delta = int 1; akkt = int 1; penalty_factor = 1 ·2^ 1; epsilon_factor = 1 /2^ 1; coefficient = 1 /2^ 1 }) (only null) (nan ∷ null ∷ []))
    (says (ended (refused 3))
    ∷ [])
unfolding all_loop Shows spoken
starts_the_sizes_34 = refl

pub starts_the_sizes_35 :
    Shows (start_loop binary64 (record { n = 1; n1 = 1; n2 = 0; set_y = false; limit = 1; outer = 0; limited = false; tolerance = int 1; epsilon = int 1; delta = int 1; akkt = int 1; penalty_factor = 1 ·2^ 1; epsilon_factor = 1 /2^ 1; coefficient = 1 /2^ 1 }) (only null) (int 1 ∷ null ∷ []))
    (says (ended (refused 3))
    ∷ [])
unfolding all_loop Shows spoken
starts_the_sizes_35 = refl

pub starts_the_sizes_36 :
    Shows (start_loop binary64 (record { n = 1; n1 = 1; n2 = 0; set_y = false; limit = 1; outer = 1000; limited = false; tolerance = int 1; epsilon = int 1; delta = int 1; akkt = int 1; penalty_factor = 1 ·2^ 1; epsilon_factor = 1 /2^ 1; coefficient = 1 /2^ 1 }) (only null) (int 1 ∷ null ∷ []))
    (says (asked (Asks.inner (int 1 ∷ null ∷ []) (Asks.Question.cost (only null))))
    ∷ [])
unfolding all_loop Shows spoken
starts_the_sizes_36 = refl

pub starts_the_sizes_37 :
    Shows (start_loop binary64 (record { n = 1; n1 = 1; n2 = 0; set_y = false; limit = 1; outer = 1001; limited = false; tolerance = int 1; epsilon = int 1; delta = int 1; akkt = int 1; penalty_factor = 1 ·2^ 1; epsilon_factor = 1 /2^ 1; coefficient = 1 /2^ 1 }) (only null) (int 1 ∷ null ∷ []))
    (says (ended (refused 3))
    ∷ [])
unfolding all_loop Shows spoken
starts_the_sizes_37 = refl

pub starts_the_sizes_38 :
    Shows (start_loop binary64 (record { n = 1; n1 = 1; n2 = 0; set_y = false; limit = 10000; outer = 1; limited = false; tolerance = int 1; epsilon = int 1; delta = int 1; akkt = int 1; penalty_factor = 1 ·2^ 1; epsilon_factor = 1 /2^ 1; coefficient = 1 /2^ 1 }) (only null) (int 1 ∷ null ∷ []))
    (says (asked (Asks.inner (int 1 ∷ null ∷ []) (Asks.Question.cost (only null))))
    ∷ [])
unfolding all_loop Shows spoken
starts_the_sizes_38 = refl

pub starts_the_sizes_39 :
    Shows (start_loop binary64 (record { n = 1; n1 = 1; n2 = 0; set_y = false; limit = 10001; outer = 1; limited = false; tolerance = int 1; epsilon = int 1; delta = int 1; akkt = int 1; penalty_factor = 1 ·2^ 1; epsilon_factor = 1 /2^ 1; coefficient = 1 /2^ 1 }) (only null) (int 1 ∷ null ∷ []))
    (says (ended (refused 3))
    ∷ [])
unfolding all_loop Shows spoken
starts_the_sizes_39 = refl

pub starts_the_sizes_40 :
    Shows (start_loop binary64 (record { n = 1; n1 = 1; n2 = 0; set_y = false; limit = 1; outer = 1; limited = false; tolerance = nan; epsilon = int 1; delta = int 1; akkt = int 1; penalty_factor = 1 ·2^ 1; epsilon_factor = 1 /2^ 1; coefficient = 1 /2^ 1 }) (only null) (nan ∷ null ∷ []))
    (says (ended (refused 4))
    ∷ [])
unfolding all_loop Shows spoken
starts_the_sizes_40 = refl

pub starts_the_sizes_41 :
    Shows (start_loop binary64 (record { n = 1; n1 = 1; n2 = 0; set_y = false; limit = 1; outer = 1; limited = false; tolerance = int 1; epsilon = null; delta = int 1; akkt = int 1; penalty_factor = 1 ·2^ 1; epsilon_factor = 1 /2^ 1; coefficient = 1 /2^ 1 }) (only null) (int 1 ∷ null ∷ []))
    (says (ended (refused 4))
    ∷ [])
unfolding all_loop Shows spoken
starts_the_sizes_41 = refl

pub starts_the_sizes_42 :
    Shows (start_loop binary64 (record { n = 1; n1 = 1; n2 = 0; set_y = false; limit = 1; outer = 1; limited = false; tolerance = int 1; epsilon = int 1; delta = inf false; akkt = int 1; penalty_factor = 1 ·2^ 1; epsilon_factor = 1 /2^ 1; coefficient = 1 /2^ 1 }) (only null) (int 1 ∷ null ∷ []))
    (says (ended (refused 4))
    ∷ [])
unfolding all_loop Shows spoken
starts_the_sizes_42 = refl

pub starts_the_sizes_43 :
    Shows (start_loop binary64 (record { n = 1; n1 = 1; n2 = 0; set_y = false; limit = 1; outer = 1; limited = false; tolerance = int 1; epsilon = int 1; delta = int 1; akkt = neg (int 1); penalty_factor = 1 ·2^ 1; epsilon_factor = 1 /2^ 1; coefficient = 1 /2^ 1 }) (only null) (int 1 ∷ null ∷ []))
    (says (ended (refused 4))
    ∷ [])
unfolding all_loop Shows spoken
starts_the_sizes_43 = refl

pub starts_the_sizes_44 :
    Shows (start_loop binary64 (record { n = 1; n1 = 1; n2 = 0; set_y = false; limit = 1; outer = 1; limited = false; tolerance = int 1; epsilon = int 1; delta = int 1; akkt = int 1; penalty_factor = int 1; epsilon_factor = 1 /2^ 1; coefficient = 1 /2^ 1 }) (only null) (int 1 ∷ null ∷ []))
    (says (asked (Asks.inner (int 1 ∷ null ∷ []) (Asks.Question.cost (only null))))
    ∷ [])
unfolding all_loop Shows spoken
starts_the_sizes_44 = refl

pub starts_the_sizes_45 :
    Shows (start_loop binary64 (record { n = 1; n1 = 1; n2 = 0; set_y = false; limit = 1; outer = 1; limited = false; tolerance = int 1; epsilon = int 1; delta = int 1; akkt = int 1; penalty_factor = 9007199254740991 /2^ 53; epsilon_factor = 1 /2^ 1; coefficient = 1 /2^ 1 }) (only null) (int 1 ∷ null ∷ []))
    (says (ended (refused 4))
    ∷ [])
unfolding all_loop Shows spoken
starts_the_sizes_45 = refl

pub starts_the_sizes_46 :
    Shows (start_loop binary64 (record { n = 1; n1 = 1; n2 = 0; set_y = false; limit = 1; outer = 1; limited = false; tolerance = int 1; epsilon = int 1; delta = int 1; akkt = int 1; penalty_factor = inf false; epsilon_factor = 1 /2^ 1; coefficient = 1 /2^ 1 }) (only null) (int 1 ∷ null ∷ []))
    (says (ended (refused 4))
    ∷ [])
unfolding all_loop Shows spoken
starts_the_sizes_46 = refl

pub starts_the_sizes_47 :
    Shows (start_loop binary64 (record { n = 1; n1 = 1; n2 = 0; set_y = false; limit = 1; outer = 1; limited = false; tolerance = int 1; epsilon = int 1; delta = int 1; akkt = int 1; penalty_factor = nan; epsilon_factor = 1 /2^ 1; coefficient = 1 /2^ 1 }) (only null) (int 1 ∷ null ∷ []))
    (says (ended (refused 4))
    ∷ [])
unfolding all_loop Shows spoken
starts_the_sizes_47 = refl

pub starts_the_sizes_48 :
    Shows (start_loop binary64 (record { n = 1; n1 = 1; n2 = 0; set_y = false; limit = 1; outer = 1; limited = false; tolerance = int 1; epsilon = int 1; delta = int 1; akkt = int 1; penalty_factor = 1 ·2^ 1; epsilon_factor = null; coefficient = 1 /2^ 1 }) (only null) (int 1 ∷ null ∷ []))
    (says (ended (refused 4))
    ∷ [])
unfolding all_loop Shows spoken
starts_the_sizes_48 = refl

pub starts_the_sizes_49 :
    Shows (start_loop binary64 (record { n = 1; n1 = 1; n2 = 0; set_y = false; limit = 1; outer = 1; limited = false; tolerance = int 1; epsilon = int 1; delta = int 1; akkt = int 1; penalty_factor = 1 ·2^ 1; epsilon_factor = int 1; coefficient = 1 /2^ 1 }) (only null) (int 1 ∷ null ∷ []))
    (says (ended (refused 4))
    ∷ [])
unfolding all_loop Shows spoken
starts_the_sizes_49 = refl

pub starts_the_sizes_50 :
    Shows (start_loop binary64 (record { n = 1; n1 = 1; n2 = 0; set_y = false; limit = 1; outer = 1; limited = false; tolerance = int 1; epsilon = int 1; delta = int 1; akkt = int 1; penalty_factor = 1 ·2^ 1; epsilon_factor = 1 /2^ 1074; coefficient = 1 /2^ 1 }) (only null) (int 1 ∷ null ∷ []))
    (says (asked (Asks.inner (int 1 ∷ null ∷ []) (Asks.Question.cost (only null))))
    ∷ [])
unfolding all_loop Shows spoken
starts_the_sizes_50 = refl

pub starts_the_sizes_51 :
    Shows (start_loop binary64 (record { n = 1; n1 = 1; n2 = 0; set_y = false; limit = 1; outer = 1; limited = false; tolerance = int 1; epsilon = int 1; delta = int 1; akkt = int 1; penalty_factor = 1 ·2^ 1; epsilon_factor = 9007199254740991 /2^ 53; coefficient = 1 /2^ 1 }) (only null) (int 1 ∷ null ∷ []))
    (says (asked (Asks.inner (int 1 ∷ null ∷ []) (Asks.Question.cost (only null))))
    ∷ [])
unfolding all_loop Shows spoken
starts_the_sizes_51 = refl

pub starts_the_sizes_52 :
    Shows (start_loop binary64 (record { n = 1; n1 = 1; n2 = 0; set_y = false; limit = 1; outer = 1; limited = false; tolerance = int 1; epsilon = int 1; delta = int 1; akkt = int 1; penalty_factor = 1 ·2^ 1; epsilon_factor = nan; coefficient = 1 /2^ 1 }) (only null) (int 1 ∷ null ∷ []))
    (says (ended (refused 4))
    ∷ [])
unfolding all_loop Shows spoken
starts_the_sizes_52 = refl

pub starts_the_sizes_53 :
    Shows (start_loop binary64 (record { n = 1; n1 = 1; n2 = 0; set_y = false; limit = 1; outer = 1; limited = false; tolerance = int 1; epsilon = int 1; delta = int 1; akkt = int 1; penalty_factor = 1 ·2^ 1; epsilon_factor = 1 /2^ 1; coefficient = null }) (only null) (int 1 ∷ null ∷ []))
    (says (ended (refused 4))
    ∷ [])
unfolding all_loop Shows spoken
starts_the_sizes_53 = refl

pub starts_the_sizes_54 :
    Shows (start_loop binary64 (record { n = 1; n1 = 1; n2 = 0; set_y = false; limit = 1; outer = 1; limited = false; tolerance = int 1; epsilon = int 1; delta = int 1; akkt = int 1; penalty_factor = 1 ·2^ 1; epsilon_factor = 1 /2^ 1; coefficient = int 1 }) (only null) (int 1 ∷ null ∷ []))
    (says (ended (refused 4))
    ∷ [])
unfolding all_loop Shows spoken
starts_the_sizes_54 = refl

pub starts_the_sizes_55 :
    Shows (start_loop binary64 (record { n = 1; n1 = 1; n2 = 0; set_y = false; limit = 1; outer = 1; limited = false; tolerance = int 1; epsilon = int 1; delta = int 1; akkt = int 1; penalty_factor = 1 ·2^ 1; epsilon_factor = 1 /2^ 1; coefficient = neg (1 /2^ 1) }) (only null) (int 1 ∷ null ∷ []))
    (says (ended (refused 4))
    ∷ [])
unfolding all_loop Shows spoken
starts_the_sizes_55 = refl

pub starts_the_sizes_56 :
    Shows (start_loop binary64 (record { n = 1; n1 = 1; n2 = 0; set_y = false; limit = 1; outer = 1; limited = false; tolerance = int 1; epsilon = int 1; delta = int 1; akkt = int 1; penalty_factor = 1 ·2^ 1; epsilon_factor = 1 /2^ 1; coefficient = 1 /2^ 1 }) (only null) (null ∷ null ∷ []))
    (says (ended (refused 5))
    ∷ [])
unfolding all_loop Shows spoken
starts_the_sizes_56 = refl

pub starts_the_sizes_57 :
    Shows (start_loop binary64 (record { n = 1; n1 = 1; n2 = 0; set_y = false; limit = 1; outer = 1; limited = false; tolerance = int 1; epsilon = int 1; delta = int 1; akkt = int 1; penalty_factor = 1 ·2^ 1; epsilon_factor = 1 /2^ 1; coefficient = 1 /2^ 1 }) (only null) (neg (int 1) ∷ null ∷ []))
    (says (ended (refused 5))
    ∷ [])
unfolding all_loop Shows spoken
starts_the_sizes_57 = refl

pub starts_the_sizes_58 :
    Shows (start_loop binary64 (record { n = 1; n1 = 1; n2 = 0; set_y = false; limit = 1; outer = 1; limited = false; tolerance = int 1; epsilon = int 1; delta = int 1; akkt = int 1; penalty_factor = 1 ·2^ 1; epsilon_factor = 1 /2^ 1; coefficient = 1 /2^ 1 }) (only null) (nan ∷ null ∷ []))
    (says (ended (refused 5))
    ∷ [])
unfolding all_loop Shows spoken
starts_the_sizes_58 = refl

pub starts_the_sizes_59 :
    Shows (start_loop binary64 (record { n = 1; n1 = 1; n2 = 0; set_y = false; limit = 1; outer = 1; limited = false; tolerance = int 1; epsilon = int 1; delta = int 1; akkt = int 1; penalty_factor = 1 ·2^ 1; epsilon_factor = 1 /2^ 1; coefficient = 1 /2^ 1 }) (only null) (inf false ∷ null ∷ []))
    (says (ended (refused 5))
    ∷ [])
unfolding all_loop Shows spoken
starts_the_sizes_59 = refl

pub starts_the_sizes_60 :
    Shows (start_loop binary64 (record { n = 1; n1 = 1; n2 = 0; set_y = false; limit = 1; outer = 1; limited = false; tolerance = int 1; epsilon = int 1; delta = int 1; akkt = int 1; penalty_factor = 1 ·2^ 1; epsilon_factor = 1 /2^ 1; coefficient = 1 /2^ 1 }) (only null) (int 1 ∷ nan ∷ []))
    (says (ended (refused 5))
    ∷ [])
unfolding all_loop Shows spoken
starts_the_sizes_60 = refl

pub starts_the_sizes_61 :
    Shows (start_loop binary64 (record { n = 1; n1 = 1; n2 = 0; set_y = false; limit = 1; outer = 1; limited = false; tolerance = int 1; epsilon = int 1; delta = int 1; akkt = int 1; penalty_factor = 1 ·2^ 1; epsilon_factor = 1 /2^ 1; coefficient = 1 /2^ 1 }) (only null) (int 1 ∷ inf true ∷ []))
    (says (ended (refused 5))
    ∷ [])
unfolding all_loop Shows spoken
starts_the_sizes_61 = refl

pub starts_the_sizes_62 :
    Shows (start_loop binary64 (record { n = 1; n1 = 1; n2 = 0; set_y = false; limit = 1; outer = 1; limited = false; tolerance = int 1; epsilon = int 1; delta = int 1; akkt = int 1; penalty_factor = 1 ·2^ 1; epsilon_factor = 1 /2^ 1; coefficient = 1 /2^ 1 }) (only null) (1 /2^ 1074 ∷ null ∷ []))
    (says (asked (Asks.inner (1 /2^ 1074 ∷ null ∷ []) (Asks.Question.cost (only null))))
    ∷ [])
unfolding all_loop Shows spoken
starts_the_sizes_62 = refl

pub starts_the_sizes_63 :
    Shows (start_loop binary64 (record { n = 1; n1 = 0; n2 = 1; set_y = false; limit = 1; outer = 1; limited = false; tolerance = int 1; epsilon = int 1; delta = int 1; akkt = int 1; penalty_factor = 1 ·2^ 1; epsilon_factor = 1 /2^ 1; coefficient = 1 /2^ 1 }) (only null) (only (inf false)))
    (says (ended (refused 5))
    ∷ [])
unfolding all_loop Shows spoken
starts_the_sizes_63 = refl

pub starts_the_sizes_64 :
    Shows (start_loop binary64 (record { n = 1; n1 = 1; n2 = 0; set_y = false; limit = 1; outer = 1; limited = false; tolerance = int 1; epsilon = int 1; delta = int 1; akkt = 1 /2^ 1; penalty_factor = 1 ·2^ 1; epsilon_factor = 1 /2^ 1; coefficient = 1 /2^ 1 }) (only null) (int 1 ∷ null ∷ []))
    (says (asked (Asks.inner (int 1 ∷ null ∷ []) (Asks.Question.cost (only null))))
    ∷ [])
unfolding all_loop Shows spoken
starts_the_sizes_64 = refl

-- ---- starts: 19, a u that is not finite, after 1 and before 2; psi and d_psi take any

pub starts_19_7 :
    Shows (start_loop binary64 (record { n = 2; n1 = 1; n2 = 0; set_y = false; limit = 1; outer = 1; limited = false; tolerance = int 1; epsilon = int 1; delta = int 1; akkt = int 1; penalty_factor = 1 ·2^ 1; epsilon_factor = 1 /2^ 1; coefficient = 1 /2^ 1 }) (only nan) (int 1 ∷ null ∷ []))
    (says (ended (refused 1))
    ∷ [])
unfolding all_loop Shows spoken
starts_19_7 = refl

pub starts_19_8 :
    Shows (start_loop binary64 (record { n = 1; n1 = 1; n2 = 0; set_y = false; limit = 1; outer = 1; limited = false; tolerance = int 1; epsilon = int 1; delta = int 1; akkt = int 1; penalty_factor = 1 ·2^ 1; epsilon_factor = 1 /2^ 1; coefficient = 1 /2^ 1 }) (only (inf false)) (int 1 ∷ null ∷ []))
    (ended (refused 19) ▷ number (int 1)
    ∷ says (turned 6)
    ∷ [])
unfolding all_loop Shows spoken
starts_19_8 = refl

pub starts_19_9 :
    Shows (start_loop binary64 (record { n = 3; n1 = 0; n2 = 0; set_y = false; limit = 1; outer = 1; limited = false; tolerance = int 1; epsilon = int 1; delta = int 1; akkt = int 1; penalty_factor = 1 ·2^ 1; epsilon_factor = 1 /2^ 1; coefficient = 1 /2^ 1 }) (null ∷ null ∷ inf true ∷ []) [])
    (says (ended (refused 19))
    ∷ [])
unfolding all_loop Shows spoken
starts_19_9 = refl

pub starts_19_10 :
    Shows (start_loop binary64 (record { n = 1; n1 = 33; n2 = 0; set_y = false; limit = 0; outer = 0; limited = false; tolerance = null; epsilon = int 1; delta = int 1; akkt = int 1; penalty_factor = 1 ·2^ 1; epsilon_factor = 1 /2^ 1; coefficient = 1 /2^ 1 }) (only nan) (nan ∷ null ∷ []))
    (says (ended (refused 19))
    ∷ [])
unfolding all_loop Shows spoken
starts_19_10 = refl

-- ---- the previous gradient: each solve of the loop starts it at zeros (reading 1)

pub the_previous_gradient_each_solve_of_the_loop_starts_it_at_zeros_reading_1_1 :
    Shows (start_loop binary64 (record { n = 1; n1 = 0; n2 = 0; set_y = false; limit = 1; outer = 2; limited = false; tolerance = int 1; epsilon = 1 /2^ 1; delta = int 1; akkt = int 1; penalty_factor = 1 ·2^ 1; epsilon_factor = 1 /2^ 1; coefficient = 1 /2^ 1 }) (only null) [])
    (asked (Asks.inner [] (Asks.Question.cost (only null))) ▷ number null
    ∷ asked (Asks.inner [] (Asks.Question.gradient (only null))) ▷ vector (only (int 1))
    ∷ asked (Asks.inner [] (Asks.Question.gradient (only (4951760157141521 /2^ 92)))) ▷ vector (only (int 1))
    ∷ asked (Asks.inner [] (Asks.Question.project (only (neg (37109375 ·2^ 8))))) ▷ vector (only null)
    ∷ asked (Asks.inner [] (Asks.Question.cost (only null))) ▷ number (neg (int 1))
    ∷ asked (Asks.inner [] (Asks.Question.direction true (only (4951760157141521 /2^ 92)) (only (4951760157141521 /2^ 92)))) ▷ vector (only null)
    ∷ asked (Asks.inner [] (Asks.Question.cost (only null))) ▷ number null
    ∷ asked (Asks.inner [] (Asks.Question.gradient (only null))) ▷ vector (only (int 1))
    ∷ asked (Asks.inner [] (Asks.Question.project (only (neg (37109375 ·2^ 8))))) ▷ vector (only null)
    ∷ asked (Asks.inner [] (Asks.Question.cost (only null))) ▷ number null
    ∷ asked (Asks.inner [] (Asks.Question.cost (only null))) ▷ number null
    ∷ asked (Asks.inner [] (Asks.Question.gradient (only null))) ▷ vector (only (int 1))
    ∷ asked (Asks.inner [] (Asks.Question.gradient (only (4951760157141521 /2^ 92)))) ▷ vector (only (int 1))
    ∷ asked (Asks.inner [] (Asks.Question.project (only (neg (37109375 ·2^ 8))))) ▷ vector (only null)
    ∷ asked (Asks.inner [] (Asks.Question.cost (only null))) ▷ number (neg (int 1))
    ∷ asked (Asks.inner [] (Asks.Question.direction true (only (4951760157141521 /2^ 92)) (only (4951760157141521 /2^ 92)))) ▷ vector (only null)
    ∷ asked (Asks.inner [] (Asks.Question.cost (only null))) ▷ number null
    ∷ asked (Asks.inner [] (Asks.Question.gradient (only null))) ▷ vector (only (int 1))
    ∷ asked (Asks.inner [] (Asks.Question.project (only (neg (37109375 ·2^ 8))))) ▷ vector (only null)
    ∷ asked (Asks.inner [] (Asks.Question.cost (only null))) ▷ number null
    ∷ asked (Asks.LoopQuestion.cost (only null) []) ▷ number (int 7)
    ∷ says (ended (handed (record { plan = (only null); multipliers = []; penalty = null; status = not_converged_iterations; outer = 2; inner = 2; norm = null; delta_y = null; f2 = null; cost = int 7 })))
    ∷ [])
unfolding all_loop Shows spoken
the_previous_gradient_each_solve_of_the_loop_starts_it_at_zeros_reading_1_1 = refl

-- ---- K = 1 with n1 = 1 is never Converged

pub k_1_with_n1_1_is_never_converged_1 :
    Shows (start_loop binary64 (record { n = 1; n1 = 1; n2 = 0; set_y = false; limit = 1; outer = 1; limited = false; tolerance = int 1; epsilon = int 1; delta = int 1; akkt = int 1; penalty_factor = 1 ·2^ 1; epsilon_factor = 1 /2^ 1; coefficient = 1 /2^ 1 }) (only null) (int 1 ∷ 1 /2^ 1 ∷ []))
    (asked (Asks.inner (int 1 ∷ 1 /2^ 1 ∷ []) (Asks.Question.cost (only null))) ▷ number null
    ∷ asked (Asks.inner (int 1 ∷ 1 /2^ 1 ∷ []) (Asks.Question.gradient (only null))) ▷ vector (only null)
    ∷ asked (Asks.inner (int 1 ∷ 1 /2^ 1 ∷ []) (Asks.Question.gradient (only (4951760157141521 /2^ 92)))) ▷ vector (only null)
    ∷ asked (Asks.inner (int 1 ∷ 1 /2^ 1 ∷ []) (Asks.Question.project (only (4951760157141521 /2^ 92)))) ▷ vector (only null)
    ∷ asked (Asks.inner (int 1 ∷ 1 /2^ 1 ∷ []) (Asks.Question.cost (only null))) ▷ number null
    ∷ asked (Asks.LoopQuestion.f1 (only null)) ▷ vector (only (int 1))
    ∷ asked (Asks.LoopQuestion.project_c (only (3 /2^ 1))) ▷ vector (only (int 1))
    ∷ asked (Asks.LoopQuestion.cost (only null) (null ∷ 1 /2^ 1 ∷ [])) ▷ number null
    ∷ says (ended (handed (record { plan = (only null); multipliers = (only (1 /2^ 1)); penalty = int 1; status = not_converged_iterations; outer = 1; inner = 0; norm = 4951760157141521 /2^ 92; delta_y = null; f2 = null; cost = null })))
    ∷ [])
unfolding all_loop Shows spoken
k_1_with_n1_1_is_never_converged_1 = refl

-- ---- the second iteration passes: the last COST carries (0, y), the multipliers handed back are y_plus

pub the_second_iteration_passes_the_last_cost_carries_0_1 :
    Shows (start_loop binary64 (record { n = 1; n1 = 1; n2 = 0; set_y = false; limit = 1; outer = 5; limited = false; tolerance = int 1; epsilon = int 1; delta = int 1; akkt = int 1; penalty_factor = 1 ·2^ 1; epsilon_factor = 1 /2^ 1; coefficient = 1 /2^ 1 }) (only null) (int 1 ∷ 1 /2^ 1 ∷ []))
    (asked (Asks.inner (int 1 ∷ 1 /2^ 1 ∷ []) (Asks.Question.cost (only null))) ▷ number null
    ∷ asked (Asks.inner (int 1 ∷ 1 /2^ 1 ∷ []) (Asks.Question.gradient (only null))) ▷ vector (only null)
    ∷ asked (Asks.inner (int 1 ∷ 1 /2^ 1 ∷ []) (Asks.Question.gradient (only (4951760157141521 /2^ 92)))) ▷ vector (only null)
    ∷ asked (Asks.inner (int 1 ∷ 1 /2^ 1 ∷ []) (Asks.Question.project (only (4951760157141521 /2^ 92)))) ▷ vector (only null)
    ∷ asked (Asks.inner (int 1 ∷ 1 /2^ 1 ∷ []) (Asks.Question.cost (only null))) ▷ number null
    ∷ asked (Asks.LoopQuestion.f1 (only null)) ▷ vector (only (int 1))
    ∷ asked (Asks.LoopQuestion.project_c (only (3 /2^ 1))) ▷ vector (only (3 /2^ 2))
    ∷ asked (Asks.inner (int 1 ∷ 3 /2^ 2 ∷ []) (Asks.Question.cost (only null))) ▷ number null
    ∷ asked (Asks.inner (int 1 ∷ 3 /2^ 2 ∷ []) (Asks.Question.gradient (only null))) ▷ vector (only null)
    ∷ asked (Asks.inner (int 1 ∷ 3 /2^ 2 ∷ []) (Asks.Question.gradient (only (4951760157141521 /2^ 92)))) ▷ vector (only null)
    ∷ asked (Asks.inner (int 1 ∷ 3 /2^ 2 ∷ []) (Asks.Question.project (only (4951760157141521 /2^ 92)))) ▷ vector (only null)
    ∷ asked (Asks.inner (int 1 ∷ 3 /2^ 2 ∷ []) (Asks.Question.cost (only null))) ▷ number null
    ∷ asked (Asks.LoopQuestion.f1 (only null)) ▷ vector (only (int 1))
    ∷ asked (Asks.LoopQuestion.project_c (only (7 /2^ 2))) ▷ vector (only (1 /2^ 1))
    ∷ asked (Asks.LoopQuestion.cost (only null) (null ∷ 3 /2^ 2 ∷ [])) ▷ number (int 3)
    ∷ says (ended (handed (record { plan = (only null); multipliers = (only (5 /2^ 2)); penalty = int 1; status = converged; outer = 2; inner = 0; norm = 4951760157141521 /2^ 92; delta_y = 1 /2^ 1; f2 = null; cost = int 3 })))
    ∷ [])
unfolding all_loop Shows spoken
the_second_iteration_passes_the_last_cost_carries_0_1 = refl

-- ---- xi of one place with n2 = 1; F2 equal to the limit passes, the next float does not

pub xi_of_one_place_with_n2_1_1 :
    Shows (start_loop binary64 (record { n = 1; n1 = 0; n2 = 1; set_y = false; limit = 1; outer = 5; limited = false; tolerance = int 1; epsilon = int 1; delta = int 1; akkt = int 1; penalty_factor = 1 ·2^ 1; epsilon_factor = 1 /2^ 1; coefficient = 1 /2^ 1 }) (only null) (only (1 ·2^ 2)))
    (asked (Asks.inner (only (1 ·2^ 2)) (Asks.Question.cost (only null))) ▷ number null
    ∷ asked (Asks.inner (only (1 ·2^ 2)) (Asks.Question.gradient (only null))) ▷ vector (only null)
    ∷ asked (Asks.inner (only (1 ·2^ 2)) (Asks.Question.gradient (only (4951760157141521 /2^ 92)))) ▷ vector (only null)
    ∷ asked (Asks.inner (only (1 ·2^ 2)) (Asks.Question.project (only (4951760157141521 /2^ 92)))) ▷ vector (only null)
    ∷ asked (Asks.inner (only (1 ·2^ 2)) (Asks.Question.cost (only null))) ▷ number null
    ∷ asked (Asks.LoopQuestion.f2 (only null)) ▷ vector (only (4503599627370497 /2^ 52))
    ∷ asked (Asks.LoopQuestion.cost (only null) (only null)) ▷ number (int 3)
    ∷ says (ended (handed (record { plan = (only null); multipliers = []; penalty = 1 ·2^ 2; status = converged; outer = 1; inner = 0; norm = 4951760157141521 /2^ 92; delta_y = null; f2 = 4503599627370497 /2^ 52; cost = int 3 })))
    ∷ [])
unfolding all_loop Shows spoken
xi_of_one_place_with_n2_1_1 = refl

pub xi_of_one_place_with_n2_1_2 :
    Shows (start_loop binary64 (record { n = 1; n1 = 0; n2 = 1; set_y = false; limit = 1; outer = 2; limited = false; tolerance = int 1; epsilon = int 1; delta = int 1; akkt = int 1; penalty_factor = 1 ·2^ 1; epsilon_factor = 1 /2^ 1; coefficient = 1 /2^ 1 }) (only null) (only (1 ·2^ 2)))
    (asked (Asks.inner (only (1 ·2^ 2)) (Asks.Question.cost (only null))) ▷ number null
    ∷ asked (Asks.inner (only (1 ·2^ 2)) (Asks.Question.gradient (only null))) ▷ vector (only null)
    ∷ asked (Asks.inner (only (1 ·2^ 2)) (Asks.Question.gradient (only (4951760157141521 /2^ 92)))) ▷ vector (only null)
    ∷ asked (Asks.inner (only (1 ·2^ 2)) (Asks.Question.project (only (4951760157141521 /2^ 92)))) ▷ vector (only null)
    ∷ asked (Asks.inner (only (1 ·2^ 2)) (Asks.Question.cost (only null))) ▷ number null
    ∷ asked (Asks.LoopQuestion.f2 (only null)) ▷ vector (only (2251799813685249 /2^ 51))
    ∷ asked (Asks.inner (only (1 ·2^ 2)) (Asks.Question.cost (only null))) ▷ number null
    ∷ asked (Asks.inner (only (1 ·2^ 2)) (Asks.Question.gradient (only null))) ▷ vector (only null)
    ∷ asked (Asks.inner (only (1 ·2^ 2)) (Asks.Question.gradient (only (4951760157141521 /2^ 92)))) ▷ vector (only null)
    ∷ asked (Asks.inner (only (1 ·2^ 2)) (Asks.Question.project (only (4951760157141521 /2^ 92)))) ▷ vector (only null)
    ∷ asked (Asks.inner (only (1 ·2^ 2)) (Asks.Question.cost (only null))) ▷ number null
    ∷ asked (Asks.LoopQuestion.f2 (only null)) ▷ vector (only (2251799813685249 /2^ 51))
    ∷ asked (Asks.LoopQuestion.cost (only null) (only null)) ▷ number (int 3)
    ∷ says (ended (handed (record { plan = (only null); multipliers = []; penalty = 1 ·2^ 3; status = not_converged_iterations; outer = 2; inner = 0; norm = 4951760157141521 /2^ 92; delta_y = null; f2 = 2251799813685249 /2^ 51; cost = int 3 })))
    ∷ [])
unfolding all_loop Shows spoken
xi_of_one_place_with_n2_1_2 = refl

-- ---- |y_plus - y| equal to c × δ + 2^-52 passes, the next float does not

pub y_plus_y_equal_to_c_2_52_passes_1 :
    Shows (start_loop binary64 (record { n = 1; n1 = 1; n2 = 0; set_y = false; limit = 1; outer = 3; limited = false; tolerance = int 1; epsilon = int 1; delta = int 1; akkt = int 1; penalty_factor = 1 ·2^ 1; epsilon_factor = 1 /2^ 1; coefficient = 1 /2^ 1 }) (only null) (int 1 ∷ null ∷ []))
    (asked (Asks.inner (int 1 ∷ null ∷ []) (Asks.Question.cost (only null))) ▷ number null
    ∷ asked (Asks.inner (int 1 ∷ null ∷ []) (Asks.Question.gradient (only null))) ▷ vector (only null)
    ∷ asked (Asks.inner (int 1 ∷ null ∷ []) (Asks.Question.gradient (only (4951760157141521 /2^ 92)))) ▷ vector (only null)
    ∷ asked (Asks.inner (int 1 ∷ null ∷ []) (Asks.Question.project (only (4951760157141521 /2^ 92)))) ▷ vector (only null)
    ∷ asked (Asks.inner (int 1 ∷ null ∷ []) (Asks.Question.cost (only null))) ▷ number null
    ∷ asked (Asks.LoopQuestion.f1 (only null)) ▷ vector (only null)
    ∷ asked (Asks.LoopQuestion.project_c (only null)) ▷ vector (only null)
    ∷ asked (Asks.inner (int 1 ∷ null ∷ []) (Asks.Question.cost (only null))) ▷ number null
    ∷ asked (Asks.inner (int 1 ∷ null ∷ []) (Asks.Question.gradient (only null))) ▷ vector (only null)
    ∷ asked (Asks.inner (int 1 ∷ null ∷ []) (Asks.Question.gradient (only (4951760157141521 /2^ 92)))) ▷ vector (only null)
    ∷ asked (Asks.inner (int 1 ∷ null ∷ []) (Asks.Question.project (only (4951760157141521 /2^ 92)))) ▷ vector (only null)
    ∷ asked (Asks.inner (int 1 ∷ null ∷ []) (Asks.Question.cost (only null))) ▷ number null
    ∷ asked (Asks.LoopQuestion.f1 (only null)) ▷ vector (only (4503599627370497 /2^ 52))
    ∷ asked (Asks.LoopQuestion.project_c (only (4503599627370497 /2^ 52))) ▷ vector (only null)
    ∷ asked (Asks.LoopQuestion.cost (only null) (null ∷ null ∷ [])) ▷ number (int 3)
    ∷ says (ended (handed (record { plan = (only null); multipliers = (only (4503599627370497 /2^ 52)); penalty = int 1; status = converged; outer = 2; inner = 0; norm = 4951760157141521 /2^ 92; delta_y = 4503599627370497 /2^ 52; f2 = null; cost = int 3 })))
    ∷ [])
unfolding all_loop Shows spoken
y_plus_y_equal_to_c_2_52_passes_1 = refl

pub y_plus_y_equal_to_c_2_52_passes_2 :
    Shows (start_loop binary64 (record { n = 1; n1 = 1; n2 = 0; set_y = false; limit = 1; outer = 2; limited = false; tolerance = int 1; epsilon = int 1; delta = int 1; akkt = int 1; penalty_factor = 1 ·2^ 1; epsilon_factor = 1 /2^ 1; coefficient = 1 /2^ 1 }) (only null) (int 1 ∷ null ∷ []))
    (asked (Asks.inner (int 1 ∷ null ∷ []) (Asks.Question.cost (only null))) ▷ number null
    ∷ asked (Asks.inner (int 1 ∷ null ∷ []) (Asks.Question.gradient (only null))) ▷ vector (only null)
    ∷ asked (Asks.inner (int 1 ∷ null ∷ []) (Asks.Question.gradient (only (4951760157141521 /2^ 92)))) ▷ vector (only null)
    ∷ asked (Asks.inner (int 1 ∷ null ∷ []) (Asks.Question.project (only (4951760157141521 /2^ 92)))) ▷ vector (only null)
    ∷ asked (Asks.inner (int 1 ∷ null ∷ []) (Asks.Question.cost (only null))) ▷ number null
    ∷ asked (Asks.LoopQuestion.f1 (only null)) ▷ vector (only null)
    ∷ asked (Asks.LoopQuestion.project_c (only null)) ▷ vector (only null)
    ∷ asked (Asks.inner (int 1 ∷ null ∷ []) (Asks.Question.cost (only null))) ▷ number null
    ∷ asked (Asks.inner (int 1 ∷ null ∷ []) (Asks.Question.gradient (only null))) ▷ vector (only null)
    ∷ asked (Asks.inner (int 1 ∷ null ∷ []) (Asks.Question.gradient (only (4951760157141521 /2^ 92)))) ▷ vector (only null)
    ∷ asked (Asks.inner (int 1 ∷ null ∷ []) (Asks.Question.project (only (4951760157141521 /2^ 92)))) ▷ vector (only null)
    ∷ asked (Asks.inner (int 1 ∷ null ∷ []) (Asks.Question.cost (only null))) ▷ number null
    ∷ asked (Asks.LoopQuestion.f1 (only null)) ▷ vector (only (2251799813685249 /2^ 51))
    ∷ asked (Asks.LoopQuestion.project_c (only (2251799813685249 /2^ 51))) ▷ vector (only null)
    ∷ asked (Asks.LoopQuestion.cost (only null) (null ∷ 2251799813685249 /2^ 51 ∷ [])) ▷ number (int 3)
    ∷ says (ended (handed (record { plan = (only null); multipliers = (only (2251799813685249 /2^ 51)); penalty = 1 ·2^ 1; status = not_converged_iterations; outer = 2; inner = 0; norm = 4951760157141521 /2^ 92; delta_y = 2251799813685249 /2^ 51; f2 = null; cost = int 3 })))
    ∷ [])
unfolding all_loop Shows spoken
y_plus_y_equal_to_c_2_52_passes_2 = refl

-- ---- the inner AKKT tolerance against ε + 2^-52

pub the_inner_akkt_tolerance_against_2_52_1 :
    Shows (start_loop binary64 (record { n = 1; n1 = 0; n2 = 0; set_y = false; limit = 1; outer = 2; limited = false; tolerance = int 1; epsilon = int 1; delta = int 1; akkt = 4503599627370497 /2^ 52; penalty_factor = 1 ·2^ 1; epsilon_factor = 1 /2^ 1; coefficient = 1 /2^ 1 }) (only null) [])
    (asked (Asks.inner [] (Asks.Question.cost (only null))) ▷ number null
    ∷ asked (Asks.inner [] (Asks.Question.gradient (only null))) ▷ vector (only null)
    ∷ asked (Asks.inner [] (Asks.Question.gradient (only (4951760157141521 /2^ 92)))) ▷ vector (only null)
    ∷ asked (Asks.inner [] (Asks.Question.project (only (4951760157141521 /2^ 92)))) ▷ vector (only null)
    ∷ asked (Asks.inner [] (Asks.Question.cost (only null))) ▷ number null
    ∷ asked (Asks.LoopQuestion.cost (only null) []) ▷ number (int 3)
    ∷ says (ended (handed (record { plan = (only null); multipliers = []; penalty = null; status = converged; outer = 1; inner = 0; norm = 4951760157141521 /2^ 92; delta_y = null; f2 = null; cost = int 3 })))
    ∷ [])
unfolding all_loop Shows spoken
the_inner_akkt_tolerance_against_2_52_1 = refl

pub the_inner_akkt_tolerance_against_2_52_2 :
    Shows (start_loop binary64 (record { n = 1; n1 = 0; n2 = 0; set_y = false; limit = 1; outer = 2; limited = false; tolerance = int 1; epsilon = int 1; delta = int 1; akkt = 2251799813685249 /2^ 51; penalty_factor = 1 ·2^ 1; epsilon_factor = 1 /2^ 1; coefficient = 1 /2^ 1 }) (only null) [])
    (asked (Asks.inner [] (Asks.Question.cost (only null))) ▷ number null
    ∷ asked (Asks.inner [] (Asks.Question.gradient (only null))) ▷ vector (only null)
    ∷ asked (Asks.inner [] (Asks.Question.gradient (only (4951760157141521 /2^ 92)))) ▷ vector (only null)
    ∷ asked (Asks.inner [] (Asks.Question.project (only (4951760157141521 /2^ 92)))) ▷ vector (only null)
    ∷ asked (Asks.inner [] (Asks.Question.cost (only null))) ▷ number null
    ∷ asked (Asks.inner [] (Asks.Question.cost (only null))) ▷ number null
    ∷ asked (Asks.inner [] (Asks.Question.gradient (only null))) ▷ vector (only null)
    ∷ asked (Asks.inner [] (Asks.Question.gradient (only (4951760157141521 /2^ 92)))) ▷ vector (only null)
    ∷ asked (Asks.inner [] (Asks.Question.project (only (4951760157141521 /2^ 92)))) ▷ vector (only null)
    ∷ asked (Asks.inner [] (Asks.Question.cost (only null))) ▷ number null
    ∷ asked (Asks.LoopQuestion.cost (only null) []) ▷ number (int 3)
    ∷ says (ended (handed (record { plan = (only null); multipliers = []; penalty = null; status = converged; outer = 2; inner = 0; norm = 4951760157141521 /2^ 92; delta_y = null; f2 = null; cost = int 3 })))
    ∷ [])
unfolding all_loop Shows spoken
the_inner_akkt_tolerance_against_2_52_2 = refl

-- ---- c: not multiplied at the first iteration, then where the decrease is not enough, and kept where it is

pub c_not_multiplied_at_the_first_iteration_1 :
    Shows (start_loop binary64 (record { n = 1; n1 = 0; n2 = 1; set_y = false; limit = 1; outer = 4; limited = false; tolerance = int 1; epsilon = int 1; delta = int 1; akkt = int 1; penalty_factor = int 3; epsilon_factor = 1 /2^ 1; coefficient = 1 /2^ 1 }) (only null) (only (int 1)))
    (asked (Asks.inner (only (int 1)) (Asks.Question.cost (only null))) ▷ number null
    ∷ asked (Asks.inner (only (int 1)) (Asks.Question.gradient (only null))) ▷ vector (only null)
    ∷ asked (Asks.inner (only (int 1)) (Asks.Question.gradient (only (4951760157141521 /2^ 92)))) ▷ vector (only null)
    ∷ asked (Asks.inner (only (int 1)) (Asks.Question.project (only (4951760157141521 /2^ 92)))) ▷ vector (only null)
    ∷ asked (Asks.inner (only (int 1)) (Asks.Question.cost (only null))) ▷ number null
    ∷ asked (Asks.LoopQuestion.f2 (only null)) ▷ vector (only (1 ·2^ 6))
    ∷ asked (Asks.inner (only (int 1)) (Asks.Question.cost (only null))) ▷ number null
    ∷ asked (Asks.inner (only (int 1)) (Asks.Question.gradient (only null))) ▷ vector (only null)
    ∷ asked (Asks.inner (only (int 1)) (Asks.Question.gradient (only (4951760157141521 /2^ 92)))) ▷ vector (only null)
    ∷ asked (Asks.inner (only (int 1)) (Asks.Question.project (only (4951760157141521 /2^ 92)))) ▷ vector (only null)
    ∷ asked (Asks.inner (only (int 1)) (Asks.Question.cost (only null))) ▷ number null
    ∷ asked (Asks.LoopQuestion.f2 (only null)) ▷ vector (only (1 ·2^ 5))
    ∷ asked (Asks.inner (only (int 1)) (Asks.Question.cost (only null))) ▷ number null
    ∷ asked (Asks.inner (only (int 1)) (Asks.Question.gradient (only null))) ▷ vector (only null)
    ∷ asked (Asks.inner (only (int 1)) (Asks.Question.gradient (only (4951760157141521 /2^ 92)))) ▷ vector (only null)
    ∷ asked (Asks.inner (only (int 1)) (Asks.Question.project (only (4951760157141521 /2^ 92)))) ▷ vector (only null)
    ∷ asked (Asks.inner (only (int 1)) (Asks.Question.cost (only null))) ▷ number null
    ∷ asked (Asks.LoopQuestion.f2 (only null)) ▷ vector (only (4503599627370497 /2^ 48))
    ∷ asked (Asks.inner (only (int 3)) (Asks.Question.cost (only null))) ▷ number null
    ∷ asked (Asks.inner (only (int 3)) (Asks.Question.gradient (only null))) ▷ vector (only null)
    ∷ asked (Asks.inner (only (int 3)) (Asks.Question.gradient (only (4951760157141521 /2^ 92)))) ▷ vector (only null)
    ∷ asked (Asks.inner (only (int 3)) (Asks.Question.project (only (4951760157141521 /2^ 92)))) ▷ vector (only null)
    ∷ asked (Asks.inner (only (int 3)) (Asks.Question.cost (only null))) ▷ number null
    ∷ asked (Asks.LoopQuestion.f2 (only null)) ▷ vector (only (1 ·2^ 1))
    ∷ asked (Asks.LoopQuestion.cost (only null) (only null)) ▷ number (int 5)
    ∷ says (ended (handed (record { plan = (only null); multipliers = []; penalty = int 3; status = not_converged_iterations; outer = 4; inner = 0; norm = 4951760157141521 /2^ 92; delta_y = null; f2 = 1 ·2^ 1; cost = int 5 })))
    ∷ [])
unfolding all_loop Shows spoken
c_not_multiplied_at_the_first_iteration_1 = refl

-- ---- c is kept up to the coefficient × the former + 2^-52, for F2 and for y, and where both are there only if both are

pub c_is_kept_up_to_the_coefficient_the_former_2_52_1 :
    Shows (start_loop binary64 (record { n = 1; n1 = 0; n2 = 1; set_y = false; limit = 1; outer = 3; limited = false; tolerance = int 1; epsilon = int 1; delta = 1 /2^ 2; akkt = int 1; penalty_factor = int 3; epsilon_factor = 1 /2^ 1; coefficient = 1 /2^ 1 }) (only null) (only (int 1)))
    (asked (Asks.inner (only (int 1)) (Asks.Question.cost (only null))) ▷ number null
    ∷ asked (Asks.inner (only (int 1)) (Asks.Question.gradient (only null))) ▷ vector (only null)
    ∷ asked (Asks.inner (only (int 1)) (Asks.Question.gradient (only (4951760157141521 /2^ 92)))) ▷ vector (only null)
    ∷ asked (Asks.inner (only (int 1)) (Asks.Question.project (only (4951760157141521 /2^ 92)))) ▷ vector (only null)
    ∷ asked (Asks.inner (only (int 1)) (Asks.Question.cost (only null))) ▷ number null
    ∷ asked (Asks.LoopQuestion.f2 (only null)) ▷ vector (only (int 1))
    ∷ asked (Asks.inner (only (int 1)) (Asks.Question.cost (only null))) ▷ number null
    ∷ asked (Asks.inner (only (int 1)) (Asks.Question.gradient (only null))) ▷ vector (only null)
    ∷ asked (Asks.inner (only (int 1)) (Asks.Question.gradient (only (4951760157141521 /2^ 92)))) ▷ vector (only null)
    ∷ asked (Asks.inner (only (int 1)) (Asks.Question.project (only (4951760157141521 /2^ 92)))) ▷ vector (only null)
    ∷ asked (Asks.inner (only (int 1)) (Asks.Question.cost (only null))) ▷ number null
    ∷ asked (Asks.LoopQuestion.f2 (only null)) ▷ vector (only (2251799813685249 /2^ 52))
    ∷ asked (Asks.inner (only (int 1)) (Asks.Question.cost (only null))) ▷ number null
    ∷ asked (Asks.inner (only (int 1)) (Asks.Question.gradient (only null))) ▷ vector (only null)
    ∷ asked (Asks.inner (only (int 1)) (Asks.Question.gradient (only (4951760157141521 /2^ 92)))) ▷ vector (only null)
    ∷ asked (Asks.inner (only (int 1)) (Asks.Question.project (only (4951760157141521 /2^ 92)))) ▷ vector (only null)
    ∷ asked (Asks.inner (only (int 1)) (Asks.Question.cost (only null))) ▷ number null
    ∷ asked (Asks.LoopQuestion.f2 (only null)) ▷ vector (only (4503599627370503 /2^ 54))
    ∷ asked (Asks.LoopQuestion.cost (only null) (only null)) ▷ number (int 5)
    ∷ says (ended (handed (record { plan = (only null); multipliers = []; penalty = int 3; status = not_converged_iterations; outer = 3; inner = 0; norm = 4951760157141521 /2^ 92; delta_y = null; f2 = 4503599627370503 /2^ 54; cost = int 5 })))
    ∷ [])
unfolding all_loop Shows spoken
c_is_kept_up_to_the_coefficient_the_former_2_52_1 = refl

pub c_is_kept_up_to_the_coefficient_the_former_2_52_2 :
    Shows (start_loop binary64 (record { n = 1; n1 = 1; n2 = 0; set_y = false; limit = 1; outer = 3; limited = false; tolerance = int 1; epsilon = int 1; delta = 1 /2^ 4; akkt = int 1; penalty_factor = int 3; epsilon_factor = 1 /2^ 1; coefficient = 1 /2^ 1 }) (only null) (int 1 ∷ null ∷ []))
    (asked (Asks.inner (int 1 ∷ null ∷ []) (Asks.Question.cost (only null))) ▷ number null
    ∷ asked (Asks.inner (int 1 ∷ null ∷ []) (Asks.Question.gradient (only null))) ▷ vector (only null)
    ∷ asked (Asks.inner (int 1 ∷ null ∷ []) (Asks.Question.gradient (only (4951760157141521 /2^ 92)))) ▷ vector (only null)
    ∷ asked (Asks.inner (int 1 ∷ null ∷ []) (Asks.Question.project (only (4951760157141521 /2^ 92)))) ▷ vector (only null)
    ∷ asked (Asks.inner (int 1 ∷ null ∷ []) (Asks.Question.cost (only null))) ▷ number null
    ∷ asked (Asks.LoopQuestion.f1 (only null)) ▷ vector (only (int 1))
    ∷ asked (Asks.LoopQuestion.project_c (only (int 1))) ▷ vector (only null)
    ∷ asked (Asks.inner (int 1 ∷ int 1 ∷ []) (Asks.Question.cost (only null))) ▷ number null
    ∷ asked (Asks.inner (int 1 ∷ int 1 ∷ []) (Asks.Question.gradient (only null))) ▷ vector (only null)
    ∷ asked (Asks.inner (int 1 ∷ int 1 ∷ []) (Asks.Question.gradient (only (4951760157141521 /2^ 92)))) ▷ vector (only null)
    ∷ asked (Asks.inner (int 1 ∷ int 1 ∷ []) (Asks.Question.project (only (4951760157141521 /2^ 92)))) ▷ vector (only null)
    ∷ asked (Asks.inner (int 1 ∷ int 1 ∷ []) (Asks.Question.cost (only null))) ▷ number null
    ∷ asked (Asks.LoopQuestion.f1 (only null)) ▷ vector (only (2251799813685249 /2^ 52))
    ∷ asked (Asks.LoopQuestion.project_c (only (6755399441055745 /2^ 52))) ▷ vector (only null)
    ∷ asked (Asks.inner (int 1 ∷ 6755399441055745 /2^ 52 ∷ []) (Asks.Question.cost (only null))) ▷ number null
    ∷ asked (Asks.inner (int 1 ∷ 6755399441055745 /2^ 52 ∷ []) (Asks.Question.gradient (only null))) ▷ vector (only null)
    ∷ asked (Asks.inner (int 1 ∷ 6755399441055745 /2^ 52 ∷ []) (Asks.Question.gradient (only (4951760157141521 /2^ 92)))) ▷ vector (only null)
    ∷ asked (Asks.inner (int 1 ∷ 6755399441055745 /2^ 52 ∷ []) (Asks.Question.project (only (4951760157141521 /2^ 92)))) ▷ vector (only null)
    ∷ asked (Asks.inner (int 1 ∷ 6755399441055745 /2^ 52 ∷ []) (Asks.Question.cost (only null))) ▷ number null
    ∷ asked (Asks.LoopQuestion.f1 (only null)) ▷ vector (only (1 /2^ 1))
    ∷ asked (Asks.LoopQuestion.project_c (only (1 ·2^ 1))) ▷ vector (only null)
    ∷ asked (Asks.LoopQuestion.cost (only null) (null ∷ 1 ·2^ 1 ∷ [])) ▷ number (int 5)
    ∷ says (ended (handed (record { plan = (only null); multipliers = (only (1 ·2^ 1)); penalty = int 3; status = not_converged_iterations; outer = 3; inner = 0; norm = 4951760157141521 /2^ 92; delta_y = 2251799813685247 /2^ 52; f2 = null; cost = int 5 })))
    ∷ [])
unfolding all_loop Shows spoken
c_is_kept_up_to_the_coefficient_the_former_2_52_2 = refl

pub c_is_kept_up_to_the_coefficient_the_former_2_52_3 :
    Shows (start_loop binary64 (record { n = 1; n1 = 1; n2 = 1; set_y = false; limit = 1; outer = 3; limited = false; tolerance = int 1; epsilon = int 1; delta = 1 /2^ 4; akkt = int 1; penalty_factor = int 3; epsilon_factor = 1 /2^ 1; coefficient = 1 /2^ 1 }) (only null) (int 1 ∷ null ∷ []))
    (asked (Asks.inner (int 1 ∷ null ∷ []) (Asks.Question.cost (only null))) ▷ number null
    ∷ asked (Asks.inner (int 1 ∷ null ∷ []) (Asks.Question.gradient (only null))) ▷ vector (only null)
    ∷ asked (Asks.inner (int 1 ∷ null ∷ []) (Asks.Question.gradient (only (4951760157141521 /2^ 92)))) ▷ vector (only null)
    ∷ asked (Asks.inner (int 1 ∷ null ∷ []) (Asks.Question.project (only (4951760157141521 /2^ 92)))) ▷ vector (only null)
    ∷ asked (Asks.inner (int 1 ∷ null ∷ []) (Asks.Question.cost (only null))) ▷ number null
    ∷ asked (Asks.LoopQuestion.f1 (only null)) ▷ vector (only (int 1))
    ∷ asked (Asks.LoopQuestion.project_c (only (int 1))) ▷ vector (only null)
    ∷ asked (Asks.LoopQuestion.f2 (only null)) ▷ vector (only (int 1))
    ∷ asked (Asks.inner (int 1 ∷ int 1 ∷ []) (Asks.Question.cost (only null))) ▷ number null
    ∷ asked (Asks.inner (int 1 ∷ int 1 ∷ []) (Asks.Question.gradient (only null))) ▷ vector (only null)
    ∷ asked (Asks.inner (int 1 ∷ int 1 ∷ []) (Asks.Question.gradient (only (4951760157141521 /2^ 92)))) ▷ vector (only null)
    ∷ asked (Asks.inner (int 1 ∷ int 1 ∷ []) (Asks.Question.project (only (4951760157141521 /2^ 92)))) ▷ vector (only null)
    ∷ asked (Asks.inner (int 1 ∷ int 1 ∷ []) (Asks.Question.cost (only null))) ▷ number null
    ∷ asked (Asks.LoopQuestion.f1 (only null)) ▷ vector (only (1 /2^ 1))
    ∷ asked (Asks.LoopQuestion.project_c (only (3 /2^ 1))) ▷ vector (only null)
    ∷ asked (Asks.LoopQuestion.f2 (only null)) ▷ vector (only (1 /2^ 1))
    ∷ asked (Asks.inner (int 1 ∷ 3 /2^ 1 ∷ []) (Asks.Question.cost (only null))) ▷ number null
    ∷ asked (Asks.inner (int 1 ∷ 3 /2^ 1 ∷ []) (Asks.Question.gradient (only null))) ▷ vector (only null)
    ∷ asked (Asks.inner (int 1 ∷ 3 /2^ 1 ∷ []) (Asks.Question.gradient (only (4951760157141521 /2^ 92)))) ▷ vector (only null)
    ∷ asked (Asks.inner (int 1 ∷ 3 /2^ 1 ∷ []) (Asks.Question.project (only (4951760157141521 /2^ 92)))) ▷ vector (only null)
    ∷ asked (Asks.inner (int 1 ∷ 3 /2^ 1 ∷ []) (Asks.Question.cost (only null))) ▷ number null
    ∷ asked (Asks.LoopQuestion.f1 (only null)) ▷ vector (only (1 /2^ 2))
    ∷ asked (Asks.LoopQuestion.project_c (only (7 /2^ 2))) ▷ vector (only null)
    ∷ asked (Asks.LoopQuestion.f2 (only null)) ▷ vector (only (1 /2^ 1))
    ∷ asked (Asks.LoopQuestion.cost (only null) (null ∷ 7 /2^ 2 ∷ [])) ▷ number (int 5)
    ∷ says (ended (handed (record { plan = (only null); multipliers = (only (7 /2^ 2)); penalty = int 3; status = not_converged_iterations; outer = 3; inner = 0; norm = 4951760157141521 /2^ 92; delta_y = 1 /2^ 2; f2 = 1 /2^ 1; cost = int 5 })))
    ∷ [])
unfolding all_loop Shows spoken
c_is_kept_up_to_the_coefficient_the_former_2_52_3 = refl

-- ---- c grows past the largest float, and y_plus - y becomes NaN: 18

pub c_grows_past_the_largest_float_1 :
    Shows (start_loop binary64 (record { n = 1; n1 = 1; n2 = 0; set_y = false; limit = 1; outer = 4; limited = false; tolerance = int 1; epsilon = int 1; delta = int 1; akkt = int 1; penalty_factor = 1681218273811815 ·2^ 946; epsilon_factor = 1 /2^ 1; coefficient = 1 /2^ 1 }) (only null) (int 1 ∷ null ∷ []))
    (asked (Asks.inner (int 1 ∷ null ∷ []) (Asks.Question.cost (only null))) ▷ number null
    ∷ asked (Asks.inner (int 1 ∷ null ∷ []) (Asks.Question.gradient (only null))) ▷ vector (only null)
    ∷ asked (Asks.inner (int 1 ∷ null ∷ []) (Asks.Question.gradient (only (4951760157141521 /2^ 92)))) ▷ vector (only null)
    ∷ asked (Asks.inner (int 1 ∷ null ∷ []) (Asks.Question.project (only (4951760157141521 /2^ 92)))) ▷ vector (only null)
    ∷ asked (Asks.inner (int 1 ∷ null ∷ []) (Asks.Question.cost (only null))) ▷ number null
    ∷ asked (Asks.LoopQuestion.f1 (only null)) ▷ vector (only (1 ·2^ 3))
    ∷ asked (Asks.LoopQuestion.project_c (only (1 ·2^ 3))) ▷ vector (only null)
    ∷ asked (Asks.inner (int 1 ∷ 1 ·2^ 3 ∷ []) (Asks.Question.cost (only null))) ▷ number null
    ∷ asked (Asks.inner (int 1 ∷ 1 ·2^ 3 ∷ []) (Asks.Question.gradient (only null))) ▷ vector (only null)
    ∷ asked (Asks.inner (int 1 ∷ 1 ·2^ 3 ∷ []) (Asks.Question.gradient (only (4951760157141521 /2^ 92)))) ▷ vector (only null)
    ∷ asked (Asks.inner (int 1 ∷ 1 ·2^ 3 ∷ []) (Asks.Question.project (only (4951760157141521 /2^ 92)))) ▷ vector (only null)
    ∷ asked (Asks.inner (int 1 ∷ 1 ·2^ 3 ∷ []) (Asks.Question.cost (only null))) ▷ number null
    ∷ asked (Asks.LoopQuestion.f1 (only null)) ▷ vector (only (1953125 ·2^ 9))
    ∷ asked (Asks.LoopQuestion.project_c (only (125000001 ·2^ 3))) ▷ vector (only null)
    ∷ asked (Asks.inner (1681218273811815 ·2^ 946 ∷ 125000001 ·2^ 3 ∷ []) (Asks.Question.cost (only null))) ▷ number null
    ∷ asked (Asks.inner (1681218273811815 ·2^ 946 ∷ 125000001 ·2^ 3 ∷ []) (Asks.Question.gradient (only null))) ▷ vector (only null)
    ∷ asked (Asks.inner (1681218273811815 ·2^ 946 ∷ 125000001 ·2^ 3 ∷ []) (Asks.Question.gradient (only (4951760157141521 /2^ 92)))) ▷ vector (only null)
    ∷ asked (Asks.inner (1681218273811815 ·2^ 946 ∷ 125000001 ·2^ 3 ∷ []) (Asks.Question.project (only (4951760157141521 /2^ 92)))) ▷ vector (only null)
    ∷ asked (Asks.inner (1681218273811815 ·2^ 946 ∷ 125000001 ·2^ 3 ∷ []) (Asks.Question.cost (only null))) ▷ number null
    ∷ asked (Asks.LoopQuestion.f1 (only null)) ▷ vector (only (1953125 ·2^ 9))
    ∷ asked (Asks.LoopQuestion.project_c (only (1953125 ·2^ 9))) ▷ vector (only null)
    ∷ asked (Asks.inner (inf false ∷ inf false ∷ []) (Asks.Question.cost (only null))) ▷ number null
    ∷ asked (Asks.inner (inf false ∷ inf false ∷ []) (Asks.Question.gradient (only null))) ▷ vector (only null)
    ∷ asked (Asks.inner (inf false ∷ inf false ∷ []) (Asks.Question.gradient (only (4951760157141521 /2^ 92)))) ▷ vector (only null)
    ∷ asked (Asks.inner (inf false ∷ inf false ∷ []) (Asks.Question.project (only (4951760157141521 /2^ 92)))) ▷ vector (only null)
    ∷ asked (Asks.inner (inf false ∷ inf false ∷ []) (Asks.Question.cost (only null))) ▷ number null
    ∷ asked (Asks.LoopQuestion.f1 (only null)) ▷ vector (only (1953125 ·2^ 9))
    ∷ asked (Asks.LoopQuestion.project_c (only nan)) ▷ vector (only (1953125 ·2^ 9))
    ∷ asked (Asks.LoopQuestion.cost (only null) (null ∷ nan ∷ [])) ▷ number (int 5)
    ∷ ended (refused 18) ▷ number null
    ∷ says (turned 6)
    ∷ [])
unfolding all_loop Shows spoken
c_grows_past_the_largest_float_1 = refl

-- ---- 18: the norm of F2 is NaN; infinite is no refusal; an earlier NaN is none either

pub at_18_the_norm_of_f2_is_nan_1 :
    Shows (start_loop binary64 (record { n = 1; n1 = 0; n2 = 1; set_y = false; limit = 1; outer = 1; limited = false; tolerance = int 1; epsilon = int 1; delta = int 1; akkt = int 1; penalty_factor = 1 ·2^ 1; epsilon_factor = 1 /2^ 1; coefficient = 1 /2^ 1 }) (only (1 /2^ 2)) (only (int 1)))
    (asked (Asks.inner (only (int 1)) (Asks.Question.cost (only (1 /2^ 2)))) ▷ number null
    ∷ asked (Asks.inner (only (int 1)) (Asks.Question.gradient (only (1 /2^ 2)))) ▷ vector (only null)
    ∷ asked (Asks.inner (only (int 1)) (Asks.Question.gradient (only (4503604130970123 /2^ 54)))) ▷ vector (only null)
    ∷ asked (Asks.inner (only (int 1)) (Asks.Question.project (only (4503604130970123 /2^ 54)))) ▷ vector (only null)
    ∷ asked (Asks.inner (only (int 1)) (Asks.Question.cost (only null))) ▷ number null
    ∷ asked (Asks.LoopQuestion.f2 (only null)) ▷ vector (only nan)
    ∷ asked (Asks.LoopQuestion.cost (only null) (only null)) ▷ number (int 5)
    ∷ ended (refused 18) ▷ answer_yes
    ∷ says (turned 6)
    ∷ [])
unfolding all_loop Shows spoken
at_18_the_norm_of_f2_is_nan_1 = refl

pub at_18_the_norm_of_f2_is_nan_2 :
    Shows (start_loop binary64 (record { n = 1; n1 = 0; n2 = 1; set_y = false; limit = 1; outer = 1; limited = false; tolerance = int 1; epsilon = int 1; delta = int 1; akkt = int 1; penalty_factor = 1 ·2^ 1; epsilon_factor = 1 /2^ 1; coefficient = 1 /2^ 1 }) (only (1 /2^ 2)) (only (int 1)))
    (asked (Asks.inner (only (int 1)) (Asks.Question.cost (only (1 /2^ 2)))) ▷ number null
    ∷ asked (Asks.inner (only (int 1)) (Asks.Question.gradient (only (1 /2^ 2)))) ▷ vector (only null)
    ∷ asked (Asks.inner (only (int 1)) (Asks.Question.gradient (only (4503604130970123 /2^ 54)))) ▷ vector (only null)
    ∷ asked (Asks.inner (only (int 1)) (Asks.Question.project (only (4503604130970123 /2^ 54)))) ▷ vector (only null)
    ∷ asked (Asks.inner (only (int 1)) (Asks.Question.cost (only null))) ▷ number null
    ∷ asked (Asks.LoopQuestion.f2 (only null)) ▷ vector (only (inf false))
    ∷ asked (Asks.LoopQuestion.cost (only null) (only null)) ▷ number (int 5)
    ∷ says (ended (handed (record { plan = (only null); multipliers = []; penalty = int 1; status = not_converged_iterations; outer = 1; inner = 0; norm = 4503604130970123 /2^ 54; delta_y = null; f2 = inf false; cost = int 5 })))
    ∷ [])
unfolding all_loop Shows spoken
at_18_the_norm_of_f2_is_nan_2 = refl

pub at_18_the_norm_of_f2_is_nan_3 :
    Shows (start_loop binary64 (record { n = 1; n1 = 0; n2 = 1; set_y = false; limit = 1; outer = 2; limited = false; tolerance = int 1; epsilon = int 1; delta = int 1; akkt = int 1; penalty_factor = 1 ·2^ 1; epsilon_factor = 1 /2^ 1; coefficient = 1 /2^ 1 }) (only (1 /2^ 2)) (only (int 1)))
    (asked (Asks.inner (only (int 1)) (Asks.Question.cost (only (1 /2^ 2)))) ▷ number null
    ∷ asked (Asks.inner (only (int 1)) (Asks.Question.gradient (only (1 /2^ 2)))) ▷ vector (only null)
    ∷ asked (Asks.inner (only (int 1)) (Asks.Question.gradient (only (4503604130970123 /2^ 54)))) ▷ vector (only null)
    ∷ asked (Asks.inner (only (int 1)) (Asks.Question.project (only (4503604130970123 /2^ 54)))) ▷ vector (only null)
    ∷ asked (Asks.inner (only (int 1)) (Asks.Question.cost (only null))) ▷ number null
    ∷ asked (Asks.LoopQuestion.f2 (only null)) ▷ vector (only nan)
    ∷ asked (Asks.inner (only (int 1)) (Asks.Question.cost (only null))) ▷ number null
    ∷ asked (Asks.inner (only (int 1)) (Asks.Question.gradient (only null))) ▷ vector (only null)
    ∷ asked (Asks.inner (only (int 1)) (Asks.Question.gradient (only (4951760157141521 /2^ 92)))) ▷ vector (only null)
    ∷ asked (Asks.inner (only (int 1)) (Asks.Question.project (only (4951760157141521 /2^ 92)))) ▷ vector (only null)
    ∷ asked (Asks.inner (only (int 1)) (Asks.Question.cost (only null))) ▷ number null
    ∷ asked (Asks.LoopQuestion.f2 (only null)) ▷ vector (only null)
    ∷ asked (Asks.LoopQuestion.cost (only null) (only null)) ▷ number nan
    ∷ says (ended (handed (record { plan = (only null); multipliers = []; penalty = int 1; status = converged; outer = 2; inner = 0; norm = 4951760157141521 /2^ 92; delta_y = null; f2 = null; cost = nan })))
    ∷ [])
unfolding all_loop Shows spoken
at_18_the_norm_of_f2_is_nan_3 = refl

pub at_18_the_norm_of_f2_is_nan_4 :
    Shows (start_loop binary64 (record { n = 1; n1 = 1; n2 = 1; set_y = false; limit = 1; outer = 1; limited = false; tolerance = int 1; epsilon = int 1; delta = int 1; akkt = int 1; penalty_factor = 1 ·2^ 1; epsilon_factor = 1 /2^ 1; coefficient = 1 /2^ 1 }) (only (1 /2^ 2)) (int 1 ∷ null ∷ []))
    (asked (Asks.inner (int 1 ∷ null ∷ []) (Asks.Question.cost (only (1 /2^ 2)))) ▷ number null
    ∷ asked (Asks.inner (int 1 ∷ null ∷ []) (Asks.Question.gradient (only (1 /2^ 2)))) ▷ vector (only null)
    ∷ asked (Asks.inner (int 1 ∷ null ∷ []) (Asks.Question.gradient (only (4503604130970123 /2^ 54)))) ▷ vector (only null)
    ∷ asked (Asks.inner (int 1 ∷ null ∷ []) (Asks.Question.project (only (4503604130970123 /2^ 54)))) ▷ vector (only null)
    ∷ asked (Asks.inner (int 1 ∷ null ∷ []) (Asks.Question.cost (only null))) ▷ number null
    ∷ asked (Asks.LoopQuestion.f1 (only null)) ▷ vector (only nan)
    ∷ asked (Asks.LoopQuestion.project_c (only nan)) ▷ vector (only null)
    ∷ asked (Asks.LoopQuestion.f2 (only null)) ▷ vector (only null)
    ∷ asked (Asks.LoopQuestion.cost (only null) (null ∷ nan ∷ [])) ▷ failure 9
    ∷ says (ended (failed 9))
    ∷ [])
unfolding all_loop Shows spoken
at_18_the_norm_of_f2_is_nan_4 = refl

-- ---- 17: a no from the first TIME; no COST follows

pub at_17_a_no_from_the_first_time_1 :
    Shows (start_loop binary64 (record { n = 1; n1 = 1; n2 = 1; set_y = true; limit = 1; outer = 3; limited = true; tolerance = int 1; epsilon = int 1; delta = int 1; akkt = int 1; penalty_factor = 1 ·2^ 1; epsilon_factor = 1 /2^ 1; coefficient = 1 /2^ 1 }) (only (1 /2^ 2)) (int 1 ∷ null ∷ []))
    (asked Asks.LoopQuestion.time ▷ failure 1
    ∷ turned 7 ▷ number (int 1)
    ∷ turned 7 ▷ answer_no
    ∷ ended (refused 17) ▷ number null
    ∷ says (turned 6)
    ∷ [])
unfolding all_loop Shows spoken
at_17_a_no_from_the_first_time_1 = refl

-- ---- a no from TIME before the second iteration: out of time, one iteration

pub a_no_from_time_before_the_second_iteration_out_of_time_1 :
    Shows (start_loop binary64 (record { n = 1; n1 = 0; n2 = 1; set_y = false; limit = 1; outer = 3; limited = true; tolerance = int 1; epsilon = int 1; delta = int 1; akkt = int 1; penalty_factor = 1 ·2^ 1; epsilon_factor = 1 /2^ 1; coefficient = 1 /2^ 1 }) (only (1 /2^ 2)) (only (int 1)))
    (asked Asks.LoopQuestion.time ▷ answer_yes
    ∷ asked (Asks.inner (only (int 1)) (Asks.Question.cost (only (1 /2^ 2)))) ▷ number null
    ∷ asked (Asks.inner (only (int 1)) (Asks.Question.gradient (only (1 /2^ 2)))) ▷ vector (only null)
    ∷ asked (Asks.inner (only (int 1)) (Asks.Question.gradient (only (4503604130970123 /2^ 54)))) ▷ vector (only null)
    ∷ asked (Asks.inner (only (int 1)) (Asks.Question.project (only (4503604130970123 /2^ 54)))) ▷ vector (only null)
    ∷ asked (Asks.inner (only (int 1)) (Asks.Question.cost (only null))) ▷ number null
    ∷ asked (Asks.LoopQuestion.f2 (only null)) ▷ vector (only (1 ·2^ 3))
    ∷ asked Asks.LoopQuestion.time ▷ answer_no
    ∷ asked (Asks.LoopQuestion.cost (only null) (only null)) ▷ number (int 5)
    ∷ says (ended (handed (record { plan = (only null); multipliers = []; penalty = int 1; status = not_converged_out_of_time; outer = 1; inner = 0; norm = 4503604130970123 /2^ 54; delta_y = null; f2 = 1 ·2^ 3; cost = int 5 })))
    ∷ [])
unfolding all_loop Shows spoken
a_no_from_time_before_the_second_iteration_out_of_time_1 = refl

-- ---- a solve out of time: its iteration is finished, and the loop ends

pub a_solve_out_of_time_its_iteration_is_finished_1 :
    Shows (start_loop binary64 (record { n = 1; n1 = 1; n2 = 1; set_y = true; limit = 3; outer = 3; limited = true; tolerance = int 1; epsilon = int 1; delta = int 1; akkt = int 1; penalty_factor = 1 ·2^ 1; epsilon_factor = 1 /2^ 1; coefficient = 1 /2^ 1 }) (only (1 /2^ 2)) (int 1 ∷ null ∷ []))
    (asked Asks.LoopQuestion.time ▷ answer_yes
    ∷ asked (Asks.LoopQuestion.project_y (only null)) ▷ vector (only (1 /2^ 1))
    ∷ asked (Asks.inner (int 1 ∷ 1 /2^ 1 ∷ []) (Asks.Question.cost (only (1 /2^ 2)))) ▷ number null
    ∷ asked (Asks.inner (int 1 ∷ 1 /2^ 1 ∷ []) (Asks.Question.gradient (only (1 /2^ 2)))) ▷ vector (only null)
    ∷ asked (Asks.inner (int 1 ∷ 1 /2^ 1 ∷ []) (Asks.Question.gradient (only (4503604130970123 /2^ 54)))) ▷ vector (only null)
    ∷ asked (Asks.inner (int 1 ∷ 1 /2^ 1 ∷ []) (Asks.Question.project (only (4503604130970123 /2^ 54)))) ▷ vector (only (1 ·2^ 2))
    ∷ asked (Asks.inner (int 1 ∷ 1 /2^ 1 ∷ []) (Asks.Question.cost (only (1 ·2^ 2)))) ▷ number null
    ∷ asked (Asks.inner (int 1 ∷ 1 /2^ 1 ∷ []) (Asks.Question.direction true (only (neg (8444248738369727 /2^ 51))) (only (4503604130970123 /2^ 54)))) ▷ vector (only null)
    ∷ asked (Asks.inner (int 1 ∷ 1 /2^ 1 ∷ []) (Asks.Question.cost (only (1 ·2^ 2)))) ▷ number null
    ∷ asked (Asks.inner (int 1 ∷ 1 /2^ 1 ∷ []) (Asks.Question.gradient (only (1 ·2^ 2)))) ▷ vector (only null)
    ∷ asked (Asks.inner (int 1 ∷ 1 /2^ 1 ∷ []) (Asks.Question.project (only (1 ·2^ 2)))) ▷ vector (only (17 /2^ 2))
    ∷ asked (Asks.inner (int 1 ∷ 1 /2^ 1 ∷ []) Asks.Question.time) ▷ answer_no
    ∷ asked (Asks.inner (int 1 ∷ 1 /2^ 1 ∷ []) (Asks.Question.cost (only (17 /2^ 2)))) ▷ number null
    ∷ asked (Asks.LoopQuestion.f1 (only (17 /2^ 2))) ▷ vector (only (1 ·2^ 3))
    ∷ asked (Asks.LoopQuestion.project_c (only (17 /2^ 1))) ▷ vector (only null)
    ∷ asked (Asks.LoopQuestion.f2 (only (17 /2^ 2))) ▷ vector (only (1 ·2^ 3))
    ∷ asked (Asks.LoopQuestion.cost (only (17 /2^ 2)) (null ∷ 17 /2^ 1 ∷ [])) ▷ number (int 5)
    ∷ says (ended (handed (record { plan = (only (17 /2^ 2)); multipliers = (only (17 /2^ 1)); penalty = int 1; status = not_converged_out_of_time; outer = 1; inner = 1; norm = 1 /2^ 2; delta_y = 1 ·2^ 3; f2 = 1 ·2^ 3; cost = int 5 })))
    ∷ [])
unfolding all_loop Shows spoken
a_solve_out_of_time_its_iteration_is_finished_1 = refl

pub a_solve_out_of_time_its_iteration_is_finished_2 :
    Shows (start_loop binary64 (record { n = 1; n1 = 1; n2 = 1; set_y = true; limit = 3; outer = 1; limited = true; tolerance = int 1; epsilon = int 1; delta = int 1; akkt = int 1; penalty_factor = 1 ·2^ 1; epsilon_factor = 1 /2^ 1; coefficient = 1 /2^ 1 }) (only (1 /2^ 2)) (int 1 ∷ null ∷ []))
    (asked Asks.LoopQuestion.time ▷ answer_yes
    ∷ asked (Asks.LoopQuestion.project_y (only null)) ▷ vector (only (1 /2^ 1))
    ∷ asked (Asks.inner (int 1 ∷ 1 /2^ 1 ∷ []) (Asks.Question.cost (only (1 /2^ 2)))) ▷ number null
    ∷ asked (Asks.inner (int 1 ∷ 1 /2^ 1 ∷ []) (Asks.Question.gradient (only (1 /2^ 2)))) ▷ vector (only null)
    ∷ asked (Asks.inner (int 1 ∷ 1 /2^ 1 ∷ []) (Asks.Question.gradient (only (4503604130970123 /2^ 54)))) ▷ vector (only null)
    ∷ asked (Asks.inner (int 1 ∷ 1 /2^ 1 ∷ []) (Asks.Question.project (only (4503604130970123 /2^ 54)))) ▷ vector (only (1 ·2^ 2))
    ∷ asked (Asks.inner (int 1 ∷ 1 /2^ 1 ∷ []) (Asks.Question.cost (only (1 ·2^ 2)))) ▷ number null
    ∷ asked (Asks.inner (int 1 ∷ 1 /2^ 1 ∷ []) (Asks.Question.direction true (only (neg (8444248738369727 /2^ 51))) (only (4503604130970123 /2^ 54)))) ▷ vector (only null)
    ∷ asked (Asks.inner (int 1 ∷ 1 /2^ 1 ∷ []) (Asks.Question.cost (only (1 ·2^ 2)))) ▷ number null
    ∷ asked (Asks.inner (int 1 ∷ 1 /2^ 1 ∷ []) (Asks.Question.gradient (only (1 ·2^ 2)))) ▷ vector (only null)
    ∷ asked (Asks.inner (int 1 ∷ 1 /2^ 1 ∷ []) (Asks.Question.project (only (1 ·2^ 2)))) ▷ vector (only (17 /2^ 2))
    ∷ asked (Asks.inner (int 1 ∷ 1 /2^ 1 ∷ []) Asks.Question.time) ▷ answer_no
    ∷ asked (Asks.inner (int 1 ∷ 1 /2^ 1 ∷ []) (Asks.Question.cost (only (17 /2^ 2)))) ▷ number null
    ∷ asked (Asks.LoopQuestion.f1 (only (17 /2^ 2))) ▷ vector (only (1 ·2^ 3))
    ∷ asked (Asks.LoopQuestion.project_c (only (17 /2^ 1))) ▷ vector (only null)
    ∷ asked (Asks.LoopQuestion.f2 (only (17 /2^ 2))) ▷ vector (only (1 ·2^ 3))
    ∷ asked (Asks.LoopQuestion.cost (only (17 /2^ 2)) (null ∷ 17 /2^ 1 ∷ [])) ▷ number (int 5)
    ∷ says (ended (handed (record { plan = (only (17 /2^ 2)); multipliers = (only (17 /2^ 1)); penalty = int 1; status = not_converged_iterations; outer = 1; inner = 1; norm = 1 /2^ 2; delta_y = 1 ·2^ 3; f2 = 1 ·2^ 3; cost = int 5 })))
    ∷ [])
unfolding all_loop Shows spoken
a_solve_out_of_time_its_iteration_is_finished_2 = refl

pub a_solve_out_of_time_its_iteration_is_finished_3 :
    Shows (start_loop binary64 (record { n = 1; n1 = 0; n2 = 1; set_y = false; limit = 3; outer = 1; limited = true; tolerance = int 1; epsilon = int 1; delta = int 1; akkt = int 1; penalty_factor = 1 ·2^ 1; epsilon_factor = 1 /2^ 1; coefficient = 1 /2^ 1 }) (only (1 /2^ 2)) (only (int 1)))
    (asked Asks.LoopQuestion.time ▷ answer_yes
    ∷ asked (Asks.inner (only (int 1)) (Asks.Question.cost (only (1 /2^ 2)))) ▷ number null
    ∷ asked (Asks.inner (only (int 1)) (Asks.Question.gradient (only (1 /2^ 2)))) ▷ vector (only null)
    ∷ asked (Asks.inner (only (int 1)) (Asks.Question.gradient (only (4503604130970123 /2^ 54)))) ▷ vector (only null)
    ∷ asked (Asks.inner (only (int 1)) (Asks.Question.project (only (4503604130970123 /2^ 54)))) ▷ vector (only (1 ·2^ 2))
    ∷ asked (Asks.inner (only (int 1)) (Asks.Question.cost (only (1 ·2^ 2)))) ▷ number null
    ∷ asked (Asks.inner (only (int 1)) (Asks.Question.direction true (only (neg (8444248738369727 /2^ 51))) (only (4503604130970123 /2^ 54)))) ▷ vector (only null)
    ∷ asked (Asks.inner (only (int 1)) (Asks.Question.cost (only (1 ·2^ 2)))) ▷ number null
    ∷ asked (Asks.inner (only (int 1)) (Asks.Question.gradient (only (1 ·2^ 2)))) ▷ vector (only null)
    ∷ asked (Asks.inner (only (int 1)) (Asks.Question.project (only (1 ·2^ 2)))) ▷ vector (only (17 /2^ 2))
    ∷ asked (Asks.inner (only (int 1)) Asks.Question.time) ▷ answer_no
    ∷ asked (Asks.inner (only (int 1)) (Asks.Question.cost (only (17 /2^ 2)))) ▷ number null
    ∷ asked (Asks.LoopQuestion.f2 (only (17 /2^ 2))) ▷ vector (only (1 /2^ 1))
    ∷ asked (Asks.LoopQuestion.cost (only (17 /2^ 2)) (only null)) ▷ number (int 5)
    ∷ says (ended (handed (record { plan = (only (17 /2^ 2)); multipliers = []; penalty = int 1; status = not_converged_out_of_time; outer = 1; inner = 1; norm = 1 /2^ 2; delta_y = null; f2 = 1 /2^ 1; cost = int 5 })))
    ∷ [])
unfolding all_loop Shows spoken
a_solve_out_of_time_its_iteration_is_finished_3 = refl

-- ---- neither mapping: xi is empty and c is 0; the inner tolerance shrinks down to ε

pub neither_mapping_xi_is_empty_and_c_is_0_1 :
    Shows (start_loop binary64 (record { n = 1; n1 = 0; n2 = 0; set_y = false; limit = 2; outer = 3; limited = false; tolerance = 1 ·2^ 2; epsilon = 1 /2^ 1; delta = int 1; akkt = 1 ·2^ 1; penalty_factor = 1 ·2^ 1; epsilon_factor = 1 /2^ 1; coefficient = 1 /2^ 1 }) (only null) [])
    (asked (Asks.inner [] (Asks.Question.cost (only null))) ▷ number null
    ∷ asked (Asks.inner [] (Asks.Question.gradient (only null))) ▷ vector (only null)
    ∷ asked (Asks.inner [] (Asks.Question.gradient (only (4951760157141521 /2^ 92)))) ▷ vector (only null)
    ∷ asked (Asks.inner [] (Asks.Question.project (only (4951760157141521 /2^ 92)))) ▷ vector (only (3 /2^ 1))
    ∷ asked (Asks.inner [] (Asks.Question.cost (only (3 /2^ 1)))) ▷ number null
    ∷ asked (Asks.inner [] (Asks.Question.cost (only (3 /2^ 1)))) ▷ number null
    ∷ asked (Asks.inner [] (Asks.Question.gradient (only (3 /2^ 1)))) ▷ vector (only null)
    ∷ asked (Asks.inner [] (Asks.Question.gradient (only (6755406196455185 /2^ 52)))) ▷ vector (only null)
    ∷ asked (Asks.inner [] (Asks.Question.project (only (6755406196455185 /2^ 52)))) ▷ vector (only (int 3))
    ∷ asked (Asks.inner [] (Asks.Question.cost (only (int 3)))) ▷ number null
    ∷ asked (Asks.inner [] (Asks.Question.direction true (only (neg (6755392685656303 /2^ 52))) (only (6755406196455185 /2^ 52)))) ▷ vector (only null)
    ∷ asked (Asks.inner [] (Asks.Question.cost (only (int 3)))) ▷ number null
    ∷ asked (Asks.inner [] (Asks.Question.gradient (only (int 3)))) ▷ vector (only null)
    ∷ asked (Asks.inner [] (Asks.Question.project (only (int 3)))) ▷ vector (only (7 /2^ 1))
    ∷ asked (Asks.inner [] (Asks.Question.cost (only (7 /2^ 1)))) ▷ number null
    ∷ asked (Asks.inner [] (Asks.Question.cost (only (7 /2^ 1)))) ▷ number null
    ∷ asked (Asks.inner [] (Asks.Question.gradient (only (7 /2^ 1)))) ▷ vector (only null)
    ∷ asked (Asks.inner [] (Asks.Question.gradient (only (1970326807299429 /2^ 49)))) ▷ vector (only null)
    ∷ asked (Asks.inner [] (Asks.Question.project (only (1970326807299429 /2^ 49)))) ▷ vector (only (int 3))
    ∷ asked (Asks.inner [] (Asks.Question.cost (only (int 3)))) ▷ number null
    ∷ asked (Asks.inner [] (Asks.Question.direction true (only (281476947035493 /2^ 49)) (only (1970326807299429 /2^ 49)))) ▷ vector (only null)
    ∷ asked (Asks.inner [] (Asks.Question.cost (only (int 3)))) ▷ number null
    ∷ asked (Asks.inner [] (Asks.Question.gradient (only (int 3)))) ▷ vector (only null)
    ∷ asked (Asks.inner [] (Asks.Question.project (only (int 3)))) ▷ vector (only (13 /2^ 2))
    ∷ asked (Asks.inner [] (Asks.Question.cost (only (13 /2^ 2)))) ▷ number null
    ∷ asked (Asks.LoopQuestion.cost (only (13 /2^ 2)) []) ▷ number (int 9)
    ∷ says (ended (handed (record { plan = (only (13 /2^ 2)); multipliers = []; penalty = null; status = converged; outer = 3; inner = 2; norm = 1 /2^ 2; delta_y = null; f2 = null; cost = int 9 })))
    ∷ [])
unfolding all_loop Shows spoken
neither_mapping_xi_is_empty_and_c_is_0_1 = refl

-- ---- a plan of the first solve is where the next begins, shifted anew; 10 in the second solve keeps the lent places

pub a_plan_of_the_first_solve_is_where_the_next_begins_1 :
    Shows (start_loop binary64 (record { n = 2; n1 = 1; n2 = 0; set_y = false; limit = 1; outer = 3; limited = false; tolerance = int 1; epsilon = int 1; delta = int 1; akkt = int 1; penalty_factor = 1 ·2^ 1; epsilon_factor = 1 /2^ 1; coefficient = 1 /2^ 1 }) (int 3 ∷ neg (int 1) ∷ []) (int 1 ∷ 1 /2^ 1 ∷ []))
    (asked (Asks.inner (int 1 ∷ 1 /2^ 1 ∷ []) (Asks.Question.cost (int 3 ∷ neg (int 1) ∷ []))) ▷ number null
    ∷ asked (Asks.inner (int 1 ∷ 1 /2^ 1 ∷ []) (Asks.Question.gradient (int 3 ∷ neg (int 1) ∷ []))) ▷ vector (null ∷ null ∷ [])
    ∷ asked (Asks.inner (int 1 ∷ 1 /2^ 1 ∷ []) (Asks.Question.gradient (6755406196455185 /2^ 51 ∷ neg (9007199254731985 /2^ 53) ∷ []))) ▷ vector (null ∷ null ∷ [])
    ∷ asked (Asks.inner (int 1 ∷ 1 /2^ 1 ∷ []) (Asks.Question.project (6755406196455185 /2^ 51 ∷ neg (9007199254731985 /2^ 53) ∷ []))) ▷ vector (int 3 ∷ neg (int 1) ∷ [])
    ∷ asked (Asks.inner (int 1 ∷ 1 /2^ 1 ∷ []) (Asks.Question.cost (int 3 ∷ neg (int 1) ∷ []))) ▷ number null
    ∷ asked (Asks.LoopQuestion.f1 (int 3 ∷ neg (int 1) ∷ [])) ▷ vector (only (1 ·2^ 3))
    ∷ asked (Asks.LoopQuestion.project_c (only (17 /2^ 1))) ▷ vector (only null)
    ∷ asked (Asks.inner (int 1 ∷ 17 /2^ 1 ∷ []) (Asks.Question.cost (int 3 ∷ neg (int 1) ∷ []))) ▷ number nan
    ∷ asked (Asks.inner (int 1 ∷ 17 /2^ 1 ∷ []) (Asks.Question.gradient (int 3 ∷ neg (int 1) ∷ []))) ▷ vector (null ∷ null ∷ [])
    ∷ asked (Asks.inner (int 1 ∷ 17 /2^ 1 ∷ []) (Asks.Question.gradient (6755406196455185 /2^ 51 ∷ neg (9007199254731985 /2^ 53) ∷ []))) ▷ vector (null ∷ null ∷ [])
    ∷ ended (refused 10) ▷ number null
    ∷ says (turned 6)
    ∷ [])
unfolding all_loop Shows spoken
a_plan_of_the_first_solve_is_where_the_next_begins_1 = refl

-- ---- failures of the loop's own questions

pub failures_of_the_loop_s_own_questions_1 :
    Shows (start_loop binary64 (record { n = 1; n1 = 1; n2 = 1; set_y = true; limit = 1; outer = 1; limited = false; tolerance = int 1; epsilon = int 1; delta = int 1; akkt = int 1; penalty_factor = 1 ·2^ 1; epsilon_factor = 1 /2^ 1; coefficient = 1 /2^ 1 }) (only (1 /2^ 2)) (int 1 ∷ null ∷ []))
    (asked (Asks.LoopQuestion.project_y (only null)) ▷ failure 20
    ∷ says (ended (failed 20))
    ∷ [])
unfolding all_loop Shows spoken
failures_of_the_loop_s_own_questions_1 = refl

pub failures_of_the_loop_s_own_questions_2 :
    Shows (start_loop binary64 (record { n = 1; n1 = 1; n2 = 1; set_y = true; limit = 1; outer = 1; limited = false; tolerance = int 1; epsilon = int 1; delta = int 1; akkt = int 1; penalty_factor = 1 ·2^ 1; epsilon_factor = 1 /2^ 1; coefficient = 1 /2^ 1 }) (only (1 /2^ 2)) (int 1 ∷ null ∷ []))
    (asked (Asks.LoopQuestion.project_y (only null)) ▷ vector (1 /2^ 1 ∷ 1 /2^ 1 ∷ [])
    ∷ turned 8 ▷ vector (only nan)
    ∷ asked (Asks.inner (int 1 ∷ nan ∷ []) (Asks.Question.cost (only (1 /2^ 2)))) ▷ number null
    ∷ asked (Asks.inner (int 1 ∷ nan ∷ []) (Asks.Question.gradient (only (1 /2^ 2)))) ▷ vector (only null)
    ∷ asked (Asks.inner (int 1 ∷ nan ∷ []) (Asks.Question.gradient (only (4503604130970123 /2^ 54)))) ▷ vector (only null)
    ∷ asked (Asks.inner (int 1 ∷ nan ∷ []) (Asks.Question.project (only (4503604130970123 /2^ 54)))) ▷ vector (only (1 /2^ 2))
    ∷ asked (Asks.inner (int 1 ∷ nan ∷ []) (Asks.Question.cost (only (1 /2^ 2)))) ▷ number null
    ∷ asked (Asks.LoopQuestion.f1 (only (1 /2^ 2))) ▷ failure 21
    ∷ says (ended (failed 21))
    ∷ [])
unfolding all_loop Shows spoken
failures_of_the_loop_s_own_questions_2 = refl

pub failures_of_the_loop_s_own_questions_3 :
    Shows (start_loop binary64 (record { n = 1; n1 = 1; n2 = 1; set_y = true; limit = 1; outer = 1; limited = false; tolerance = int 1; epsilon = int 1; delta = int 1; akkt = int 1; penalty_factor = 1 ·2^ 1; epsilon_factor = 1 /2^ 1; coefficient = 1 /2^ 1 }) (only (1 /2^ 2)) (int 1 ∷ null ∷ []))
    (asked (Asks.LoopQuestion.project_y (only null)) ▷ vector (only (1 /2^ 1))
    ∷ asked (Asks.inner (int 1 ∷ 1 /2^ 1 ∷ []) (Asks.Question.cost (only (1 /2^ 2)))) ▷ number null
    ∷ asked (Asks.inner (int 1 ∷ 1 /2^ 1 ∷ []) (Asks.Question.gradient (only (1 /2^ 2)))) ▷ vector (only null)
    ∷ asked (Asks.inner (int 1 ∷ 1 /2^ 1 ∷ []) (Asks.Question.gradient (only (4503604130970123 /2^ 54)))) ▷ vector (only null)
    ∷ asked (Asks.inner (int 1 ∷ 1 /2^ 1 ∷ []) (Asks.Question.project (only (4503604130970123 /2^ 54)))) ▷ vector (only (1 /2^ 2))
    ∷ asked (Asks.inner (int 1 ∷ 1 /2^ 1 ∷ []) (Asks.Question.cost (only (1 /2^ 2)))) ▷ number null
    ∷ asked (Asks.LoopQuestion.f1 (only (1 /2^ 2))) ▷ vector (only (1 ·2^ 3))
    ∷ asked (Asks.LoopQuestion.project_c (only (17 /2^ 1))) ▷ failure 22
    ∷ says (ended (failed 22))
    ∷ [])
unfolding all_loop Shows spoken
failures_of_the_loop_s_own_questions_3 = refl

pub failures_of_the_loop_s_own_questions_4 :
    Shows (start_loop binary64 (record { n = 1; n1 = 1; n2 = 1; set_y = true; limit = 1; outer = 1; limited = false; tolerance = int 1; epsilon = int 1; delta = int 1; akkt = int 1; penalty_factor = 1 ·2^ 1; epsilon_factor = 1 /2^ 1; coefficient = 1 /2^ 1 }) (only (1 /2^ 2)) (int 1 ∷ null ∷ []))
    (asked (Asks.LoopQuestion.project_y (only null)) ▷ vector (only (1 /2^ 1))
    ∷ asked (Asks.inner (int 1 ∷ 1 /2^ 1 ∷ []) (Asks.Question.cost (only (1 /2^ 2)))) ▷ number null
    ∷ asked (Asks.inner (int 1 ∷ 1 /2^ 1 ∷ []) (Asks.Question.gradient (only (1 /2^ 2)))) ▷ vector (only null)
    ∷ asked (Asks.inner (int 1 ∷ 1 /2^ 1 ∷ []) (Asks.Question.gradient (only (4503604130970123 /2^ 54)))) ▷ vector (only null)
    ∷ asked (Asks.inner (int 1 ∷ 1 /2^ 1 ∷ []) (Asks.Question.project (only (4503604130970123 /2^ 54)))) ▷ vector (only (1 /2^ 2))
    ∷ asked (Asks.inner (int 1 ∷ 1 /2^ 1 ∷ []) (Asks.Question.cost (only (1 /2^ 2)))) ▷ number null
    ∷ asked (Asks.LoopQuestion.f1 (only (1 /2^ 2))) ▷ vector (only (1 ·2^ 3))
    ∷ asked (Asks.LoopQuestion.project_c (only (17 /2^ 1))) ▷ vector (only (1 ·2^ 3))
    ∷ asked (Asks.LoopQuestion.f2 (only (1 /2^ 2))) ▷ failure 23
    ∷ says (ended (failed 23))
    ∷ [])
unfolding all_loop Shows spoken
failures_of_the_loop_s_own_questions_4 = refl

pub failures_of_the_loop_s_own_questions_5 :
    Shows (start_loop binary64 (record { n = 1; n1 = 1; n2 = 1; set_y = true; limit = 1; outer = 1; limited = false; tolerance = int 1; epsilon = int 1; delta = int 1; akkt = int 1; penalty_factor = 1 ·2^ 1; epsilon_factor = 1 /2^ 1; coefficient = 1 /2^ 1 }) (only (1 /2^ 2)) (int 1 ∷ null ∷ []))
    (asked (Asks.LoopQuestion.project_y (only null)) ▷ vector (only (1 /2^ 1))
    ∷ asked (Asks.inner (int 1 ∷ 1 /2^ 1 ∷ []) (Asks.Question.cost (only (1 /2^ 2)))) ▷ number null
    ∷ asked (Asks.inner (int 1 ∷ 1 /2^ 1 ∷ []) (Asks.Question.gradient (only (1 /2^ 2)))) ▷ vector (only null)
    ∷ asked (Asks.inner (int 1 ∷ 1 /2^ 1 ∷ []) (Asks.Question.gradient (only (4503604130970123 /2^ 54)))) ▷ vector (only null)
    ∷ asked (Asks.inner (int 1 ∷ 1 /2^ 1 ∷ []) (Asks.Question.project (only (4503604130970123 /2^ 54)))) ▷ vector (only (1 /2^ 2))
    ∷ asked (Asks.inner (int 1 ∷ 1 /2^ 1 ∷ []) (Asks.Question.cost (only (1 /2^ 2)))) ▷ number null
    ∷ asked (Asks.LoopQuestion.f1 (only (1 /2^ 2))) ▷ vector (only (1 ·2^ 3))
    ∷ asked (Asks.LoopQuestion.project_c (only (17 /2^ 1))) ▷ vector (only (1 ·2^ 3))
    ∷ asked (Asks.LoopQuestion.f2 (only (1 /2^ 2))) ▷ vector (only null)
    ∷ asked (Asks.LoopQuestion.cost (only (1 /2^ 2)) (null ∷ 1 /2^ 1 ∷ [])) ▷ failure 24
    ∷ says (ended (failed 24))
    ∷ [])
unfolding all_loop Shows spoken
failures_of_the_loop_s_own_questions_5 = refl

-- What a start for C leaves. Definitions only.
use Rattle.std.specs.Prelude.{ℕ, ◌≡◌, List, Float}
use Rattle.machine.specs.Numbers.{flag_of}
use Rattle.machine.specs.InnerAnswer.{start}
use Rattle.panoc_engine.specs.declared.panoc_cache.Settings.{Settings}
use Rattle.panoc_engine.specs.Values.{settings_of}
use Rattle.panoc_engine.specs.Runs.{run_of}
use Rattle.panoc_engine.specs.Blank.{blank}
use Rattle.panoc_fields.specs.declared.fields.InnerC.{InnerC}
use Rattle.panoc_fields.specs.Fields.{akkt_at, seen, exact}

-- the settings that C gives
abbrev pub settings_at : ℕ → ℕ → ℕ → Float → ℕ → Float → Settings
settings_at n max_iter limited tolerance has_akkt akkt_tolerance =
    record { n = n; max_iter = max_iter; limited = flag_of limited; tolerance = tolerance; akkt_tolerance = akkt_at has_akkt akkt_tolerance }

-- what the machine leaves, in exact numbers; the vectors but u are as they were
abbrev pub Begins : Settings → List Float → InnerC → InnerC → ℕ → Type 0
Begins set u was is r = seen r is.inner is.board ≡ exact (start (settings_of set) u (run_of (blank set) was.board)) was.inner.end

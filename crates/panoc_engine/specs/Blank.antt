-- The small part of a run that waits for its first COST. Definitions only.
use Rattle.std.specs.Prelude.{true}
use Rattle.ieee.specs.Numbers.{null}
use Rattle.panoc_engine.specs.declared.panoc_cache.Settings.{Settings}
use Rattle.panoc_engine.specs.declared.panoc_cache.Solve.{Solve}
use Rattle.panoc_engine.specs.declared.panoc_cache.Phase.TheVariants.{Cost}
use Rattle.panoc_engine.specs.declared.panoc_cache.ExitStatus.TheVariants.{Converged}

-- its numbers are worked out later
abbrev pub blank : Settings → Solve
blank set =
    record {
      phase = Cost;
      set = set;
      cost_value = null;
      gammas = record { lipschitz_constant = null; gamma = null; sigma = null };
      norms = record { norm_gamma_fpr = null; best_norm_gamma_fpr = null; tau = null; rhs_ls = null };
      norm_h = null;
      counts = record { left = 0; iterations = record { 0 = 0 }; status = Converged; rounds = 0 };
      forget = true;
    }

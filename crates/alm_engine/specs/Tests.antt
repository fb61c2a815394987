-- The first two tests of an exit, each by itself. Definitions only.
use Rattle.std.specs.Prelude.{Bool, ◌&&◌, ◌||◌, not, eqb}
use Rattle.std.specs.Float.{binary64}
use Rattle.std.specs.Float.Ieee.{add, mul, le}
use Rattle.model.specs.Constants.{epsilon}
use Rattle.alm_engine.specs.declared.alm_cache.Alm.{Alm}

-- |y_plus - y| ≤ c × δ + 2^-52, from the second iteration on, where n1 > 0
unfoldable pub settled_y : Alm → Bool
settled_y s =
    eqb s.set.n1 0
    || (not (eqb s.counts.outer.0 0) && le s.numbers.delta_y_norm_plus (add binary64 (mul binary64 s.numbers.penalty s.set.delta_tolerance) (epsilon binary64)))

-- |F2| ≤ δ + 2^-52, where n2 > 0
unfoldable pub settled_f2 : Alm → Bool
settled_f2 s = eqb s.set.n2 0 || le s.numbers.f2_norm_plus (add binary64 s.set.delta_tolerance (epsilon binary64))

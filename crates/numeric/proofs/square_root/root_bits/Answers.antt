-- `square_root::root_bits` meets its contract (`proofs/Scaling.antt`). Assumes nothing.
use Rattle.std.proofs.Common.{◌^◌, ◌<◌}
use Rattle.std.specs.Float.Ieee.{binary64}
use Rattle.numeric.proofs.Scaling.{near_hi, finish, no_nan_bits}
use Rattle.numeric.proofs.square_root.root_bits.Goals as goal

q-lt : (c : goal.After-nearest) → c.nearest.result < 2 ^ 53
q-lt c = near_hi binary64 c.parts-m.result.m c.nearest.result c.parts-m.ensures.0 c.parts-m.ensures.1 c.nearest.ensures

pub returns : goal.returns
returns c =
    let s = c.parts-m.result in
    let e = c.parts-m.ensures in (
      no_nan_bits binary64 s.j c.nearest.result e.2 (q-lt c),
      finish binary64 c.args.b s.m s.j c.nearest.result c.requires.0 c.requires.1 e.0 e.1 e.2 e.3 c.nearest.ensures,
    )

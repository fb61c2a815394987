use Rattle.std.proofs.Common.{rules}
use Rattle.alm_c.proofs.PlaceLaws.{lies}
use Rattle.alm_c.proofs.points.pozkerrin_loop_place.Goals as goal

pub returns-clause-lies : goal.returns-clause-lies
returns-clause-lies c = lies c.args.run.now (search rules) _ _ _ c.phase_at-phase.ensures c.phase_at.ensures c.place_at.ensures.vector

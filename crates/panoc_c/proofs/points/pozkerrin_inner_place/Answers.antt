use Rattle.std.proofs.Common.{refl}
use Rattle.panoc_fields.proofs.PlaceLaws.{lies}
use Rattle.panoc_c.proofs.points.pozkerrin_inner_place.Goals as goal

pub returns-clause-lies : goal.returns-clause-lies
returns-clause-lies c = lies c.args.run.now _ _ _ c.phase_at.ensures c.place_of.ensures.vector refl

use Rattle.std.proofs.Common.{refl}
use Rattle.alm_factory_c.proofs.Laws.{psi_begun}
use Rattle.alm_factory_c.proofs.psi.pozkerrin_psi_start.Goals as goal

pub returns : goal.returns
returns c =
    psi_begun _ c.args.u.now c.args.xi.now c.args.run.now _ c.psi_start_in_place-outcome.result.state _ c.psi_start_in_place-outcome.new.board _ refl refl c.psi_start_in_place-outcome.ensures.begins c.psi_start_in_place-outcome.ensures.stays
    c.keep.ensures.fields c.keep.ensures.number

use Rattle.std.proofs.Common.{refl}
use Rattle.alm_factory_c.proofs.Laws.{d_psi_begun}
use Rattle.alm_factory_c.proofs.d_psi.pozkerrin_d_psi_start.Goals as goal

pub returns : goal.returns
returns c =
    d_psi_begun _ c.args.u.now c.args.xi.now c.args.run.now _ c.d_psi_start_in_place-outcome.result.state _ c.d_psi_start_in_place-outcome.new.board _ refl c.d_psi_start_in_place-outcome.ensures.begins c.d_psi_start_in_place-outcome.ensures.stays
    c.keep.ensures.fields c.keep.ensures.number

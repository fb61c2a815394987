use Rattle.std.proofs.Common.{refl}
use Rattle.alm_factory.proofs.StartLaws.{d_psi_refused}
use Rattle.alm_factory.proofs.starting.d_psi_start_in_place.Goals as goal

pub returns-in-Some : goal.returns-in-Some
returns-in-Some c =
    record {
      begins = d_psi_refused c.args.sizes c.args.u.now c.args.xi.now c.in-Some.refusal c.in-Some.ensures _ _;
      stays = λ k e. refl;
    }

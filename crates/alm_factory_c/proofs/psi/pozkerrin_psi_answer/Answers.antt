use Rattle.alm_factory_c.proofs.Laws.{psi_goes}
use Rattle.alm_factory_c.proofs.psi.pozkerrin_psi_answer.Goals as goal

pub returns : goal.returns
returns c =
    psi_goes c.args.run.now _ c.args.v.now _ c.small-s.result c.small-s.ensures c.psi_waits-wanted.ensures _ c.keep.new.run c.step-m.result c.step-m.new.board _ c.in-Some.ensures c.in_default-refusal.ensures c.step-m.ensures
    c.keep.ensures.fields c.keep.ensures.number

use Rattle.std.proofs.Common.{refl}
use Rattle.alm_fields.proofs.Kept.{moves_so}
use Rattle.alm_fields.proofs.keeping.keep_weighed.Goals as goal

pub returns : goal.returns
returns c = λ l. moves_so c.args.inner.now c.keep_moved.new.inner c.args.alm.now c.keep_moved.new.alm l c.args.r.moved c.args.r.counts (record c.args.alm.now { numbers = c.args.r.numbers }) _ _ c.keep_counts.ensures refl (c.keep_moved.ensures l)

use Rattle.panoc_fields.proofs.Kept.{tests_so}
use Rattle.panoc_fields.proofs.keeping.keep_tested.Goals as goal

pub returns : goal.returns
returns c = λ l. tests_so c.args.run.now _ l c.args.r _ _ c.status_number-run.ensures (c.keep_moved.ensures l)

-- `keywords::begins` meets its contract: the longer words, of which each byte is read. Assumes nothing.
use Rattle.std.proofs.Common.{codes, rules, arith}
use Rattle.std.proofs.lemmas.Slice.Eq.{text_from_reads}
use Rattle.words.proofs.keywords.begins.Goals as goal

pub returns-in-number : goal.returns-in-number
returns-in-number c = rw (text_from_reads c.args.w.now (codes "number") (omega arith) (search rules))

pub returns-in-vector : goal.returns-in-vector
returns-in-vector c = rw (text_from_reads c.args.w.now (codes "vector") (omega arith) (search rules))

pub returns-in-failure : goal.returns-in-failure
returns-in-failure c = rw (text_from_reads c.args.w.now (codes "failure") (omega arith) (search rules))

-- `sets::begins` meets its contract: the longest word, of which each byte is read. Assumes nothing.
use Rattle.std.proofs.Common.{codes, rules, arith}
use Rattle.std.proofs.lemmas.Slice.Eq.{text_from_reads}
use Rattle.script.proofs.sets.begins.Goals as goal

pub returns-in-115 : goal.returns-in-115
returns-in-115 c = rw (text_from_reads c.args.w.now (codes "show_onto") (omega arith) (search rules))

-- A place more of `give`. Assumes nothing.
use Rattle.std.proofs.Common.{sym, ap, ◌∙◌, ◌+◌, ◌*◌, List, [], ◌∷◌, ◌++◌, Float, slice_index_or, arith}
use Rattle.std.proofs.lemmas.List.{length-set}
use Rattle.std.specs.Float.{nan}
use Rattle.board.proofs.Loops.{take_stored, vector_more}
use Rattle.board.proofs.copies.give.Goals as goal

pub loop-i-preserved : goal.loop-i-preserved
loop-i-preserved c =
    let e = c.loop-i.invariant in
    let x = slice_index_or c.args.board.now (64 * c.args.from + c.loop-i.i) nan in
    (simp length-set e.0, take_stored c.loop-i.i c.loop-i.out x (omega (arith, e.0, c.loop-i-test.true)) ∙ ap (λ (l : List Float). l ++ (x ∷ [])) e.1 ∙ sym (vector_more c.args.from c.loop-i.i c.args.board.now))

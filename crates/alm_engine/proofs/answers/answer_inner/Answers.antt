use Rattle.std.proofs.Common.{rules}
use Rattle.panoc_engine.specs.Values.{told_of, reply_of}
use Rattle.alm_engine.proofs.Lent.{inner_stands, inner_counted}
use Rattle.alm_engine.proofs.answers.answer_inner.Goals as goal

-- the loop's run, once its inner solve has taken the answer
pub on_inner-requires : goal.on_inner-requires
on_inner-requires c =
    let a = reply_of c.args.a in
    let x = c.answer_accepted-r.result.state in
    let t = told_of c.answer_accepted-r.result.outcome in (
      inner_stands c.args.s c.args.board.now a c.args.v.now c.answer_accepted-r.new.board _ t x c.requires.places c.requires.carried c.requires.accepted c.answer_accepted-r.ensures (search rules),
      inner_counted c.args.s c.args.board.now a c.args.v.now c.answer_accepted-r.new.board _ t x c.requires.places c.requires.carried c.requires.accepted c.answer_accepted-r.ensures,
    )

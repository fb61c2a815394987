use Rattle.std.proofs.Common.{rules}
use Rattle.panoc_engine.specs.declared.panoc_cache.Reply.TheVariants.{Vector}
use Rattle.panoc_engine.specs.Values.{reply_of}
use Rattle.alm_fields.proofs.Carried.{carry_stands, carry_counted, carry_so}
use Rattle.alm_fields.proofs.answering.carry_vector.Goals as goal

pub carry-requires-clause-made : goal.carry-requires-clause-made
carry-requires-clause-made c = carry_stands c.args.inner.now c.answer_vector-number.new.run c.args.alm.now c.args.board.now c.answer_vector-number.new.board (reply_of Vector) c.args.v.now _ _ c.requires.places c.requires.carried c.requires.accepted c.answer_vector-number.ensures (search rules)

pub carry-requires-clause-counted : goal.carry-requires-clause-counted
carry-requires-clause-counted c = carry_counted c.args.inner.now c.answer_vector-number.new.run c.args.alm.now c.args.board.now c.answer_vector-number.new.board (reply_of Vector) c.args.v.now _ _ c.requires.places c.requires.carried c.requires.accepted c.answer_vector-number.ensures

pub returns : goal.returns
returns c = carry_so c.args.inner.now c.answer_vector-number.new.run c.args.alm.now c.args.board.now c.answer_vector-number.new.board (reply_of Vector) c.args.v.now _ _ c.requires.places c.requires.carried c.requires.accepted c.answer_vector-number.ensures (search rules) c.carry.new.inner c.carry.new.alm c.carry.new.board _ c.carry.ensures

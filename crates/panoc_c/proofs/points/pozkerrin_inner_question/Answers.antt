use Rattle.board.specs.Board.{board_of}
use Rattle.panoc_engine.specs.Runs.{run_of}
use Rattle.panoc_c.proofs.points.pozkerrin_inner_question.Goals as goal

pub returns : goal.returns
unfolding run_of
returns c = c.standing.ensures (board_of c.args.run.now.inner.n c.args.run.now.board)

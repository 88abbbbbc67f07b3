use Rattle.xcp_bank.proofs.WordReadLemmas.{reads_on, reads_hold}
use Rattle.xcp_bank.proofs.reading.read_three.Goals as goal

pub read_whole-requires-2-clause-seat : goal.read_whole-requires-2-clause-seat
read_whole-requires-2-clause-seat c = reads_hold c.args.board.now c.args.buffer c.args.at c.args.k 1 _ _ _ _ c.read_whole.ensures c.requires.seat

pub read_whole-requires-3-clause-seat : goal.read_whole-requires-3-clause-seat
read_whole-requires-3-clause-seat c = reads_hold c.args.board.now c.args.buffer c.args.at c.args.k 2 _ _ _ _ (reads_on c.args.board.now c.args.buffer c.args.at c.args.k 1 1 _ _ _ _ _ _ c.read_whole.ensures c.read_whole-2.ensures) c.requires.seat

pub returns : goal.returns
returns c = reads_on c.args.board.now c.args.buffer c.args.at c.args.k 2 1 _ _ _ _ _ _ (reads_on c.args.board.now c.args.buffer c.args.at c.args.k 1 1 _ _ _ _ _ _ c.read_whole.ensures c.read_whole-2.ensures) c.read_whole-3.ensures

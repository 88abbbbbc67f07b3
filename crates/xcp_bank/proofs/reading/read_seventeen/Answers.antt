use Rattle.std.proofs.Common.{◌*◌}
use Rattle.xcp_bank.proofs.WordReadLemmas.{reads_on, reads_hold}
use Rattle.xcp_bank.proofs.reading.read_seventeen.Goals as goal

pub read_three-requires-2-clause-seat : goal.read_three-requires-2-clause-seat
read_three-requires-2-clause-seat c = reads_hold c.args.board.now c.args.buffer (8 * c.args.k) c.args.k 3 _ _ _ _ c.read_three.ensures c.requires.seat

pub read_three-requires-3-clause-seat : goal.read_three-requires-3-clause-seat
read_three-requires-3-clause-seat c = reads_hold c.args.board.now c.args.buffer (8 * c.args.k) c.args.k 6 _ _ _ _ (reads_on c.args.board.now c.args.buffer (8 * c.args.k) c.args.k 3 3 _ _ _ _ _ _ c.read_three.ensures c.read_three-2.ensures) c.requires.seat

pub read_three-requires-4-clause-seat : goal.read_three-requires-4-clause-seat
read_three-requires-4-clause-seat c = reads_hold c.args.board.now c.args.buffer (8 * c.args.k) c.args.k 9 _ _ _ _ (reads_on c.args.board.now c.args.buffer (8 * c.args.k) c.args.k 6 3 _ _ _ _ _ _ (reads_on c.args.board.now c.args.buffer (8 * c.args.k) c.args.k 3 3 _ _ _ _ _ _ c.read_three.ensures c.read_three-2.ensures) c.read_three-3.ensures) c.requires.seat

pub read_three-requires-5-clause-seat : goal.read_three-requires-5-clause-seat
read_three-requires-5-clause-seat c = reads_hold c.args.board.now c.args.buffer (8 * c.args.k) c.args.k 12 _ _ _ _ (reads_on c.args.board.now c.args.buffer (8 * c.args.k) c.args.k 9 3 _ _ _ _ _ _ (reads_on c.args.board.now c.args.buffer (8 * c.args.k) c.args.k 6 3 _ _ _ _ _ _ (reads_on c.args.board.now c.args.buffer (8 * c.args.k) c.args.k 3 3 _ _ _ _ _ _ c.read_three.ensures c.read_three-2.ensures) c.read_three-3.ensures) c.read_three-4.ensures) c.requires.seat

pub read_whole-requires-clause-seat : goal.read_whole-requires-clause-seat
read_whole-requires-clause-seat c = reads_hold c.args.board.now c.args.buffer (8 * c.args.k) c.args.k 15 _ _ _ _ (reads_on c.args.board.now c.args.buffer (8 * c.args.k) c.args.k 12 3 _ _ _ _ _ _ (reads_on c.args.board.now c.args.buffer (8 * c.args.k) c.args.k 9 3 _ _ _ _ _ _ (reads_on c.args.board.now c.args.buffer (8 * c.args.k) c.args.k 6 3 _ _ _ _ _ _ (reads_on c.args.board.now c.args.buffer (8 * c.args.k) c.args.k 3 3 _ _ _ _ _ _ c.read_three.ensures c.read_three-2.ensures) c.read_three-3.ensures) c.read_three-4.ensures) c.read_three-5.ensures) c.requires.seat

pub read_whole-requires-2-clause-seat : goal.read_whole-requires-2-clause-seat
read_whole-requires-2-clause-seat c = reads_hold c.args.board.now c.args.buffer (8 * c.args.k) c.args.k 16 _ _ _ _ (reads_on c.args.board.now c.args.buffer (8 * c.args.k) c.args.k 15 1 _ _ _ _ _ _ (reads_on c.args.board.now c.args.buffer (8 * c.args.k) c.args.k 12 3 _ _ _ _ _ _ (reads_on c.args.board.now c.args.buffer (8 * c.args.k) c.args.k 9 3 _ _ _ _ _ _ (reads_on c.args.board.now c.args.buffer (8 * c.args.k) c.args.k 6 3 _ _ _ _ _ _ (reads_on c.args.board.now c.args.buffer (8 * c.args.k) c.args.k 3 3 _ _ _ _ _ _ c.read_three.ensures c.read_three-2.ensures) c.read_three-3.ensures) c.read_three-4.ensures) c.read_three-5.ensures) c.read_whole.ensures) c.requires.seat

pub returns : goal.returns
returns c = reads_on c.args.board.now c.args.buffer (8 * c.args.k) c.args.k 16 1 _ _ _ _ _ _ (reads_on c.args.board.now c.args.buffer (8 * c.args.k) c.args.k 15 1 _ _ _ _ _ _ (reads_on c.args.board.now c.args.buffer (8 * c.args.k) c.args.k 12 3 _ _ _ _ _ _ (reads_on c.args.board.now c.args.buffer (8 * c.args.k) c.args.k 9 3 _ _ _ _ _ _ (reads_on c.args.board.now c.args.buffer (8 * c.args.k) c.args.k 6 3 _ _ _ _ _ _ (reads_on c.args.board.now c.args.buffer (8 * c.args.k) c.args.k 3 3 _ _ _ _ _ _ c.read_three.ensures c.read_three-2.ensures) c.read_three-3.ensures) c.read_three-4.ensures) c.read_three-5.ensures) c.read_whole.ensures) c.read_whole-2.ensures

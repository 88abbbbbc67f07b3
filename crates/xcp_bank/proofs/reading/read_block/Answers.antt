use Rattle.std.proofs.Common.{◌+◌, ◌-◌, ◌*◌, arith}
use Rattle.xcp_bank.proofs.WordReadLemmas.{reads_hold, reads_within, reads_behind}
use Rattle.xcp_bank.proofs.reading.read_block.Goals as goal

pub read_seventeen-requires-2-clause-seat : goal.read_seventeen-requires-2-clause-seat
read_seventeen-requires-2-clause-seat c =
    let low = c.requires.from in let high = c.requires.to in
    reads_hold c.args.board.now c.args.buffer c.args.at c.args.k 17 _ _ _ _
    (reads_within c.args.board.now c.args.buffer c.args.at c.args.k 17 (8 * c.args.k - c.args.at) (8 * c.args.k - c.args.at + 136 - (8 * c.args.k - c.args.at)) _ _ c.args.out.now c.read_seventeen.new.out (omega arith) (omega arith) (omega arith) c.read_seventeen.ensures)
    c.requires.seat

pub read_seventeen-requires-3-clause-seat : goal.read_seventeen-requires-3-clause-seat
read_seventeen-requires-3-clause-seat c =
    let low = c.requires.from in let high = c.requires.to in
    reads_hold c.args.board.now c.args.buffer c.args.at c.args.k 34 _ _ _ _
    (reads_behind c.args.board.now c.args.buffer c.args.at c.args.k 17 17 (8 * c.args.k - c.args.at + 136) (8 * c.args.k - c.args.at + 272 - (8 * c.args.k - c.args.at + 136)) _ _ _ c.args.out.now _ c.read_seventeen-2.new.out (omega arith) (omega arith) (omega arith)
    (reads_within c.args.board.now c.args.buffer c.args.at c.args.k 17 (8 * c.args.k - c.args.at) (8 * c.args.k - c.args.at + 136 - (8 * c.args.k - c.args.at)) _ _ c.args.out.now c.read_seventeen.new.out (omega arith) (omega arith) (omega arith) c.read_seventeen.ensures)
    c.read_seventeen-2.ensures)
    c.requires.seat

pub returns : goal.returns
returns c =
    let low = c.requires.from in let high = c.requires.to in
    reads_behind c.args.board.now c.args.buffer c.args.at c.args.k 34 17 (8 * c.args.k - c.args.at + 272) (8 * c.args.k - c.args.at + 408 - (8 * c.args.k - c.args.at + 272)) _ _ _ c.args.out.now _ c.read_seventeen-3.new.out (omega arith) (omega arith) (omega arith)
    (reads_behind c.args.board.now c.args.buffer c.args.at c.args.k 17 17 (8 * c.args.k - c.args.at + 136) (8 * c.args.k - c.args.at + 272 - (8 * c.args.k - c.args.at + 136)) _ _ _ c.args.out.now _ c.read_seventeen-2.new.out (omega arith) (omega arith) (omega arith)
    (reads_within c.args.board.now c.args.buffer c.args.at c.args.k 17 (8 * c.args.k - c.args.at) (8 * c.args.k - c.args.at + 136 - (8 * c.args.k - c.args.at)) _ _ c.args.out.now c.read_seventeen.new.out (omega arith) (omega arith) (omega arith) c.read_seventeen.ensures)
    c.read_seventeen-2.ensures)
    c.read_seventeen-3.ensures

use Rattle.xcp_bank.proofs.WordReadLemmas.{reads_one}
use Rattle.xcp_bank.proofs.reading.read_part.Goals as goal

pub returns : goal.returns
returns c = reads_one c.args.board.now c.args.buffer c.args.at c.args.k c.read_word-word.result c.args.token.now c.read_word-word.new.token c.args.out.now c.put_part.new.out c.read_word-word.ensures c.put_part.ensures.size c.put_part.ensures.there c.put_part.ensures.elsewhere c.requires.inside

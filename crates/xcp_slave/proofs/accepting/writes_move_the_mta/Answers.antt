use Rattle.xcp_slave.proofs.MemoryLaws.{download-mta, short-mta, max-mta, block-mta, bits-mta}
use Rattle.xcp_slave.proofs.accepting.writes_move_the_mta.Goals as goal

pub returns-clause-download : goal.returns-clause-download
returns-clause-download c = download-mta

pub returns-clause-short_download : goal.returns-clause-short_download
returns-clause-short_download c = short-mta

pub returns-clause-download_max : goal.returns-clause-download_max
returns-clause-download_max c = max-mta

pub returns-clause-block : goal.returns-clause-block
returns-clause-block c = block-mta

pub returns-clause-bits : goal.returns-clause-bits
returns-clause-bits c = bits-mta

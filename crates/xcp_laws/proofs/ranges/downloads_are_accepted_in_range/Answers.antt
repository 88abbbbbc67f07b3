use Rattle.xcp_laws.proofs.DownloadRanges.{download, download-elsewhere, whole-download, begins-block, download-next, out-of-sequence, no-block, download-max, max-elsewhere, short-download}
use Rattle.xcp_laws.proofs.ranges.downloads_are_accepted_in_range.Goals as goal

pub returns-clause-download : goal.returns-clause-download
returns-clause-download c = download

pub returns-clause-download_elsewhere : goal.returns-clause-download_elsewhere
returns-clause-download_elsewhere c = download-elsewhere

pub returns-clause-whole : goal.returns-clause-whole
returns-clause-whole c = whole-download

pub returns-clause-begins : goal.returns-clause-begins
returns-clause-begins c = begins-block

pub returns-clause-download_next : goal.returns-clause-download_next
returns-clause-download_next c = download-next

pub returns-clause-out_of_sequence : goal.returns-clause-out_of_sequence
returns-clause-out_of_sequence c = out-of-sequence

pub returns-clause-no_block : goal.returns-clause-no_block
returns-clause-no_block c = no-block

pub returns-clause-download_max : goal.returns-clause-download_max
returns-clause-download_max c = download-max

pub returns-clause-max_elsewhere : goal.returns-clause-max_elsewhere
returns-clause-max_elsewhere c = max-elsewhere

pub returns-clause-short_download : goal.returns-clause-short_download
returns-clause-short_download c = short-download

use Rattle.xcp_bank.proofs.ScanLaws.{scans_tell}
use Rattle.xcp_bank.proofs.laws.scans_tell_holders.Goals as goal

pub returns : goal.returns
returns c = λ W some few front b n s ran. scans_tell W some few front b n s ran

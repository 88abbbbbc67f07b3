use Rattle.std.proofs.Common.{◌≡◌, ◌≤◌, ◌+◌, length}
use Rattle.xcp_locked.proofs.TallyLemmas.{Agrees}
use Rattle.xcp_locked.proofs.ComparedReceiptLemmas.{IsAt}
use Rattle.xcp_locked.specs.SettledReceipts.{receipts_for}
use Rattle.xcp_locked.proofs.settling.settled.Given as goal

abbrev pub invariant-loop-at : goal.invariant-loop-at
invariant-loop-at l =
    Agrees l.number l.chapter l.at l.met l.journal.entries (receipts_for l.later l.chapter l.receipts.list) l.entries
    × IsAt (receipts_for l.later l.chapter l.receipts.list) l.met l.next (receipts_for l.later l.chapter l.left)
    × (l.at + length l.entries ≡ length l.journal.entries)
    × (l.met ≤ l.at)

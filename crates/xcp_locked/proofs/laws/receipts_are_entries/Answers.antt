use Rattle.xcp_locked.specs.SettledReceipts.{receipts_for}
use Rattle.xcp_locked.proofs.SettledReceiptLaws.{each_settled, all_settled, rise_settled}
use Rattle.xcp_locked.proofs.laws.receipts_are_entries.Goals as goal

pub returns-clause-each : goal.returns-clause-each
returns-clause-each c later chapter journal caller i r settled h = each_settled journal caller.number chapter (receipts_for later chapter caller.receipts) i r settled h

pub returns-clause-all : goal.returns-clause-all
returns-clause-all c later chapter journal caller place request answer settled h = all_settled journal caller.number chapter (receipts_for later chapter caller.receipts) place request answer settled h

pub returns-clause-rise : goal.returns-clause-rise
returns-clause-rise c later chapter journal caller i r s settled g h = rise_settled journal caller.number chapter (receipts_for later chapter caller.receipts) i r s settled g h

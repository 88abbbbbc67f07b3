-- Receipts: what callers have of their calls.
use Rattle.std.specs.Prelude.{ℕ, List, map}
use Rattle.xcp_slave.specs.declared.Exchange.{Exchange}
use Rattle.xcp_slave.specs.declared.Request.{Request}
use Rattle.xcp_slave.specs.Outcomes.{Answer}
use Rattle.xcp_trace.specs.declared.Entry.{Entry}
use Rattle.xcp_locked.specs.declared.receipt.Receipt.{Receipt}

-- a chapter's number, a place in it, and a call
abbrev pub receipt : ℕ → ℕ → Request → Answer → Receipt
receipt chapter at request answer = record { chapter = chapter; at = at; request = request; answer = answer }

-- the receipt for the entry at this place of this chapter
abbrev pub receipt_of : ℕ → ℕ → Entry → Receipt
receipt_of chapter at e = receipt chapter at e.exchange.request e.exchange.answer

-- the exchanges that receipts have, in order
abbrev pub exchanges_of : List Receipt → List Exchange
exchanges_of receipts = map (λ (r : Receipt). record { request = r.request; answer = r.answer }) receipts

-- Receipts as contracts see them: the list, and how many more places and bytes they can take before they need more memory.
pub record ReceiptsValue : Type 0 where
  pub list : List Receipt
  pub places : ℕ
  pub bytes : ℕ

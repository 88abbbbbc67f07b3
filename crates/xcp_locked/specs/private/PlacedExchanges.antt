-- Receipts that are stored as places and exchanges, and those that are left to be read.
use Rattle.std.specs.Prelude.{List, [], ◌∷◌, Option, Some, None}
use Rattle.xcp_slave.specs.declared.Exchange.{Exchange}
use Rattle.xcp_locked.specs.Receipts.{receipt}
use Rattle.xcp_locked.specs.declared.receipt.Receipt.{Receipt}
use Rattle.xcp_locked.specs.declared.receipts.Place.{Place}

-- each place with the exchange that stands beside it
abbrev pub receipts_at : List Place → List Exchange → List Receipt
receipts_at [] exchanges = []
receipts_at (p ∷ places) [] = []
receipts_at (p ∷ places) (x ∷ exchanges) = receipt p.chapter p.at x.request x.answer ∷ receipts_at places exchanges

-- a receipt and those behind it, or none
abbrev pub receipts_ahead : Option Receipt → List Receipt → List Receipt
receipts_ahead None rest = []
receipts_ahead (Some r) rest = r ∷ rest

-- Receipts that were handed over in sheaves.
use Rattle.std.specs.Prelude.{List, [], ◌∷◌, ◌++◌}
use Rattle.xcp_locked.specs.Caller.{CallerValue}
use Rattle.xcp_locked.specs.LockedSlave.{LockedValue}
use Rattle.xcp_locked.specs.Sheaves.{SheafValue}
use Rattle.xcp_locked.specs.declared.receipt.Receipt.{Receipt}

-- the receipts of sheaves, in order
abbrev pub receipts_in : List SheafValue → List Receipt
receipts_in [] = []
receipts_in (s ∷ ss) = s.receipts ++ receipts_in ss

-- what a caller hands over to a slave as it is
abbrev pub sheaf_of : LockedValue → CallerValue → SheafValue
sheaf_of l c = record { caller = c.number; until = l.chapter; receipts = c.receipts }

-- Receipts that a caller handed over.
use Rattle.std.specs.Prelude.{ℕ, List}
use Rattle.xcp_locked.specs.declared.receipt.Receipt.{Receipt}

-- A sheaf: the number of the caller that handed it over, the number of the chapter that was open then, and the receipts.
pub record SheafValue : Type 0 where
  pub caller : ℕ
  pub until : ℕ
  pub receipts : List Receipt

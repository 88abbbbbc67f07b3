-- A slave that no type names yet, as contracts see it.
use Rattle.std.specs.Prelude.{◌≡◌, ℕ}
use Rattle.xcp_bank.specs.BankId.{BankId}
use Rattle.xcp_memory.specs.Layout.{LayoutValue}

-- the layout of the slave, the number of its callers, the name of the ledger of its calls, and the bank of its images
pub record UnnamedValue : Type 0 where
  pub layout : LayoutValue
  pub callers : ℕ
  pub name : ℕ
  pub bank : BankId

-- A type has the name of this slave: what the type tells of the ledger, its callers, the layout and the bank is the slave's.
abbrev pub IsNamed : UnnamedValue → ℕ → ℕ → LayoutValue → BankId → Type 0
IsNamed u name callers layout bank = (u.name ≡ name) × (u.callers ≡ callers) × (u.layout ≡ layout) × (u.bank ≡ bank)

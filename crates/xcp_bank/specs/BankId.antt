-- Which bank it is. Contracts compare it, and look at nothing in it but how wide it is.
use Rattle.std.specs.Prelude.{ℕ, ◌-◌, ◌*◌, []}
use Rattle.atomic_table.specs.Seated.{TableId}

pub record BankId : Type 0 where
  pub table : TableId

abbrev pub bank_of : TableId → BankId
bank_of table = record { table = table }

-- how many words a buffer of this bank has: those of an image, and one for the publication's number. Its table has as many slots,
-- which hold nothing: so each step sees this number.
abbrev pub buffer_words : BankId → ℕ
buffer_words bank = bank.table.slots

-- how many bytes an image of this bank has
abbrev pub image_bytes : BankId → ℕ
image_bytes bank = 8 * (bank.table.slots - 1)

-- for who has to name some bank before there is one: no bank is this
abbrev pub no_bank : BankId
no_bank = bank_of record { words = 0; slots = 0; views_name = 0; atom = 0; block = 0; offset = 0; slot_names = [] }

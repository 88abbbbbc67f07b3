-- What entry a string spells: the caller's number, and then the spelling of the exchange.
use Rattle.std.specs.Prelude.{◌≤◌, ℕ, ◌+◌, List, length, drop, slice_index}
use Rattle.xcp_trace.specs.declared.journal.Entry.{Entry}
use Rattle.xcp_trace.specs.ExchangeSpelling.{IsExchangeString, exchange_in, room_for_any}

-- the string has a caller's number, and behind it an exchange's string
pub record IsEntryString (string : List ℕ) : Type 0 where
  pub caller : 1 ≤ length string
  pub exchange : IsExchangeString (drop 1 string)

-- the entry that such a string spells
abbrev pub entry_in : List ℕ → Entry
entry_in string = record { caller = slice_index string 0; exchange = exchange_in (drop 1 string) }

-- the room that any entry needs
abbrev pub room_for_any_entry : ℕ
room_for_any_entry = 1 + room_for_any

-- A journal as contracts see it: its entries, in order, and how many bytes it can take before it needs more memory.
pub record JournalValue : Type 0 where
  pub entries : List Entry
  pub room : ℕ

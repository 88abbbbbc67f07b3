-- A caller, as contracts see it.
use Rattle.std.specs.Prelude.{ℕ, zero, suc, ◌+◌, List, [], ◌∷◌, ◌++◌, length, min}
use Rattle.xcp_memory.specs.Layout.{LayoutValue}
use Rattle.xcp_locked.specs.declared.receipt.Receipt.{Receipt}

-- A caller: its number, the layout's number of event channels and how many bytes of signals an event of a task hands over, its receipts, and how many of its
-- calls were accepted.
pub record CallerValue : Type 0 where
  pub number : ℕ
  pub events : ℕ
  pub signals : ℕ
  pub receipts : List Receipt
  pub accepted : ℕ

-- how many of a caller's calls were accepted
abbrev pub accepted_by : CallerValue → ℕ
accepted_by c = c.accepted

-- a caller with one more call accepted, whose receipt stands last
abbrev pub accepting : CallerValue → Receipt → CallerValue
accepting c r = record c { accepted = c.accepted + 1; receipts = c.receipts ++ r ∷ [] }

-- a caller that has made no call
abbrev pub fresh_caller : LayoutValue → ℕ → CallerValue
fresh_caller l number = record { number = number; events = length l.events; signals = min l.signals_length 64; receipts = []; accepted = 0 }

-- n callers that have made no call, numbered from 0
abbrev pub callers_of : LayoutValue → ℕ → List CallerValue
callers_of l zero = []
callers_of l (suc n) = callers_of l n ++ fresh_caller l n ∷ []

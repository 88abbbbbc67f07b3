-- A journal: the calls that a slave has had.
use Rattle.std.specs.Prelude.{ℕ, List, map}
use Rattle.xcp_slave.specs.declared.Exchange.{Exchange}
use Rattle.xcp_slave.specs.declared.Request.{Request}
use Rattle.xcp_slave.specs.Outcomes.{Answer}
use Rattle.xcp_trace.specs.declared.Entry.{Entry}

-- the most entries of a journal
abbrev pub journal_limit : ℕ
journal_limit = 65536

-- the number of the last chapter that there can be
abbrev pub last_chapter : ℕ
last_chapter = 4294967295

-- a call by this caller
abbrev pub entry : ℕ → Request → Answer → Entry
entry by request answer = record { caller = by; exchange = record { request = request; answer = answer } }

-- the exchanges of the entries, without their callers
abbrev pub exchanges : List Entry → List Exchange
exchanges entries = map (λ (e : Entry). e.exchange) entries

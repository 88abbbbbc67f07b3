-- Events that were lost: they found no room for their packets.
use Rattle.std.specs.Prelude.{ℕ, List, count_by, sum_by}
use Rattle.xcp_trace.specs.Lost.{is_overrun}
use Rattle.xcp_trace.specs.declared.Entry.{Entry}
use Rattle.xcp_locked.specs.LockedSlave.{ChapterValue}

-- how many of these calls were such events
abbrev pub lost_among : List Entry → ℕ
lost_among entries = count_by (λ (e : Entry). is_overrun e.exchange.answer) entries

-- the same of chapters
abbrev pub lost_in : List ChapterValue → ℕ
lost_in chapters = sum_by (λ (c : ChapterValue). lost_among c.entries) chapters

-- How a server is asked to stay.
use Rattle.std.specs.Prelude.{ℕ, Bool, true, false, not, nat_lt, is_some, Option, Some, None}
use Rattle.xcp_program.specs.declared.purpose.Options.{Options}
use Rattle.xcp_program.specs.declared.purpose.Options.TheVariants.{Stay}
use Rattle.xcp_program.specs.declared.staying.Staying.{Staying}

-- so many, where that is asked for
abbrev pub asked_count : Bool → ℕ → Option ℕ
asked_count true n = Some n
asked_count false n = None

-- Of the words that ask for a server that stays: a connection ends for want of words after some seconds, unless these are 0; the open chapter
-- is cut off by time where the journal has a file, and by each store where stored pages have one; and standard input is read unless the
-- words say that it isn't.
abbrev pub staying_of : Options → Option Staying
staying_of (Stay config host p t k ms s q i c unread journal flash pace udp) =
    Some (record {
      tools = t;
      tasks = k;
      period = ms;
      pace = pace;
      patience = s;
      queue = q;
      idle = asked_count (nat_lt 0 i) i;
      cut_every = asked_count (is_some journal) c;
      keeps_pages = is_some flash;
      reads_input = not unread;
      udp = udp;
    })
staying_of _ = None

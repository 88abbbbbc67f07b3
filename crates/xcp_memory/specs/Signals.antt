-- What of the signals a controller hands over.
use Rattle.std.specs.Prelude.{ℕ, Bool, ◌==◌, nat_le}
use Rattle.xcp_memory.specs.declared.class.Class.{Class}
use Rattle.xcp_memory.specs.declared.class.Class.TheVariants.{Papers, Large}
use Rattle.xcp_memory.specs.Layout.{LayoutValue}

-- Whether an event may hand over the first n bytes of the signals: in the class of 2,040 bytes these are all that there are, and in the
-- large one as many as it likes.
abbrev pub may_take : Class → ℕ → ℕ → Bool
may_take Papers n size = n == size
may_take Large n size = nat_le n size

abbrev pub takes_signals : LayoutValue → ℕ → Bool
takes_signals l n = may_take l.class n l.signals_length

-- A law of samples.
use Rattle.std.specs.Prelude.{ℕ, ◌≤◌, length, All}
use Rattle.xcp_memory.specs.ClassLimits.{limits_of}
use Rattle.xcp_memory.specs.Pages.{PagesValue}
use Rattle.xcp_daq.specs.DaqLists.{DaqValue}
use Rattle.xcp_daq.specs.DaqInvariant.{IsDaq}
use Rattle.xcp_daq.specs.Sample.{sampled}

-- an event gives no more packets than the class has ODTs, each of 1 to 255 bytes
abbrev pub SamplesAreBounded : Type 0
SamplesAreBounded = (channel time : ℕ) (pages : PagesValue) (v : DaqValue) → IsDaq v → (length (sampled channel time pages v) ≤ (limits_of v.class).odts) × All (λ packet. (1 ≤ length packet.items) × (length packet.items ≤ 255)) (sampled channel time pages v)

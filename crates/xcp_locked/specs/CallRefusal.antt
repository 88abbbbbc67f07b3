-- What a refusal of a shared slave may be.
use Rattle.std.specs.Prelude.{◌≡◌, ◌⊎◌}
use Rattle.xcp_framing.specs.declared.station.StationError.{StationError}
use Rattle.xcp_framing.specs.declared.station.StationError.TheVariants as refusals

-- Others call the slave too, so that a caller can't tell beforehand whether the journal is full.
abbrev pub MayRefuse : StationError → Type 0
MayRefuse e = (e ≡ refusals.Memory) ⊎ (e ≡ refusals.JournalFull)

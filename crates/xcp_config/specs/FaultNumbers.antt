-- The numbers of the faults of a configuration.
use Rattle.std.specs.Prelude.{ℕ}
use Rattle.xcp_memory.specs.declared.LayoutFault.{LayoutFault}
use Rattle.xcp_memory.specs.declared.LayoutFault.TheVariants as limit
use Rattle.xcp_config.specs.declared.config_error.ConfigError.{ConfigError}
use Rattle.xcp_config.specs.declared.config_error.ConfigError.TheVariants.{Text, Missing, Kind, Range, Overlap, TooMany, Memory}

-- the number that a user is told
abbrev pub number_of : ConfigError → ℕ
number_of Text = 1
number_of (Missing k) = 2
number_of (Kind k) = 3
number_of (Range k) = 4
number_of (Overlap a b) = 5
number_of (TooMany k) = 6
number_of Memory = 7

-- a limit of a layout's parts, as a fault of a configuration
abbrev pub error_of : LayoutFault → ConfigError
error_of (limit.Range k) = Range k
error_of (limit.Overlap a b) = Overlap a b
error_of (limit.TooMany k) = TooMany k

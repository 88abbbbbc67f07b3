-- A check of a configuration.
use Rattle.std.specs.Prelude.{Bool}
use Rattle.xcp_config.specs.declared.config_error.ConfigError.{ConfigError}

-- a check: the test that it fails, and the fault if it does
abbrev pub Check : Type 0
Check = Bool × ConfigError

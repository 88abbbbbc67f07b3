-- What reading a text looks at first.
use Rattle.std.specs.Prelude.{List, [], ◌∷◌, Option, is_some}
use Rattle.std.specs.Option.{option_and_then}
use Rattle.toml.specs.Data.{Data, as_str}
use Rattle.xcp_memory.specs.declared.Key.{Key}
use Rattle.xcp_config.specs.declared.config_error.ConfigError.TheVariants.{Missing, Kind}
use Rattle.xcp_packet.specs.Rows.{must}
use Rattle.xcp_config.specs.Check.{Check}

-- a text is there
abbrev pub text_there : Key → Option Data → List Check
text_there k v =
    must (is_some v) (Missing k)
    ∷ must (is_some (option_and_then as_str v)) (Kind k)
    ∷ []

-- A desk as contracts see it.
use Rattle.std.specs.Prelude.{List}
use Rattle.xcp_slave.specs.SlaveValue.{SlaveValue}
use Rattle.xcp_slave.specs.declared.Exchange.{Exchange}

-- a slave, and the exchanges that it has had, in order
pub record DeskValue : Type 0 where
  pub slave : SlaveValue
  pub exchanges : List Exchange

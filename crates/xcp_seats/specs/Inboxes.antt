-- The datagrams of a port, as they come.
use Rattle.std.specs.Prelude.{Bool}
use Rattle.xcp_datagrams.specs.Letters.{LetterValue}
use Rattle.xcp_datagrams.specs.Numbers.{Heard}

-- the datagram that came last, whether the tool that has the slave has sent a DISCONNECT, and the CTR of tools so far
pub record InboxValue : Type 0 where
  pub letter : LetterValue
  pub gone : Bool
  pub numbers : Heard

-- A keeper, and a slave that it doesn't meet.
use Rattle.xcp_locked.specs.LockedSlave.{LockedValue}
use Rattle.xcp_service.specs.Keeping.{KeeperValue}

pub record UnmetValue : Type 0 where
  pub keeper : KeeperValue
  pub locked : LockedValue

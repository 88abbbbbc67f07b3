use Rattle.xcp_laws.proofs.Stores.{store-requested}
use Rattle.xcp_laws.proofs.storing.a_store_is_requested.Goals as goal

pub returns : goal.returns
returns c = store-requested

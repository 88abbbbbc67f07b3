-- Drains, whose packets are gathered and put.
use Rattle.std.specs.Prelude.{◌≡◌, ℕ, List, ◌++◌, length, Result, Ok}
use Rattle.xcp_slave.specs.declared.Exchange.{Exchange}
use Rattle.xcp_framing.specs.declared.serving.ServeError.{ServeError}
use Rattle.xcp_framing.specs.Serve.{packets_in_answers}
use Rattle.xcp_framing.specs.Pump.{AllDrains}
use Rattle.xcp_framing.specs.private.PutOutput.{MovesSoFar}

-- What `pump` does, where packets are held before and behind it.
pub record PumpsHeld (result : Result ℕ ServeError) (old new : List Exchange) (put held put' held' : List (List ℕ)) : Type 0 where
  pub exchanges : List Exchange
  pub grown : new ≡ old ++ exchanges
  pub drains : AllDrains exchanges
  pub moves : MovesSoFar result put held put' held' (packets_in_answers exchanges)
  pub counts : (n : ℕ) → result ≡ Ok n → n ≡ length (packets_in_answers exchanges)

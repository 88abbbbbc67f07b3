-- Passages of a stream that were heard to their ends.
use Rattle.std.specs.Prelude.{◌≡◌, ℕ, List, [], ◌++◌}
use Rattle.xcp_slave.specs.declared.Exchange.{Exchange}
use Rattle.xcp_framing.specs.CountedCalls.{StreamPlace}
use Rattle.xcp_framing.specs.Frames.{frames, rest}
use Rattle.xcp_framing.specs.Pump.{PutsDrains}
use Rattle.xcp_framing.specs.Serve.{OnRead}
use Rattle.xcp_framing.specs.ServeBy.{PutsAll}

-- all that was read is whole frames, and their packets were answered
pub record AllHeard (m : ℕ) (from to : StreamPlace) (old new : List Exchange) (before after : List (List ℕ)) : Type 0 where
  pub packets : List (List ℕ)
  pub read : OnRead from to (λ stream. (packets ≡ frames m stream) × ([] ≡ rest m stream))
  pub exchanges : List Exchange
  pub grown : new ≡ old ++ exchanges
  pub puts : PutsAll packets exchanges before after

-- all that was drained was put
pub record AllDrained (old new : List Exchange) (before after : List (List ℕ)) : Type 0 where
  pub exchanges : List Exchange
  pub grown : new ≡ old ++ exchanges
  pub puts : PutsDrains exchanges before after

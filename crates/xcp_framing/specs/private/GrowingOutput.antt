-- What the parts of a call of `serve` promise to it.
use Rattle.std.specs.Prelude.{◌≡◌, ◌+◌, ◌≤◌, ℕ, List, ◌++◌, All, OnOk, length, Result, Ok, Err, ⊤}
use Rattle.xcp_slave.specs.declared.Exchange.{Exchange}
use Rattle.xcp_framing.specs.declared.serving.ServeError.{ServeError}
use Rattle.xcp_framing.specs.declared.serving.ServeError.TheVariants as errors
use Rattle.xcp_framing.specs.FrameOutput.{Output, Sends}
use Rattle.xcp_framing.specs.Wire.{wire_from, len_of, IsBadLength}
use Rattle.xcp_framing.specs.Serve.{packets_in_answers, most_drains, GavePacket, Drained}

-- nothing went wrong so far
abbrev pub fine : Result (Unit {0}) ServeError
fine = Ok tt

-- Exchanges, of which a fact holds, and the frames of their packets, numbered from `from`: `to` counts on.
pub record OutputGrows {A : Type 0} (result : Result A ServeError) (Fact : List Exchange → Type 0) (old new : List Exchange) (before after : Output) (from to : ℕ) : Type 0 where
  pub exchanges : List Exchange
  pub grown : new ≡ old ++ exchanges
  pub fact : Fact exchanges
  pub sends : Sends result before after (wire_from from (packets_in_answers exchanges))
  pub counts : OnOk result (to ≡ from + length (packets_in_answers exchanges))

-- the Drains behind a command, or fewer
abbrev pub DrainsSoFar : {A : Type 0} → Result A ServeError → List Exchange → Type 0
DrainsSoFar (Ok done) exchanges = Drained exchanges
DrainsSoFar (Err e) exchanges = All GavePacket exchanges × (length exchanges ≤ most_drains)

-- How a piece ended: what is held is the stream's rest, which begins with no LEN above m; or it begins with one; or a write,
-- the station or want of memory for packets ended the call.
abbrev pub EndsPiece : {A : Type 0} → ℕ → Result A ServeError → List ℕ → List ℕ → Type 0
EndsPiece m (Ok done) held left = (held ≡ left) × ¬ IsBadLength m left
EndsPiece m (Err (errors.BadLength n)) held left = (n ≡ len_of left) × IsBadLength m left
EndsPiece m (Err errors.Write) held left = ⊤
EndsPiece m (Err errors.Memory) held left = ⊤
EndsPiece m (Err errors.JournalFull) held left = ⊤
EndsPiece m (Err errors.NoRoom) held left = ⊤
EndsPiece m _ held left = ⊥

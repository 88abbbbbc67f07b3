-- Packets that are answered in frames, which are gathered before they are written.
use Rattle.std.specs.Prelude.{◌≡◌, ◌≢◌, ◌<◌, ℕ, List, [], OnOk, IfErr, Option, Result, Err}
use Rattle.xcp_slave.specs.declared.Exchange.{Exchange}
use Rattle.xcp_slave.specs.declared.Request.{Request}
use Rattle.xcp_framing.specs.declared.station.StationError.{StationError}
use Rattle.xcp_framing.specs.declared.serving.ServeError.{ServeError}
use Rattle.xcp_framing.specs.declared.serving.ServeError.TheVariants as errors
use Rattle.xcp_framing.specs.Serve.{AnswersSoFar, WritesText}
use Rattle.xcp_framing.specs.ServeRefusal.{OnRefusal, StationRefused, AsksNext}
use Rattle.xcp_framing.specs.FrameOutput.{FrameWriterValue, output}
use Rattle.xcp_framing.specs.private.GrowingOutput.{OutputGrows}
use Rattle.xcp_framing.specs.private.AnsweredStream.{AnswerStand}

-- Packets were answered, up to the interruption that ended it, which is no want of memory for packets: by which exchanges, whose frames
-- were gathered; whether a write failed; and the request that the station refused, if it did.
pub record AnswersInFrames {S K O : Type 0} (exchanges_of : S → List Exchange) (refuses : S → Request → StationError → Type 0) (frames_of : K → FrameWriterValue) (contents_of : O → Option (List ℕ)) (failures_of : O → ℕ) (result : Result (Unit {0}) ServeError) (packets : List (List ℕ)) (old new : AnswerStand S K O) : Type 0 where
  pub grows : OutputGrows result (AnswersSoFar result packets) (exchanges_of old.station) (exchanges_of new.station) (output (contents_of old.out) (frames_of old.state)) (output (contents_of new.out) (frames_of new.state)) (frames_of old.state).sent (frames_of new.state).sent
  pub unfailed : result ≢ Err errors.Write → failures_of new.out ≡ failures_of old.out
  pub write : result ≡ Err errors.Write → failures_of old.out < failures_of new.out
  pub dropped : result ≡ Err errors.Write → (frames_of new.state).held ≡ []
  pub no_room : result ≢ Err errors.NoRoom
  pub refused : OnRefusal result (λ e. StationRefused exchanges_of refuses e (AsksNext packets) (exchanges_of old.station) new.station)

-- What was held was written, or a front of it, and nothing is held then.
pub record HandsFramesOn {K O : Type 0} (frames_of : K → FrameWriterValue) (contents_of : O → Option (List ℕ)) (failures_of : O → ℕ) (result : Result (Unit {0}) ServeError) (state : K) (out : O) (state' : K) (out' : O) : Type 0 where
  pub writes : WritesText result (contents_of out) (contents_of out') (frames_of state).held
  pub held : (frames_of state').held ≡ []
  pub sent : (frames_of state').sent ≡ (frames_of state).sent
  pub fine : OnOk result (failures_of out' ≡ failures_of out)
  pub err : IfErr result (λ e. (e ≡ errors.Write) × (failures_of out < failures_of out'))

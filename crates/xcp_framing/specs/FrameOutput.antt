-- Frames that are gathered before they are written.
use Rattle.std.specs.Prelude.{◌≡◌, ◌+◌, ◌≤◌, ℕ, List, ◌++◌, length, Option, Result, Err}
use Rattle.std.specs.Io.KnownBytes.{Appends}
use Rattle.xcp_framing.specs.declared.serving.ServeError.{ServeError}
use Rattle.xcp_framing.specs.declared.serving.ServeError.TheVariants as errors
use Rattle.xcp_framing.specs.Prefix.{AppendsFront}

-- A writer of frames as contracts see it: how many packets were sent, modulo 2^64, and the bytes of their frames that it still
-- holds.
pub record FrameWriterValue : Type 0 where
  pub sent : ℕ
  pub held : List ℕ

-- A packet's frame, which is LEN, CTR and the packet, finds room beside those that are held: at most 4096 bytes are.
abbrev pub FindsRoom : FrameWriterValue → List ℕ → Type 0
FindsRoom frames packet = length frames.held + (4 + length packet) ≤ 4096

-- what was sent: the bytes that the writer has, where it tells them, and behind them those that are held
pub record Output : Type 0 where
  pub contents : Option (List ℕ)
  pub held : List ℕ

abbrev pub output : Option (List ℕ) → FrameWriterValue → Output
output contents frames = record { contents = contents; held = frames.held }

-- The output has grown by a text: of the bytes that were held and the text the first were written, and the others are held.
pub record Gathers (before after : Output) (text : List ℕ) : Type 0 where
  pub written : List ℕ
  pub grown : Appends before.contents after.contents written
  pub rest : written ++ after.held ≡ before.held ++ text

-- The output has grown by a text, unless a write ended the call: then a front of what was held and the text was written.
abbrev pub Sends : {A : Type 0} → Result A ServeError → Output → Output → List ℕ → Type 0
Sends (Err errors.Write) before after text = AppendsFront before.contents after.contents (before.held ++ text)
Sends _ before after text = Gathers before after text

-- A command packet as it is executed, code by code. It is answered by the step relation so, by a lemma of proofs/; contracts of
-- private functions alone cite this.
use Rattle.std.specs.Prelude.{◌≡◌, ℕ, Bool, true, false, ◌&&◌, ◌==◌, nat_le, nat_lt, List, length, Option, Some, None, Result, Err, MatchBool, if◌then◌else◌}
use Rattle.xcp_packet.specs.CommandForms.{least}
use Rattle.xcp_packet.specs.ByteOrder.{byte_at}
use Rattle.xcp_packet.specs.declared.Command.{Command}
use Rattle.xcp_packet.specs.declared.Code.TheVariants.{CmdUnknown, CmdSyntax}
use Rattle.xcp_packet.specs.declared.Sent.{Sent}
use Rattle.xcp_packet.specs.declared.CommandError.{CommandError}
use Rattle.xcp_packet.specs.declared.CommandError.TheVariants as faults
use Rattle.xcp_slave.specs.SlaveValue.{SlaveValue, noblock}
use Rattle.xcp_slave.specs.private.TellsRow.{TellsRow}
use Rattle.xcp_slave.specs.Step.{found_by}

-- whether a packet is heeded by a slave that is connected, or isn't
abbrev pub heeded : Bool → List ℕ → Bool
heeded true p = nat_lt 0 (length p)
heeded false p = nat_le 2 (length p) && (byte_at 0 p == 0xFF)

-- the slave as a command with this code finds it
abbrev pub found_at : ℕ → SlaveValue → SlaveValue
found_at code v = if code == 0xEF then v else noblock v

-- What comes of a packet p, where c is the command with its code, if there is one, with the parameters that stand in p.
abbrev pub TellsCoded : Option Command → List ℕ → SlaveValue → Result Sent CommandError → List ℕ → SlaveValue → Type 0
TellsCoded None p v r bytes w = (r ≡ Err (faults.Code CmdUnknown)) × (w ≡ noblock v)
TellsCoded (Some c) p v r bytes w = MatchBool (nat_lt (length p) (least c)) ((r ≡ Err (faults.Code CmdSyntax)) × (w ≡ noblock v)) (TellsRow c (found_by c v) r bytes w)

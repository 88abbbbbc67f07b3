-- What writes a server's journal and its stored pages down may cross to another thread.
use denote.RattleType.{RattleType}
use denote.Ref.{NamedLft}
use denote.Param.Send.{AllSend, IsSend, IsSync, recorded_send, sendable, struct_send, view_send}
use denote.Struct.Declared as declared
use denote.Struct.Struct.{Struct}
use Rattle.std.proofs.Crossing.{crosses}
use Rattle.xcp_behind.proofs.behind.Behind.TheSendSync as behind
use Rattle.xcp_flash.proofs.references.References.TheSendSync as references
use Rattle.xcp_framing.specs.contracts.record.Record as Record
use Rattle.xcp_framing.specs.contracts.tally.Tally as Tally
use Rattle.xcp_framing.specs.contracts.watched.Watched as Watched
use Rattle.xcp_framing.specs.contracts.watched.Watched.TheInside as WatchedInside
use Rattle.xcp_record.proofs.fault.RecordFault.TheSendSync as fault
use Rattle.xcp_record.proofs.roster.Roster.TheSendSync as roster
use Rattle.xcp_record.specs.contracts.recorder.Recorder as Recorder
use Rattle.xcp_scribe.specs.contracts.asking.Asking as Asking
use Rattle.xcp_scribe.specs.contracts.both.Both as Both
use Rattle.xcp_scribe.specs.contracts.standing.Flashing as Flashing
use Rattle.xcp_scribe.specs.contracts.recording.Recording as Recording
use Rattle.xcp_scribe.specs.contracts.watched_shelf.WatchedShelf as WatchedShelf
use Rattle.xcp_scribe.specs.contracts.watched_shelf.WatchedShelf.TheInside as WatchedShelfInside
use Rattle.xcpd.proofs.lines.Lines.TheSendSync as lines
use Rattle.xcpd.proofs.teller.Alarm.TheSendSync as alarm
use Rattle.xcpd.specs.contracts.distant.Counting as Counting
use Rattle.xcpd.specs.contracts.distant.HandingOn as HandingOn
use Rattle.xcpd.specs.contracts.flash.PagesFile as PagesFile
use Rattle.xcpd.specs.contracts.teller.Teller as Teller

-- a struct, as all its fields may
struct_crosses : (T : declared.Declared) → AllSend (declared.fields T) → IsSend (declared.row T)
struct_crosses T all = recorded_send (Struct (declared.shape T)) T.D T.to T.to_one (struct_send (declared.shape T) all)

-- a tally owns nothing
tally_crosses : IsSend Tally.the_field.row
tally_crosses = search (sendable, crosses) depth 20

-- nor does a record of bytes
record_crosses : IsSend Record.the_field.row
record_crosses = search (sendable, crosses) depth 20

watched_crosses : (T : RattleType) → IsSend T → IsSend (Watched.the_row T)
watched_crosses T s = view_send (WatchedInside.the_row T) _ _ _ _ (struct_crosses (WatchedInside.the_type T) (s, (tally_crosses, (tally_crosses, (record_crosses, (record_crosses, tt))))))

recorder_crosses : (W : RattleType) → IsSend W → IsSend (Recorder.the_field W).row
recorder_crosses W w =
    struct_send (declared.shape (Recorder.the_type W))
    (watched_crosses W w, (search (sendable, crosses) depth 20, (search sendable, (search sendable, (search sendable, (search (sendable, crosses) depth 20, tt))))))

-- a recording whose stream may, as a field
recording_crosses : (W : RattleType) → IsSend W → IsSend (Recording.the_field W).row
recording_crosses W w =
    struct_send (declared.shape (Recording.the_type W))
    (recorder_crosses W w, (search (sendable, crosses) depth 20, (search (sendable, crosses, roster.the_send) depth 20, (search (sendable, crosses) depth 20, (search (sendable, crosses, fault.the_send) depth 20, tt)))))

-- nor does a list of calls
asking_crosses : IsSend Asking.the_field.row
asking_crosses = search (sendable, crosses) depth 20

shelf_crosses : (F : RattleType) → IsSend F → IsSend (WatchedShelf.the_row F)
shelf_crosses F f = view_send (WatchedShelfInside.the_row F) _ _ _ _ (struct_crosses (WatchedShelfInside.the_type F) (f, (asking_crosses, tt)))

-- what keeps stored pages, where its shelf may
pub flashing_crosses : (F : RattleType) → IsSend F → IsSend (Flashing.the_row F)
flashing_crosses F f =
    struct_crosses (Flashing.the_type F)
    (shelf_crosses F f, (search (sendable, crosses) depth 20, (references.the_send, (search (sendable, crosses) depth 20, (search (sendable, crosses) depth 20, (search (sendable, crosses) depth 20, (search (sendable, crosses) depth 20, tt)))))))

-- two scribes that may
pub both_crosses : (A B : RattleType) → IsSend A → IsSend B → IsSend (Both.the_row A B)
both_crosses A B x y = struct_crosses (Both.the_type A B) (x, (y, tt))

-- who tells faults, where its handle may be shared
teller_crosses : (κ : NamedLft) (R : RattleType) → IsSync R → IsSend (Teller.the_field κ R).row
teller_crosses κ R r =
    struct_send (declared.shape (Teller.the_type κ R))
    (search (sendable, crosses) depth 20, (search (sendable, crosses) depth 20, (search (sendable, crosses, lines.the_sync) depth 20, (search sendable, (search sendable, tt)))))

-- a file's place
pub place_crosses : (κ : NamedLft) (R : RattleType) → IsSync R → IsSend (PagesFile.the_row κ R)
place_crosses κ R r =
    struct_crosses (PagesFile.the_type κ R)
    (search (sendable, crosses) depth 20, (search (sendable, crosses) depth 20, (search (sendable, crosses) depth 20, (teller_crosses κ R r, (search (sendable, crosses) depth 20, tt)))))

-- what hands a journal's bytes on
handing_crosses : (κ : NamedLft) (R : RattleType) → IsSync R → IsSend (HandingOn.the_row κ R)
handing_crosses κ R r = struct_crosses (HandingOn.the_type κ R) (behind.the_field_send, (search (sendable, crosses) depth 20, (search (sendable, crosses, alarm.the_send, alarm.the_sync) depth 20, tt)))

-- and what counts its calls
pub counting_crosses : (κ : NamedLft) (R : RattleType) → IsSync R → IsSend (Counting.the_row κ R)
counting_crosses κ R r = struct_crosses (Counting.the_type κ R) (recording_crosses (HandingOn.the_row κ R) (handing_crosses κ R r), (search sendable, (search (sendable, crosses) depth 20, tt)))

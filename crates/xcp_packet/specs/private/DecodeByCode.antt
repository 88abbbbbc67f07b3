-- A packet as it is read, code by code. It decodes to what is read, by a lemma of proofs/.
use Rattle.std.specs.Prelude.{◌≡◌, ◌≢◌, ◌<◌, ℕ, List, [], ◌∷◌, length, drop, Ok, Err, Result, Option, Some, None, MatchOption, if◌then◌else◌, ◌==◌}
use Rattle.xcp_packet.specs.ByteOrder.{byte_at, word_at, double_at}
use Rattle.xcp_packet.specs.CommandForms.{code, least}
use Rattle.xcp_packet.specs.CommandSpelling.{spells}
use Rattle.xcp_packet.specs.declared.order.Order.{Order}
use Rattle.xcp_packet.specs.declared.command.Command.{Command}
use Rattle.xcp_packet.specs.declared.command.Command.TheVariants.{Connect, Disconnect, GetStatus, Synch, GetCommModeInfo, GetId, SetRequest, SetMta, Upload, ShortUpload, BuildChecksum, Download, DownloadNext, DownloadMax, ShortDownload, ModifyBits, SetCalPage, GetCalPage, GetPagProcessorInfo, GetSegmentInfo, GetPageInfo, SetSegmentMode, GetSegmentMode, CopyCalPage, ClearDaqList, SetDaqPtr, WriteDaq, SetDaqListMode, GetDaqListMode, StartStopDaqList, StartStopSynch, GetDaqClock, ReadDaq, GetDaqProcessorInfo, GetDaqResolutionInfo, GetDaqEventInfo, FreeDaq, AllocDaq, AllocOdt, AllocOdtEntry, GetVersion, WriteDaqMultiple}
use Rattle.xcp_packet.specs.declared.refuse.Refuse.{Refuse}
use Rattle.xcp_packet.specs.declared.refuse.Refuse.TheVariants.{Empty, Unknown, Short}

-- each command, with the parameters that stand in p
abbrev pub readings : Order → List ℕ → List Command
readings order p =
    Connect (byte_at 1 p) ∷
    Disconnect ∷
    GetStatus ∷
    Synch ∷
    GetCommModeInfo ∷
    GetId (byte_at 1 p) ∷
    SetRequest (byte_at 1 p) (word_at order 2 p) ∷
    SetMta (byte_at 3 p) (double_at order 4 p) ∷
    Upload (byte_at 1 p) ∷
    ShortUpload (byte_at 1 p) (byte_at 3 p) (double_at order 4 p) ∷
    BuildChecksum (double_at order 4 p) ∷
    Download (byte_at 1 p) (record { items = drop 2 p }) ∷
    DownloadNext (byte_at 1 p) (record { items = drop 2 p }) ∷
    DownloadMax (record { items = drop 1 p }) ∷
    ShortDownload (byte_at 1 p) (byte_at 3 p) (double_at order 4 p) (record { items = drop 8 p }) ∷
    ModifyBits (byte_at 1 p) (word_at order 2 p) (word_at order 4 p) ∷
    SetCalPage (byte_at 1 p) (byte_at 2 p) (byte_at 3 p) ∷
    GetCalPage (byte_at 1 p) (byte_at 2 p) ∷
    GetPagProcessorInfo ∷
    GetSegmentInfo (byte_at 1 p) (byte_at 2 p) (byte_at 3 p) (byte_at 4 p) ∷
    GetPageInfo (byte_at 2 p) (byte_at 3 p) ∷
    SetSegmentMode (byte_at 1 p) (byte_at 2 p) ∷
    GetSegmentMode (byte_at 2 p) ∷
    CopyCalPage (byte_at 1 p) (byte_at 2 p) (byte_at 3 p) (byte_at 4 p) ∷
    ClearDaqList (word_at order 2 p) ∷
    SetDaqPtr (word_at order 2 p) (byte_at 4 p) (byte_at 5 p) ∷
    WriteDaq (byte_at 1 p) (byte_at 2 p) (byte_at 3 p) (double_at order 4 p) ∷
    SetDaqListMode (byte_at 1 p) (word_at order 2 p) (word_at order 4 p) (byte_at 6 p) (byte_at 7 p) ∷
    GetDaqListMode (word_at order 2 p) ∷
    StartStopDaqList (byte_at 1 p) (word_at order 2 p) ∷
    StartStopSynch (byte_at 1 p) ∷
    GetDaqClock ∷
    ReadDaq ∷
    GetDaqProcessorInfo ∷
    GetDaqResolutionInfo ∷
    GetDaqEventInfo (word_at order 2 p) ∷
    FreeDaq ∷
    AllocDaq (word_at order 2 p) ∷
    AllocOdt (word_at order 2 p) (byte_at 4 p) ∷
    AllocOdtEntry (word_at order 2 p) (byte_at 4 p) (byte_at 5 p) ∷
    GetVersion (record { items = drop 1 p }) ∷
    WriteDaqMultiple (record { items = drop 1 p }) ∷
    []

-- the first command of these with the code x
abbrev pub coded : ℕ → List Command → Option Command
coded x [] = None
coded x (c ∷ cs) = if x == code c then Some c else coded x cs

-- what is read of p: a command that it spells, or why it is none
abbrev pub ReadsCode : Order → List ℕ → Result Command Refuse → Type 0
ReadsCode order p (Ok command) = spells order command p
ReadsCode order p (Err Empty) = p ≡ []
ReadsCode order p (Err Unknown) = (p ≢ []) × (coded (byte_at 0 p) (readings order p) ≡ None)
ReadsCode order p (Err Short) = (p ≢ []) × MatchOption (coded (byte_at 0 p) (readings order p)) ⊥ (λ c. length p < least c)

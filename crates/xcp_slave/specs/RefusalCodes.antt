-- The codes of the errors that each command may be refused with, once a packet spells it.
-- (ASAM MCD-1 XCP, protocol layer: table of error codes. Which command is refused with which, and in which order they are
-- looked at, is this slave's choice.)
use Rattle.std.specs.Prelude.{ℕ, Bool, ◌==◌, List, [], ◌∷◌}
use Rattle.std.specs.List.{list_any}
use Rattle.xcp_packet.specs.declared.Command.{Command}
use Rattle.xcp_packet.specs.declared.Command.TheVariants as commands

-- 11 ERR_DAQ_ACTIVE, 20 ERR_CMD_UNKNOWN, 21 ERR_CMD_SYNTAX, 22 ERR_OUT_OF_RANGE, 23 ERR_WRITE_PROTECTED, 24 ERR_ACCESS_DENIED,
-- 26 ERR_PAGE_NOT_VALID, 27 ERR_MODE_NOT_VALID, 28 ERR_SEGMENT_NOT_VALID, 29 ERR_SEQUENCE, 2A ERR_DAQ_CONFIG,
-- 30 ERR_MEMORY_OVERFLOW
abbrev pub codes_of : Command → List ℕ
codes_of (commands.SetRequest mode id) = 0x22 ∷ []
codes_of (commands.SetMta extension address) = 0x22 ∷ []
codes_of (commands.GetVersion bytes) = 0x20 ∷ 0x21 ∷ []
codes_of (commands.Upload n) = 0x22 ∷ 0x24 ∷ []
codes_of (commands.ShortUpload n extension address) = 0x22 ∷ 0x24 ∷ []
codes_of (commands.BuildChecksum size) = 0x22 ∷ 0x24 ∷ []
codes_of (commands.Download n bytes) = 0x21 ∷ 0x22 ∷ 0x23 ∷ 0x24 ∷ []
codes_of (commands.DownloadNext remaining bytes) = 0x21 ∷ 0x29 ∷ []
codes_of (commands.DownloadMax bytes) = 0x21 ∷ 0x23 ∷ 0x24 ∷ []
codes_of (commands.ShortDownload n extension address bytes) = 0x21 ∷ 0x22 ∷ 0x23 ∷ 0x24 ∷ []
codes_of (commands.ModifyBits s ma mx) = 0x22 ∷ 0x23 ∷ 0x24 ∷ []
codes_of (commands.SetCalPage mode segment page) = 0x26 ∷ 0x27 ∷ 0x28 ∷ []
codes_of (commands.GetCalPage mode segment) = 0x27 ∷ 0x28 ∷ []
codes_of (commands.GetSegmentInfo mode segment info mapping) = 0x22 ∷ 0x28 ∷ []
codes_of (commands.GetPageInfo segment page) = 0x26 ∷ 0x28 ∷ []
codes_of (commands.SetSegmentMode mode segment) = 0x27 ∷ 0x28 ∷ []
codes_of (commands.GetSegmentMode segment) = 0x28 ∷ []
codes_of (commands.CopyCalPage source source_page target target_page) = 0x22 ∷ 0x23 ∷ 0x26 ∷ 0x28 ∷ []
codes_of (commands.ClearDaqList list) = 0x22 ∷ []
codes_of (commands.SetDaqPtr list odt entry) = 0x22 ∷ []
codes_of (commands.WriteDaq offset size extension address) = 0x11 ∷ 0x22 ∷ 0x24 ∷ 0x2A ∷ []
codes_of (commands.WriteDaqMultiple bytes) = 0x11 ∷ 0x20 ∷ 0x21 ∷ 0x22 ∷ 0x24 ∷ 0x2A ∷ []
codes_of (commands.SetDaqListMode mode list event prescaler priority) = 0x11 ∷ 0x22 ∷ 0x27 ∷ []
codes_of (commands.GetDaqListMode list) = 0x22 ∷ []
codes_of (commands.StartStopDaqList mode list) = 0x22 ∷ 0x27 ∷ 0x2A ∷ []
codes_of (commands.StartStopSynch mode) = 0x27 ∷ 0x2A ∷ []
codes_of commands.GetDaqClock = 0x20 ∷ []
codes_of commands.ReadDaq = 0x2A ∷ []
codes_of (commands.GetDaqEventInfo channel) = 0x22 ∷ []
codes_of (commands.AllocDaq count) = 0x11 ∷ 0x22 ∷ 0x29 ∷ 0x30 ∷ []
codes_of (commands.AllocOdt list count) = 0x11 ∷ 0x22 ∷ 0x29 ∷ 0x30 ∷ []
codes_of (commands.AllocOdtEntry list odt count) = 0x11 ∷ 0x22 ∷ 0x29 ∷ 0x30 ∷ []
-- no other command is refused
codes_of _ = []

abbrev pub is_code_of : Command → ℕ → Bool
is_code_of c code = list_any (λ k. k == code) (codes_of c)

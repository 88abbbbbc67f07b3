-- The layout of a reply: the bytes of the packet that answers a command.
-- ASAM MCD-1 XCP, protocol layer, description of commands, the positive responses, and table of error codes.
use Rattle.std.specs.Prelude.{ℕ, List, [], ◌∷◌, ◌++◌, ◌≤◌, length}
use Rattle.xcp_packet.specs.ByteOrder.{word_bytes, double_bytes}
use Rattle.xcp_packet.specs.declared.order.Order.{Order}
use Rattle.xcp_packet.specs.declared.code.Code.{Code}
use Rattle.xcp_packet.specs.declared.code.Code.TheVariants.{CmdSynch, CmdBusy, DaqActive, PgmActive, CmdUnknown, CmdSyntax, OutOfRange, WriteProtected, AccessDenied, AccessLocked, PageNotValid, ModeNotValid, SegmentNotValid, Sequence, DaqConfig, MemoryOverflow, Generic, Verify}
use Rattle.xcp_packet.specs.declared.reply.Reply.{Reply}
use Rattle.xcp_packet.specs.declared.reply.Reply.TheVariants.{Done, Connect, Status, CommMode, Id, Bytes, Checksum, CalPage, PagInfo, SegmentWord, SegmentStandard, PageInfo, SegmentMode, DaqEntry, DaqListMode, FirstPid, DaqClock, DaqInfo, DaqResolution, EventInfo, Version, Error, ErrorCount, ErrorBlockSize}

-- the number of an error code
abbrev pub number_of : Code → ℕ
number_of CmdSynch = 0x00
number_of CmdBusy = 0x10
number_of DaqActive = 0x11
number_of PgmActive = 0x12
number_of CmdUnknown = 0x20
number_of CmdSyntax = 0x21
number_of OutOfRange = 0x22
number_of WriteProtected = 0x23
number_of AccessDenied = 0x24
number_of AccessLocked = 0x25
number_of PageNotValid = 0x26
number_of ModeNotValid = 0x27
number_of SegmentNotValid = 0x28
number_of Sequence = 0x29
number_of DaqConfig = 0x2A
number_of MemoryOverflow = 0x30
number_of Generic = 0x31
number_of Verify = 0x32

-- The bytes of a reply. 0xFF is the packet identifier RES of a positive response, 0xFE is ERR. Zeros without a name are
-- reserved bytes, or values that are always 0 here.
abbrev pub layout : Order → Reply → List ℕ
-- a positive response with nothing more
layout order Done = 0xFF ∷ []
-- CONNECT: RESOURCE (CAL/PAG and DAQ), COMM_MODE_BASIC, MAX_CTO, MAX_DTO, versions of protocol and transport layer
layout order (Connect basic max_cto max_dto) = 0xFF ∷ 0x05 ∷ basic ∷ max_cto ∷ (word_bytes order max_dto ++ 0x01 ∷ 0x01 ∷ [])
-- GET_STATUS: session status, resource protection, reserved, session configuration id
layout order (Status status) = 0xFF ∷ status ∷ 0 ∷ 0 ∷ 0 ∷ 0 ∷ []
-- GET_COMM_MODE_INFO: reserved, COMM_MODE_OPTIONAL (master block mode), reserved, MAX_BS, MIN_ST, QUEUE_SIZE,
-- version of the driver
layout order CommMode = 0xFF ∷ 0 ∷ 0x01 ∷ 0 ∷ 0x08 ∷ 0 ∷ 0 ∷ 0x10 ∷ []
-- GET_ID: mode, reserved word, length
layout order (Id size) = 0xFF ∷ 0 ∷ 0 ∷ 0 ∷ double_bytes order size
-- UPLOAD and SHORT_UPLOAD: the bytes
layout order (Bytes bytes) = 0xFF ∷ bytes.items
-- BUILD_CHECKSUM: type, reserved word, checksum
layout order (Checksum kind sum) = 0xFF ∷ kind ∷ 0 ∷ 0 ∷ double_bytes order sum
-- GET_CAL_PAGE: two reserved bytes, page
layout order (CalPage page) = 0xFF ∷ 0 ∷ 0 ∷ page ∷ []
-- GET_PAG_PROCESSOR_INFO: number of segments, PAG_PROPERTIES (FREEZE is supported)
layout order (PagInfo segments) = 0xFF ∷ segments ∷ 0x01 ∷ []
-- GET_SEGMENT_INFO, basic address or length: three reserved bytes, the number
layout order (SegmentWord number) = 0xFF ∷ 0 ∷ 0 ∷ 0 ∷ double_bytes order number
-- GET_SEGMENT_INFO, standard information: number of pages, ADDRESS_EXTENSION, MAX_MAPPING, compression, encryption
layout order (SegmentStandard pages) = 0xFF ∷ pages ∷ 0 ∷ 0 ∷ 0 ∷ 0 ∷ []
-- GET_PAGE_INFO: PAGE_PROPERTIES, INIT_SEGMENT
layout order (PageInfo properties init) = 0xFF ∷ properties ∷ init ∷ []
-- GET_SEGMENT_MODE: reserved, mode
layout order (SegmentMode mode) = 0xFF ∷ 0 ∷ mode ∷ []
-- READ_DAQ: BIT_OFFSET (0xFF: none), size, address extension, address
layout order (DaqEntry size extension address) = 0xFF ∷ 0xFF ∷ size ∷ extension ∷ double_bytes order address
-- GET_DAQ_LIST_MODE: mode, reserved word, event channel, prescaler, priority
layout order (DaqListMode mode event prescaler priority) = 0xFF ∷ mode ∷ 0 ∷ 0 ∷ (word_bytes order event ++ prescaler ∷ priority ∷ [])
-- START_STOP_DAQ_LIST: FIRST_PID
layout order (FirstPid pid) = 0xFF ∷ pid ∷ []
-- GET_DAQ_CLOCK: three reserved bytes, the time
layout order (DaqClock time) = 0xFF ∷ 0 ∷ 0 ∷ 0 ∷ double_bytes order time
-- GET_DAQ_PROCESSOR_INFO: DAQ_PROPERTIES, MAX_DAQ, MAX_EVENT_CHANNEL, MIN_DAQ, DAQ_KEY_BYTE
layout order (DaqInfo properties lists events) = 0xFF ∷ properties ∷ (word_bytes order lists ++ word_bytes order events ++ 0 ∷ 0 ∷ [])
-- GET_DAQ_RESOLUTION_INFO: granularity and greatest size of an ODT entry for DAQ, the same for STIM, TIMESTAMP_MODE and
-- TIMESTAMP_TICKS
layout order (DaqResolution greatest mode ticks) = 0xFF ∷ 0x01 ∷ greatest ∷ 0x01 ∷ 0 ∷ mode ∷ word_bytes order ticks
-- GET_DAQ_EVENT_INFO: DAQ_EVENT_PROPERTIES (DAQ), MAX_DAQ_LIST, length of the name, cycle, unit, priority
layout order (EventInfo lists name cycle unit priority) = 0xFF ∷ 0x04 ∷ lists ∷ name ∷ cycle ∷ unit ∷ priority ∷ []
-- GET_VERSION: reserved, the protocol layer's major and minor version, the transport layer's
layout order Version = 0xFF ∷ 0 ∷ 1 ∷ 4 ∷ 1 ∷ 4 ∷ []
-- an error packet
layout order (Error code) = 0xFE ∷ number_of code ∷ []
-- the error packet of DOWNLOAD_NEXT out of sequence, with the expected number of data elements
layout order (ErrorCount code count) = 0xFE ∷ number_of code ∷ count ∷ []
-- the error packet of BUILD_CHECKSUM over too many bytes: reserved word, the greatest number of bytes
layout order (ErrorBlockSize code size) = 0xFE ∷ number_of code ∷ 0 ∷ 0 ∷ double_bytes order size

-- how many data bytes a reply has: those that were read, in a reply to UPLOAD or SHORT_UPLOAD
abbrev pub data_length : Reply → ℕ
data_length (Bytes bytes) = length bytes.items
data_length _ = 0

-- the reply has at most 254 data bytes, so that one packet holds it
abbrev pub Fits : Reply → Type 0
Fits reply = data_length reply ≤ 254

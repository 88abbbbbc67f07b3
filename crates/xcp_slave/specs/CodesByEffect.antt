-- Requests that leave a part of the slave alone, by the codes of their packets.
use Rattle.std.specs.Prelude.{◌≡◌, ℕ, false, ◌==◌, List, [], ◌∷◌, slice_index}
use Rattle.std.specs.List.{list_any}
use Rattle.xcp_slave.specs.declared.request.Request.{Request}
use Rattle.xcp_slave.specs.declared.request.Request.TheVariants as requests

-- CONNECT, DISCONNECT
abbrev pub session_codes : List ℕ
session_codes = 0xFF ∷ 0xFE ∷ []

-- The codes of the commands that move the MTA: CONNECT, DISCONNECT, GET_ID, SET_MTA, UPLOAD, SHORT_UPLOAD,
-- BUILD_CHECKSUM, DOWNLOAD, DOWNLOAD_NEXT, DOWNLOAD_MAX, SHORT_DOWNLOAD, GET_DAQ_EVENT_INFO.
abbrev pub mta_codes : List ℕ
mta_codes = 0xFF ∷ 0xFE ∷ 0xFA ∷ 0xF6 ∷ 0xF5 ∷ 0xF4 ∷ 0xF3 ∷ 0xF0 ∷ 0xEF ∷ 0xEE ∷ 0xED ∷ 0xD7 ∷ []

-- The codes of the commands that change the DAQ lists or their pointer: DISCONNECT, CLEAR_DAQ_LIST, SET_DAQ_PTR,
-- WRITE_DAQ, SET_DAQ_LIST_MODE, START_STOP_DAQ_LIST, START_STOP_SYNCH, READ_DAQ, FREE_DAQ, ALLOC_DAQ, ALLOC_ODT,
-- ALLOC_ODT_ENTRY, WRITE_DAQ_MULTIPLE.
abbrev pub list_codes : List ℕ
list_codes = 0xFE ∷ 0xE3 ∷ 0xE2 ∷ 0xE1 ∷ 0xE0 ∷ 0xDE ∷ 0xDD ∷ 0xDB ∷ 0xD6 ∷ 0xD5 ∷ 0xD4 ∷ 0xD3 ∷ 0xC7 ∷ []

-- SET_REQUEST
abbrev pub store_codes : List ℕ
store_codes = 0xF9 ∷ []

-- SET_CAL_PAGE
abbrev pub switch_codes : List ℕ
switch_codes = 0xEB ∷ []

-- SET_SEGMENT_MODE
abbrev pub mode_codes : List ℕ
mode_codes = 0xE6 ∷ []

-- a packet with this first byte has none of these codes
abbrev pub IsNone : List ℕ → ℕ → Type 0
IsNone codes n = list_any (λ c. c == n) codes ≡ false

-- the request is no command packet of one of these codes
abbrev pub IsBeside : List ℕ → Request → Type 0
IsBeside codes (requests.Command packet) = IsNone codes (slice_index packet.items 0)
IsBeside codes _ = Unit {0}

-- nor an event
abbrev pub IsNoEvent : Request → Type 0
IsNoEvent (requests.Event channel signals) = ⊥
IsNoEvent _ = Unit {0}

-- nor signals
abbrev pub HandsNothing : Request → Type 0
HandsNothing (requests.Signals place bytes) = ⊥
HandsNothing q = IsNoEvent q

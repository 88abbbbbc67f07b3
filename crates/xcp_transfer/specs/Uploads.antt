-- The rows of the commands by which a tool reads.
use Rattle.std.specs.Prelude.{ℕ, ◌-◌, not, ◌||◌, [], ◌∷◌, length, Option, Some, None, nat_lt, ◌==◌, if◌then◌else◌}
use Rattle.xcp_packet.specs.declared.Reply.TheVariants.{Bytes, Checksum, Error, ErrorBlockSize}
use Rattle.xcp_packet.specs.declared.Reply.TheVariants as replies
use Rattle.xcp_packet.specs.declared.Code.TheVariants.{OutOfRange, AccessDenied}
use Rattle.xcp_memory.specs.Layout.{LayoutValue}
use Rattle.xcp_memory.specs.Checksum.{checksum_number}
use Rattle.xcp_memory.specs.ClassLimits.{limits_of}
use Rattle.xcp_transfer.specs.declared.mta.Mta.{Mta}
use Rattle.xcp_transfer.specs.declared.mta.Mta.TheVariants.{Memory, Text}
use Rattle.xcp_transfer.specs.declared.mta.TextId.{TextId}
use Rattle.xcp_transfer.specs.declared.mta.TextId.TheVariants.{Id, A2lName, A2lFile, Epk}
use Rattle.xcp_transfer.specs.TransferValue.{TransferValue, text_of}
use Rattle.xcp_transfer.specs.MtaAccess.{is_readable, bytes_at, moved, sum_refusal_at, sum_at}
use Rattle.xcp_packet.specs.Rows.{Row, refused}

-- UPLOAD of n bytes, which are as many packets as they fill, moves the MTA on by n.
-- (ASAM MCD-1 XCP, protocol layer, description of commands: UPLOAD; slave block transfer mode.)
abbrev pub upload_row : ℕ → TransferValue → Row TransferValue
upload_row n v = record {
  refusals = (n == 0, Error OutOfRange)
      ∷ (not (is_readable v.pages v.mta n), Error AccessDenied)
      ∷ [];
  reply = Some (Bytes (record { items = bytes_at v.pages v.mta n }));
  after = record v { mta = moved v.mta n; block = None };
}

-- SHORT_UPLOAD of n bytes at an address leaves the MTA behind them.
-- (ASAM MCD-1 XCP, protocol layer, description of commands: SHORT_UPLOAD.)
abbrev pub short_upload_row : ℕ → ℕ → ℕ → TransferValue → Row TransferValue
short_upload_row n extension address v = record {
  refusals = (n == 0 || nat_lt (v.pages.layout.max_cto - 1) n, Error OutOfRange)
      ∷ (not (extension == 0), Error OutOfRange)
      ∷ (not (is_readable v.pages (Memory address) n), Error AccessDenied)
      ∷ [];
  reply = Some (Bytes (record { items = bytes_at v.pages (Memory address) n }));
  after = record v { mta = moved (Memory address) n; block = None };
}

-- how many bytes BUILD_CHECKSUM sums up at most in one call
abbrev pub greatest_sum : LayoutValue → ℕ
greatest_sum l = (limits_of l.class).checksum

-- BUILD_CHECKSUM of `size` bytes at an address moves the MTA on by as many. Where they are more than it sums up in one call, the
-- error packet tells how many it does.
-- (ASAM MCD-1 XCP, protocol layer, description of commands: BUILD_CHECKSUM.)
abbrev pub build_checksum_row : ℕ → TransferValue → Row TransferValue
build_checksum_row size v = record {
  refusals = (nat_lt (greatest_sum v.pages.layout) size, ErrorBlockSize OutOfRange (greatest_sum v.pages.layout))
      ∷ refused (sum_refusal_at v.pages v.mta size);
  reply = Some (Checksum (checksum_number v.pages.layout.checksum) (sum_at v.pages v.mta size));
  after = record v { mta = moved v.mta size; block = None };
}

-- a text that has bytes
abbrev pub with_bytes : LayoutValue → TextId → Option TextId
with_bytes l id = if length (text_of l id) == 0 then None else Some id

-- The text that each kind of GET_ID asks for, where there is one: 0, the identification; 1, the A2L file's name without its
-- path; 4, the A2L file itself, to upload; 5, what identifies it, its EPK.
-- (ASAM MCD-1 XCP, protocol layer, description of commands: GET_ID, identification types.)
abbrev pub text_of_kind : LayoutValue → ℕ → Option TextId
text_of_kind l kind =
    if kind == 0 then Some Id
    else (if kind == 1 then with_bytes l A2lName
    else (if kind == 4 then with_bytes l A2lFile
    else (if kind == 5 then with_bytes l Epk
    else None)))

-- how long it is
abbrev pub text_length : LayoutValue → Option TextId → ℕ
text_length l None = 0
text_length l (Some id) = length (text_of l id)

-- the MTA at its first byte, or where it was if there is no such text
abbrev pub text_start : Mta → Option TextId → Mta
text_start mta None = mta
text_start mta (Some id) = Text id 0

-- GET_ID tells how long the text of this kind is, and leaves the MTA at its first byte. Where there is no such text it tells
-- length 0.
-- (ASAM MCD-1 XCP, protocol layer, description of commands: GET_ID.)
abbrev pub get_id_row : ℕ → TransferValue → Row TransferValue
get_id_row kind v = record {
  refusals = [];
  reply = Some (replies.Id (text_length v.pages.layout (text_of_kind v.pages.layout kind)));
  after = record v { mta = text_start v.mta (text_of_kind v.pages.layout kind); block = None };
}

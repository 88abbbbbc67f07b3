-- Laws of the transfers: statements alone. Each is the contract of a public function of src/laws.rt.
use Rattle.std.specs.Prelude.{◌≡◌, ◌↔◌, ◌<◌, ℕ, true, List, ◌++◌, length, take, Some, None}
use Rattle.xcp_packet.specs.declared.Reply.{Reply}
use Rattle.xcp_packet.specs.declared.Reply.TheVariants.{Done}
use Rattle.xcp_packet.specs.ReplyPacket.{data_length}
use Rattle.xcp_memory.specs.Layout.{IsLayout}
use Rattle.xcp_memory.specs.Memory.{Writes}
use Rattle.xcp_memory.specs.Pages.{PagesValue, IsPages}
use Rattle.xcp_transfer.specs.declared.mta.Mta.{Mta}
use Rattle.xcp_transfer.specs.TransferValue.{TransferValue, BlockValue, IsTransfer}
use Rattle.xcp_transfer.specs.MtaAccess.{is_readable, bytes_at, write_refusal_at, written_at}
use Rattle.xcp_transfer.specs.MtaRelations.{ReadsAt, WritesAt}
use Rattle.xcp_packet.specs.Rows.{Row, first_holding}
use Rattle.xcp_transfer.specs.Uploads.{short_upload_row}
use Rattle.xcp_transfer.specs.Downloads.{download_next_row}

-- a value that a slave can have: layout, pages and transfers are within their limits
pub record IsLawful (v : TransferValue) : Type 0 where
  pub layout : IsLayout v.pages.layout
  pub pages : IsPages v.pages
  pub transfer : IsTransfer v

-- what the rows read at an MTA is the read, and there is one exactly where they find it readable
abbrev pub RowsRead : Type 0
RowsRead =
    (p : PagesValue) (mta : Mta) (n : ℕ) (bytes : List ℕ) → IsLayout p.layout → IsPages p
    → ReadsAt p mta n bytes ↔ ((is_readable p mta n ≡ true) × (bytes ≡ bytes_at p mta n))

-- where a write isn't refused, what the rows write at an MTA is the write
abbrev pub RowsWrite : Type 0
RowsWrite =
    (p q : PagesValue) (mta : Mta) (bytes : List ℕ) → IsLayout p.layout → IsPages p → write_refusal_at p mta (length bytes) ≡ None
    → WritesAt p mta bytes q ↔ (q ≡ written_at p mta bytes)

-- the last packet of a block writes all of it, from the block's address on
abbrev pub BlockIsWrittenWhole : Type 0
BlockIsWrittenWhole =
    (v : TransferValue) (b : BlockValue) (remaining : ℕ) (bytes : List ℕ) → IsLawful v → v.block ≡ Some b
    → first_holding (download_next_row remaining bytes v).refusals ≡ None
    → (download_next_row remaining bytes v).reply ≡ Some Done
    → Writes v.pages b.address (b.bytes ++ take remaining bytes) (download_next_row remaining bytes v).after.pages

-- until then nothing of it is written
abbrev pub BlockIsWrittenLast : Type 0
BlockIsWrittenLast =
    (v : TransferValue) (remaining : ℕ) (bytes : List ℕ)
    → (download_next_row remaining bytes v).reply ≡ None
    → (download_next_row remaining bytes v).after.pages ≡ v.pages

-- the row's reply has fewer than MAX_CTO data bytes, so that one packet holds it
abbrev pub IsWithinPacket : TransferValue → Row TransferValue → Type 0
IsWithinPacket v r = (reply : Reply) → first_holding r.refusals ≡ None → r.reply ≡ Some reply → data_length reply < v.pages.layout.max_cto

-- so it is with what SHORT_UPLOAD reads
abbrev pub ShortUploadIsWithinPacket : Type 0
ShortUploadIsWithinPacket = (v : TransferValue) (n extension address : ℕ) → IsLawful v → IsWithinPacket v (short_upload_row n extension address v)

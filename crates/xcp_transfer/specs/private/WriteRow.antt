-- What the rows that write have in common.
use Rattle.std.specs.Prelude.{ℕ, List, take, Some}
use Rattle.xcp_packet.specs.declared.Reply.TheVariants.{Done}
use Rattle.xcp_transfer.specs.declared.mta.Mta.{Mta}
use Rattle.xcp_transfer.specs.TransferValue.{TransferValue}
use Rattle.xcp_transfer.specs.MtaAccess.{write_refusal_at}
use Rattle.xcp_packet.specs.Rows.{Row, refused}
use Rattle.xcp_transfer.specs.Downloads.{downloaded}

-- A write of the first n of these bytes at an MTA: why it is refused, or what it does.
abbrev pub write_row : Mta → ℕ → List ℕ → TransferValue → Row TransferValue
write_row mta n bytes v = record {
  refusals = refused (write_refusal_at v.pages mta n);
  reply = Some Done;
  after = downloaded v mta (take n bytes);
}

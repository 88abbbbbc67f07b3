-- A block under way: DOWNLOAD_NEXT.
use Rattle.std.proofs.Common.{◌≡◌, ℕ, ◌≤◌, Bool, true, false, not, cond, List, [], ◌∷◌, ◌++◌, length, take, min, Option, Some, None, refl, sym, ap, subst, arith, nat_le, nat_lt}
use Rattle.std.specs.Prelude.{◌==◌}
use Rattle.std.proofs.lemmas.Bool.Decides.{nat_tests}
use Rattle.xcp_packet.specs.declared.Reply.TheVariants.{Done, Error, ErrorCount}
use Rattle.xcp_packet.specs.declared.Code.TheVariants.{CmdSyntax, Sequence}
use Rattle.xcp_memory.specs.AccessLaws.{ToolIsWritten}
use Rattle.xcp_memory.specs.Memory.{Writes}
use Rattle.xcp_memory.specs.ComputedAccess.{pages_written}
use Rattle.xcp_transfer.specs.TransferValue.{TransferValue, BlockValue, IsBlock, IsUnderWay}
use Rattle.xcp_packet.specs.Rows.{first_holding}
use Rattle.xcp_transfer.specs.Downloads.{next_row, packet_room, download_next_row}
use Rattle.xcp_transfer.specs.Laws.{IsLawful}
use Rattle.xcp_transfer.proofs.WholeBlockLemmas.{whole}
use Rattle.xcp_transfer.proofs.RowLemmas.{none_first, none_rest, chosen}

expected_is : (remaining expected : ℕ) → not (remaining == expected) ≡ false → remaining ≡ expected
expected_is remaining expected h = grind (arith, nat_tests, h)

enough : (have remaining room : ℕ) → nat_lt have (min remaining room) ≡ false → nat_le remaining room ≡ true → remaining ≤ have
enough have remaining room h k = grind (arith, nat_tests, h, k)

is_last : (c : Bool) → cond c (Some Done) None ≡ Some Done → c ≡ true
is_last true h = refl
is_last false h = absurd (cc)

whole_by : ToolIsWritten → (v : TransferValue) (b : BlockValue) (remaining : ℕ) (bytes : List ℕ) → IsLawful v → IsBlock v.pages b → first_holding (next_row (Some b) remaining bytes v).refusals ≡ None → (next_row (Some b) remaining bytes v).reply ≡ Some Done → Writes v.pages b.address (b.bytes ++ take remaining bytes) (next_row (Some b) remaining bytes v).after.pages
whole_by law v b remaining bytes l i h k =
    let r = packet_room v.pages.layout in
    let c = is_last (nat_le remaining r) k in
    let e = expected_is remaining b.expected (none_first (not (remaining == b.expected)) (ErrorCount Sequence b.expected) ((nat_lt (length bytes) (min remaining r), Error CmdSyntax) ∷ []) h) in
    let s = none_first (nat_lt (length bytes) (min remaining r)) (Error CmdSyntax) [] (none_rest (not (remaining == b.expected)) (ErrorCount Sequence b.expected) ((nat_lt (length bytes) (min remaining r), Error CmdSyntax) ∷ []) h) in
    let w = whole v.pages b remaining bytes i e (enough (length bytes) remaining r s c) in
    let done : (next_row (Some b) remaining bytes v).after.pages ≡ pages_written v.pages b.address (b.bytes ++ take remaining bytes) = ap (λ (t : TransferValue). t.pages) (chosen (nat_le remaining r) Done _ _ k) in
    (law v.pages (next_row (Some b) remaining bytes v).after.pages b.address (b.bytes ++ take remaining bytes) l.layout l.pages w).1 done

-- the last packet of a block, if it isn't refused, writes the whole block from its address on
pub written_whole : ToolIsWritten → (v : TransferValue) (b : BlockValue) (remaining : ℕ) (bytes : List ℕ) → IsLawful v → v.block ≡ Some b → first_holding (download_next_row remaining bytes v).refusals ≡ None → (download_next_row remaining bytes v).reply ≡ Some Done → Writes v.pages b.address (b.bytes ++ take remaining bytes) (download_next_row remaining bytes v).after.pages
written_whole law v b remaining bytes l e =
    let i : IsBlock v.pages b = subst (λ (o : Option BlockValue). IsUnderWay v.pages o) e l.transfer.block in
    subst
    (λ (o : Option BlockValue). first_holding (next_row o remaining bytes v).refusals ≡ None → (next_row o remaining bytes v).reply ≡ Some Done → Writes v.pages b.address (b.bytes ++ take remaining bytes) (next_row o remaining bytes v).after.pages)
    (sym e)
    (whole_by law v b remaining bytes l i)

kept : (c : Bool) (x y : TransferValue) → cond c (Some Done) None ≡ None → cond c x y ≡ y
kept true x y h = absurd (cc)
kept false x y h = refl

last_by : (o : Option BlockValue) (v : TransferValue) (remaining : ℕ) (bytes : List ℕ) → (next_row o remaining bytes v).reply ≡ None → (next_row o remaining bytes v).after.pages ≡ v.pages
last_by None v remaining bytes h = refl
last_by (Some b) v remaining bytes h = ap (λ (t : TransferValue). t.pages) (kept (nat_le remaining (packet_room v.pages.layout)) _ _ h)

-- a DOWNLOAD_NEXT that has no reply leaves the pages as they are
pub written_last : (v : TransferValue) (remaining : ℕ) (bytes : List ℕ) → (download_next_row remaining bytes v).reply ≡ None → (download_next_row remaining bytes v).after.pages ≡ v.pages
written_last v remaining bytes h = last_by v.block v remaining bytes h

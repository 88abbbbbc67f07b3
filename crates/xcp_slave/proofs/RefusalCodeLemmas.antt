-- The codes that the rows of commands refuse with.
use Rattle.std.proofs.Common.{◌≡◌, ℕ, ◌+◌, ◌-◌, Bool, true, false, not, ◌&&◌, ◌||◌, ◌==◌, nat_le, nat_lt, List, [], ◌∷◌, ◌++◌, length, drop, refl, subst, ap, ◌∙◌, arith, Option, Some, None, Result, Ok, Err}
use Rattle.std.specs.Prelude.{◌%◌, if◌then◌else◌}
use Rattle.std.specs.List.{list_any}
use Rattle.std.proofs.lemmas.Bool.Decides.{nat_tests}
use Rattle.arrayvec.specs.ArrayVec.{ArrayVec}
use Rattle.xcp_packet.specs.ReplyPacket.{layout, number_of}
use Rattle.xcp_packet.specs.declared.Order.{Order}
use Rattle.xcp_packet.specs.declared.Command.{Command}
use Rattle.xcp_packet.specs.declared.Command.TheVariants as commands
use Rattle.xcp_packet.specs.declared.Reply.{Reply}
use Rattle.xcp_packet.specs.declared.Reply.TheVariants as replies
use Rattle.xcp_packet.specs.declared.Code.{Code}
use Rattle.xcp_packet.specs.declared.Code.TheVariants.{CmdUnknown, CmdSyntax, OutOfRange, AccessDenied, WriteProtected, ModeNotValid, SegmentNotValid, PageNotValid, Sequence, DaqActive, DaqConfig, MemoryOverflow}
use Rattle.xcp_packet.specs.Rows.{first_holding, refused}
use Rattle.xcp_memory.specs.declared.ChecksumKind.{ChecksumKind}
use Rattle.xcp_memory.specs.Checksum.{unit, sum_refusal}
use Rattle.xcp_memory.specs.ClassLimits.{limits_of}
use Rattle.xcp_memory.specs.Layout.{LayoutValue, signals_extent}
use Rattle.xcp_memory.specs.Pages.{PagesValue, segment_at}
use Rattle.xcp_memory.specs.ComputedAccess.{segment_of, is_inside, write_refusal_by, lies_inside}
use Rattle.xcp_memory.specs.PageSwitch.{is_switch_mode, names_none, lacks_page, concerned}
use Rattle.xcp_memory.specs.PageCopy.{lacks_segment, content}
use Rattle.xcp_memory.specs.Freeze.{is_segment_mode}
use Rattle.xcp_transfer.specs.declared.Mta.{Mta}
use Rattle.xcp_transfer.specs.declared.Mta.TheVariants.{Nowhere, Memory, Text}
use Rattle.xcp_transfer.specs.TransferValue.{BlockValue, TransferValue}
use Rattle.xcp_transfer.specs.MtaAccess.{write_refusal_at, sum_refusal_at}
use Rattle.xcp_transfer.specs.Downloads.{next_row}
use Rattle.xcp_packet.specs.ByteOrder.{byte_at}
use Rattle.xcp_daq.specs.declared.DaqElement.{DaqElement}
use Rattle.xcp_daq.specs.declared.Allocation.TheVariants.{AllocDaq, AllocOdt, AllocOdtEntry}
use Rattle.xcp_daq.specs.DaqLists.{DaqValue, list_at, all_odts, all_entries, any_running, lacks_list, lacks_odt, lacks_entry, has_large_odt}
use Rattle.xcp_daq.specs.AllocationSequence.{may_follow}
use Rattle.xcp_daq.specs.Configuring.{has_no_pointer, pointed_list_runs, element_rows, unless, write_daqs, multiple, multiple_rows, refused_in, elements_in, write_daq_refusal, write_daq_after, is_mode}
use Rattle.xcp_slave.specs.SlaveValue.{SlaveValue, layout_of}
use Rattle.xcp_slave.specs.RefusalCodes.{codes_of, is_code_of}
use Rattle.xcp_slave.specs.RefusingAnswers.{is_refusal_code}
use Rattle.xcp_slave.specs.Rows.{row}

-- an error packet with one of the known codes; only out of sequence (29) it has a count, and only out of range (22) a block size
abbrev pub is_error_of : (ℕ → Bool) → Reply → Bool
is_error_of known (replies.Error code) = known (number_of code)
is_error_of known (replies.ErrorCount code count) = known (number_of code) && (number_of code == 0x29)
is_error_of known (replies.ErrorBlockSize code size) = known (number_of code) && (number_of code == 0x22)
is_error_of known _ = false

abbrev are_errors : (ℕ → Bool) → List (Bool × Reply) → Bool
are_errors known [] = true
are_errors known (t ∷ ts) = is_error_of known t.1 && are_errors known ts

abbrev are_codes : (ℕ → Bool) → List (Bool × Code) → Bool
are_codes known [] = true
are_codes known (t ∷ ts) = known (number_of t.1) && are_codes known ts

-- both where both are true
pub both-true : (a b : Bool) → (a && b) ≡ true → (a ≡ true) × (b ≡ true)
both-true true b h = (refl, h)
both-true false b h = (h, cc)

with-true : (a : Bool) → a ≡ true → (a && true) ≡ true
with-true true h = refl
with-true false h = h

one-of : (known : ℕ → Bool) (b : Bool) (x : Code) (rest : Option Code) → known (number_of x) ≡ true → are_errors known (refused rest) ≡ true → are_errors known (refused (if b then Some x else rest)) ≡ true
one-of known true x rest h k = with-true (known (number_of x)) h
one-of known false x rest h k = k

-- of these tests the first one that holds
first : (known : ℕ → Bool) (ts : List (Bool × Code)) → are_codes known ts ≡ true → are_errors known (refused (first_holding ts)) ≡ true
first known [] h = refl
first known (t ∷ ts) h =
    let b = both-true (known (number_of t.1)) (are_codes known ts) h in
    one-of known t.0 t.1 (first_holding ts) b.0 (first known ts b.1)

-- a write that is refused
write-by : (known : ℕ → Bool) → known 0x23 ≡ true → known 0x24 ≡ true → (o : Option ℕ) (p : PagesValue) (a n : ℕ) → are_errors known (refused (write_refusal_by o p a n)) ≡ true
write-by known h k (Some i) p a n = one-of known ((segment_at p i).xcp == 0) WriteProtected None h refl
write-by known h k None p a n = one-of known (is_inside a n (signals_extent p.layout)) WriteProtected (Some AccessDenied) h (with-true (known 0x24) k)

write-at : (known : ℕ → Bool) → known 0x23 ≡ true → known 0x24 ≡ true → (p : PagesValue) (m : Mta) (n : ℕ) → are_errors known (refused (write_refusal_at p m n)) ≡ true
write-at known h k p Nowhere n = with-true (known 0x24) k
write-at known h k p (Memory a) n = write-by known h k (segment_of p.layout a n) p a n
write-at known h k p (Text id place) n = with-true (known 0x23) h

-- a checksum that is refused
sum-by : (k : ChecksumKind) (lies : Bool) (n : ℕ) → are_errors (is_code_of (commands.BuildChecksum n)) (refused (sum_refusal k lies n)) ≡ true
sum-by k lies n = first (is_code_of (commands.BuildChecksum n)) ((n == 0, OutOfRange) ∷ (not (n % unit k == 0), OutOfRange) ∷ (not lies, AccessDenied) ∷ []) refl

sum-refused : (p : PagesValue) (m : Mta) (n : ℕ) → are_errors (is_code_of (commands.BuildChecksum n)) (refused (sum_refusal_at p m n)) ≡ true
sum-refused p Nowhere n = sum-by p.layout.checksum false n
sum-refused p (Memory a) n = sum-by p.layout.checksum (lies_inside p.layout a n) n
sum-refused p (Text id place) n = sum-by p.layout.checksum false n

next-errors : (o : Option BlockValue) (remaining : ℕ) (bytes : ArrayVec ℕ) (t : TransferValue) → are_errors (is_code_of (commands.DownloadNext remaining bytes)) (next_row o remaining bytes.items t).refusals ≡ true
next-errors None remaining bytes t = refl
next-errors (Some b) remaining bytes t = refl

unless-codes : (known : ℕ → Bool) (o : Option Code) (r : Result DaqValue Code) → are_errors known (refused o) ≡ true → are_codes known (refused_in r) ≡ true → are_codes known (refused_in (unless o r)) ≡ true
unless-codes known None r h k = k
unless-codes known (Some code) r h k = h

-- WRITE_DAQs in turn are refused with the codes of one
turn-codes : (bytes : ArrayVec ℕ) (l : LayoutValue) (es : List DaqElement) (v : DaqValue) → are_codes (is_code_of (commands.WriteDaqMultiple bytes)) (refused_in (write_daqs l es v)) ≡ true
turn-codes bytes l [] v = refl
turn-codes bytes l (e ∷ es) v =
    unless-codes (is_code_of (commands.WriteDaqMultiple bytes)) (write_daq_refusal l e.offset e.size e.extension e.address v) (write_daqs l es (write_daq_after e.size e.address v))
    (first (is_code_of (commands.WriteDaqMultiple bytes)) ((has_no_pointer v.pointer, DaqConfig) ∷ (pointed_list_runs v.pointer v, DaqActive) ∷ element_rows l e.offset e.size e.extension e.address) refl)
    (turn-codes bytes l es (write_daq_after e.size e.address v))

-- each refusal is an error packet with one of the command's codes
row-errors : (c : Command) (v : SlaveValue) → are_errors (is_code_of c) (row c v).refusals ≡ true
row-errors (commands.BuildChecksum size) v = sum-refused v.transfer.pages v.transfer.mta size
row-errors (commands.Download n bytes) v = write-at (is_code_of (commands.Download n bytes)) refl refl v.transfer.pages v.transfer.mta n
row-errors (commands.DownloadNext remaining bytes) v = next-errors v.transfer.block remaining bytes v.transfer
row-errors (commands.DownloadMax bytes) v = write-at (is_code_of (commands.DownloadMax bytes)) refl refl v.transfer.pages v.transfer.mta ((layout_of v).max_cto - 1)
row-errors (commands.ShortDownload n extension address bytes) v = write-at (is_code_of (commands.ShortDownload n extension address bytes)) refl refl v.transfer.pages (Memory address) n
row-errors (commands.ModifyBits s ma mx) v = write-at (is_code_of (commands.ModifyBits s ma mx)) refl refl v.transfer.pages v.transfer.mta 4
row-errors (commands.SetCalPage mode segment page) v =
    let p : PagesValue = v.transfer.pages in
    first (is_code_of (commands.SetCalPage mode segment page)) ((not (is_switch_mode mode), ModeNotValid) ∷ (names_none mode segment p, SegmentNotValid) ∷ (list_any (lacks_page page) (concerned mode segment p), PageNotValid) ∷ []) refl
row-errors (commands.GetCalPage mode segment) v =
    first (is_code_of (commands.GetCalPage mode segment)) ((not ((mode == 1) || (mode == 2)), ModeNotValid) ∷ (nat_le (length v.transfer.pages.segments) segment, SegmentNotValid) ∷ []) refl
row-errors (commands.GetPageInfo segment page) v =
    first (is_code_of (commands.GetPageInfo segment page)) ((lacks_segment segment v.transfer.pages, SegmentNotValid) ∷ (lacks_page page (segment_at v.transfer.pages segment), PageNotValid) ∷ []) refl
row-errors (commands.SetSegmentMode mode segment) v =
    first (is_code_of (commands.SetSegmentMode mode segment)) ((not (is_segment_mode mode), ModeNotValid) ∷ (lacks_segment segment v.transfer.pages, SegmentNotValid) ∷ []) refl
row-errors (commands.GetSegmentMode segment) v = first (is_code_of (commands.GetSegmentMode segment)) ((lacks_segment segment v.transfer.pages, SegmentNotValid) ∷ []) refl
row-errors (commands.CopyCalPage source source_page target target_page) v =
    let p : PagesValue = v.transfer.pages in
    first (is_code_of (commands.CopyCalPage source source_page target target_page)) ((lacks_segment source p, SegmentNotValid) ∷ (lacks_page source_page (segment_at p source), PageNotValid) ∷ (lacks_segment target p, SegmentNotValid) ∷ (lacks_page target_page (segment_at p target), PageNotValid) ∷ (target_page == 0, WriteProtected) ∷ (not (length (content p source source_page) == length (content p target target_page)), OutOfRange) ∷ []) refl
row-errors (commands.ClearDaqList list) v = first (is_code_of (commands.ClearDaqList list)) ((lacks_list v.daq list, OutOfRange) ∷ []) refl
row-errors (commands.SetDaqPtr list odt entry) v = first (is_code_of (commands.SetDaqPtr list odt entry)) ((lacks_list v.daq list, OutOfRange) ∷ (lacks_odt v.daq list odt, OutOfRange) ∷ (lacks_entry v.daq list odt entry, OutOfRange) ∷ []) refl
row-errors (commands.WriteDaq offset size extension address) v =
    first (is_code_of (commands.WriteDaq offset size extension address)) ((has_no_pointer v.daq.pointer, DaqConfig) ∷ (pointed_list_runs v.daq.pointer v.daq, DaqActive) ∷ element_rows (layout_of v) offset size extension address) refl
row-errors (commands.GetVersion bytes) v = first (is_code_of (commands.GetVersion bytes)) ((length bytes.items == 0, CmdSyntax) ∷ (not (byte_at 0 bytes.items == 0), CmdUnknown) ∷ []) refl
row-errors (commands.WriteDaqMultiple bytes) v =
    first (is_code_of (commands.WriteDaqMultiple bytes)) (multiple_rows bytes.items ++ refused_in (multiple (layout_of v) bytes.items v.daq)) (turn-codes bytes (layout_of v) (elements_in (layout_of v).order (byte_at 0 bytes.items) (drop 1 bytes.items)) v.daq)
row-errors (commands.SetDaqListMode mode list event prescaler priority) v =
    first (is_code_of (commands.SetDaqListMode mode list event prescaler priority)) ((not (is_mode (layout_of v) mode), ModeNotValid) ∷ (lacks_list v.daq list, OutOfRange) ∷ ((list_at v.daq list).running, DaqActive) ∷ (nat_le (length (layout_of v).events) event, OutOfRange) ∷ (prescaler == 0, OutOfRange) ∷ []) refl
row-errors (commands.GetDaqListMode list) v = first (is_code_of (commands.GetDaqListMode list)) ((lacks_list v.daq list, OutOfRange) ∷ []) refl
row-errors (commands.StartStopDaqList mode list) v =
    first (is_code_of (commands.StartStopDaqList mode list)) ((nat_lt 2 mode, ModeNotValid) ∷ (lacks_list v.daq list, OutOfRange) ∷ (not (mode == 0) && has_large_odt (layout_of v) (list_at v.daq list), DaqConfig) ∷ []) refl
row-errors (commands.StartStopSynch mode) v =
    first (is_code_of (commands.StartStopSynch mode)) ((nat_lt 2 mode, ModeNotValid) ∷ ((mode == 1) && list_any (λ x. x.selected && has_large_odt (layout_of v) x) v.daq.lists, DaqConfig) ∷ []) refl
row-errors commands.GetDaqClock v = refl
row-errors commands.ReadDaq v = first (is_code_of commands.ReadDaq) ((has_no_pointer v.daq.pointer, DaqConfig) ∷ []) refl
row-errors (commands.GetDaqEventInfo channel) v = first (is_code_of (commands.GetDaqEventInfo channel)) ((nat_le (length (layout_of v).events) channel, OutOfRange) ∷ []) refl
row-errors (commands.AllocDaq count) v =
    first (is_code_of (commands.AllocDaq count)) ((not (may_follow v.daq.last AllocDaq), Sequence) ∷ (any_running v.daq, DaqActive) ∷ (count == 0, OutOfRange) ∷ (nat_lt (limits_of v.daq.class).lists (length v.daq.lists + count), MemoryOverflow) ∷ []) refl
row-errors (commands.AllocOdt list count) v =
    first (is_code_of (commands.AllocOdt list count)) ((not (may_follow v.daq.last AllocOdt), Sequence) ∷ (lacks_list v.daq list, OutOfRange) ∷ (any_running v.daq, DaqActive) ∷ (count == 0, OutOfRange) ∷ (nat_lt (limits_of v.daq.class).odts (length (all_odts v.daq.lists) + count), MemoryOverflow) ∷ []) refl
row-errors (commands.AllocOdtEntry list odt count) v =
    first (is_code_of (commands.AllocOdtEntry list odt count)) ((not (may_follow v.daq.last AllocOdtEntry), Sequence) ∷ (lacks_list v.daq list, OutOfRange) ∷ (lacks_odt v.daq list odt, OutOfRange) ∷ ((list_at v.daq list).running, DaqActive) ∷ (count == 0, OutOfRange) ∷ (nat_lt (limits_of v.daq.class).entries (length (all_entries v.daq.lists) + count), MemoryOverflow) ∷ []) refl
row-errors _ v = refl

first-of : (known : ℕ → Bool) (b : Bool) (x : Reply) (rest : Option Reply) (e : Reply) → is_error_of known x ≡ true → (rest ≡ Some e → is_error_of known e ≡ true) → (if b then Some x else rest) ≡ Some e → is_error_of known e ≡ true
first-of known true x rest e a k h = let s : x ≡ e = cc in subst (λ (y : Reply). is_error_of known y ≡ true) s a
first-of known false x rest e a k h = k h

first-error : (known : ℕ → Bool) (ts : List (Bool × Reply)) (e : Reply) → are_errors known ts ≡ true → first_holding ts ≡ Some e → is_error_of known e ≡ true
first-error known [] e a h = cc
first-error known (t ∷ ts) e a h =
    let b = both-true (is_error_of known t.1) (are_errors known ts) a in
    first-of known t.0 t.1 (first_holding ts) e b.0 (λ k. first-error known ts e b.1 k) h

-- a command is refused with one of its codes
pub refusal-of : (c : Command) (v : SlaveValue) (e : Reply) → first_holding (row c v).refusals ≡ Some e → is_error_of (is_code_of c) e ≡ true
refusal-of c v e h = first-error (is_code_of c) (row c v).refusals e (row-errors c v) h

-- an error packet with a refusal's code
abbrev pub is_error : Reply → Bool
is_error e = is_error_of is_refusal_code e

-- the codes of a command are codes of refusals

abbrev are_refusals : List ℕ → Bool
are_refusals [] = true
are_refusals (c ∷ cs) = is_refusal_code c && are_refusals cs

codes-refuse : (c : Command) → are_refusals (codes_of c) ≡ true
codes-refuse (commands.SetRequest mode id) = refl
codes-refuse (commands.SetMta extension address) = refl
codes-refuse (commands.GetVersion bytes) = refl
codes-refuse (commands.Upload n) = refl
codes-refuse (commands.ShortUpload n extension address) = refl
codes-refuse (commands.BuildChecksum size) = refl
codes-refuse (commands.Download n bytes) = refl
codes-refuse (commands.DownloadNext remaining bytes) = refl
codes-refuse (commands.DownloadMax bytes) = refl
codes-refuse (commands.ShortDownload n extension address bytes) = refl
codes-refuse (commands.ModifyBits s ma mx) = refl
codes-refuse (commands.SetCalPage mode segment page) = refl
codes-refuse (commands.GetCalPage mode segment) = refl
codes-refuse (commands.GetSegmentInfo mode segment info mapping) = refl
codes-refuse (commands.GetPageInfo segment page) = refl
codes-refuse (commands.SetSegmentMode mode segment) = refl
codes-refuse (commands.GetSegmentMode segment) = refl
codes-refuse (commands.CopyCalPage source source_page target target_page) = refl
codes-refuse (commands.ClearDaqList list) = refl
codes-refuse (commands.SetDaqPtr list odt entry) = refl
codes-refuse (commands.WriteDaq offset size extension address) = refl
codes-refuse (commands.WriteDaqMultiple bytes) = refl
codes-refuse (commands.SetDaqListMode mode list event prescaler priority) = refl
codes-refuse (commands.GetDaqListMode list) = refl
codes-refuse (commands.StartStopDaqList mode list) = refl
codes-refuse (commands.StartStopSynch mode) = refl
codes-refuse commands.GetDaqClock = refl
codes-refuse commands.ReadDaq = refl
codes-refuse (commands.GetDaqEventInfo channel) = refl
codes-refuse (commands.AllocDaq count) = refl
codes-refuse (commands.AllocOdt list count) = refl
codes-refuse (commands.AllocOdtEntry list odt count) = refl
codes-refuse _ = refl

one-refuses : (b : Bool) (c n : ℕ) (rest : Bool) → (c == n) ≡ b → is_refusal_code c ≡ true → (rest ≡ true → is_refusal_code n ≡ true) → (b || rest) ≡ true → is_refusal_code n ≡ true
one-refuses true c n rest e h k o = let same : c ≡ n = grind (arith, nat_tests, e) in subst (λ m. is_refusal_code m ≡ true) same h
one-refuses false c n rest e h k o = k o

any-refuses : (codes : List ℕ) (n : ℕ) → are_refusals codes ≡ true → list_any (λ k. k == n) codes ≡ true → is_refusal_code n ≡ true
any-refuses [] n h k = cc
any-refuses (c ∷ cs) n h k =
    let b = both-true (is_refusal_code c) (are_refusals cs) h in
    one-refuses (c == n) c n (list_any (λ x. x == n) cs) refl b.0 (λ o. any-refuses cs n b.1 o) k

known-code : (c : Command) (n : ℕ) → is_code_of c n ≡ true → is_refusal_code n ≡ true
known-code c n h = any-refuses (codes_of c) n (codes-refuse c) h

error-known : (c : Command) (e : Reply) → is_error_of (is_code_of c) e ≡ true → is_error e ≡ true
error-known c (replies.Error code) h = known-code c (number_of code) h
error-known c (replies.ErrorCount code count) h =
    let b = both-true (is_code_of c (number_of code)) (number_of code == 0x29) h in
    ap (λ (k : Bool). k && (number_of code == 0x29)) (known-code c (number_of code) b.0) ∙ b.1
error-known c (replies.ErrorBlockSize code size) h =
    let b = both-true (is_code_of c (number_of code)) (number_of code == 0x22) h in
    ap (λ (k : Bool). k && (number_of code == 0x22)) (known-code c (number_of code) b.0) ∙ b.1
error-known c _ h = cc

-- a command is refused with a refusal's code
pub refusal-error : (c : Command) (v : SlaveValue) (e : Reply) → first_holding (row c v).refusals ≡ Some e → is_error e ≡ true
refusal-error c v e h = error-known c e (refusal-of c v e h)

-- the bytes begin with FE, as those of an error packet do
abbrev pub BeginsWithError : List ℕ → Type 0
BeginsWithError bytes = (rest : List ℕ) × (bytes ≡ 0xFE ∷ rest)

error-begins : (order : Order) (reply : Reply) → is_error reply ≡ true → BeginsWithError (layout order reply)
error-begins order (replies.Error code) h = (_, refl)
error-begins order (replies.ErrorCount code count) h = (_, refl)
error-begins order (replies.ErrorBlockSize code size) h = (_, refl)
error-begins order _ h = cc

-- and sent as an error packet
pub refusal-begins : (order : Order) (c : Command) (v : SlaveValue) (e : Reply) → first_holding (row c v).refusals ≡ Some e → BeginsWithError (layout order e)
refusal-begins order c v e h = error-begins order e (refusal-error c v e h)

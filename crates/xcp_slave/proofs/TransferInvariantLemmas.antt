-- What transfers go by after each command.
use Rattle.std.proofs.Common.{◌≡◌, ℕ, ◌+◌, ◌-◌, ◌*◌, ◌<◌, ◌≤◌, Bool, true, false, List, [], ◌∷◌, ◌++◌, length, map, take, min, get_or, slice_set, Option, Some, None, ap, ◌∙◌, refl, arith, length-append, nat_le, nat_lt}
use Rattle.std.specs.Prelude.{◌==◌, ◌%◌, not, ◌&&◌, ◌||◌, if◌then◌else◌}
use Rattle.std.specs.List.{list_any}
use Rattle.std.proofs.lemmas.Bool.Decides.{nat_tests}
use Rattle.std.proofs.lemmas.List.{length-set, length-take-le}
use Rattle.std.proofs.lemmas.List.Elements.{All-set}
use Rattle.xcp_packet.specs.declared.Code.{Code}
use Rattle.xcp_packet.specs.declared.Code.TheVariants.{OutOfRange, CmdSyntax, Sequence, AccessDenied, WriteProtected, ModeNotValid, SegmentNotValid, PageNotValid}
use Rattle.xcp_packet.specs.declared.Reply.TheVariants.{Error, ErrorCount, ErrorBlockSize}
use Rattle.xcp_memory.specs.Layout.{LayoutValue, SegmentValue, IsLayout}
use Rattle.xcp_memory.specs.Pages.{PagesValue, SegmentPages, IsPages, IsSegment, segment_at, xcp_page, no_segment}
use Rattle.xcp_memory.specs.ComputedAccess.{segment_of, place_in, written_by, segment_written, overwritten, write_refusal, write_refusal_by}
use Rattle.xcp_memory.specs.PageSwitch.{switch_refusal, pages_switched, segment_switched, is_switch_mode, is_of_all, names_none, lacks_page, concerned, gives_ecu, gives_xcp}
use Rattle.xcp_memory.specs.PageCopy.{copy_refusal, pages_copied, lacks_segment}
use Rattle.xcp_memory.specs.Freeze.{set_freeze_refusal, is_segment_mode, pages_with_mode, is_freeze, pages_frozen}
use Rattle.xcp_memory.specs.declared.checksum_kind.ChecksumKind.{ChecksumKind}
use Rattle.xcp_memory.specs.Checksum.{sum_refusal, unit}
use Rattle.xcp_memory.proofs.RangeLemmas.{located}
use Rattle.xcp_memory.proofs.PageLemmas.{length-overwritten}
use Rattle.xcp_memory.proofs.PageSwitchLemmas.{is_pages-set, is_pages-switched_all}
use Rattle.xcp_memory.proofs.PageCopyLemmas.{is_pages-copied}
use Rattle.xcp_memory.proofs.FreezeLemmas.{is_pages-frozen, same_writable}
use Rattle.xcp_transfer.specs.declared.mta.Mta.{Mta}
use Rattle.xcp_transfer.specs.declared.mta.Mta.TheVariants.{Nowhere, Memory, Text}
use Rattle.xcp_transfer.specs.declared.mta.TextId.{TextId}
use Rattle.xcp_transfer.specs.declared.mta.TextId.TheVariants.{Id, Name, A2lName, A2lFile, Epk}
use Rattle.xcp_transfer.specs.TransferValue.{TransferValue, BlockValue, text_of, IsText, IsMta, IsBlock, IsUnderWay}
use Rattle.xcp_transfer.specs.MtaAccess.{is_readable, sum_refusal_at, write_refusal_at, written_at, moved}
use Rattle.xcp_packet.specs.Rows.{first_holding, refused}
use Rattle.xcp_transfer.specs.Uploads.{upload_row, short_upload_row, build_checksum_row, greatest_sum, get_id_row, text_of_kind, text_start, with_bytes}
use Rattle.xcp_transfer.specs.Downloads.{download_row, download_next_row, next_row, download_max_row, short_download_row, modify_bits_row, packet_room, greatest_download, max_bs, block_begun, block_with, downloaded}
use Rattle.xcp_transfer.specs.Laws.{IsLawful}
use Rattle.xcp_slave.proofs.ListInvariantLemmas.{NoneHolds, none-holds, is_below, is_true}
use Rattle.xcp_memory.specs.declared.Class.{Class}
use Rattle.xcp_memory.specs.declared.Class.TheVariants.{Papers, Large}
use Rattle.xcp_memory.specs.Signals.{may_take}

-- a write that isn't refused has a segment, whose tool doesn't have page 0
pub outside : (b : Bool) → (if b then Some WriteProtected else Some AccessDenied) ≡ None → ⊥
outside true h = cc
outside false h = cc

-- where a write isn't refused as protected, the test for it is false
pub unprotected : (b : Bool) → (if b then Some WriteProtected else None) ≡ None → b ≡ false
unprotected true h = cc
unprotected false h = refl

-- where a refusal that is decided elsewhere doesn't hold, there is none
pub none-refused : (o : Option Code) → first_holding (refused o) ≡ None → o ≡ None
none-refused None h = refl
none-refused (Some code) h = cc

-- the same where it stands among tests of which none holds
pub none-behind : (o : Option Code) → NoneHolds (refused o) → o ≡ None
none-behind None h = refl
none-behind (Some code) h = absurd (let e : true ≡ false = h.0 in cc)

-- lawful pages, and an MTA for them
pub record IsGood (p : PagesValue) (m : Mta) : Type 0 where
  pub layout : IsLayout p.layout
  pub pages : IsPages p
  pub mta : IsMta p.layout m

-- lawful transfers have lawful pages, and an MTA for them
pub good : (t : TransferValue) → IsLawful t → IsGood t.pages t.mta
good t h = record { layout = h.layout; pages = h.pages; mta = h.transfer.mta }

-- with no block under way
pub lawful-of : (p : PagesValue) (m : Mta) → IsGood p m → IsLawful (record { pages = p; mta = m; block = None })
lawful-of p m h = record { layout = h.layout; pages = h.pages; transfer = record { mta = h.mta; block = tt } }

-- lawful transfers are lawful without their block too
pub without : (t : TransferValue) → IsLawful t → IsLawful (record t { block = None })
without t h = lawful-of t.pages t.mta (good t h)

-- a segment after a write of the tool's page
segment-kept : (segment : SegmentValue) (s : SegmentPages) (place : ℕ) (bytes : List ℕ) → IsSegment segment s → place + length bytes ≤ length (xcp_page s) → IsSegment segment (segment_written s place bytes)
segment-kept segment s place bytes h room =
    let page : List ℕ = overwritten (xcp_page s) place bytes in
    let same = length-set s.pages s.xcp page in
    let size = length-overwritten (xcp_page s) bytes place room ∙ h.sized s.xcp [] h.xcp in
    record { count = same ∙ h.count; sized = All-set (λ (p : List ℕ). length p ≡ length segment.bytes) s.pages s.xcp page size h.sized; ecu = omega (arith, same, h.ecu); xcp = omega (arith, same, h.xcp) }

-- the pages after a write
written-good : (p : PagesValue) (a : ℕ) (bytes : List ℕ) (m : Mta) (o : Option ℕ) → segment_of p.layout a (length bytes) ≡ o → IsGood p m → IsGood (written_by o p a bytes) m
written-good p a bytes m None e h = h
written-good p a bytes m (Some i) e h =
    let l = located p a (length bytes) i h.pages e in
    let place : ℕ = place_in p.layout i a in
    let s : SegmentPages = segment_at p i in
    let room : place + length bytes ≤ length (xcp_page s) = omega (arith, l.from, l.to, l.xcp_size) in
    let segment : SegmentValue = get_or p.layout.segments i no_segment in
    record { layout = h.layout; mta = h.mta; pages = is_pages-set p i (segment_written s place bytes) h.pages l.paged (segment-kept segment s place bytes (h.pages.each i l.paged) room) }

written-at-good : (p : PagesValue) (m : Mta) (bytes : List ℕ) (k : Mta) → IsGood p k → IsGood (written_at p m bytes) k
written-at-good p Nowhere bytes k h = h
written-at-good p (Memory a) bytes k h = written-good p a bytes k (segment_of p.layout a (length bytes)) refl h
written-at-good p (Text id place) bytes k h = h

-- an MTA at which a write isn't refused stays one
moved-written : (p : PagesValue) (m : Mta) (n k : ℕ) → write_refusal_at p m n ≡ None → IsMta p.layout (moved m k)
moved-written p Nowhere n k h = cc
moved-written p (Memory a) n k h = tt
moved-written p (Text id place) n k h = cc

with-mta : (p : PagesValue) (m k : Mta) → IsGood p m → IsMta p.layout k → IsGood p k
with-mta p m k h i = record { layout = h.layout; pages = h.pages; mta = i }

-- a write at an MTA at which a write of some length isn't refused leaves transfers lawful
pub downloaded-kept : (t : TransferValue) (m : Mta) (bytes : List ℕ) (n : ℕ) → IsLawful t → write_refusal_at t.pages m n ≡ None → IsLawful (downloaded t m bytes)
downloaded-kept t m bytes n h r =
    lawful-of (written_at t.pages m bytes) (moved m (length bytes)) (written-at-good t.pages m bytes (moved m (length bytes)) (with-mta t.pages t.mta (moved m (length bytes)) (good t h) (moved-written t.pages m n (length bytes) r)))

either-lawful : (b : Bool) (s t : TransferValue) → (b ≡ true → IsLawful s) → (b ≡ false → IsLawful t) → IsLawful (if b then s else t)
either-lawful true s t h k = h refl
either-lawful false s t h k = k refl

neither : (a b : Bool) → (a || b) ≡ false → (a ≡ false) × (b ≡ false)
neither true b h = cc
neither false b h = (refl, h)

-- the numbers of a block that begins
begun-sizes : (n room long : ℕ) → nat_lt (min (max_bs * room) 255) n ≡ false → nat_lt long (min n room) ≡ false → nat_le n room ≡ false → (room < n) × (room ≤ long) × (n ≤ 255)
begun-sizes n room long a b c = (grind (arith, nat_tests, a, b, c), grind (arith, nat_tests, a, b, c), grind (arith, nat_tests, a, b, c))

begun : (p : PagesValue) (m : Mta) (n room : ℕ) (bytes : List ℕ) → write_refusal_at p m n ≡ None → room < n → room ≤ length bytes → n ≤ 255 → IsUnderWay p (block_begun m (n - room) (take room bytes))
begun p Nowhere n room bytes r a b c = cc
begun p (Memory address) n room bytes r a b c =
    let long : length (take room bytes) ≡ room = length-take-le room bytes b in
    let same : length (take room bytes) + (n - room) ≡ n = omega arith in
    record { some = omega arith; most = omega arith; writable = ap (λ (k : ℕ). write_refusal p address k) same ∙ r }
begun p (Text id place) n room bytes r a b c = cc

-- a DOWNLOAD that isn't refused leaves transfers lawful
pub download : (n : ℕ) (bytes : List ℕ) (t : TransferValue) → IsLawful t → first_holding (download_row n bytes t).refusals ≡ None → IsLawful (download_row n bytes t).after
download n bytes t h r =
    let room : ℕ = packet_room t.pages.layout in
    let a = none-holds ((n == 0 || nat_lt (greatest_download t.pages.layout) n, Error OutOfRange) ∷ (nat_lt (length bytes) (min n room), Error CmdSyntax) ∷ refused (write_refusal_at t.pages t.mta n)) r in
    let w = none-behind (write_refusal_at t.pages t.mta n) a.1.1 in
    either-lawful (nat_le n room) _ _
    (λ e. downloaded-kept t t.mta (take n bytes) n h w)
    (λ e.
    (let s = begun-sizes n room (length bytes) (neither _ _ a.0).1 a.1.0 e in
    record { layout = h.layout; pages = h.pages; transfer = record { mta = h.transfer.mta; block = begun t.pages t.mta n room bytes w s.0 s.1 s.2 } }))

-- a DOWNLOAD_NEXT not refused and not the last tells the expected number, more than its packet, which is full
pub next-sizes : (remaining expected room long : ℕ) → not (remaining == expected) ≡ false → nat_lt long (min remaining room) ≡ false → nat_le remaining room ≡ false → (remaining ≡ expected) × (room < remaining) × (room ≤ long)
next-sizes remaining expected room long a b c = (grind (arith, nat_tests, a), grind (arith, nat_tests, c), grind (arith, nat_tests, b, c))

next-block : (p : PagesValue) (b : BlockValue) (room : ℕ) (bytes : List ℕ) → IsBlock p b → room < b.expected → room ≤ length bytes → IsBlock p (block_with b (take room bytes))
next-block p b room bytes h a c =
    let long : length (take room bytes) ≡ room = length-take-le room bytes c in
    let all : length (b.bytes ++ take room bytes) ≡ length b.bytes + length (take room bytes) = length-append b.bytes (take room bytes) in
    let same : length (b.bytes ++ take room bytes) + (b.expected - length (take room bytes)) ≡ length b.bytes + b.expected = omega arith in
    record { some = omega arith; most = omega (arith, h.most); writable = ap (λ (k : ℕ). write_refusal p b.address k) same ∙ h.writable }

next-by : (o : Option BlockValue) (remaining : ℕ) (bytes : List ℕ) (t : TransferValue) → IsLawful t → IsUnderWay t.pages o → first_holding (next_row o remaining bytes t).refusals ≡ None → IsLawful (next_row o remaining bytes t).after
next-by None remaining bytes t h u r = cc
next-by (Some b) remaining bytes t h u r =
    let room : ℕ = packet_room t.pages.layout in
    let a = none-holds ((not (remaining == b.expected), ErrorCount Sequence b.expected) ∷ (nat_lt (length bytes) (min remaining room), Error CmdSyntax) ∷ []) r in
    either-lawful (nat_le remaining room) _ _
    (λ e. downloaded-kept t (Memory b.address) (b.bytes ++ take remaining bytes) (length b.bytes + b.expected) h u.writable)
    (λ e.
    (let s = next-sizes remaining b.expected room (length bytes) a.0 a.1.0 e in
    record { layout = h.layout; pages = h.pages; transfer = record { mta = h.transfer.mta; block = next-block t.pages b room bytes u (omega (arith, s.0, s.1)) s.2 } }))

-- a DOWNLOAD_NEXT that isn't refused leaves transfers lawful
pub download-next : (remaining : ℕ) (bytes : List ℕ) (t : TransferValue) → IsLawful t → first_holding (download_next_row remaining bytes t).refusals ≡ None → IsLawful (download_next_row remaining bytes t).after
download-next remaining bytes t h r = next-by t.block remaining bytes t h h.transfer.block r

-- the same for DOWNLOAD_MAX
pub download-max : (bytes : List ℕ) (t : TransferValue) → IsLawful t → first_holding (download_max_row bytes t).refusals ≡ None → IsLawful (download_max_row bytes t).after
download-max bytes t h r =
    let n : ℕ = t.pages.layout.max_cto - 1 in
    let a = none-holds ((nat_lt (length bytes) n, Error CmdSyntax) ∷ refused (write_refusal_at t.pages t.mta n)) r in
    downloaded-kept t t.mta (take n bytes) n h (none-behind (write_refusal_at t.pages t.mta n) a.1)

-- the same for SHORT_DOWNLOAD
pub short-download : (n extension address : ℕ) (bytes : List ℕ) (t : TransferValue) → IsLawful t → first_holding (short_download_row n extension address bytes t).refusals ≡ None → IsLawful (short_download_row n extension address bytes t).after
short-download n extension address bytes t h r =
    lawful-of (written_at t.pages (Memory address) (take n bytes)) (Memory (address + length (take n bytes))) (written-at-good t.pages (Memory address) (take n bytes) (Memory (address + length (take n bytes))) (with-mta t.pages t.mta (Memory (address + length (take n bytes))) (good t h) tt))

-- what MODIFY_BITS does leaves transfers lawful
pub modify-bits : (s ma mx : ℕ) (t : TransferValue) → IsLawful t → IsLawful (modify_bits_row s ma mx t).after
modify-bits s ma mx t h = lawful-of (written_at t.pages t.mta _) t.mta (written-at-good t.pages t.mta _ t.mta (good t h))

moved-read : (p : PagesValue) (m : Mta) (n : ℕ) → IsMta p.layout m → is_readable p m n ≡ true → IsMta p.layout (moved m n)
moved-read p Nowhere n h r = tt
moved-read p (Memory a) n h r = tt
moved-read p (Text id place) n h r = (h.0, grind (arith, nat_tests, r))

-- an UPLOAD that isn't refused leaves transfers lawful
pub upload : (n : ℕ) (t : TransferValue) → IsLawful t → first_holding (upload_row n t).refusals ≡ None → IsLawful (upload_row n t).after
upload n t h r =
    let a = none-holds ((n == 0, Error OutOfRange) ∷ (not (is_readable t.pages t.mta n), Error AccessDenied) ∷ []) r in
    lawful-of t.pages (moved t.mta n) (with-mta t.pages t.mta (moved t.mta n) (good t h) (moved-read t.pages t.mta n h.transfer.mta (is_true _ a.1.0)))

-- what SHORT_UPLOAD does leaves transfers lawful
pub short-upload : (n extension address : ℕ) (t : TransferValue) → IsLawful t → IsLawful (short_upload_row n extension address t).after
short-upload n extension address t h = lawful-of t.pages (Memory (address + n)) (with-mta t.pages t.mta (Memory (address + n)) (good t h) tt)

none-unlying : (k : ChecksumKind) (n : ℕ) → sum_refusal k false n ≡ None → ⊥
none-unlying k n r = let a = none-holds ((n == 0, OutOfRange) ∷ (not (n % unit k == 0), OutOfRange) ∷ (true, AccessDenied) ∷ []) r in let e : true ≡ false = a.1.1.0 in cc

moved-summed : (p : PagesValue) (m : Mta) (n : ℕ) → sum_refusal_at p m n ≡ None → IsMta p.layout (moved m n)
moved-summed p Nowhere n r = tt
moved-summed p (Memory a) n r = tt
moved-summed p (Text id place) n r = absurd (none-unlying p.layout.checksum n r)

-- a BUILD_CHECKSUM that isn't refused leaves transfers lawful
pub build-checksum : (size : ℕ) (t : TransferValue) → IsLawful t → first_holding (build_checksum_row size t).refusals ≡ None → IsLawful (build_checksum_row size t).after
build-checksum size t h r =
    let a = none-holds ((nat_lt (greatest_sum t.pages.layout) size, ErrorBlockSize OutOfRange (greatest_sum t.pages.layout)) ∷ refused (sum_refusal_at t.pages t.mta size)) r in
    lawful-of t.pages (moved t.mta size) (with-mta t.pages t.mta (moved t.mta size) (good t h) (moved-summed t.pages t.mta size (none-behind (sum_refusal_at t.pages t.mta size) a.1)))

abbrev has-text : LayoutValue → Option TextId → Type 0
has-text l None = Unit {0}
has-text l (Some id) = IsText l id

has-bytes : (b : Bool) (l : LayoutValue) (id : TextId) → IsText l id → has-text l (if b then None else Some id)
has-bytes true l id h = tt
has-bytes false l id h = h

if-then : (b : Bool) (l : LayoutValue) (x y : Option TextId) → has-text l x → has-text l y → has-text l (if b then x else y)
if-then true l x y h k = h
if-then false l x y h k = k

-- there is the text of each kind
kind-text : (l : LayoutValue) (kind : ℕ) → has-text l (text_of_kind l kind)
kind-text l kind =
    if-then (kind == 0) l (Some Id) _ tt
    (if-then (kind == 1) l (with_bytes l A2lName) _ (has-bytes (length (text_of l A2lName) == 0) l A2lName tt)
    (if-then (kind == 4) l (with_bytes l A2lFile) _ (has-bytes (length (text_of l A2lFile) == 0) l A2lFile tt)
    (if-then (kind == 5) l (with_bytes l Epk) None (has-bytes (length (text_of l Epk) == 0) l Epk tt) tt)))

id-mta : (id : Option TextId) (l : LayoutValue) (m : Mta) → has-text l id → IsMta l m → IsMta l (text_start m id)
id-mta (Some id) l m t h = (t, omega arith)
id-mta None l m t h = h

-- what GET_ID does leaves transfers lawful
pub get-id : (kind : ℕ) (t : TransferValue) → IsLawful t → IsLawful (get_id_row kind t).after
get-id kind t h = lawful-of t.pages _ (with-mta t.pages t.mta _ (good t h) (id-mta (text_of_kind t.pages.layout kind) t.pages.layout t.mta (kind-text t.pages.layout kind) h.transfer.mta))

-- a new MTA in the memory, or none
pub set-mta : (address : ℕ) (t : TransferValue) → IsLawful t → IsLawful (record t { mta = Memory address })
set-mta address t h = record { layout = h.layout; pages = h.pages; transfer = record { mta = tt; block = h.transfer.block } }

-- with the MTA nowhere and no block under way transfers stay lawful
pub nowhere : (t : TransferValue) → IsLawful t → IsLawful (record t { mta = Nowhere; block = None })
nowhere t h = record { layout = h.layout; pages = h.pages; transfer = record { mta = tt; block = tt } }

-- with the MTA at the first byte of a name, of a channel that there is, and no block, transfers stay lawful
pub event-name : (channel : ℕ) (t : TransferValue) → IsLawful t → channel < length t.pages.layout.events → IsLawful (record t { mta = Text (Name channel) 0; block = None })
event-name channel t h k = record { layout = h.layout; pages = h.pages; transfer = record { mta = (k, omega arith); block = tt } }

-- the pages

-- other pages of the same layout
pub with-segments : (t : TransferValue) (segments : List SegmentPages) → IsLawful t → IsPages (record t.pages { segments = segments }) → IsLawful (record t { pages = record t.pages { segments = segments }; block = None })
with-segments t segments h p = record { layout = h.layout; pages = p; transfer = record { mta = h.transfer.mta; block = tt } }

either_below : (b : Bool) (x y n : ℕ) → x < n → y < n → (if b then x else y) < n
either_below true x y n h k = h
either_below false x y n h k = k

segment-switched : (mode page : ℕ) (segment : SegmentValue) (s : SegmentPages) → IsSegment segment s → page < length s.pages → IsSegment segment (segment_switched mode page s)
segment-switched mode page segment s h k = record {
  count = h.count;
  sized = h.sized;
  ecu = either_below (gives_ecu mode) page s.ecu (length s.pages) k h.ecu;
  xcp = either_below (gives_xcp mode) page s.xcp (length s.pages) k h.xcp;
}

one-of : (a b : Bool) → (a || b) ≡ false → a ≡ false
one-of true b h = cc
one-of false b h = refl

switched-by : (t : TransferValue) (mode segment page : ℕ) → IsLawful t → switch_refusal mode segment page t.pages ≡ None → (all : Bool) → is_of_all mode ≡ all → (not all && nat_le (length t.pages.segments) segment) ≡ false → list_any (lacks_page page) (if all then t.pages.segments else segment_at t.pages segment ∷ []) ≡ false → IsPages (record t.pages { segments = if all then map (segment_switched mode page) t.pages.segments else slice_set t.pages.segments segment (segment_switched mode page (segment_at t.pages segment)) })
switched-by t mode segment page h r true e names lacks = is_pages-switched_all t.pages mode segment page h.pages r e
switched-by t mode segment page h r false e names lacks =
    let s : SegmentPages = segment_at t.pages segment in
    let below : segment < length t.pages.segments = is_below _ _ names in
    let there : page < length s.pages = is_below _ _ (one-of (lacks_page page s) false lacks) in
    is_pages-set t.pages segment (segment_switched mode page s) h.pages below (segment-switched mode page _ s (h.pages.each segment below) there)

-- a SET_CAL_PAGE that isn't refused leaves transfers lawful
pub switched-kept : (t : TransferValue) (mode segment page : ℕ) → IsLawful t → switch_refusal mode segment page t.pages ≡ None → IsLawful (record t { pages = pages_switched mode segment page t.pages; block = None })
switched-kept t mode segment page h r =
    let a = none-holds ((not (is_switch_mode mode), ModeNotValid) ∷ (names_none mode segment t.pages, SegmentNotValid) ∷ (list_any (lacks_page page) (concerned mode segment t.pages), PageNotValid) ∷ []) r in
    with-segments t _ h (switched-by t mode segment page h r (is_of_all mode) refl a.1.0 a.1.1.0)

-- the same for SET_SEGMENT_MODE
pub mode-kept : (t : TransferValue) (mode segment : ℕ) → IsLawful t → set_freeze_refusal mode segment t.pages ≡ None → IsLawful (record t { pages = pages_with_mode mode segment t.pages; block = None })
mode-kept t mode segment h r =
    let a = none-holds ((not (is_segment_mode mode), ModeNotValid) ∷ (lacks_segment segment t.pages, SegmentNotValid) ∷ []) r in
    let below : segment < length t.pages.segments = is_below _ _ a.1.0 in
    let s = h.pages.each segment below in
    let lawful : IsSegment (get_or t.pages.layout.segments segment no_segment) (record (segment_at t.pages segment) { freeze = is_freeze mode }) = record { count = s.count; sized = s.sized; ecu = s.ecu; xcp = s.xcp } in
    with-segments t _ h (is_pages-set t.pages segment (record (segment_at t.pages segment) { freeze = is_freeze mode }) h.pages below lawful)

-- the same for COPY_CAL_PAGE
pub copied-kept : (t : TransferValue) (source source_page target target_page : ℕ) → IsLawful t → copy_refusal source source_page target target_page t.pages ≡ None → IsLawful (record t { pages = pages_copied source source_page target target_page t.pages; block = None })
copied-kept t source source_page target target_page h r = with-segments t _ h (is_pages-copied t.pages source source_page target target_page h.pages r)

-- what may be written may still be
block-kept : (p q : PagesValue) (o : Option BlockValue) → ((a n : ℕ) → write_refusal q a n ≡ write_refusal p a n) → IsUnderWay p o → IsUnderWay q o
block-kept p q None same h = tt
block-kept p q (Some b) same h = record { some = h.some; most = h.most; writable = same b.address (length b.bytes + b.expected) ∙ h.writable }

-- a store leaves transfers lawful, with the block under way
pub frozen-kept : (t : TransferValue) → IsLawful t → IsLawful (record t { pages = pages_frozen t.pages })
frozen-kept t h = record { layout = h.layout; pages = is_pages-frozen t.pages h.pages; transfer = record { mta = h.transfer.mta; block = block-kept t.pages (pages_frozen t.pages) t.block (same_writable t.pages) h.transfer.block } }

signals-writable : (p : PagesValue) (signals : List ℕ) (a n : ℕ) (o : Option ℕ) → write_refusal_by o (record p { signals = signals }) a n ≡ write_refusal_by o p a n
signals-writable p signals a n None = refl
signals-writable p signals a n (Some i) = refl

-- and so do other signals, of as many bytes as the layout says
pub signals-kept : (t : TransferValue) (signals : List ℕ) → IsLawful t → length signals ≡ t.pages.layout.signals_length → IsLawful (record t { pages = record t.pages { signals = signals } })
signals-kept t signals h e =
    let q : PagesValue = record t.pages { signals = signals } in
    record { layout = h.layout; pages = record { count = h.pages.count; each = h.pages.each; signals = e }; transfer = record { mta = h.transfer.mta; block = block-kept t.pages q t.block (λ a n. signals-writable t.pages signals a n (segment_of t.pages.layout a n)) h.transfer.block } }

-- how many bytes an event hands over is no more than there are
no-more : (class : Class) (n size : ℕ) → may_take class n size ≡ true → n ≤ size
no-more Papers n size h = grind (arith, nat_tests, h)
no-more Large n size h = grind (arith, nat_tests, h)

-- and so they fit from place 0 on
pub taken-fit : (class : Class) (n size : ℕ) → may_take class n size ≡ true → 0 + n ≤ size
taken-fit class n size h = let few = no-more class n size h in omega (arith, few)

-- signals that are handed over leave as many
pub part-kept : (t : TransferValue) (place : ℕ) (bytes : List ℕ) → IsLawful t → place + length bytes ≤ t.pages.layout.signals_length → IsLawful (record t { pages = record t.pages { signals = overwritten t.pages.signals place bytes } })
part-kept t place bytes h fits =
    let long : place + length bytes ≤ length t.pages.signals = (let e = h.pages.signals in omega (arith, fits, e)) in
    signals-kept t (overwritten t.pages.signals place bytes) h (length-overwritten t.pages.signals bytes place long ∙ h.pages.signals)

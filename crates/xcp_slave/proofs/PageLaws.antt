-- Laws of pages, blocks and store requests, step by step.
use Rattle.std.proofs.Common.{◌≡◌, ◌≢◌, ℕ, zero, suc, ◌+◌, ◌<◌, Bool, true, false, List, [], ◌∷◌, length, get_or, map, slice_set, Option, Some, None, Result, Ok, Err, ap, sym, ◌∙◌, refl, subst, arith, inl, inr, nat_le, nat_lt, slice_index}
use Rattle.std.specs.Prelude.{◌==◌, not, ◌&&◌, ◌||◌, if◌then◌else◌, ◌⊎◌, bit_and, IfSome}
use Rattle.std.proofs.lemmas.Bool.Decides.{nat_tests}
use Rattle.std.proofs.lemmas.List.{get_or-set_same, get_or-set_other, get_or-map}
use Rattle.arrayvec.specs.ArrayVec.{ArrayVec}
use Rattle.xcp_packet.specs.ByteOrder.{byte_at}
use Rattle.xcp_packet.specs.CommandSpelling.{spells}
use Rattle.xcp_packet.specs.Decoding.{Decodes}
use Rattle.xcp_packet.specs.declared.Order.{Order}
use Rattle.xcp_packet.specs.declared.Command.{Command}
use Rattle.xcp_packet.specs.declared.Command.TheVariants as commands
use Rattle.xcp_packet.specs.declared.Refuse.{Refuse}
use Rattle.xcp_packet.specs.declared.Refuse.TheVariants as refuses
use Rattle.xcp_packet.specs.declared.Reply.{Reply}
use Rattle.xcp_packet.specs.declared.Code.TheVariants.{OutOfRange, WriteProtected, SegmentNotValid, PageNotValid}
use Rattle.xcp_memory.specs.Freeze.{frozen_count, segment_frozen}
use Rattle.xcp_memory.specs.Pages.{PagesValue, SegmentPages, segment_at, no_pages, xcp_page}
use Rattle.xcp_memory.specs.ComputedAccess.{segment_of, write_refusal_by, Located, is_inside}
use Rattle.xcp_memory.specs.Layout.{signals_extent}
use Rattle.xcp_memory.specs.Signals.{takes_signals}
use Rattle.xcp_memory.specs.PageSwitch.{segment_switched, is_of_all, lacks_page}
use Rattle.xcp_memory.specs.PageCopy.{copy_refusal, lacks_segment, content, with_content}
use Rattle.xcp_memory.proofs.AreaLaws as areas
use Rattle.xcp_transfer.specs.TransferValue.{BlockValue, IsUnderWay, IsBlock}
use Rattle.xcp_packet.specs.Rows.{Meets}
use Rattle.xcp_slave.specs.declared.request.Request.{Request}
use Rattle.xcp_slave.specs.declared.request.Request.TheVariants as requests
use Rattle.xcp_slave.specs.Outcomes.{Answer}
use Rattle.xcp_slave.specs.declared.outcome.Outcome.TheVariants as answers
use Rattle.xcp_slave.specs.SlaveValue.{SlaveValue, layout_of, noblock}
use Rattle.xcp_slave.specs.Rows.{row}
use Rattle.xcp_slave.specs.Step.{Answers, Heeds, Drains, Samples, Fires, outbox_size, with_overload, with_signals, found_by, is_connect}
use Rattle.xcp_slave.specs.SlaveInvariant.{IsSlave}
use Rattle.xcp_slave.specs.AcceptedCommands.{Accepts, Concerns}
use Rattle.xcp_slave.proofs.StepLaws.{either, hands-part}
use Rattle.xcp_slave.proofs.ListInvariantLemmas.{none-holds, is_below, equal, differs}
use Rattle.xcp_slave.proofs.TransferInvariantLemmas.{none-refused, outside, unprotected}
use Rattle.xcp_slave.proofs.SlaveInvariantLaws.{either-test}
use Rattle.xcp_slave.proofs.AcceptedCommandLaws.{accepted}

unequal : (n m : ℕ) → n ≢ m → (n == m) ≡ false
unequal n m h = grind (arith, nat_tests, h)

-- a segment after a switch

switched-here : (p : PagesValue) (mode segment page i : ℕ) → i < length p.segments → (all : Bool) → (all ≡ true) ⊎ (i ≡ segment) → get_or (if all then map (segment_switched mode page) p.segments else slice_set p.segments segment (segment_switched mode page (segment_at p segment))) i no_pages ≡ segment_switched mode page (segment_at p i)
switched-here p mode segment page i below true c = get_or-map (segment_switched mode page) p.segments i no_pages no_pages below
switched-here p mode segment page i below false (inl e) = cc
switched-here p mode segment page i below false (inr e) =
    subst (λ (k : ℕ). get_or (slice_set p.segments k (segment_switched mode page (segment_at p k))) i no_pages ≡ segment_switched mode page (segment_at p i)) e (get_or-set_same p.segments i (segment_switched mode page (segment_at p i)) no_pages below)

switched-elsewhere : (p : PagesValue) (mode segment page i : ℕ) → (all : Bool) → all ≡ false → i ≢ segment → get_or (if all then map (segment_switched mode page) p.segments else slice_set p.segments segment (segment_switched mode page (segment_at p segment))) i no_pages ≡ segment_at p i
switched-elsewhere p mode segment page i true e h = cc
switched-elsewhere p mode segment page i false e h = get_or-set_other p.segments segment i (segment_switched mode page (segment_at p segment)) no_pages h

concerned-by : (mode segment i : ℕ) → Concerns mode segment i → (is_of_all mode ≡ true) ⊎ (i ≡ segment)
concerned-by mode segment i (inl e) = inl (equal (bit_and mode 0x80) 0x80 e)
concerned-by mode segment i (inr e) = inr e

at-concerned : (v w : SlaveValue) (mode segment page i : ℕ) (bytes : List ℕ) → Accepts v (commands.SetCalPage mode segment page) bytes w → i < length v.transfer.pages.segments → Concerns mode segment i → segment_at w.transfer.pages i ≡ segment_switched mode page (segment_at v.transfer.pages i)
at-concerned v w mode segment page i bytes h below c =
    ap (λ (x : SlaveValue). segment_at x.transfer.pages i) (accepted (commands.SetCalPage mode segment page) v bytes w h).after
    ∙ switched-here v.transfer.pages mode segment page i below (is_of_all mode) (concerned-by mode segment i c)

-- an accepted SET_CAL_PAGE with bit 0 of its mode gives the page to the controller in each segment that it concerns
pub ecu-given : (v w : SlaveValue) (mode segment page i : ℕ) (bytes : List ℕ) → Accepts v (commands.SetCalPage mode segment page) bytes w → i < length v.transfer.pages.segments → Concerns mode segment i → bit_and mode 0x01 ≡ 0x01 → (segment_at w.transfer.pages i).ecu ≡ page
ecu-given v w mode segment page i bytes h below c bit =
    ap (λ (s : SegmentPages). s.ecu) (at-concerned v w mode segment page i bytes h below c) ∙ ap (λ (b : Bool). if b then page else (segment_at v.transfer.pages i).ecu) (equal (bit_and mode 0x01) 0x01 bit)

-- an accepted SET_CAL_PAGE with bit 1 of its mode gives the page to the tool in each segment that it concerns
pub xcp-given : (v w : SlaveValue) (mode segment page i : ℕ) (bytes : List ℕ) → Accepts v (commands.SetCalPage mode segment page) bytes w → i < length v.transfer.pages.segments → Concerns mode segment i → bit_and mode 0x02 ≡ 0x02 → (segment_at w.transfer.pages i).xcp ≡ page
xcp-given v w mode segment page i bytes h below c bit =
    ap (λ (s : SegmentPages). s.xcp) (at-concerned v w mode segment page i bytes h below c) ∙ ap (λ (b : Bool). if b then page else (segment_at v.transfer.pages i).xcp) (equal (bit_and mode 0x02) 0x02 bit)

-- without bit 0 of the mode the controller keeps its page number in each segment that is concerned
pub ecu-kept : (v w : SlaveValue) (mode segment page i : ℕ) (bytes : List ℕ) → Accepts v (commands.SetCalPage mode segment page) bytes w → i < length v.transfer.pages.segments → Concerns mode segment i → bit_and mode 0x01 ≢ 0x01 → (segment_at w.transfer.pages i).ecu ≡ (segment_at v.transfer.pages i).ecu
ecu-kept v w mode segment page i bytes h below c bit =
    ap (λ (s : SegmentPages). s.ecu) (at-concerned v w mode segment page i bytes h below c) ∙ ap (λ (b : Bool). if b then page else (segment_at v.transfer.pages i).ecu) (unequal (bit_and mode 0x01) 0x01 bit)

-- without bit 1 of the mode the tool keeps its page number in each segment that is concerned
pub xcp-kept : (v w : SlaveValue) (mode segment page i : ℕ) (bytes : List ℕ) → Accepts v (commands.SetCalPage mode segment page) bytes w → i < length v.transfer.pages.segments → Concerns mode segment i → bit_and mode 0x02 ≢ 0x02 → (segment_at w.transfer.pages i).xcp ≡ (segment_at v.transfer.pages i).xcp
xcp-kept v w mode segment page i bytes h below c bit =
    ap (λ (s : SegmentPages). s.xcp) (at-concerned v w mode segment page i bytes h below c) ∙ ap (λ (b : Bool). if b then page else (segment_at v.transfer.pages i).xcp) (unequal (bit_and mode 0x02) 0x02 bit)

-- without bit 7 of its mode an accepted SET_CAL_PAGE changes no segment but the one that it names
pub others-kept : (v w : SlaveValue) (mode segment page i : ℕ) (bytes : List ℕ) → Accepts v (commands.SetCalPage mode segment page) bytes w → bit_and mode 0x80 ≢ 0x80 → i ≢ segment → segment_at w.transfer.pages i ≡ segment_at v.transfer.pages i
others-kept v w mode segment page i bytes h bit other =
    ap (λ (x : SlaveValue). segment_at x.transfer.pages i) (accepted (commands.SetCalPage mode segment page) v bytes w h).after
    ∙ switched-elsewhere v.transfer.pages mode segment page i (is_of_all mode) (unequal (bit_and mode 0x80) 0x80 bit) other

-- an accepted SET_CAL_PAGE changes no byte of the pages of a segment that it concerns
pub bytes-kept : (v w : SlaveValue) (mode segment page i : ℕ) (bytes : List ℕ) → Accepts v (commands.SetCalPage mode segment page) bytes w → i < length v.transfer.pages.segments → Concerns mode segment i → (segment_at w.transfer.pages i).pages ≡ (segment_at v.transfer.pages i).pages
bytes-kept v w mode segment page i bytes h below c = ap (λ (s : SegmentPages). s.pages) (at-concerned v w mode segment page i bytes h below c)

-- COPY_CAL_PAGE
pub copy-target : (v w : SlaveValue) (source source_page target target_page : ℕ) (bytes : List ℕ) → Accepts v (commands.CopyCalPage source source_page target target_page) bytes w → target_page ≢ 0
copy-target v w source source_page target target_page bytes h =
    let k = accepted (commands.CopyCalPage source source_page target target_page) v bytes w h in
    let p : PagesValue = v.transfer.pages in
    let a = none-holds ((lacks_segment source p, SegmentNotValid) ∷ (lacks_page source_page (segment_at p source), PageNotValid) ∷ (lacks_segment target p, SegmentNotValid) ∷ (lacks_page target_page (segment_at p target), PageNotValid) ∷ (target_page == 0, WriteProtected) ∷ (not (length (content p source source_page) == length (content p target target_page)), OutOfRange) ∷ []) (none-refused (copy_refusal source source_page target target_page p) k.allowed) in
    differs target_page 0 a.1.1.1.1.0

-- after an accepted COPY_CAL_PAGE the target page has the content that the source page had
pub copy-content : (v w : SlaveValue) (source source_page target target_page : ℕ) (bytes : List ℕ) → Accepts v (commands.CopyCalPage source source_page target target_page) bytes w → get_or (segment_at w.transfer.pages target).pages target_page [] ≡ get_or (segment_at v.transfer.pages source).pages source_page []
copy-content v w source source_page target target_page bytes h =
    let k = accepted (commands.CopyCalPage source source_page target target_page) v bytes w h in
    let p : PagesValue = v.transfer.pages in
    let a = none-holds ((lacks_segment source p, SegmentNotValid) ∷ (lacks_page source_page (segment_at p source), PageNotValid) ∷ (lacks_segment target p, SegmentNotValid) ∷ (lacks_page target_page (segment_at p target), PageNotValid) ∷ (target_page == 0, WriteProtected) ∷ (not (length (content p source source_page) == length (content p target target_page)), OutOfRange) ∷ []) (none-refused (copy_refusal source source_page target target_page p) k.allowed) in
    let new : SegmentPages = with_content (segment_at p target) target_page (content p source source_page) in
    ap (λ (x : SlaveValue). get_or (segment_at x.transfer.pages target).pages target_page []) k.after
    ∙ ap (λ (s : SegmentPages). get_or s.pages target_page []) (get_or-set_same p.segments target new no_pages (is_below _ _ a.1.1.0))
    ∙ get_or-set_same (segment_at p target).pages target_page (content p source source_page) [] (is_below _ _ a.1.1.1.0)

-- a segment gives way to one that is the same in this
pub set-keeps : {A : Type 0} (f : SegmentPages → A) (xs : List SegmentPages) (j i : ℕ) (s : SegmentPages) → f s ≡ f (get_or xs j no_pages) → f (get_or (slice_set xs j s) i no_pages) ≡ f (get_or xs i no_pages)
set-keeps f [] j i s h = refl
set-keeps f (x ∷ xs) zero zero s h = h
set-keeps f (x ∷ xs) zero (suc i) s h = refl
set-keeps f (x ∷ xs) (suc j) zero s h = refl
set-keeps f (x ∷ xs) (suc j) (suc i) s h = set-keeps f xs j i s h

-- the segments after a copy
copied : (v w : SlaveValue) (source source_page target target_page i : ℕ) (bytes : List ℕ) → Accepts v (commands.CopyCalPage source source_page target target_page) bytes w → segment_at w.transfer.pages i ≡ get_or (slice_set v.transfer.pages.segments target (with_content (segment_at v.transfer.pages target) target_page (content v.transfer.pages source source_page))) i no_pages
copied v w source source_page target target_page i bytes h = ap (λ (x : SlaveValue). segment_at x.transfer.pages i) (accepted (commands.CopyCalPage source source_page target target_page) v bytes w h).after

-- an accepted COPY_CAL_PAGE changes no page but its target
pub copy-others : (v w : SlaveValue) (source source_page target target_page i k : ℕ) (bytes : List ℕ) → Accepts v (commands.CopyCalPage source source_page target target_page) bytes w → (i ≢ target) ⊎ (k ≢ target_page) → get_or (segment_at w.transfer.pages i).pages k [] ≡ get_or (segment_at v.transfer.pages i).pages k []
copy-others v w source source_page target target_page i k bytes h (inl d) =
    ap (λ (s : SegmentPages). get_or s.pages k []) (copied v w source source_page target target_page i bytes h ∙ get_or-set_other v.transfer.pages.segments target i _ no_pages d)
copy-others v w source source_page target target_page i k bytes h (inr d) =
    let p : PagesValue = v.transfer.pages in
    ap (λ (s : SegmentPages). get_or s.pages k []) (copied v w source source_page target target_page i bytes h)
    ∙ set-keeps (λ (s : SegmentPages). get_or s.pages k []) p.segments target i (with_content (segment_at p target) target_page (content p source source_page)) (get_or-set_other (segment_at p target).pages target_page k (content p source source_page) [] d)

-- an accepted COPY_CAL_PAGE changes no page number of controller or tool
pub copy-sides : (v w : SlaveValue) (source source_page target target_page i : ℕ) (bytes : List ℕ) → Accepts v (commands.CopyCalPage source source_page target target_page) bytes w → ((segment_at w.transfer.pages i).ecu ≡ (segment_at v.transfer.pages i).ecu) × ((segment_at w.transfer.pages i).xcp ≡ (segment_at v.transfer.pages i).xcp)
copy-sides v w source source_page target target_page i bytes h =
    let p : PagesValue = v.transfer.pages in
    let led = copied v w source source_page target target_page i bytes h in
    let new : SegmentPages = with_content (segment_at p target) target_page (content p source source_page) in
    (ap (λ (s : SegmentPages). s.ecu) led ∙ set-keeps (λ (s : SegmentPages). s.ecu) p.segments target i new refl, ap (λ (s : SegmentPages). s.xcp) led ∙ set-keeps (λ (s : SegmentPages). s.xcp) p.segments target i new refl)

-- a store
frozen-at : (xs : List SegmentPages) (i : ℕ) → get_or (map segment_frozen xs) i no_pages ≡ segment_frozen (get_or xs i no_pages)
frozen-at [] i = refl
frozen-at (x ∷ xs) zero = refl
frozen-at (x ∷ xs) (suc i) = frozen-at xs i

store-led : (v w : SlaveValue) (n i : ℕ) → Answers v requests.FinishStore (answers.Stored n) w → segment_at w.transfer.pages i ≡ segment_frozen (segment_at v.transfer.pages i)
store-led v w n i h =
    either v.store _ _ _ h
    (λ k. either (v.connected && nat_le (outbox_size v) (length v.outbox)) _ _ _ k
    (λ m. let e = m.0 in cc)
    (λ m. ap (λ (x : SlaveValue). segment_at x.transfer.pages i) m.1 ∙ frozen-at v.transfer.pages.segments i))
    (λ k. let e = k.0 in cc)

-- a store gives the reference page of each segment in FREEZE mode the content of the page that the tool has
pub store-fills : (v w : SlaveValue) (n i : ℕ) → IsSlave v → Answers v requests.FinishStore (answers.Stored n) w → i < length v.transfer.pages.segments → (segment_at v.transfer.pages i).freeze ≡ true → get_or (segment_at w.transfer.pages i).pages 0 [] ≡ xcp_page (segment_at v.transfer.pages i)
store-fills v w n i g h below on =
    let s : SegmentPages = segment_at v.transfer.pages i in
    let some : 0 < length s.pages = (let x = (g.transfer.pages.each i below).xcp in omega arith) in
    ap (λ (y : SegmentPages). get_or y.pages 0 []) (store-led v w n i h ∙ ap (λ (b : Bool). if b then with_content s 0 (xcp_page s) else s) on)
    ∙ get_or-set_same s.pages 0 (xcp_page s) [] some

chosen-others : (s : SegmentPages) (b : Bool) (k : ℕ) → (b ≡ false) ⊎ (k ≢ 0) → get_or (if b then with_content s 0 (xcp_page s) else s).pages k [] ≡ get_or s.pages k []
chosen-others s true k (inl e) = cc
chosen-others s true k (inr d) = get_or-set_other s.pages 0 k (xcp_page s) [] d
chosen-others s false k h = refl

-- a store changes no page but the reference pages of the segments in FREEZE mode
pub store-others : (v w : SlaveValue) (n i k : ℕ) → Answers v requests.FinishStore (answers.Stored n) w → ((segment_at v.transfer.pages i).freeze ≡ false) ⊎ (k ≢ 0) → get_or (segment_at w.transfer.pages i).pages k [] ≡ get_or (segment_at v.transfer.pages i).pages k []
store-others v w n i k h d =
    ap (λ (y : SegmentPages). get_or y.pages k []) (store-led v w n i h)
    ∙ chosen-others (segment_at v.transfer.pages i) (segment_at v.transfer.pages i).freeze k d

chosen-sides : (s t : SegmentPages) (b : Bool) → t.ecu ≡ s.ecu → t.xcp ≡ s.xcp → ((if b then t else s).ecu ≡ s.ecu) × ((if b then t else s).xcp ≡ s.xcp)
chosen-sides s t true e x = (e, x)
chosen-sides s t false e x = (refl, refl)

-- a store changes no page number of controller or tool
pub store-sides : (v w : SlaveValue) (n i : ℕ) → Answers v requests.FinishStore (answers.Stored n) w → ((segment_at w.transfer.pages i).ecu ≡ (segment_at v.transfer.pages i).ecu) × ((segment_at w.transfer.pages i).xcp ≡ (segment_at v.transfer.pages i).xcp)
store-sides v w n i h =
    let s : SegmentPages = segment_at v.transfer.pages i in
    let same = chosen-sides s (with_content s 0 (xcp_page s)) s.freeze refl refl in
    (ap (λ (y : SegmentPages). y.ecu) (store-led v w n i h) ∙ same.0, ap (λ (y : SegmentPages). y.xcp) (store-led v w n i h) ∙ same.1)

-- A command packet other than DOWNLOAD and DOWNLOAD_NEXT leaves no block.
row-block : (order : Order) (c : Command) (p : List ℕ) (v : SlaveValue) → spells order c p → byte_at 0 p ≢ 0xEF → byte_at 0 p ≢ 0xF0 → (row c (found_by c v)).after.transfer.block ≡ None
row-block order (commands.DownloadNext remaining bytes) p v s a b = absurd (a s.0.first)
row-block order (commands.Download n bytes) p v s a b = absurd (b s.0.first)
row-block order _ p v s a b = refl

meets-block : (order : Order) (c : Command) (p : List ℕ) (v : SlaveValue) (x : Result (Option Reply) Reply) (w : SlaveValue) → spells order c p → byte_at 0 p ≢ 0xEF → byte_at 0 p ≢ 0xF0 → Meets (row c (found_by c v)) (noblock v) x w → w.transfer.block ≡ None
meets-block order c p v (Ok o) w s a b m = ap (λ (x : SlaveValue). x.transfer.block) m.2 ∙ row-block order c p v s a b
meets-block order c p v (Err e) w s a b m = ap (λ (x : SlaveValue). x.transfer.block) m.1

block-of : (v w : SlaveValue) → w ≡ noblock v → w.transfer.block ≡ None
block-of v w e = ap (λ (x : SlaveValue). x.transfer.block) e

-- b or c can't be false where b is true
pub connected-or : (b c : Bool) → b ≡ true → (b || c) ≡ false → ⊥
connected-or true c e h = cc
connected-or false c e h = cc

heeds-block : (v : SlaveValue) (p : List ℕ) (d : Result Command Refuse) (a : Answer) (w : SlaveValue) → v.connected ≡ true → p ≢ [] → byte_at 0 p ≢ 0xEF → byte_at 0 p ≢ 0xF0 → Decodes (layout_of v).order p d → Heeds v d a w → w.transfer.block ≡ None
heeds-block v p (Ok c) a w on some b e s k = either-test (v.connected || is_connect c) _ _ _ (λ t m. meets-block (layout_of v).order c p v m.0 w s b e m.1) (λ t m. absurd (connected-or v.connected (is_connect c) on t)) k
heeds-block v p (Err refuses.Empty) a w on some b e s k = absurd (some s)
heeds-block v p (Err refuses.Unknown) a w on some b e s k = either-test v.connected _ _ _ (λ t m. block-of v w m.1) (λ t m. cc) k
heeds-block v p (Err refuses.Short) a w on some b e s k = either-test v.connected _ _ _ (λ t m. block-of v w m.1) (λ t m. cc) k

-- while a tool is connected, a packet that isn't empty and is no DOWNLOAD or DOWNLOAD_NEXT leaves no block
pub gives-up : (v : SlaveValue) (p : ArrayVec ℕ) (a : Answer) (w : SlaveValue) → v.connected ≡ true → p.items ≢ [] → slice_index p.items 0 ≢ 0xEF → slice_index p.items 0 ≢ 0xF0 → Answers v (requests.Command p) a w → w.transfer.block ≡ None
gives-up v p a w on some b e k = heeds-block v p.items k.0 a w on some b e k.1 k.2

-- a store request stands until the store is done
row-store : (c : Command) (v : SlaveValue) → v.store ≡ true → (row c (found_by c v)).after.store ≡ true
row-store (commands.SetRequest mode id) v h = refl
row-store (commands.DownloadNext remaining bytes) v h = h
row-store _ v h = h

same-store : (v w : SlaveValue) → v.store ≡ true → w ≡ v → w.store ≡ true
same-store v w h e = ap (λ (x : SlaveValue). x.store) e ∙ h

meets-store : (c : Command) (v : SlaveValue) (x : Result (Option Reply) Reply) (w : SlaveValue) → v.store ≡ true → Meets (row c (found_by c v)) (noblock v) x w → w.store ≡ true
meets-store c v (Ok o) w h m = ap (λ (x : SlaveValue). x.store) m.2 ∙ row-store c v h
meets-store c v (Err e) w h m = ap (λ (x : SlaveValue). x.store) m.1 ∙ h

heeds-store : (v : SlaveValue) (d : Result Command Refuse) (a : Answer) (w : SlaveValue) → v.store ≡ true → Heeds v d a w → w.store ≡ true
heeds-store v (Ok c) a w h k = either (v.connected || is_connect c) _ _ _ k (λ m. meets-store c v m.0 w h m.1) (λ m. same-store v w h m.1)
heeds-store v (Err refuses.Empty) a w h k = same-store v w h k.1
heeds-store v (Err refuses.Unknown) a w h k = either v.connected _ _ _ k (λ m. ap (λ (x : SlaveValue). x.store) m.1 ∙ h) (λ m. same-store v w h m.1)
heeds-store v (Err refuses.Short) a w h k = either v.connected _ _ _ k (λ m. ap (λ (x : SlaveValue). x.store) m.1 ∙ h) (λ m. same-store v w h m.1)

drains-store : (o : List (ArrayVec ℕ)) (v : SlaveValue) (a : Answer) (w : SlaveValue) → v.store ≡ true → Drains o v a w → w.store ≡ true
drains-store [] v a w h k = same-store v w h k.1
drains-store (p ∷ rest) v a w h k = ap (λ (x : SlaveValue). x.store) k.1 ∙ h

samples-store : (channel : ℕ) (packets : List (ArrayVec ℕ)) (v : SlaveValue) (a : Answer) (w : SlaveValue) → v.store ≡ true → Samples channel packets v a w → w.store ≡ true
samples-store channel packets v a w h k = either (nat_le (length v.outbox + length (with_overload (outbox_size v) v.overloaded packets)) (outbox_size v)) _ _ _ k (λ o. ap (λ (x : SlaveValue). x.store) o.1 ∙ h) (λ o. ap (λ (x : SlaveValue). x.store) o.1 ∙ h)

fires-store : (channel : ℕ) (signals : List ℕ) (v : SlaveValue) (a : Answer) (w : SlaveValue) → v.store ≡ true → Fires channel signals v a w → w.store ≡ true
fires-store channel signals v a w h k =
    either (nat_lt channel (length (layout_of v).events)) _ _ _ k
    (λ m. either (takes_signals (layout_of v) (length signals)) _ _ _ m (samples-store channel _ (with_signals signals v) a w h) (λ n. same-store v w h n.1))
    (λ m. same-store v w h m.1)

StoreDone : SlaveValue → Answer → SlaveValue → Type 0
StoreDone v a w = (w.store ≡ true) ⊎ (a ≡ answers.Stored (frozen_count v.transfer.pages))

step-store : (v : SlaveValue) (q : Request) (a : Answer) (w : SlaveValue) → v.store ≡ true → Answers v q a w → StoreDone v a w
unfolding StoreDone
step-store v (requests.Command p) a w h k = inl (heeds-store v k.0 a w h k.2)
step-store v (requests.Event channel signals) a w h k = inl (fires-store channel signals.items v a w h k)
step-store v requests.Drain a w h k = inl (drains-store v.outbox v a w h k)
step-store v requests.FinishStore a w h k = either v.store _ _ _ k (λ m. either (v.connected && nat_le (outbox_size v) (length v.outbox)) _ _ _ m (λ n. inl (same-store v w h n.1)) (λ n. inr n.0)) (λ m. inl (same-store v w h m.1))
step-store v requests.Hangup a w h k = inl (ap (λ (x : SlaveValue). x.store) k.1 ∙ h)
step-store v (requests.Time time) a w h k = inl (ap (λ (x : SlaveValue). x.store) k.1 ∙ h)
step-store v (requests.Signals place bytes) a w h k = inl (hands-part (λ x. x.store) place bytes.items v a w refl k ∙ h)

done-by : (v : SlaveValue) (a : Answer) (w : SlaveValue) → StoreDone v a w → w.store ≡ false → a ≡ answers.Stored (frozen_count v.transfer.pages)
unfolding StoreDone
done-by v a w (inl e) f = absurd (let z : true ≡ false = sym e ∙ f in cc)
done-by v a w (inr e) f = e

-- a store request goes only in a step that answers that the store is done, and of how many segments
pub store-stands : (v : SlaveValue) (q : Request) (a : Answer) (w : SlaveValue) → v.store ≡ true → w.store ≡ false → Answers v q a w → a ≡ answers.Stored (frozen_count v.transfer.pages)
store-stands v q a w h f k = done-by v a w (step-store v q a w h k) f

-- the range of a block under way lies in a segment of which the tool has another page than page 0
writable-by : (p : PagesValue) (a n : ℕ) (o : Option ℕ) → segment_of p.layout a n ≡ o → write_refusal_by o p a n ≡ None → (i : ℕ) × Located p.layout a n i × ((segment_at p i).xcp ≢ 0)
writable-by p a n None e h = absurd (outside (is_inside a n (signals_extent p.layout)) h)
writable-by p a n (Some i) e h = (i, subst (λ (o : Option ℕ). IfSome o (Located p.layout a n)) e (areas.located p.layout a n (segment_of p.layout a n) refl), differs (segment_at p i).xcp 0 (unprotected ((segment_at p i).xcp == 0) h))

-- the whole range of a block under way lies in one segment, of which the tool has another page than page 0
pub block-writable : (v : SlaveValue) (b : BlockValue) → IsSlave v → v.transfer.block ≡ Some b → (i : ℕ) × Located (layout_of v) b.address (length b.bytes + b.expected) i × ((segment_at v.transfer.pages i).xcp ≢ 0)
block-writable v b h e =
    let k : IsBlock v.transfer.pages b = subst (λ (o : Option BlockValue). IsUnderWay v.transfer.pages o) e h.transfer.transfer.block in
    let n : ℕ = length b.bytes + b.expected in
    writable-by v.transfer.pages b.address n (segment_of (layout_of v) b.address n) refl k.writable

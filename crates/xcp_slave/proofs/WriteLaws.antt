-- What steps do to pages.
use Rattle.std.proofs.Common.{◌≡◌, ◌≢◌, ℕ, ◌-◌, ◌<◌, ◌≤◌, Bool, true, false, List, [], ◌∷◌, ◌++◌, length, take, min, get_or, Option, Some, None, Result, Ok, Err, ap, sym, ◌∙◌, refl, subst, arith, inl, inr, nat_le, nat_lt}
use Rattle.std.specs.Prelude.{◌==◌, not, ◌||◌, if◌then◌else◌, ◌⊎◌}
use Rattle.std.proofs.lemmas.Bool.{cases_eq}
use Rattle.std.proofs.lemmas.Bool.Decides.{nat_tests}
use Rattle.std.proofs.lemmas.List.{get_or-set_same, get_or-set_other, length-set, length-take-le}
use Rattle.arrayvec.specs.ArrayVec.{ArrayVec}
use Rattle.xcp_packet.specs.ByteOrder.{byte_at, double_at, double_bytes}
use Rattle.xcp_packet.proofs.ByteOrderLemmas.{length-bytes_of}
use Rattle.xcp_packet.specs.CommandSpelling.{spells}
use Rattle.xcp_packet.specs.Decoding.{Decodes}
use Rattle.xcp_packet.specs.declared.Order.{Order}
use Rattle.xcp_packet.specs.declared.Command.{Command}
use Rattle.xcp_packet.specs.declared.Command.TheVariants as commands
use Rattle.xcp_packet.specs.declared.Refuse.{Refuse}
use Rattle.xcp_packet.specs.declared.Refuse.TheVariants as refuses
use Rattle.xcp_packet.specs.declared.Reply.{Reply}
use Rattle.xcp_packet.specs.declared.Reply.TheVariants.{Done, Error, ErrorCount}
use Rattle.xcp_packet.specs.declared.Code.TheVariants.{OutOfRange, CmdSyntax, Sequence, ModeNotValid, SegmentNotValid}
use Rattle.xcp_memory.specs.Layout.{IsLayout, signals_extent}
use Rattle.xcp_memory.specs.Pages.{PagesValue, SegmentPages, IsPages, segment_at, no_pages}
use Rattle.xcp_memory.specs.Memory.{Writes}
use Rattle.xcp_memory.specs.ComputedAccess.{segment_of, place_in, written_by, pages_written, segment_written, write_refusal, write_refusal_by, is_inside, lies_inside, lies_inside_by, tool_bytes}
use Rattle.xcp_memory.proofs.ReadLaws.{tool_is_read}
use Rattle.xcp_memory.specs.Freeze.{set_freeze_refusal, is_segment_mode, pages_with_mode, is_freeze}
use Rattle.xcp_memory.specs.PageCopy.{lacks_segment}
use Rattle.xcp_memory.proofs.RangeLemmas.{located}
use Rattle.xcp_memory.proofs.WriteLaws.{tool_is_written}
use Rattle.xcp_transfer.specs.declared.mta.Mta.{Mta}
use Rattle.xcp_transfer.specs.declared.mta.Mta.TheVariants.{Nowhere, Memory, Text}
use Rattle.xcp_transfer.specs.TransferValue.{TransferValue, BlockValue, IsUnderWay}
use Rattle.xcp_transfer.specs.MtaAccess.{bytes_at, write_refusal_at, written_at}
use Rattle.xcp_transfer.specs.Laws.{IsLawful}
use Rattle.xcp_packet.specs.Rows.{Meets, first_holding, refused}
use Rattle.xcp_transfer.specs.Downloads.{download_row, next_row, packet_room, greatest_download, download_max_row, short_download_row, modify_bits_row, modified}
use Rattle.xcp_transfer.proofs.WholeBlockLemmas.{whole}
use Rattle.xcp_slave.specs.declared.request.Request.{Request}
use Rattle.xcp_slave.specs.declared.request.Request.TheVariants as requests
use Rattle.xcp_slave.specs.Outcomes.{Answer}
use Rattle.xcp_slave.specs.declared.outcome.Outcome.TheVariants as answers
use Rattle.xcp_slave.specs.SlaveValue.{SlaveValue, layout_of, noblock, ended}
use Rattle.xcp_slave.specs.Rows.{row}
use Rattle.xcp_slave.specs.Step.{Answers, Heeds, Executes, Drains, answer_of, sent_reply, found_by, is_connect, at_time}
use Rattle.xcp_slave.specs.SlaveInvariant.{IsSlave}
use Rattle.xcp_slave.specs.MemoryEffects.{IsEventless, SameMemory, Write, PutBy, IsPut, IsStill, IsWrite}
use Rattle.xcp_slave.proofs.StepLaws.{either}
use Rattle.xcp_slave.proofs.ListInvariantLemmas.{none-holds, is_below, differs}
use Rattle.xcp_slave.proofs.TransferInvariantLemmas.{none-refused, none-behind, outside, unprotected}
use Rattle.xcp_slave.proofs.SlaveInvariantLaws.{found-kept}

-- a write that isn't refused
pub record Written (p q : PagesValue) : Type 0 where
  pub write : Write
  pub allowed : write_refusal p write.address (length write.bytes) ≡ None
  pub after : q ≡ pages_written p write.address write.bytes

-- what a command other than a switch and a copy does to pages
abbrev pub Touches : PagesValue → PagesValue → Type 0
Touches p q = SameMemory p q ⊎ Written p q

-- and by what, and what is told then
abbrev Lands : TransferValue → Command → PagesValue → Option Reply → Type 0
Lands t c q reply = SameMemory t.pages q ⊎ ((x : Written t.pages q) × PutBy t c x.write × (reply ≡ Some Done))

-- the memory is the same as itself
pub same-memory : (p : PagesValue) → SameMemory p p
same-memory p = record { layout = refl; signals = refl; count = refl; pages = λ i. refl; ecu = λ i. refl; xcp = λ i. refl }

touched-at : (t : TransferValue) (c : Command) (m : Mta) (bytes : List ℕ) (n : ℕ) → write_refusal_at t.pages m n ≡ None → length bytes ≡ n → ((a : ℕ) → m ≡ Memory a → PutBy t c (record { address = a; bytes = bytes })) → Lands t c (written_at t.pages m bytes) (Some Done)
touched-at t c Nowhere bytes n r e put = inl (same-memory t.pages)
touched-at t c (Memory a) bytes n r e put = inr (record { write = record { address = a; bytes = bytes }; allowed = ap (λ (k : ℕ). write_refusal t.pages a k) e ∙ r; after = refl }, put a refl, refl)
touched-at t c (Text id place) bytes n r e put = inl (same-memory t.pages)

chosen : (t : TransferValue) (c : Command) (b : Bool) (s u : TransferValue) → (b ≡ true → Lands t c s.pages (Some Done)) → SameMemory t.pages u.pages → Lands t c (if b then s else u).pages (if b then Some Done else None)
chosen t c true s u h k = h refl
chosen t c false s u h k = inl k

-- a packet that isn't too short for n bytes, which one packet can have, has n bytes
pub enough : (long n room : ℕ) → nat_lt long (min n room) ≡ false → nat_le n room ≡ true → n ≤ long
enough long n room a b = grind (arith, nat_tests, a, b)

-- a number is at least n where the test that it is less is false
pub not-less : (long n : ℕ) → nat_lt long n ≡ false → n ≤ long
not-less long n a = grind (arith, nat_tests, a)

-- numbers are equal where the negated test for equality is false
pub is_same : (n m : ℕ) → not (n == m) ≡ false → n ≡ m
is_same n m h = grind (arith, nat_tests, h)

download-lands : (n : ℕ) (bytes : ArrayVec ℕ) (t : TransferValue) → first_holding (download_row n bytes.items t).refusals ≡ None → Lands t (commands.Download n bytes) (download_row n bytes.items t).after.pages (download_row n bytes.items t).reply
download-lands n bytes t r =
    let room : ℕ = packet_room t.pages.layout in
    let long : ℕ = length bytes.items in
    let a = none-holds ((n == 0 || nat_lt (greatest_download t.pages.layout) n, Error OutOfRange) ∷ (nat_lt long (min n room), Error CmdSyntax) ∷ refused (write_refusal_at t.pages t.mta n)) r in
    let w = none-behind (write_refusal_at t.pages t.mta n) a.1.1 in
    chosen t (commands.Download n bytes) (nat_le n room) _ _
    (λ e. touched-at t (commands.Download n bytes) t.mta (take n bytes.items) n w (length-take-le n bytes.items (enough long n room a.1.0 e)) (λ a k. (k, refl)))
    (same-memory t.pages)

next-lands : (o : Option BlockValue) (remaining : ℕ) (bytes : ArrayVec ℕ) (t : TransferValue) → t.block ≡ o → IsUnderWay t.pages o → first_holding (next_row o remaining bytes.items t).refusals ≡ None → Lands t (commands.DownloadNext remaining bytes) (next_row o remaining bytes.items t).after.pages (next_row o remaining bytes.items t).reply
next-lands None remaining bytes t q u r = inl (same-memory t.pages)
next-lands (Some b) remaining bytes t q u r =
    let room : ℕ = packet_room t.pages.layout in
    let long : ℕ = length bytes.items in
    let a = none-holds ((not (remaining == b.expected), ErrorCount Sequence b.expected) ∷ (nat_lt long (min remaining room), Error CmdSyntax) ∷ []) r in
    let all : List ℕ = b.bytes ++ take remaining bytes.items in
    chosen t (commands.DownloadNext remaining bytes) (nat_le remaining room) _ _
    (λ e. inr (record { write = record { address = b.address; bytes = all }; allowed = whole t.pages b remaining bytes.items u (is_same remaining b.expected a.0) (enough long remaining room a.1.0 e); after = refl }, (b, q, refl, refl), refl))
    (same-memory t.pages)

max-lands : (bytes : ArrayVec ℕ) (t : TransferValue) → first_holding (download_max_row bytes.items t).refusals ≡ None → Lands t (commands.DownloadMax bytes) (download_max_row bytes.items t).after.pages (Some Done)
max-lands bytes t r =
    let n : ℕ = t.pages.layout.max_cto - 1 in
    let a = none-holds ((nat_lt (length bytes.items) n, Error CmdSyntax) ∷ refused (write_refusal_at t.pages t.mta n)) r in
    touched-at t (commands.DownloadMax bytes) t.mta (take n bytes.items) n (none-behind (write_refusal_at t.pages t.mta n) a.1) (length-take-le n bytes.items (not-less (length bytes.items) n a.0)) (λ a k. (k, refl))

-- where an MTA in the memory is
at-of : (m : Mta) → ℕ
at-of (Memory a) = a
at-of _ = 0

short-lands : (n extension address : ℕ) (bytes : ArrayVec ℕ) (t : TransferValue) → first_holding (short_download_row n extension address bytes.items t).refusals ≡ None → Lands t (commands.ShortDownload n extension address bytes) (short_download_row n extension address bytes.items t).after.pages (Some Done)
unfolding at-of
short-lands n extension address bytes t r =
    let a = none-holds ((n == 0 || nat_lt (t.pages.layout.max_cto - 8) n, Error OutOfRange) ∷ (not (extension == 0), Error OutOfRange) ∷ (nat_lt (length bytes.items) n, Error CmdSyntax) ∷ refused (write_refusal_at t.pages (Memory address) n)) r in
    touched-at t (commands.ShortDownload n extension address bytes) (Memory address) (take n bytes.items) n (none-behind (write_refusal_at t.pages (Memory address) n) a.1.1.1) (length-take-le n bytes.items (not-less (length bytes.items) n a.1.1.0)) (λ a k. (ap at-of k, refl))

-- a range that may be written lies in one area
inside-by : (o : Option ℕ) (p : PagesValue) (a n : ℕ) → write_refusal_by o p a n ≡ None → lies_inside_by o p.layout a n ≡ true
inside-by None p a n h = absurd (outside (is_inside a n (signals_extent p.layout)) h)
inside-by (Some i) p a n h = refl

-- where four bytes at the MTA may be written, MODIFY_BITS puts the double word that is read there, modified
pub bits-put : (s ma mx : ℕ) (t : TransferValue) → IsLawful t → write_refusal_at t.pages t.mta 4 ≡ None → (a : ℕ) → t.mta ≡ Memory a → PutBy t (commands.ModifyBits s ma mx) (record { address = a; bytes = double_bytes t.pages.layout.order (modified s ma mx (double_at t.pages.layout.order 0 (bytes_at t.pages t.mta 4))) })
bits-put s ma mx t h r a k =
    let p : PagesValue = t.pages in
    let read : List ℕ = tool_bytes p a 4 in
    let allowed : write_refusal p a 4 ≡ None = ap (λ (m : Mta). write_refusal_at p m 4) (sym k) ∙ r in
    let inside : lies_inside p.layout a 4 ≡ true = inside-by (segment_of p.layout a 4) p a 4 allowed in
    (k, read, (tool_is_read p a 4 read h.layout h.pages).1 (inside, refl), ap (λ (m : Mta). double_bytes p.layout.order (modified s ma mx (double_at p.layout.order 0 (bytes_at p m 4)))) k)

bits-lands : (s ma mx : ℕ) (t : TransferValue) → IsLawful t → first_holding (modify_bits_row s ma mx t).refusals ≡ None → Lands t (commands.ModifyBits s ma mx) (modify_bits_row s ma mx t).after.pages (Some Done)
bits-lands s ma mx t h r =
    let a = none-holds ((nat_lt 31 s, Error OutOfRange) ∷ refused (write_refusal_at t.pages t.mta 4)) r in
    let w = none-behind (write_refusal_at t.pages t.mta 4) a.1 in
    touched-at t (commands.ModifyBits s ma mx) t.mta _ 4 w (length-bytes_of t.pages.layout.order 4 _) (bits-put s ma mx t h w)

-- one segment's mode
pub mode-same : (p : PagesValue) (mode segment : ℕ) → set_freeze_refusal mode segment p ≡ None → SameMemory p (pages_with_mode mode segment p)
mode-same p mode segment r =
    let a = none-holds ((not (is_segment_mode mode), ModeNotValid) ∷ (lacks_segment segment p, SegmentNotValid) ∷ []) r in
    let below : segment < length p.segments = is_below _ _ a.1.0 in
    let new : SegmentPages = record (segment_at p segment) { freeze = is_freeze mode } in
    let q : PagesValue = pages_with_mode mode segment p in
    let here : segment_at q segment ≡ new = get_or-set_same p.segments segment new no_pages below in
    let there : (i : ℕ) → i ≢ segment → segment_at q i ≡ segment_at p i = λ i h. get_or-set_other p.segments segment i new no_pages h in
    record {
      layout = refl;
      signals = refl;
      count = length-set p.segments segment new;
      pages = λ i. elim (cases_eq i segment) [
        | inl e ↦ subst (λ (k : ℕ). (segment_at q k).pages ≡ (segment_at p k).pages) (sym e) (ap (λ (s : SegmentPages). s.pages) here)
        | inr h ↦ ap (λ (s : SegmentPages). s.pages) (there i h)
      ];
      ecu = λ i. elim (cases_eq i segment) [
        | inl e ↦ subst (λ (k : ℕ). (segment_at q k).ecu ≡ (segment_at p k).ecu) (sym e) (ap (λ (s : SegmentPages). s.ecu) here)
        | inr h ↦ ap (λ (s : SegmentPages). s.ecu) (there i h)
      ];
      xcp = λ i. elim (cases_eq i segment) [
        | inl e ↦ subst (λ (k : ℕ). (segment_at q k).xcp ≡ (segment_at p k).xcp) (sym e) (ap (λ (s : SegmentPages). s.xcp) here)
        | inr h ↦ ap (λ (s : SegmentPages). s.xcp) (there i h)
      ];
    }

-- neither a switch nor a copy
abbrev pub IsPlain : Command → Type 0
IsPlain (commands.SetCalPage mode segment page) = ⊥
IsPlain (commands.CopyCalPage source source_page target target_page) = ⊥
IsPlain _ = Unit {0}

row-lands : (c : Command) (v : SlaveValue) → IsPlain c → IsLawful v.transfer → first_holding (row c v).refusals ≡ None → Lands v.transfer c (row c v).after.transfer.pages (row c v).reply
row-lands (commands.Download n bytes) v k h r = download-lands n bytes v.transfer r
row-lands (commands.DownloadNext remaining bytes) v k h r = next-lands v.transfer.block remaining bytes v.transfer refl h.transfer.block r
row-lands (commands.DownloadMax bytes) v k h r = max-lands bytes v.transfer r
row-lands (commands.ShortDownload n extension address bytes) v k h r = short-lands n extension address bytes v.transfer r
row-lands (commands.ModifyBits s ma mx) v k h r = bits-lands s ma mx v.transfer h r
row-lands (commands.SetSegmentMode mode segment) v k h r = inl (mode-same v.transfer.pages mode segment (none-refused (set_freeze_refusal mode segment v.transfer.pages) r))
row-lands (commands.SetCalPage mode segment page) v k h r = absurd k
row-lands (commands.CopyCalPage source source_page target target_page) v k h r = absurd k
row-lands _ v k h r = inl (same-memory v.transfer.pages)

touched : (t : TransferValue) (c : Command) (q : PagesValue) (reply : Option Reply) → Lands t c q reply → Touches t.pages q
touched t c q reply (inl s) = inl s
touched t c q reply (inr x) = inr x.0

-- a command that is no switch and no copy and isn't refused leaves the memory as it was, or does one write
pub row-touches : (c : Command) (v : SlaveValue) → IsPlain c → IsLawful v.transfer → first_holding (row c v).refusals ≡ None → Touches v.transfer.pages (row c v).after.transfer.pages
row-touches c v k h r = touched v.transfer c (row c v).after.transfer.pages (row c v).reply (row-lands c v k h r)

-- what a command finds has the same pages, and puts the same
put-found : (c : Command) (v : SlaveValue) (x : Write) → PutBy (found_by c v).transfer c x → PutBy v.transfer c x
put-found (commands.DownloadNext remaining bytes) v x h = h
put-found (commands.Download n bytes) v x h = h
put-found (commands.DownloadMax bytes) v x h = h
put-found (commands.ShortDownload n extension address bytes) v x h = h
put-found (commands.ModifyBits s ma mx) v x h = h
put-found _ v x h = absurd h

-- the slave as a command finds it has the same pages
pub found-pages : (c : Command) (v : SlaveValue) → (found_by c v).transfer.pages ≡ v.transfer.pages
found-pages (commands.DownloadNext remaining bytes) v = refl
found-pages _ v = refl

-- what a step does
Does : SlaveValue → Command → SlaveValue → Option Reply → Type 0
Does v c w reply = IsStill v w ⊎ ((x : Written v.transfer.pages w.transfer.pages) × PutBy v.transfer c x.write × (reply ≡ Some Done))

-- w has the pages of v
still : (v x w : SlaveValue) → w ≡ x → x.transfer.pages ≡ v.transfer.pages → IsStill v w
still v x w e s = subst (λ (p : PagesValue). SameMemory v.transfer.pages p) (sym (ap (λ (y : SlaveValue). y.transfer.pages) e ∙ s)) (same-memory v.transfer.pages)

row-does : (c : Command) (v : SlaveValue) (q : PagesValue) (reply : Option Reply) (w : SlaveValue) → w.transfer.pages ≡ q → (p : PagesValue) → p ≡ v.transfer.pages → ((x : Write) → PutBy (found_by c v).transfer c x → PutBy v.transfer c x) → SameMemory p q ⊎ ((x : Written p q) × PutBy (found_by c v).transfer c x.write × (reply ≡ Some Done)) → Does v c w reply
unfolding Does
row-does c v q reply w e p f put (inl s) = inl (subst (λ (y : PagesValue). SameMemory v.transfer.pages y) (sym e) (subst (λ (y : PagesValue). SameMemory y q) f s))
row-does c v q reply w e p f put (inr x) = inr (
  record {
    write = x.0.write;
    allowed = subst (λ (y : PagesValue). write_refusal y x.0.write.address (length x.0.write.bytes) ≡ None) f x.0.allowed;
    after = e ∙ x.0.after ∙ ap (λ (y : PagesValue). pages_written y x.0.write.address x.0.write.bytes) f;
  },
  put x.0.write x.1,
  x.2,
)

meets-does : (c : Command) (v : SlaveValue) (x : Result (Option Reply) Reply) (w : SlaveValue) → IsPlain c → IsSlave v → Meets (row c (found_by c v)) (noblock v) x w → Does v c w (sent_reply x)
unfolding Does
meets-does c v (Ok o) w k h m =
    let f = found-kept c v h in
    let lands : Lands (found_by c v).transfer c (row c (found_by c v)).after.transfer.pages o = subst (Lands (found_by c v).transfer c (row c (found_by c v)).after.transfer.pages) (sym m.1) (row-lands c (found_by c v) k f.transfer m.0) in
    row-does c v (row c (found_by c v)).after.transfer.pages o w (ap (λ (y : SlaveValue). y.transfer.pages) m.2) (found_by c v).transfer.pages (found-pages c v) (put-found c v) lands
meets-does c v (Err e) w k h m = inl (still v (noblock v) w m.1 refl)

-- by the codes
pub plain-by : (order : Order) (c : Command) (p : List ℕ) → spells order c p → byte_at 0 p ≢ 0xEB → byte_at 0 p ≢ 0xE4 → IsPlain c
plain-by order (commands.SetCalPage mode segment page) p s a b = a s.0.first
plain-by order (commands.CopyCalPage source source_page target target_page) p s a b = b s.0.first
plain-by order _ p s a b = tt

-- the memory is as it was, or one write was done, that the request put
Steps : SlaveValue → Request → Answer → SlaveValue → Type 0
Steps v q a w = IsStill v w ⊎ ((x : Written v.transfer.pages w.transfer.pages) × IsPut v q x.write × (a ≡ answers.Packets ((0xFF ∷ []) ∷ [])))

executes-steps : (v : SlaveValue) (p : ArrayVec ℕ) (c : Command) (a : Answer) (w : SlaveValue) → IsPlain c → IsSlave v → spells (layout_of v).order c p.items → Executes c v a w → Steps v (requests.Command p) a w
unfolding Steps Does
executes-steps v p c a w k h s m =
    elim (meets-does c v m.0 w k h m.1) [
      | inl e ↦ inl e
      | inr x ↦ inr (x.0, (c, s, x.1), m.2 ∙ ap (answer_of (layout_of v)) x.2)
    ]

heeds-steps : (v : SlaveValue) (p : ArrayVec ℕ) (d : Result Command Refuse) (a : Answer) (w : SlaveValue) → byte_at 0 p.items ≢ 0xEB → byte_at 0 p.items ≢ 0xE4 → IsSlave v → Decodes (layout_of v).order p.items d → Heeds v d a w → Steps v (requests.Command p) a w
unfolding Steps
heeds-steps v p (Ok c) a w b e h s k = either (v.connected || is_connect c) _ _ _ k (λ m. executes-steps v p c a w (plain-by (layout_of v).order c p.items s b e) h s m) (λ m. inl (still v v w m.1 refl))
heeds-steps v p (Err refuses.Empty) a w b e h s k = inl (still v v w k.1 refl)
heeds-steps v p (Err refuses.Unknown) a w b e h s k = either v.connected _ _ _ k (λ m. inl (still v (noblock v) w m.1 refl)) (λ m. inl (still v v w m.1 refl))
heeds-steps v p (Err refuses.Short) a w b e h s k = either v.connected _ _ _ k (λ m. inl (still v (noblock v) w m.1 refl)) (λ m. inl (still v v w m.1 refl))

drains-still : (o : List (ArrayVec ℕ)) (v : SlaveValue) (a : Answer) (w : SlaveValue) → Drains o v a w → IsStill v w
drains-still [] v a w k = still v v w k.1 refl
drains-still (p ∷ rest) v a w k = still v (record v { outbox = rest }) w k.1 refl

-- without switch, copy, store and event
eventless-steps : (v : SlaveValue) (q : Request) (a : Answer) (w : SlaveValue) → IsEventless q → IsSlave v → Answers v q a w → Steps v q a w
unfolding Steps
eventless-steps v (requests.Command p) a w q h k = heeds-steps v p k.0 a w q.0 q.1 h k.1 k.2
eventless-steps v (requests.Event channel signals) a w q h k = absurd q
eventless-steps v requests.Drain a w q h k = inl (drains-still v.outbox v a w k)
eventless-steps v requests.FinishStore a w q h k = absurd q
eventless-steps v requests.Hangup a w q h k = inl (still v (ended v) w k.1 refl)
eventless-steps v (requests.Time time) a w q h k = inl (still v (at_time time v) w k.1 refl)
eventless-steps v (requests.Signals place bytes) a w q h k = absurd q

-- a step without a switch, a copy, a store and an event leaves the memory as it was, or does one write
pub eventless-touches : (v : SlaveValue) (q : Request) (a : Answer) (w : SlaveValue) → IsEventless q → IsSlave v → Answers v q a w → Touches v.transfer.pages w.transfer.pages
unfolding Steps
eventless-touches v q a w eventless h k = elim (eventless-steps v q a w eventless h k) [ inl s ↦ inl s | inr x ↦ inr x.0 ]

-- the relation of what is written
pub writes-of : (p q : PagesValue) → IsLayout p.layout → IsPages p → (x : Written p q) → Writes p x.write.address x.write.bytes q
writes-of p q l g x = (tool_is_written p q x.write.address x.write.bytes l g x.allowed).1 x.after

-- such a step leaves the memory, or is the one write that its command asks for, and is told to be done
pub step-writes : (v : SlaveValue) (q : Request) (a : Answer) (w : SlaveValue) → IsEventless q → IsSlave v → Answers v q a w → IsStill v w ⊎ ((x : Write) × IsWrite v q a w x)
unfolding Steps
step-writes v q a w eventless h k =
    elim (eventless-steps v q a w eventless h k) [
      | inl s ↦ inl s
      | inr x ↦ inr (x.0.write, record { put = x.1; writes = writes-of v.transfer.pages w.transfer.pages h.transfer.layout h.transfer.pages x.0; told = x.2 })
    ]

-- a page that isn't written keeps its bytes: page 0, and each that isn't the tool's

unwritten : (s : SegmentPages) (place k : ℕ) (bytes : List ℕ) → k ≢ s.xcp → get_or (segment_written s place bytes).pages k [] ≡ get_or s.pages k []
unwritten s place k bytes h = get_or-set_other s.pages s.xcp k _ [] h

away : (s : SegmentPages) (k : ℕ) → (k ≡ 0) ⊎ (k ≢ s.xcp) → (s.xcp == 0) ≡ false → k ≢ s.xcp
away s k (inl e) z = subst (λ (n : ℕ). n ≢ s.xcp) (sym e) (λ e. differs s.xcp 0 z (sym e))
away s k (inr h) z = h

page-by : (p : PagesValue) (a : ℕ) (bytes : List ℕ) (i k : ℕ) (o : Option ℕ) → IsPages p → segment_of p.layout a (length bytes) ≡ o → write_refusal_by o p a (length bytes) ≡ None → (k ≡ 0) ⊎ (k ≢ (segment_at p i).xcp) → get_or (segment_at (written_by o p a bytes) i).pages k [] ≡ get_or (segment_at p i).pages k []
page-by p a bytes i k None g e r h = refl
page-by p a bytes i k (Some j) g e r h =
    let l = located p a (length bytes) j g e in
    let new : SegmentPages = segment_written (segment_at p j) (place_in p.layout j a) bytes in
    elim (cases_eq i j) [
      | inl s ↦
          (let h2 : (k ≡ 0) ⊎ (k ≢ (segment_at p j).xcp) = subst (λ (n : ℕ). (k ≡ 0) ⊎ (k ≢ (segment_at p n).xcp)) s h in
          subst (λ (n : ℕ). get_or (segment_at (written_by (Some j) p a bytes) n).pages k [] ≡ get_or (segment_at p n).pages k []) (sym s)
          (ap (λ (x : SegmentPages). get_or x.pages k []) (get_or-set_same p.segments j new no_pages l.paged)
          ∙ unwritten (segment_at p j) (place_in p.layout j a) k bytes (away (segment_at p j) k h2 (unprotected _ r))))
      | inr d ↦ ap (λ (x : SegmentPages). get_or x.pages k []) (get_or-set_other p.segments j i new no_pages d)
    ]

-- page 0, and each page that the tool doesn't have, keeps its bytes where one write was done, or none
pub page-kept : (p q : PagesValue) (i k : ℕ) → IsPages p → (k ≡ 0) ⊎ (k ≢ (segment_at p i).xcp) → Touches p q → get_or (segment_at q i).pages k [] ≡ get_or (segment_at p i).pages k []
page-kept p q i k g h (inl s) = ap (λ (xs : List (List ℕ)). get_or xs k []) (s.pages i)
page-kept p q i k g h (inr x) =
    ap (λ (y : PagesValue). get_or (segment_at y i).pages k []) x.after
    ∙ page-by p x.write.address x.write.bytes i k (segment_of p.layout x.write.address (length x.write.bytes)) g refl x.allowed h

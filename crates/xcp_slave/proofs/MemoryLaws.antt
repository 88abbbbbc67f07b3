-- What is written, and what is read back.
use Rattle.std.proofs.Common.{◌≡◌, ◌≢◌, ℕ, zero, suc, ◌+◌, ◌-◌, ◌≤◌, Bool, true, false, List, [], ◌∷◌, ◌++◌, length, take, min, Option, Some, None, Result, Ok, Err, ap, sym, ◌∙◌, refl, subst, arith, nat_le, nat_lt, slice_index, All, length-append}
use Rattle.std.specs.Prelude.{◌==◌, not, ◌||◌, if◌then◌else◌}
use Rattle.std.proofs.lemmas.List.{length-take-le}
use Rattle.arrayvec.specs.ArrayVec.{ArrayVec}
use Rattle.xcp_packet.specs.ByteOrder.{byte_at, double_at, double_bytes}
use Rattle.xcp_packet.proofs.ByteOrderLemmas.{length-bytes_of}
use Rattle.xcp_packet.specs.CommandSpelling.{spells}
use Rattle.xcp_packet.specs.Decoding.{Decodes}
use Rattle.xcp_packet.specs.declared.Order.{Order}
use Rattle.xcp_packet.specs.declared.Command.{Command}
use Rattle.xcp_packet.specs.declared.Command.TheVariants as commands
use Rattle.xcp_packet.specs.declared.Refuse.{Refuse}
use Rattle.xcp_packet.specs.declared.Refuse.TheVariants as refuses
use Rattle.xcp_packet.specs.declared.Reply.{Reply}
use Rattle.xcp_packet.specs.declared.Reply.TheVariants.{Done, Error, ErrorCount}
use Rattle.xcp_packet.specs.declared.Code.TheVariants.{OutOfRange, CmdSyntax, Sequence}
use Rattle.xcp_memory.specs.Layout.{LayoutValue}
use Rattle.xcp_memory.specs.Pages.{PagesValue}
use Rattle.xcp_memory.specs.Memory.{Tool, Reads, Writes, LiesInside}
use Rattle.xcp_memory.specs.ComputedAccess.{write_refusal, pages_written}
use Rattle.xcp_memory.specs.Freeze.{set_freeze_refusal}
use Rattle.xcp_memory.proofs.ReadLaws.{tool_is_read}
use Rattle.xcp_memory.proofs.WriteLaws.{tool_is_written}
use Rattle.xcp_transfer.specs.declared.mta.Mta.{Mta}
use Rattle.xcp_transfer.specs.declared.mta.Mta.TheVariants.{Memory}
use Rattle.xcp_transfer.specs.TransferValue.{TransferValue, BlockValue, IsBlock, IsUnderWay}
use Rattle.xcp_transfer.specs.MtaAccess.{bytes_at, write_refusal_at, written_at, moved}
use Rattle.xcp_packet.specs.Rows.{Meets, first_holding, refused}
use Rattle.xcp_transfer.specs.Downloads.{next_row, packet_room, greatest_download, downloaded, block_begun, block_with, modified}
use Rattle.xcp_slave.specs.declared.request.Request.{Request}
use Rattle.xcp_slave.specs.declared.request.Request.TheVariants as requests
use Rattle.xcp_slave.specs.Outcomes.{Answer}
use Rattle.xcp_slave.specs.declared.exchange.Exchange.{Exchange}
use Rattle.xcp_slave.specs.SlaveValue.{SlaveValue, layout_of, noblock, ended}
use Rattle.xcp_slave.specs.Rows.{row}
use Rattle.xcp_slave.specs.Step.{Answers, Heeds, Drains, found_by, is_connect, at_time}
use Rattle.xcp_slave.specs.Run.{Run}
use Rattle.xcp_slave.specs.SlaveInvariant.{IsSlave}
use Rattle.xcp_slave.specs.AcceptedCommands.{Accepts}
use Rattle.xcp_slave.specs.MemoryEffects.{SameMemory, IsReading, IsNoWrite}
use Rattle.xcp_slave.proofs.StepLaws.{either}
use Rattle.xcp_slave.proofs.ListInvariantLemmas.{none-holds}
use Rattle.xcp_slave.proofs.TransferInvariantLemmas.{none-refused, none-behind}
use Rattle.xcp_slave.proofs.AcceptedCommandLaws.{accepted, short-upload-reads}
use Rattle.xcp_slave.proofs.WriteLaws.{bits-put, same-memory, enough, is_same, mode-same, not-less}
use Rattle.xcp_slave.proofs.RunMemoryLaws.{same-tool, same-trans}

is_sent : (b : Bool) (reply : Reply) → (if b then Some Done else None) ≡ Some reply → b ≡ true
is_sent true reply h = refl
is_sent false reply h = cc

-- what a write at an address does
at-address : (v w : SlaveValue) (m : Mta) (a n : ℕ) (bytes : List ℕ) → IsSlave v → m ≡ Memory a → write_refusal_at v.transfer.pages m n ≡ None → length bytes ≡ n → w.transfer ≡ downloaded v.transfer m bytes → Writes v.transfer.pages a bytes w.transfer.pages × (w.transfer.mta ≡ Memory (a + n))
at-address v w m a n bytes h e r long led =
    let p : PagesValue = v.transfer.pages in
    let allowed : write_refusal p a (length bytes) ≡ None = ap (λ (k : ℕ). write_refusal p a k) long ∙ ap (λ (x : Mta). write_refusal_at p x n) (sym e) ∙ r in
    let pages : w.transfer.pages ≡ pages_written p a bytes = ap (λ (t : TransferValue). t.pages) led ∙ ap (λ (x : Mta). written_at p x bytes) e in
    let mta : w.transfer.mta ≡ Memory (a + n) = ap (λ (t : TransferValue). t.mta) led ∙ ap (λ (x : Mta). moved x (length bytes)) e ∙ ap (λ (k : ℕ). Memory (a + k)) long in
    ((tool_is_written p w.transfer.pages a bytes h.transfer.layout h.transfer.pages allowed).1 pages, mta)

download-both : (v w : SlaveValue) (n a : ℕ) (items : ArrayVec ℕ) (bytes : List ℕ) → IsSlave v → v.transfer.mta ≡ Memory a → Accepts v (commands.Download n items) bytes w → Writes v.transfer.pages a (take n items.items) w.transfer.pages × (w.transfer.mta ≡ Memory (a + n))
download-both v w n a items bytes h e k0 =
    let k = accepted (commands.Download n items) v bytes w k0 in
    let room : ℕ = packet_room (layout_of v) in
    let t = none-holds ((n == 0 || nat_lt (greatest_download (layout_of v)) n, Error OutOfRange) ∷ (nat_lt (length items.items) (min n room), Error CmdSyntax) ∷ refused (write_refusal_at v.transfer.pages v.transfer.mta n)) k.allowed in
    let one : nat_le n room ≡ true = is_sent (nat_le n room) k.reply k.replied in
    let led : w.transfer ≡ downloaded v.transfer v.transfer.mta (take n items.items) = ap (λ (x : SlaveValue). x.transfer) k.after ∙ ap (λ (b : Bool). if b then downloaded v.transfer v.transfer.mta (take n items.items) else record v.transfer { block = block_begun v.transfer.mta (n - room) (take room items.items) }) one in
    at-address v w v.transfer.mta a n (take n items.items) h e (none-behind (write_refusal_at v.transfer.pages v.transfer.mta n) t.1.1) (length-take-le n items.items (enough (length items.items) n room t.1.0 one)) led

-- an accepted DOWNLOAD leaves no block
pub whole-done : (v w : SlaveValue) (n : ℕ) (items : ArrayVec ℕ) (bytes : List ℕ) → Accepts v (commands.Download n items) bytes w → w.transfer.block ≡ None
whole-done v w n items bytes h =
    let k = accepted (commands.Download n items) v bytes w h in
    let room : ℕ = packet_room (layout_of v) in
    let one : nat_le n room ≡ true = is_sent (nat_le n room) k.reply k.replied in
    ap (λ (x : SlaveValue). x.transfer.block) k.after ∙ ap (λ (b : Bool). (if b then downloaded v.transfer v.transfer.mta (take n items.items) else record v.transfer { block = block_begun v.transfer.mta (n - room) (take room items.items) }).block) one

-- an accepted DOWNLOAD of n bytes with the MTA at an address writes these n bytes there
pub download-writes : (v w : SlaveValue) (n a : ℕ) (items : ArrayVec ℕ) (bytes : List ℕ) → IsSlave v → v.transfer.mta ≡ Memory a → Accepts v (commands.Download n items) bytes w → Writes v.transfer.pages a (take n items.items) w.transfer.pages
download-writes v w n a items bytes h e k = (download-both v w n a items bytes h e k).0

-- an accepted DOWNLOAD of n bytes moves an MTA at an address on by n
pub download-mta : (v w : SlaveValue) (n a : ℕ) (items : ArrayVec ℕ) (bytes : List ℕ) → IsSlave v → v.transfer.mta ≡ Memory a → Accepts v (commands.Download n items) bytes w → w.transfer.mta ≡ Memory (a + n)
download-mta v w n a items bytes h e k = (download-both v w n a items bytes h e k).1

short-both : (v w : SlaveValue) (n extension a : ℕ) (items : ArrayVec ℕ) (bytes : List ℕ) → IsSlave v → Accepts v (commands.ShortDownload n extension a items) bytes w → Writes v.transfer.pages a (take n items.items) w.transfer.pages × (w.transfer.mta ≡ Memory (a + n)) × (length (take n items.items) ≡ n)
short-both v w n extension a items bytes h k0 =
    let k = accepted (commands.ShortDownload n extension a items) v bytes w k0 in
    let t = none-holds ((n == 0 || nat_lt ((layout_of v).max_cto - 8) n, Error OutOfRange) ∷ (not (extension == 0), Error OutOfRange) ∷ (nat_lt (length items.items) n, Error CmdSyntax) ∷ refused (write_refusal_at v.transfer.pages (Memory a) n)) k.allowed in
    let led : w.transfer ≡ downloaded v.transfer (Memory a) (take n items.items) = ap (λ (x : SlaveValue). x.transfer) k.after in
    let long = length-take-le n items.items (not-less (length items.items) n t.1.1.0) in
    let r = at-address v w (Memory a) a n (take n items.items) h refl (none-behind (write_refusal_at v.transfer.pages (Memory a) n) t.1.1.1) long led in
    (r.0, r.1, long)

-- an accepted SHORT_DOWNLOAD of n bytes writes them at its address
pub short-writes : (v w : SlaveValue) (n extension a : ℕ) (items : ArrayVec ℕ) (bytes : List ℕ) → IsSlave v → Accepts v (commands.ShortDownload n extension a items) bytes w → Writes v.transfer.pages a (take n items.items) w.transfer.pages
short-writes v w n extension a items bytes h k = (short-both v w n extension a items bytes h k).0

-- an accepted SHORT_DOWNLOAD of n bytes leaves the MTA behind them
pub short-mta : (v w : SlaveValue) (n extension a : ℕ) (items : ArrayVec ℕ) (bytes : List ℕ) → IsSlave v → Accepts v (commands.ShortDownload n extension a items) bytes w → w.transfer.mta ≡ Memory (a + n)
short-mta v w n extension a items bytes h k = (short-both v w n extension a items bytes h k).1

max-both : (v w : SlaveValue) (a : ℕ) (items : ArrayVec ℕ) (bytes : List ℕ) → IsSlave v → v.transfer.mta ≡ Memory a → Accepts v (commands.DownloadMax items) bytes w → Writes v.transfer.pages a (take ((layout_of v).max_cto - 1) items.items) w.transfer.pages × (w.transfer.mta ≡ Memory (a + ((layout_of v).max_cto - 1)))
max-both v w a items bytes h e k0 =
    let k = accepted (commands.DownloadMax items) v bytes w k0 in
    let n : ℕ = (layout_of v).max_cto - 1 in
    let t = none-holds ((nat_lt (length items.items) n, Error CmdSyntax) ∷ refused (write_refusal_at v.transfer.pages v.transfer.mta n)) k.allowed in
    let led : w.transfer ≡ downloaded v.transfer v.transfer.mta (take n items.items) = ap (λ (x : SlaveValue). x.transfer) k.after in
    at-address v w v.transfer.mta a n (take n items.items) h e (none-behind (write_refusal_at v.transfer.pages v.transfer.mta n) t.1) (length-take-le n items.items (not-less (length items.items) n t.0)) led

-- an accepted DOWNLOAD_MAX with the MTA at an address writes its MAX_CTO - 1 bytes there
pub max-writes : (v w : SlaveValue) (a : ℕ) (items : ArrayVec ℕ) (bytes : List ℕ) → IsSlave v → v.transfer.mta ≡ Memory a → Accepts v (commands.DownloadMax items) bytes w → Writes v.transfer.pages a (take ((layout_of v).max_cto - 1) items.items) w.transfer.pages
max-writes v w a items bytes h e k = (max-both v w a items bytes h e k).0

-- an accepted DOWNLOAD_MAX moves an MTA at an address on by MAX_CTO - 1
pub max-mta : (v w : SlaveValue) (a : ℕ) (items : ArrayVec ℕ) (bytes : List ℕ) → IsSlave v → v.transfer.mta ≡ Memory a → Accepts v (commands.DownloadMax items) bytes w → w.transfer.mta ≡ Memory (a + ((layout_of v).max_cto - 1))
max-mta v w a items bytes h e k = (max-both v w a items bytes h e k).1

-- an accepted MODIFY_BITS keeps the MTA
pub bits-mta : (v w : SlaveValue) (s ma mx : ℕ) (bytes : List ℕ) → Accepts v (commands.ModifyBits s ma mx) bytes w → w.transfer.mta ≡ v.transfer.mta
bits-mta v w s ma mx bytes k = ap (λ (x : SlaveValue). x.transfer.mta) (accepted (commands.ModifyBits s ma mx) v bytes w k).after

-- MODIFY_BITS writes the double word that is read there, modified
pub bits-writes : (v w : SlaveValue) (s ma mx a : ℕ) (bytes : List ℕ) → IsSlave v → v.transfer.mta ≡ Memory a → Accepts v (commands.ModifyBits s ma mx) bytes w → (read : List ℕ) × Reads Tool v.transfer.pages a 4 read × Writes v.transfer.pages a (double_bytes (layout_of v).order (modified s ma mx (double_at (layout_of v).order 0 read))) w.transfer.pages
bits-writes v w s ma mx a bytes h e k0 =
    let k = accepted (commands.ModifyBits s ma mx) v bytes w k0 in
    let p : PagesValue = v.transfer.pages in
    let t = none-holds ((nat_lt 31 s, Error OutOfRange) ∷ refused (write_refusal_at p v.transfer.mta 4)) k.allowed in
    let r = none-behind (write_refusal_at p v.transfer.mta 4) t.1 in
    let put = bits-put s ma mx v.transfer h.transfer r a e in
    let new : List ℕ = double_bytes (layout_of v).order (modified s ma mx (double_at (layout_of v).order 0 put.1)) in
    let old : List ℕ = double_bytes (layout_of v).order (modified s ma mx (double_at (layout_of v).order 0 (bytes_at p v.transfer.mta 4))) in
    let allowed : write_refusal p a (length new) ≡ None = ap (λ (n : ℕ). write_refusal p a n) (length-bytes_of (layout_of v).order 4 _) ∙ ap (λ (m : Mta). write_refusal_at p m 4) (sym e) ∙ r in
    let pages : w.transfer.pages ≡ pages_written p a new = ap (λ (x : SlaveValue). x.transfer.pages) k.after ∙ ap (λ (m : Mta). written_at p m old) e ∙ ap (λ (xs : List ℕ). pages_written p a xs) put.3 in
    (put.1, put.2, (tool_is_written p w.transfer.pages a new h.transfer.layout h.transfer.pages allowed).1 pages)

-- the last packet of a block writes all of it and leaves the MTA behind it
pub block-both : (v w : SlaveValue) (remaining : ℕ) (items : ArrayVec ℕ) (bytes : List ℕ) (b : BlockValue) → IsSlave v → v.transfer.block ≡ Some b → Accepts v (commands.DownloadNext remaining items) bytes w → Writes v.transfer.pages b.address (b.bytes ++ take remaining items.items) w.transfer.pages × (w.transfer.mta ≡ Memory (b.address + (length b.bytes + b.expected))) × (length (b.bytes ++ take remaining items.items) ≡ length b.bytes + b.expected) × (w.transfer.block ≡ None)
block-both v w remaining items bytes b h e k0 =
    let k = accepted (commands.DownloadNext remaining items) v bytes w k0 in
    let room : ℕ = packet_room (layout_of v) in
    let t : TransferValue = v.transfer in
    let r = none-holds ((not (remaining == b.expected), ErrorCount Sequence b.expected) ∷ (nat_lt (length items.items) (min remaining room), Error CmdSyntax) ∷ []) (ap (λ (o : Option BlockValue). first_holding (next_row o remaining items.items t).refusals) (sym e) ∙ k.allowed) in
    let one : nat_le remaining room ≡ true = is_sent (nat_le remaining room) k.reply (ap (λ (o : Option BlockValue). (next_row o remaining items.items t).reply) (sym e) ∙ k.replied) in
    let all : List ℕ = b.bytes ++ take remaining items.items in
    let led : w.transfer ≡ downloaded t (Memory b.address) all =
    ap (λ (x : SlaveValue). x.transfer) k.after
    ∙ ap (λ (o : Option BlockValue). (next_row o remaining items.items t).after) e
    ∙ ap (λ (c : Bool). if c then downloaded t (Memory b.address) all else record t { block = Some (block_with b (take room items.items)) }) one in
    let i : IsBlock t.pages b = subst (λ (o : Option BlockValue). IsUnderWay t.pages o) e h.transfer.transfer.block in
    let have : remaining ≤ length items.items = enough (length items.items) remaining room r.1.0 one in
    let long : length all ≡ length b.bytes + b.expected = omega (arith, length-append b.bytes (take remaining items.items), length-take-le remaining items.items have, is_same remaining b.expected r.0) in
    let ends = at-address v w (Memory b.address) b.address (length b.bytes + b.expected) all h refl i.writable long led in
    (ends.0, ends.1, long, ap (λ (x : TransferValue). x.block) led)

-- an accepted DOWNLOAD_NEXT writes the whole block at the block's address, its own bytes last
pub block-writes : (v w : SlaveValue) (remaining : ℕ) (items : ArrayVec ℕ) (bytes : List ℕ) (b : BlockValue) → IsSlave v → v.transfer.block ≡ Some b → Accepts v (commands.DownloadNext remaining items) bytes w → Writes v.transfer.pages b.address (b.bytes ++ take remaining items.items) w.transfer.pages
block-writes v w remaining items bytes b h e k = (block-both v w remaining items bytes b h e k).0

-- an accepted DOWNLOAD_NEXT leaves the MTA behind the whole block
pub block-mta : (v w : SlaveValue) (remaining : ℕ) (items : ArrayVec ℕ) (bytes : List ℕ) (b : BlockValue) → IsSlave v → v.transfer.block ≡ Some b → Accepts v (commands.DownloadNext remaining items) bytes w → w.transfer.mta ≡ Memory (b.address + (length b.bytes + b.expected))
block-mta v w remaining items bytes b h e k = (block-both v w remaining items bytes b h e k).1

-- an accepted DOWNLOAD_NEXT leaves no block
pub block-done : (v w : SlaveValue) (remaining : ℕ) (items : ArrayVec ℕ) (bytes : List ℕ) (b : BlockValue) → IsSlave v → v.transfer.block ≡ Some b → Accepts v (commands.DownloadNext remaining items) bytes w → w.transfer.block ≡ None
block-done v w remaining items bytes b h e k = (block-both v w remaining items bytes b h e k).3

-- requests that write nothing

IsReader : Command → Type 0
IsReader (commands.SetCalPage mode segment page) = ⊥
IsReader (commands.CopyCalPage source source_page target target_page) = ⊥
IsReader (commands.Download n bytes) = ⊥
IsReader (commands.DownloadNext remaining bytes) = ⊥
IsReader (commands.DownloadMax bytes) = ⊥
IsReader (commands.ShortDownload n extension address bytes) = ⊥
IsReader (commands.ModifyBits s ma mx) = ⊥
IsReader _ = Unit {0}

row-reads : (c : Command) (v : SlaveValue) → IsReader c → first_holding (row c (found_by c v)).refusals ≡ None → SameMemory v.transfer.pages (row c (found_by c v)).after.transfer.pages
unfolding IsReader
row-reads (commands.SetCalPage mode segment page) v k r = absurd k
row-reads (commands.CopyCalPage source source_page target target_page) v k r = absurd k
row-reads (commands.Download n bytes) v k r = absurd k
row-reads (commands.DownloadNext remaining bytes) v k r = absurd k
row-reads (commands.DownloadMax bytes) v k r = absurd k
row-reads (commands.ShortDownload n extension address bytes) v k r = absurd k
row-reads (commands.ModifyBits s ma mx) v k r = absurd k
row-reads (commands.SetSegmentMode mode segment) v k r = mode-same v.transfer.pages mode segment (none-refused (set_freeze_refusal mode segment v.transfer.pages) r)
row-reads _ v k r = same-memory v.transfer.pages

reader-by : (order : Order) (c : Command) (p : List ℕ) → spells order c p → byte_at 0 p ≢ 0xEB → byte_at 0 p ≢ 0xE4 → IsNoWrite p → IsReader c
unfolding IsReader
reader-by order (commands.SetCalPage mode segment page) p s a b n = a s.0.first
reader-by order (commands.CopyCalPage source source_page target target_page) p s a b n = b s.0.first
reader-by order (commands.Download k bytes) p s a b n = n.download s.0.first
reader-by order (commands.DownloadNext remaining bytes) p s a b n = n.next s.0.first
reader-by order (commands.DownloadMax bytes) p s a b n = n.max s.0.first
reader-by order (commands.ShortDownload k extension address bytes) p s a b n = n.short s.0.first
reader-by order (commands.ModifyBits k ma mx) p s a b n = n.bits s.0.first
reader-by order _ p s a b n = tt

led-same : (v x w : SlaveValue) → w ≡ x → SameMemory v.transfer.pages x.transfer.pages → SameMemory v.transfer.pages w.transfer.pages
led-same v x w e h = subst (λ (y : SlaveValue). SameMemory v.transfer.pages y.transfer.pages) (sym e) h

meets-reads : (c : Command) (v : SlaveValue) (x : Result (Option Reply) Reply) (w : SlaveValue) → IsReader c → Meets (row c (found_by c v)) (noblock v) x w → SameMemory v.transfer.pages w.transfer.pages
meets-reads c v (Ok o) w k m = led-same v _ w m.2 (row-reads c v k m.0)
meets-reads c v (Err e) w k m = led-same v (noblock v) w m.1 (same-memory v.transfer.pages)

heeds-reads : (v : SlaveValue) (p : List ℕ) (d : Result Command Refuse) (a : Answer) (w : SlaveValue) → byte_at 0 p ≢ 0xEB → byte_at 0 p ≢ 0xE4 → IsNoWrite p → Decodes (layout_of v).order p d → Heeds v d a w → SameMemory v.transfer.pages w.transfer.pages
heeds-reads v p (Ok c) a w b e n s k = either (v.connected || is_connect c) _ _ _ k (λ m. meets-reads c v m.0 w (reader-by (layout_of v).order c p s b e n) m.1) (λ m. led-same v v w m.1 (same-memory v.transfer.pages))
heeds-reads v p (Err refuses.Empty) a w b e n s k = led-same v v w k.1 (same-memory v.transfer.pages)
heeds-reads v p (Err refuses.Unknown) a w b e n s k = either v.connected _ _ _ k (λ m. led-same v (noblock v) w m.1 (same-memory v.transfer.pages)) (λ m. led-same v v w m.1 (same-memory v.transfer.pages))
heeds-reads v p (Err refuses.Short) a w b e n s k = either v.connected _ _ _ k (λ m. led-same v (noblock v) w m.1 (same-memory v.transfer.pages)) (λ m. led-same v v w m.1 (same-memory v.transfer.pages))

drains-reads : (o : List (ArrayVec ℕ)) (v : SlaveValue) (a : Answer) (w : SlaveValue) → Drains o v a w → SameMemory v.transfer.pages w.transfer.pages
drains-reads [] v a w k = led-same v v w k.1 (same-memory v.transfer.pages)
drains-reads (p ∷ rest) v a w k = led-same v (record v { outbox = rest }) w k.1 (same-memory v.transfer.pages)

reads-step : (v : SlaveValue) (q : Request) (a : Answer) (w : SlaveValue) → IsReading q → Answers v q a w → SameMemory v.transfer.pages w.transfer.pages
reads-step v (requests.Command p) a w q k = heeds-reads v p.items k.0 a w q.0 q.1 q.2 k.1 k.2
reads-step v (requests.Event channel signals) a w q k = absurd q
reads-step v requests.Drain a w q k = drains-reads v.outbox v a w k
reads-step v requests.FinishStore a w q k = absurd q
reads-step v requests.Hangup a w q k = led-same v (ended v) w k.1 (same-memory v.transfer.pages)
reads-step v (requests.Time time) a w q k = led-same v (at_time time v) w k.1 (same-memory v.transfer.pages)
reads-step v (requests.Signals place bytes) a w q k = absurd q

-- a run that writes, switches and copies nothing, with no event and no FinishStore, leaves the memory as it was
pub reads-run : (v : SlaveValue) (xs : List Exchange) (w : SlaveValue) → All (λ (x : Exchange). IsReading x.request) xs → Run v xs w → SameMemory v.transfer.pages w.transfer.pages
reads-run v [] w n r = led-same v v w r (same-memory v.transfer.pages)
reads-run v (x ∷ xs) w n r = same-trans v.transfer.pages r.0.transfer.pages w.transfer.pages (reads-step v x.request x.answer r.0 (n zero x (omega arith)) r.1) (reads-run r.0 xs w (λ k d below. n (suc k) d (omega arith)) r.2)

-- what was written reads back
pub read-back : (v m u z : SlaveValue) (xs : List Exchange) (n extension again a : ℕ) (items : ArrayVec ℕ) (bytes got : List ℕ) → IsSlave v → IsSlave u → Accepts v (commands.ShortDownload n extension a items) bytes m → All (λ (x : Exchange). IsReading x.request) xs → Run m xs u → Accepts u (commands.ShortUpload n again a) got z → got ≡ take n items.items
read-back v m u z xs n extension again a items bytes got h g wrote reading r read =
    let w = short-both v m n extension a items bytes h wrote in
    let same = reads-run m xs u reading r in
    let written : List ℕ = take n items.items in
    let inside : LiesInside u.transfer.pages.layout a n =
    subst (λ (l : LayoutValue). LiesInside l a n) (sym (same.layout ∙ w.0.layout)) (subst (λ (k : ℕ). LiesInside (layout_of v) a k) w.2 w.0.inside) in
    let stands : Reads Tool u.transfer.pages a n written = record { inside = inside; long = w.2; each = λ k below. same-tool m.transfer.pages u.transfer.pages (a + k) (slice_index written k) same (w.0.each k (let long = w.2 in omega arith)) } in
    let told = short-upload-reads u z n again a got g read in
    let one = (tool_is_read u.transfer.pages a n got g.transfer.layout g.transfer.pages).0 told in
    let other = (tool_is_read u.transfer.pages a n written g.transfer.layout g.transfer.pages).0 stands in
    one.1 ∙ sym other.1

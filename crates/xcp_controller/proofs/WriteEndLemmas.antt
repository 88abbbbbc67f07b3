-- Where writes end: what a packet that is no switch and no copy does to the memory, and where the MTA stands then.
use Rattle.std.proofs.Common.{◌≡◌, ◌≢◌, ℕ, ◌+◌, ◌-◌, ◌*◌, ◌<◌, ◌≤◌, Bool, true, false, List, [], ◌∷◌, ◌++◌, length, take, min, Option, Some, None, Result, Ok, Err, ap, sym, ◌∙◌, refl, subst, arith, inl, inr, nat_le, nat_lt, length-append}
use Rattle.std.specs.Prelude.{◌==◌, not, ◌||◌, if◌then◌else◌, ◌⊎◌}
use Rattle.std.proofs.lemmas.Bool.Decides.{nat_tests}
use Rattle.std.proofs.lemmas.List.{length-take-le}
use Rattle.xcp_packet.specs.ByteOrder.{byte_at}
use Rattle.xcp_packet.proofs.ByteOrderLemmas.{length-bytes_of}
use Rattle.xcp_packet.specs.CommandForms.{code}
use Rattle.xcp_packet.specs.CommandSpelling.{spells}
use Rattle.xcp_packet.specs.Decoding.{Decodes}
use Rattle.xcp_packet.specs.declared.Command.{Command}
use Rattle.xcp_packet.specs.declared.Command.TheVariants as commands
use Rattle.xcp_packet.specs.declared.Refuse.{Refuse}
use Rattle.xcp_packet.specs.declared.Refuse.TheVariants as refuses
use Rattle.xcp_packet.specs.declared.Reply.{Reply}
use Rattle.xcp_packet.specs.declared.Reply.TheVariants.{Done, Error, ErrorCount}
use Rattle.xcp_packet.specs.declared.Code.TheVariants.{OutOfRange, CmdSyntax, Sequence}
use Rattle.xcp_packet.specs.Rows.{Meets, first_holding, refused}
use Rattle.xcp_memory.specs.Layout.{LayoutValue}
use Rattle.xcp_memory.specs.Pages.{PagesValue}
use Rattle.xcp_memory.specs.ComputedAccess.{pages_written, write_refusal}
use Rattle.xcp_memory.specs.Freeze.{set_freeze_refusal}
use Rattle.xcp_transfer.specs.declared.mta.Mta.{Mta}
use Rattle.xcp_transfer.specs.declared.mta.Mta.TheVariants.{Nowhere, Memory, Text}
use Rattle.xcp_transfer.specs.TransferValue.{TransferValue, BlockValue, IsUnderWay}
use Rattle.xcp_transfer.specs.MtaAccess.{write_refusal_at, written_at, moved}
use Rattle.xcp_transfer.specs.Laws.{IsLawful}
use Rattle.xcp_transfer.specs.Downloads.{download_row, next_row, max_bs, packet_room, greatest_download, download_max_row, short_download_row, modify_bits_row}
use Rattle.xcp_slave.specs.Outcomes.{Answer}
use Rattle.xcp_slave.specs.declared.outcome.Outcome.TheVariants as answers
use Rattle.xcp_slave.specs.SlaveValue.{SlaveValue, layout_of, noblock}
use Rattle.xcp_slave.specs.Rows.{row}
use Rattle.xcp_slave.specs.Step.{AnswersPacket, Heeds, Executes, answer_of, sent_reply, found_by, is_connect}
use Rattle.xcp_slave.specs.MemoryEffects.{SameMemory, Write}
use Rattle.xcp_slave.proofs.StepLaws.{either}
use Rattle.xcp_slave.proofs.ListInvariantLemmas.{none-holds}
use Rattle.xcp_slave.proofs.TransferInvariantLemmas.{none-refused, none-behind}
use Rattle.xcp_slave.proofs.WriteLaws.{Written, IsPlain, same-memory, mode-same, plain-by, found-pages, enough, not-less, is_same}

-- A write that changed the pages: it was allowed, has 1 to 255 bytes, and the memory transfer address (MTA) then stands behind
-- its bytes.
pub record WritesUpTo (v w : SlaveValue) : Type 0 where
  pub write : Write
  pub some : 0 < length write.bytes
  pub few : length write.bytes ≤ 255
  pub allowed : write_refusal v.transfer.pages write.address (length write.bytes) ≡ None
  pub after : w.transfer.pages ≡ pages_written v.transfer.pages write.address write.bytes
  pub mta : w.transfer.mta ≡ Memory (write.address + length write.bytes)

-- A write of the four bytes at the MTA, which stays: MODIFY_BITS.
pub record WritesAt (v w : SlaveValue) : Type 0 where
  pub write : Write
  pub four : length write.bytes ≡ 4
  pub allowed : write_refusal v.transfer.pages write.address (length write.bytes) ≡ None
  pub after : w.transfer.pages ≡ pages_written v.transfer.pages write.address write.bytes
  pub mta : w.transfer.mta ≡ Memory write.address

-- how long the write of a command of this code is, and where the MTA stands after it
abbrev EndsAt : ℕ → Write → Mta → Type 0
EndsAt k x m =
    ((k ≡ 0xEC) × (length x.bytes ≡ 4) × (m ≡ Memory x.address))
    ⊎ ((k ≢ 0xEC) × (0 < length x.bytes) × (length x.bytes ≤ 255) × (m ≡ Memory (x.address + length x.bytes)))

-- what a command of this code does to pages, where it leaves the MTA, and what is told of a write
abbrev Leaves : ℕ → PagesValue → PagesValue → Mta → Option Reply → Type 0
Leaves k p q m reply = SameMemory p q ⊎ ((x : Written p q) × EndsAt k x.write m × (reply ≡ Some Done))

-- a write at an MTA, which moves behind it
ends-at : (k : ℕ) (p : PagesValue) (m : Mta) (bytes : List ℕ) (n : ℕ) → k ≢ 0xEC → write_refusal_at p m n ≡ None → length bytes ≡ n → 0 < n → n ≤ 255 → Leaves k p (written_at p m bytes) (moved m (length bytes)) (Some Done)
ends-at k p Nowhere bytes n other r e some few = inl (same-memory p)
ends-at k p (Memory a) bytes n other r e some few = inr (
  record { write = record { address = a; bytes = bytes }; allowed = ap (λ (j : ℕ). write_refusal p a j) e ∙ r; after = refl },
  inr (other, omega arith, omega arith, refl),
  refl,
)
ends-at k p (Text id place) bytes n other r e some few = inl (same-memory p)

-- a write of four bytes at an MTA, which stays
stays-at : (p : PagesValue) (m : Mta) (bytes : List ℕ) → write_refusal_at p m 4 ≡ None → length bytes ≡ 4 → Leaves 0xEC p (written_at p m bytes) m (Some Done)
stays-at p Nowhere bytes r e = inl (same-memory p)
stays-at p (Memory a) bytes r e = inr (
  record { write = record { address = a; bytes = bytes }; allowed = ap (λ (j : ℕ). write_refusal p a j) e ∙ r; after = refl },
  inl (refl, e, refl),
  refl,
)
stays-at p (Text id place) bytes r e = inl (same-memory p)

-- a packet that writes at once, or begins or continues a block
chosen : (k : ℕ) (p : PagesValue) (b : Bool) (s u : TransferValue) → (b ≡ true → Leaves k p s.pages s.mta (Some Done)) → SameMemory p u.pages → Leaves k p (if b then s else u).pages (if b then s else u).mta (if b then Some Done else None)
chosen k p true s u h same = h refl
chosen k p false s u h same = inl same

-- codes of commands above MODIFY_BITS
above : (k : ℕ) → 0xEC < k → k ≢ 0xEC
above k h e = absurd (omega arith)

-- a number of bytes that isn't refused
counted : (n most : ℕ) → (n == 0 || nat_lt most n) ≡ false → (0 < n) × (n ≤ most)
counted n most h = (grind (arith, nat_tests, h), grind (arith, nat_tests, h))

-- what is at most the lesser of two numbers is at most the second
at-most : (n a b : ℕ) → n ≤ min a b → n ≤ b
at-most n a b h = omega arith

-- a DOWNLOAD that isn't refused writes its bytes where one packet has them all, and leaves the memory where it begins a block
download-ends : (n : ℕ) (bytes : List ℕ) (t : TransferValue) → first_holding (download_row n bytes t).refusals ≡ None → Leaves 0xF0 t.pages (download_row n bytes t).after.pages (download_row n bytes t).after.mta (download_row n bytes t).reply
download-ends n bytes t r =
    let room : ℕ = packet_room t.pages.layout in
    let a = none-holds ((n == 0 || nat_lt (greatest_download t.pages.layout) n, Error OutOfRange) ∷ (nat_lt (length bytes) (min n room), Error CmdSyntax) ∷ refused (write_refusal_at t.pages t.mta n)) r in
    let w = none-behind (write_refusal_at t.pages t.mta n) a.1.1 in
    let c = counted n (greatest_download t.pages.layout) a.0 in
    chosen 0xF0 t.pages (nat_le n room) _ _
    (λ e. ends-at 0xF0 t.pages t.mta (take n bytes) n (above 0xF0 (omega arith)) w (length-take-le n bytes (enough (length bytes) n room a.1.0 e)) c.0 (at-most n (max_bs * packet_room t.pages.layout) 255 c.1))
    (same-memory t.pages)

-- a DOWNLOAD_NEXT that isn't refused writes the whole block where it is the last one, and leaves the memory where it isn't
next-ends : (o : Option BlockValue) (remaining : ℕ) (bytes : List ℕ) (t : TransferValue) → IsUnderWay t.pages o → first_holding (next_row o remaining bytes t).refusals ≡ None → Leaves 0xEF t.pages (next_row o remaining bytes t).after.pages (next_row o remaining bytes t).after.mta (next_row o remaining bytes t).reply
next-ends None remaining bytes t u r = inl (same-memory t.pages)
next-ends (Some b) remaining bytes t u r =
    let room : ℕ = packet_room t.pages.layout in
    let a = none-holds ((not (remaining == b.expected), ErrorCount Sequence b.expected) ∷ (nat_lt (length bytes) (min remaining room), Error CmdSyntax) ∷ []) r in
    let all : List ℕ = b.bytes ++ take remaining bytes in
    let long : nat_le remaining room ≡ true → length all ≡ length b.bytes + b.expected = λ e. omega (arith, length-append b.bytes (take remaining bytes), length-take-le remaining bytes (enough (length bytes) remaining room a.1.0 e), is_same remaining b.expected a.0) in
    chosen 0xEF t.pages (nat_le remaining room) _ _
    (λ e. ends-at 0xEF t.pages (Memory b.address) all (length b.bytes + b.expected) (above 0xEF (omega arith)) u.writable (long e) (omega (arith, u.some)) u.most)
    (same-memory t.pages)

-- a DOWNLOAD_MAX that isn't refused writes MAX_CTO - 1 bytes, which are 7 to 254
max-ends : (bytes : List ℕ) (t : TransferValue) → IsLawful t → first_holding (download_max_row bytes t).refusals ≡ None → Leaves 0xEE t.pages (download_max_row bytes t).after.pages (download_max_row bytes t).after.mta (Some Done)
max-ends bytes t h r =
    let n : ℕ = t.pages.layout.max_cto - 1 in
    let a = none-holds ((nat_lt (length bytes) n, Error CmdSyntax) ∷ refused (write_refusal_at t.pages t.mta n)) r in
    let w = none-behind (write_refusal_at t.pages t.mta n) a.1 in
    ends-at 0xEE t.pages t.mta (take n bytes) n (above 0xEE (omega arith)) w (length-take-le n bytes (not-less (length bytes) n a.0)) (omega (arith, h.layout.cto_least)) (omega (arith, h.layout.cto_most))

-- a SHORT_DOWNLOAD that isn't refused writes its bytes at its own address
short-ends : (n extension address : ℕ) (bytes : List ℕ) (t : TransferValue) → IsLawful t → first_holding (short_download_row n extension address bytes t).refusals ≡ None → Leaves 0xED t.pages (short_download_row n extension address bytes t).after.pages (short_download_row n extension address bytes t).after.mta (Some Done)
short-ends n extension address bytes t h r =
    let most : ℕ = t.pages.layout.max_cto - 8 in
    let a = none-holds ((n == 0 || nat_lt most n, Error OutOfRange) ∷ (not (extension == 0), Error OutOfRange) ∷ (nat_lt (length bytes) n, Error CmdSyntax) ∷ refused (write_refusal_at t.pages (Memory address) n)) r in
    let w = none-behind (write_refusal_at t.pages (Memory address) n) a.1.1.1 in
    let c = counted n most a.0 in
    ends-at 0xED t.pages (Memory address) (take n bytes) n (above 0xED (omega arith)) w (length-take-le n bytes (not-less (length bytes) n a.1.1.0)) c.0 (omega (arith, c.1, h.layout.cto_most))

-- a MODIFY_BITS that isn't refused writes four bytes at the MTA
bits-ends : (s ma mx : ℕ) (t : TransferValue) → first_holding (modify_bits_row s ma mx t).refusals ≡ None → Leaves 0xEC t.pages (modify_bits_row s ma mx t).after.pages (modify_bits_row s ma mx t).after.mta (Some Done)
bits-ends s ma mx t r =
    let a = none-holds ((nat_lt 31 s, Error OutOfRange) ∷ refused (write_refusal_at t.pages t.mta 4)) r in
    stays-at t.pages t.mta _ (none-behind (write_refusal_at t.pages t.mta 4) a.1) (length-bytes_of t.pages.layout.order 4 _)

-- a command that is no switch and no copy and isn't refused
row-leaves : (c : Command) (v : SlaveValue) → IsPlain c → IsLawful v.transfer → first_holding (row c v).refusals ≡ None → Leaves (code c) v.transfer.pages (row c v).after.transfer.pages (row c v).after.transfer.mta (row c v).reply
row-leaves (commands.Download n bytes) v k h r = download-ends n bytes.items v.transfer r
row-leaves (commands.DownloadNext remaining bytes) v k h r = next-ends v.transfer.block remaining bytes.items v.transfer h.transfer.block r
row-leaves (commands.DownloadMax bytes) v k h r = max-ends bytes.items v.transfer h r
row-leaves (commands.ShortDownload n extension address bytes) v k h r = short-ends n extension address bytes.items v.transfer h r
row-leaves (commands.ModifyBits s ma mx) v k h r = bits-ends s ma mx v.transfer r
row-leaves (commands.SetSegmentMode mode segment) v k h r = inl (mode-same v.transfer.pages mode segment (none-refused (set_freeze_refusal mode segment v.transfer.pages) r))
row-leaves (commands.SetCalPage mode segment page) v k h r = absurd k
row-leaves (commands.CopyCalPage source source_page target target_page) v k h r = absurd k
row-leaves _ v k h r = inl (same-memory v.transfer.pages)

-- what a command finds is lawful
found-lawful : (c : Command) (v : SlaveValue) → IsLawful v.transfer → IsLawful (found_by c v).transfer
found-lawful (commands.DownloadNext remaining bytes) v h = h
found-lawful _ v h = record { layout = h.layout; pages = h.pages; transfer = record { mta = h.transfer.mta; block = tt } }

-- w is a slave with the memory of v
led : (v x w : SlaveValue) → w ≡ x → SameMemory v.transfer.pages x.transfer.pages → SameMemory v.transfer.pages w.transfer.pages
led v x w e h = subst (λ (y : SlaveValue). SameMemory v.transfer.pages y.transfer.pages) (sym e) h

-- the same of a command whose row is met
meets-leaves : (c : Command) (v : SlaveValue) (x : Result (Option Reply) Reply) (w : SlaveValue) → IsPlain c → IsLawful v.transfer → Meets (row c (found_by c v)) (noblock v) x w → Leaves (code c) v.transfer.pages w.transfer.pages w.transfer.mta (sent_reply x)
meets-leaves c v (Ok o) w k h m =
    let ends = row-leaves c (found_by c v) k (found-lawful c v h) m.0 in
    let after : SlaveValue = (row c (found_by c v)).after in
    let mine : Leaves (code c) v.transfer.pages after.transfer.pages after.transfer.mta (row c (found_by c v)).reply = subst (λ (p : PagesValue). Leaves (code c) p after.transfer.pages after.transfer.mta (row c (found_by c v)).reply) (found-pages c v) ends in
    let told : Leaves (code c) v.transfer.pages after.transfer.pages after.transfer.mta o = subst (λ (reply : Option Reply). Leaves (code c) v.transfer.pages after.transfer.pages after.transfer.mta reply) (sym m.1) mine in
    subst (λ (y : SlaveValue). Leaves (code c) v.transfer.pages y.transfer.pages y.transfer.mta o) (sym m.2) told
meets-leaves c v (Err e) w k h m = inl (led v (noblock v) w m.1 (same-memory v.transfer.pages))

-- what a packet whose first byte is n does to the memory
abbrev Does : ℕ → SlaveValue → SlaveValue → Type 0
Does n v w = SameMemory v.transfer.pages w.transfer.pages ⊎ (((n ≡ 0xEC) × WritesAt v w) ⊎ ((n ≢ 0xEC) × WritesUpTo v w))

-- a command's code is its packet's first byte
by-code : (k n : ℕ) (v w : SlaveValue) (reply : Option Reply) → n ≡ k → Leaves k v.transfer.pages w.transfer.pages w.transfer.mta reply → Does n v w
by-code k n v w reply e (inl s) = inl s
by-code k n v w reply e (inr x) =
    elim x.1 [
      | inl d ↦ inr (inl (e ∙ d.0, record { write = x.0.write; four = d.1; allowed = x.0.allowed; after = x.0.after; mta = d.2 }))
      | inr d ↦ inr (inr (λ f. d.0 (sym e ∙ f), record { write = x.0.write; some = d.1; few = d.2; allowed = x.0.allowed; after = x.0.after; mta = d.3 }))
    ]

-- what holds where the memory is the same, and of each command that is executed, holds of what a packet does
heeds-by : (R : Type 0) (v : SlaveValue) (p : List ℕ) (d : Result Command Refuse) (a : Answer) (w : SlaveValue) → (SameMemory v.transfer.pages w.transfer.pages → R) → ((c : Command) → spells (layout_of v).order c p → Executes c v a w → R) → Decodes (layout_of v).order p d → Heeds v d a w → R
heeds-by R v p (Ok c) a w same does s k = either (v.connected || is_connect c) _ _ _ k (λ m. does c s m) (λ m. same (led v v w m.1 (same-memory v.transfer.pages)))
heeds-by R v p (Err refuses.Empty) a w same does s k = same (led v v w k.1 (same-memory v.transfer.pages))
heeds-by R v p (Err refuses.Unknown) a w same does s k = either v.connected _ _ _ k (λ m. same (led v (noblock v) w m.1 (same-memory v.transfer.pages))) (λ m. same (led v v w m.1 (same-memory v.transfer.pages)))
heeds-by R v p (Err refuses.Short) a w same does s k = either v.connected _ _ _ k (λ m. same (led v (noblock v) w m.1 (same-memory v.transfer.pages))) (λ m. same (led v v w m.1 (same-memory v.transfer.pages)))

-- A packet that is no switch (SET_CAL_PAGE, EB) and no copy (COPY_CAL_PAGE, E4) leaves the memory as it was, or does one write:
-- MODIFY_BITS (EC) at the MTA, which stays, and each other one up to where the MTA then stands.
pub packet-writes : (v : SlaveValue) (p : List ℕ) (a : Answer) (w : SlaveValue) → IsLawful v.transfer → byte_at 0 p ≢ 0xEB → byte_at 0 p ≢ 0xE4 → AnswersPacket v p a w → SameMemory v.transfer.pages w.transfer.pages ⊎ (((byte_at 0 p ≡ 0xEC) × WritesAt v w) ⊎ ((byte_at 0 p ≢ 0xEC) × WritesUpTo v w))
packet-writes v p a w h switch copy k =
    heeds-by (Does (byte_at 0 p) v w) v p k.0 a w (λ s. inl s)
    (λ c s m. by-code (code c) (byte_at 0 p) v w (sent_reply m.0) s.0.first (meets-leaves c v m.0 w (plain-by (layout_of v).order c p s switch copy) h m.1))
    k.1 k.2

-- a command is no switch and no copy, or it is replied to
plain-or-told : (c : Command) → IsPlain c ⊎ ((v : SlaveValue) → (row c v).reply ≡ Some Done)
plain-or-told (commands.SetCalPage mode segment page) = inr (λ v. refl)
plain-or-told (commands.CopyCalPage source source_page target target_page) = inr (λ v. refl)
plain-or-told _ = inl tt

-- a write is replied to
untold : (k : ℕ) (p q : PagesValue) (m : Mta) (reply : Option Reply) → Leaves k p q m reply → reply ≡ None → SameMemory p q
untold k p q m reply (inl s) e = s
untold k p q m reply (inr x) e = absurd (let f : Some Done ≡ None = sym x.2 ∙ e in cc)

-- an executed command to which nothing is replied leaves the memory as it was
meets-untold : (c : Command) (v : SlaveValue) (x : Result (Option Reply) Reply) (w : SlaveValue) → IsLawful v.transfer → Meets (row c (found_by c v)) (noblock v) x w → sent_reply x ≡ None → SameMemory v.transfer.pages w.transfer.pages
meets-untold c v (Ok o) w h m e =
    elim (plain-or-told c) [
      | inl k ↦ untold (code c) v.transfer.pages w.transfer.pages w.transfer.mta o (meets-leaves c v (Ok o) w k h m) e
      | inr told ↦ absurd (let f : Some Done ≡ None = sym (told (found_by c v)) ∙ sym m.1 ∙ e in cc)
    ]
meets-untold c v (Err r) w h m e = led v (noblock v) w m.1 (same-memory v.transfer.pages)

-- where nothing is sent, nothing is replied
unsent : (l : LayoutValue) (o : Option Reply) → answers.Silent ≡ answer_of l o → o ≡ None
unsent l None h = refl
unsent l (Some reply) h = cc

-- a packet behind which nothing is sent leaves the memory as it was, whatever its code
pub silent-keeps : (v : SlaveValue) (p : List ℕ) (w : SlaveValue) → IsLawful v.transfer → AnswersPacket v p answers.Silent w → SameMemory v.transfer.pages w.transfer.pages
silent-keeps v p w h k =
    heeds-by (SameMemory v.transfer.pages w.transfer.pages) v p k.0 answers.Silent w (λ s. s)
    (λ c s m. meets-untold c v m.0 w h m.1 (unsent (layout_of v) (sent_reply m.0) m.2))
    k.1 k.2

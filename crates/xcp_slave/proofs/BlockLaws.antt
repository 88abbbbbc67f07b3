-- Packets of a block that have no answer.
use Rattle.std.proofs.Common.{◌≡◌, ℕ, ◌-◌, Bool, true, false, List, [], ◌∷◌, ◌++◌, length, take, min, Option, Some, None, Result, Ok, Err, ap, sym, ◌∙◌, refl, subst, arith, nat_le, nat_lt, ◌<◌, ◌≤◌}
use Rattle.std.specs.Prelude.{◌==◌, not, ◌||◌, if◌then◌else◌}
use Rattle.std.proofs.lemmas.Bool.Decides.{nat_tests}
use Rattle.std.proofs.lemmas.List.{length-take-le}
use Rattle.arrayvec.specs.ArrayVec.{ArrayVec}
use Rattle.xcp_packet.proofs.DecodingLaws.{decodes_once}
use Rattle.xcp_packet.specs.Rows.{Meets, first_holding, refused}
use Rattle.xcp_packet.specs.CommandSpelling.{spells}
use Rattle.xcp_packet.specs.declared.Command.{Command}
use Rattle.xcp_packet.specs.declared.Command.TheVariants as commands
use Rattle.xcp_packet.specs.declared.Refuse.{Refuse}
use Rattle.xcp_packet.specs.declared.Reply.{Reply}
use Rattle.xcp_packet.specs.declared.Reply.TheVariants.{Done, Error, ErrorCount}
use Rattle.xcp_packet.specs.declared.Code.TheVariants.{CmdSyntax, OutOfRange, Sequence}
use Rattle.xcp_transfer.specs.declared.Mta.{Mta}
use Rattle.xcp_transfer.specs.declared.Mta.TheVariants.{Memory}
use Rattle.xcp_transfer.specs.TransferValue.{TransferValue, BlockValue}
use Rattle.xcp_transfer.specs.MtaAccess.{write_refusal_at}
use Rattle.xcp_transfer.specs.Downloads.{next_row, packet_room, greatest_download, downloaded, block_begun, block_with}
use Rattle.xcp_slave.specs.declared.request.Request.TheVariants as requests
use Rattle.xcp_slave.specs.declared.outcome.Outcome.TheVariants as answers
use Rattle.xcp_slave.specs.SlaveValue.{SlaveValue, layout_of, noblock}
use Rattle.xcp_slave.specs.Rows.{row}
use Rattle.xcp_slave.specs.Step.{Answers, Heeds, answer_of, sent_reply, found_by, is_connect}
use Rattle.xcp_slave.proofs.ListInvariantLemmas.{none-holds}
use Rattle.xcp_slave.proofs.TransferInvariantLemmas.{next-sizes}
use Rattle.xcp_slave.proofs.SlaveInvariantLaws.{either-test}
use Rattle.xcp_slave.proofs.PageLaws.{connected-or}

-- a command that is executed without an answer
record Unanswered (c : Command) (v w : SlaveValue) : Type 0 where
  allowed : first_holding (row c (found_by c v)).refusals ≡ None
  unsaid : (row c (found_by c v)).reply ≡ None
  after : w ≡ (row c (found_by c v)).after

unsaid-by : (c : Command) (v w : SlaveValue) (x : Result (Option Reply) Reply) → Meets (row c (found_by c v)) (noblock v) x w → answers.Silent ≡ answer_of (layout_of v) (sent_reply x) → Unanswered c v w
unsaid-by c v w (Ok None) m e = record { allowed = m.0; unsaid = sym m.1; after = m.2 }
unsaid-by c v w (Ok (Some reply)) m e = absurd (let z : ⊥ = cc in z)
unsaid-by c v w (Err f) m e = absurd (let z : ⊥ = cc in z)

unanswered : (c : Command) (v w : SlaveValue) (packet : ArrayVec ℕ) → v.connected ≡ true → spells (layout_of v).order c packet.items → Answers v (requests.Command packet) answers.Silent w → Unanswered c v w
unanswered c v w packet on s k =
    let same : k.0 ≡ Ok c = decodes_once (layout_of v).order packet.items k.0 (Ok c) k.1 s in
    let heeds : Heeds v (Ok c) answers.Silent w = subst (λ (d : Result Command Refuse). Heeds v d answers.Silent w) same k.2 in
    either-test (v.connected || is_connect c) _ _ _ (λ t m. unsaid-by c v w m.0 m.1 m.2) (λ t m. absurd (connected-or v.connected (is_connect c) on t)) heeds

is_unsaid : (b : Bool) → (if b then Some Done else None) ≡ None → b ≡ false
is_unsaid true h = cc
is_unsaid false h = refl

begin-sizes : (n room long : ℕ) → nat_lt long (min n room) ≡ false → nat_le n room ≡ false → (room < n) × (room ≤ long)
begin-sizes n room long a b = (grind (arith, nat_tests, b), grind (arith, nat_tests, a, b))

-- a DOWNLOAD with no answer has more bytes than its packet, which is full
pub begin-room : (v w : SlaveValue) (n : ℕ) (items packet : ArrayVec ℕ) → v.connected ≡ true → spells (layout_of v).order (commands.Download n items) packet.items → Answers v (requests.Command packet) answers.Silent w → (packet_room (layout_of v) < n) × (packet_room (layout_of v) ≤ length items.items)
begin-room v w n items packet on s h =
    let k = unanswered (commands.Download n items) v w packet on s h in
    let room : ℕ = packet_room (layout_of v) in
    let a = none-holds ((n == 0 || nat_lt (greatest_download (layout_of v)) n, Error OutOfRange) ∷ (nat_lt (length items.items) (min n room), Error CmdSyntax) ∷ refused (write_refusal_at v.transfer.pages v.transfer.mta n)) k.allowed in
    begin-sizes n room (length items.items) a.1.0 (is_unsaid (nat_le n room) k.unsaid)

-- and so has a DOWNLOAD_NEXT, which tells how many are left
pub next-room : (v w : SlaveValue) (remaining : ℕ) (items packet : ArrayVec ℕ) (b : BlockValue) → v.connected ≡ true → v.transfer.block ≡ Some b → spells (layout_of v).order (commands.DownloadNext remaining items) packet.items → Answers v (requests.Command packet) answers.Silent w → (remaining ≡ b.expected) × (packet_room (layout_of v) < remaining) × (packet_room (layout_of v) ≤ length items.items)
next-room v w remaining items packet b on e s h =
    let k = unanswered (commands.DownloadNext remaining items) v w packet on s h in
    let room : ℕ = packet_room (layout_of v) in
    let r = none-holds ((not (remaining == b.expected), ErrorCount Sequence b.expected) ∷ (nat_lt (length items.items) (min remaining room), Error CmdSyntax) ∷ []) (ap (λ (o : Option BlockValue). first_holding (next_row o remaining items.items v.transfer).refusals) (sym e) ∙ k.allowed) in
    let more : nat_le remaining room ≡ false = is_unsaid (nat_le remaining room) (ap (λ (o : Option BlockValue). (next_row o remaining items.items v.transfer).reply) (sym e) ∙ k.unsaid) in
    next-sizes remaining b.expected room (length items.items) r.0 r.1.0 more

is-more : (n room : ℕ) → room < n → nat_le n room ≡ false
is-more n room h = grind (arith, nat_tests, h)

-- the first packet of a block
pub block-begins : (v w : SlaveValue) (n a : ℕ) (items packet : ArrayVec ℕ) → v.connected ≡ true → v.transfer.mta ≡ Memory a → spells (layout_of v).order (commands.Download n items) packet.items → Answers v (requests.Command packet) answers.Silent w → w ≡ record v { transfer = record v.transfer { block = Some (record { address = a; expected = n - ((layout_of v).max_cto - 2); bytes = take ((layout_of v).max_cto - 2) items.items }) } }
block-begins v w n a items packet on e s h =
    let k = unanswered (commands.Download n items) v w packet on s h in
    let room : ℕ = packet_room (layout_of v) in
    let t : TransferValue = record v.transfer { block = None } in
    let with : TransferValue → SlaveValue = λ x. record v { transfer = x } in
    let more : nat_le n room ≡ false = is_unsaid (nat_le n room) k.unsaid in
    k.after
    ∙ ap (λ (b : Bool). with (if b then downloaded t t.mta (take n items.items) else record t { block = block_begun t.mta (n - room) (take room items.items) })) more
    ∙ ap (λ (m : Mta). with (record t { block = block_begun m (n - room) (take room items.items) })) e

-- a further packet, which isn't its last
pub block-goes-on : (v w : SlaveValue) (remaining : ℕ) (items packet : ArrayVec ℕ) (b : BlockValue) → v.connected ≡ true → v.transfer.block ≡ Some b → spells (layout_of v).order (commands.DownloadNext remaining items) packet.items → Answers v (requests.Command packet) answers.Silent w → (remaining ≡ b.expected) × (w ≡ record v { transfer = record v.transfer { block = Some (record { address = b.address; expected = b.expected - ((layout_of v).max_cto - 2); bytes = b.bytes ++ take ((layout_of v).max_cto - 2) items.items }) } })
block-goes-on v w remaining items packet b on e s h =
    let k = unanswered (commands.DownloadNext remaining items) v w packet on s h in
    let room : ℕ = packet_room (layout_of v) in
    let t : TransferValue = v.transfer in
    let with : TransferValue → SlaveValue = λ x. record v { transfer = x } in
    let sizes = next-room v w remaining items packet b on e s h in
    let more : nat_le remaining room ≡ false = is-more remaining room sizes.1 in
    let all : List ℕ = b.bytes ++ take remaining items.items in
    let part : List ℕ = take room items.items in (
      sizes.0,
      k.after
          ∙ ap (λ (o : Option BlockValue). with (next_row o remaining items.items t).after) e
          ∙ ap (λ (c : Bool). with (if c then downloaded t (Memory b.address) all else record t { block = Some (block_with b part) })) more
          ∙ ap (λ (n : ℕ). with (record t { block = Some (record { address = b.address; expected = b.expected - n; bytes = b.bytes ++ part }) })) (length-take-le room items.items sizes.2),
    )

-- The packets of an UPLOAD that is accepted.
use Rattle.std.proofs.Common.{◌≡◌, ℕ, ◌+◌, ◌-◌, ◌/◌, ◌<◌, ◌≤◌, List, [], ◌∷◌, length, take, drop, Option, Some, None, Bool, true, false, refl, Result, Ok, Err, sym, ap, subst, ◌∙◌, arith, length-drop}
use Rattle.std.specs.Prelude.{◌==◌, ◌||◌, not, MatchBool}
use Rattle.std.proofs.Math.Nat.{div-eq-sub-div}
use Rattle.std.proofs.lemmas.Bool.Decides.{nat_tests}
use Rattle.std.proofs.lemmas.List.{length-take}
use Rattle.arrayvec.specs.ArrayVec.{ArrayVec}
use Rattle.xcp_packet.proofs.DecodingLaws.{decodes_once}
use Rattle.xcp_packet.proofs.ReplyPacketLaws.{error_packet, first_of}
use Rattle.xcp_packet.specs.BlockPacketLemmas.{block_count, block_piece, block_joined}
use Rattle.xcp_packet.specs.CommandSpelling.{spells}
use Rattle.xcp_packet.specs.PacketTrains.{block_packets}
use Rattle.xcp_packet.specs.Rows.{first_holding}
use Rattle.xcp_packet.specs.declared.Command.{Command}
use Rattle.xcp_packet.specs.declared.Command.TheVariants as commands
use Rattle.xcp_packet.specs.declared.Refuse.{Refuse}
use Rattle.xcp_packet.specs.declared.Reply.{Reply}
use Rattle.xcp_packet.specs.declared.Reply.TheVariants as replies
use Rattle.xcp_packet.specs.declared.Code.TheVariants.{OutOfRange, AccessDenied}
use Rattle.xcp_memory.proofs.AreaLaws.{inside_computes}
use Rattle.xcp_memory.proofs.ReadLaws.{tool_is_read}
use Rattle.xcp_memory.specs.ComputedAccess.{lies_inside, tool_bytes}
use Rattle.xcp_memory.specs.Memory.{LiesInside, Tool, Reads}
use Rattle.xcp_transfer.specs.declared.mta.Mta.{Mta}
use Rattle.xcp_transfer.specs.declared.mta.Mta.TheVariants.{Memory, Text}
use Rattle.xcp_transfer.specs.declared.mta.TextId.{TextId}
use Rattle.xcp_transfer.specs.MtaAccess.{is_readable, bytes_at}
use Rattle.xcp_transfer.specs.TransferValue.{response_room, text_of}
use Rattle.xcp_slave.specs.declared.request.Request.TheVariants as requests
use Rattle.xcp_slave.specs.Outcomes.{Answer}
use Rattle.xcp_slave.specs.declared.outcome.Outcome.TheVariants as answers
use Rattle.xcp_slave.specs.SlaveValue.{SlaveValue, layout_of}
use Rattle.xcp_slave.specs.Rows.{row}
use Rattle.xcp_slave.specs.Step.{Answers, Executes, Heeds, answer_of, found_by, is_connect}
use Rattle.xcp_slave.specs.SlaveInvariant.{IsSlave}
use Rattle.xcp_slave.specs.AcceptedCommands.{Accepts, IsCut}
use Rattle.xcp_slave.proofs.StepLaws.{either}
use Rattle.xcp_slave.proofs.RefusalCodeLemmas.{refusal-begins}
use Rattle.xcp_slave.proofs.RefusalLaws.{ff-fe, packets_told}
use Rattle.xcp_slave.proofs.ListInvariantLemmas.{none-holds}
use Rattle.xcp_slave.proofs.AcceptedCommandLaws.{accepted, upload-reads, upload-text-reads}

-- an UPLOAD that is accepted, and the packets that answer it
record Uploads (v w : SlaveValue) (n : ℕ) (packets : List (List ℕ)) : Type 0 where
  bytes : List ℕ
  accepts : Accepts v (commands.Upload n) bytes w
  same : packets ≡ block_packets (response_room (layout_of v)) bytes

-- its packets are those of the bytes at the MTA
replied : (v : SlaveValue) (n : ℕ) (o : Option Reply) (ps : List (List ℕ)) → o ≡ (row (commands.Upload n) (found_by (commands.Upload n) v)).reply → answers.Packets ps ≡ answer_of (layout_of v) o → ps ≡ block_packets (response_room (layout_of v)) (bytes_at v.transfer.pages v.transfer.mta n)
replied v n o ps r e = ap packets_told (e ∙ ap (answer_of (layout_of v)) r)

-- a positive response is no error packet
refused : (c : Command) (v : SlaveValue) (e : Reply) (first : List ℕ) (more : List (List ℕ)) (R : Type 0) → first_holding (row c (found_by c v)).refusals ≡ Some e → answers.Packets ((0xFF ∷ first) ∷ more) ≡ answer_of (layout_of v) (Some e) → R
refused c v e first more R h s =
    let f = refusal-begins (layout_of v).order c (found_by c v) e h in
    let alone = error_packet (layout_of v).order (response_room (layout_of v)) e f.0 f.1 in
    absurd (ff-fe first f.0 (ap first_of (ap packets_told s ∙ alone) ∙ f.1))

executes : (v w : SlaveValue) (n : ℕ) (first : List ℕ) (more : List (List ℕ)) → Executes (commands.Upload n) v (answers.Packets ((0xFF ∷ first) ∷ more)) w → (0xFF ∷ first) ∷ more ≡ block_packets (response_room (layout_of v)) (bytes_at v.transfer.pages v.transfer.mta n)
executes v w n first more (Ok o, m, e) = replied v n o _ m.1 e
executes v w n first more (Err f, m, e) = refused (commands.Upload n) v f first more _ m.0 e

uploads : (v w : SlaveValue) (n : ℕ) (packet : ArrayVec ℕ) (first : List ℕ) (more : List (List ℕ)) → spells (layout_of v).order (commands.Upload n) packet.items → Answers v (requests.Command packet) (answers.Packets ((0xFF ∷ first) ∷ more)) w → Uploads v w n ((0xFF ∷ first) ∷ more)
uploads v w n packet first more spelt h =
    let same : h.0 ≡ Ok (commands.Upload n) = decodes_once (layout_of v).order packet.items h.0 (Ok (commands.Upload n)) h.1 spelt in
    let heeds : Heeds v (Ok (commands.Upload n)) (answers.Packets ((0xFF ∷ first) ∷ more)) w = subst (λ (d : Result Command Refuse). Heeds v d (answers.Packets ((0xFF ∷ first) ∷ more)) w) same h.2 in
    let told : (0xFF ∷ first) ∷ more ≡ block_packets (response_room (layout_of v)) (bytes_at v.transfer.pages v.transfer.mta n) = either (v.connected || is_connect (commands.Upload n)) _ _ _ heeds (executes v w n first more) (λ m. let e = m.0 in absurd (let z : ⊥ = cc in z)) in
    record { bytes = bytes_at v.transfer.pages v.transfer.mta n; accepts = record { packet = packet; spelt = spelt; answered = subst (λ (ps : List (List ℕ)). Answers v (requests.Command packet) (answers.Packets ps) w) told h }; same = told }

-- an accepted UPLOAD is of at least one byte
some-bytes : (v w : SlaveValue) (n : ℕ) (bytes : List ℕ) → Accepts v (commands.Upload n) bytes w → 0 < n
some-bytes v w n bytes h =
    let k = accepted (commands.Upload n) v bytes w h in
    let t = none-holds ((n == 0, replies.Error OutOfRange) ∷ (not (is_readable v.transfer.pages v.transfer.mta n), replies.Error AccessDenied) ∷ []) k.allowed in
    grind (arith, nat_tests, t.0)

-- n bytes fill n / width packets, rounded up
rounded-up : (n width : ℕ) → 0 < width → 0 < n → (n - 1) / width + 1 ≡ (n + (width - 1)) / width
rounded-up n width some long =
    let inside : width ≤ n + (width - 1) = omega arith in
    let left : (n + (width - 1)) - width ≡ n - 1 = omega arith in
    sym (div-eq-sub-div some inside ∙ ap (λ (k : ℕ). k / width + 1) left)

-- the packets of a block are its bytes, cut
cut : (room : ℕ) (bytes : List ℕ) → 0 < room → 0 < length bytes → IsCut room bytes (block_packets room bytes)
cut room bytes some long = record { count = block_count room bytes ∙ rounded-up (length bytes) room some long; each = λ i h. block_piece room i bytes some h; joined = block_joined room bytes }

-- MAX_CTO - 1 is at least one
some-room : (v : SlaveValue) → IsSlave v → 0 < response_room (layout_of v)
some-room v s = let least = s.transfer.layout.cto_least in omega arith

-- a positive answer to UPLOAD with the MTA at an address
pub upload-packets : (v w : SlaveValue) (n a : ℕ) (packet : ArrayVec ℕ) (first : List ℕ) (more : List (List ℕ)) → IsSlave v → v.transfer.mta ≡ Memory a → spells (layout_of v).order (commands.Upload n) packet.items → Answers v (requests.Command packet) (answers.Packets ((0xFF ∷ first) ∷ more)) w → (bytes : List ℕ) × Reads Tool v.transfer.pages a n bytes × IsCut ((layout_of v).max_cto - 1) bytes ((0xFF ∷ first) ∷ more)
upload-packets v w n a packet first more s e spelt h =
    let u = uploads v w n packet first more spelt h in
    let reads = upload-reads v w n a u.bytes s e u.accepts in
    let long : 0 < length u.bytes = subst (λ (k : ℕ). 0 < k) (sym reads.long) (some-bytes v w n u.bytes u.accepts) in
    (u.bytes, reads, subst (IsCut (response_room (layout_of v)) u.bytes) (sym u.same) (cut (response_room (layout_of v)) u.bytes (some-room v s) long))

-- the same with the MTA in a text
pub upload-text-packets : (v w : SlaveValue) (n place : ℕ) (id : TextId) (packet : ArrayVec ℕ) (first : List ℕ) (more : List (List ℕ)) → IsSlave v → v.transfer.mta ≡ Text id place → spells (layout_of v).order (commands.Upload n) packet.items → Answers v (requests.Command packet) (answers.Packets ((0xFF ∷ first) ∷ more)) w → (place + n ≤ length (text_of (layout_of v) id)) × IsCut ((layout_of v).max_cto - 1) (take n (drop place (text_of (layout_of v) id))) ((0xFF ∷ first) ∷ more)
upload-text-packets v w n place id packet first more s e spelt h =
    let u = uploads v w n packet first more spelt h in
    let text = text_of (layout_of v) id in
    let read = upload-text-reads v w n place id u.bytes e u.accepts in
    let inside : place + n ≤ length text = read.0 in
    let some = some-bytes v w n u.bytes u.accepts in
    let long : 0 < length (take n (drop place text)) = omega (arith, length-take n (drop place text), length-drop place text, inside, some) in
    let told : (0xFF ∷ first) ∷ more ≡ block_packets (response_room (layout_of v)) (take n (drop place text)) = u.same ∙ ap (block_packets (response_room (layout_of v))) read.1 in
    (read.0, subst (IsCut (response_room (layout_of v)) (take n (drop place text))) (sym told) (cut (response_room (layout_of v)) (take n (drop place text)) (some-room v s) long))

-- a test that holds has its first case
held : (t : Bool) (P Q : Type 0) → t ≡ true → MatchBool t P Q → P
held true P Q e h = h
held false P Q e h = cc

-- of two tests that fail none holds
none-refuses : (s t : Bool) (e f g : Reply) → s ≡ false → t ≡ false → first_holding ((s, e) ∷ (t, f) ∷ []) ≡ Some g → ⊥
none-refuses true t e f g h k r = cc
none-refuses false true e f g h k r = cc
none-refuses false false e f g h k r = let z : ◌≡◌ {A = Option Reply} None (Some g) = r in cc

-- what may be read is answered with its bytes
answered : (v w : SlaveValue) (n : ℕ) (answer : Answer) → 0 < n → is_readable v.transfer.pages v.transfer.mta n ≡ true → Executes (commands.Upload n) v answer w → answer ≡ answers.Packets (block_packets (response_room (layout_of v)) (bytes_at v.transfer.pages v.transfer.mta n))
answered v w n answer some readable (Ok o, m, e) = e ∙ ap (answer_of (layout_of v)) m.1
answered v w n answer some readable (Err f, m, e) =
    let above : (n == 0) ≡ false = grind (arith, nat_tests, some) in
    absurd (none-refuses (n == 0) (not (is_readable v.transfer.pages v.transfer.mta n)) (replies.Error OutOfRange) (replies.Error AccessDenied) f above (ap not readable) m.0)

-- an UPLOAD of bytes that lie in one area is accepted
pub upload-answered : (v w : SlaveValue) (n a : ℕ) (packet : ArrayVec ℕ) (answer : Answer) → IsSlave v → v.connected ≡ true → v.transfer.mta ≡ Memory a → 0 < n → LiesInside (layout_of v) a n → spells (layout_of v).order (commands.Upload n) packet.items → Answers v (requests.Command packet) answer w → (bytes : List ℕ) × (packets : List (List ℕ)) × Reads Tool v.transfer.pages a n bytes × (answer ≡ answers.Packets packets) × IsCut ((layout_of v).max_cto - 1) bytes packets
upload-answered v w n a packet answer s connected e some lies spelt h =
    let room = response_room (layout_of v) in
    let bytes = tool_bytes v.transfer.pages a n in
    let same : h.0 ≡ Ok (commands.Upload n) = decodes_once (layout_of v).order packet.items h.0 (Ok (commands.Upload n)) h.1 spelt in
    let heeds : Heeds v (Ok (commands.Upload n)) answer w = subst (λ (d : Result Command Refuse). Heeds v d answer w) same h.2 in
    let inside : lies_inside (layout_of v) a n ≡ true = inside_computes (layout_of v) a n lies in
    let readable : is_readable v.transfer.pages v.transfer.mta n ≡ true = ap (λ (m : Mta). is_readable v.transfer.pages m n) e ∙ inside in
    let told = answered v w n answer some readable (held (v.connected || is_connect (commands.Upload n)) _ _ (ap (λ (b : Bool). b || is_connect (commands.Upload n)) connected) heeds) in
    let reads : Reads Tool v.transfer.pages a n bytes = (tool_is_read v.transfer.pages a n bytes s.transfer.layout s.transfer.pages).1 (inside, refl) in
    let long : 0 < length bytes = subst (λ (k : ℕ). 0 < k) (sym reads.long) some in
    (bytes, block_packets room bytes, reads, told ∙ ap (λ (m : Mta). answers.Packets (block_packets room (bytes_at v.transfer.pages m n))) e, cut room bytes (some-room v s) long)

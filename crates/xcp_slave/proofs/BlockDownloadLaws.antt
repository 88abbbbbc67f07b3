-- A whole block.
use Rattle.std.proofs.Common.{◌≡◌, ◌≢◌, ℕ, zero, suc, ◌+◌, ◌-◌, Bool, true, List, [], ◌∷◌, ◌++◌, length, take, Some, None, Result, Err, ap, sym, ◌∙◌, refl, subst, arith, inl, inr, length-append, All}
use Rattle.std.proofs.lemmas.List.{append-nil, append_assoc, length-take-le}
use Rattle.arrayvec.specs.ArrayVec.{ArrayVec}
use Rattle.xcp_packet.proofs.DecodingLaws.{decodes_once}
use Rattle.xcp_packet.specs.declared.Command.{Command}
use Rattle.xcp_packet.specs.declared.Command.TheVariants as commands
use Rattle.xcp_packet.specs.declared.Refuse.{Refuse}
use Rattle.xcp_packet.specs.declared.Refuse.TheVariants as refuses
use Rattle.xcp_memory.specs.Memory.{Writes}
use Rattle.xcp_transfer.specs.declared.mta.Mta.TheVariants.{Memory}
use Rattle.xcp_transfer.specs.TransferValue.{BlockValue}
use Rattle.xcp_transfer.specs.Downloads.{packet_room}
use Rattle.xcp_slave.specs.declared.request.Request.{Request}
use Rattle.xcp_slave.specs.declared.request.Request.TheVariants as requests
use Rattle.xcp_slave.specs.Outcomes.{Answer}
use Rattle.xcp_slave.specs.declared.outcome.Outcome.TheVariants as answers
use Rattle.xcp_slave.specs.declared.exchange.Exchange.{Exchange}
use Rattle.xcp_slave.specs.SlaveValue.{SlaveValue, layout_of}
use Rattle.xcp_slave.specs.Step.{Answers, Heeds, stored, with_event, with_signals, at_time, with_part}
use Rattle.xcp_slave.specs.SlaveInvariant.{IsSlave}
use Rattle.xcp_slave.specs.AcceptedCommands.{Accepts}
use Rattle.xcp_slave.specs.BlockDownload.{IsBetween, Brings, GathersBlock, Comes}
use Rattle.xcp_slave.proofs.MemoryLaws.{block-both}
use Rattle.xcp_slave.proofs.BlockLaws.{block-begins, block-goes-on, begin-room, next-room}
use Rattle.xcp_slave.proofs.UnaffectedPartLaws.{drains-part, fires-part, stores-part}
use Rattle.xcp_slave.proofs.StepLaws.{hands-part}

-- a slave on which a block of n bytes at a has these bytes so far
record Holds (n a : ℕ) (came : List ℕ) (u : SlaveValue) : Type 0 where
  on : u.connected ≡ true
  block : BlockValue
  way : u.transfer.block ≡ Some block
  address : block.address ≡ a
  bytes : block.bytes ≡ came
  long : length came + block.expected ≡ n

-- a packet of no bytes does nothing
empty-packet : (v : SlaveValue) (p : ArrayVec ℕ) (a : Answer) (w : SlaveValue) → p.items ≡ [] → Answers v (requests.Command p) a w → w ≡ v
empty-packet v p a w e k =
    let same : k.0 ≡ Err refuses.Empty = decodes_once (layout_of v).order p.items k.0 (Err refuses.Empty) k.1 e in
    (subst (λ (d : Result Command Refuse). Heeds v d a w) same k.2).1

-- what comes between leaves a part
between-part : {A : Type 0} (f : SlaveValue → A) (v : SlaveValue) (q : Request) (a : Answer) (w : SlaveValue) → ((o : List (ArrayVec ℕ)) → f (record v { outbox = o }) ≡ f v) → ((channel : ℕ) (signals : List ℕ) (o : List (ArrayVec ℕ)) (lost : Bool) → f (record (with_event channel (with_signals signals v)) { outbox = o; overloaded = lost }) ≡ f v) → ((place : ℕ) (bytes : List ℕ) → f (with_part place bytes v) ≡ f v) → (q ≡ requests.FinishStore → f (stored v) ≡ f v) → ((time : ℕ) → f (at_time time v) ≡ f v) → IsBetween q → Answers v q a w → f w ≡ f v
between-part f v (requests.Command c) a w d e p s t b k = ap f (empty-packet v c a w b k)
between-part f v (requests.Event channel signals) a w d e p s t b k = fires-part f channel signals.items v a w (e channel signals.items) k
between-part f v requests.Drain a w d e p s t b k = drains-part f v.outbox v a w d k
between-part f v requests.FinishStore a w d e p s t b k = stores-part f v a w (s refl) k
between-part f v requests.Hangup a w d e p s t b k = absurd b
between-part f v (requests.Time time) a w d e p s t b k = ap f k.1 ∙ t time
between-part f v (requests.Signals place bytes) a w d e p s t b k = hands-part f place bytes.items v a w (p place bytes.items) k

between-holds : (n a : ℕ) (came : List ℕ) (v : SlaveValue) (q : Request) (x : Answer) (w : SlaveValue) → Holds n a came v → IsBetween q → Answers v q x w → Holds n a came w
between-holds n a came v q x w h b k = record {
  on = between-part (λ y. y.connected) v q x w (λ o. refl) (λ c s o lost. refl) (λ i s. refl) (λ e. refl) (λ time. refl) b k ∙ h.on;
  block = h.block;
  way = between-part (λ y. y.transfer.block) v q x w (λ o. refl) (λ c s o lost. refl) (λ i s. refl) (λ e. refl) (λ time. refl) b k ∙ h.way;
  address = h.address;
  bytes = h.bytes;
  long = h.long;
}

-- the step of a packet that goes on
goes-on : (v : SlaveValue) (q : Request) (x : Answer) (part : List ℕ) (w : SlaveValue) (r : Brings v q x part) → Answers v q x w → Answers v (requests.Command r.packet) answers.Silent w
goes-on v q x part w r k = subst (λ (y : Answer). Answers v (requests.Command r.packet) y w) r.unsaid (subst (λ (p : Request). Answers v p x w) r.asked k)

brings-holds : (n a : ℕ) (came part : List ℕ) (v : SlaveValue) (q : Request) (x : Answer) (w : SlaveValue) → Holds n a came v → Brings v q x part → Answers v q x w → Holds n a (came ++ part) w
brings-holds n a came part v q x w h r k0 =
    let k = goes-on v q x part w r k0 in
    let room : ℕ = packet_room (layout_of v) in
    let sizes = next-room v w r.remaining r.items r.packet h.block h.on h.way r.spelt k in
    let led = (block-goes-on v w r.remaining r.items r.packet h.block h.on h.way r.spelt k).1 in
    let long : length part ≡ room = ap (λ (b : List ℕ). length b) r.brought ∙ length-take-le room r.items.items sizes.2 in
    record {
      on = ap (λ (y : SlaveValue). y.connected) led ∙ h.on;
      block = record { address = h.block.address; expected = h.block.expected - room; bytes = h.block.bytes ++ take room r.items.items };
      way = ap (λ (y : SlaveValue). y.transfer.block) led;
      address = h.address;
      bytes = ap (λ (b : List ℕ). b ++ take room r.items.items) h.bytes ∙ ap (λ (b : List ℕ). came ++ b) (sym r.brought);
      long = omega (arith, length-append came part, long, h.long, sizes.0, sizes.1);
    }

gathers-holds : (n a : ℕ) (came : List ℕ) (v : SlaveValue) (xs : List Exchange) (rest : List ℕ) (u : SlaveValue) → Holds n a came v → GathersBlock v xs rest u → Holds n a (came ++ rest) u
gathers-holds n a came v [] rest u h k =
    let all : came ≡ came ++ rest = sym (append-nil came) ∙ ap (λ (b : List ℕ). came ++ b) (sym k.0) in
    subst (λ (b : List ℕ). Holds n a b u) all (subst (λ (y : SlaveValue). Holds n a came y) (sym k.1) h)
gathers-holds n a came v (x ∷ xs) rest u h k =
    elim k.2 [
      | inl b ↦ gathers-holds n a came k.0 xs rest u (between-holds n a came v x.request x.answer k.0 h b.0 k.1) b.1
      | inr b ↦
          (let next = gathers-holds n a (came ++ b.0) k.0 xs b.1 u (brings-holds n a came b.0 v x.request x.answer k.0 h b.2 k.1) b.4 in
          subst (λ (c : List ℕ). Holds n a c u) (append_assoc came b.0 b.1 ∙ ap (λ (c : List ℕ). came ++ c) (sym b.3)) next)
    ]

begun-holds : (v u : SlaveValue) (n a : ℕ) (xs : List Exchange) (came : List ℕ) (k : Comes v n a xs came u) → Holds n a (take (packet_room (layout_of v)) k.items.items) k.begun
begun-holds v u n a xs came k =
    let room : ℕ = packet_room (layout_of v) in
    let sizes = begin-room v k.begun n k.items k.packet k.connected k.spelt k.unsaid in
    let led = block-begins v k.begun n a k.items k.packet k.connected k.mta k.spelt k.unsaid in
    record {
      on = ap (λ (y : SlaveValue). y.connected) led ∙ k.connected;
      block = record { address = a; expected = n - room; bytes = take room k.items.items };
      way = ap (λ (y : SlaveValue). y.transfer.block) led;
      address = refl;
      bytes = refl;
      long = omega (arith, length-take-le room k.items.items sizes.1, sizes.0);
    }

comes-holds : (v u : SlaveValue) (n a : ℕ) (xs : List Exchange) (came : List ℕ) → Comes v n a xs came u → Holds n a came u
comes-holds v u n a xs came k =
    subst (λ (b : List ℕ). Holds n a b u) (sym k.all) (gathers-holds n a (take (packet_room (layout_of v)) k.items.items) k.begun xs k.others u (begun-holds v u n a xs came k) k.gathered)

-- a block that has begun is under way at its address: it has the bytes that came, and expects the rest of its n
pub block-gathered : (v u : SlaveValue) (n a : ℕ) (xs : List Exchange) (came : List ℕ) → Comes v n a xs came u → (b : BlockValue) × (u.transfer.block ≡ Some b) × (b.address ≡ a) × (b.bytes ≡ came) × (length came + b.expected ≡ n)
block-gathered v u n a xs came k = let h = comes-holds v u n a xs came k in (h.block, h.way, h.address, h.bytes, h.long)

-- the pages of the segments

segments-between : (v : SlaveValue) (q : Request) (a : Answer) (w : SlaveValue) → q ≢ requests.FinishStore → IsBetween q → Answers v q a w → w.transfer.pages.segments ≡ v.transfer.pages.segments
segments-between v q a w n b k = between-part (λ y. y.transfer.pages.segments) v q a w (λ o. refl) (λ c s o lost. refl) (λ i s. refl) (λ e. absurd (n e)) (λ time. refl) b k

segments-gathered : (n a : ℕ) (came : List ℕ) (v : SlaveValue) (xs : List Exchange) (rest : List ℕ) (u : SlaveValue) → All (λ (x : Exchange). x.request ≢ requests.FinishStore) xs → Holds n a came v → GathersBlock v xs rest u → u.transfer.pages.segments ≡ v.transfer.pages.segments
segments-gathered n a came v [] rest u s h k = ap (λ (y : SlaveValue). y.transfer.pages.segments) k.1
segments-gathered n a came v (x ∷ xs) rest u s h k =
    elim k.2 [
      | inl b ↦ segments-gathered n a came k.0 xs rest u (λ j d below. s (suc j) d (omega arith)) (between-holds n a came v x.request x.answer k.0 h b.0 k.1) b.1 ∙ segments-between v x.request x.answer k.0 (s zero x (omega arith)) b.0 k.1
      | inr b ↦
          (let led = (block-goes-on v k.0 b.2.remaining b.2.items b.2.packet h.block h.on h.way b.2.spelt (goes-on v x.request x.answer b.0 k.0 b.2 k.1)).1 in
          segments-gathered n a (came ++ b.0) k.0 xs b.1 u (λ j d below. s (suc j) d (omega arith)) (brings-holds n a came b.0 v x.request x.answer k.0 h b.2 k.1) b.4 ∙ ap (λ (y : SlaveValue). y.transfer.pages.segments) led)
    ]

-- until its last packet, and where no FinishStore comes between, a block leaves the segments' pages as they were
pub block-keeps : (v u : SlaveValue) (n a : ℕ) (xs : List Exchange) (came : List ℕ) → All (λ (x : Exchange). x.request ≢ requests.FinishStore) xs → Comes v n a xs came u → u.transfer.pages.segments ≡ v.transfer.pages.segments
block-keeps v u n a xs came s k =
    segments-gathered n a (take (packet_room (layout_of v)) k.items.items) k.begun xs k.others u s (begun-holds v u n a xs came k) k.gathered
    ∙ ap (λ (y : SlaveValue). y.transfer.pages.segments) (block-begins v k.begun n a k.items k.packet k.connected k.mta k.spelt k.unsaid)

-- the last packet

-- with its last packet a block is written at its address: the bytes that came, and then the packet's own
pub block-written : (v u w : SlaveValue) (n a remaining : ℕ) (xs : List Exchange) (came bytes : List ℕ) (items : ArrayVec ℕ) → Comes v n a xs came u → IsSlave u → Accepts u (commands.DownloadNext remaining items) bytes w → Writes u.transfer.pages a (came ++ take remaining items.items) w.transfer.pages
block-written v u w n a remaining xs came bytes items k s last =
    let h = comes-holds v u n a xs came k in
    let r = block-both u w remaining items bytes h.block s h.way last in
    subst (λ (c : ℕ). Writes u.transfer.pages c (came ++ take remaining items.items) w.transfer.pages) h.address (subst (λ (b : List ℕ). Writes u.transfer.pages h.block.address (b ++ take remaining items.items) w.transfer.pages) h.bytes r.0)

-- the bytes that came and those of the last packet are as many as DOWNLOAD announced
pub block-all : (v u w : SlaveValue) (n a remaining : ℕ) (xs : List Exchange) (came bytes : List ℕ) (items : ArrayVec ℕ) → Comes v n a xs came u → IsSlave u → Accepts u (commands.DownloadNext remaining items) bytes w → length (came ++ take remaining items.items) ≡ n
block-all v u w n a remaining xs came bytes items k s last =
    let h = comes-holds v u n a xs came k in
    let r = block-both u w remaining items bytes h.block s h.way last in
    ap (λ (b : List ℕ). length (b ++ take remaining items.items)) (sym h.bytes) ∙ r.2 ∙ ap (λ (b : List ℕ). length b + h.block.expected) h.bytes ∙ h.long

-- after the last packet the MTA stands behind the whole block, and no block is under way
pub block-behind : (v u w : SlaveValue) (n a remaining : ℕ) (xs : List Exchange) (came bytes : List ℕ) (items : ArrayVec ℕ) → Comes v n a xs came u → IsSlave u → Accepts u (commands.DownloadNext remaining items) bytes w → (w.transfer.mta ≡ Memory (a + n)) × (w.transfer.block ≡ None)
block-behind v u w n a remaining xs came bytes items k s last =
    let h = comes-holds v u n a xs came k in
    let r = block-both u w remaining items bytes h.block s h.way last in
    let sum : length h.block.bytes + h.block.expected ≡ n = ap (λ (b : List ℕ). length b + h.block.expected) h.bytes ∙ h.long in
    (r.1 ∙ ap (λ (c : ℕ). Memory (c + (length h.block.bytes + h.block.expected))) h.address ∙ ap (λ (c : ℕ). Memory (a + c)) sum, r.3)

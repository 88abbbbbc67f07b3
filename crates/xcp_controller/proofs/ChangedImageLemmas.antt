-- Where a step changes the controller's image.
use Rattle.std.proofs.Common.{Bor, ◌≡◌, ◌≢◌, ℕ, ◌+◌, ◌-◌, ◌<◌, ◌≤◌, ◌⊎◌, inl, inr, List, length, take, drop, get_or, Option, Some, None, ap, sym, ◌∙◌, refl, subst, arith}
use Rattle.std.proofs.lemmas.Bool.{cases_lt}
use Rattle.std.proofs.lemmas.List.{ext_get_or, get_or-drop, get_or-take, length-drop, length-take}
use borrow.Rule.Slice.PartMut.{put_mid}
use Rattle.xcp_bank.proofs.WrittenPartLemmas.{before_part, behind_part, in_part, length_put}
use Rattle.xcp_packet.specs.ByteOrder.{byte_at}
use Rattle.xcp_memory.specs.ComputedAccess.{pages_written, segment_of, written_by}
use Rattle.xcp_memory.specs.EcuImage.{ecu_image, image_size}
use Rattle.xcp_memory.specs.Layout.{LayoutValue}
use Rattle.xcp_memory.specs.Pages.{PagesValue}
use Rattle.xcp_memory.proofs.EcuImageLemmas.{length-ecu_image}
use Rattle.xcp_transfer.specs.Laws.{IsLawful}
use Rattle.xcp_transfer.specs.declared.mta.Mta.{Mta}
use Rattle.xcp_transfer.specs.declared.mta.Mta.TheVariants.{Memory}
use Rattle.xcp_slave.specs.AskedRequest.{request_asked}
use Rattle.xcp_slave.specs.declared.asked.Asked.{Asked}
use Rattle.xcp_slave.specs.declared.asked.Asked.TheVariants as asks
use Rattle.xcp_slave.specs.declared.request.Request.{Request}
use Rattle.xcp_slave.specs.declared.request.Request.TheVariants as requests
use Rattle.arrayvec.specs.ArrayVec.{ArrayVec}
use Rattle.xcp_slave.specs.AnswerInBytes.{answer_in}
use Rattle.xcp_slave.specs.Outcomes.{Answer, Told}
use Rattle.xcp_slave.specs.declared.outcome.Outcome.TheVariants as answers
use Rattle.xcp_slave.specs.MemoryEffects.{SameMemory}
use Rattle.xcp_slave.specs.SlaveValue.{SlaveValue, layout_of}
use Rattle.xcp_slave.specs.Step.{Answers, AnswersPacket}
use Rattle.xcp_slave.proofs.LayoutKeptLemmas.{answers-layout}
use Rattle.xcp_slave.proofs.StepLaws.{hands-part}
use Rattle.xcp_slave.proofs.UnaffectedPartLaws.{drains-part, fires-part}
use Rattle.xcp_controller.specs.ControllerValue.{image_of}
use Rattle.xcp_controller.specs.ImageRanges.{SameOutside}
use Rattle.xcp_controller.specs.private.SegmentPlaces.{StandsWithin}
use Rattle.xcp_controller.proofs.ImageRangeLemmas.{write-within}
use Rattle.xcp_controller.proofs.KeptImageLemmas.{same_image}
use Rattle.xcp_controller.proofs.WriteEndLemmas.{WritesAt, WritesUpTo, packet-writes, silent-keeps}

-- the same image is the same outside of each range
pub image-within : (v w : SlaveValue) (from to : ℕ) → image_of w ≡ image_of v → SameOutside from to (image_of v) (image_of w)
image-within v w from to e k few o = ap (λ (xs : List ℕ). get_or xs k 0) e

-- so is that of the same memory
pub memory-within : (v w : SlaveValue) (from to : ℕ) → SameMemory v.transfer.pages w.transfer.pages → SameOutside from to (image_of v) (image_of w)
memory-within v w from to h = image-within v w from to (same_image v.transfer.pages w.transfer.pages h)

-- no two images differ outside of all their bytes
pub all-within : (xs ys : List ℕ) (n : ℕ) → length ys ≡ n → SameOutside 0 n xs ys
all-within xs ys n size k few (inl o) = absurd (omega (arith, o))
all-within xs ys n size k few (inr o) = absurd (omega (arith, few, o, size))

-- a write leaves the layout
written-layout : (o : Option ℕ) (p : PagesValue) (a : ℕ) (bytes : List ℕ) → (written_by o p a bytes).layout ≡ p.layout
written-layout None p a bytes = refl
written-layout (Some i) p a bytes = refl

-- the layout of the slave after a write
layout-after : (v w : SlaveValue) (a : ℕ) (bytes : List ℕ) → w.transfer.pages ≡ pages_written v.transfer.pages a bytes → layout_of w ≡ v.transfer.pages.layout
layout-after v w a bytes after = ap (λ (q : PagesValue). q.layout) after ∙ written-layout (segment_of v.transfer.pages.layout a (length bytes)) v.transfer.pages a bytes

-- a write up to the MTA
up-to-within : (v w : SlaveValue) (from to : ℕ) → IsLawful v.transfer → WritesUpTo v w → ((end a n : ℕ) → w.transfer.mta ≡ Memory end → 0 < n → n ≤ 255 → a + n ≡ end → StandsWithin (layout_of w) a n from to) → SameOutside from to (image_of v) (image_of w)
up-to-within v w from to h x within k few o =
    let a : ℕ = x.write.address in
    let bytes : List ℕ = x.write.bytes in
    let stands : StandsWithin v.transfer.pages.layout a (length bytes) from to = subst (λ (l : LayoutValue). StandsWithin l a (length bytes) from to) (layout-after v w a bytes x.after) (within (a + length bytes) a (length bytes) x.mta x.some x.few refl) in
    ap (λ (q : PagesValue). get_or (ecu_image q) k 0) x.after ∙ write-within v.transfer.pages a from to bytes h.pages x.allowed stands k (subst (λ (q : PagesValue). k < length (ecu_image q)) x.after few) o

-- a write of four bytes at the MTA
at-within : (v w : SlaveValue) (from to : ℕ) → IsLawful v.transfer → WritesAt v w → ((a : ℕ) → w.transfer.mta ≡ Memory a → StandsWithin (layout_of w) a 4 from to) → SameOutside from to (image_of v) (image_of w)
at-within v w from to h x within k few o =
    let a : ℕ = x.write.address in
    let bytes : List ℕ = x.write.bytes in
    let stands : StandsWithin v.transfer.pages.layout a (length bytes) from to = subst (λ (n : ℕ). StandsWithin v.transfer.pages.layout a n from to) (sym x.four) (subst (λ (l : LayoutValue). StandsWithin l a 4 from to) (layout-after v w a bytes x.after) (within a x.mta)) in
    ap (λ (q : PagesValue). get_or (ecu_image q) k 0) x.after ∙ write-within v.transfer.pages a from to bytes h.pages x.allowed stands k (subst (λ (q : PagesValue). k < length (ecu_image q)) x.after few) o

-- a packet that is no switch and no copy changes the image within each range in which its bytes stand, by the MTA that it leaves
pub packet-within : (v : SlaveValue) (p : List ℕ) (a : Answer) (w : SlaveValue) (from to : ℕ) → IsLawful v.transfer → byte_at 0 p ≢ 0xEB → byte_at 0 p ≢ 0xE4 → AnswersPacket v p a w → (byte_at 0 p ≢ 0xEC → (end b n : ℕ) → w.transfer.mta ≡ Memory end → 0 < n → n ≤ 255 → b + n ≡ end → StandsWithin (layout_of w) b n from to) → (byte_at 0 p ≡ 0xEC → (b : ℕ) → w.transfer.mta ≡ Memory b → StandsWithin (layout_of w) b 4 from to) → SameOutside from to (image_of v) (image_of w)
packet-within v p a w from to h switch copy step up at = elim (packet-writes v p a w h switch copy step) [
  | inl same ↦ memory-within v w from to same
  | inr writes ↦ elim writes [
    | inl x ↦ at-within v w from to h x.1 (at x.0)
    | inr x ↦ up-to-within v w from to h x.1 (up x.0)
  ]
]

-- addresses in the memory are the same where their MTAs are
same-address : (m : Mta) (a b : ℕ) → m ≡ Memory a → m ≡ Memory b → a ≡ b
same-address m a b h k = cc

-- MODIFY_BITS, by where the double word at the MTA stands
pub packet-from : (v : SlaveValue) (p : List ℕ) (x : Answer) (w : SlaveValue) (m : Mta) (l : LayoutValue) (a from to : ℕ) → IsLawful v.transfer → byte_at 0 p ≢ 0xEB → byte_at 0 p ≢ 0xE4 → byte_at 0 p ≡ 0xEC → AnswersPacket v p x w → m ≡ w.transfer.mta → m ≡ Memory a → l ≡ layout_of w → StandsWithin l a 4 from to → SameOutside from to (image_of v) (image_of w)
packet-from v p x w m l a from to h switch copy bits step at is layout stands =
    packet-within v p x w from to h switch copy step
    (λ other end b n mta some few ends. absurd (other bits))
    (λ same b mta. subst (λ (k : LayoutValue). StandsWithin k b 4 from to) layout (subst (λ (j : ℕ). StandsWithin l j 4 from to) (same-address m a b is (at ∙ mta)) stands))

-- the other commands that write, by where bytes stand that end at the MTA
pub packet-up-to : (v : SlaveValue) (p : List ℕ) (x : Answer) (w : SlaveValue) (m : Mta) (l : LayoutValue) (end from to : ℕ) → IsLawful v.transfer → byte_at 0 p ≢ 0xEB → byte_at 0 p ≢ 0xE4 → byte_at 0 p ≢ 0xEC → AnswersPacket v p x w → m ≡ w.transfer.mta → m ≡ Memory end → l ≡ layout_of w → ((a n : ℕ) → 0 < n → n ≤ 255 → a + n ≡ end → StandsWithin l a n from to) → SameOutside from to (image_of v) (image_of w)
packet-up-to v p x w m l end from to h switch copy bits step at is layout stands =
    packet-within v p x w from to h switch copy step
    (λ other behind a n mta some few ends. subst (λ (k : LayoutValue). StandsWithin k a n from to) layout (stands a n some few (ends ∙ same-address m behind end (at ∙ mta) is)))
    (λ same b mta. absurd (bits same))

-- where the MTA is no address, nothing was written
pub packet-nowhere : (v : SlaveValue) (p : List ℕ) (x : Answer) (w : SlaveValue) (m : Mta) → IsLawful v.transfer → byte_at 0 p ≢ 0xEB → byte_at 0 p ≢ 0xE4 → AnswersPacket v p x w → m ≡ w.transfer.mta → ((a : ℕ) → m ≢ Memory a) → SameOutside 0 0 (image_of v) (image_of w)
packet-nowhere v p x w m h switch copy step at none =
    packet-within v p x w 0 0 h switch copy step
    (λ other end a n mta some few ends. absurd (none end (at ∙ mta)))
    (λ same b mta. absurd (none b (at ∙ mta)))

-- a packet behind which nothing is sent changes no byte
pub silent-within : (v : SlaveValue) (p : List ℕ) (w : SlaveValue) (from to : ℕ) → IsLawful v.transfer → AnswersPacket v p answers.Silent w → SameOutside from to (image_of v) (image_of w)
silent-within v p w from to h step = memory-within v w from to (silent-keeps v p w h step)

-- no packet and no store
abbrev pub IsBesideBoth : Request → Type 0
IsBesideBoth (requests.Command packet) = ⊥
IsBesideBoth requests.FinishStore = ⊥
IsBesideBoth _ = Unit {0}

-- such a request leaves the image
pub beside-keeps : (v : SlaveValue) (q : Request) (a : Answer) (w : SlaveValue) → IsBesideBoth q → Answers v q a w → image_of w ≡ image_of v
beside-keeps v (requests.Command packet) a w none step = absurd none
beside-keeps v (requests.Event channel signals) a w none step = fires-part image_of channel signals.items v a w (λ packets lost. refl) step
beside-keeps v requests.Drain a w none step = drains-part image_of v.outbox v a w (λ rest. refl) step
beside-keeps v requests.FinishStore a w none step = absurd none
beside-keeps v requests.Hangup a w none step = ap image_of step.1
beside-keeps v (requests.Time time) a w none step = ap image_of step.1
beside-keeps v (requests.Signals place bytes) a w none step = hands-part image_of place bytes.items v a w refl step

-- what is asked beside both
pub asked-beside : (asked : Asked) → ((channel : ℕ) × (signals : Bor (List ℕ)) × (asked ≡ asks.Event channel signals)) ⊎ ((asked ≡ asks.Drain) ⊎ ((asked ≡ asks.Hangup) ⊎ (((time : ℕ) × (asked ≡ asks.Time time)) ⊎ ((place : ℕ) × (bytes : Bor (List ℕ)) × (asked ≡ asks.Signals place bytes))))) → IsBesideBoth (request_asked asked)
asked-beside asked (inl e) = subst (λ (a : Asked). IsBesideBoth (request_asked a)) (sym e.2) tt
asked-beside asked (inr (inl e)) = subst (λ (a : Asked). IsBesideBoth (request_asked a)) (sym e) tt
asked-beside asked (inr (inr (inl e))) = subst (λ (a : Asked). IsBesideBoth (request_asked a)) (sym e) tt
asked-beside asked (inr (inr (inr (inl e)))) = subst (λ (a : Asked). IsBesideBoth (request_asked a)) (sym e.1) tt
asked-beside asked (inr (inr (inr (inr e)))) = subst (λ (a : Asked). IsBesideBoth (request_asked a)) (sym e.2) tt

-- the image has as many bytes as the layout says
pub image-long : (v : SlaveValue) → IsLawful v.transfer → length (image_of v) ≡ image_size (layout_of v)
image-long v h = length-ecu_image v.transfer.pages h.layout h.pages

-- images that are the same outside of a range and in it are the same
pub same-all : (xs ys : List ℕ) (from to : ℕ) → length xs ≡ length ys → from ≤ to → SameOutside from to xs ys → take (to - from) (drop from ys) ≡ take (to - from) (drop from xs) → ys ≡ xs
same-all xs ys from to long order outside same = ext_get_or 0 ys xs (sym long) (λ k below. elim (cases_lt k from) [
  | inl o ↦ outside k below (inl o)
  | inr o ↦ elim (cases_lt k to) [
    | inl b ↦ middle k o b
    | inr b ↦ outside k below (inr b)
  ]
])
  where
    part : (zs : List ℕ) (k : ℕ) → from ≤ k → k < to → get_or (take (to - from) (drop from zs)) (k - from) 0 ≡ get_or zs k 0
    part zs k o b = get_or-take (to - from) (drop from zs) (k - from) 0 (omega (arith, o, b)) ∙ get_or-drop from zs (k - from) 0 ∙ ap (λ (j : ℕ). get_or zs j 0) (omega (arith, o))

    middle : (k : ℕ) → from ≤ k → k < to → get_or ys k 0 ≡ get_or xs k 0
    middle k o b = sym (part ys k o b) ∙ ap (λ (zs : List ℕ). get_or zs (k - from) 0) same ∙ part xs k o b

-- and so are those that are the same outside of no byte
pub same-nowhere : (xs ys : List ℕ) (from to : ℕ) → length xs ≡ length ys → from ≡ to → SameOutside from to xs ys → ys ≡ xs
same-nowhere xs ys from to long none outside = ext_get_or 0 ys xs (sym long) (λ k below. elim (cases_lt k from) [
  | inl o ↦ outside k below (inl o)
  | inr o ↦ outside k below (inr (omega (arith, none, o)))
])

-- bytes that are put into the range make the second image of the first
pub spliced : (xs ys : List ℕ) (from to : ℕ) → length xs ≡ length ys → from ≤ to → to ≤ length ys → SameOutside from to xs ys → put_mid from (to - from) xs (take (to - from) (drop from ys)) ≡ ys
spliced xs ys from to long order inside outside =
    ext_get_or 0 (put_mid from k xs part) ys (size ∙ long) (λ j below. at j (omega (arith, below, size, long)))
  where
    k : ℕ
    k = to - from

    part : List ℕ
    part = take k (drop from ys)

    fits : from ≤ length xs
    fits = omega (arith, long)

    part_long : length part ≡ k
    part_long = simp (length-take, length-drop) (omega (arith, order, inside))

    size : length (put_mid from k xs part) ≡ length xs
    size = length_put from k xs part fits part_long (omega (arith, order, inside, long))

    at : (j : ℕ) → j < length ys → get_or (put_mid from k xs part) j 0 ≡ get_or ys j 0
    at j below = elim (cases_lt j from) [
      | inl o ↦ before_part from k xs part fits part_long j o ∙ sym (outside j below (inl o))
      | inr o ↦ elim (cases_lt j to) [
        | inl b ↦ in_part from k xs part fits part_long j o (omega (arith, o, b)) ∙ get_or-take k (drop from ys) (j - from) 0 (omega (arith, o, b)) ∙ get_or-drop from ys (j - from) 0 ∙ (let there : from + (j - from) ≡ j = omega (arith, o) in ap (λ (i : ℕ). get_or ys i 0) there)
        | inr b ↦ behind_part from k xs part fits part_long j (omega (arith, o, b, order)) ∙ sym (outside j below (inr b))
      ]
    ]

-- What is known where an image was the image before a request, and is changed within a range: it is as long, and the same outside.
pub record IsChanged (last image : List ℕ) (from to : ℕ) : Type 0 where
  pub long : length last ≡ length image
  pub order : from ≤ to
  pub inside : to ≤ length image
  pub outside : SameOutside from to last image

-- a step between lawful states that leaves the image the same outside of a range in it changes it within this range
pub is-changed : (before after : SlaveValue) (q : Request) (a : Answer) (last : List ℕ) (from to : ℕ) → IsLawful before.transfer → IsLawful after.transfer → Answers before q a after → last ≡ image_of before → from ≤ to → to ≤ image_size (layout_of after) → SameOutside from to (image_of before) (image_of after) → IsChanged last (image_of after) from to
is-changed before after q a last from to old new step is order inside outside =
    let layout : layout_of after ≡ layout_of before = answers-layout before q a after step in
    let size : length (image_of after) ≡ image_size (layout_of after) = image-long after new in
    record {
      long = ap length is ∙ image-long before old ∙ ap image_size (sym layout) ∙ sym size;
      order = order;
      inside = omega (arith, inside, size);
      outside = subst (λ (xs : List ℕ). SameOutside from to xs (image_of after)) (sym is) outside;
    }

-- the same, as a caller of a publication says it of a request
pub seen : (asked : Asked) (told : Told) (after : SlaveValue) (last : List ℕ) (from to : ℕ) → IsLawful after.transfer
    → ((before : SlaveValue) × (packet : ArrayVec ℕ) × IsLawful before.transfer × Answers before (request_asked asked) (answer_in told packet) after × (last ≡ image_of before))
    → from ≤ to → to ≤ image_size (layout_of after)
    → ((before : SlaveValue) (packet : ArrayVec ℕ) → IsLawful before.transfer → Answers before (request_asked asked) (answer_in told packet) after → SameOutside from to (image_of before) (image_of after))
    → IsChanged last (image_of after) from to
seen asked told after last from to new (before, packet, old, step, is) order inside outside =
    is-changed before after (request_asked asked) (answer_in told packet) last from to old new step is order inside (outside before packet old step)

-- how many bytes the range has
range-long : (last image : List ℕ) (from to : ℕ) → IsChanged last image from to → length (take (to - from) (drop from last)) ≡ to - from
range-long last image from to h = simp (length-take, length-drop) (omega (arith, h.long, h.order, h.inside))

-- the bytes of the range that are laid make the image
pub laid : (last image part : List ℕ) (from to : ℕ) → IsChanged last image from to → part ≡ take (length (take (to - from) (drop from last))) (drop from image) → put_mid from (to - from) last part ≡ image
laid last image part from to h is =
    ap (λ (ys : List ℕ). put_mid from (to - from) last ys) (is ∙ ap (λ (n : ℕ). take n (drop from image)) (range-long last image from to h))
    ∙ spliced last image from to h.long h.order h.inside h.outside

-- where they are those that stood there, nothing has changed
pub unchanged : (last image part : List ℕ) (from to : ℕ) → IsChanged last image from to → part ≡ take (length (take (to - from) (drop from last))) (drop from image) → part ≡ take (to - from) (drop from last) → image ≡ last
unchanged last image part from to h is same =
    same-all last image from to h.long h.order h.outside
    (ap (λ (n : ℕ). take n (drop from image)) (sym (range-long last image from to h)) ∙ sym is ∙ same)

-- and else something has
pub changed : (last image part : List ℕ) (from to : ℕ) → IsChanged last image from to → part ≡ take (length (take (to - from) (drop from last))) (drop from image) → part ≢ take (to - from) (drop from last) → image ≢ last
changed last image part from to h is other same =
    other (is ∙ ap (λ (n : ℕ). take n (drop from image)) (range-long last image from to h) ∙ ap (λ (xs : List ℕ). take (to - from) (drop from xs)) same)

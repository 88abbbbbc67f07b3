-- What decides the answers is of one layout.
use Rattle.std.proofs.Common.{◌≡◌, ◌≤◌, ◌+◌, ℕ, zero, suc, Bool, true, false, List, [], ◌∷◌, ◌++◌, length, take, drop, map, refl, sym, ap, ◌∙◌, arith, append_assoc}
use Rattle.std.specs.Prelude.{All, ◌==◌, Some, slice_index}
use Rattle.std.specs.Int.{w16, w32, from_le_bytes, to_le_bytes}
use Rattle.std.specs.List.{flat_map}
use Rattle.std.proofs.Math.Seq.{take-append_seam, drop-append_seam}
use Rattle.std.proofs.lemmas.Nat.{from_le_bytes-to_le_bytes_2, from_le_bytes-to_le_bytes_4}
use Rattle.xcp_packet.specs.declared.Order.{Order}
use Rattle.xcp_packet.specs.declared.Order.TheVariants.{Intel, Motorola}
use Rattle.xcp_packet.specs.declared.stamp.Stamp.{Stamp}
use Rattle.xcp_packet.specs.declared.stamp.Stamp.TheVariants.{Without, Byte, Word, Double}
use Rattle.xcp_packet.specs.ByteOrder.{byte_order}
use Rattle.xcp_packet.specs.TimeStamps.{stamp_size}
use Rattle.xcp_memory.specs.declared.checksum_kind.ChecksumKind.{ChecksumKind}
use Rattle.xcp_memory.specs.declared.checksum_kind.ChecksumKind.TheVariants.{Add11, Add12, Add14, Add22, Add24, Add44}
use Rattle.xcp_memory.specs.declared.class.Class.{Class}
use Rattle.xcp_memory.specs.declared.class.Class.TheVariants.{Papers, Large}
use Rattle.xcp_memory.specs.Checksum.{checksum_number}
use Rattle.xcp_memory.specs.ClassLimits.{limits_of}
use Rattle.xcp_memory.specs.LayoutParts.{kind_numbered, stamp_sized}
use Rattle.xcp_memory.specs.Layout.{EventValue, Extent, ExtrasValue, IsExtras, IsLayout, LayoutValue, SegmentValue, description, epk, segment_extent, signals_extent, no_extent}
use Rattle.xcp_slave.proofs.ClassLimitLemmas.{few-events}
use Rattle.xcp_program.specs.Decided.{all_decided, answers_decided, bytes_decided, class_decided, event_decided, extras_decided, flag, own_decided, segment_decided, signals_decided}
use Rattle.xcp_program.specs.DecidingLaws.{uploading}

-- two lists whose fronts are equally long are the same in both parts
same_parts : (a b c d : List ℕ) → length a ≡ length b → a ++ c ≡ b ++ d → (a ≡ b) × (c ≡ d)
same_parts a b c d n h = (
  sym (take-append_seam a c) ∙ ap (λ k. take k (a ++ c)) n ∙ ap (take (length b)) h ∙ take-append_seam b d,
  sym (drop-append_seam a c) ∙ ap (λ k. drop k (a ++ c)) n ∙ ap (drop (length b)) h ∙ drop-append_seam b d,
)

-- a number in four bytes, and one in two
same_four : (n m : ℕ) (r s : List ℕ) → n ≤ 0xFFFF_FFFF → m ≤ 0xFFFF_FFFF → to_le_bytes w32 n ++ r ≡ to_le_bytes w32 m ++ s → (n ≡ m) × (r ≡ s)
same_four n m r s low small h =
    let both = same_parts (to_le_bytes w32 n) (to_le_bytes w32 m) r s refl h in
    (sym (from_le_bytes-to_le_bytes_4 n (omega (arith, low))) ∙ ap (from_le_bytes w32) both.0 ∙ from_le_bytes-to_le_bytes_4 m (omega (arith, small)), both.1)

same_two : (n m : ℕ) (r s : List ℕ) → n ≤ 65535 → m ≤ 65535 → to_le_bytes w16 n ++ r ≡ to_le_bytes w16 m ++ s → (n ≡ m) × (r ≡ s)
same_two n m r s low small h =
    let both = same_parts (to_le_bytes w16 n) (to_le_bytes w16 m) r s refl h in
    (sym (from_le_bytes-to_le_bytes_2 n (omega (arith, low))) ∙ ap (from_le_bytes w16) both.0 ∙ from_le_bytes-to_le_bytes_2 m (omega (arith, small)), both.1)

-- bytes behind how many they are
same_bytes : (x y r s : List ℕ) → length x ≤ 0xFFFF_FFFF → length y ≤ 0xFFFF_FFFF → bytes_decided x ++ r ≡ bytes_decided y ++ s → (x ≡ y) × (r ≡ s)
unfolding bytes_decided
same_bytes x y r s low small h =
    let count = same_four (length x) (length y) (x ++ r) (y ++ s) low small (sym (append_assoc (to_le_bytes w32 (length x)) x r) ∙ h ∙ append_assoc (to_le_bytes w32 (length y)) y s) in
    same_parts x y r s count.0 count.1

-- things one behind another
same_each : {A : Type 0} (f : A → List ℕ) (P : A → Type 0) → ((x y : A) (r s : List ℕ) → P x → P y → f x ++ r ≡ f y ++ s → (x ≡ y) × (r ≡ s))
    → (xs ys : List A) (r s : List ℕ) → length xs ≡ length ys → All P xs → All P ys → flat_map f xs ++ r ≡ flat_map f ys ++ s → (xs ≡ ys) × (r ≡ s)
same_each f P each [] [] r s n p q h = (refl, h)
same_each f P each [] (y ∷ ys) r s n p q h = absurd (omega (arith, n))
same_each f P each (x ∷ xs) [] r s n p q h = absurd (omega (arith, n))
same_each f P each (x ∷ xs) (y ∷ ys) r s n p q h =
    let one = each x y (flat_map f xs ++ r) (flat_map f ys ++ s) (p 0 x (omega arith)) (q 0 y (omega arith))
    (sym (append_assoc (f x) (flat_map f xs) r) ∙ h ∙ append_assoc (f y) (flat_map f ys) s) in
    let more = same_each f P each xs ys r s (omega (arith, n)) (λ k d l. p (suc k) d (omega (arith, l))) (λ k d l. q (suc k) d (omega (arith, l))) one.1 in
    ((λ i. one.0 i ∷ more.0 i), more.1)

-- and behind how many they are
same_all : {A : Type 0} (f : A → List ℕ) (P : A → Type 0) → ((x y : A) (r s : List ℕ) → P x → P y → f x ++ r ≡ f y ++ s → (x ≡ y) × (r ≡ s))
    → (xs ys : List A) (r s : List ℕ) → length xs ≤ 64 → length ys ≤ 64 → All P xs → All P ys → all_decided f xs ++ r ≡ all_decided f ys ++ s → (xs ≡ ys) × (r ≡ s)
unfolding all_decided
same_all f P each xs ys r s low small p q h =
    let count = same_four (length xs) (length ys) (flat_map f xs ++ r) (flat_map f ys ++ s) (omega (arith, low)) (omega (arith, small))
    (sym (append_assoc (to_le_bytes w32 (length xs)) (flat_map f xs) r) ∙ h ∙ append_assoc (to_le_bytes w32 (length ys)) (flat_map f ys) s) in
    same_each f P each xs ys r s count.0 p q count.1

-- a segment's first address and size fit into four bytes
abbrev Fits : SegmentValue → Type 0
Fits x = x.address + length x.bytes ≤ 0xFFFF_FFFF

same_segment : (x y : SegmentValue) (r s : List ℕ) → Fits x → Fits y → segment_decided x ++ r ≡ segment_decided y ++ s → (x ≡ y) × (r ≡ s)
unfolding segment_decided
same_segment x y r s p q h =
    let parted = λ (z : SegmentValue) (t : List ℕ). append_assoc (to_le_bytes w32 z.address) (bytes_decided z.bytes ++ z.pages ∷ []) t ∙ ap (λ b. to_le_bytes w32 z.address ++ b) (append_assoc (bytes_decided z.bytes) (z.pages ∷ []) t) in
    let one = same_four x.address y.address _ _ (omega (arith, p)) (omega (arith, q)) (sym (parted x r) ∙ h ∙ parted y s) in
    let two = same_bytes x.bytes y.bytes (x.pages ∷ r) (y.pages ∷ s) (omega (arith, p)) (omega (arith, q)) one.1 in
    let pages = ap (λ b. slice_index b 0) two.1 in
    ((λ i. record { address = one.0 i; bytes = two.0 i; pages = pages i }), ap (drop 1) two.1)

-- a name's length fits into four bytes
abbrev IsNamed : EventValue → Type 0
IsNamed x = (1 ≤ length x.name) × (length x.name ≤ 32)

same_event : (x y : EventValue) (r s : List ℕ) → IsNamed x → IsNamed y → event_decided x ++ r ≡ event_decided y ++ s → (x ≡ y) × (r ≡ s)
unfolding event_decided
same_event x y r s p q h =
    let parted = λ (z : EventValue) (t : List ℕ). append_assoc (bytes_decided z.name) (z.cycle ∷ z.unit ∷ z.priority ∷ []) t in
    let low = p.1 in
    let small = q.1 in
    let one = same_bytes x.name y.name (x.cycle ∷ x.unit ∷ x.priority ∷ r) (y.cycle ∷ y.unit ∷ y.priority ∷ s) (omega (arith, low)) (omega (arith, small)) (sym (parted x r) ∙ h ∙ parted y s) in
    let cycle = ap (λ b. slice_index b 0) one.1 in
    let unit = ap (λ b. slice_index b 1) one.1 in
    let priority = ap (λ b. slice_index b 2) one.1 in
    ((λ i. record { name = one.0 i; cycle = cycle i; unit = unit i; priority = priority i }), ap (drop 3) one.1)

-- kinds by their numbers
kind_of : (k : ChecksumKind) → kind_numbered (checksum_number k) ≡ k
kind_of Add11 = refl
kind_of Add12 = refl
kind_of Add14 = refl
kind_of Add22 = refl
kind_of Add24 = refl
kind_of Add44 = refl

stamp_of : (s : Stamp) → stamp_sized (stamp_size s) ≡ s
stamp_of Without = refl
stamp_of Byte = refl
stamp_of Word = refl
stamp_of Double = refl

abbrev order_numbered : ℕ → Order
order_numbered zero = Intel
order_numbered (suc n) = Motorola

order_of : (o : Order) → order_numbered (byte_order o) ≡ o
order_of Intel = refl
order_of Motorola = refl

flag_of : (b : Bool) → (flag b == 1) ≡ b
flag_of true = refl
flag_of false = refl

-- the slave itself
record IsSameOwn (l m : LayoutValue) : Type 0 where
  id : l.id ≡ m.id
  max_cto : l.max_cto ≡ m.max_cto
  max_dto : l.max_dto ≡ m.max_dto
  checksum : l.checksum ≡ m.checksum
  order : l.order ≡ m.order
  stamp : l.clock.stamp ≡ m.clock.stamp
  unit : l.clock.unit ≡ m.clock.unit
  ticks : l.clock.ticks ≡ m.clock.ticks

abbrev own_bytes : LayoutValue → List ℕ
own_bytes l = l.max_cto ∷ l.max_dto ∷ checksum_number l.checksum ∷ byte_order l.order ∷ stamp_size l.clock.stamp ∷ l.clock.unit ∷ []

own_parts : (l : LayoutValue) (t : List ℕ) → own_decided l ++ t ≡ bytes_decided l.id ++ (own_bytes l ++ (to_le_bytes w16 l.clock.ticks ++ t))
unfolding own_decided
own_parts l t = append_assoc (bytes_decided l.id ++ own_bytes l) (to_le_bytes w16 l.clock.ticks) t ∙ append_assoc (bytes_decided l.id) (own_bytes l) (to_le_bytes w16 l.clock.ticks ++ t)

same_own : (l m : LayoutValue) (r s : List ℕ) → IsLayout l → IsLayout m → own_decided l ++ r ≡ own_decided m ++ s → IsSameOwn l m × (r ≡ s)
same_own l m r s p q h =
    let low = p.id_most in
    let small = q.id_most in
    let id = same_bytes l.id m.id (own_bytes l ++ (to_le_bytes w16 l.clock.ticks ++ r)) (own_bytes m ++ (to_le_bytes w16 m.clock.ticks ++ s)) (omega (arith, low)) (omega (arith, small)) (sym (own_parts l r) ∙ h ∙ own_parts m s) in
    let ticks = same_two l.clock.ticks m.clock.ticks r s p.ticks_most q.ticks_most (ap (drop 6) id.1) in (
      record {
        id = id.0;
        max_cto = ap (λ b. slice_index b 0) id.1;
        max_dto = ap (λ b. slice_index b 1) id.1;
        checksum = sym (kind_of l.checksum) ∙ ap (λ b. kind_numbered (slice_index b 2)) id.1 ∙ kind_of m.checksum;
        order = sym (order_of l.order) ∙ ap (λ b. order_numbered (slice_index b 3)) id.1 ∙ order_of m.order;
        stamp = sym (stamp_of l.clock.stamp) ∙ ap (λ b. stamp_sized (slice_index b 4)) id.1 ∙ stamp_of m.clock.stamp;
        unit = ap (λ b. slice_index b 5) id.1;
        ticks = ticks.0;
      },
      ticks.1,
    )

-- the signals
same_signals : (l m : LayoutValue) (r s : List ℕ) → l.signals_address + l.signals_length ≤ 0xFFFF_FFFF → m.signals_address + m.signals_length ≤ 0xFFFF_FFFF
    → signals_decided l ++ r ≡ signals_decided m ++ s → (l.signals_address ≡ m.signals_address) × (l.signals_length ≡ m.signals_length) × (r ≡ s)
unfolding signals_decided
same_signals l m r s p q h =
    let parted = λ (z : LayoutValue) (t : List ℕ). append_assoc (to_le_bytes w32 z.signals_address) (to_le_bytes w32 z.signals_length) t in
    let one = same_four l.signals_address m.signals_address _ _ (omega (arith, p)) (omega (arith, q)) (sym (parted l r) ∙ h ∙ parted m s) in
    let two = same_four l.signals_length m.signals_length r s (omega (arith, p)) (omega (arith, q)) one.1 in
    (one.0, two.0, two.1)

-- what the slave has beyond others
record IsSameExtras (x y : ExtrasValue) : Type 0 where
  a2l : x.a2l ≡ y.a2l
  uploads_a2l : x.uploads_a2l ≡ y.uploads_a2l
  tells_overload : x.tells_overload ≡ y.tells_overload
  epk : epk x ≡ epk y
  description : description x ≡ description y

extras_parts : (x : ExtrasValue) (t : List ℕ)
    → extras_decided x ++ t ≡ bytes_decided x.a2l ++ (flag x.uploads_a2l ∷ flag x.tells_overload ∷ (bytes_decided (epk x) ++ (bytes_decided (description x) ++ t)))
unfolding extras_decided
extras_parts x t =
    let name = bytes_decided x.a2l in
    let flags = flag x.uploads_a2l ∷ flag x.tells_overload ∷ [] in
    let id = bytes_decided (epk x) in
    let text = bytes_decided (description x) in
    append_assoc ((name ++ flags) ++ id) text t ∙ append_assoc (name ++ flags) id (text ++ t) ∙ append_assoc name flags (id ++ (text ++ t))

same_extras : (x y : ExtrasValue) (r s : List ℕ) → IsExtras x → IsExtras y → extras_decided x ++ r ≡ extras_decided y ++ s → IsSameExtras x y × (r ≡ s)
same_extras x y r s p q h =
    let a = p.a2l_most in
    let b = q.a2l_most in
    let c = p.file.epk_most in
    let d = q.file.epk_most in
    let e = p.file.text_most in
    let f = q.file.text_most in
    let name = same_bytes x.a2l y.a2l _ _ (omega (arith, a)) (omega (arith, b)) (sym (extras_parts x r) ∙ h ∙ extras_parts y s) in
    let id = same_bytes (epk x) (epk y) (bytes_decided (description x) ++ r) (bytes_decided (description y) ++ s) (omega (arith, c)) (omega (arith, d)) (ap (drop 2) name.1) in
    let text = same_bytes (description x) (description y) r s (omega (arith, e)) (omega (arith, f)) id.1 in (
      record {
        a2l = name.0;
        uploads_a2l = sym (flag_of x.uploads_a2l) ∙ ap (λ l. slice_index l 0 == 1) name.1 ∙ flag_of y.uploads_a2l;
        tells_overload = sym (flag_of x.tells_overload) ∙ ap (λ l. slice_index l 1 == 1) name.1 ∙ flag_of y.tells_overload;
        epk = id.0;
        description = text.0;
      },
      text.1,
    )

-- the class
same_class : (c d : Class) → class_decided c ≡ class_decided d → c ≡ d
unfolding class_decided
same_class Papers Papers h = refl
same_class Papers Large h = cc
same_class Large Papers h = cc
same_class Large Large h = refl

-- how many segments a class has at most
few : (c : Class) → (limits_of c).segments ≤ 16
few Papers = omega arith
few Large = omega arith

-- each area of a layout ends within four bytes
abbrev Ends : Extent → Type 0
Ends e = e.address + e.size ≤ 0xFFFF_FFFF

each_fits : (ss : List SegmentValue) (more : List Extent) → All Ends (map segment_extent ss ++ more) → All Fits ss
each_fits [] more h k d l = absurd (omega (arith, l))
each_fits (s ∷ ss) more h zero d l = h 0 no_extent (omega arith)
each_fits (s ∷ ss) more h (suc k) d l = each_fits ss more (λ j e m. h (suc j) e (omega (arith, m))) k d (omega (arith, l))

last_ends : (ss : List SegmentValue) (e : Extent) → All Ends (map segment_extent ss ++ e ∷ []) → Ends e
last_ends [] e h = h 0 no_extent (omega arith)
last_ends (s ∷ ss) e h = last_ends ss e (λ j d m. h (suc j) d (omega (arith, m)))

whole_parts : (l : LayoutValue)
    → answers_decided l ≡ own_decided l ++ (all_decided segment_decided l.segments ++ (signals_decided l ++ (all_decided event_decided l.events ++ (extras_decided l.extras ++ class_decided l.class))))
unfolding answers_decided
whole_parts l =
    let own = own_decided l in
    let segments = all_decided segment_decided l.segments in
    let signals = signals_decided l in
    let events = all_decided event_decided l.events in
    let extras = extras_decided l.extras in
    let class = class_decided l.class in
    append_assoc (((own ++ segments) ++ signals) ++ events) extras class
    ∙ append_assoc ((own ++ segments) ++ signals) events (extras ++ class)
    ∙ append_assoc (own ++ segments) signals (events ++ (extras ++ class))
    ∙ append_assoc own segments (signals ++ (events ++ (extras ++ class)))

-- lawful layouts that are decided by the same bytes are the same, with the A2L files that tools get of them
pub one_layout : (l m : LayoutValue) → IsLayout l → IsLayout m → answers_decided l ≡ answers_decided m → uploading l ≡ uploading m
one_layout l m p q h =
    let a = p.segments_most in
    let b = q.segments_most in
    let c = few l.class in
    let d = few m.class in
    let own = same_own l m _ _ p q (sym (whole_parts l) ∙ h ∙ whole_parts m) in
    let segments = same_all segment_decided Fits same_segment l.segments m.segments _ _ (omega (arith, a, c)) (omega (arith, b, d)) (each_fits l.segments (signals_extent l ∷ []) p.last) (each_fits m.segments (signals_extent m ∷ []) q.last) own.1 in
    let signals = same_signals l m _ _ (last_ends l.segments (signals_extent l) p.last) (last_ends m.segments (signals_extent m) q.last) segments.1 in
    let events = same_all event_decided IsNamed same_event l.events m.events _ _ (omega (arith, p.events_most, few-events l.class)) (omega (arith, q.events_most, few-events m.class)) p.names q.names signals.2 in
    let extras = same_extras l.extras m.extras _ _ p.extras q.extras events.1 in
    let class = same_class l.class m.class extras.1 in
    (λ i. record {
      class = class i;
      id = own.0.id i;
      max_cto = own.0.max_cto i;
      max_dto = own.0.max_dto i;
      checksum = own.0.checksum i;
      order = own.0.order i;
      clock = record { stamp = own.0.stamp i; unit = own.0.unit i; ticks = own.0.ticks i };
      segments = segments.0 i;
      signals_address = signals.0 i;
      signals_length = signals.1 i;
      events = events.0 i;
      extras = record { a2l = extras.0.a2l i; uploads_a2l = extras.0.uploads_a2l i; tells_overload = extras.0.tells_overload i; file = Some (record { epk = extras.0.epk i; text = extras.0.description i }) };
    })

-- the same file decides the same
uploaded : (l : LayoutValue) → answers_decided l ≡ answers_decided (uploading l)
unfolding answers_decided own_decided signals_decided extras_decided
uploaded l = refl

-- layouts that are the same with the A2L files that tools get of them are decided by the same bytes
pub same_bytes_of : (l m : LayoutValue) → uploading l ≡ uploading m → answers_decided l ≡ answers_decided m
same_bytes_of l m h = uploaded l ∙ ap answers_decided h ∙ sym (uploaded m)

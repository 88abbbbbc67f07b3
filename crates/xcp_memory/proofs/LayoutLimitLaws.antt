-- Parts whose numbers are those of a lawful layout break no limit.
use Rattle.std.proofs.Common.{◌≡◌, ◌≢◌, ◌==◌, ℕ, ◌+◌, ◌<◌, ◌≤◌, inl, inr, ℤ, pos, negsuc, true, false, not, List, [], ◌∷◌, length, map, take, drop, suc, None, Some, refl, ◌∙◌, ap, subst, arith, nat_le, sum_by, All, if◌then◌else◌, slice_index_or as get_or}
use Rattle.std.specs.Prelude.{◌↔◌}
use Rattle.std.specs.List.{flat_map, enumerate_from}
use Rattle.std.proofs.lemmas.Bool.{and_from}
use Rattle.std.proofs.lemmas.Bool.Decides.{nat_tests}
use Rattle.std.proofs.lemmas.List.{take-append-drop, length-map}
use Rattle.std.proofs.lemmas.List.Elements.{All-get_or, All-from_get_or}
use Rattle.std.proofs.lemmas.List.Sums.{sum_by-append, list_all-from_AllPass}
use Rattle.std.proofs.Math.ListN.{get_or-map}
use Rattle.xcp_memory.specs.declared.key.Area.TheVariants as area
use Rattle.xcp_memory.specs.declared.class.Class.{Class}
use Rattle.xcp_memory.specs.declared.parts.Parts.{Parts}
use Rattle.xcp_memory.specs.declared.parts.SegmentPart.{SegmentPart}
use Rattle.xcp_memory.specs.declared.parts.EventPart.{EventPart}
use Rattle.xcp_memory.specs.ClassLimits.{limits_of}
use Rattle.xcp_memory.specs.Layout.{LayoutValue, IsLayout, IsApart, IsPrintable, Extent, extents, no_extent}
use Rattle.xcp_memory.specs.LayoutLaws.{IsNatural, IsByte, AreNumbers}
use Rattle.xcp_memory.specs.Pages.{no_segment}
use Rattle.xcp_memory.specs.LayoutParts.{Placed, areas, number, size, segment_of_part, event_of_part, layout_from}
use Rattle.xcp_packet.specs.Rows.{first_holding}
use Rattle.xcp_memory.specs.Limits.{Limit, is_within, is_printable, is_text, is_text_or_none, is_apart, apart_limit, apart_limits, limits_in, segment_counts, segments_limits, signals_limits, event_counts, event_limits, events_limits, own_limits, first_fault}
use Rattle.xcp_packet.proofs.RowTestLemmas.{kept, none_left, behind_4}
use Rattle.xcp_memory.proofs.AreaLaws.{length-extents, extents-signals, segment_last}
use Rattle.xcp_memory.proofs.LawfulLayoutLemmas.{AllKept, all_kept, all_cons, each_kept, IsGoodSegment, sum_of_parts, extents-areas, within_number, none_broken, counted, segments_counted, events_counted, lawful}

-- where each limit is kept, none is broken
keeps : (ls : List Limit) → AllKept ls → first_holding ls ≡ None
keeps [] h = refl
keeps (l ∷ ls) h =
    elim l.0 as (λ b. b ≡ false → (if b then Some l.1 else first_holding ls) ≡ None) [
      | true ↦ λ k. cc
      | false ↦ λ k. keeps ls h.1
    ] h.0

at_most : (a b : ℕ) → a ≤ b → nat_le a b ≡ true
at_most a b h = grind (arith, nat_tests)

within : (least most : ℕ) (z : ℤ) → IsNatural z → least ≤ number z → number z ≤ most → is_within least most z ≡ true
within least most (pos n) e h k = and_from _ _ (at_most least n h) (at_most n most k)
within least most (negsuc n) e h k = cc

natural : (least most : ℕ) (z : ℤ) → is_within least most z ≡ true → IsNatural z
natural least most (pos n) h = refl
natural least most (negsuc n) h = cc

printable : (b : ℕ) → IsPrintable b → is_printable b ≡ true
printable b h = and_from _ _ (at_most 0x20 b h.0) (at_most b 0x7E h.1)

text : (most : ℕ) (bytes : List ℕ) → 1 ≤ length bytes → length bytes ≤ most → All IsPrintable bytes → is_text most bytes ≡ true
text most bytes h k p =
    and_from _ _ (and_from _ _ (at_most 1 (length bytes) h) (at_most (length bytes) most k)) (list_all-from_AllPass is_printable bytes (λ i d l. printable (get_or bytes i d) (p i d l)))

text_or_none : (most : ℕ) (bytes : List ℕ) → length bytes ≤ most → All IsPrintable bytes → is_text_or_none most bytes ≡ true
text_or_none most bytes k p =
    and_from _ _ (at_most (length bytes) most k) (list_all-from_AllPass is_printable bytes (λ i d l. printable (get_or bytes i d) (p i d l)))

-- what holds of each part's value holds of each part
of_each : {A B : Type 0} (P : B → Type 0) (f : A → B) (xs : List A) → All P (map f xs) → All (λ x. P (f x)) xs
of_each P f [] h = λ k d b. absurd (omega arith)
of_each P f (x ∷ xs) h =
    all_cons (λ x. P (f x)) x xs (h 0 (f x) (omega arith)) (of_each P f xs (λ k d b. h (suc k) d (omega arith)))

-- parts that each keep their limits keep them all
each_keeps : {A : Type 0} (f : ℕ × A → List Limit) (P : A → Type 0) → ((i : ℕ) (x : A) → P x → first_holding (f (i, x)) ≡ None) → (n : ℕ) (xs : List A) → All P xs → first_holding (flat_map f (enumerate_from n xs)) ≡ None
each_keeps f P g n [] h = refl
each_keeps f P g n (x ∷ xs) h =
    none_left (f (n, x)) (flat_map f (enumerate_from (n + 1) xs)) (g n x (h 0 x (omega arith))) ∙ each_keeps f P g (n + 1) xs (λ k d b. h (suc k) d (omega arith))

-- the bytes up to a segment's are no more than all
up_to : (ss : List SegmentPart) (n : ℕ) → sum_by size (take n ss) ≤ sum_by size ss
up_to ss n =
    let whole = ap (sum_by size) (take-append-drop n ss) in
    let parts = sum_by-append size (take n ss) (drop n ss) in
    omega (arith, whole, parts)

-- a segment that keeps its limits
record Keeps (s : SegmentPart) : Type 0 where
  good : IsGoodSegment s
  address : IsNatural s.address
  pages : IsNatural s.pages

segment_keeps : (class : Class) (ss : List SegmentPart) → sum_by size ss ≤ (limits_of class).bytes → (i : ℕ) (s : SegmentPart) → Keeps s → first_holding (limits_in class ss (i, s)) ≡ None
segment_keeps class ss h i s k =
    let filled = k.good.filled in
    let ends = k.good.ends in
    let here = up_to ss (i + 1) in
    let address = within 0 0xFFFF_FFFE s.address k.address (omega arith) (omega arith) in
    let pages = within 2 4 s.pages k.pages k.good.paged.0 k.good.paged.1 in
    let total = at_most (sum_by size (take (i + 1) ss)) (limits_of class).bytes (omega arith) in
    keeps (limits_in class ss (i, s)) (ap not address, (ap not (at_most 1 (size s) filled), (ap not total, (ap not (at_most (number s.address + size s) 0xFFFF_FFFF ends), (ap not pages, tt)))))

record KeepsEvent (e : EventPart) : Type 0 where
  lengths : (1 ≤ length e.name.items) × (length e.name.items ≤ 32)
  printable_all : All IsPrintable e.name.items
  numbers : IsByte e.cycle × IsByte e.unit × IsByte e.priority

byte : (z : ℤ) → IsByte z → is_within 0 255 z ≡ true
byte z h = within 0 255 z h.0 (omega arith) h.1

event_keeps : (i : ℕ) (e : EventPart) → KeepsEvent e → first_holding (event_limits (i, e)) ≡ None
event_keeps i e k =
    let n = k.numbers in
    keeps (event_limits (i, e)) (ap not (text 32 e.name.items k.lengths.0 k.lengths.1 k.printable_all), (ap not (byte e.cycle n.0), (ap not (byte e.unit n.1), (ap not (byte e.priority n.2), tt))))

-- areas that are apart pass their test
passes_apart : (a b : Extent) → IsApart a b → is_apart a b ≡ true
passes_apart a b h = elim h [ inl k ↦ grind (arith, nat_tests) | inr k ↦ grind (arith, nat_tests) ]

one_apart : (a : Placed) (xs : List Placed) (d : Placed) → ((j : ℕ) → j < length xs → IsApart a.extent (get_or xs j d).extent) → first_holding (map (apart_limit a) xs) ≡ None
one_apart a [] d h = refl
one_apart a (x ∷ xs) d h =
    let here = passes_apart a.extent x.extent (h 0 (omega arith)) in
    none_left (apart_limit a x ∷ []) (map (apart_limit a) xs) (keeps (apart_limit a x ∷ []) (ap not here, tt)) ∙ one_apart a xs d (λ j b. h (suc j) (omega arith))

each_apart : (ps : List Placed) (d : Placed) → ((i j : ℕ) → i < j → j < length ps → IsApart (get_or ps i d).extent (get_or ps j d).extent) → first_holding (apart_limits ps) ≡ None
each_apart [] d h = refl
each_apart (a ∷ ps) d h =
    none_left (map (apart_limit a) ps) (apart_limits ps) (one_apart a ps d (λ j b. h 0 (suc j) (omega arith) (omega arith))) ∙ each_apart ps d (λ i j p q. h (suc i) (suc j) (omega arith) (omega arith))

-- the areas of a lawful layout
areas_apart : (l : LayoutValue) → IsLayout l → first_holding (apart_limits (areas l)) ≡ None
areas_apart l h =
    let no_area : Placed = record { area = area.Signals; extent = no_extent } in
    let extent : Placed → Extent = λ a. a.extent in
    let e = extents-areas l in
    let n = ap length e ∙ length-map (areas l) extent in
    let at : (i : ℕ) → get_or (extents l) i no_extent ≡ (get_or (areas l) i no_area).extent = λ i. ap (λ es. get_or es i no_extent) e ∙ get_or-map extent (areas l) i no_area in
    each_apart (areas l) no_area (λ i j p q.
    (let k = h.apart i j p (omega arith) in
    subst (λ x. IsApart x (get_or (areas l) j no_area).extent) (at i) (subst (λ x. IsApart (get_or (extents l) i no_extent) x) (at j) k)))

segments_keep : (p : Parts) → IsLayout (layout_from p) → AreNumbers p → first_holding (segments_limits p.class p.segments.items) ≡ None
segments_keep p h n =
    let l = layout_from p in
    let ss = p.segments.items in
    let long = length-map ss segment_of_part in
    let least = h.segments_least in
    let most = h.segments_most in
    let counts = keeps (segment_counts p.class (length ss)) (ap not (at_most 1 (length ss) (omega arith)), (ap not (at_most (length ss) (limits_of p.class).segments (omega arith)), tt)) in
    let total = subst (λ k. k ≤ (limits_of p.class).bytes) (sum_of_parts ss) h.total in
    let filled = of_each (λ s. 1 ≤ length s.bytes) segment_of_part ss h.filled in
    let paged = of_each (λ s. (2 ≤ s.pages) × (s.pages ≤ 4)) segment_of_part ss h.paged in
    let ends = of_each (λ s. s.address + length s.bytes ≤ 0xFFFF_FFFF) segment_of_part ss (All-from_get_or (λ s. s.address + length s.bytes ≤ 0xFFFF_FFFF) l.segments no_segment (λ i m. segment_last l i h m)) in
    let each : All Keeps ss = λ k d b. record { good = record { filled = filled k d b; ends = ends k d b; paged = paged k d b }; address = (n.segments k d b).0; pages = (n.segments k d b).1 } in
    none_left (segment_counts p.class (length ss)) (flat_map (limits_in p.class ss) (enumerate_from 0 ss)) counts ∙ each_keeps (limits_in p.class ss) Keeps (segment_keeps p.class ss total) 0 ss each

events_keep : (p : Parts) → IsLayout (layout_from p) → AreNumbers p → first_holding (events_limits p.class p.events.items) ≡ None
events_keep p h n =
    let es = p.events.items in
    let long = length-map es event_of_part in
    let least = h.events_least in
    let most = h.events_most in
    let counts = keeps (event_counts p.class (length es)) (ap not (at_most 1 (length es) (omega arith)), (ap not (at_most (length es) (limits_of p.class).events (omega arith)), tt)) in
    let names = of_each (λ e. (1 ≤ length e.name) × (length e.name ≤ 32)) event_of_part es h.names in
    let texts = of_each (λ e. All IsPrintable e.name) event_of_part es h.name_texts in
    let each : All KeepsEvent es = λ k d b. record { lengths = names k d b; printable_all = texts k d b; numbers = n.events k d b } in
    none_left (event_counts p.class (length es)) (flat_map event_limits (enumerate_from 0 es)) counts ∙ each_keeps event_limits KeepsEvent event_keeps 0 es each

signals_keep : (p : Parts) → IsLayout (layout_from p) → AreNumbers p → first_holding (signals_limits p.class p.signals_address p.signals_length) ≡ None
signals_keep p h n =
    let l = layout_from p in
    let P : Extent → Type 0 = λ e. e.address + e.size ≤ 0xFFFF_FFFF in
    let ends = subst P (extents-signals l) (All-get_or P (extents l) (length l.segments) no_extent (omega (arith, length-extents l)) h.last) in
    let least = h.signals_least in
    let address = within 0 0xFFFF_FFFE p.signals_address n.signals_address (omega arith) (omega arith) in
    let bytes = within 1 (limits_of p.class).signals p.signals_length n.signals_length least h.signals_most in
    keeps (signals_limits p.class p.signals_address p.signals_length) (ap not address, (ap not bytes, (ap not (at_most (number p.signals_address + number p.signals_length) 0xFFFF_FFFF ends), tt)))

not_three : (n : ℕ) → n ≢ 3 → not (not (n == 3)) ≡ false
not_three n h = grind (arith, nat_tests)

is_other : (n : ℕ) → not (not (n == 3)) ≡ false → n ≢ 3
is_other n h = grind (arith, nat_tests)

own_keep : (p : Parts) → IsLayout (layout_from p) → AreNumbers p → first_holding (own_limits p) ≡ None
own_keep p h n =
    let id = text 64 p.id.items h.id_least h.id_most h.id_text in
    let cto = within 8 255 p.max_cto n.cto h.cto_least h.cto_most in
    let dto = within 8 255 p.max_dto n.dto h.dto_least h.dto_most in
    let kind = within 1 6 p.checksum n.checksum n.kinds.0 n.kinds.1 in
    let a2l = text_or_none 64 p.extras.a2l.items h.extras.a2l_most h.extras.a2l_text in
    let size = within 0 4 p.clock.size n.stamp_natural (omega arith) n.stamp_most in
    let unit = within 0 12 p.clock.unit n.unit (omega arith) h.unit_most in
    let ticks = within 1 65535 p.clock.ticks n.ticks h.ticks_least h.ticks_most in
    keeps (own_limits p) (ap not id, (ap not cto, (ap not dto, (ap not kind, (ap not a2l, (ap not size, (not_three _ n.stamp_known, (ap not unit, (ap not ticks, tt)))))))))

keep : (p : Parts) → IsLayout (layout_from p) → AreNumbers p → first_fault p ≡ None
keep p h n =
    behind_4 (own_limits p) (segments_limits p.class p.segments.items) (signals_limits p.class p.signals_address p.signals_length) (events_limits p.class p.events.items) (apart_limits (areas (layout_from p))) (own_keep p h n) (segments_keep p h n) (signals_keep p h n) (events_keep p h n)
    ∙ areas_apart (layout_from p) h

-- parts that break no limit have such numbers
byte_of : (z : ℤ) → is_within 0 255 z ≡ true → IsByte z
byte_of z h = (natural 0 255 z h, (within_number 0 255 z h).1)

segment_numbers : (class : Class) (ss : List SegmentPart) (i : ℕ) (s : SegmentPart) → first_holding (limits_in class ss (i, s)) ≡ None → IsNatural s.address × IsNatural s.pages
segment_numbers class ss i s h =
    let k = all_kept (limits_in class ss (i, s)) h in
    (natural 0 0xFFFF_FFFE s.address (kept _ k.0), natural 2 4 s.pages (kept _ k.1.1.1.1.0))

event_numbers : (i : ℕ) (e : EventPart) → first_holding (event_limits (i, e)) ≡ None → IsByte e.cycle × IsByte e.unit × IsByte e.priority
event_numbers i e h =
    let k = all_kept (event_limits (i, e)) h in
    (byte_of e.cycle (kept _ k.1.0), byte_of e.unit (kept _ k.1.1.0), byte_of e.priority (kept _ k.1.1.1.0))

numbers : (p : Parts) → first_fault p ≡ None → AreNumbers p
numbers p h =
    let g = none_broken p h in
    let own = all_kept (own_limits p) g.own in
    let signals = all_kept (signals_limits p.class p.signals_address p.signals_length) g.signals in
    let ss = p.segments.items in
    let es = p.events.items in
    let segments : segments_counted p.class ss = counted _ _ _ g.segments in
    let events : events_counted p.class es = counted _ _ _ g.events in
    record {
      cto = natural 8 255 p.max_cto (kept _ own.1.0);
      dto = natural 8 255 p.max_dto (kept _ own.1.1.0);
      checksum = natural 1 6 p.checksum (kept _ own.1.1.1.0);
      kinds = within_number 1 6 p.checksum (kept _ own.1.1.1.0);
      stamp_natural = natural 0 4 p.clock.size (kept _ own.1.1.1.1.1.0);
      stamp_most = (within_number 0 4 p.clock.size (kept _ own.1.1.1.1.1.0)).1;
      stamp_known = is_other _ own.1.1.1.1.1.1.0;
      unit = natural 0 12 p.clock.unit (kept _ own.1.1.1.1.1.1.1.0);
      ticks = natural 1 65535 p.clock.ticks (kept _ own.1.1.1.1.1.1.1.1.0);
      segments = each_kept (limits_in p.class ss) (λ s. IsNatural s.address × IsNatural s.pages) (segment_numbers p.class ss) 0 ss segments.behind;
      signals_address = natural 0 0xFFFF_FFFE p.signals_address (kept _ signals.0);
      signals_length = natural 1 (limits_of p.class).signals p.signals_length (kept _ signals.1.0);
      events = each_kept event_limits (λ e. IsByte e.cycle × IsByte e.unit × IsByte e.priority) event_numbers 0 es events.behind;
    }

-- parts break no limit exactly where they make a lawful layout and their numbers are within their ranges
pub kept_limits : (p : Parts) → (first_fault p ≡ None) ↔ (IsLayout (layout_from p) × AreNumbers p)
kept_limits p = (λ h. (lawful p h, numbers p h), λ k. keep p k.0 k.1)

-- Parts that break no limit make a lawful layout.
use Rattle.std.proofs.Common.{◌≡◌, ℕ, ◌+◌, ◌<◌, ◌≤◌, ℤ, pos, negsuc, Bool, true, false, ◌&&◌, List, length, map, ◌++◌, ◌∷◌, [], take, Some, None, refl, sym, ◌∙◌, ap, subst, arith, suc, zero, nat_le, sum_by, All, if◌then◌else◌, slice_index_or as get_or}
use Rattle.std.specs.List.{flat_map, enumerate_from, list_all}
use Rattle.std.proofs.lemmas.List.{take_all, length-map, map-append}
use Rattle.std.proofs.lemmas.List.Elements.{All-append, All-map}
use Rattle.std.proofs.lemmas.List.Folds.{fold-map}
use Rattle.std.proofs.lemmas.List.Sums.{AllPass-from_list_all}
use Rattle.std.proofs.lemmas.Bool.Decides.{nat_tests}
use Rattle.std.proofs.Math.ListN.{get_or-map}
use Rattle.xcp_memory.specs.declared.key.Area.TheVariants as area
use Rattle.xcp_memory.specs.declared.class.Class.{Class}
use Rattle.xcp_memory.specs.declared.parts.Parts.{Parts}
use Rattle.xcp_memory.specs.declared.parts.SegmentPart.{SegmentPart}
use Rattle.xcp_memory.specs.declared.parts.EventPart.{EventPart}
use Rattle.xcp_memory.specs.ClassLimits.{limits_of}
use Rattle.xcp_memory.specs.Layout.{LayoutValue, IsLayout, IsApart, IsPrintable, Extent, SegmentValue, extents, segment_extent, signals_extent, no_extent}
use Rattle.xcp_memory.specs.LayoutParts.{Placed, placed_segment, areas, number, size, segment_of_part, event_of_part, layout_from}
use Rattle.xcp_memory.specs.declared.key.Key.TheVariants as key
use Rattle.xcp_memory.specs.declared.key.LayoutFault.TheVariants.{Range, TooMany}
use Rattle.xcp_packet.specs.Rows.{first_holding, must}
use Rattle.xcp_memory.specs.Limits.{Limit, is_within, is_printable, is_text, is_text_or_none, is_apart, apart_limit, apart_limits, limits_in, segments_limits, signals_limits, event_limits, events_limits, own_limits, first_fault}
use Rattle.xcp_packet.proofs.RowTestLemmas.{kept, none_both}

-- each limit is kept
abbrev pub AllKept : List Limit → Type 0
AllKept [] = Unit {0}
AllKept (l ∷ ls) = (l.0 ≡ false) × AllKept ls

-- where no limit is broken, each is kept
pub all_kept : (ls : List Limit) → first_holding ls ≡ None → AllKept ls
all_kept [] h = tt
all_kept (l ∷ ls) h =
    elim l.0 as (λ b. (if b then Some l.1 else first_holding ls) ≡ None → (b ≡ false) × AllKept ls) [
      | true ↦ λ k. cc
      | false ↦ λ k. (refl, all_kept ls k)
    ] h

-- a number within its ends
pub within_number : (least most : ℕ) (z : ℤ) → is_within least most z ≡ true → (least ≤ number z) × (number z ≤ most)
within_number least most (pos n) h = grind (arith, nat_tests)
within_number least most (negsuc n) h = cc

-- a byte that passes the test is a printable character
pub printable : (b : ℕ) → is_printable b ≡ true → IsPrintable b
printable b h = grind (arith, nat_tests)

-- what a text's test says
pub record IsTextOf (most : ℕ) (bytes : List ℕ) : Type 0 where
  pub least : 1 ≤ length bytes
  pub most_of : length bytes ≤ most
  pub printable_all : All IsPrintable bytes

-- where two tests hold together, each of them holds
pub both : (a b : Bool) → (a && b) ≡ true → (a ≡ true) × (b ≡ true)
both true b h = (refl, h)
both false b h = cc

-- bytes that pass a text's test are printable characters, one at least and at most as many as it allows
pub text : (most : ℕ) (bytes : List ℕ) → is_text most bytes ≡ true → IsTextOf most bytes
text most bytes h =
    let p = both (nat_le 1 (length bytes) && nat_le (length bytes) most) (list_all is_printable bytes) h in
    let q = both (nat_le 1 (length bytes)) (nat_le (length bytes) most) p.0 in
    let a = q.0 in
    let b = q.1 in
    record {
      least = grind (arith, nat_tests);
      most_of = grind (arith, nat_tests);
      printable_all = λ k d below. printable (get_or bytes k d) (AllPass-from_list_all is_printable bytes p.1 k d below);
    }

-- up to `most` printable characters
pub text_or_none : (most : ℕ) (bytes : List ℕ) → is_text_or_none most bytes ≡ true → (length bytes ≤ most) × All IsPrintable bytes
text_or_none most bytes h =
    let b = both _ _ h in
    let most_of = b.0 in
    let passes = AllPass-from_list_all is_printable bytes b.1 in
    (grind (arith, nat_tests), λ k d l. printable (get_or bytes k d) (passes k d l))

-- a fact of a list's first element and of the others
pub all_cons : {A : Type 0} (P : A → Type 0) (x : A) (xs : List A) → P x → All P xs → All P (x ∷ xs)
all_cons P x xs p h zero d below = p
all_cons P x xs p h (suc k) d below = h k d (omega arith)

-- what follows from the limits of one part holds of each
pub each_kept : {A : Type 0} (f : ℕ × A → List Limit) (P : A → Type 0) → ((i : ℕ) (x : A) → first_holding (f (i, x)) ≡ None → P x) → (n : ℕ) (xs : List A) → first_holding (flat_map f (enumerate_from n xs)) ≡ None → All P xs
each_kept f P g n [] h = λ k d below. absurd (omega arith)
each_kept f P g n (x ∷ xs) h =
    let b = none_both (f (n, x)) (flat_map f (enumerate_from (n + 1) xs)) h in
    all_cons P x xs (g n x b.0) (each_kept f P g (n + 1) xs b.1)

-- what the limits of a segment say
pub record IsGoodSegment (s : SegmentPart) : Type 0 where
  pub filled : 1 ≤ size s
  pub ends : number s.address + size s ≤ 0xFFFF_FFFF
  pub paged : (2 ≤ number s.pages) × (number s.pages ≤ 4)

good_segment : (class : Class) (ss : List SegmentPart) (i : ℕ) (s : SegmentPart) → first_holding (limits_in class ss (i, s)) ≡ None → (sum_by size (take (i + 1) ss) ≤ (limits_of class).bytes) × IsGoodSegment s
good_segment class ss i s h =
    let k = all_kept (limits_in class ss (i, s)) h in
    let most = (limits_of class).bytes in
    let filled = kept (nat_le 1 (size s)) k.1.0 in
    let total = kept (nat_le (sum_by size (take (i + 1) ss)) most) k.1.1.0 in
    let ends = kept (nat_le (number s.address + size s) 0xFFFF_FFFF) k.1.1.1.0 in
    let paged = within_number 2 4 s.pages (kept (is_within 2 4 s.pages) k.1.1.1.1.0) in
    (grind (arith, nat_tests), record { filled = grind (arith, nat_tests); ends = grind (arith, nat_tests); paged = paged })

-- the last segment's limit is that of all bytes
pub total_kept : (class : Class) (ss xs : List SegmentPart) (n : ℕ) → 1 ≤ length xs → n + length xs ≡ length ss → first_holding (flat_map (limits_in class ss) (enumerate_from n xs)) ≡ None → sum_by size ss ≤ (limits_of class).bytes
total_kept class ss [] n h e k = absurd (omega arith)
total_kept class ss (x ∷ []) n h e k =
    let b = none_both (limits_in class ss (n, x)) [] k in
    let P : List SegmentPart → Type 0 = λ ys. sum_by size ys ≤ (limits_of class).bytes in
    subst P (take_all (n + 1) ss (omega arith)) (good_segment class ss n x b.0).0
total_kept class ss (x ∷ (y ∷ xs)) n h e k =
    let b = none_both (limits_in class ss (n, x)) (flat_map (limits_in class ss) (enumerate_from (n + 1) (y ∷ xs))) k in
    total_kept class ss (y ∷ xs) (n + 1) (omega arith) (omega arith) b.1

-- the sum of the values is that of the parts
pub sum_of_parts : (ss : List SegmentPart) → sum_by (λ s. length s.bytes) (map segment_of_part ss) ≡ sum_by size ss
sum_of_parts ss = fold-map (λ (n : ℕ) (s : SegmentValue). n + length s.bytes) segment_of_part 0 ss

-- a pair that passes the test
apart_by : (a b : Extent) → is_apart a b ≡ true → IsApart a b
apart_by a b h = grind (arith, nat_tests)

-- an area is apart from each with which its limit is kept
apart_from : (a : Placed) (xs : List Placed) → first_holding (map (apart_limit a) xs) ≡ None → (j : ℕ) → j < length xs → (d : Placed) → IsApart a.extent (get_or xs j d).extent
apart_from a [] h j q d = absurd (omega arith)
apart_from a (x ∷ xs) h zero q d = apart_by a.extent x.extent (kept _ (all_kept (apart_limit a x ∷ map (apart_limit a) xs) h).0)
apart_from a (x ∷ xs) h (suc j) q d =
    let b = none_both (apart_limit a x ∷ []) (map (apart_limit a) xs) h in
    apart_from a xs b.1 j (omega arith) d

-- where no pair's limit is broken, any two areas are apart
pub apart_all : (ps : List Placed) → first_holding (apart_limits ps) ≡ None → (i j : ℕ) → i < j → j < length ps → (d : Placed) → IsApart (get_or ps i d).extent (get_or ps j d).extent
apart_all [] h i j p q d = absurd (omega arith)
apart_all (a ∷ ps) h i zero p q d = absurd (omega arith)
apart_all (a ∷ ps) h zero (suc j) p q d =
    let b = none_both (map (apart_limit a) ps) (apart_limits ps) h in
    apart_from a ps b.0 j (omega arith) d
apart_all (a ∷ ps) h (suc i) (suc j) p q d =
    let b = none_both (map (apart_limit a) ps) (apart_limits ps) h in
    apart_all ps b.1 i j (omega arith) (omega arith) d

-- where the named areas lie
extents-named : (n : ℕ) (ss : List SegmentValue) → map (λ (a : Placed). a.extent) (map placed_segment (enumerate_from n ss)) ≡ map segment_extent ss
extents-named n [] = refl
extents-named n (s ∷ ss) = ap (λ es. segment_extent s ∷ es) (extents-named (n + 1) ss)

-- the areas of a layout lie where its named areas do, in the same order
pub extents-areas : (l : LayoutValue) → extents l ≡ map (λ (a : Placed). a.extent) (areas l)
extents-areas l =
    let signals : Placed = record { area = area.Signals; extent = signals_extent l } in
    ap (λ es. es ++ signals_extent l ∷ []) (sym (extents-named 0 l.segments))
    ∙ sym (map-append (λ (a : Placed). a.extent) (map placed_segment (enumerate_from 0 l.segments)) (signals ∷ []))

-- the limits of parts, group by group
pub record NoneBroken (p : Parts) : Type 0 where
  pub own : first_holding (own_limits p) ≡ None
  pub segments : first_holding (segments_limits p.class p.segments.items) ≡ None
  pub signals : first_holding (signals_limits p.class p.signals_address p.signals_length) ≡ None
  pub events : first_holding (events_limits p.class p.events.items) ≡ None
  pub apart : first_holding (apart_limits (areas (layout_from p))) ≡ None

-- parts that break no limit break none in any group of them
pub none_broken : (p : Parts) → first_fault p ≡ None → NoneBroken p
none_broken p h =
    let a = none_both (own_limits p ++ segments_limits p.class p.segments.items ++ signals_limits p.class p.signals_address p.signals_length ++ events_limits p.class p.events.items) (apart_limits (areas (layout_from p))) h in
    let b = none_both (own_limits p ++ segments_limits p.class p.segments.items ++ signals_limits p.class p.signals_address p.signals_length) (events_limits p.class p.events.items) a.0 in
    let c = none_both (own_limits p ++ segments_limits p.class p.segments.items) (signals_limits p.class p.signals_address p.signals_length) b.0 in
    let d = none_both (own_limits p) (segments_limits p.class p.segments.items) c.0 in
    record { own = d.0; segments = d.1; signals = c.1; events = b.1; apart = a.1 }

-- what the limits of an event channel say
pub record IsGoodEvent (e : EventPart) : Type 0 where
  pub least : 1 ≤ length e.name.items
  pub most : length e.name.items ≤ 32
  pub printable_all : All IsPrintable e.name.items

good_event : (i : ℕ) (e : EventPart) → first_holding (event_limits (i, e)) ≡ None → IsGoodEvent e
good_event i e h =
    let t = text 32 e.name.items (kept _ (all_kept (event_limits (i, e)) h).0) in
    record { least = t.least; most = t.most_of; printable_all = t.printable_all }

-- two areas of a layout
apart_extents : (l : LayoutValue) → first_holding (apart_limits (areas l)) ≡ None → (i j : ℕ) → i < j → j < length (extents l) → IsApart (get_or (extents l) i no_extent) (get_or (extents l) j no_extent)
apart_extents l h i j p q =
    let no_area : Placed = record { area = area.Signals; extent = no_extent } in
    let extent : Placed → Extent = λ a. a.extent in
    let e = extents-areas l in
    let n = ap length e ∙ length-map (areas l) extent in
    let at_i = ap (λ es. get_or es i no_extent) e ∙ get_or-map extent (areas l) i no_area in
    let at_j = ap (λ es. get_or es j no_extent) e ∙ get_or-map extent (areas l) j no_area in
    let k = apart_all (areas l) h i j p (omega arith) no_area in
    rw (at_i, at_j) k

-- a test of an order that is passed
at_most : (a b : ℕ) → nat_le a b ≡ true → a ≤ b
at_most a b h = grind (arith, nat_tests)

-- the two limits of a count, and those behind
pub record IsCounted (a b : Limit) (rest : List Limit) : Type 0 where
  pub least : a.0 ≡ false
  pub most : b.0 ≡ false
  pub behind : first_holding rest ≡ None

-- where none of these limits is broken, a count keeps both of its own, and none of those behind is broken
pub counted : (a b : Limit) (rest : List Limit) → first_holding (a ∷ (b ∷ rest)) ≡ None → IsCounted a b rest
counted a b rest h =
    let k = none_both (a ∷ (b ∷ [])) rest h in
    let c = all_kept (a ∷ (b ∷ [])) k.0 in
    record { least = c.0; most = c.1.0; behind = k.1 }

-- the segments of parts that break no limit, and the event channels
abbrev pub segments_counted : Class → List SegmentPart → Type 0
segments_counted class ss = IsCounted (must (nat_le 1 (length ss)) (Range key.Segment)) (must (nat_le (length ss) (limits_of class).segments) (TooMany key.Segment)) (flat_map (limits_in class ss) (enumerate_from 0 ss))

-- there are event channels, no more than the class has, and none of them breaks a limit
abbrev pub events_counted : Class → List EventPart → Type 0
events_counted class es = IsCounted (must (nat_le 1 (length es)) (Range key.Event)) (must (nat_le (length es) (limits_of class).events) (TooMany key.Event)) (flat_map event_limits (enumerate_from 0 es))

-- each segment is good, and so is each event channel
pub good_segments : (class : Class) (ss : List SegmentPart) → segments_counted class ss → All IsGoodSegment ss
good_segments class ss c = each_kept (limits_in class ss) IsGoodSegment (λ i s h. (good_segment class ss i s h).1) 0 ss c.behind

-- event channels that break no limit have names of 1 to 32 printable characters
pub good_events : (class : Class) (es : List EventPart) → events_counted class es → All IsGoodEvent es
good_events class es c = each_kept event_limits IsGoodEvent good_event 0 es c.behind

-- parts that break no limit make a lawful layout
pub lawful : (p : Parts) → first_fault p ≡ None → IsLayout (layout_from p)
lawful p h =
    let l = layout_from p in
    let ss = p.segments.items in
    let es = p.events.items in
    let g = none_broken p h in
    let own = all_kept (own_limits p) g.own in
    let id = text 64 p.id.items (kept _ own.0) in
    let cto = within_number 8 255 p.max_cto (kept _ own.1.0) in
    let dto = within_number 8 255 p.max_dto (kept _ own.1.1.0) in
    let a2l = text_or_none 64 p.extras.a2l.items (kept _ own.1.1.1.1.0) in
    let unit = within_number 0 12 p.clock.unit (kept _ own.1.1.1.1.1.1.1.0) in
    let ticks = within_number 1 65535 p.clock.ticks (kept _ own.1.1.1.1.1.1.1.1.0) in
    let signals = all_kept (signals_limits p.class p.signals_address p.signals_length) g.signals in
    let signals_number = within_number 1 (limits_of p.class).signals p.signals_length (kept _ signals.1.0) in
    let signals_end : nat_le (number p.signals_address + number p.signals_length) 0xFFFF_FFFF ≡ true = kept _ signals.1.1.0 in
    let segments : segments_counted p.class ss = counted _ _ _ g.segments in
    let events : events_counted p.class es = counted _ _ _ g.events in
    let good = good_segments p.class ss segments in
    let named = good_events p.class es events in
    let Ends : Extent → Type 0 = λ e. e.address + e.size ≤ 0xFFFF_FFFF in
    let last_segments : All Ends (map segment_extent l.segments) =
    All-map Ends segment_extent l.segments (All-map (λ s. Ends (segment_extent s)) segment_of_part ss (λ k d b. (good k d b).ends)) in
    let last_signals : All Ends (signals_extent l ∷ []) =
    all_cons Ends (signals_extent l) [] (at_most (number p.signals_address + number p.signals_length) 0xFFFF_FFFF signals_end) (λ k d b. absurd (omega arith)) in
    record {
      cto_least = cto.0;
      cto_most = cto.1;
      dto_least = dto.0;
      dto_most = dto.1;
      id_least = id.least;
      id_most = id.most_of;
      id_text = id.printable_all;
      unit_most = unit.1;
      ticks_least = ticks.0;
      ticks_most = ticks.1;
      segments_least = rw length-map (at_most 1 (length ss) (kept _ segments.least));
      segments_most = rw length-map (at_most (length ss) (limits_of p.class).segments (kept _ segments.most));
      filled = All-map (λ s. 1 ≤ length s.bytes) segment_of_part ss (λ k d b. (good k d b).filled);
      total = rw sum_of_parts (total_kept p.class ss ss 0 (at_most 1 (length ss) (kept _ segments.least)) (omega arith) segments.behind);
      paged = All-map (λ s. (2 ≤ s.pages) × (s.pages ≤ 4)) segment_of_part ss (λ k d b. (good k d b).paged);
      signals_least = signals_number.0;
      signals_most = signals_number.1;
      events_least = rw length-map (at_most 1 (length es) (kept _ events.least));
      events_most = rw length-map (at_most (length es) (limits_of p.class).events (kept _ events.most));
      names = All-map (λ e. (1 ≤ length e.name) × (length e.name ≤ 32)) event_of_part es (λ k d b. ((named k d b).least, (named k d b).most));
      name_texts = All-map (λ e. All IsPrintable e.name) event_of_part es (λ k d b. (named k d b).printable_all);
      last = All-append Ends (map segment_extent l.segments) (signals_extent l ∷ []) last_segments last_signals;
      apart = apart_extents l g.apart;
      extras = record { a2l_most = a2l.0; a2l_text = a2l.1; file = record { epk_most = omega arith; text_most = omega arith } };
    }

-- The limits of parts, group by group, and the layout that is built of them.
use Rattle.std.proofs.Common.{◌≡◌, ℕ, List, map, ◌++◌, ◌∷◌, [], Some, None, refl, true}
use Rattle.std.specs.List.{enumerate_from}
use Rattle.xcp_memory.specs.declared.key.Area.TheVariants as area
use Rattle.xcp_memory.specs.declared.key.LayoutFault.{LayoutFault}
use Rattle.xcp_memory.specs.declared.parts.Parts.{Parts}
use Rattle.xcp_memory.specs.declared.checksum_kind.ChecksumKind.{ChecksumKind}
use Rattle.xcp_memory.specs.declared.clock.Clock.{Clock}
use Rattle.xcp_memory.specs.Layout.{LayoutValue, Extent, SegmentValue, EventValue, ExtrasValue, signals_extent}
use Rattle.xcp_memory.specs.LayoutParts.{Placed, placed_segment, areas, number, segment_of_part, event_of_part, kind_numbered, clock_of, extras_of, layout_from}
use Rattle.xcp_packet.specs.Rows.{first_holding}
use Rattle.xcp_memory.specs.Limits.{own_limits, segments_limits, signals_limits, events_limits, apart_limits, first_fault, is_text_or_none}
use Rattle.xcp_memory.proofs.LawfulLayoutLemmas.{all_kept}
use Rattle.xcp_packet.proofs.RowTestLemmas.{kept, behind_4, holding_1_of_5, holding_2_of_5, holding_3_of_5, holding_4_of_5}

-- a fault of the slave's own values
pub fault_of_own : (p : Parts) (f : LayoutFault) → first_holding (own_limits p) ≡ Some f → first_fault p ≡ Some f
fault_of_own p f h =
    let a = own_limits p in
    let b = segments_limits p.class p.segments.items in
    let c = signals_limits p.class p.signals_address p.signals_length in
    let d = events_limits p.class p.events.items in
    let e = apart_limits (areas (layout_from p)) in
    holding_1_of_5 a b c d e f h

-- a fault of the segments, where the slave's own values are good
pub fault_of_segments : (p : Parts) (f : LayoutFault) → first_holding (own_limits p) ≡ None → first_holding (segments_limits p.class p.segments.items) ≡ Some f → first_fault p ≡ Some f
fault_of_segments p f h i =
    let a = own_limits p in
    let b = segments_limits p.class p.segments.items in
    let c = signals_limits p.class p.signals_address p.signals_length in
    let d = events_limits p.class p.events.items in
    let e = apart_limits (areas (layout_from p)) in
    holding_2_of_5 a b c d e f h i

-- a fault of the signals, where the segments are good, too
pub fault_of_signals : (p : Parts) (f : LayoutFault) → first_holding (own_limits p) ≡ None → first_holding (segments_limits p.class p.segments.items) ≡ None → first_holding (signals_limits p.class p.signals_address p.signals_length) ≡ Some f → first_fault p ≡ Some f
fault_of_signals p f h i j =
    let a = own_limits p in
    let b = segments_limits p.class p.segments.items in
    let c = signals_limits p.class p.signals_address p.signals_length in
    let d = events_limits p.class p.events.items in
    let e = apart_limits (areas (layout_from p)) in
    holding_3_of_5 a b c d e f h i j

-- a fault of the event channels, where the signals are good, too
pub fault_of_events : (p : Parts) (f : LayoutFault) → first_holding (own_limits p) ≡ None → first_holding (segments_limits p.class p.segments.items) ≡ None → first_holding (signals_limits p.class p.signals_address p.signals_length) ≡ None → first_holding (events_limits p.class p.events.items) ≡ Some f → first_fault p ≡ Some f
fault_of_events p f h i j k =
    let a = own_limits p in
    let b = segments_limits p.class p.segments.items in
    let c = signals_limits p.class p.signals_address p.signals_length in
    let d = events_limits p.class p.events.items in
    let e = apart_limits (areas (layout_from p)) in
    holding_4_of_5 a b c d e f h i j k

-- where all values are good, the areas decide
pub fault_of_areas : (p : Parts) → first_holding (own_limits p) ≡ None → first_holding (segments_limits p.class p.segments.items) ≡ None → first_holding (signals_limits p.class p.signals_address p.signals_length) ≡ None → first_holding (events_limits p.class p.events.items) ≡ None → first_fault p ≡ first_holding (apart_limits (areas (layout_from p)))
fault_of_areas p h i j k =
    let a = own_limits p in
    let b = segments_limits p.class p.segments.items in
    let c = signals_limits p.class p.signals_address p.signals_length in
    let d = events_limits p.class p.events.items in
    let e = apart_limits (areas (layout_from p)) in
    behind_4 a b c d e h i j k

-- the areas of what was read are those of the layout
pub areas_built : (p : Parts) (ss : List SegmentValue) (signals : Extent) → ss ≡ map segment_of_part p.segments.items → signals ≡ signals_extent (layout_from p) → (map placed_segment (enumerate_from 0 ss) ++ (let last : Placed = record { area = area.Signals; extent = signals } in last) ∷ []) ≡ areas (layout_from p)
areas_built p ss signals e f = rw (e, f) refl

-- what was read is the layout
pub layout_built : (p : Parts) (cto dto : ℕ) (kind : ChecksumKind) (clock : Clock) (ss : List SegmentValue) (signals : Extent) (es : List EventValue) (extras : ExtrasValue) → cto ≡ number p.max_cto → dto ≡ number p.max_dto → kind ≡ kind_numbered (number p.checksum) → clock ≡ clock_of p.clock → ss ≡ map segment_of_part p.segments.items → signals ≡ signals_extent (layout_from p) → es ≡ map event_of_part p.events.items → extras ≡ extras_of p.extras → (let l : LayoutValue = record { class = p.class; id = p.id.items; max_cto = cto; max_dto = dto; checksum = kind; order = p.order; clock = clock; segments = ss; signals_address = signals.address; signals_length = signals.size; events = es; extras = extras } in l) ≡ layout_from p
layout_built p cto dto kind clock ss signals es extras a b c g d e f h = rw (a, b, c, g, d, e, f, h) refl

-- where no limit of the slave's own values is broken, the A2L file's name is within its limits
pub a2l_kept : (p : Parts) → first_holding (own_limits p) ≡ None → is_text_or_none 64 p.extras.a2l.items ≡ true
a2l_kept p h = kept _ (all_kept (own_limits p) h).1.1.1.1.0

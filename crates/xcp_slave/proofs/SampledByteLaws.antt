-- The packets of an event have the bytes that the controller reads.
use Rattle.std.proofs.Common.{◌≡◌, ℕ, ◌+◌, Bool, true, false, List, [], ◌∷◌, ◌++◌, length, Option, Some, None, ap, sym, ◌∙◌, refl, subst, arith, All}
use Rattle.std.specs.Prelude.{◌==◌, nat_lt, if◌then◌else◌, MatchBool}
use Rattle.std.specs.List.{flat_map, enumerate_from}
use Rattle.std.proofs.lemmas.Bool.Decides.{nat_tests}
use Rattle.std.proofs.lemmas.List.Elements.{All-head, All-tail}
use Rattle.arrayvec.specs.ArrayVec.{ArrayVec}
use Rattle.xcp_memory.specs.Layout.{IsLayout}
use Rattle.xcp_memory.specs.Signals.{takes_signals}
use Rattle.xcp_memory.specs.Memory.{Controller, LiesInside, Reads}
use Rattle.xcp_memory.specs.Pages.{PagesValue, IsPages}
use Rattle.xcp_memory.specs.ComputedAccess.{controller_bytes}
use Rattle.xcp_memory.proofs.AreaLaws.{inside_computes}
use Rattle.xcp_memory.proofs.ReadLaws.{controller_reads}
use Rattle.xcp_transfer.specs.Laws.{IsLawful}
use Rattle.xcp_daq.specs.declared.element.Element.{Element}
use Rattle.xcp_daq.specs.DaqLists.{DaqValue, DaqList, first_pid}
use Rattle.xcp_daq.specs.Pools.{joined}
use Rattle.xcp_daq.specs.Sample.{due, element_bytes, odt_bytes, list_packets, packets_from, stamped_packets, stamp_of}
use Rattle.xcp_daq.proofs.DaqInvariantLemmas.{all_left, all_right, entries_by_list}
use Rattle.xcp_slave.specs.declared.request.Request.TheVariants as requests
use Rattle.xcp_slave.specs.declared.outcome.Outcome.TheVariants as answers
use Rattle.xcp_slave.specs.PacketQueue.{event_packets}
use Rattle.xcp_slave.specs.SampledBytes.{ReadsOdt, OdtPackets, ListPackets, DuePackets}
use Rattle.xcp_slave.specs.SlaveInvariant.{LiesWritten, IsSlave}
use Rattle.xcp_slave.specs.SlaveValue.{SlaveValue, layout_of}
use Rattle.xcp_slave.specs.Step.{Answers, Fires, outbox_size, with_overload, with_signals}
use Rattle.xcp_slave.proofs.PacketQueueLaws.{event-whole}
use Rattle.xcp_slave.proofs.SlaveInvariantLaws.{either-test}
use Rattle.xcp_slave.proofs.StepLaws.{either}
use Rattle.xcp_slave.proofs.TransferInvariantLemmas as transfers

-- the bytes of an element that lies in one area are read
element-reads : (pages : PagesValue) (e : Element) → IsLayout pages.layout → IsPages pages → LiesInside pages.layout e.address e.size → Reads Controller pages e.address e.size (element_bytes pages e)
element-reads pages e l f h =
    let inside = inside_computes pages.layout e.address e.size h in
    controller_reads pages e.address e.size (element_bytes pages e) l f inside (ap (λ (b : Bool). if b then controller_bytes pages e.address e.size else []) inside)

odt-gathers : (pages : PagesValue) (odt : List (Option Element)) → IsLayout pages.layout → IsPages pages → All (LiesWritten pages.layout) odt → ReadsOdt pages odt (odt_bytes pages odt)
odt-gathers pages [] l f h = refl
odt-gathers pages (None ∷ odt) l f h = odt-gathers pages odt l f (All-tail (LiesWritten pages.layout) None odt h)
odt-gathers pages (Some e ∷ odt) l f h =
    (element_bytes pages e, odt_bytes pages odt, element-reads pages e l f (All-head (LiesWritten pages.layout) (Some e) odt h), odt-gathers pages odt l f (All-tail (LiesWritten pages.layout) (Some e) odt h), refl)

odts-packets : (pages : PagesValue) (pid : ℕ) (odts : List (List (Option Element))) → IsLayout pages.layout → IsPages pages → All (LiesWritten pages.layout) (joined odts) → OdtPackets pages pid odts (packets_from pages pid odts)
odts-packets pages pid [] l f h = refl
odts-packets pages pid (odt ∷ odts) l f h =
    (odt_bytes pages odt, packets_from pages (pid + 1) odts, odt-gathers pages odt l f (all_left (LiesWritten pages.layout) odt (joined odts) h), odts-packets pages (pid + 1) odts l f (all_right (LiesWritten pages.layout) odt (joined odts) h), refl)

stamped-packets : (pages : PagesValue) (pid : ℕ) (stamp : List ℕ) (odts : List (List (Option Element))) → IsLayout pages.layout → IsPages pages → All (LiesWritten pages.layout) (joined odts) → ListPackets pages pid stamp odts (stamped_packets pages pid stamp odts)
stamped-packets pages pid stamp [] l f h = refl
stamped-packets pages pid stamp (odt ∷ odts) l f h =
    (odt_bytes pages odt, packets_from pages (pid + 1) odts, odt-gathers pages odt l f (all_left (LiesWritten pages.layout) odt (joined odts) h), odts-packets pages (pid + 1) odts l f (all_right (LiesWritten pages.layout) odt (joined odts) h), refl)

by-due : (b : Bool) (pages : PagesValue) (pid : ℕ) (stamp : List ℕ) (odts : List (List (Option Element))) → ListPackets pages pid stamp odts (stamped_packets pages pid stamp odts) → MatchBool b (ListPackets pages pid stamp odts (if b then stamped_packets pages pid stamp odts else [])) ((if b then stamped_packets pages pid stamp odts else []) ≡ [])
by-due true pages pid stamp odts h = h
by-due false pages pid stamp odts h = refl

lists-packets : (channel time : ℕ) (pages : PagesValue) (v : DaqValue) (i : ℕ) (lists : List DaqList) → IsLayout pages.layout → IsPages pages → All (LiesWritten pages.layout) (flat_map (λ (x : DaqList). joined x.odts) lists) → DuePackets channel time pages v i lists (flat_map (list_packets channel time pages v) (enumerate_from i lists))
lists-packets channel time pages v i [] l f h = refl
lists-packets channel time pages v i (x ∷ lists) l f h =
    let rest = flat_map (λ (y : DaqList). joined y.odts) lists in
    let stamp : List ℕ = stamp_of pages time x in (
      list_packets channel time pages v (i, x),
      flat_map (list_packets channel time pages v) (enumerate_from (i + 1) lists),
      by-due (due channel x) pages (first_pid i v) stamp x.odts (stamped-packets pages (first_pid i v) stamp x.odts l f (all_left (LiesWritten pages.layout) (joined x.odts) rest h)),
      lists-packets channel time pages v (i + 1) lists l f (all_right (LiesWritten pages.layout) (joined x.odts) rest h),
      refl,
    )

-- an event that is sampled hands over as many bytes as the layout takes
signals-taken : (v : SlaveValue) (channel n : ℕ) (signals : ArrayVec ℕ) (w : SlaveValue) → Answers v (requests.Event channel signals) (answers.Sampled n) w → takes_signals (layout_of v) (length signals.items) ≡ true
signals-taken v channel n signals w k =
    either (nat_lt channel (length (layout_of v).events)) _ _ _ k
    (λ m. either-test (takes_signals (layout_of v) (length signals.items)) _ _ _ (λ long o. long) (λ off o. absurd (let e = o.0 in cc)) m)
    (λ m. absurd (let e = m.0 in cc))

-- an event that is sampled puts the packets of the lists that are due, with the bytes that the controller reads
pub event-reads : (v : SlaveValue) (channel n : ℕ) (signals : ArrayVec ℕ) (w : SlaveValue) → IsSlave v → Answers v (requests.Event channel signals) (answers.Sampled n) w → (packets : List (ArrayVec ℕ)) × DuePackets channel v.time (with_signals signals.items v).transfer.pages v.daq 0 v.daq.lists packets × (w.outbox ≡ v.outbox ++ with_overload (outbox_size v) v.overloaded packets)
event-reads v channel n signals w h k =
    let lawful : IsLawful (with_signals signals.items v).transfer = transfers.part-kept v.transfer 0 signals.items h.transfer (transfers.taken-fit (layout_of v).class (length signals.items) (layout_of v).signals_length (signals-taken v channel n signals w k)) in (
      event_packets v channel signals.items,
      lists-packets channel v.time (with_signals signals.items v).transfer.pages v.daq 0 v.daq.lists lawful.layout lawful.pages (subst (All (LiesWritten (layout_of v))) (entries_by_list v.daq.lists) h.lists.inside),
      (event-whole v channel n signals w k).1,
    )

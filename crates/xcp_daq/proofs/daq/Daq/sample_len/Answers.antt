use Rattle.std.proofs.Common.{◌≡◌, ◌≤◌, ◌∙◌, ℕ, List, Option, None, length, subst, sym, All, ap, arith}
use Rattle.xcp_memory.specs.declared.Class.{Class}
use Rattle.xcp_memory.specs.ClassLimits.{limits_of}
use Rattle.xcp_memory.specs.Pages.{PagesValue}
use Rattle.xcp_daq.specs.declared.mode.Mode.{Mode}
use Rattle.xcp_daq.specs.declared.pointer.Pointer.{Pointer}
use Rattle.xcp_daq.specs.declared.allocation.Allocation.{Allocation}
use Rattle.xcp_daq.specs.declared.element.Element.{Element}
use Rattle.xcp_daq.specs.DaqLists.{DaqValue}
use Rattle.xcp_daq.specs.DaqInvariant.{IsEntry, IsDaq}
use Rattle.xcp_daq.specs.Pools.{joined, daq_of}
use Rattle.xcp_daq.specs.Sample.{sampled}
use Rattle.xcp_daq.proofs.SampleBoundLaws.{bounded, any_time}
use Rattle.xcp_daq.proofs.DaqListLemmas.{odts-of}
use Rattle.xcp_daq.proofs.daq.Daq.sample_len.Goals as goal

-- the modes that are lent are the lists' own
few : (channel : ℕ) (pages : PagesValue) (class : Class) (ms ns : List Mode) (os : List (List (List (Option Element)))) (p : Option Pointer) (l : Option Allocation) → ns ≡ ms → IsDaq (daq_of class ms os p l) → length (sampled channel 0 pages (daq_of class ns os None None)) ≤ (limits_of class).odts
few channel pages class ms ns os p l e h = subst (λ (xs : List Mode). length (sampled channel 0 pages (daq_of class xs os None None)) ≤ (limits_of class).odts) (sym e) (bounded channel 0 pages (daq_of class ms os p l) h).0

pub count_due-requires-clause-written : goal.count_due-requires-clause-written
count_due-requires-clause-written c = subst (All IsEntry) (ap joined (odts-of c.self.inside.modes.items c.self.inside.odts.lists c.self.invariant.same)) c.self.invariant.lawful.written

pub count_due-requires-clause-few : goal.count_due-requires-clause-few
count_due-requires-clause-few c =
    let s = c.self.inside in
    let most = few c.args.channel c.args.pages.now s.odts.class s.modes.items c.deref.result.now s.odts.lists s.pointer s.last c.deref.ensures.value c.self.invariant.lawful in
    grind arith

pub returns-clause-value : goal.returns-clause-value
returns-clause-value c = λ time.
    let s = c.self.inside in
    let pages : PagesValue = c.args.pages.now in
    let channel : ℕ = c.args.channel in
    c.count_due.ensures
    ∙ ap (λ (ms : List Mode). length (sampled channel 0 pages (daq_of s.odts.class ms s.odts.lists None None))) c.deref.ensures.value
    ∙ ap (λ (v : DaqValue). length (sampled channel 0 pages v)) c.self.view_is
    ∙ any_time channel 0 time pages c.args.self.now

pub returns-clause-bound : goal.returns-clause-bound
returns-clause-bound c =
    let s = c.self.inside in
    omega (arith, c.count_due.ensures, ap (λ (v : DaqValue). (limits_of v.class).odts) c.self.view_is, few c.args.channel c.args.pages.now s.odts.class s.modes.items c.deref.result.now s.odts.lists s.pointer s.last c.deref.ensures.value c.self.invariant.lawful)

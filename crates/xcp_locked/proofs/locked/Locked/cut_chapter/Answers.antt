use Rattle.std.proofs.Common.{◌≡◌, ◌+◌, ◌∙◌, ℕ, [], ap, sym, subst, arith, length}
use Rattle.std.specs.Arc.{arc_value}
use Rattle.xcp_slave.specs.SlaveValue.{SlaveValue}
use Rattle.xcp_locked.specs.LockedSlave.{IsReached}
use Rattle.xcp_locked.proofs.JournalLemmas.{run_first}
use Rattle.xcp_locked.proofs.ChapterLemmas.{all_cut, few_more, kept_cut, reached_on}
use Rattle.xcp_locked.proofs.locked.Locked.cut_chapter.Goals as goal

pub invariant_of-self-2 : goal.invariant_of-self-2
invariant_of-self-2 g c =
    let exchanged = c.exchange.ensures.done c.if-not-exchange.false in
    let none : c.exchange.new.journal.entries ≡ [] = ap (λ j. j.entries) exchanged.1 ∙ c.in-Ok.ensures.journal in
    let empty = ap length none in
    let is : c.self.inside.slave ≡ arc_value c.replace.new.dest = sym (ap arc_value c.replace.ensures.after ∙ c.in-Ok.ensures.slaves.1) in
    let count : c.len-calls.result ≡ length c.self.inside.journal.entries = c.len-calls.ensures in
    let reached = reached_on g.N.Name.layout c.self.inside.before (arc_value c.self.inside.base) c.self.inside.slave c.self.inside.journal.entries c.self.invariant.5 c.self.invariant.0 in
    let total = c.self.invariant.1 in
    let few = c.self.invariant.2 in
    let low = c.self.invariant.6 in
    let first = c.turn.ensures.first in (
      run_first (arc_value c.replace.new.dest) c.self.inside.slave c.exchange.new.journal.entries none is,
      omega (arith, empty, count, total),
      omega (arith, empty),
      c.self.invariant.3,
      kept_cut g.N.Name.bank (arc_value c.self.inside.base) c.self.inside.slave (arc_value c.replace.new.dest) _ c.exchange.new.journal.entries c.self.inside.publisher c.turn.new.self c.self.invariant.0 c.self.invariant.4 (record { writer = c.turn.ensures.writer; first = c.turn.ensures.first; places = c.turn.ensures.places; last = c.turn.ensures.last }) none is,
      subst (λ (n : ℕ). IsReached g.N.Name.layout (c.self.inside.before + n) (arc_value c.replace.new.dest)) (sym count) (subst (λ (v : SlaveValue). IsReached g.N.Name.layout (c.self.inside.before + length c.self.inside.journal.entries) v) is reached),
      omega (arith, count, few, low),
      (let more = c.if-self-ge-LAST_CHAPTER.false in omega (arith, more)),
      (let f = few_more g.N.Name.bank (arc_value c.self.inside.base) c.self.inside.slave c.self.inside.journal.entries c.self.inside.publisher c.self.inside.before c.self.invariant.4 c.self.invariant.8 in omega (arith, f, first, count)),
      all_cut g.N.Name.layout c.self.inside.before (c.self.inside.before + c.len-calls.result) (arc_value c.self.inside.base) c.self.inside.slave (arc_value c.replace.new.dest) c.self.inside.journal.entries c.exchange.new.journal.entries _ c.self.inside.publisher.writer.publications c.self.invariant.0 (ap (λ (n : ℕ). c.self.inside.before + n) count) none is (ap (λ z. z.publications) c.turn.ensures.writer) c.self.invariant.9,
    )

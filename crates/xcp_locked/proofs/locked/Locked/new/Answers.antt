use Rattle.std.proofs.Common.{◌≡◌, ◌<◌, ◌∙◌, ◌∷◌, [], ap, arith, length, subst, sym}
use Rattle.std.specs.Arc.{arc_value}
use Rattle.std.specs.List.{AllByRecursion}
use Rattle.xcp_memory.specs.EcuImage.{image_size}
use Rattle.xcp_memory.specs.Layout.{LayoutValue}
use Rattle.xcp_slave.specs.SlaveValue.{layout_of, opening}
use Rattle.xcp_bank.specs.BankId.{BankId, image_bytes}
use Rattle.xcp_bank.specs.BankEnds.{ReaderEnd, new_writer}
use Rattle.xcp_locked.specs.Publications.{image_of}
use Rattle.xcp_locked.specs.private.OfferedImages.{IsOwnBank}
use Rattle.xcp_locked.specs.UnnamedSlave.{UnnamedValue}
use Rattle.xcp_locked.proofs.JournalLemmas.{run_first}
use Rattle.xcp_locked.proofs.PublicationLemmas.{kept_first}
use Rattle.xcp_locked.proofs.ChapterLemmas.{all_first, reached_first}
use Rattle.xcp_locked.proofs.locked.Locked.new.Goals as goal

pub invariant_of-locked : goal.invariant_of-locked
invariant_of-locked g c =
    let was = c.unnamed.invariant in
    let layout : layout_of c.unnamed.inside.slave ≡ g.N.Name.layout = ap (λ (u : UnnamedValue). u.layout) c.unnamed.view_is ∙ c.requires.layout in
    let bank = ap (λ (u : UnnamedValue). u.bank) c.unnamed.view_is ∙ c.requires.bank in
    let entries = c.new-journal.result.entries in
    let none : length entries ≡ 0 = ap length c.new-journal.ensures in
    let base : arc_value c.in_ok-waits.field-0.base ≡ c.unnamed.inside.slave = c.in_ok-waits.ensures.base in
    let published = c.new-publisher.ensures in (
      run_first (arc_value c.in_ok-waits.field-0.base) _ entries c.new-journal.ensures (sym base),
      (let t = c.open-book.ensures.total in omega (arith, none, t)),
      omega (arith, none),
      layout,
      kept_first (image_size g.N.Name.layout) g.N.Name.bank (arc_value c.in_ok-waits.field-0.base) entries _ c.new-publisher.result c.new-journal.ensures (sym base) (published.0 ∙ (was.5 ∙ (λ i. new_writer (bank i) (was.4 i)))) published.1 (published.2 ∙ was.4) published.3 (subst (λ (b : BankId). image_bytes b ≡ image_size g.N.Name.layout) bank (was.7 ∙ ap image_size layout)),
      reached_first g.N.Name.layout (arc_value c.in_ok-waits.field-0.base) (base ∙ (was.0 ∙ ap opening layout)),
      omega arith,
      omega arith,
      (let f = published.3 in omega (arith, f)),
      all_first g.N.Name.layout (arc_value c.in_ok-waits.field-0.base) entries _ (base ∙ (was.0 ∙ ap opening layout)) c.new-journal.ensures (ap (λ z. z.publications) (published.0 ∙ was.5) ∙ (ap (λ i. i ∷ []) was.4 ∙ ap (λ v. image_of v ∷ []) (was.0 ∙ ap opening layout))),
    )

pub name_readers-requires : goal.name_readers-requires
name_readers-requires g c =
    let was = c.unnamed.invariant in
    let bank = ap (λ (u : UnnamedValue). u.bank) c.unnamed.view_is ∙ c.requires.bank in
    let layout : layout_of c.unnamed.inside.slave ≡ g.N.Name.layout = ap (λ (u : UnnamedValue). u.layout) c.unnamed.view_is ∙ c.requires.layout in
    let own : IsOwnBank (image_size g.N.Name.layout) g.N.Name.bank c.unnamed.inside.writer.bank = (bank, was.7 ∙ ap image_size layout, subst (λ (l : LayoutValue). 0 < image_size l) layout was.8) in
    (omega arith, subst (AllByRecursion (λ (r : ReaderEnd). IsOwnBank (image_size g.N.Name.layout) g.N.Name.bank r.bank)) (sym was.6) (own, (own, (own, (own, (own, (own, tt)))))))

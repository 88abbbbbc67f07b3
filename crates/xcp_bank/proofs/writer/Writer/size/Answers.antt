use Rattle.std.proofs.Common.{sym, ap, ◌∙◌, subst}
use Rattle.xcp_bank.specs.BankEnds.{WriterEnd}
use Rattle.xcp_bank.specs.private.SeatSteps.{IsWide, bytes_of_table}
use Rattle.xcp_bank.proofs.writer.Writer.size.Goals as goal

pub image_size-requires : goal.image_size-requires
image_size-requires c = subst IsWide (sym c.deref.ensures) c.self.invariant.desks.wide

pub returns : goal.returns
returns c = c.image_size.ensures ∙ ap bytes_of_table (c.deref.ensures ∙ ap (λ (z : WriterEnd). z.bank.table) c.self.view_is)

use Rattle.std.proofs.Common.{◌≡◌, ◌-◌, ◌∙◌, ap, subst}
use Rattle.xcp_bank.specs.BankId.{buffer_words}
use Rattle.xcp_bank.specs.BankEnds.{ReadDoes, ReaderEnd}
use Rattle.xcp_locked.proofs.reader.Reader.number.Goals as goal

pub returns-clause-number : goal.returns-clause-number
returns-clause-number g c b p held = c.number.ensures.number b p (ap (λ (r : ReaderEnd). r.held) c.self.view_is ∙ held)

pub returns-clause-does : goal.returns-clause-does
returns-clause-does g c = subst (λ (r : ReaderEnd). ReadDoes (buffer_words r.bank - 1) 1 r c.number.new.self) c.self.view_is c.number.ensures.does

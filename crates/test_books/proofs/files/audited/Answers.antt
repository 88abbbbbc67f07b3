use Rattle.std.proofs.Common.{ℕ, List, [], Bor, option_map, rules}
use Rattle.test_books.proofs.files.audited.Goals as goal

-- the layout begins with its A2L file, if it asks for one, and with the stored pages of the part, or with none
pub print_audit-said-requires-clause-begins : goal.print_audit-said-requires-clause-begins
print_audit-said-requires-clause-begins c = ([], c.in_ok-a2l.a2l, option_map (λ (f : Bor (List ℕ)). f.now) c.args.section.now.pages, search rules)

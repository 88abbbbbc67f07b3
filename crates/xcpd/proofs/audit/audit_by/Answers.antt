use Rattle.std.proofs.Common.{ℕ, List, Bor, option_map, rules}
use Rattle.xcpd.proofs.audit.audit_by.Goals as goal

-- the layout begins with the stored pages of the file, or with none
pub print_audit-requires-clause-begins : goal.print_audit-requires-clause-begins
print_audit-requires-clause-begins c = (c.deref-2.result.now, c.in_ok-a2l.a2l, option_map (λ (f : Bor (List ℕ)). f.now) c.as_deref.result, search rules)

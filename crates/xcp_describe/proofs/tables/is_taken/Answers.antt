use Rattle.std.proofs.Common.{rules}
use Rattle.std.proofs.lemmas.List.Folds.{list_any-append}
use Rattle.xcp_describe.proofs.tables.is_taken.Goals as goal

pub returns-then-has_name : goal.returns-then-has_name
returns-then-has_name c = simp list_any-append (search rules)

pub returns : goal.returns
returns c = simp list_any-append (search rules)

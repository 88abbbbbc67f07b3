use Rattle.std.proofs.Common.{◌≡◌, ◌++◌, IfSome, codes, subst, true}
use Rattle.std.proofs.lemmas.Result.{IfOk-weaker}
use Rattle.std.specs.List.{list_all}
use Rattle.xcp_memory.specs.Limits.{is_printable}
use Rattle.xcp_telling.proofs.entries.place_of.Goals as goal

pub returns-in-Some : goal.returns-in-Some
returns-in-Some c =
    let printable = subst (λ name. IfSome name (λ n. list_all is_printable n.now ≡ true)) c.in-Some.is c.requires in
    IfOk-weaker c.format.result _ _ (λ told put. (codes " " ++ c.in-Some.name.now, c.args.table.now.line, printable, put)) c.format.ensures.ok

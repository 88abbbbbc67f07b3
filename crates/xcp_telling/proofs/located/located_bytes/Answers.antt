use Rattle.std.proofs.Common.{sym, subst, ◌∙◌}
use Rattle.xcp_telling.specs.Locating.{AreLocated}
use Rattle.xcp_telling.proofs.LocatedLemmas.{is_rest}
use Rattle.xcp_telling.proofs.located.located_bytes.Goals as goal

-- what is no text stays as it is
pub returns-in-Err : goal.returns-in-Err
returns-in-Err c =
    let kept = c.into_bytes-in-Err.ensures.value ∙ (c.in-Err.ensures {u = tt}).err in
    subst (λ told. AreLocated c.args.lines.items told.items) (sym kept) (is_rest c.args.lines.items)

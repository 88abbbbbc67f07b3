use Rattle.std.proofs.Common.{Some, string_bytes, rules, arith, sym, subst}
use Rattle.std.proofs.lemmas.Str.Pattern.{split_parts}
use Rattle.xcp_telling.specs.Locating.{AreLocated}
use Rattle.xcp_telling.proofs.LocatedLemmas.{go_on, is_rest}
use Rattle.xcp_telling.proofs.located.located_lines.Goals as goal

pub loop-line-preserved : goal.loop-line-preserved
loop-line-preserved c =
    let cut = split_parts 10 c.loop-line.rest.now (Some (c.in-Some.line, c.in-Some.more)) c.in-Some.ensures.cases (omega arith) in (
      search rules,
      go_on c.args.lines.now c.loop-line.rest.now c.in-Some.line.now c.in-Some.more.now (string_bytes c.loop-line.told) (string_bytes c.put_line.new.told)
          c.loop-line.invariant.1 cut.0 cut.1 c.in_ok-put_line.ensures,
    )

pub returns : goal.returns
returns c = subst (AreLocated c.args.lines.now) (sym c.in_ok-push_str.ensures.bytes) (c.loop-line.invariant.1 c.loop-line.rest.now (is_rest c.loop-line.rest.now))

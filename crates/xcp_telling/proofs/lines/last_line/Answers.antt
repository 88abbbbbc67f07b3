use Rattle.std.proofs.Common.{Some, arith}
use Rattle.std.proofs.lemmas.Str.Pattern.{strip_suffix_char}
use Rattle.xcp_telling.proofs.LineLemmas.{is_last}
use Rattle.xcp_telling.proofs.lines.last_line.Goals as goal

pub returns-in-Some : goal.returns-in-Some
returns-in-Some c =
    let ended = strip_suffix_char 10 c.args.lines.now (Some c.in_ok-text.text) c.in_ok-text.ensures.cases (omega arith) in
    is_last c.args.lines.now c.in_ok-text.text.now c.in-Some.field-0-0.now c.in-Some.words.now ended c.in-Some.ensures.cases

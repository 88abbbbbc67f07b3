use Rattle.std.proofs.Common.{Some, codes, arith}
use Rattle.std.proofs.lemmas.Bool.Decides.{Decides-eqb}
use Rattle.std.proofs.lemmas.Slice.Eq.{slice_eq-Decides}
use Rattle.std.proofs.lemmas.Str.Pattern.{split_parts, split_text_parts}
use Rattle.xcp_telling.proofs.LineLemmas.{is_first}
use Rattle.xcp_telling.proofs.lines.words_behind.Goals as goal

pub returns-then-eq : goal.returns-then-eq
returns-then-eq c =
    let cut = split_parts 10 c.args.lines.now (Some (c.in_ok-line.line, c.in_ok-line.field-0-1)) c.in_ok-line.ensures.cases (omega arith) in
    let parted = split_text_parts (codes ": ") c.in_ok-line.line.now (Some (c.in_ok-front.front, c.in_ok-front.words)) c.in_ok-front.ensures.cases in
    let same = (slice_eq-Decides Decides-eqb c.in_ok-front.front.now c.args.head.now c.eq.result c.eq.ensures).0 c.if-eq.true in
    is_first c.args.head.now c.in_ok-front.front.now c.args.lines.now c.in_ok-line.line.now c.in_ok-line.field-0-1.now c.in_ok-front.words.now cut.0 parted same

use Rattle.std.proofs.Common.{string_bytes}
use Rattle.std.proofs.lemmas.Result.{IfOk-weaker}
use Rattle.xcp_telling.specs.Locating.{IsLocated}
use Rattle.xcp_telling.proofs.LocatedLemmas.{behind_head}
use Rattle.xcp_telling.proofs.located.located_line.Goals as goal

pub returns-in_ok-words-in-Some : goal.returns-in_ok-words-in-Some
returns-in_ok-words-in-Some c =
    let is : IsLocated c.in-Some.words.now c.as_str.result.now = rw c.as_str.ensures.value c.in_ok-words-in-Some.ensures in
    IfOk-weaker c.put_head.result _ _ (λ told put. behind_head c.in-Some.head.now c.args.line.now c.in-Some.words.now c.as_str.result.now (string_bytes told) c.in-Some.ensures put is) c.put_head.ensures

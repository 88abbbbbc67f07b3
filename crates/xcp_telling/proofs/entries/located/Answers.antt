use Rattle.std.proofs.Common.{codes, string_bytes, Some}
use Rattle.std.proofs.lemmas.Result.{IfOk-weaker}
use Rattle.std.proofs.lemmas.Str.Pattern.{split_text_parts}
use Rattle.xcp_telling.specs.Locating.{IsPlace}
use Rattle.xcp_telling.proofs.LocatedLemmas.{stays, is_put_in}
use Rattle.xcp_telling.proofs.entries.located.Goals as goal

pub returns-in_default : goal.returns-in_default
returns-in_default c = IfOk-weaker c.from_str.result _ _ (λ told same. stays c.args.words.now (string_bytes told) same) c.from_str.ensures.ok

pub returns-in-None : goal.returns-in-None
returns-in-None c = IfOk-weaker c.from_str-in-None.result _ _ (λ told same. stays c.args.words.now (string_bytes told) same) c.from_str-in-None.ensures.ok

pub returns-in_ok-place_of-in-Some-named_by : goal.returns-in_ok-place_of-in-Some-named_by
returns-in_ok-place_of-in-Some-named_by c =
    let parted = split_text_parts (codes ": ") c.args.words.now (Some (c.in-Some.front, c.in-Some.rest)) c.in-Some.ensures.cases in
    let is : IsPlace c.as_str.result.now = rw c.as_str.ensures.value c.in_ok-place_of-in-Some-named_by.ensures in
    IfOk-weaker c.put_in.result _ _ (λ told put. is_put_in c.args.words.now (string_bytes told) c.in-Some.front.now c.as_str.result.now c.in-Some.rest.now is parted put) c.put_in.ensures

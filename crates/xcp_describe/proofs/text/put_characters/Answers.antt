use Rattle.std.proofs.Common.{◌++◌, flat_map, string_bytes, sym, ap, ◌∙◌, map-id}
use Rattle.std.proofs.lemmas.Iterator.{YieldsList-from_chars}
use Rattle.std.proofs.lemmas.Iterator.Consumers.{YieldsList-end}
use Rattle.xcp_describe.specs.EntryTexts.{quoted_character}
use Rattle.xcp_describe.proofs.text.put_characters.Goals as goal

-- at the end the characters that were yielded are all
pub returns : goal.returns
returns c =
    let end = YieldsList-end (YieldsList-from_chars c.args.quoted.now c.utf8.quoted cc) c.loop-c.yielded _ c.loop-c.yielded_by _ _ c.in-None.is c.next.ensures.steps in
    c.loop-c.invariant ∙ ap (λ cs. string_bytes c.args.text.now ++ flat_map quoted_character cs) (sym (map-id c.loop-c.yielded) ∙ end.0)

use Rattle.std.proofs.Common.{refl, sym}
use Rattle.std.proofs.lemmas.List.{append-nil, map-append}
use Rattle.xcp_script.proofs.LongLineLemmas.{last_is_none, last_is_one}
use Rattle.xcp_script.proofs.LineReadingLaws.{lines_done}
use Rattle.xcp_script.proofs.plain.plain_lines.Goals as goal

pub returns-then-is_empty : goal.returns-then-is_empty
returns-then-is_empty c =
    lines_done c.args.text.now _ _ c.in_ok-put_lines.ensures (rw (last_is_none c.put_lines.new.begun.items (rw c.as_slice.ensures.value at c.if-is_empty.ensures)) (sym (append-nil _)))

pub returns : goal.returns
returns c =
    lines_done c.args.text.now _ _ c.in_ok-put_lines.ensures (rw (c.in_ok-push.ensures.items, map-append, last_is_one c.put_lines.new.begun.items (rw c.as_slice.ensures.value at c.if-is_empty.ensures)) refl)

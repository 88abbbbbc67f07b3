use Rattle.std.proofs.Common.{[], ap, ◌∙◌, get_or}
use Rattle.xcp_memory.specs.PageCopy.{with_content}
use Rattle.xcp_memory.proofs.PageLemmas.{all_over}
use Rattle.xcp_memory.proofs.page_set.PageSet.fill.Goals as goal

pub returns : goal.returns
returns c =
    c.put.ensures ∙ ap (with_content c.args.self.now c.args.page) (all_over (get_or c.args.self.now.pages c.args.page []) c.args.bytes.now c.requires.size)

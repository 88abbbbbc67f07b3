use Rattle.std.proofs.Common.{ap, sym, ◌∙◌}
use Rattle.std.specs.List.{list_any}
use Rattle.xcp_memory.specs.PageSwitch.{lacks_page}
use Rattle.xcp_memory.proofs.PageSwitchLemmas.{switch_allowed}
use Rattle.xcp_memory.proofs.pages.Pages.check_switch.Goals as goal

pub returns : goal.returns
returns c =
    let found = c.in_ok-concerned.ensures.ok in
    switch_allowed c.args.self.now c.args.mode c.args.segment c.args.page found.0 found.1 (ap (list_any (lacks_page c.args.page)) (sym found.2) ∙ sym c.lack_page.ensures ∙ c.if-lack_page.false)

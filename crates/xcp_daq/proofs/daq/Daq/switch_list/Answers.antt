use Rattle.std.proofs.Common.{sym, ◌∙◌, subst}
use Rattle.std.specs.Prelude.{true}
use Rattle.xcp_daq.specs.declared.mode.Mode.{Mode}
use Rattle.xcp_daq.specs.DaqLists.{no_list, list_at}
use Rattle.xcp_daq.specs.DaqInvariant.{IsList}
use Rattle.xcp_daq.specs.Pools.{list_of}
use Rattle.xcp_daq.proofs.DaqInvariantLemmas.{lawful_stopped, lawful_started, lawful_selected}
use Rattle.xcp_daq.proofs.daq.Daq.switch_list.Goals as goal
use Rattle.xcp_daq.proofs.daq.Daq.switch_list.Goals.{in-0, in-1, in_default}

pub set_mode-requires-clause-lawful : goal.set_mode-requires-clause-lawful
set_mode-requires-clause-lawful c =
    let l = list_at c.args.self.now c.args.i in
    let h = c.known.ensures.each c.args.i no_list c.requires.list in
    let m = c.mode-state.result in
    elim c.match-mode.branch [
      | in-0 w ↦ subst (λ (n : Mode). IsList (list_of n l.odts)) (sym w.stop.ensures ∙ sym w.state-is) (lawful_stopped l m m.selected c.mode-state.ensures h)
      | in-1 w ↦ subst (λ (n : Mode). IsList (list_of n l.odts)) (sym w.start.ensures ∙ sym w.state-is) (lawful_started l m m.selected c.mode-state.ensures h (c.requires.fits w.in-1.is))
      | in_default w ↦ subst (λ (n : Mode). IsList (list_of n l.odts)) (sym w.state-is) (lawful_selected l m true c.mode-state.ensures h)
    ]

use Rattle.std.proofs.Common.{rules, ◌≡◌, ◌∙◌, take, replicate}
use Rattle.std.proofs.lemmas.List.{take-replicate}
use Rattle.xcp_locked.proofs.tasks.all_signals.Goals as goal

pub returns : goal.returns
returns c =
    let items : c.try_extend_from_slice.new.self.items ≡ take c.args.length (replicate 64 c.args.byte) = search rules in
    items ∙ take-replicate c.args.length 64 c.args.byte c.requires

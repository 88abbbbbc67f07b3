use Rattle.std.proofs.Common.{◌∷◌, ◌∙◌, List, ℕ, ap, arith}
use Rattle.std.proofs.lemmas.List.{take-replicate}
use Rattle.xcp_packet.proofs.replying.write_blank.Goals as goal

pub returns : goal.returns
returns c = c.write_bytes.ensures ∙ ap (λ (zeros : List ℕ). 255 ∷ zeros) (take-replicate c.args.n 255 0 (omega arith))

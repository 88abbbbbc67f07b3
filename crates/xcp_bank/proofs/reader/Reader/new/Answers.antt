use Rattle.std.proofs.Common.{refl, None}
use Rattle.std.proofs.lemmas.Option.{none-some}
use Rattle.std.specs.Arc.{arc_value}
use Rattle.xcp_bank.specs.SeatKnowledge.{starting}
use Rattle.xcp_bank.proofs.EndFieldLemmas.{kept_by}
use Rattle.xcp_bank.proofs.ReaderEndLemmas.{follows_starting}
use Rattle.xcp_bank.proofs.reader.Reader.new.Goals as goal

pub invariant_of-result : goal.invariant_of-result
invariant_of-result c =
    let f = c.requires in
    kept_by c.args.seat (arc_value c.args.board) f.0 (starting f.1) None f.3 (follows_starting (arc_value c.args.board).slots f.1 f.0 f.2) refl refl (λ b e. absurd (none-some b e))

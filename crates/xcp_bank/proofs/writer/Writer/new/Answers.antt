use Rattle.std.proofs.Common.{ℕ, [], ◌∷◌, refl, subst, arith}
use Rattle.std.specs.Arc.{arc_value}
use Rattle.xcp_bank.specs.SeatKnowledge.{beginning}
use Rattle.xcp_bank.specs.Images.{image_in_words}
use Rattle.xcp_bank.specs.private.BlockMarks.{Sized}
use Rattle.xcp_bank.proofs.BlockMarkLemmas.{all_marked, sized_first}
use Rattle.xcp_bank.proofs.EndFieldLemmas.{writer_kept_by}
use Rattle.xcp_bank.proofs.ImageLemmas.{image_length}
use Rattle.xcp_bank.proofs.writer.Writer.new.Goals as goal

pub invariant_of-result : goal.invariant_of-result
invariant_of-result c =
    let f = c.requires.seat in
    let bank = arc_value c.args.board in
    writer_kept_by c.args.seat bank (beginning f.0) 0 (0 ∷ 0 ∷ 0 ∷ 0 ∷ 0 ∷ 0 ∷ 0 ∷ 0 ∷ []) 1 c.args.marks f.2
    record { current_is = refl; started_is = refl; low = omega arith; building = refl; idle = omega arith; apart = (λ e. absurd (omega arith)) }
    refl
    (all_marked bank.slots c.args.marks (beginning f.0).words (image_in_words f.0) c.requires.size c.requires.marks (subst (λ (W : ℕ). Sized W (beginning f.0).words) f.1 (sized_first f.0)) (image_length bank.slots f.0 f.1))

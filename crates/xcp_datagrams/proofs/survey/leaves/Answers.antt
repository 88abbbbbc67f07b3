use Rattle.std.proofs.Common.{◌≡◌, ◌<◌, ◌≤◌, ◌+◌, ◌-◌, ◌++◌, ◌∷◌, Bool, List, ℕ, drop, length, take, sym, ap, ◌∙◌, arith}
use Rattle.std.proofs.lemmas.Bool.Decides.{nat_tests}
use Rattle.xcp_framing.specs.Wire.{IsUnfinished, len_of}
use Rattle.xcp_framing.specs.Frames.{frames}
use Rattle.xcp_framing.proofs.PartialFrameLemmas.{held_unfinished}
use Rattle.xcp_framing.proofs.WholeFrameLaws.{no_some}
use Rattle.xcp_datagrams.specs.Datagrams.{gone_by, leaves_from}
use Rattle.xcp_datagrams.proofs.FrontLemmas.{head_step, packet_none, packet_slice, packet_there, slice_all}
use Rattle.xcp_datagrams.proofs.survey.leaves.Goals.{then-size-gt-HEADER_SIZE, else-size-gt-HEADER_SIZE}
use Rattle.xcp_datagrams.proofs.survey.leaves.Goals as goal

pub loop-size-preserved : goal.loop-size-preserved
loop-size-preserved c =
    let s = c.args.bytes.now in
    let at = c.loop-size.at in
    let k = c.in-Some.size in
    let m = c.args.max_cto in
    let all = slice_all at s in
    let size = rw all at c.in-Some.ensures.size in
    let there = rw all at c.in-Some.ensures.whole in
    let step = head_step m at k s size (rw all at c.in-Some.ensures.allowed) there in
    let behind = frames m (drop (at + k) s) in
    let before = c.loop-size.invariant.so_far ∙ ap (leaves_from c.loop-size.gone) step.0 in
    record {
      within = step.2;
      so_far =
          elim c.if-size-gt-HEADER_SIZE.branch [
            | then-size-gt-HEADER_SIZE w ↦
                let more : 4 < k = grind (arith, nat_tests, w.if-size-gt-HEADER_SIZE.true) in
                let first = ap (λ (ps : List (List ℕ)). leaves_from c.loop-size.gone (ps ++ behind)) (packet_there k (drop at s) more there) in
                let gone : gone_by c.loop-size.gone (drop 4 (take k (drop at s))) ≡ c.if-size-gt-HEADER_SIZE.gone = ap (gone_by c.loop-size.gone) (sym (packet_slice at k s (omega (arith, more)))) ∙ sym w.gone_by-gone.ensures ∙ sym w.gone-is in
                before ∙ first ∙ ap (λ (g : Bool). leaves_from g behind) gone
            | else-size-gt-HEADER_SIZE w ↦
                let most : k ≤ 4 = grind (arith, nat_tests, w.if-size-gt-HEADER_SIZE.false) in
                let none = ap (λ (ps : List (List ℕ)). leaves_from c.loop-size.gone (ps ++ behind)) (packet_none k (drop at s) most (omega (arith, size)) there) in
                before ∙ none ∙ ap (λ (g : Bool). leaves_from g behind) (sym w.gone-is)
          ];
    }

pub returns : goal.returns
returns c =
    let s = c.args.bytes.now in
    let at = c.loop-size.at in
    let v : IsUnfinished c.args.max_cto (take (length s - at) (drop at s)) = no_some _ c.head.ensures.none c.in_default.not-Some in
    let u : IsUnfinished c.args.max_cto (drop at s) = rw (slice_all at s) at v in
    sym (c.loop-size.invariant.so_far ∙ ap (leaves_from c.loop-size.gone) (held_unfinished c.args.max_cto (drop at s) u).0)

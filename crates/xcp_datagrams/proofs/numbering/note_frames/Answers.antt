use Rattle.std.proofs.Common.{◌≡◌, ◌≤◌, ◌+◌, ◌-◌, ℕ, drop, length, length-drop, take, subst, ap, ◌∙◌, arith}
use Rattle.std.proofs.lemmas.List.{take_all}
use Rattle.byteorder.specs.Endian.{little_number}
use Rattle.xcp_framing.specs.Wire.{IsUnfinished, len_of}
use Rattle.xcp_framing.proofs.WholeFrameLaws.{no_some}
use Rattle.xcp_datagrams.specs.Numbers.{CountsFrame}
use Rattle.xcp_datagrams.proofs.FrontLemmas.{head_step, slice_all}
use Rattle.xcp_datagrams.proofs.NumberLemmas.{heard_all, heard_one}
use Rattle.xcp_datagrams.proofs.numbering.note_frames.Goals as goal

pub loop-size-preserved : goal.loop-size-preserved
loop-size-preserved c =
    let s = c.args.bytes.now in
    let at = c.loop-size.at in
    let k = c.in-Some.size in
    let m = c.args.max_cto in
    let all = slice_all at s in
    let size = rw all at c.in-Some.ensures.size in
    let allowed = rw all at c.in-Some.ensures.allowed in
    let there = rw all at c.in-Some.ensures.whole in
    let ctr : c.read_u16.result ≡ little_number 2 (drop (at + 2) s) = c.read_u16.ensures ∙ ap (little_number 2) (slice_all (at + 2) s) in
    record {
      within = (head_step m at k s size allowed there).2;
      heard = heard_one m at k s _ _ _ c.loop-size.invariant.heard size allowed there (subst (λ (n : ℕ). CountsFrame c.loop-size.numbering n c.note.new.self) ctr c.note.ensures);
    }

pub returns : goal.returns
returns c =
    let s = c.args.bytes.now in
    let at = c.loop-size.at in
    let v : IsUnfinished c.args.max_cto (take (length s - at) (drop at s)) = no_some _ c.head.ensures.none c.in_default.not-Some in
    let u : IsUnfinished c.args.max_cto (drop at s) = rw (slice_all at s) at v in
    heard_all c.args.max_cto at s _ _ c.loop-size.invariant.heard u

use Rattle.std.proofs.Common.{◌≡◌, ◌-◌, ◌+◌, ℕ, ap, sym, ◌∙◌, arith, length, length-drop, take, drop}
use Rattle.std.proofs.lemmas.List.{take_all}
use Rattle.xcp_framing.proofs.WholeFrameLaws.{plain_step, plain_end, no_some}
use Rattle.xcp_framing.proofs.stream.plain_frames.Goals as goal

pub loop-length-preserved : goal.loop-length-preserved
loop-length-preserved c =
    let s = c.args.stream.now in
    let at = c.loop-length.at in
    let n = c.in-Some.length in
    let t = take (length s - at) (drop at s) in
    let all : t ≡ drop at s = take_all (length s - at) (drop at s) (omega (arith, length-drop at s)) in
    let frame : take (((at + 4) + n) - at) (drop at s) ≡ take (4 + n) t = ap (λ (i : ℕ). take i (drop at s)) (omega arith) ∙ ap (take (4 + n)) (sym all) in
    let step = plain_step c.args.max_cto at n s t (take (((at + 4) + n) - at) (drop at s)) _ _ c.loop-length.invariant.packets c.loop-length.invariant.behind c.loop-length.invariant.within all c.in-Some.ensures.length c.in-Some.ensures.allowed c.in-Some.ensures.whole frame c.in_ok-keep_packet.ensures in
    record { packets = step.0; behind = step.1; within = step.2 }

pub returns : goal.returns
returns c =
    let s = c.args.stream.now in
    let at = c.loop-length.at in
    let t = take (length s - at) (drop at s) in
    let all : t ≡ drop at s = take_all (length s - at) (drop at s) (omega (arith, length-drop at s)) in
    plain_end _ at s t _ c.loop-length.invariant.packets c.loop-length.invariant.behind all (no_some _ c.whole_frame.ensures.none c.in_default.not-Some)

use Rattle.std.proofs.Common.{◌≡◌, ◌≤◌, List, None, length, map, ◌∙◌, ap, rules, arith, get_or}
use Rattle.std.proofs.lemmas.Result.{err_from_is_err_and}
use Rattle.std.proofs.lemmas.List.{drop_all, length-map, take_all}
use Rattle.std.specs.List.{flat_map, enumerate_from}
use Rattle.toml.specs.View.{view}
use Rattle.xcp_packet.specs.Rows.{first_holding}
use Rattle.xcp_config.specs.TableChecks.{checks_in}
use Rattle.xcp_config.specs.TableLayout.{Filed, filed, size_of}
use Rattle.xcp_config.specs.private.PartsRead.{ReadSegment, segment_read, segment_in_parts}
use Rattle.xcp_config.proofs.CheckLemmas.{or_so}
use Rattle.xcp_config.proofs.ArrayMemberLemmas.{seen, filed_at, length-filed, sum_here, one_more_read, segment_passed, segment_failed}
use Rattle.xcp_config.proofs.segments.read_each.Goals as goal

pub returns-in_err-part-clause-refused : goal.returns-in_err-part-clause-refused
returns-in_err-part-clause-refused c =
    let files = c.args.files.now in
    let ds = map view c.args.members.now in
    let i = c.loop-i.i in
    let x = c.index-members-i.result in
    let m = seen view c.args.members.now i x c.loop-i-test.true c.index-members-i.is in
    let n = filed_at files ds i (view x) m.below m.is in
    let s : Filed = (get_or files i None, view x) in
    let p = err_from_is_err_and c.from_residual.result c.from_residual.ensures.1 in
    rw (p.1, p.2) (or_so c.in_err-part.ensures.refused (λ k. c.loop-i.invariant.checked ∙ segment_failed c.args.class (filed files ds) i c.loop-i.total s _ n.below n.is c.loop-i.invariant.total k))

pub loop-i-preserved : goal.loop-i-preserved
loop-i-preserved c =
    let files = c.args.files.now in
    let ds = map view c.args.members.now in
    let i = c.loop-i.i in
    let x = c.index-members-i.result in
    let m = seen view c.args.members.now i x c.loop-i-test.true c.index-members-i.is in
    let n = filed_at files ds i (view x) m.below m.is in
    let s : Filed = (get_or files i None, view x) in
    let part = c.in_ok-part.part in
    let long : c.len-total.result ≡ length part.bytes.items = search rules in
    let size : length part.bytes.items ≡ size_of s = ap (λ (y : ReadSegment). length y.bytes) c.in_ok-part.ensures.read in
    let sum = sum_here size_of (filed files ds) i s n.below n.is in
    record {
      checked = c.loop-i.invariant.checked ∙ segment_passed c.args.class (filed files ds) i c.loop-i.total s n.below n.is c.loop-i.invariant.total c.in_ok-part.ensures.passes;
      read = ap (map segment_read) c.in_ok-push.ensures.items ∙ one_more_read segment_read segment_in_parts c.loop-i.parts.items (filed files ds) i part s n.below n.is c.loop-i.invariant.read c.in_ok-part.ensures.read;
      total = omega (arith, long, size, sum, c.loop-i.invariant.total);
      room = omega (arith, long, c.in_ok-part.ensures.room);
    }

pub returns-clause-passes : goal.returns-clause-passes
returns-clause-passes c =
    let files = c.args.files.now in
    let ds = map view c.args.members.now in
    let i = c.loop-i.i in
    let past : length (filed files ds) ≤ i = omega (arith, length-filed files ds, length-map c.args.members.now view, c.loop-i-test.false) in
    c.loop-i.invariant.checked ∙ ap (λ (xs : List Filed). first_holding (flat_map (checks_in c.args.class (filed files ds)) (enumerate_from i xs))) (drop_all i (filed files ds) past)

pub returns-clause-read : goal.returns-clause-read
returns-clause-read c =
    let files = c.args.files.now in
    let ds = map view c.args.members.now in
    let i = c.loop-i.i in
    let past : length (filed files ds) ≤ i = omega (arith, length-filed files ds, length-map c.args.members.now view, c.loop-i-test.false) in
    c.loop-i.invariant.read ∙ ap (map segment_in_parts) (take_all i (filed files ds) past)

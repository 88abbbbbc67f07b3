use Rattle.std.proofs.Common.{ap, ◌∙◌, subst}
use Rattle.xcp_bank.specs.SeatKnowledge.{Writing}
use Rattle.xcp_bank.specs.private.SeatSteps.{Rests}
use Rattle.xcp_bank.proofs.WriterSeatLemmas.{desks_one}
use Rattle.xcp_bank.proofs.PublishStepLemmas.{searched_none, searched_skip, searched_more, searched_found, never}
use Rattle.xcp_bank.proofs.publishing.find_quiet.Goals as goal

pub loop-buffer-init : goal.loop-buffer-init
loop-buffer-init c = λ w d. (w, d, searched_none w)

pub loop-buffer-preserved-then-buffer-current : goal.loop-buffer-preserved-then-buffer-current
loop-buffer-preserved-then-buffer-current c = λ w d.
    let f = c.requires in
    let r : Rests c.args.current c.args.started.now w = subst (Rests c.args.current c.args.started.now) (desks_one c.args.token.now c.args.board.now f.0 w f.1 d) f.2 in
    let i = c.loop-buffer.invariant w d in
    (i.0, i.1, searched_skip w c.args.current c.args.started.now r c.loop-buffer.buffer i.0 i.2 c.if-buffer-current.true)

pub scan-requires-clause-seat : goal.scan-requires-clause-seat
scan-requires-clause-seat c =
    let f = c.requires in
    let i = c.loop-buffer.invariant f.0 f.1 in
    (i.0, i.1, ap (λ (z : Writing). z.pins.building) i.2.is ∙ f.2.building, (λ e. c.if-buffer-current.false (e ∙ (ap (λ (z : Writing). z.current) i.2.is ∙ f.2.current_is))))

pub returns-then-scan-started : goal.returns-then-scan-started
returns-then-scan-started c = λ w d.
    let f = c.requires in
    let r : Rests c.args.current c.args.started.now w = subst (Rests c.args.current c.args.started.now) (desks_one c.args.token.now c.args.board.now f.0 w f.1 d) f.2 in
    let i = c.loop-buffer.invariant w d in
    let g = c.scan.ensures i.0 i.1 in
    (g.0, g.1, searched_found w c.args.current c.args.started.now r c.loop-buffer.buffer i.0 i.2 c.if-buffer-current.false c.loop-buffer-test.true c.args.board.now.slots c.scan.result g.0 g.2 c.if-scan-started.true)

pub loop-buffer-preserved : goal.loop-buffer-preserved
loop-buffer-preserved c = λ w d.
    let f = c.requires in
    let r : Rests c.args.current c.args.started.now w = subst (Rests c.args.current c.args.started.now) (desks_one c.args.token.now c.args.board.now f.0 w f.1 d) f.2 in
    let i = c.loop-buffer.invariant w d in
    let g = c.scan.ensures i.0 i.1 in
    (g.0, g.1, searched_more w c.args.current c.args.started.now r c.loop-buffer.buffer i.0 i.2 c.if-buffer-current.false c.loop-buffer-test.true c.args.board.now.slots c.scan.result g.0 g.2 c.if-scan-started.false)

pub unreachable-requires : goal.unreachable-requires
unreachable-requires c = let f = c.requires in let i = c.loop-buffer.invariant f.0 f.1 in never f.0 c.args.current c.args.started.now f.2 c.loop-buffer.buffer i.0 i.2 c.loop-buffer-test.false

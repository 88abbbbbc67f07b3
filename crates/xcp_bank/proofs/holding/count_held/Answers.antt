use Rattle.std.proofs.Common.{◌≡◌, ℕ, ap, ◌∙◌, arith, subst}
use Rattle.xcp_bank.specs.SeatKnowledge.{Writing}
use Rattle.xcp_bank.specs.private.SeatSteps.{HeldCounted, Rests}
use Rattle.xcp_bank.proofs.WriterSeatLemmas.{desks_one}
use Rattle.xcp_bank.proofs.ScanCountLemmas.{counted_none, counted_few, counted_skip, counted_quiet, counted_held}
use Rattle.xcp_bank.proofs.holding.count_held.Goals as goal

pub loop-buffer-init : goal.loop-buffer-init
loop-buffer-init c = λ w d. (w, d, counted_none c.args.board.now.slots w)

pub loop-buffer-preserved-then-buffer-current : goal.loop-buffer-preserved-then-buffer-current
loop-buffer-preserved-then-buffer-current c = λ w d.
    let f = c.requires in
    let r : Rests c.args.current c.args.started.now w = subst (Rests c.args.current c.args.started.now) (desks_one c.args.token.now c.args.board.now f.0 w f.1 d) f.2 in
    let i = c.loop-buffer.invariant w d in
    (i.0, i.1, counted_skip c.args.board.now.slots w c.args.current c.args.started.now r c.loop-buffer.buffer c.loop-buffer.held i.0 i.2 c.if-buffer-current.true)

pub scan-requires-clause-seat : goal.scan-requires-clause-seat
scan-requires-clause-seat c =
    let f = c.requires in
    let i = c.loop-buffer.invariant f.0 f.1 in
    (i.0, i.1, ap (λ (z : Writing). z.pins.building) i.2.is ∙ f.2.building, (λ e. c.if-buffer-current.false (e ∙ (ap (λ (z : Writing). z.current) i.2.is ∙ f.2.current_is))))

pub loop-buffer-preserved-then-scan-started : goal.loop-buffer-preserved-then-scan-started
loop-buffer-preserved-then-scan-started c = λ w d.
    let f = c.requires in
    let r : Rests c.args.current c.args.started.now w = subst (Rests c.args.current c.args.started.now) (desks_one c.args.token.now c.args.board.now f.0 w f.1 d) f.2 in
    let i = c.loop-buffer.invariant w d in
    let g = c.scan.ensures i.0 i.1 in
    (g.0, g.1, counted_quiet c.args.board.now.slots w c.args.current c.args.started.now r c.loop-buffer.buffer c.loop-buffer.held i.0 i.2 c.if-buffer-current.false c.scan.result g.0 g.2 c.if-scan-started.true)

pub overflow_add-held : goal.overflow_add-held
overflow_add-held c =
    let f = c.requires in
    let i = c.loop-buffer.invariant f.0 f.1 in
    let few = counted_few c.args.board.now.slots f.0 c.args.current c.args.started.now f.2 c.loop-buffer.buffer c.loop-buffer.held i.0 i.2 c.loop-buffer-test.true in
    omega arith

pub loop-buffer-preserved : goal.loop-buffer-preserved
loop-buffer-preserved c = λ w d.
    let f = c.requires in
    let r : Rests c.args.current c.args.started.now w = subst (Rests c.args.current c.args.started.now) (desks_one c.args.token.now c.args.board.now f.0 w f.1 d) f.2 in
    let i = c.loop-buffer.invariant w d in
    let g = c.scan.ensures i.0 i.1 in
    (g.0, g.1, counted_held c.args.board.now.slots w c.args.current c.args.started.now r c.loop-buffer.buffer c.loop-buffer.held i.0 i.2 c.if-buffer-current.false c.scan.result g.0 g.2 c.if-scan-started.false)

pub returns : goal.returns
returns c = λ w d.
    let end : c.loop-buffer.buffer ≡ 8 = (let a = c.loop-buffer-test.false in let b = c.loop-buffer.auto.buffer-end in omega arith) in
    let i = c.loop-buffer.invariant w d in
    (i.0, i.1, subst (λ (n : ℕ). HeldCounted n c.loop-buffer.held c.args.board.now.slots w i.0) end i.2)

use Rattle.std.proofs.Common.{suc}
use Rattle.xcp_bank.proofs.bank.last_three.Goals as goal

pub next_reader-requires : goal.next_reader-requires
next_reader-requires c =
    let f = c.requires in
    (suc (suc f.0), f.1, f.2)

pub next_reader-requires-2 : goal.next_reader-requires-2
next_reader-requires-2 c =
    let f = c.requires in
    let last = c.in_ok-last.ensures (suc (suc f.0)) f.1 f.2 in
    (suc f.0, f.1, last.0)

pub next_reader-requires-3 : goal.next_reader-requires-3
next_reader-requires-3 c =
    let f = c.requires in
    let last = c.in_ok-last.ensures (suc (suc f.0)) f.1 f.2 in
    let middle = c.in_ok-middle.ensures (suc f.0) f.1 last.0 in
    (f.0, f.1, middle.0)

pub returns : goal.returns
returns c = λ n words first.
    let last = c.in_ok-last.ensures (suc (suc n)) words first in
    let middle = c.in_ok-middle.ensures (suc n) words last.0 in
    let soonest = c.in_ok-first.ensures n words middle.0 in
    (soonest.0, soonest.1, middle.1, last.1)

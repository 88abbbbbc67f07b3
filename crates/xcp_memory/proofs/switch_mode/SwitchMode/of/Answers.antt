use Rattle.std.proofs.Common.{inl, inr, sym, ◌∙◌, refl}
use Rattle.std.proofs.lemmas.Bool.{false≢true}
use Rattle.bitflags.specs.Sets.{known_from}
use Rattle.xcp_memory.proofs.PageSwitchLemmas.{unknown_bits, known_mode}
use Rattle.xcp_memory.proofs.switch_mode.SwitchMode.of.Goals as goal
use Rattle.xcp_memory.proofs.switch_mode.SwitchMode.of.Goals.{then-contains-via-then-contains, then-contains-via-else-contains+then-contains-2}

pub returns-in_err-mode-clause-none : goal.returns-in_err-mode-clause-none
unfolding known_from
returns-in_err-mode-clause-none c = rw c.from_residual.ensures (unknown_bits c.args.bits (λ e. false≢true ((c.in_err-mode.ensures.known tt).1 e)))

pub returns-then-contains-clause-some : goal.returns-then-contains-clause-some
unfolding known_from
returns-then-contains-clause-some c =
    let m = c.in_ok-mode.mode.0 in
    let same = c.in_ok-mode.ensures.value tt in
    let known = (c.in_ok-mode.ensures.known tt).0 refl in
    elim c.then-contains.branch [
      | then-contains-via-then-contains w ↦ (known_mode c.args.bits m known same (inl (sym (c.contains.ensures tt) ∙ w.if-contains.true)), same)
      | then-contains-via-else-contains+then-contains-2 w ↦ (known_mode c.args.bits m known same (inr (sym (w.contains-else-contains.ensures tt) ∙ w.if-contains-2.true)), same)
    ]

use Rattle.std.proofs.Common.{ap, ◌∙◌, ◌++◌, ◌∷◌, [], arith}
use Rattle.xcp_trace.specs.Tape.{TapeValue}
use Rattle.xcp_trace.proofs.TapeLaws.{one_more, spelt-one_more, count_fits}
use Rattle.xcp_trace.proofs.tape.Tape.push_parts.Goals as goal

pub overflow_add-self : goal.overflow_add-self
overflow_add-self g c = let h = count_fits c.self.inside.count c.self.inside.bytes.items c.self.invariant in omega (arith, h, c.self.inside.bytes.ok.0, c.self.inside.bytes.ok.1, c.self.inside.bytes.small)

pub invariant_of-self : goal.invariant_of-self
invariant_of-self g c = rw c.put_string.ensures (spelt-one_more c.self.inside.count c.self.inside.bytes.items (c.args.few.now ++ c.args.second.now ++ c.args.third.now) c.self.invariant)

pub returns : goal.returns
returns g c =
    rw c.put_string.ensures
    (one_more c.self.inside.count c.self.inside.bytes.items (c.args.few.now ++ c.args.second.now ++ c.args.third.now) c.self.invariant
    ∙ ap (λ (t : TapeValue). t.strings ++ (c.args.few.now ++ c.args.second.now ++ c.args.third.now) ∷ []) c.self.view_is)

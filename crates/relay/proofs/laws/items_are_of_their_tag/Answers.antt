use Rattle.std.proofs.Common.{refl}
use Rattle.relay.proofs.ItemLemmas.{items_of-append, one_of, none_of}
use Rattle.relay.proofs.laws.items_are_of_their_tag.Goals as goal

pub returns-clause-behind : goal.returns-clause-behind
returns-clause-behind g c = λ tag xs ys. items_of-append tag xs ys

pub returns-clause-own : goal.returns-clause-own
returns-clause-own g c = λ tag x. one_of tag (tag, x) refl

pub returns-clause-other : goal.returns-clause-other
returns-clause-other g c = λ tag another x apart. none_of another (tag, x) apart

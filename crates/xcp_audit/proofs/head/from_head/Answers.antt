use Rattle.std.proofs.Common.{rules, ◌≡◌, List, ℕ, Some, Bor}
use Rattle.std.specs.Fmt.{option_append}
use Rattle.std.specs.Io.Chain.{chain_remaining}
use Rattle.xcp_audit.proofs.HeadLemmas.{begun_by}
use Rattle.xcp_audit.proofs.head.from_head.Goals as goal

pub returns-clause-head : goal.returns-clause-head
returns-clause-head g c =
    let joined : chain_remaining {R = Bor (List ℕ)} (λ h. Some h.now) g.R.Read.remaining c.new.result.inner ≡ option_append (Some c.args.head.now) (g.R.Read.remaining c.args.file.inner) = search rules in
    begun_by c.args.head.now (g.R.Read.remaining c.args.file.inner) _ joined

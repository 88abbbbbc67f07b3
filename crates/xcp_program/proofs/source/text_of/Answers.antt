use Rattle.std.proofs.Common.{◌≡◌, ap, subst, string_bytes}
use Rattle.std.specs.Str.{IsUtf8}
use Rattle.std.proofs.lemmas.Str.{IsUtf8-had}
use Rattle.xcp_program.proofs.source.text_of.Goals as goal

pub returns-in-Ok : goal.returns-in-Ok
returns-in-Ok c =
    let same : string_bytes c.in-Ok.text ≡ c.args.bytes.items = ap (λ v. v.items) c.in-Ok.ensures.ok in
    (same, subst IsUtf8 same (IsUtf8-had (string_bytes c.in-Ok.text) c.in-Ok.text.ok))

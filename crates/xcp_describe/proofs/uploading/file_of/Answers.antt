use Rattle.std.proofs.Common.{inl, inr, refl, sym, ap, arith, length, ◌≡◌, ◌∙◌}
use Rattle.xcp_describe.proofs.FileLemmas.{epk_has_64_digits}
use Rattle.xcp_describe.proofs.uploading.file_of.Goals as goal

-- the EPK isn't too long
pub returns-in-None-clause-refused : goal.returns-in-None-clause-refused
returns-in-None-clause-refused c =
    let count : length c.into_bytes.result.items ≡ 64 =
    ap (λ v. length v.items) c.into_bytes.ensures.value ∙ ap length c.in-Ok.ensures ∙ epk_has_64_digits c.args.config.now in
    grind (arith, count, c.in-None.ensures.none.0 refl, c.into_bytes-2.ensures.value)

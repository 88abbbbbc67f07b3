use Rattle.std.proofs.Common.{◌≡◌, ◌++◌, List, ℕ, ap, sym, ◌∙◌}
use Rattle.std.specs.List.{flat_map}
use Rattle.sha2.specs.Sha256.{sha256}
use Rattle.xcp_flash.specs.FlashFile.{body_of, head, flash_magic, page_in}
use Rattle.xcp_flash.proofs.FileLemmas.{body_is, file_is, head_is}
use Rattle.xcp_flash.proofs.references.References.file.Goals as goal

pub returns-clause-whole : goal.returns-clause-whole
returns-clause-whole c =
    let d = c.args.layout_digest.now in
    let pages = c.args.self.now in
    let one = (c.in_ok-extend_from_slice.ensures {u = tt}).items in
    let two = (c.in_ok-extend_from_slice-2.ensures {u = tt}).items in
    let three = (c.in_ok-append_each.ensures {u = tt}).bytes in
    let four = (c.in_ok-extend_from_slice-3.ensures {u = tt}).items in
    let start : c.extend_from_slice-2.new.self.items ≡ head d = two ∙ ap (λ (b : List ℕ). b ++ d) (one ∙ ap (λ (b : List ℕ). b ++ flash_magic) c.clear.ensures.items) ∙ sym (head_is d) in
    let body : c.append_each.new.out.items ≡ body_of d pages =
    three
    ∙ ap (λ (b : List ℕ). b ++ flat_map page_in c.deref.result.now) start
    ∙ ap (λ (ps : List (List ℕ)). head d ++ flat_map page_in ps) (c.deref.ensures.value ∙ c.self.view_is)
    ∙ sym (body_is d pages) in
    let sum : c.digest_of-digest.result ≡ sha256 (body_of d pages) = c.digest_of-digest.ensures ∙ ap sha256 (c.deref-2.ensures.value ∙ body) in
    four ∙ ap (λ (b : List ℕ). b ++ c.digest_of-digest.result) body ∙ ap (λ (b : List ℕ). body_of d pages ++ b) sum ∙ sym (file_is d pages)

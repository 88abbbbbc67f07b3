-- Of a file there is one fault, or none.
use Rattle.std.proofs.Common.{◌≡◌, ◌≤◌, ℕ, ◌+◌, List, [], ◌++◌, length, take, drop, refl, sym, ap, ◌∙◌, arith, length-append, take-append-drop}
use Rattle.std.specs.List.{flat_map}
use Rattle.std.proofs.Math.Seq.{take-append_seam, drop-append_seam}
use Rattle.sha2.specs.Sha256.{sha256}
use Rattle.xcp_memory.specs.Layout.{LayoutValue}
use Rattle.xcp_flash.specs.declared.fault.FlashError.{FlashError}
use Rattle.xcp_flash.specs.declared.fault.FlashError.TheVariants as errors
use Rattle.xcp_flash.specs.FlashFile.{body_of, file_of, head, flash_magic, page_in}
use Rattle.xcp_flash.specs.References.{AreReferences}
use Rattle.xcp_flash.specs.Restoring.{HasPages, IsFlashFault}
use Rattle.xcp_flash.specs.private.Reading.{BeginsWithPages, IsWholeRead}
use Rattle.xcp_flash.proofs.FileLemmas.{append_same, body_behind, body_is, file_is, head_begins, head_length, same_head, sha256_length}
use Rattle.xcp_flash.proofs.PageLemmas.{same_length, same_pages, sizes}

-- what a file with pages begins with, and what stands behind its head
pub has_head : (l : LayoutValue) (d file : List ℕ) (h : HasPages l d file) → file ≡ head d ++ (flat_map page_in h.pages ++ h.digest)
has_head l d file h = h.whole ∙ body_behind d h.pages h.digest

-- a file with pages begins with the six bytes of magic
pub has_magic : (l : LayoutValue) (d file : List ℕ) → HasPages l d file → take 6 file ≡ flash_magic
has_magic l d file h = ap (take 6) (has_head l d file h) ∙ head_begins d _

-- a file with pages has at least the 38 bytes of a head, where the digest has 32
pub has_room : (l : LayoutValue) (d file : List ℕ) → length d ≡ 32 → HasPages l d file → 38 ≤ length file
has_room l d file is h =
    let e = ap length (has_head l d file h) in
    let a = length-append (head d) (flat_map page_in h.pages ++ h.digest) in
    let b = head_length d in
    omega (arith, e, a, b, is)

-- a head with a digest of 32 bytes is the first 38 bytes, and what stands behind it is the others
pub at_head : (d more : List ℕ) → length d ≡ 32 → (take 38 (head d ++ more) ≡ head d) × (drop 38 (head d ++ more) ≡ more)
at_head d more is =
    let long : length (head d) ≡ 38 = head_length d ∙ ap (λ (n : ℕ). 6 + n) is in
    (ap (λ (n : ℕ). take n (head d ++ more)) (sym long) ∙ take-append_seam (head d) more, ap (λ (n : ℕ). drop n (head d ++ more)) (sym long) ∙ drop-append_seam (head d) more)

-- the first 38 bytes of a file with pages are its head, where the digest has 32
pub names_layout : (l : LayoutValue) (d file : List ℕ) → length d ≡ 32 → HasPages l d file → take 38 file ≡ head d
names_layout l d file is h = ap (take 38) (has_head l d file h) ∙ (at_head d _ is).0

-- the pages of a file stand behind its head
pub pages_begin : (l : LayoutValue) (d file : List ℕ) → length d ≡ 32 → (h : HasPages l d file) → BeginsWithPages l (drop 38 file) h.pages h.digest
pages_begin l d file is h = record { sized = h.sized; whole = ap (drop 38) (has_head l d file h) ∙ (at_head d _ is).1 }

-- there is one list of them
pub one_list : (l : LayoutValue) (bytes : List ℕ) (pages others : List (List ℕ)) (more rest : List ℕ) → BeginsWithPages l bytes pages more → BeginsWithPages l bytes others rest → (pages ≡ others) × (more ≡ rest)
one_list l bytes pages others more rest a b = same_pages pages others more rest (a.sized ∙ sym b.sized) (sym a.whole ∙ b.whole)

-- so a whole file has no altered digest
pub not_altered : (l : LayoutValue) (d file : List ℕ) (pages : List (List ℕ)) → length d ≡ 32 → AreReferences pages l → file ≡ file_of d pages → (h : HasPages l d file) → h.digest ≡ sha256 (body_of d h.pages)
not_altered l d file pages is sized whole h =
    let it : HasPages l d file = record { pages = pages; digest = sha256 (body_of d pages); sized = sized; size = sha256_length _; whole = whole ∙ file_is d pages } in
    let both = one_list l (drop 38 file) h.pages pages h.digest (sha256 (body_of d pages)) (pages_begin l d file is h) (pages_begin l d file is it) in
    both.1 ∙ ap (λ (ps : List (List ℕ)). sha256 (body_of d ps)) (sym both.0)

-- a whole file has no fault
pub no_fault : (l : LayoutValue) (d file : List ℕ) (pages : List (List ℕ)) (e : FlashError) → length d ≡ 32 → AreReferences pages l → file ≡ file_of d pages → IsFlashFault l d file e → ⊥
no_fault l d file pages errors.Head is sized whole fault =
    fault (ap (take 6) (whole ∙ file_is d pages ∙ body_behind d pages (sha256 (body_of d pages))) ∙ head_begins d _)
no_fault l d file pages errors.Layout is sized whole fault =
    fault.2 (ap (take 38) (whole ∙ file_is d pages ∙ body_behind d pages (sha256 (body_of d pages))) ∙ (at_head d _ is).0)
no_fault l d file pages errors.Size is sized whole fault =
    fault.2 (record { pages = pages; digest = sha256 (body_of d pages); sized = sized; size = sha256_length _; whole = whole ∙ file_is d pages })
no_fault l d file pages errors.Digest is sized whole fault = fault.1 (not_altered l d file pages is sized whole fault.0)

-- and no file has two
pub one_fault : (l : LayoutValue) (d file : List ℕ) (e f : FlashError) → length d ≡ 32 → IsFlashFault l d file e → IsFlashFault l d file f → e ≡ f
one_fault l d file errors.Head errors.Head is a b = refl
one_fault l d file errors.Head errors.Layout is a b = absurd (a b.0)
one_fault l d file errors.Head errors.Size is a b = absurd (a b.0)
one_fault l d file errors.Head errors.Digest is a b = absurd (a (has_magic l d file b.0))
one_fault l d file errors.Layout errors.Head is a b = absurd (b a.0)
one_fault l d file errors.Layout errors.Layout is a b = refl
one_fault l d file errors.Layout errors.Size is a b = absurd (a.2 (b.1 a.1))
one_fault l d file errors.Layout errors.Digest is a b = absurd (a.2 (names_layout l d file is b.0))
one_fault l d file errors.Size errors.Head is a b = absurd (b a.0)
one_fault l d file errors.Size errors.Layout is a b = absurd (b.2 (a.1 b.1))
one_fault l d file errors.Size errors.Size is a b = refl
one_fault l d file errors.Size errors.Digest is a b = absurd (a.2 b.0)
one_fault l d file errors.Digest errors.Head is a b = absurd (b (has_magic l d file a.0))
one_fault l d file errors.Digest errors.Layout is a b = absurd (b.2 (names_layout l d file is a.0))
one_fault l d file errors.Digest errors.Size is a b = absurd (b.2 a.0)
one_fault l d file errors.Digest errors.Digest is a b = refl

-- a file whose parts were found is a body with bytes behind it
pub joined : (d file bytes : List ℕ) (pages : List (List ℕ)) (rest : List ℕ) → take 38 file ≡ head d → bytes ≡ drop 38 file → bytes ≡ flat_map page_in pages ++ rest → file ≡ body_of d pages ++ rest
joined d file bytes pages rest named behind whole =
    sym (take-append-drop 38 file)
    ∙ ap (λ (b : List ℕ). b ++ drop 38 file) named
    ∙ ap (λ (b : List ℕ). head d ++ b) (sym behind ∙ whole)
    ∙ sym (body_behind d pages rest)

-- a file that was found whole is the file of its pages
pub is_file : (l : LayoutValue) (d file bytes : List ℕ) (w : IsWholeRead l d file bytes) → file ≡ file_of d w.pages
is_file l d file bytes w =
    w.whole ∙ ap (λ (b : List ℕ). head d ++ b) w.found.whole ∙ sym (body_behind d w.pages (sha256 (body_of d w.pages))) ∙ sym (file_is d w.pages)

-- and these pages stand behind its head
pub file_begins : (l : LayoutValue) (d file bytes : List ℕ) (pages : List (List ℕ)) → file ≡ head d ++ bytes → AreReferences pages l → file ≡ file_of d pages → BeginsWithPages l bytes pages (sha256 (body_of d pages))
file_begins l d file bytes pages parts sized whole = record {
  sized = sized;
  whole = (append_same (head d) (head d) bytes _ refl (sym parts ∙ whole ∙ file_is d pages ∙ body_behind d pages (sha256 (body_of d pages)))).1;
}

-- a file has one content
pub one_content : (d e : List ℕ) (pages more : List (List ℕ)) → sizes pages ≡ sizes more → file_of d pages ≡ file_of e more → (d ≡ e) × (pages ≡ more)
one_content d e pages more sized h =
    let ours = body_of d pages in
    let others = body_of e more in
    let files : ours ++ sha256 ours ≡ others ++ sha256 others = sym (file_is d pages) ∙ h ∙ file_is e more in
    let m = length-append ours (sha256 ours) in
    let n = length-append others (sha256 others) in
    let a = sha256_length ours in
    let b = sha256_length others in
    let total = ap (λ (x : List ℕ). length x) files in
    let bodies = (append_same ours others _ _ (omega (arith, m, n, a, b, total)) files).0 in
    let parts : head d ++ flat_map page_in pages ≡ head e ++ flat_map page_in more = sym (body_is d pages) ∙ bodies ∙ body_is e more in
    let x = length-append (head d) (flat_map page_in pages) in
    let y = length-append (head e) (flat_map page_in more) in
    let long = same_length pages more sized in
    let whole = ap (λ (z : List ℕ). length z) parts in
    let both = append_same (head d) (head e) _ _ (omega (arith, x, y, long, whole)) parts in
    (same_head d e both.0, (same_pages pages more [] [] sized (ap (λ (z : List ℕ). z ++ []) both.1)).0)

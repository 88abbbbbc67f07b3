-- The parts of a file's bytes.
use Rattle.std.proofs.Common.{◌≡◌, ℕ, zero, suc, ◌+◌, ◌*◌, List, ◌++◌, length, take, drop, refl, sym, ap, ◌∙◌, arith, append_assoc, length-append, take-append-drop, take-take, ◌-◌}
use Rattle.std.specs.List.{flat_map}
use Rattle.std.proofs.Math.Seq.{take-append_seam, drop-append_seam}
use Rattle.sha2.specs.Sha256.{digest_bytes, sha256}
use Rattle.xcp_flash.specs.FlashFile.{body_of, file_of, head, flash_magic, page_in}

-- two lists whose fronts are equally long are the same in both parts
pub append_same : {A : Type 0} (a b c d : List A) → length a ≡ length b → a ++ c ≡ b ++ d → (a ≡ b) × (c ≡ d)
append_same a b c d n h = (
  sym (take-append_seam a c) ∙ ap (λ k. take k (a ++ c)) n ∙ ap (take (length b)) h ∙ take-append_seam b d,
  sym (drop-append_seam a c) ∙ ap (λ k. drop k (a ++ c)) n ∙ ap (drop (length b)) h ∙ drop-append_seam b d,
)

digest_length : (h : List ℕ) (n : ℕ) → length (digest_bytes h n) ≡ 4 * n
unfolding digest_bytes
digest_length h zero = refl
digest_length h (suc n) = length-append (digest_bytes h n) _ ∙ (let before = digest_length h n in omega (arith, before))

-- a digest has 32 bytes
pub sha256_length : (m : List ℕ) → length (sha256 m) ≡ 32
unfolding sha256
sha256_length m = digest_length _ 8

-- a head begins with the magic and the version
pub head_begins : (d more : List ℕ) → take 6 (head d ++ more) ≡ flash_magic
unfolding head
head_begins d more = refl

-- and ends with the digest
pub head_ends : (d : List ℕ) → drop 6 (head d) ≡ d
unfolding head
head_ends d = refl

-- a head has six bytes more than its digest
pub head_length : (d : List ℕ) → length (head d) ≡ 6 + length d
unfolding head
head_length d = length-append flash_magic d

-- what begins and ends so is a head
pub is_head : (b d : List ℕ) → take 6 b ≡ flash_magic → drop 6 b ≡ d → b ≡ head d
unfolding head
is_head b d begins ends = sym (take-append-drop 6 b) ∙ ap (λ a. a ++ drop 6 b) begins ∙ ap (λ e. flash_magic ++ e) ends

-- equal heads have equal digests
pub same_head : (a b : List ℕ) → head a ≡ head b → a ≡ b
same_head a b h = sym (head_ends a) ∙ ap (drop 6) h ∙ head_ends b

-- a page in a file has four bytes more than the page
pub page_length : (p : List ℕ) → length (page_in p) ≡ 4 + length p
unfolding page_in
page_length p = omega arith

-- pages of one length are the same where their bytes in the file are
pub same_page : (p q : List ℕ) → page_in p ≡ page_in q → p ≡ q
unfolding page_in
same_page p q h = ap (drop 4) h

-- a body and what stands behind it
pub body_behind : (d : List ℕ) (pages : List (List ℕ)) (more : List ℕ) → body_of d pages ++ more ≡ head d ++ (flat_map page_in pages ++ more)
unfolding body_of
body_behind d pages more = append_assoc (head d) (flat_map page_in pages) more

-- a body is the head, and behind it the pages in the file, in order
pub body_is : (d : List ℕ) (pages : List (List ℕ)) → body_of d pages ≡ head d ++ flat_map page_in pages
unfolding body_of
body_is d pages = refl

-- a file is the body, and behind it the SHA-256 of the body
pub file_is : (d : List ℕ) (pages : List (List ℕ)) → file_of d pages ≡ body_of d pages ++ sha256 (body_of d pages)
unfolding file_of
file_is d pages = refl

-- a file's head and what stands behind it
pub parted : (d file : List ℕ) → take 6 file ≡ flash_magic → drop 6 (take 38 file) ≡ d → take 38 file ≡ head d
parted d file begins names = is_head (take 38 file) d (take-take 6 38 file (omega arith) ∙ begins) names

-- what stands before the last 32 bytes
pub body_front : (file body rest : List ℕ) → file ≡ body ++ rest → length rest ≡ 32 → take (length file - 32) file ≡ body
body_front file body rest whole long =
    let e = ap length whole ∙ length-append body rest in
    let n : length file - 32 ≡ length body = omega (arith, e, long) in
    ap (λ (k : ℕ). take k file) n ∙ ap (take (length body)) whole ∙ take-append_seam body rest

-- a head is the magic, and behind it the digest
pub head_is : (d : List ℕ) → head d ≡ flash_magic ++ d
unfolding head
head_is d = refl

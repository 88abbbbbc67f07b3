-- Reads and writes at an MTA.
use Rattle.std.proofs.Common.{◌≡◌, ℕ, ◌+◌, ◌≤◌, ◌<◌, ◌↔◌, true, List, length, take, drop, None, sym, ap, ◌∙◌, arith, nat_le, slice_index, length-drop}
use Rattle.std.proofs.lemmas.List.{length-take-le, get_or-take, get_or-drop, ext_get_or}
use Rattle.std.proofs.lemmas.Bool.Decides.{nat_tests}
use Rattle.xcp_memory.specs.AccessLaws.{ToolIsRead, ToolIsWritten}
use Rattle.xcp_memory.specs.Layout.{IsLayout}
use Rattle.xcp_memory.specs.Pages.{PagesValue, IsPages}
use Rattle.xcp_transfer.specs.declared.mta.Mta.{Mta}
use Rattle.xcp_transfer.specs.declared.mta.Mta.TheVariants.{Nowhere, Memory, Text}
use Rattle.xcp_transfer.specs.TransferValue.{text_of}
use Rattle.xcp_transfer.specs.MtaAccess.{is_readable, bytes_at, write_refusal_at, written_at}
use Rattle.xcp_transfer.specs.MtaRelations.{ReadsText, ReadsAt, WritesAt}

text_at : (text : List ℕ) (place n k : ℕ) → k < n → slice_index (take n (drop place text)) k ≡ slice_index text (place + k)
text_at text place n k h = get_or-take n (drop place text) k 0 h ∙ get_or-drop place text k 0

text_long : (text : List ℕ) (place n : ℕ) → place + n ≤ length text → length (take n (drop place text)) ≡ n
text_long text place n h = length-take-le n (drop place text) (omega (arith, length-drop place text))

text_read : (text : List ℕ) (place n : ℕ) (bytes : List ℕ) → ReadsText text place n bytes → (nat_le (place + n) (length text) ≡ true) × (bytes ≡ take n (drop place text))
text_read text place n bytes r =
    let i = r.inside in
    let l = r.long in
    (grind (arith, nat_tests), ext_get_or 0 bytes (take n (drop place text)) (r.long ∙ sym (text_long text place n i)) (λ k h. let b : k < n = omega arith in r.each k b ∙ sym (text_at text place n k b)))

reads_text : (text : List ℕ) (place n : ℕ) (bytes : List ℕ) → (nat_le (place + n) (length text) ≡ true) × (bytes ≡ take n (drop place text)) → ReadsText text place n bytes
reads_text text place n bytes p =
    let i : place + n ≤ length text = grind (arith, nat_tests, p.0) in
    record {
      inside = i;
      long = ap length p.1 ∙ text_long text place n i;
      each = λ k h. ap (λ (xs : List ℕ). slice_index xs k) p.1 ∙ text_at text place n k h;
    }

-- what the rows read at an MTA is the read, and there is one exactly where they find it readable
pub rows_read : ToolIsRead → (p : PagesValue) (mta : Mta) (n : ℕ) (bytes : List ℕ) → IsLayout p.layout → IsPages p → ReadsAt p mta n bytes ↔ ((is_readable p mta n ≡ true) × (bytes ≡ bytes_at p mta n))
rows_read law p Nowhere n bytes l g = (λ h. absurd h, λ h. let e = h.0 in absurd (cc))
rows_read law p (Memory a) n bytes l g = law p a n bytes l g
rows_read law p (Text id place) n bytes l g =
    (text_read (text_of p.layout id) place n bytes, reads_text (text_of p.layout id) place n bytes)

-- where a write isn't refused, what the rows write at an MTA is the write, and no other is
pub rows_write : ToolIsWritten → (p q : PagesValue) (mta : Mta) (bytes : List ℕ) → IsLayout p.layout → IsPages p → write_refusal_at p mta (length bytes) ≡ None → WritesAt p mta bytes q ↔ (q ≡ written_at p mta bytes)
rows_write law p q Nowhere bytes l g h = absurd (cc)
rows_write law p q (Memory a) bytes l g h = law p q a bytes l g h
rows_write law p q (Text id place) bytes l g h = absurd (cc)

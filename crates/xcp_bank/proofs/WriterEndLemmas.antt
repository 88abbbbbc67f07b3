-- What the writer's steps come to, as contracts see the writer.
use Rattle.std.proofs.Common.{◌≡◌, ℕ, ◌+◌, ◌-◌, ◌%◌, List, [], ◌∷◌, ◌++◌, length, get_or, ap, ◌∙◌, arith}
use Rattle.std.proofs.lemmas.List.{map-append, length_push, get_or_push}
use Rattle.atomic_table.specs.Seated.{TableId}
use Rattle.atomic_table.specs.declared.shared.Seat.{Seat as Token}
use Rattle.pin_core.specs.State.{Writer}
use Rattle.xcp_bank.specs.Images.{image_in_words, images}
use Rattle.xcp_bank.specs.SeatKnowledge.{Writing, Known}
use Rattle.xcp_bank.specs.private.SeatSteps.{IsWriterSeat, Publishes}
use Rattle.xcp_bank.specs.BankEnds.{WriterEnd, writer_end, newest, PublishDoes}
use Rattle.xcp_bank.specs.EndFields.{shown_writer}
use Rattle.xcp_bank.proofs.EndFieldLemmas.{writer_is}

-- a seat that stands for the writer shows it
pub writer_shown : (token : Token (Unit {0}) Known) (bank : TableId) (w : Writing) → IsWriterSeat token bank w → shown_writer bank token ≡ writer_end bank w
writer_shown token bank w d = ap (writer_end bank) (writer_is token bank w d)

-- What `publish` says.
pub record PublishedEnd (image : List ℕ) (old new : WriterEnd) : Type 0 where
  pub appended : new.publications ≡ old.publications ++ image ∷ []
  pub does : (words : List ℕ) × (image_in_words words ≡ image) × PublishDoes words old new

-- words that were published leave the writer as `publish` says, with their image behind its publications
pub published_end : (bank : TableId) (image words : List ℕ) (w u : Writing) → image_in_words words ≡ image → Publishes words bank.slots w u → PublishedEnd image (writer_end bank w) (writer_end bank u)
published_end bank image words w u same k = record {
  appended = ap images k.list ∙ (map-append image_in_words w.pins.publications (words ∷ []) ∙ ap (λ (z : List ℕ). images w.pins.publications ++ z ∷ []) same);
  does = (words, same, record { scans = k.scans; buffer = k.buffer; only = k.only; most = k.most; did = k.grows; last = k.last; state = k.up_to_date.state; ran = k.up_to_date.ran; current = k.up_to_date.index; published = ap (λ (z : Writer). images z.publications) k.up_to_date.pins });
}

-- and it is the newest one
pub newest_is : (image : List ℕ) (old new : WriterEnd) → PublishedEnd image old new → newest new ≡ image
newest_is image old new k =
    let long = length_push old.publications image in
    ap (λ (l : List (List ℕ)). get_or l (length l - 1) []) k.appended ∙ get_or_push old.publications image [] (length (old.publications ++ image ∷ []) - 1) (omega arith)

-- the number of publications, counted modulo 2^64
pub counted_more : (W : ℕ) (words : List ℕ) (w u : Writing) (n : ℕ) → Publishes words W w u → n ≡ length w.pins.publications % 18446744073709551616 → (n + 1) % 18446744073709551616 ≡ length u.pins.publications % 18446744073709551616
counted_more W words w u n k e =
    let long : length u.pins.publications ≡ length w.pins.publications + 1 = ap length k.list ∙ length_push w.pins.publications words in
    omega arith

use Rattle.std.proofs.Common.{◌≡◌, ℕ, ◌+◌, ◌-◌, ◌*◌, ◌/◌, ◌%◌, ◌<◌, ◌≤◌, List, length, get_or, refl, ap, ◌∙◌, sym, subst, arith}
use Rattle.std.specs.Arc.{arc_value}
use Rattle.atomic_table.specs.Table.{opening}
use Rattle.xcp_bank.specs.TableRule.{Banked}
use Rattle.xcp_bank.specs.private.BlockMarks.{blocks_in}
use Rattle.xcp_bank.specs.private.Everybody.{everybody}
use Rattle.xcp_bank.specs.private.ImageWords.{words_for}
use Rattle.xcp_bank.specs.Images.{image_in_words}
use Rattle.xcp_bank.specs.BankId.{BankId, bank_of, image_bytes}
use Rattle.xcp_bank.specs.BankEnds.{WriterEnd, six_readers, new_writer}
use Rattle.xcp_bank.proofs.ImageLemmas.{for_length, for_last, for_image}
use Rattle.xcp_bank.proofs.OpeningTableLemmas.{opening_banked}
use Rattle.xcp_bank.proofs.bank.Bank.new.Goals as goal

-- the words are those of the image's bytes, and one more
long : (image items : List ℕ) → items ≡ words_for image 0 → length items ≡ length image / 8 + 1
long image items e = ap length e ∙ for_length image 0

last : (image items : List ℕ) → items ≡ words_for image 0 → get_or items (length items - 1) 0 ≡ 0
last image items e =
    let l = long image items e in
    let at : length items - 1 ≡ length image / 8 = omega arith in
    (λ i. get_or (e i) (at i) 0) ∙ for_last image 0

pub table_words-requires : goal.table_words-requires
table_words-requires c =
    let l = long c.args.image.now c.in_ok-words.words.items c.in_ok-words.ensures in
    let few = c.requires.few_bytes in
    let same = ap length c.deref.ensures.value in omega arith

pub open-requires-clause-some : goal.open-requires-clause-some
open-requires-clause-some c =
    let l = long c.args.image.now c.in_ok-words.words.items c.in_ok-words.ensures in
    let some = c.requires.some_bytes in let whole = c.requires.whole_words in omega arith

pub open-requires-clause-few : goal.open-requires-clause-few
open-requires-clause-few c =
    let l = long c.args.image.now c.in_ok-words.words.items c.in_ok-words.ensures in
    let few = c.requires.few_bytes in omega arith

pub open-requires-clause-size : goal.open-requires-clause-size
open-requires-clause-size c = ap length c.deref-2.ensures.value ∙ (c.in_ok-table.ensures.size ∙ ap (λ (l : List ℕ). 9 + 8 * length l) c.deref.ensures.value)

pub open-requires-clause-rule : goal.open-requires-clause-rule
open-requires-clause-rule c = λ slots.
    let words : List ℕ = c.in_ok-words.words.items in let table : List ℕ = c.in_ok-table.table.items in
    let l = long c.args.image.now words c.in_ok-words.ensures in
    let few = c.requires.few_bytes in
    let t = c.in_ok-table.ensures in
    let size : length table ≡ 9 + 8 * length words = t.size ∙ ap (λ (l : List ℕ). 9 + 8 * length l) c.deref.ensures.value in
    let image : (k : ℕ) → k < length words → get_or table (9 + k) 0 ≡ get_or words k 0 = subst (λ (l : List ℕ). (k : ℕ) → k < length l → get_or table (9 + k) 0 ≡ get_or l k 0) c.deref.ensures.value t.image in
    let rest : (i : ℕ) → 9 + length words ≤ i → get_or table i 0 ≡ 0 = subst (λ (l : List ℕ). (i : ℕ) → 9 + length l ≤ i → get_or table i 0 ≡ 0) c.deref.ensures.value t.rest in
    subst (λ (ws : List ℕ). Banked (length words) (opening ws slots (everybody 6 words))) (sym c.deref-2.ensures.value)
    (opening_banked (length words) words table refl (omega arith) (omega arith) (last c.args.image.now words c.in_ok-words.ensures) size t.front image rest slots)

-- a buffer has as many words as the image, and one more
slots_are : (image words : List ℕ) (slots : ℕ) → length image % 8 ≡ 0 → length words ≡ length image / 8 + 1 → length words ≡ slots → (8 * (slots - 1) ≡ length image) × (length image / 8 ≡ slots - 1)
slots_are image words slots whole long size = (omega arith, omega arith)

pub new-requires-2-clause-size : goal.new-requires-2-clause-size
new-requires-2-clause-size c =
    let words : List ℕ = c.in_ok-words.words.items in
    let k = (c.in_ok-readers.ensures words c.in_ok-board.ensures).0 in
    let e = slots_are c.args.image.now words (arc_value c.in_ok-board.board).slots c.requires.whole_words (long c.args.image.now words c.in_ok-words.ensures) k.size in
    c.in_ok-marks.ensures.size ∙ ap (λ (n : ℕ). 8 * blocks_in n) e.1

pub new-requires-2-clause-seat : goal.new-requires-2-clause-seat
new-requires-2-clause-seat c =
    let k = (c.in_ok-readers.ensures c.in_ok-words.words.items c.in_ok-board.ensures).0 in
    (c.in_ok-words.words.items, k.size, record { bank_is = k.bank_is; wide = k.wide; me = k.me })

made : (c : goal.After-drop-words-2) → c.new-2.result ≡ new_writer (bank_of (arc_value c.in_ok-board.board)) c.args.image.now
made c =
    let words : List ℕ = c.in_ok-words.words.items in
    let k = (c.in_ok-readers.ensures words c.in_ok-board.ensures).0 in
    let bytes = ap image_in_words c.in_ok-words.ensures ∙ for_image c.args.image.now 0 (λ i. (c.type_inv.image i).fits) c.requires.whole_words in
    c.new-2.ensures words record { bank_is = k.bank_is; wide = k.wide; me = k.me } ∙ ap (new_writer (bank_of (arc_value c.in_ok-board.board))) bytes

pub returns-clause-size : goal.returns-clause-size
returns-clause-size c =
    let words : List ℕ = c.in_ok-words.words.items in
    let k = (c.in_ok-readers.ensures words c.in_ok-board.ensures).0 in
    let l = long c.args.image.now words c.in_ok-words.ensures in
    let size = k.size in let whole = c.requires.whole_words in
    let is : 8 * ((arc_value c.in_ok-board.board).slots - 1) ≡ length c.args.image.now = omega arith in
    ap (λ (w : WriterEnd). image_bytes w.bank) (made c) ∙ is

pub returns-clause-writer : goal.returns-clause-writer
returns-clause-writer c = made c ∙ ap (λ (z : BankId). new_writer z c.args.image.now) (sym (ap (λ (w : WriterEnd). w.bank) (made c)))

pub returns-clause-readers : goal.returns-clause-readers
returns-clause-readers c =
    let words : List ℕ = c.in_ok-words.words.items in
    let six = (c.in_ok-readers.ensures words c.in_ok-board.ensures).1 in
    let bytes = ap image_in_words c.in_ok-words.ensures ∙ for_image c.args.image.now 0 (λ i. (c.type_inv.image i).fits) c.requires.whole_words in
    six ∙ (ap (six_readers (bank_of (arc_value c.in_ok-board.board))) bytes ∙ ap (λ (z : BankId). six_readers z c.args.image.now) (sym (ap (λ (w : WriterEnd). w.bank) (made c))))

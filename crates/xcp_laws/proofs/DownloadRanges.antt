-- The ranges of the downloads.
use Rattle.std.proofs.Common.{◌≡◌, ◌≢◌, ℕ, ◌-◌, ◌*◌, ◌<◌, ◌≤◌, Bool, true, false, List, [], ◌∷◌, length, min, Option, Some, None, refl, sym, ap, ◌∙◌, nat_lt, nat_le, arith, inl, inr}
use Rattle.std.specs.Prelude.{◌↔◌, ◌==◌, ◌||◌, not, if◌then◌else◌}
use Rattle.std.proofs.lemmas.Bool.Decides.{nat_tests}
use Rattle.arrayvec.specs.ArrayVec.{ArrayVec}
use Rattle.xcp_packet.specs.Rows.{first_holding, refused}
use Rattle.xcp_packet.specs.declared.Code.TheVariants.{CmdSyntax, OutOfRange, Sequence}
use Rattle.xcp_packet.specs.declared.Command.{Command}
use Rattle.xcp_packet.specs.declared.Command.TheVariants as commands
use Rattle.xcp_packet.specs.declared.Reply.{Reply}
use Rattle.xcp_packet.specs.declared.Reply.TheVariants as replies
use Rattle.xcp_memory.specs.ComputedAccess.{write_refusal}
use Rattle.xcp_memory.specs.Memory.{LiesInside, LiesProtected}
use Rattle.xcp_memory.specs.Pages.{PagesValue}
use Rattle.xcp_transfer.specs.Downloads.{greatest_download, next_row, packet_room}
use Rattle.xcp_transfer.specs.MtaAccess.{write_refusal_at}
use Rattle.xcp_transfer.specs.TransferValue.{BlockValue}
use Rattle.xcp_transfer.specs.declared.Mta.{Mta}
use Rattle.xcp_transfer.specs.declared.Mta.TheVariants.{Memory, Nowhere, Text}
use Rattle.xcp_slave.specs.Outcomes.{Answer}
use Rattle.xcp_slave.specs.Rows.{row}
use Rattle.xcp_slave.specs.SlaveInvariant.{IsSlave}
use Rattle.xcp_slave.specs.SlaveValue.{SlaveValue, layout_of}
use Rattle.xcp_slave.specs.Step.{answer_of, found_by}
use Rattle.xcp_slave.specs.declared.Outcome.TheVariants as answers
use Rattle.xcp_slave.proofs.TransferInvariantLemmas.{none-behind}
use Rattle.xcp_laws.proofs.FirstRefusals.{executes, replied}
use Rattle.xcp_laws.proofs.PositiveAnswers.{also, also-given, chained, first-refused, five, four, holds-first-reply, is, is_response_or_none, isnt, lastly, positive, taken, tests-allow, three, within}
use Rattle.xcp_laws.proofs.TransferRanges.{behind, counted, writable}
use Rattle.xcp_laws.specs.AskedCommands.{IsAsked, IsPositive, IsTaken}

-- what is sent where a block may begin or go on
done-or-none : (t : Bool) → is_response_or_none (if t then Some replies.Done else None) ≡ true
done-or-none true = refl
done-or-none false = refl

-- a write at an address is taken exactly where it may be
takes : (v : SlaveValue) (n address : ℕ) → IsSlave v → v.transfer.mta ≡ Memory address → 0 < n → (write_refusal_at v.transfer.pages v.transfer.mta n ≡ None) ↔ (LiesInside (layout_of v) address n × (LiesProtected v.transfer.pages address n → ⊥))
takes v n address good e some =
    let at : write_refusal_at v.transfer.pages v.transfer.mta n ≡ write_refusal v.transfer.pages address n = ap (λ (x : Mta). write_refusal_at v.transfer.pages x n) e in
    chained (λ k. sym at ∙ k, λ k. at ∙ k) (writable v.transfer.pages address n good.transfer.layout some)

pub download : (v w : SlaveValue) (n address : ℕ) (items : ArrayVec ℕ) (a : Answer) → IsSlave v → v.transfer.mta ≡ Memory address → IsAsked v (commands.Download n items) a w → IsTaken a ↔ (((0 < n) × (n ≤ min (8 * ((layout_of v).max_cto - 2)) 255)) × (min n ((layout_of v).max_cto - 2) ≤ length items.items) × LiesInside (layout_of v) address n × (LiesProtected v.transfer.pages address n → ⊥))
download v w n address items a good e h =
    chained (taken (commands.Download n items) v w a (done-or-none (nat_le n (packet_room (layout_of v)))) h)
    (chained (tests-allow ((n == 0 || nat_lt (greatest_download (layout_of v)) n, replies.Error OutOfRange) ∷ (nat_lt (length items.items) (min n (packet_room (layout_of v))), replies.Error CmdSyntax) ∷ refused (write_refusal_at v.transfer.pages v.transfer.mta n)))
    (chained (also-given (counted n (greatest_download (layout_of v)))
    (λ some. also (within (min n (packet_room (layout_of v))) (length items.items)) (chained (behind (write_refusal_at v.transfer.pages v.transfer.mta n)) (takes v n address good e some.0)))) four))

-- no write is taken but at an address
nowhere-taken : (m : Mta) (p : PagesValue) (n : ℕ) → ((address : ℕ) → m ≢ Memory address) → write_refusal_at p m n ≡ None → ⊥
nowhere-taken Nowhere p n f h = cc
nowhere-taken (Memory address) p n f h = f address refl
nowhere-taken (Text id place) p n f h = cc

pub download-elsewhere : (v w : SlaveValue) (n : ℕ) (items : ArrayVec ℕ) (a : Answer) → ((address : ℕ) → v.transfer.mta ≢ Memory address) → IsAsked v (commands.Download n items) a w → IsTaken a → ⊥
download-elsewhere v w n items a f h t =
    let none = (chained (taken (commands.Download n items) v w a (done-or-none (nat_le n (packet_room (layout_of v)))) h) (tests-allow ((n == 0 || nat_lt (greatest_download (layout_of v)) n, replies.Error OutOfRange) ∷ (nat_lt (length items.items) (min n (packet_room (layout_of v))), replies.Error CmdSyntax) ∷ refused (write_refusal_at v.transfer.pages v.transfer.mta n)))).0 t in
    nowhere-taken v.transfer.mta v.transfer.pages n f (none-behind _ none.1.1)

-- a positive response, or none, by what one packet holds

silent-or-not : (t : Bool) (v : SlaveValue) (a : Answer) → a ≡ answer_of (layout_of v) (if t then Some replies.Done else None) → (a ≡ answers.Silent → t ≡ false) × (IsPositive a → t ≡ true)
silent-or-not true v a e = (λ s. (let z : ◌≡◌ {A = Answer} answers.Silent (answer_of (layout_of v) (Some replies.Done)) = sym s ∙ e in cc), λ p. refl)
silent-or-not false v a e = (λ s. refl, λ p. (let z : ◌≡◌ {A = Answer} answers.Silent (answers.Packets ((0xFF ∷ p.first) ∷ p.more)) = sym e ∙ p.begins in cc))

-- a command that is done is answered by its row's reply
by-reply : (c : Command) (v w : SlaveValue) (a : Answer) → is_response_or_none (row c (found_by c v)).reply ≡ true → IsAsked v c a w → IsTaken a → a ≡ answer_of (layout_of v) (row c (found_by c v)).reply
by-reply c v w a r h t = replied c v w a ((taken c v w a r h).0 t) (executes c v w h.packet a h.connected h.spelt h.answered)

pub whole-download : (v w : SlaveValue) (n : ℕ) (items : ArrayVec ℕ) (a : Answer) → IsAsked v (commands.Download n items) a w → IsPositive a → n ≤ (layout_of v).max_cto - 2
whole-download v w n items a h p =
    let few : Bool = nat_le n (packet_room (layout_of v)) in
    let one : few ≡ true = (silent-or-not few v a (by-reply (commands.Download n items) v w a (done-or-none few) h (inl p))).1 p in
    grind (arith, nat_tests, one)

pub begins-block : (v w : SlaveValue) (n : ℕ) (items : ArrayVec ℕ) (a : Answer) → IsAsked v (commands.Download n items) a w → a ≡ answers.Silent → (layout_of v).max_cto - 2 < n
begins-block v w n items a h s =
    let few : Bool = nat_le n (packet_room (layout_of v)) in
    let one : few ≡ false = (silent-or-not few v a (by-reply (commands.Download n items) v w a (done-or-none few) h (inr s))).0 s in
    grind (arith, nat_tests, one)

-- a block

next-reply : (o : Option BlockValue) (v : SlaveValue) (remaining : ℕ) (items : List ℕ) → is_response_or_none (next_row o remaining items v.transfer).reply ≡ true
next-reply None v remaining items = refl
next-reply (Some b) v remaining items = done-or-none (nat_le remaining (packet_room (layout_of v)))

pub download-next : (v w : SlaveValue) (remaining : ℕ) (items : ArrayVec ℕ) (a : Answer) (b : BlockValue) → v.transfer.block ≡ Some b → IsAsked v (commands.DownloadNext remaining items) a w → IsTaken a ↔ ((remaining ≡ b.expected) × (min remaining ((layout_of v).max_cto - 2) ≤ length items.items))
download-next v w remaining items a b e h =
    let rows : List (Bool × Reply) = (not (remaining == b.expected), replies.ErrorCount Sequence b.expected) ∷ (nat_lt (length items.items) (min remaining (packet_room (layout_of v))), replies.Error CmdSyntax) ∷ [] in
    let at : first_holding (next_row v.transfer.block remaining items.items v.transfer).refusals ≡ first_holding rows = ap (λ (o : Option BlockValue). first_holding (next_row o remaining items.items v.transfer).refusals) e in
    chained (taken (commands.DownloadNext remaining items) v w a (next-reply v.transfer.block v remaining items.items) h)
    (chained (λ k. sym at ∙ k, λ k. at ∙ k)
    (chained (tests-allow rows) (also (is remaining b.expected) (lastly (within (min remaining (packet_room (layout_of v))) (length items.items))))))

not-true : (b : Bool) → b ≡ false → not b ≡ true
not-true true h = cc
not-true false h = refl

pub out-of-sequence : (v w : SlaveValue) (remaining : ℕ) (items : ArrayVec ℕ) (a : Answer) (b : BlockValue) → v.transfer.block ≡ Some b → remaining ≢ b.expected → IsAsked v (commands.DownloadNext remaining items) a w → a ≡ answers.Packets ((0xFE ∷ 0x29 ∷ b.expected ∷ []) ∷ [])
out-of-sequence v w remaining items a b e other h =
    first-refused (commands.DownloadNext remaining items) v w a (replies.ErrorCount Sequence b.expected)
    (ap (λ (o : Option BlockValue). first_holding (next_row o remaining items.items v.transfer).refusals) e
    ∙ holds-first-reply (not (remaining == b.expected)) (replies.ErrorCount Sequence b.expected) ((nat_lt (length items.items) (min remaining (packet_room (layout_of v))), replies.Error CmdSyntax) ∷ []) (not-true _ ((isnt remaining b.expected).1 other))) h

pub no-block : (v w : SlaveValue) (remaining : ℕ) (items : ArrayVec ℕ) (a : Answer) → v.transfer.block ≡ None → IsAsked v (commands.DownloadNext remaining items) a w → a ≡ answers.Packets ((0xFE ∷ 0x29 ∷ 0 ∷ []) ∷ [])
no-block v w remaining items a e h =
    first-refused (commands.DownloadNext remaining items) v w a (replies.ErrorCount Sequence 0)
    (ap (λ (o : Option BlockValue). first_holding (next_row o remaining items.items v.transfer).refusals) e) h

-- the others

pub download-max : (v w : SlaveValue) (address : ℕ) (items : ArrayVec ℕ) (a : Answer) → IsSlave v → v.transfer.mta ≡ Memory address → IsAsked v (commands.DownloadMax items) a w → IsPositive a ↔ (((layout_of v).max_cto - 1 ≤ length items.items) × LiesInside (layout_of v) address ((layout_of v).max_cto - 1) × (LiesProtected v.transfer.pages address ((layout_of v).max_cto - 1) → ⊥))
download-max v w address items a good e h =
    let n : ℕ = (layout_of v).max_cto - 1 in
    let least : 8 ≤ (layout_of v).max_cto = good.transfer.layout.cto_least in
    chained (positive (commands.DownloadMax items) v w a replies.Done refl refl h)
    (chained (tests-allow ((nat_lt (length items.items) n, replies.Error CmdSyntax) ∷ refused (write_refusal_at v.transfer.pages v.transfer.mta n)))
    (chained (also (within n (length items.items)) (chained (behind (write_refusal_at v.transfer.pages v.transfer.mta n)) (takes v n address good e (omega (arith, least))))) three))

pub max-elsewhere : (v w : SlaveValue) (items : ArrayVec ℕ) (a : Answer) → ((address : ℕ) → v.transfer.mta ≢ Memory address) → IsAsked v (commands.DownloadMax items) a w → IsPositive a → ⊥
max-elsewhere v w items a f h p =
    let n : ℕ = (layout_of v).max_cto - 1 in
    let none = (chained (positive (commands.DownloadMax items) v w a replies.Done refl refl h) (tests-allow ((nat_lt (length items.items) n, replies.Error CmdSyntax) ∷ refused (write_refusal_at v.transfer.pages v.transfer.mta n)))).0 p in
    nowhere-taken v.transfer.mta v.transfer.pages n f (none-behind _ none.1)

pub short-download : (v w : SlaveValue) (n extension address : ℕ) (items : ArrayVec ℕ) (a : Answer) → IsSlave v → IsAsked v (commands.ShortDownload n extension address items) a w → IsPositive a ↔ (((0 < n) × (n ≤ (layout_of v).max_cto - 8)) × (extension ≡ 0) × (n ≤ length items.items) × LiesInside (layout_of v) address n × (LiesProtected v.transfer.pages address n → ⊥))
short-download v w n extension address items a good h =
    chained (positive (commands.ShortDownload n extension address items) v w a replies.Done refl refl h)
    (chained (tests-allow ((n == 0 || nat_lt ((layout_of v).max_cto - 8) n, replies.Error OutOfRange) ∷ (not (extension == 0), replies.Error OutOfRange) ∷ (nat_lt (length items.items) n, replies.Error CmdSyntax) ∷ refused (write_refusal_at v.transfer.pages (Memory address) n)))
    (chained (also-given (counted n ((layout_of v).max_cto - 8))
    (λ some. also (is extension 0) (also (within n (length items.items)) (chained (behind (write_refusal_at v.transfer.pages (Memory address) n)) (writable v.transfer.pages address n good.transfer.layout some.0))))) five))

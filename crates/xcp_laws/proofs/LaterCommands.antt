-- The ranges of the commands that a layout asks for, and what GET_VERSION tells.
use Rattle.std.proofs.Common.{◌≡◌, ◌≢◌, ◌<◌, ◌≤◌, ℕ, ◌+◌, Bool, true, false, List, [], ◌∷◌, ◌++◌, length, slice_index, Option, Some, None, refl, ap, ◌∙◌, arith, nat_lt}
use Rattle.std.specs.Prelude.{◌↔◌, ◌==◌, ◌*◌, not}
use Rattle.std.proofs.lemmas.Bool.Decides.{nat_tests}
use Rattle.arrayvec.specs.ArrayVec.{ArrayVec}
use Rattle.xcp_packet.specs.Rows.{first_holding, refused}
use Rattle.xcp_packet.specs.declared.Code.{Code}
use Rattle.xcp_packet.specs.declared.Code.TheVariants.{CmdSyntax, CmdUnknown, OutOfRange}
use Rattle.xcp_packet.specs.declared.Command.TheVariants as commands
use Rattle.xcp_packet.specs.declared.Reply.{Reply}
use Rattle.xcp_packet.specs.declared.Reply.TheVariants as replies
use Rattle.xcp_daq.specs.Configuring.{multiple, multiple_rows, refused_in}
use Rattle.xcp_slave.specs.AcceptedCommands.{Accepts}
use Rattle.xcp_slave.specs.Outcomes.{Answer}
use Rattle.xcp_slave.specs.Rows.{row}
use Rattle.xcp_slave.specs.SlaveValue.{SlaveValue, layout_of, noblock}
use Rattle.xcp_slave.specs.declared.Outcome.TheVariants as answers
use Rattle.xcp_slave.proofs.AcceptedCommandLaws.{accepted}
use Rattle.xcp_slave.proofs.ListInvariantLemmas.{NoneHolds, at_most, is_true}
use Rattle.xcp_laws.proofs.ListRanges.{holds}
use Rattle.xcp_laws.proofs.PositiveAnswers.{also, chained, codes-allow, first-refused, holds-first, is, isnt-not, lastly, not-false, past, positive, some, three}
use Rattle.xcp_laws.proofs.ToldValues.{bytes-told}
use Rattle.xcp_laws.specs.AskedCommands.{IsAsked, IsPositive}

-- a test and codes behind it refuse nothing
keyed-allow : (t : Bool) (e : Reply) (rows : List (Bool × Code)) → (first_holding ((t, e) ∷ refused (first_holding rows)) ≡ None) ↔ ((t ≡ false) × NoneHolds rows)
keyed-allow true e rows = (λ h. absurd (let z : ◌≡◌ {A = Option Reply} (Some e) None = h in cc), λ p. absurd (let z : true ≡ false = p.0 in cc))
keyed-allow false e rows = (λ h. (refl, (codes-allow rows).0 h), λ p. (codes-allow rows).1 p.1)

-- GET_VERSION

-- its tests behind that of whether the layout asks for it
abbrev version_tests : ArrayVec ℕ → List (Bool × Code)
version_tests items = (length items.items == 0, CmdSyntax) ∷ (not (slice_index items.items 0 == 0), CmdUnknown) ∷ []

pub get-version : (v w : SlaveValue) (items : ArrayVec ℕ) (a : Answer) → IsAsked v (commands.GetVersion items) a w → IsPositive a ↔ (((layout_of v).extras.uploads_a2l ≡ true) × (0 < length items.items) × (slice_index items.items 0 ≡ 0))
get-version v w items a h =
    let asks : Bool = (layout_of v).extras.uploads_a2l in
    chained (positive (commands.GetVersion items) v w a replies.Version refl refl h)
    (chained (keyed-allow (not asks) (replies.Error CmdUnknown) (version_tests items))
    (chained (also (holds asks) (also (some (length items.items)) (lastly (is (slice_index items.items 0) 0)))) three))

version-by : (v : SlaveValue) (items : ArrayVec ℕ) → (layout_of v).extras.uploads_a2l ≡ true → first_holding (row (commands.GetVersion items) (noblock v)).refusals ≡ first_holding (refused (first_holding (version_tests items)))
version-by v items on = past (not (layout_of v).extras.uploads_a2l) (replies.Error CmdUnknown) (refused (first_holding (version_tests items))) (not-false (layout_of v).extras.uploads_a2l on)

pub no-version : (v w : SlaveValue) (items : ArrayVec ℕ) (a : Answer) → (layout_of v).extras.uploads_a2l ≡ true → items.items ≡ [] → IsAsked v (commands.GetVersion items) a w → a ≡ answers.Packets ((0xFE ∷ 0x21 ∷ []) ∷ [])
no-version v w items a on none h =
    first-refused (commands.GetVersion items) v w a (replies.Error CmdSyntax)
    (version-by v items on ∙ holds-first (length items.items == 0) CmdSyntax ((not (slice_index items.items 0 == 0), CmdUnknown) ∷ []) (ap (λ (xs : List ℕ). length xs == 0) none)) h

second-unknown : (s t : Bool) → s ≡ false → t ≡ true → first_holding (refused (first_holding ((s, CmdSyntax) ∷ (t, CmdUnknown) ∷ []))) ≡ Some (replies.Error CmdUnknown)
second-unknown true t e f = cc
second-unknown false true e f = refl
second-unknown false false e f = cc

pub other-version : (v w : SlaveValue) (items : ArrayVec ℕ) (a : Answer) → (layout_of v).extras.uploads_a2l ≡ true → 0 < length items.items → slice_index items.items 0 ≢ 0 → IsAsked v (commands.GetVersion items) a w → a ≡ answers.Packets ((0xFE ∷ 0x20 ∷ []) ∷ [])
other-version v w items a on one other h =
    first-refused (commands.GetVersion items) v w a (replies.Error CmdUnknown)
    (version-by v items on ∙ second-unknown (length items.items == 0) (not (slice_index items.items 0 == 0)) ((some (length items.items)).1 one) ((isnt-not (slice_index items.items 0) 0).1 other)) h

pub version-told : (v w : SlaveValue) (items : ArrayVec ℕ) (bytes : List ℕ) → Accepts v (commands.GetVersion items) bytes w → (bytes ≡ 0x00 ∷ 1 ∷ 4 ∷ 1 ∷ 4 ∷ []) × (w ≡ noblock v)
version-told v w items bytes h = (bytes-told (commands.GetVersion items) v bytes w h, (accepted (commands.GetVersion items) v bytes w h).after)

-- WRITE_DAQ_MULTIPLE

-- its tests behind that
abbrev multiple_tests : SlaveValue → List ℕ → List (Bool × Code)
multiple_tests v bytes = multiple_rows bytes ++ refused_in (multiple (layout_of v) bytes v.daq)

multiple-by : (v : SlaveValue) (items : ArrayVec ℕ) → (layout_of v).extras.uploads_a2l ≡ true → first_holding (row (commands.WriteDaqMultiple items) (noblock v)).refusals ≡ first_holding (refused (first_holding (multiple_tests v items.items)))
multiple-by v items on = past (not (layout_of v).extras.uploads_a2l) (replies.Error CmdUnknown) (refused (first_holding (multiple_tests v items.items))) (not-false (layout_of v).extras.uploads_a2l on)

pub multiple-needs : (v w : SlaveValue) (items : ArrayVec ℕ) (a : Answer) → IsAsked v (commands.WriteDaqMultiple items) a w → IsPositive a → ((layout_of v).extras.uploads_a2l ≡ true) × (0 < slice_index items.items 0) × (1 + 8 * slice_index items.items 0 ≤ length items.items)
multiple-needs v w items a h p =
    let none = (positive (commands.WriteDaqMultiple items) v w a replies.Done refl refl h).0 p in
    let passed = (keyed-allow (not (layout_of v).extras.uploads_a2l) (replies.Error CmdUnknown) (multiple_tests v items.items)).0 none in
    (is_true (layout_of v).extras.uploads_a2l passed.0, (some (slice_index items.items 0)).0 passed.1.1.1.0, at_most (1 + 8 * slice_index items.items 0) (length items.items) passed.1.1.0)

first-syntax : (s t : Bool) (rows : List (Bool × Code)) → t ≡ true → first_holding (refused (first_holding ((s, CmdSyntax) ∷ (t, CmdSyntax) ∷ rows))) ≡ Some (replies.Error CmdSyntax)
first-syntax true t rows e = refl
first-syntax false true rows e = refl
first-syntax false false rows e = cc

pub multiple-short : (v w : SlaveValue) (items : ArrayVec ℕ) (a : Answer) → (layout_of v).extras.uploads_a2l ≡ true → length items.items < 1 + 8 * slice_index items.items 0 → IsAsked v (commands.WriteDaqMultiple items) a w → a ≡ answers.Packets ((0xFE ∷ 0x21 ∷ []) ∷ [])
multiple-short v w items a on few h =
    first-refused (commands.WriteDaqMultiple items) v w a (replies.Error CmdSyntax)
    (multiple-by v items on ∙ first-syntax (length items.items == 0) (nat_lt (length items.items) (1 + 8 * slice_index items.items 0)) ((slice_index items.items 0 == 0, OutOfRange) ∷ refused_in (multiple (layout_of v) items.items v.daq)) (grind (arith, nat_tests, few))) h

third-range : (s t u : Bool) (rows : List (Bool × Code)) → s ≡ false → t ≡ false → u ≡ true → first_holding (refused (first_holding ((s, CmdSyntax) ∷ (t, CmdSyntax) ∷ (u, OutOfRange) ∷ rows))) ≡ Some (replies.Error OutOfRange)
third-range true t u rows e f g = cc
third-range false true u rows e f g = cc
third-range false false true rows e f g = refl
third-range false false false rows e f g = cc

pub multiple-of-none : (v w : SlaveValue) (items : ArrayVec ℕ) (a : Answer) → (layout_of v).extras.uploads_a2l ≡ true → 0 < length items.items → slice_index items.items 0 ≡ 0 → IsAsked v (commands.WriteDaqMultiple items) a w → a ≡ answers.Packets ((0xFE ∷ 0x22 ∷ []) ∷ [])
multiple-of-none v w items a on one none h =
    let n : ℕ = slice_index items.items 0 in
    first-refused (commands.WriteDaqMultiple items) v w a (replies.Error OutOfRange)
    (multiple-by v items on
    ∙ third-range (length items.items == 0) (nat_lt (length items.items) (1 + 8 * n)) (n == 0) (refused_in (multiple (layout_of v) items.items v.daq))
    ((some (length items.items)).1 one) (grind (arith, nat_tests, one, none)) (grind (arith, nat_tests, none))) h

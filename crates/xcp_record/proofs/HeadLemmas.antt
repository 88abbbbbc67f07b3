-- The head of a file, with a roster or without.
use Rattle.std.proofs.Common.{◌≡◌, ◌≤◌, ◌<◌, ℕ, List, [], ◌∷◌, ◌++◌, length, take, drop, refl, sym, ap, ◌∙◌, arith, append_assoc, append-nil, length-append, take-append-drop}
use Rattle.std.specs.Prelude.{Option, Some, None, slice_index}
use Rattle.std.proofs.lemmas.List.{take-append-le}
use mathlib.Core.List.{IsPrefix}
use Rattle.xcp_record.specs.declared.roster.Roster.{Roster}
use Rattle.xcp_record.specs.FileFormat.{head, journal_magic, roster_bytes}
use Rattle.xcp_record.proofs.TapeLemmas.{append_same}

-- what stands before the layout's digest, and behind it
abbrev version : Option Roster → ℕ
version None = 1
version (Some r) = 2

abbrev last : Option Roster → List ℕ
last None = []
last (Some r) = roster_bytes r

-- a head has 38 bytes, and 42 with a roster
pub head_least : (roster : Option Roster) (layout : List ℕ) → length layout ≡ 32 → 38 ≤ length (head roster layout)
unfolding head
head_least None layout is = let a = length-append (journal_magic 1) layout in omega (arith, a, is)
head_least (Some r) layout is = let a = length-append (journal_magic 2) layout in let b = length-append (journal_magic 2 ++ layout) (roster_bytes r) in omega (arith, a, b, is)

roster_length : (r : Roster) → length (roster_bytes r) ≡ 4
roster_length r = refl

head_most : (r : Roster) (layout : List ℕ) → length layout ≡ 32 → length (head (Some r) layout) ≡ 42
unfolding head
head_most r layout is =
    let a = length-append (journal_magic 2) layout in
    let b = length-append (journal_magic 2 ++ layout) (roster_bytes r) in
    let c = roster_length r in
    omega (arith, a, b, c, is)

-- its parts
head_joined : (roster : Option Roster) (layout more : List ℕ) → head roster layout ++ more ≡ journal_magic (version roster) ++ (layout ++ (last roster ++ more))
unfolding head
head_joined None layout more = refl
head_joined (Some r) layout more = ap (λ b. journal_magic 2 ++ b) (append_assoc layout (roster_bytes r) more)

-- the magic of version 2, the layout and a roster's bytes, one behind another, are the head with this roster
pub head_parts : (r : Roster) (layout : List ℕ) → (journal_magic 2 ++ layout) ++ roster_bytes r ≡ head (Some r) layout
unfolding head
head_parts r layout = refl

abbrev roster_in : List ℕ → Roster
roster_in bytes = record { tools = slice_index bytes 0; tasks = slice_index bytes 1; pumps = slice_index bytes 2; clocks = slice_index bytes 3 }

same_roster : (r q : Option Roster) (x y : List ℕ) → version r ≡ version q → last r ++ x ≡ last q ++ y → r ≡ q
same_roster None None x y e h = refl
same_roster None (Some q) x y e h = absurd (omega (arith, e))
same_roster (Some r) None x y e h = absurd (omega (arith, e))
same_roster (Some r) (Some q) x y e h = ap (λ bytes. Some (roster_in bytes)) h

-- bytes begin with one head alone
pub same_head : (r q : Option Roster) (a b x y : List ℕ) → length a ≡ 32 → length b ≡ 32 → head r a ++ x ≡ head q b ++ y → (a ≡ b) × (r ≡ q)
same_head r q a b x y is_a is_b h =
    let one = append_same (journal_magic (version r)) (journal_magic (version q)) _ _ refl (sym (head_joined r a x) ∙ h ∙ head_joined q b y) in
    let two = append_same a b _ _ (is_a ∙ sym is_b) one.1 in
    (two.0, same_roster r q x y (ap (λ bytes. slice_index bytes 4) one.0) two.1)

-- bytes that begin with the magic of version 1 are a head without a roster
pub first_head : (bytes : List ℕ) → take 6 bytes ≡ journal_magic 1 → bytes ++ [] ≡ head None (drop 6 bytes)
unfolding head
first_head bytes h = append-nil bytes ∙ sym (take-append-drop 6 bytes) ∙ ap (λ b. b ++ drop 6 bytes) h

-- those of version 2, with a roster behind them, are one with it
pub second_head : (bytes behind : List ℕ) (r : Roster) → take 6 bytes ≡ journal_magic 2 → behind ≡ roster_bytes r → bytes ++ behind ≡ head (Some r) (drop 6 bytes)
second_head bytes behind r h is =
    ap (λ b. bytes ++ b) is ∙ ap (λ b. b ++ roster_bytes r) (sym (take-append-drop 6 bytes) ∙ ap (λ b. b ++ drop 6 bytes) h) ∙ head_parts r (drop 6 bytes)

-- four bytes are a roster
pub four_are : (bytes : List ℕ) → length bytes ≡ 4 → bytes ≡ roster_bytes (roster_in bytes)
four_are [] is = absurd (omega (arith, is))
four_are (a ∷ []) is = absurd (omega (arith, is))
four_are (a ∷ b ∷ []) is = absurd (omega (arith, is))
four_are (a ∷ b ∷ c ∷ []) is = absurd (omega (arith, is))
four_are (a ∷ b ∷ c ∷ d ∷ []) is = refl
four_are (a ∷ b ∷ c ∷ d ∷ e ∷ more) is = absurd (omega (arith, is))

-- fewer bytes than a head has are none
pub short_head : (bytes more : List ℕ) (roster : Option Roster) (layout : List ℕ) → length bytes < 38 → length layout ≡ 32 → more ≡ [] → IsPrefix (head roster layout) (bytes ++ more) → ⊥
short_head bytes more roster layout short is none front =
    let a = ap length front.1 in
    let b = length-append (head roster layout) front.0 in
    let c = length-append bytes more in
    let d = ap length none in
    let e = head_least roster layout is in
    absurd (omega (arith, a, b, c, d, e, short))

-- bytes with a head at their head begin with the magic of its version
magic_is : (bytes more : List ℕ) (roster : Option Roster) (layout : List ℕ) → 6 ≤ length bytes → IsPrefix (head roster layout) (bytes ++ more) → take 6 bytes ≡ journal_magic (version roster)
magic_is bytes more roster layout long front =
    sym (take-append-le 6 bytes more long) ∙ ap (take 6) (sym front.1 ∙ head_joined roster layout front.0)

-- others have none
pub other_magic : (bytes more : List ℕ) (roster : Option Roster) (layout : List ℕ) → 6 ≤ length bytes → (take 6 bytes ≡ journal_magic 1 → ⊥) → (take 6 bytes ≡ journal_magic 2 → ⊥) → IsPrefix (head roster layout) (bytes ++ more) → ⊥
other_magic bytes more None layout long first second front = first (magic_is bytes more None layout long front)
other_magic bytes more (Some r) layout long first second front = second (magic_is bytes more (Some r) layout long front)

-- nor have those whose roster isn't whole
pub short_roster : (bytes behind more : List ℕ) (roster : Option Roster) (layout : List ℕ) → length bytes ≡ 38 → take 6 bytes ≡ journal_magic 2 → length behind < 4 → length layout ≡ 32 → more ≡ []
    → IsPrefix (head roster layout) ((bytes ++ behind) ++ more) → ⊥
short_roster bytes behind more None layout size second short is none front =
    let joined = append_assoc bytes behind more in
    let e = ap (λ b. slice_index b 4) (sym second ∙ magic_is bytes (behind ++ more) None layout (omega (arith, size)) (front.0, front.1 ∙ joined)) in
    absurd (omega (arith, e))
short_roster bytes behind more (Some r) layout size second short is none front =
    let a = ap length front.1 in
    let b = length-append (head (Some r) layout) front.0 in
    let c = length-append (bytes ++ behind) more in
    let d = length-append bytes behind in
    let e = ap length none in
    let f = head_most r layout is in
    absurd (omega (arith, a, b, c, d, e, f, size, short))

-- Calls that are read one by one.
use Rattle.std.proofs.Common.{◌≡◌, ◌≤◌, ◌<◌, ℕ, ◌+◌, ◌*◌, List, [], ◌∷◌, ◌++◌, length, refl, sym, ap, ◌∙◌, arith, append_assoc, append-nil, length-append}
use Rattle.xcp_trace.specs.declared.Entry.{Entry}
use Rattle.xcp_trace.specs.EntryBytes.{BeginWithEntry}
use Rattle.xcp_trace.specs.EntrySpelling.{IsEntryString, entry_in}
use Rattle.xcp_trace.specs.Tape.{framed, spelt}
use Rattle.xcp_record.specs.private.Calls.{SpellsCalls, Walks}
use Rattle.xcp_record.proofs.TapeLemmas.{all_more, framed_same, framed_some, spelt_more}

-- of bytes that are strings the first one stands at their head
pub first_is : (bytes more s : List ℕ) (strings : List (List ℕ)) → SpellsCalls bytes strings → bytes ≡ framed s ++ more → (later : List (List ℕ)) × (strings ≡ s ∷ later) × SpellsCalls more later
first_is bytes more s [] spells h = absurd (framed_some s more (sym h ∙ sym spells.whole))
first_is bytes more s (t ∷ later) spells h =
    let both = framed_same t s (spelt later) more (spells.whole ∙ h) in
    (later, ap (λ x. x ∷ later) both.0, record { whole = both.1; each = spells.each.1 })

-- bytes that are strings, and more than none, have a first one
pub some_first : (bytes : List ℕ) (strings : List (List ℕ)) → SpellsCalls bytes strings → 0 < length bytes
    → ((call : Entry) (more : List ℕ) → BeginWithEntry bytes call more → ⊥) → ⊥
some_first bytes [] spells some none = let e = ap length spells.whole in absurd (omega (arith, e, some))
some_first bytes (t ∷ later) spells some none = none (entry_in t) (spelt later) (record { string = t; is = spells.each.0; joined = sym spells.whole; spells = refl })

-- the strings of bytes begin with those that were passed over, and go on with those of what is left
pub goes_on : (bytes left : List ℕ) (done strings : List (List ℕ)) → SpellsCalls bytes strings → bytes ≡ spelt done ++ left → (later : List (List ℕ)) × (strings ≡ done ++ later) × SpellsCalls left later
goes_on bytes left [] strings spells h = (strings, refl, record { whole = spells.whole ∙ h; each = spells.each })
goes_on bytes left (s ∷ done) strings spells h =
    let first = first_is bytes (spelt done ++ left) s strings spells (h ∙ append_assoc (framed s) (spelt done) left) in
    let more = goes_on (spelt done ++ left) left done first.0 first.2 refl in
    (more.0, first.1 ∙ ap (λ xs. s ∷ xs) more.1, more.2)

-- nothing is passed over yet
abbrev pub walks_none : (bytes : List ℕ) → Walks bytes bytes 0
walks_none bytes = record { done = []; each = tt; joined = refl; number = refl }

-- one more string is passed over
abbrev pub walks_more : (bytes left more : List ℕ) (n : ℕ) (call : Entry) → Walks bytes left n → (next : BeginWithEntry left call more) → Walks bytes more (n + 1)
walks_more bytes left more n call w next =
    let s = next.string in record {
      done = w.done ++ s ∷ [];
      each = all_more IsEntryString w.done s w.each next.is;
      joined = w.joined ∙ ap (λ b. spelt w.done ++ b) next.joined ∙ sym (append_assoc (spelt w.done) (framed s) more) ∙ ap (λ b. b ++ more) (sym (spelt_more w.done s));
      number = length-append w.done (s ∷ []) ∙ ap (λ k. k + 1) w.number;
    }

-- each string takes two bytes
pub at_least : (strings : List (List ℕ)) → 2 * length strings ≤ length (spelt strings)
at_least [] = omega arith
at_least (s ∷ strings) = let h = at_least strings in let e = length-append s (spelt strings) in omega (arith, h, e)

-- the bytes are at least two for each string that was passed over
pub walks_short : (bytes left : List ℕ) (n : ℕ) → Walks bytes left n → 2 * n ≤ length bytes
walks_short bytes left n w =
    let a = at_least w.done in
    let b = ap length w.joined in
    let c = length-append (spelt w.done) left in
    let d = w.number in
    omega (arith, a, b, c, d)

-- all bytes are passed over
pub walks_all : (bytes left : List ℕ) (n : ℕ) (w : Walks bytes left n) → left ≡ [] → SpellsCalls bytes w.done
walks_all bytes left n w none = record { whole = sym (w.joined ∙ ap (λ b. spelt w.done ++ b) none ∙ append-nil (spelt w.done)); each = w.each }

-- where no string of a call stands at the head of what is left, the bytes are no calls
pub walks_on : (bytes left : List ℕ) (n : ℕ) → Walks bytes left n → 0 < length left → ((call : Entry) (more : List ℕ) → BeginWithEntry left call more → ⊥)
    → (strings : List (List ℕ)) → SpellsCalls bytes strings → ⊥
walks_on bytes left n w some none strings spells = let later = goes_on bytes left w.done strings spells w.joined in some_first left later.0 later.2 some none

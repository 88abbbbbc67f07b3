-- `C HEX`, cut at its first space, and the value of C.
use Rattle.std.proofs.Common.{◌≡◌, ◌<◌, ◌≤◌, ◌+◌, ◌-◌, ◌*◌, ℕ, Bool, true, false, cond, List, [], ◌∷◌, length, take, drop, slice_index, add-one, drop-cons, position, Option, Some, None, refl, sym, arith}
use Rattle.std.specs.List.{position_or_len}
use Rattle.std.specs.Str.Parse.{digits_value, digits_value_after}
use Rattle.std.specs.Char.{digit_value, is_ascii_digit}
use Rattle.std.proofs.lemmas.List.{drop_all}
use Rattle.std.proofs.lemmas.Bool.Decides.{nat_tests}
use Rattle.xcp_script.specs.declared.line.Line.TheVariants.{Faulty}
use Rattle.xcp_script.specs.ScriptLine.{event_of, event_with, channel_of, hex_bytes, is_space, signals_of, signals_with, time_of}

found : (b : Bool) (n i : ℕ) → Some i ≡ cond b (Some n) None → i ≡ n
found true n i h = cc
found false n i h = absurd (cc)

lost : (b : Bool) (n : ℕ) → None ≡ cond b (Some n) None → b ≡ false
lost true n h = absurd (cc)
lost false n h = refl

-- no event without signals, and none without a channel
pub no_signals : (channel : Option ℕ) → event_with channel None ≡ Faulty
no_signals None = refl
no_signals (Some n) = refl

-- no digits at all are no signals of an event
pub no_hex : hex_bytes 64 [] ≡ None
unfolding hex_bytes
no_hex = refl

-- an event's text without a space is faulty
pub no_space : (text : List ℕ) → None ≡ position is_space text → Faulty ≡ event_of text
no_space text h =
    let far : length text ≤ position_or_len is_space text + 1 = grind (arith, nat_tests, lost _ _ h) in
    sym (rw (drop_all (position_or_len is_space text + 1) text far, no_hex) (no_signals _))

-- nor are signals that are handed over by themselves without any, or without a place
no_part : (place : Option ℕ) → signals_with place None ≡ Faulty
no_part None = refl
no_part (Some n) = refl

no_part_hex : hex_bytes 255 [] ≡ None
unfolding hex_bytes
no_part_hex = refl

-- signals that are handed over by themselves are faulty without a space
pub no_space_behind : (text : List ℕ) → None ≡ position is_space text → Faulty ≡ signals_of text
no_space_behind text h =
    let far : length text ≤ position_or_len is_space text + 1 = grind (arith, nat_tests, lost _ _ h) in
    sym (rw (drop_all (position_or_len is_space text + 1) text far, no_part_hex) (no_part _))

-- and they are cut at the first space
pub cut_behind : (text : List ℕ) (i : ℕ) → Some i ≡ position is_space text → signals_of text ≡ signals_with (channel_of (take i text)) (hex_bytes 255 (drop (i + 1) text))
cut_behind text i h = rw (found _ _ _ h) refl

-- an event's text is cut at its first space: the channel stands before it, the signals' digits behind it
pub cut_at : (text : List ℕ) (i : ℕ) → Some i ≡ position is_space text → event_of text ≡ event_with (channel_of (take i text)) (hex_bytes 64 (drop (i + 1) text))
cut_at text i h = rw (found _ _ _ h) refl

-- the value of digits is never below that of the first of them
pub value_grows : (n : ℕ) (digits : List ℕ) → n ≤ digits_value_after 10 n digits
value_grows n [] = omega arith
value_grows n (d ∷ ds) = omega (arith, value_grows (n * 10 + digit_value d) ds)

-- a value above 65,535 is no channel's
pub too_great : (digits : List ℕ) → 65535 < digits_value 10 digits → None ≡ channel_of digits
unfolding channel_of
too_great digits h = grind (arith, nat_tests)

-- the value of a decimal digit is its code in ASCII less 48
pub value_of_digit : (d : ℕ) → is_ascii_digit d ≡ true → digit_value d ≡ d - 48
value_of_digit d h = grind (arith, nat_tests)

next : (i : ℕ) (digits : List ℕ) → i < length digits → drop i digits ≡ slice_index digits i ∷ drop (i + 1) digits
next i digits within = rw (add-one, drop-cons digits i 0 within) refl

-- digits are no channel's where the value of the first ones with the next digit is above 65,535
pub too_great_at : (value i : ℕ) (digits : List ℕ) → i < length digits → is_ascii_digit (slice_index digits i) ≡ true
    → digits_value_after 10 value (drop i digits) ≡ digits_value 10 digits
    → 65535 < value * 10 + (slice_index digits i - 48) → None ≡ channel_of digits
too_great_at value i digits within digit h k =
    let d : ℕ = slice_index digits i in
    let later : digits_value_after 10 (value * 10 + digit_value d) (drop (i + 1) digits) ≡ digits_value 10 digits = rw (next i digits within) at h in
    let grown : value * 10 + digit_value d ≤ digits_value_after 10 (value * 10 + digit_value d) (drop (i + 1) digits) = value_grows (value * 10 + digit_value d) (drop (i + 1) digits) in
    too_great digits (omega (arith, later, grown, k, value_of_digit d digit))

-- a value of 2^64 or more is no time's
pub too_late : (digits : List ℕ) → 0xFFFF_FFFF_FFFF_FFFF < digits_value 10 digits → None ≡ time_of digits
unfolding time_of
too_late digits h = grind (arith, nat_tests)

-- nor are digits a time's where the value of the first ones with the next digit is so great
pub too_late_at : (value i : ℕ) (digits : List ℕ) → i < length digits → is_ascii_digit (slice_index digits i) ≡ true
    → digits_value_after 10 value (drop i digits) ≡ digits_value 10 digits
    → 0xFFFF_FFFF_FFFF_FFFF < value * 10 + (slice_index digits i - 48) → None ≡ time_of digits
too_late_at value i digits within digit h k =
    let d : ℕ = slice_index digits i in
    let later : digits_value_after 10 (value * 10 + digit_value d) (drop (i + 1) digits) ≡ digits_value 10 digits = rw (next i digits within) at h in
    let grown : value * 10 + digit_value d ≤ digits_value_after 10 (value * 10 + digit_value d) (drop (i + 1) digits) = value_grows (value * 10 + digit_value d) (drop (i + 1) digits) in
    too_late digits (omega (arith, later, grown, k, value_of_digit d digit))

-- Digits that are read in pairs.
use Rattle.std.proofs.Common.{◌≡◌, ◌<◌, ◌≤◌, ℕ, suc, ◌+◌, ◌*◌, ◌/◌, ◌%◌, Bool, true, false, cond, List, [], ◌∷◌, ◌++◌, length, drop, refl, sym, ap, ◌∙◌, arith, Option, Some, None, Result, Ok, Err, append_assoc, drop-cons, ◌⊎◌, inl, inr}
use Rattle.std.specs.Prelude.{slice_index, unwrap_or, is_some, filter, not, map, ◌==◌, ◌||◌, if◌then◌else◌}
use Rattle.std.specs.List.{list_any, range_with_len}
use Rattle.std.proofs.lemmas.List.{append-nil, drop_all}
use Rattle.std.proofs.lemmas.List.FromFn.{get_or-map-range_with_len}
use Rattle.arrayvec.specs.ArrayVec.{ArrayVec}
use Rattle.hex.specs.Hex.{decode_pairs, digit_or_error, hex_digit_value, upper_digits, ◌>>=◌}
use Rattle.hex.specs.declared.error.FromHexError.{FromHexError}
use Rattle.xcp_script.specs.private.HexDigits.{value_or}
use Rattle.xcp_script.specs.declared.line.Line.{Line}
use Rattle.xcp_script.specs.declared.line.Line.TheVariants.{Faulty}
use Rattle.xcp_script.specs.declared.slot.Parsed.{Parsed}
use Rattle.xcp_script.specs.declared.slot.Parsed.TheVariants as parseds
use Rattle.xcp_script.specs.private.LineInSlot.{line_in}
use Rattle.xcp_script.specs.ScriptLine.{bytes_if_ok, command_of, command_with, hex_bytes, is_space}

-- the table of all 256 bytes tells of each its value as a hex digit, and 256 where it is none
pub in_table : (digit : ℕ) → digit < 256 → slice_index (map value_or (range_with_len 0 256)) digit ≡ value_or digit
in_table digit h = get_or-map-range_with_len value_or 0 256 digit digit 0 h (omega arith)

-- no such value is greater
pub is_bounded : (digit : ℕ) → value_or digit ≤ 256
is_bounded digit = grind arith

-- the digit at an index of the table of the two digits of all bytes
abbrev digit_at : ℕ → ℕ
digit_at i = slice_index upper_digits (if i % 2 == 0 then i / 32 else i / 2 % 16)

at_even : (b : ℕ) → digit_at (2 * b) ≡ slice_index upper_digits (b / 16)
at_even b =
    let e : (2 * b) % 2 == 0 ≡ true = grind arith in
    let f : (2 * b) / 32 ≡ b / 16 = omega arith in
    rw (e, f) refl

at_odd : (b : ℕ) → digit_at (2 * b + 1) ≡ slice_index upper_digits (b % 16)
at_odd b =
    let e : (2 * b + 1) % 2 == 0 ≡ false = grind arith in
    let f : (2 * b + 1) / 2 ≡ b = omega arith in
    rw (e, f) refl

-- that table has the first digit of each byte, and the second behind it
pub high_in_table : (b : ℕ) → b < 256 → slice_index (map digit_at (range_with_len 0 512)) (2 * b) ≡ slice_index upper_digits (b / 16)
high_in_table b h = get_or-map-range_with_len digit_at 0 512 (2 * b) (2 * b) 0 (omega (arith, h)) (omega arith) ∙ at_even b

-- the second digit of a byte stands in that table at the odd index, right behind the first
pub low_in_table : (b : ℕ) → b < 256 → slice_index (map digit_at (range_with_len 0 512)) (2 * b + 1) ≡ slice_index upper_digits (b % 16)
low_in_table b h = get_or-map-range_with_len digit_at 0 512 (2 * b + 1) (2 * b + 1) 0 (omega (arith, h)) (omega arith) ∙ at_odd b

-- bytes, and others behind them
abbrev pub behind : List ℕ → Option (List ℕ) → Option (List ℕ)
behind front None = None
behind front (Some bytes) = Some (front ++ bytes)

-- what two digits say, if both are digits, and what is behind them
abbrev pair_of : Option ℕ → Option ℕ → Option (List ℕ) → Option (List ℕ)
pair_of (Some h) (Some l) rest = behind ((h * 16 + l) ∷ []) rest
pair_of (Some h) None rest = None
pair_of None l rest = None

opened : (c i d j : ℕ) (o p : Option ℕ) (r : Result (List ℕ) FromHexError)
    → bytes_if_ok ((digit_or_error c i o >>= (λ h. digit_or_error d j p >>= (λ l. Ok (h * 16 + l)))) >>= (λ byte. r >>= (λ bytes. Ok (byte ∷ bytes)))) ≡ pair_of o p (bytes_if_ok r)
opened c i d j None p r = refl
opened c i d j (Some h) None r = refl
opened c i d j (Some h) (Some l) (Ok bytes) = refl
opened c i d j (Some h) (Some l) (Err e) = refl

pairs_are : (i h l : ℕ) (rest : List ℕ) → bytes_if_ok (decode_pairs i (h ∷ l ∷ rest)) ≡ pair_of (hex_digit_value h) (hex_digit_value l) (bytes_if_ok (decode_pairs (i + 2) rest))
unfolding decode_pairs
pairs_are i h l rest = opened h i l (i + 1) (hex_digit_value h) (hex_digit_value l) (decode_pairs (i + 2) rest)

-- where the digits stand doesn't matter
anywhere : (i j : ℕ) (digits : List ℕ) → bytes_if_ok (decode_pairs i digits) ≡ bytes_if_ok (decode_pairs j digits)
unfolding decode_pairs
anywhere i j [] = refl
anywhere i j (digit ∷ []) = refl
anywhere i j (h ∷ l ∷ rest) =
    pairs_are i h l rest ∙ ap (λ (r : Option (List ℕ)). pair_of (hex_digit_value h) (hex_digit_value l) r) (anywhere (i + 2) (j + 2) rest) ∙ sym (pairs_are j h l rest)

-- what digits say from the first on
abbrev pub said : List ℕ → Option (List ℕ)
said digits = bytes_if_ok (decode_pairs 0 digits)

said_pair : (h l : ℕ) (rest : List ℕ) → said (h ∷ l ∷ rest) ≡ pair_of (hex_digit_value h) (hex_digit_value l) (said rest)
said_pair h l rest = pairs_are 0 h l rest ∙ ap (λ (r : Option (List ℕ)). pair_of (hex_digit_value h) (hex_digit_value l) r) (anywhere 2 0 rest)

is_some_value : (o : Option ℕ) → unwrap_or o 256 ≤ 15 → o ≡ Some (unwrap_or o 256)
is_some_value None h = absurd (omega (arith, h))
is_some_value (Some n) h = refl

no_value : (c : ℕ) → 15 < value_or c → hex_digit_value c ≡ None
no_value c h = grind (arith, h)

-- the value of a digit is at most 15, and that of what is none 256
one_of : (c : ℕ) → (value_or c ≤ 15) ⊎ (value_or c ≡ 256)
one_of c = grind arith

-- the value of two digits is a byte's only where both are digits
pub both : (c d : ℕ) → value_or c * 16 + value_or d ≤ 255 → (value_or c ≤ 15) × (value_or d ≤ 15)
both c d h =
    let low : value_or d ≤ 15 = elim (one_of d) [ inl l ↦ l | inr l ↦ absurd (omega (arith, h, l)) ] in
    (omega (arith, h), low)

-- where the value of two is above 255, one of them is no digit
pub not_both : (c d : ℕ) → 255 < value_or c * 16 + value_or d → (15 < value_or c) ⊎ (15 < value_or d)
not_both c d h =
    elim (one_of c) [ inl k ↦ elim (one_of d) [ inl l ↦ absurd (omega (arith, h, k, l)) | inr l ↦ inr (omega (arith, l)) ] | inr k ↦ inl (omega (arith, k)) ]

two_more : (digits : List ℕ) (i : ℕ) → 2 * i + 1 < length digits → drop (2 * i) digits ≡ slice_index digits (2 * i) ∷ slice_index digits (2 * i + 1) ∷ drop (2 * (i + 1)) digits
two_more digits i h =
    let e : 2 * (i + 1) ≡ suc (suc (2 * i)) = omega arith in
    let f : 2 * i + 1 ≡ suc (2 * i) = omega arith in
    rw (e, f, drop-cons digits (2 * i) 0 (omega (arith, h)), drop-cons digits (suc (2 * i)) 0 (omega (arith, h))) refl

behind-behind : (front more : List ℕ) (rest : Option (List ℕ)) → behind front (behind more rest) ≡ behind (front ++ more) rest
behind-behind front more None = refl
behind-behind front more (Some bytes) = ap (λ (xs : List ℕ). Some xs) (sym (append_assoc front more bytes))

-- a pair of digits is read
pub one_more : (digits read now : List ℕ) (i : ℕ) (all : Option (List ℕ)) → 2 * i + 1 < length digits
    → value_or (slice_index digits (2 * i)) ≤ 15 → value_or (slice_index digits (2 * i + 1)) ≤ 15
    → all ≡ behind read (said (drop (2 * i) digits)) → now ≡ read ++ (value_or (slice_index digits (2 * i)) * 16 + value_or (slice_index digits (2 * i + 1))) ∷ []
    → all ≡ behind now (said (drop (2 * (i + 1)) digits))
one_more digits read now i all h high low is pushed =
    let a = is_some_value (hex_digit_value (slice_index digits (2 * i))) high in
    let b = is_some_value (hex_digit_value (slice_index digits (2 * i + 1))) low in
    let byte : ℕ = value_or (slice_index digits (2 * i)) * 16 + value_or (slice_index digits (2 * i + 1)) in
    let rest = said (drop (2 * (i + 1)) digits) in
    is ∙ ap (λ (xs : List ℕ). behind read (said xs)) (two_more digits i h)
    ∙ ap (λ (r : Option (List ℕ)). behind read r) (said_pair (slice_index digits (2 * i)) (slice_index digits (2 * i + 1)) (drop (2 * (i + 1)) digits))
    ∙ ap (λ (o : Option ℕ). behind read (pair_of o (hex_digit_value (slice_index digits (2 * i + 1))) rest)) a
    ∙ ap (λ (o : Option ℕ). behind read (pair_of (Some (value_or (slice_index digits (2 * i)))) o rest)) b
    ∙ behind-behind read (byte ∷ []) rest ∙ ap (λ (xs : List ℕ). behind xs rest) (sym pushed)

none_of : (o p : Option ℕ) (rest : Option (List ℕ)) → (o ≡ None) ⊎ (p ≡ None) → pair_of o p rest ≡ None
none_of None p rest h = refl
none_of (Some n) None rest h = refl
none_of (Some n) (Some m) rest (inl h) = absurd (cc)
none_of (Some n) (Some m) rest (inr h) = absurd (cc)

-- a pair is not of digits
pub no_more : (digits read : List ℕ) (i : ℕ) (all : Option (List ℕ)) → 2 * i + 1 < length digits
    → (15 < value_or (slice_index digits (2 * i))) ⊎ (15 < value_or (slice_index digits (2 * i + 1)))
    → all ≡ behind read (said (drop (2 * i) digits)) → all ≡ None
no_more digits read i all h bad is =
    let missing : (hex_digit_value (slice_index digits (2 * i)) ≡ None) ⊎ (hex_digit_value (slice_index digits (2 * i + 1)) ≡ None) =
    elim bad [ inl b ↦ inl (no_value (slice_index digits (2 * i)) b) | inr b ↦ inr (no_value (slice_index digits (2 * i + 1)) b) ] in
    is ∙ ap (λ (xs : List ℕ). behind read (said xs)) (two_more digits i h)
    ∙ ap (λ (r : Option (List ℕ)). behind read r) (said_pair (slice_index digits (2 * i)) (slice_index digits (2 * i + 1)) (drop (2 * (i + 1)) digits) ∙ none_of _ _ _ missing)

-- all digits are read
pub no_digit_left : (digits read : List ℕ) (i : ℕ) (all : Option (List ℕ)) → length digits ≤ 2 * i → all ≡ behind read (said (drop (2 * i) digits)) → all ≡ Some read
unfolding decode_pairs
no_digit_left digits read i all h is =
    is ∙ ap (λ (xs : List ℕ). behind read (said xs)) (drop_all (2 * i) digits h) ∙ ap (λ (xs : List ℕ). Some xs) (append-nil read)

-- digits of a length that can be
pub whole : (most : ℕ) (digits : List ℕ) → 0 < length digits → length digits ≤ 2 * most → (length digits % 2 ≡ 1 → ⊥) → hex_bytes most digits ≡ said digits
unfolding hex_bytes
whole most digits some short even = grind (arith, some, short, even)

neither : (s t : Bool) → (s || t) ≡ false → (s ≡ false) × (t ≡ false)
neither false false h = (refl, refl)
neither false true h = absurd (cc)
neither true t h = absurd (cc)

-- where no space stands, none is left out
pub no_space_out : (line : List ℕ) → list_any (λ b. b == 32) line ≡ false → filter (λ b. not (is_space b)) line ≡ line
no_space_out [] h = refl
no_space_out (b ∷ line) h =
    let two = neither (b == 32) (list_any (λ c. c == 32) line) h in
    ap (λ (t : Bool). cond (not t) (b ∷ filter (λ c. not (is_space c)) line) (filter (λ c. not (is_space c)) line)) two.0 ∙ ap (λ (xs : List ℕ). b ∷ xs) (no_space_out line two.1)

-- what two digits say is something only where both are digits, and something is behind them
paired : (o p : Option ℕ) (r : Option (List ℕ)) (bytes : List ℕ) → pair_of o p r ≡ Some bytes
    → (is_some o ≡ true) × ((is_some p ≡ true) × ((more : List ℕ) × (r ≡ Some more)))
paired (Some a) (Some b) (Some more) bytes e = (refl, (refl, (more, refl)))
paired (Some a) (Some b) None bytes e = absurd (cc)
paired (Some a) None r bytes e = absurd (cc)
paired None p r bytes e = absurd (cc)

no_digit_is_space : (c : ℕ) → is_some (hex_digit_value c) ≡ true → is_space c ≡ false
no_digit_is_space c h = grind (arith, h)

one_kept : (b : ℕ) (line : List ℕ) → is_space b ≡ false → filter (λ c. not (is_space c)) (b ∷ line) ≡ b ∷ filter (λ c. not (is_space c)) line
one_kept b line h = ap (λ (t : Bool). cond (not t) (b ∷ filter (λ c. not (is_space c)) line) (filter (λ c. not (is_space c)) line)) h

-- no space stands among digits that say bytes
all_kept : (digits bytes : List ℕ) → said digits ≡ Some bytes → filter (λ c. not (is_space c)) digits ≡ digits
unfolding decode_pairs
all_kept [] bytes e = refl
all_kept (digit ∷ []) bytes e = absurd (cc)
all_kept (h ∷ l ∷ rest) bytes e =
    let both = paired (hex_digit_value h) (hex_digit_value l) (said rest) bytes (sym (said_pair h l rest) ∙ e) in
    one_kept h (l ∷ rest) (no_digit_is_space h both.0)
    ∙ ap (λ (xs : List ℕ). h ∷ xs) (one_kept l rest (no_digit_is_space l both.1.0) ∙ ap (λ (xs : List ℕ). l ∷ xs) (all_kept rest both.1.1.0 both.1.1.1))

said_of : (most : ℕ) (digits bytes : List ℕ) → hex_bytes most digits ≡ Some bytes → said digits ≡ Some bytes
unfolding hex_bytes
said_of most digits bytes h = grind (arith, h)

read_of : (most : ℕ) (line : List ℕ) (o : Option (List ℕ)) → hex_bytes most line ≡ o → (command_with o ≡ Faulty → ⊥) → hex_bytes most line ≡ hex_bytes most (filter (λ c. not (is_space c)) line)
read_of most line None e fine = absurd (fine refl)
read_of most line (Some bytes) e fine = ap (λ (xs : List ℕ). hex_bytes most xs) (sym (all_kept line bytes (said_of most line bytes e)))

-- a command that is read as it stands is read so without spaces too
pub read_as_it_stands : (most : ℕ) (line : List ℕ) (said : Line) → said ≡ command_with (hex_bytes most line) → (said ≡ Faulty → ⊥) → said ≡ command_of most line
read_as_it_stands most line said is fine =
    is ∙ ap command_with (read_of most line (hex_bytes most line) refl (λ h. fine (is ∙ h)))

-- only a faulty line is told as one
pub faulty_in : (parsed : Parsed) (command signals : ArrayVec ℕ) → line_in parsed command signals ≡ Faulty → parsed ≡ parseds.Faulty
faulty_in parseds.Skip command signals h = absurd (cc)
faulty_in parseds.Command command signals h = absurd (cc)
faulty_in (parseds.Event channel) command signals h = absurd (cc)
faulty_in parseds.Drain command signals h = absurd (cc)
faulty_in parseds.FinishStore command signals h = absurd (cc)
faulty_in parseds.Hangup command signals h = absurd (cc)
faulty_in (parseds.Time time) command signals h = absurd (cc)
faulty_in (parseds.Signals place) command signals h = absurd (cc)
faulty_in parseds.Faulty command signals h = refl

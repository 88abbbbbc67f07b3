-- Text without control characters.
use Rattle.std.proofs.Common.{◌≡◌, ℕ, ◌+◌, ◌/◌, ◌%◌, ◌<◌, ◌≤◌, Bool, true, false, cond, not, ◌&&◌, ◌||◌, List, [], ◌∷◌, ◌++◌, codes, refl, sym, ◌∙◌, ap, arith, append-nil, append_assoc, nat_lt, nat_eq}
use Rattle.std.specs.List.{list_all}
use Rattle.std.specs.Char.{encode_utf8, is_control}
use Rattle.std.specs.Str.{encode_utf8_all}
use Rattle.std.specs.Fmt.{digit_glyph}
use Rattle.std.proofs.lemmas.Str.{encodes-append, encode_ascii}
use Rattle.std.proofs.lemmas.List.Folds.{list_all-append}
use Rattle.std.proofs.lemmas.Bool.{and_from, cond_both, ltb-true, ltb-false, lt-leb}
use Rattle.xcp_describe.specs.FindingsText.{IsPlainText, is_plain}
use Rattle.xcp_describe.specs.Places.{code_escape, escape}
use Rattle.xcp_describe.specs.private.PlainText.{AppendsPlain}

-- text without control characters with such text behind it has none
pub plain_both : (a b : List ℕ) → IsPlainText a → IsPlainText b → IsPlainText (a ++ b)
plain_both a b p q = record {
  characters = p.characters ++ q.characters;
  plain = list_all-append (λ c. not (is_control c)) p.characters q.characters ∙ and_from _ _ p.plain q.plain;
  encoded = rw (p.encoded, q.encoded) (sym (encodes-append p.characters q.characters));
}

-- nothing was appended, which has no control character
pub appends_none : (a : List ℕ) → AppendsPlain a a
appends_none a = record { more = []; plain = record { characters = []; plain = refl; encoded = refl }; is = sym (append-nil a) }

-- what was appended in two steps, without control characters in either, has none as a whole
pub appends_both : (a b c : List ℕ) → AppendsPlain a b → AppendsPlain b c → AppendsPlain a c
appends_both a b c p q = record {
  more = p.more ++ q.more;
  plain = plain_both _ _ p.plain q.plain;
  is = q.is ∙ ap (λ x. x ++ q.more) p.is ∙ append_assoc a p.more q.more;
}

-- a character that is no control character
pub plain_character : (c : ℕ) → is_control c ≡ false → IsPlainText (encode_utf8 c)
plain_character c h = record { characters = c ∷ []; plain = rw h refl; encoded = sym (append-nil _) }

-- a digit
InText : ℕ → Type 0
InText x = (31 < x) × (x < 127)

digit_is : (d : ℕ) → d < 16 → InText (digit_glyph true d)
unfolding InText
digit_is d h = cond_both (nat_lt d 10) (48 + d) (55 + d) InText (λ t. let l = ltb-true d 10 t in (omega arith, omega arith)) (λ t. let l = ltb-false d 10 t in (omega arith, omega arith))

no_control : (x : ℕ) → InText x → is_control x ≡ false
unfolding InText
no_control x h = grind (arith, h)

no_control_list : (x y : ℕ) → InText x → InText y → is_plain (x ∷ y ∷ []) ≡ true
no_control_list x y p q = rw (no_control x p, no_control y q) refl

encoded_list : (x y : ℕ) → InText x → InText y → x ∷ y ∷ [] ≡ encode_utf8_all (x ∷ y ∷ [])
unfolding InText
encoded_list x y p q = rw (encode_ascii x (omega arith), encode_ascii y (omega arith)) refl

two_digits : (c : ℕ) → c < 256 → IsPlainText (digit_glyph true (c / 16) ∷ digit_glyph true (c % 16) ∷ [])
two_digits c h =
    let high : c / 16 < 16 = omega arith in
    let low : c % 16 < 16 = omega arith in
    record {
      characters = digit_glyph true (c / 16) ∷ digit_glyph true (c % 16) ∷ [];
      plain = no_control_list _ _ (digit_is _ high) (digit_is _ low);
      encoded = encoded_list _ _ (digit_is _ high) (digit_is _ low);
    }

-- the escape by code of a number below 256 has no control character
pub plain_code : (c : ℕ) → c < 256 → IsPlainText (code_escape c)
unfolding encode_utf8
plain_code c h = plain_both (codes "\\u00") _ (record { characters = codes "\\u00"; plain = refl; encoded = refl }) (two_digits c h)

short : (s : List ℕ) → IsPlainText s → (b : Bool) (t : List ℕ) → IsPlainText t → IsPlainText (cond b s t)
short s p true t q = p
short s p false t q = q

-- the escape of a number below 256 has no control character
pub plain_escape : (c : ℕ) → c < 256 → IsPlainText (escape c)
unfolding encode_utf8
plain_escape c h =
    short (codes "\\b") (record { characters = codes "\\b"; plain = refl; encoded = refl }) (nat_eq c 8) _
    (short (codes "\\t") (record { characters = codes "\\t"; plain = refl; encoded = refl }) (nat_eq c 9) _
    (short (codes "\\n") (record { characters = codes "\\n"; plain = refl; encoded = refl }) (nat_eq c 10) _
    (short (codes "\\f") (record { characters = codes "\\f"; plain = refl; encoded = refl }) (nat_eq c 12) _
    (short (codes "\\r") (record { characters = codes "\\r"; plain = refl; encoded = refl }) (nat_eq c 13) _ (plain_code c h)))))

-- a control character has a code below 256
pub control_below : (c : ℕ) → is_control c ≡ true → c < 256
control_below c h = grind (arith, h)

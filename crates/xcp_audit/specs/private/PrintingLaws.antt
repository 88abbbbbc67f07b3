-- Texts that are printed one behind another.
use Rattle.std.proofs.Common.{ℕ, List, [], ◌++◌, Option, Some, None, refl, sym, ap, ◌∙◌, subst, append_assoc}
use Rattle.std.proofs.lemmas.List.Concat.{flat_map-append}
use Rattle.std.specs.Io.KnownBytes.{Appends}
use Rattle.xcp_framing.specs.Prefix.{AppendsFront}
use Rattle.xcp_framing.proofs.KnownBytesLemmas.{appends_more, appends_none}
use Rattle.xcp_trace.specs.declared.Entry.{Entry}
use Rattle.xcp_record.specs.declared.Roster.{Roster}
use Rattle.xcp_audit.specs.declared.printer.Trouble.{Trouble}
use Rattle.xcp_audit.specs.CallLine.{line_of_call, lines_of_calls}
use Rattle.xcp_audit.specs.Printing.{Prints, PrintsFrom, Stand, failures_after}

-- nothing is printed
pub prints_none : (s : Stand) → Prints s s []
prints_none s = from s.trouble
  where
    from : (t : Option Trouble) → PrintsFrom t t s s []
    from None = (appends_none s.holds, refl)
    from (Some t) = (refl, refl)

-- a front of a text is one of a longer text
longer : (old new : Option (List ℕ)) (xs ys : List ℕ) → AppendsFront old new xs → AppendsFront old new (xs ++ ys)
longer old new xs ys h = record {
  written = h.written;
  grown = h.grown;
  front = (h.front.0 ++ ys, sym (append_assoc h.written h.front.0 ys) ∙ ap (λ z. z ++ ys) h.front.1);
}

-- and so is a text with a front of the next
behind : (a b c : Option (List ℕ)) (xs ys : List ℕ) → Appends a b xs → AppendsFront b c ys → AppendsFront a c (xs ++ ys)
behind a b c xs ys p q = record {
  written = xs ++ q.written;
  grown = appends_more a b c xs q.written p q.grown;
  front = (q.front.0, append_assoc xs q.written q.front.0 ∙ ap (λ z. xs ++ z) q.front.1);
}

from_more : (s t u : Option Trouble) (a b c : Stand) (xs ys : List ℕ) → PrintsFrom s t a b xs → PrintsFrom t u b c ys → PrintsFrom s u a c (xs ++ ys)
from_more (Some s) t u a b c xs ys p q = let r = subst (λ o. PrintsFrom o u b c ys) p.1 q in (r.0 ∙ p.0, r.1)
from_more None None None a b c xs ys p q = (appends_more a.holds b.holds c.holds xs ys p.0 q.0, q.1 ∙ p.1)
from_more None None (Some u) a b c xs ys p q = (behind a.holds b.holds c.holds xs ys p.0 q.0, q.1 ∙ ap (failures_after u) p.1)
from_more None (Some t) u a b c xs ys p q =
    let here : PrintsFrom None (Some t) a b (xs ++ ys) = (longer a.holds b.holds xs ys p.0, p.1) in
    subst (λ o. PrintsFrom None o a c (xs ++ ys)) (sym q.1) (subst (λ z. PrintsFrom None (Some t) a z (xs ++ ys)) (sym q.0) here)

-- two texts, one behind the other
pub prints_more : (a b c : Stand) (xs ys : List ℕ) → Prints a b xs → Prints b c ys → Prints a c (xs ++ ys)
prints_more a b c xs ys p q = from_more a.trouble b.trouble c.trouble a b c xs ys p q

-- and the lines of calls
pub lines_more : (a b c : Stand) (roster : Option Roster) (xs ys : List Entry) → Prints a b (lines_of_calls roster xs) → Prints b c (lines_of_calls roster ys) → Prints a c (lines_of_calls roster (xs ++ ys))
lines_more a b c roster xs ys p q = subst (Prints a c) (sym (flat_map-append (line_of_call roster) xs ys)) (prints_more a b c (lines_of_calls roster xs) (lines_of_calls roster ys) p q)

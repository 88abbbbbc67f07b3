-- Known bytes that grow.
use Rattle.std.proofs.Common.{◌≡◌, ℕ, List, [], ◌++◌, take, drop, sym, ◌∙◌, ap, append_assoc, subst, Option, Some, None}
use Rattle.std.proofs.lemmas.List.{append-nil, take-append-drop}
use Rattle.std.specs.Io.KnownBytes.{Appends, Keeps}
use Rattle.xcp_framing.specs.Prefix.{AppendsFront}

-- nothing was written
pub appends_none : (a : Option (List ℕ)) → Appends a a []
appends_none None = tt
appends_none (Some xs) = sym (append-nil xs)

-- bytes after bytes
pub appends_more : (a b c : Option (List ℕ)) (xs ys : List ℕ) → Appends a b xs → Appends b c ys → Appends a c (xs ++ ys)
appends_more None b c xs ys h k = tt
appends_more (Some u) None c xs ys h k = absurd h
appends_more (Some u) (Some v) None xs ys h k = absurd k
appends_more (Some u) (Some v) (Some w) xs ys h k = k ∙ ap (λ (z : List ℕ). z ++ ys) h ∙ append_assoc u xs ys

-- bytes, and then none
pub appends_kept : (a b c : Option (List ℕ)) (xs : List ℕ) → Appends a b xs → Keeps b c → Appends a c xs
appends_kept None b c xs h k = tt
appends_kept (Some u) None c xs h k = absurd h
appends_kept (Some u) (Some v) None xs h k = absurd k
appends_kept (Some u) (Some v) (Some w) xs h k = k ∙ h

-- a write of nothing keeps the bytes
pub keeps_none : (a b : Option (List ℕ)) → Appends a b [] → Keeps a b
keeps_none None b h = tt
keeps_none (Some u) None h = absurd h
keeps_none (Some u) (Some v) h = h ∙ append-nil u

-- the first bytes of a text, and then none
pub front_kept : (a b c : Option (List ℕ)) (t : List ℕ) (i : ℕ) → Appends a b (take i t) → Keeps b c → AppendsFront a c t
front_kept a b c t i h k = record {
  written = take i t;
  grown = appends_kept a b c (take i t) h k;
  front = (drop i t, take-append-drop i t);
}

-- a text after what was written before it
pub written_all : (a b c : Option (List ℕ)) (before texts text whole : List ℕ) → Appends a b before → Appends b c text → text ≡ texts → before ++ texts ≡ whole → Appends a c whole
written_all a b c before texts text whole h k p q = subst (λ (z : List ℕ). Appends a c z) (ap (λ (z : List ℕ). before ++ z) p ∙ q) (appends_more a b c before text h k)

-- a front of a text after what was written before it
pub written_front : (a b c : Option (List ℕ)) (before texts text whole : List ℕ) → Appends a b before → AppendsFront b c text → text ≡ texts → before ++ texts ≡ whole → AppendsFront a c whole
written_front a b c before texts text whole h k p q = record {
  written = before ++ k.written;
  grown = appends_more a b c before k.written h k.grown;
  front = (
    k.front.0,
    append_assoc before k.written k.front.0 ∙ ap (λ (z : List ℕ). before ++ z) (k.front.1 ∙ p) ∙ q,
  );
}

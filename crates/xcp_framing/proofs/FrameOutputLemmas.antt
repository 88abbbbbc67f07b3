-- Texts that are gathered and written one after another.
use Rattle.std.proofs.Common.{◌≡◌, ℕ, List, [], ◌∷◌, ◌++◌, Result, Ok, Err, refl, sym, ap, ◌∙◌, append_assoc, subst}
use Rattle.std.proofs.lemmas.List.{append-nil}
use Rattle.std.specs.Io.KnownBytes.{Appends, Keeps}
use Rattle.xcp_framing.specs.declared.serving.ServeError.{ServeError}
use Rattle.xcp_framing.specs.declared.serving.ServeError.TheVariants as errors
use Rattle.xcp_framing.specs.Prefix.{AppendsFront}
use Rattle.xcp_framing.specs.FrameOutput.{Output, Gathers, Sends}
use Rattle.xcp_framing.specs.Serve.{WritesText}
use Rattle.xcp_framing.proofs.KnownBytesLemmas.{appends_none, appends_more, appends_kept, keeps_none}

-- nothing was sent
pub gathers_none : (a : Output) → Gathers a a []
gathers_none a = record { written = []; grown = appends_none a.contents; rest = sym (append-nil a.held) }

-- the bytes behind a text's, where the first of both were written
joined_behind : (a b : Output) (t w rest more : List ℕ) (x : Gathers a b t) → w ++ rest ≡ b.held ++ more → (x.written ++ w) ++ rest ≡ a.held ++ (t ++ more)
joined_behind a b t w rest more x h =
    append_assoc x.written w rest ∙ ap (λ (z : List ℕ). x.written ++ z) h ∙ sym (append_assoc x.written b.held more)
    ∙ ap (λ (z : List ℕ). z ++ more) x.rest ∙ append_assoc a.held t more

-- a text, and then another
pub gathers_more : (a b c : Output) (t u : List ℕ) → Gathers a b t → Gathers b c u → Gathers a c (t ++ u)
gathers_more a b c t u x y = record {
  written = x.written ++ y.written;
  grown = appends_more a.contents b.contents c.contents x.written y.written x.grown y.grown;
  rest = joined_behind a b t y.written c.held u x y.rest;
}

-- a text, and then a front of another
front_behind : (a b c : Output) (t u : List ℕ) → Gathers a b t → AppendsFront b.contents c.contents (b.held ++ u) → AppendsFront a.contents c.contents (a.held ++ (t ++ u))
front_behind a b c t u x y = record {
  written = x.written ++ y.written;
  grown = appends_more a.contents b.contents c.contents x.written y.written x.grown y.grown;
  front = (y.front.0, joined_behind a b t y.written y.front.0 u x y.front.1);
}

-- a text that was gathered, and another one sent behind it, are sent as one text, whatever the result
pub sends_more : {A : Type 0} (r : Result A ServeError) (a b c : Output) (t u : List ℕ) → Gathers a b t → Sends r b c u → Sends r a c (t ++ u)
sends_more (Ok v) a b c t u h k = gathers_more a b c t u h k
sends_more (Err errors.Write) a b c t u h k = front_behind a b c t u h k
sends_more (Err errors.Read) a b c t u h k = gathers_more a b c t u h k
sends_more (Err (errors.BadLength n)) a b c t u h k = gathers_more a b c t u h k
sends_more (Err errors.Truncated) a b c t u h k = gathers_more a b c t u h k
sends_more (Err errors.Memory) a b c t u h k = gathers_more a b c t u h k
sends_more (Err errors.TurnsSpent) a b c t u h k = gathers_more a b c t u h k
sends_more (Err errors.JournalFull) a b c t u h k = gathers_more a b c t u h k
sends_more (Err errors.NoRoom) a b c t u h k = gathers_more a b c t u h k

-- nothing to send
pub sends_none : {A : Type 0} (r : Result A ServeError) (a : Output) → Sends r a a []
sends_none (Ok v) a = gathers_none a
sends_none (Err errors.Write) a = record { written = []; grown = appends_none a.contents; front = (a.held ++ [], refl) }
sends_none (Err errors.Read) a = gathers_none a
sends_none (Err (errors.BadLength n)) a = gathers_none a
sends_none (Err errors.Truncated) a = gathers_none a
sends_none (Err errors.Memory) a = gathers_none a
sends_none (Err errors.TurnsSpent) a = gathers_none a
sends_none (Err errors.JournalFull) a = gathers_none a
sends_none (Err errors.NoRoom) a = gathers_none a

-- what is held is written, and then nothing is held
flushed : (a b c : Output) (t : List ℕ) → Gathers a b t → Appends b.contents c.contents b.held → c.held ≡ [] → Gathers a c t
flushed a b c t x h e = record {
  written = x.written ++ b.held;
  grown = appends_more a.contents b.contents c.contents x.written b.held x.grown h;
  rest = ap (λ (z : List ℕ). (x.written ++ b.held) ++ z) e ∙ append-nil (x.written ++ b.held) ∙ x.rest;
}

none_held : (b c : Output) → Appends b.contents c.contents b.held → b.held ≡ [] → Keeps b.contents c.contents
none_held b c h e = keeps_none b.contents c.contents (subst (λ (z : List ℕ). Appends b.contents c.contents z) e h)

-- after a failed write nothing is held
pub sends_flushed : {A : Type 0} (r : Result A ServeError) (a b c : Output) (t : List ℕ) → Sends r a b t → (r ≡ Err errors.Write → b.held ≡ [])
    → Appends b.contents c.contents b.held → c.held ≡ [] → Sends r a c t
sends_flushed (Ok v) a b c t x n h e = flushed a b c t x h e
sends_flushed (Err errors.Write) a b c t x n h e = record { written = x.written; grown = appends_kept a.contents b.contents c.contents x.written x.grown (none_held b c h (n refl)); front = x.front }
sends_flushed (Err errors.Read) a b c t x n h e = flushed a b c t x h e
sends_flushed (Err (errors.BadLength m)) a b c t x n h e = flushed a b c t x h e
sends_flushed (Err errors.Truncated) a b c t x n h e = flushed a b c t x h e
sends_flushed (Err errors.Memory) a b c t x n h e = flushed a b c t x h e
sends_flushed (Err errors.TurnsSpent) a b c t x n h e = flushed a b c t x h e
sends_flushed (Err errors.JournalFull) a b c t x n h e = flushed a b c t x h e
sends_flushed (Err errors.NoRoom) a b c t x n h e = flushed a b c t x h e

-- of what is held a front is written
unflushed : (a b c : Output) (t : List ℕ) → Gathers a b t → AppendsFront b.contents c.contents b.held → AppendsFront a.contents c.contents (a.held ++ t)
unflushed a b c t x y = record {
  written = x.written ++ y.written;
  grown = appends_more a.contents b.contents c.contents x.written y.written x.grown y.grown;
  front = (
    y.front.0,
    append_assoc x.written y.written y.front.0 ∙ ap (λ (z : List ℕ). x.written ++ z) y.front.1 ∙ x.rest,
  );
}

none_before : (w rest : List ℕ) → w ++ rest ≡ [] → w ≡ []
none_before [] rest h = refl
none_before (b ∷ w) rest h = absurd (cc)

front_of_none : (a b c : Output) (t : List ℕ) → AppendsFront a.contents b.contents t → AppendsFront b.contents c.contents b.held → b.held ≡ [] → AppendsFront a.contents c.contents t
front_of_none a b c t x y e =
    let none : y.written ≡ [] = none_before y.written y.front.0 (y.front.1 ∙ e) in
    record {
      written = x.written;
      grown = appends_kept a.contents b.contents c.contents x.written x.grown (keeps_none b.contents c.contents (subst (λ (z : List ℕ). Appends b.contents c.contents z) none y.grown));
      front = x.front;
    }

-- where only a front of the held bytes gets written, a front of what was held before and the text was written
pub sends_unflushed : {A : Type 0} (r : Result A ServeError) (a b c : Output) (t : List ℕ) → Sends r a b t → (r ≡ Err errors.Write → b.held ≡ [])
    → AppendsFront b.contents c.contents b.held → AppendsFront a.contents c.contents (a.held ++ t)
sends_unflushed (Ok v) a b c t x n h = unflushed a b c t x h
sends_unflushed (Err errors.Write) a b c t x n h = front_of_none a b c (a.held ++ t) x h (n refl)
sends_unflushed (Err errors.Read) a b c t x n h = unflushed a b c t x h
sends_unflushed (Err (errors.BadLength m)) a b c t x n h = unflushed a b c t x h
sends_unflushed (Err errors.Truncated) a b c t x n h = unflushed a b c t x h
sends_unflushed (Err errors.Memory) a b c t x n h = unflushed a b c t x h
sends_unflushed (Err errors.TurnsSpent) a b c t x n h = unflushed a b c t x h
sends_unflushed (Err errors.JournalFull) a b c t x n h = unflushed a b c t x h
sends_unflushed (Err errors.NoRoom) a b c t x n h = unflushed a b c t x h

-- where nothing was held and nothing is, the text was written
pub all_written : (a b : Output) (t : List ℕ) → Gathers a b t → a.held ≡ [] → b.held ≡ [] → Appends a.contents b.contents t
all_written a b t x e f =
    let whole : x.written ≡ t = sym (append-nil x.written) ∙ ap (λ (z : List ℕ). x.written ++ z) (sym f) ∙ x.rest ∙ ap (λ (z : List ℕ). z ++ t) e in
    subst (λ (z : List ℕ). Appends a.contents b.contents z) whole x.grown

-- a failed write wrote a front of what was sent, any other error all of it, with nothing held before and after
pub writes_sent : (A B : Type 0) (e : ServeError) (a b : Output) (t : List ℕ) → Sends {A = A} (Err e) a b t → a.held ≡ [] → b.held ≡ [] → WritesText {A = B} (Err e) a.contents b.contents t
writes_sent A B errors.Write a b t h e f = subst (λ (z : List ℕ). AppendsFront a.contents b.contents (z ++ t)) e h
writes_sent A B errors.Read a b t h e f = all_written a b t h e f
writes_sent A B (errors.BadLength n) a b t h e f = all_written a b t h e f
writes_sent A B errors.Truncated a b t h e f = all_written a b t h e f
writes_sent A B errors.Memory a b t h e f = all_written a b t h e f
writes_sent A B errors.TurnsSpent a b t h e f = all_written a b t h e f
writes_sent A B errors.JournalFull a b t h e f = all_written a b t h e f
writes_sent A B errors.NoRoom a b t h e f = all_written a b t h e f

-- What a reader's steps come to, as contracts see the reader.
use Rattle.std.proofs.Common.{◌≡◌, ◌↔◌, ℕ, zero, suc, ◌-◌, ◌*◌, ◌<◌, List, [], ◌∷◌, length, map, get_or, replicate, sym, refl, ap, ◌∙◌, subst, arith, append_assoc, Option, Some, Bool, true, false, ◌||◌}
use Rattle.std.proofs.lemmas.List.{length-map, map-append, append-nil, get_or_past}
use mathlib.Core.Logic.{dite}
use native.Mathlib.Decide.{dec_le}
use Rattle.xcp_bank.proofs.ImageLemmas.{image_length}
use Rattle.std.proofs.Math.ListN.{get_or-map}
use Rattle.std.proofs.lemmas.Option.{same_Some}
use Rattle.atomic_table.specs.Seated.{TableId}
use Rattle.atomic_table.specs.declared.shared.Seat.{Seat as Token}
use Rattle.xcp_bank.specs.declared.taken.Taken.{Taken}
use Rattle.xcp_bank.specs.declared.taken.Taken.TheVariants.{Same, Newer}
use Rattle.pin_core.specs.State.{Reader, newcomer, opening}
use Rattle.xcp_bank.specs.BankId.{bank_of}
use Rattle.xcp_bank.specs.private.ReaderSteps.{UpToDate, FollowsHistory, GivesUp}
use Rattle.xcp_bank.specs.Images.{image_in_words, images}
use mathlib.Core.List.{IsPrefix}
use Rattle.xcp_bank.specs.SeatKnowledge.{AllBegin, Reading, Writing, Known, starting}
use Rattle.xcp_bank.specs.private.SeatSplits.{when_joined, when_parted}
use Rattle.xcp_bank.specs.PinHistory.{looked_at}
use Rattle.xcp_bank.specs.private.SeatSteps.{IsWide, IsReaderSeat, SeatAcquired, HasRead, buffer_of}
use Rattle.xcp_bank.specs.BankEnds.{ReaderEnd, reader_end, WriterEnd, writer_end, HoldsNumber, image_at, image_held, IsRun, AcquireDoes, FollowsTold, KnowsMore, ReadDoes, ReaderDoes, GivesBack, TellsTaken}
use Rattle.xcp_bank.specs.EndFields.{reader_in, shown_reader}
use Rattle.xcp_bank.specs.private.KeptEnds.{ReaderKept}
use Rattle.xcp_bank.proofs.EndFieldLemmas.{reader_is, kept_by, sits_at, sits_here}
use Rattle.xcp_bank.proofs.ReaderSeatLemmas.{same≢newer, held_at}

-- where a list of publications begins another, its images begin the other's images
pub images_begin : (a b : List (List ℕ)) → IsPrefix a b → IsPrefix (images a) (images b)
images_begin a b g = (images g.0, sym (map-append image_in_words a g.0) ∙ ap images g.1)

-- the same of several lists of publications that all begin one
pub images_all : (ls : List (List (List ℕ))) (b : List (List ℕ)) → AllBegin ls b → AllBegin (map images ls) (images b)
images_all [] b g = tt
images_all (l ∷ ls) b g = (images_begin l b g.0, images_all ls b g.1)

-- a seat that stands for a reader shows it
pub shown_is : (token : Token (Unit {0}) Known) (bank : TableId) (r : ℕ) (y : Reading) → IsReaderSeat token bank r y → shown_reader bank (Some token) ≡ reader_end bank r y
shown_is token bank r y s = ap (λ (z : ℕ × Reading). reader_end bank z.0 z.1) (reader_is token bank r y s)

-- who knows all of the state that its history ends in knows what it holds there
pub follows_up_to_date : (W r : ℕ) (y : Reading) → UpToDate W r y → FollowsHistory W r y
follows_up_to_date W r y k = record { state = k.state; ran = k.ran; held = ap (λ (z : Reader). z.held) k.pins; gone = ap (λ (z : Reader). z.gone) k.pins }

-- a reader's history that is a run to a state in which it holds what it says is that for contracts, too
pub run_of : (bank : TableId) (r : ℕ) (y : Reading) → FollowsHistory bank.slots r y → IsRun (reader_end bank r y)
run_of bank r y k = record { state = k.state; ran = k.ran; holds = k.held }

-- and who has made no step
pub follows_starting : (W : ℕ) (words : List ℕ) (r : ℕ) → length words ≡ W → FollowsHistory W r (starting words)
follows_starting W words r size = record { state = opening words; ran = (words, size, (refl, refl)); held = ap (λ (z : Reader). z.held) (newcomers 6 r); gone = ap (λ (z : Reader). z.gone) (newcomers 6 r) }
  where
    newcomers : (n q : ℕ) → get_or (replicate n newcomer) q newcomer ≡ newcomer
    newcomers zero q = refl
    newcomers (suc n) zero = refl
    newcomers (suc n) (suc q) = newcomers n q

-- what is kept once a reader has acquired
pub acquired_kept : (token : Token (Unit {0}) Known) (bank : TableId) (r b : ℕ) (x y : Reading) (taken : Taken) → IsReaderSeat token bank r y → SeatAcquired taken b bank.slots r x y → ReaderKept bank (Some b) (Some token)
acquired_kept token bank r b x y taken s a = kept_by token bank r y (Some b) s (follows_up_to_date bank.slots r y a.up_to_date) a.here (sym (ap buffer_of a.held)) (λ c e. subst (λ (n : ℕ). n < 8) (same_Some b c e) a.low)

-- What `acquire` says.
pub record AcquiredEnd (taken : Taken) (old new : ReaderEnd) : Type 0 where
  pub holds_the_last : HoldsNumber new (length new.seen - 1)
  pub has_seen : 0 < length new.seen
  pub knows : KnowsMore old new
  pub tells : TellsTaken taken old new
  pub looked : (b p : ℕ) → new.held ≡ Some (b, p) → b ≡ new.looked
  pub does : AcquireDoes taken old new

module _ (bank : TableId) (r : ℕ) (x y : Reading) where
  abbrev old : ReaderEnd
  old = reader_end bank r x

  abbrev new : ReaderEnd
  new = reader_end bank r y

  same_where : (taken : Taken) (b : ℕ) → SeatAcquired taken b bank.slots r x y → taken ≡ Same ↔ HoldsNumber old (length y.list - 1)
  same_where Same b a = ((λ _. (b, a.same refl)), λ _. refl)
  same_where Newer b a = ((λ e. absurd (same≢newer (sym e))), λ h. (let n = a.newer refl h.0 (length y.list - 1) h.1 in let s = a.some in absurd (omega arith)))

  newer_where : (taken : Taken) (b : ℕ) → SeatAcquired taken b bank.slots r x y → taken ≡ Newer ↔ ((c p : ℕ) → x.pins.held ≡ Some (c, p) → p < length y.list - 1)
  newer_where Same b a = ((λ e. absurd (same≢newer e)), λ h. (let n = h b (length y.list - 1) (a.same refl) in absurd (omega arith)))
  newer_where Newer b a = ((λ _ c p e. (let n = a.newer refl c p e in omega arith)), λ _. refl)

  pub acquired_end : (taken : Taken) (b : ℕ) → SeatAcquired taken b bank.slots r x y → AcquiredEnd taken (reader_end bank r x) (reader_end bank r y)
  acquired_end taken b a =
      let long : length y.list ≡ length (images y.list) = sym (length-map y.list image_in_words) in
      let some = a.some in
      record {
        holds_the_last = (b, a.held ∙ ap (λ (n : ℕ). Some (b, n - 1)) long);
        has_seen = omega arith;
        knows = record {
          seen = images_begin x.list y.list a.begins;
          past = images_all x.past y.list a.pasts;
          settled = ap (map images) a.settled;
          heard = (a.heard_is, a.heard);
        };
        tells = record {
          same = subst (λ (n : ℕ). taken ≡ Same ↔ HoldsNumber old (n - 1)) long (same_where taken b a);
          newer = subst (λ (n : ℕ). taken ≡ Newer ↔ ((c p : ℕ) → x.pins.held ≡ Some (c, p) → p < n - 1)) long (newer_where taken b a);
        };
        looked = λ c p e. ap (λ (h : ℕ × ℕ). h.0) (same_Some (c, p) (b, length y.list - 1) (sym e ∙ a.held)) ∙ sym a.looked;
        does = record { buffer = b; number = length y.list - 1; deeds = a.deeds; held = a.held; did = a.did; settled = a.placed; state = a.up_to_date.state; ran = a.up_to_date.ran; current = a.up_to_date.index ∙ a.looked; seen = ap images a.up_to_date.list; holds = ap (λ (z : Reader). z.held) a.up_to_date.pins; once = a.once; first = a.first; other = a.other; last = a.last };
      }

-- the image that is held is the image of the publication with its number
pub image_held_is : (bank : TableId) (r : ℕ) (x : Reading) (b p : ℕ) → x.pins.held ≡ Some (b, p) → image_held (reader_end bank r x) ≡ image_in_words (get_or x.list p [])
image_held_is bank r x b p e = ap (λ (h : Option (ℕ × ℕ)). image_at h (images x.list)) e ∙ get_or-map image_in_words x.list p []

-- the seat of a reader that holds a buffer
pub holding : (bank bank' : TableId) (held : Option ℕ) (seat : Option (Token (Unit {0}) Known)) → ReaderKept bank held seat → (token : Token (Unit {0}) Known) (buffer : ℕ) → seat ≡ Some token → held ≡ Some buffer → bank' ≡ bank
    → IsReaderSeat token bank' (reader_in seat).0 (reader_in seat).1 × (p : ℕ) × ((reader_in seat).1.pins.held ≡ Some (buffer, p))
holding bank bank' held seat k token buffer is at same =
    let h = held_at (reader_in seat).1.pins.held buffer (sym k.held_is ∙ at) in
    (sits_at token (reader_in seat).0 (reader_in seat).1 (sym same) (sits_here bank held seat k token is), h.0, h.1)

-- a reader's seat after some Reads
pub reads_kept : (bank : TableId) (held : Option ℕ) (seat : Option (Token (Unit {0}) Known)) → ReaderKept bank held seat → (token : Token (Unit {0}) Known) (k n p : ℕ) (y : Reading) → IsReaderSeat token bank (reader_in seat).0 y → HasRead k n p bank.slots (reader_in seat).0 (reader_in seat).1 y → ReaderKept bank held (Some token)
reads_kept bank held seat k token from n p y s g = kept_by token bank (reader_in seat).0 y held s (g.follows k.follows) (ap (λ (z : Reader). z.gone) g.pins ∙ k.here) (k.held_is ∙ ap (λ (z : Reader). buffer_of z.held) (sym g.pins)) k.low

-- What `read` and `number` say of the reader, with n words from word k on.
pub record ReadEnd (k n : ℕ) (old new : ReaderEnd) : Type 0 where
  pub same_reader : (new.bank ≡ old.bank) × (new.index ≡ old.index)
  pub same : (new.held ≡ old.held) × (new.seen ≡ old.seen)
  pub does : ReadDoes k n old new
  pub run : IsRun new
  pub follows : 0 < n → FollowsTold old new
  pub known : 0 < n → (b p : ℕ) → old.held ≡ Some (b, p) → p < length new.seen

-- who has a publication of some words has it among those that it has
there : (l : List (List ℕ)) (p : ℕ) → 0 < length (get_or l p []) → p < length l
there l p some = dite (dec_le (length l) p)
    (λ past. (let z : length (get_or l p []) ≡ 0 = ap length (get_or_past l p [] past) in absurd (omega arith)))
    (λ below. omega arith)

-- n Reads from word k on of a held image leave the reader as `read` and `number` say, if its history was a run
pub read_end : (bank : TableId) → IsWide bank → (r k n b p : ℕ) (x y : Reading) → x.pins.held ≡ Some (b, p) → FollowsHistory bank.slots r x → HasRead k n p bank.slots r x y → ReadEnd k n (reader_end bank r x) (reader_end bank r y)
read_end bank wide r k n b p x y holds follows g =
    let seen : images y.list ≡ images x.list = ap images g.list in
    record {
      same_reader = (refl, refl);
      same = (ap (λ (z : Reader). z.held) g.pins, seen);
      does = record {
        words = get_or x.list p [];
        image = sym (image_held_is bank r x b p holds);
        did = g.did;
        same = λ i. record { bank = bank_of bank; index = r; held = (g.pins i).held; looked = (g.pins i).looked; seen = images (g.list i); past = map images (g.past i); history = y.history; pending = y.pending; heard = g.heard_is i };
      };
      run = run_of bank r y (g.follows follows);
      follows = λ some. record {
        past = subst (λ (l : List (List ℕ)). AllBegin (map images x.past) l) (sym seen) (images_all x.past x.list (g.pasts some));
        heard = g.heard some;
        whole = subst (λ (l : List ℕ). length l ≡ 8 * (bank.slots - 1)) (sym (image_held_is bank r x b p holds)) (image_length bank.slots (get_or x.list p []) (g.numbered some).size);
      };
      known = λ some c q e. (
          let long : length (images y.list) ≡ length x.list = ap length seen ∙ length-map x.list image_in_words in
          let below : p < length x.list = there x.list p (let size = (g.numbered some).size in let w = wide.some in omega arith) in
          let q_is : p ≡ q = ap (λ (h : ℕ × ℕ). h.1) (same_Some (b, p) (c, q) (sym holds ∙ e)) in
          omega arith
          );
    }

-- what a reader is told leaves what it holds
pub follows_told : (W r : ℕ) (x : Reading) (w : Writing) → FollowsHistory W r x → FollowsHistory W r (when_parted w r (when_joined w r x))
follows_told W r x w k = record { state = k.state; ran = k.ran; held = k.held; gone = k.gone }

-- What `tell` says.
pub record ToldEnd (writer : WriterEnd) (old new : ReaderEnd) : Type 0 where
  pub same_reader : (new.bank ≡ old.bank) × (new.index ≡ old.index)
  pub seen : new.seen ≡ writer.publications
  pub past : new.past ≡ old.seen ∷ old.past
  pub held : new.held ≡ old.held
  pub looked : new.looked ≡ writer.current
  pub history : new.history ≡ old.history
  pub heard : new.heard ≡ writer.history
  pub does : ReaderDoes old new (looked_at old.index writer.current ∷ looked_at old.index writer.current ∷ [])

-- a reader that the writer told when they were joined, and again when they were cut apart, is as `tell` says
pub told_end : (bank bank' : TableId) (r : ℕ) (x : Reading) (w : Writing) → ToldEnd (writer_end bank' w) (reader_end bank r x) (reader_end bank r (when_parted w r (when_joined w r x)))
told_end bank bank' r x w = record {
  same_reader = (refl, refl);
  seen = refl;
  past = refl;
  held = refl;
  looked = refl;
  history = refl;
  heard = refl;
  does = record { more = []; is = sym (append-nil x.history); own_is = append_assoc x.pending (looked_at r w.current ∷ []) (looked_at r w.current ∷ []) };
}

-- What `leave` says where something is held.
pub left_end : (bank : TableId) (r : ℕ) (x y : Reading) → GivesUp bank.slots true r x y → GivesBack (reader_end bank r x) (reader_end bank r y)
left_end bank r x y u = record {
  before = u.before;
  did = u.reaches.grows;
  is = ap (reader_end bank r) u.is;
  heard = u.reaches.heard;
  state = u.follows.state;
  ran = u.follows.ran;
  gone = u.follows.gone ∙ (ap (λ (z : Reading). z.pins.gone) u.is ∙ or_true x.pins.gone);
}
  where
    or_true : (t : Bool) → (t || true) ≡ true
    or_true true = refl
    or_true false = refl

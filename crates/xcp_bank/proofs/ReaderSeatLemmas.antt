-- A reader's seat before and after a step, and what several steps come to.
use Rattle.std.proofs.Common.{◌≡◌, ◌≢◌, ℕ, suc, ◌+◌, ◌-◌, ◌<◌, Bool, false, ◌||◌, List, [], ◌∷◌, ◌++◌, length, get_or, sym, refl, ap, ◌∙◌, subst, arith, Option, Some, None}
use Rattle.std.proofs.lemmas.Option.{none-some, same_Some}
use Rattle.atomic_table.specs.Seated.{TableId}
use Rattle.atomic_table.specs.Table.{Step}
use Rattle.atomic_table.specs.declared.shared.Seat.{Seat as Token}
use Rattle.xcp_bank.specs.TableRule.{IsNumbered}
use mathlib.Core.List.{IsPrefix}
use Rattle.xcp_bank.specs.SeatKnowledge.{AllBegin, Reading, Known, one_reader}
use Rattle.xcp_bank.specs.PinHistory.{Deed, Grows, Does, has_read, reads_of, looked_at, pinned_at, given_up}
use Rattle.xcp_bank.specs.private.ReaderSteps.{Seat, reader_plays, Finds, GivesUp, UpToDate, FollowsHistory, reading_after_unpin}
use Rattle.xcp_bank.specs.declared.taken.Taken.{Taken}
use Rattle.xcp_bank.specs.declared.taken.Taken.TheVariants.{Same, Newer}
use Rattle.xcp_bank.specs.private.SeatSteps.{IsReaderSeat, HasRead, WordRead, buffer_of, LookedAt, PinnedAt, SeatAcquired}
use Rattle.xcp_bank.proofs.PrefixLemmas.{begins_again, all_again, begins_length}
use Rattle.xcp_bank.proofs.HistoryLemmas.{does_step, does_again, does_none, reads_more, begins_more}

module _ (after : ℕ → Reading → ℕ → Reading → Type 0) (st : Step (Unit {0})) (a b : Token (Unit {0}) Known) (n : ℕ) (bank : TableId) where
  pub after_step : b.table_id ≡ a.table_id → reader_plays after st a.me n b.me → (r : ℕ) (x : Reading) → IsReaderSeat a bank r x → (y : Reading) × IsReaderSeat b bank r y × after r x n y
  after_step same plays r x s =
      let p = plays r x (ap (λ (m : Seat). m.0) s.me) in
      (p.0, record { bank_is = same ∙ s.bank_is; wide = s.wide; me = p.1 ∙ ap (λ (m : Seat). (one_reader r p.0, m.1)) s.me }, p.2)

-- what word 0 tells is a buffer
pub below_the_buffers : (r : ℕ) (x : Reading) (n index : ℕ) (list : List (List ℕ)) (before : List Deed) → Finds r x n index list before → n < 34359738368
below_the_buffers r x n index list before g = let low = g.buffer in let few = g.few in let head = g.head in omega arith

-- two readers, with what they know, for which one seat stands are the same
pub sits_one : (a : Token (Unit {0}) Known) (bank : TableId) (r q : ℕ) (x u : Reading) → IsReaderSeat a bank r x → IsReaderSeat a bank q u → ◌≡◌ {A = ℕ × Reading} (r, x) (q, u)
sits_one a bank r q x u s t = let e : ◌≡◌ {A = List (ℕ × Reading)} ((r, x) ∷ []) ((q, u) ∷ []) = ap (λ (m : Seat). m.0.readers) (sym s.me ∙ t.me) in cc

-- where buffer b is held, some publication is held there
pub held_at : (o : Option (ℕ × ℕ)) (b : ℕ) → buffer_of o ≡ Some b → (p : ℕ) × (o ≡ Some (b, p))
held_at None b e = absurd (none-some b e)
held_at (Some h) b e = (h.1, ap (λ (k : ℕ). Some (k, h.1)) (same_Some h.0 b e))

-- where no buffer is held, nothing is
pub held_none : (o : Option (ℕ × ℕ)) → buffer_of o ≡ None → o ≡ None
held_none None e = refl
held_none (Some h) e = absurd (none-some h.0 (sym e))

abbrev IsSame : Taken → Type 0
IsSame Same = Unit {0}
IsSame Newer = ⊥

-- the two answers of an acquire differ
pub same≢newer : Same ≢ Newer
same≢newer e = subst IsSame e tt

-- nothing was held: a Pin
pub acquired_first : (W r : ℕ) (x y : Reading) (buffer : ℕ) → x.pins.gone ≡ false → x.pins.held ≡ None → PinnedAt buffer W r x y → SeatAcquired Newer buffer W r x y
acquired_first W r x y buffer here free p =
    let k = p.1 in let some = k.finds.some in
    subst (λ (i : ℕ). SeatAcquired Newer i W r x y) (sym p.2) (subst (SeatAcquired Newer k.index W r x) (sym k.is) record {
      low = k.finds.buffer;
      some = some;
      begins = k.finds.begins;
      pasts = k.finds.pasts;
      settled = refl;
      held = refl;
      looked = refl;
      here = here;
      placed = refl;
      heard_is = refl;
      heard = begins_more x.heard k.before (pinned_at r k.index) k.finds.reaches.heard;
      up_to_date = subst (UpToDate W r) k.is k.up_to_date;
      deeds = pinned_at r k.index ∷ [];
      did = does_step (suc r) x.history x.pending k.before (pinned_at r k.index) refl k.finds.reaches.grows;
      once = λ e. absurd (same≢newer (sym e));
      first = λ _. refl;
      other = λ _ b q e. absurd (none-some (b, q) (sym free ∙ e));
      last = λ _. (k.before, refl);
      same = λ e. absurd (same≢newer (sym e));
      newer = λ _ b q e. absurd (none-some (b, q) (sym free ∙ e));
    })

-- what was held is current: a Look
pub acquired_same : (W r : ℕ) (x y : Reading) (buffer p : ℕ) → x.pins.gone ≡ false → x.pins.held ≡ Some (buffer, p) → LookedAt buffer W r x y → SeatAcquired Same buffer W r x y
acquired_same W r x y buffer p here holds l =
    let k = l.1 in let at : buffer ≡ k.index = l.2 in
    let newest = k.current buffer p holds at in
    let number : p ≡ length k.list - 1 = omega arith in
    let low = k.finds.buffer in
    subst (SeatAcquired Same buffer W r x) (sym k.is) record {
      low = omega arith;
      some = k.finds.some;
      begins = k.finds.begins;
      pasts = k.finds.pasts;
      settled = refl;
      held = holds ∙ ap (λ (m : ℕ). Some (buffer, m)) number;
      looked = sym at;
      here = here;
      placed = refl;
      heard_is = refl;
      heard = begins_more x.heard k.before (looked_at r k.index) k.finds.reaches.heard;
      up_to_date = subst (UpToDate W r) k.is k.up_to_date;
      deeds = looked_at r k.index ∷ [];
      did = does_step (suc r) x.history x.pending k.before (looked_at r k.index) refl k.finds.reaches.grows;
      once = λ _. (ap (λ (i : ℕ). looked_at r i ∷ []) (sym at), (k.before, ap (λ (i : ℕ). k.before ++ looked_at r i ∷ []) (sym at)));
      first = λ e. absurd (none-some (buffer, p) (sym e ∙ holds));
      other = λ e. absurd (same≢newer e);
      last = λ e. absurd (same≢newer e);
      same = λ _. holds ∙ ap (λ (m : ℕ). Some (buffer, m)) number;
      newer = λ e. absurd (same≢newer e);
    }

-- another buffer is current: a Look, an Unpin and a Pin
pub acquired_other : (W r : ℕ) (x y z u : Reading) (other old buffer p : ℕ) → x.pins.gone ≡ false → x.pins.held ≡ Some (old, p) → LookedAt other W r x y → old ≢ other → GivesUp W false r y z → PinnedAt buffer W r z u → SeatAcquired Newer buffer W r x u
acquired_other W r x y z u other old buffer p here holds l ne v m =
    let g = l.1 in
    let m' : PinnedAt buffer W r (reading_after_unpin r false v.before y) u = subst (λ (a : Reading). PinnedAt buffer W r a u) v.is m in
    let k = m'.1 in
    let apart : old ≢ g.index = λ e. ne (e ∙ sym l.2) in
    let known = g.known old p holds in
    let unlike : p + 1 ≢ length g.list = λ e. apart (g.newest old p holds e) in
    let list_is : y.list ≡ g.list = ap (λ (v : Reading). v.list) g.is in
    let begins : IsPrefix g.list k.list = subst (λ (v : List (List ℕ)). IsPrefix v k.list) list_is k.finds.begins in
    let more = begins_length g.list k.list begins in
    let some = k.finds.some in
    let h : List Deed = g.before ++ looked_at r g.index ∷ [] in
    let v_grows : Grows (suc r) h v.before [] = subst (λ (a : Reading). Grows (suc r) a.history v.before a.pending) g.is v.reaches.grows in
    let did_look = does_step (suc r) x.history x.pending g.before (looked_at r g.index) refl g.finds.reaches.grows in
    let did_unpin = does_step (suc r) h [] v.before (given_up r false) refl v_grows in
    let did_pin = does_step (suc r) (v.before ++ given_up r false ∷ []) [] k.before (pinned_at r k.index) refl k.finds.reaches.grows in
    let did_both = does_again (suc r) x.history x.pending h [] (v.before ++ given_up r false ∷ []) [] (looked_at r g.index ∷ []) (given_up r false ∷ []) did_look did_unpin in
    let gone_is : y.pins.gone ≡ x.pins.gone = ap (λ (v : Reading). v.pins.gone) g.is in
    let heard_is : y.heard ≡ x.heard = ap (λ (v : Reading). v.heard) g.is in
    subst (λ (i : ℕ). SeatAcquired Newer i W r x u) (sym m'.2) (subst (SeatAcquired Newer k.index W r x) (sym k.is) record {
      low = k.finds.buffer;
      some = some;
      begins = begins_again x.list g.list k.list g.finds.begins begins;
      pasts = all_again x.past g.list k.list g.finds.pasts begins;
      settled = refl;
      held = refl;
      looked = refl;
      here = ap (λ (t : Bool). t || false) (gone_is ∙ here);
      placed = refl;
      heard_is = heard_is;
      heard = subst (λ (l : List Deed). IsPrefix l (k.before ++ pinned_at r k.index ∷ [])) heard_is (begins_more y.heard k.before (pinned_at r k.index) k.finds.reaches.heard);
      up_to_date = subst (UpToDate W r) k.is k.up_to_date;
      deeds = looked_at r g.index ∷ given_up r false ∷ pinned_at r k.index ∷ [];
      did = does_again (suc r) x.history x.pending (v.before ++ given_up r false ∷ []) [] (k.before ++ pinned_at r k.index ∷ []) [] (looked_at r g.index ∷ given_up r false ∷ []) (pinned_at r k.index ∷ []) did_both did_pin;
      once = λ e. absurd (same≢newer (sym e));
      first = λ e. absurd (none-some (old, p) (sym e ∙ holds));
      other = λ _ b q e. (let same : old ≡ b = ap (λ (a : ℕ × ℕ). a.0) (same_Some (old, p) (b, q) (sym holds ∙ e)) in (g.index, (λ i. apart (same ∙ sym i)), refl));
      last = λ _. (k.before, refl);
      same = λ e. absurd (same≢newer (sym e));
      newer = λ _ b q e. (let same : p ≡ q = ap (λ (h : ℕ × ℕ). h.1) (same_Some (old, p) (b, q) (sym holds ∙ e)) in omega arith);
    })

-- Reads

-- a reader that stays as it was has read no words
pub read_none : (W r : ℕ) (x : Reading) (from n p : ℕ) → n ≡ 0 → HasRead from n p W r x x
read_none W r x from n p e = record {
  pins = refl;
  list = refl;
  past = refl;
  heard_is = refl;
  follows = (λ f. f);
  numbered = (λ some. absurd (omega arith));
  pasts = (λ some. absurd (omega arith));
  heard = (λ some. absurd (omega arith));
  did = subst (λ (m : ℕ). Does (suc r) x.history x.pending x.history x.pending (reads_of r (get_or x.list p []) from m)) (sym e) (does_none (suc r) x.history x.pending);
}

-- n Reads from a word on and a Read of the next word, of one publication, are n + 1 Reads from there on
pub read_more : (W r : ℕ) (x y z : Reading) (from n m p k v : ℕ) → HasRead from n p W r x y → WordRead k p v W r y z → from + n ≡ k → suc n ≡ m → HasRead from m p W r x z
read_more W r x y z from n m p k v g w at next =
    let words : List ℕ = get_or x.list p [] in
    let value : v ≡ get_or words k 0 = w.value ∙ ap (λ (l : List (List ℕ)). get_or (get_or l p []) k 0) g.list in
    let h : List Deed = w.before ++ has_read r k v ∷ [] in
    subst (HasRead from m p W r x) (sym w.is) record {
      pins = g.pins;
      list = g.list;
      past = g.past;
      heard_is = g.heard_is;
      follows = λ _. subst (FollowsHistory W r) w.is w.follows;
      numbered = λ _. subst (λ (l : List (List ℕ)). IsNumbered W p (get_or l p [])) g.list w.numbered;
      pasts = λ _. subst (λ (l : List (List ℕ)). AllBegin x.past l) g.list (subst (λ (ls : List (List (List ℕ))). AllBegin ls y.list) g.past w.pasts);
      heard = λ _. subst (λ (l : List Deed). IsPrefix l h) g.heard_is (begins_more y.heard w.before (has_read r k v) w.reaches.heard);
      did = subst (λ (j : ℕ). Does (suc r) x.history x.pending h [] (reads_of r words from j)) next
          (subst (Does (suc r) x.history x.pending h []) (reads_more r words from n k v at value)
          (does_again (suc r) x.history x.pending y.history y.pending h [] (reads_of r words from n) (has_read r k v ∷ []) g.did (does_step (suc r) y.history y.pending w.before (has_read r k v) refl w.reaches.grows)));
    }

-- What keeps the lists lawful.
use Rattle.std.proofs.Common.{◌≡◌, ◌≢◌, ℕ, zero, suc, ◌+◌, ◌<◌, ◌≤◌, Bool, true, false, List, [], ◌∷◌, ◌++◌, length, map, get_or, slice_set, Option, Some, None, ap, sym, ◌∙◌, refl, subst, arith, length-append, All, inl, inr, eqb-true}
use Rattle.std.specs.Prelude.{replicate}
use Rattle.std.specs.List.{flat_map, list_any}
use Rattle.std.proofs.lemmas.Bool.{cases_order}
use Rattle.std.proofs.lemmas.Grind.{flat_map-append}
use Rattle.std.proofs.lemmas.List.{length-set, get_or-set_same, get_or-set_other, get_or_append_left, length-map, length-replicate, get_or-map, append-nil, map-append, set-set}
use Rattle.std.proofs.lemmas.List.Folds.{list_any_at}
use Rattle.std.proofs.lemmas.Bool.Decides.{nat_tests}
use Rattle.std.specs.Prelude.{nat_lt, if◌then◌else◌}
use Rattle.std.specs.Prelude.{◌&&◌, ◌==◌, ◌%◌, ◌^◌, not}
use Rattle.xcp_memory.specs.ClassLimits.{limits_of}
use Rattle.xcp_packet.specs.declared.Stamp.{Stamp}
use Rattle.xcp_daq.specs.declared.mode.Mode.{Mode}
use Rattle.xcp_daq.specs.Configuring.{moved_on, cleared, clear_daq_list_after}
use Rattle.xcp_daq.specs.Starting.{stopped, started, synchronised}
use Rattle.xcp_daq.specs.Sample.{counts, counted}
use Rattle.std.proofs.lemmas.List.Elements.{All-set, All-append, All-replicate, All-map}
use Rattle.xcp_daq.specs.declared.element.Element.{Element}
use Rattle.xcp_daq.specs.declared.pointer.Pointer.{Pointer}
use Rattle.xcp_daq.specs.declared.allocation.Allocation.{Allocation}
use Rattle.xcp_daq.specs.DaqLists.{DaqValue, DaqList, no_list, list_at, odt_at, all_odts, all_entries, with_list}
use Rattle.xcp_daq.specs.DaqInvariant.{IsEntry, FitsPackets, IsList, IsPointer, IsPointerOf, IsDaq}
use Rattle.xcp_daq.specs.Pools.{joined, list_of, lists_of}
use Rattle.xcp_daq.proofs.DaqListLemmas.{new_mode, list_of_is, length-lists, default_free}

module _ {A B : Type 0} where
  -- the length of a concatenation when one list gives way to another
  pub length_set : (f : A → List B) (xs : List A) (i : ℕ) (y d : A) → i < length xs → length (flat_map f (slice_set xs i y)) + length (f (get_or xs i d)) ≡ length (flat_map f xs) + length (f y)
  length_set f [] i y d h = absurd (omega arith)
  length_set f (x ∷ xs) zero y d h = omega (arith, length-append (f x) (flat_map f xs), length-append (f y) (flat_map f xs))
  length_set f (x ∷ xs) (suc i) y d h = omega (arith, length-append (f x) (flat_map f xs), length-append (f x) (flat_map f (slice_set xs i y)), length_set f xs i y d (omega arith))

module _ {B : Type 0} where
  -- a fact of each element of a concatenation, list by list
  pub all_left : (P : B → Type 0) (xs ys : List B) → All P (xs ++ ys) → All P xs
  all_left P xs ys h k d below = subst P (get_or_append_left xs ys d k below) (h k d (omega (arith, length-append xs ys)))

  pub all_right : (P : B → Type 0) (xs ys : List B) → All P (xs ++ ys) → All P ys
  all_right P [] ys h = h
  all_right P (x ∷ xs) ys h = all_right P xs ys (λ k d below. h (suc k) d (omega arith))

module _ {A B : Type 0} where
  pub all_set : (P : B → Type 0) (f : A → List B) (xs : List A) (i : ℕ) (y : A) → All P (flat_map f xs) → All P (f y) → All P (flat_map f (slice_set xs i y))
  all_set P f [] i y h k = h
  all_set P f (x ∷ xs) zero y h k = All-append P (f y) (flat_map f xs) k (all_right P (f x) (flat_map f xs) h)
  all_set P f (x ∷ xs) (suc i) y h k = All-append P (f x) (flat_map f (slice_set xs i y)) (all_left P (f x) (flat_map f xs) h) (all_set P f xs i y (all_right P (f x) (flat_map f xs) h) k)

  pub all_part : (P : B → Type 0) (f : A → List B) (xs : List A) (i : ℕ) (d : A) → i < length xs → All P (flat_map f xs) → All P (f (get_or xs i d))
  all_part P f [] i d below h = absurd (omega arith)
  all_part P f (x ∷ xs) zero d below h = all_left P (f x) (flat_map f xs) h
  all_part P f (x ∷ xs) (suc i) d below h = all_part P f xs i d (omega arith) (all_right P (f x) (flat_map f xs) h)

-- all entries, list by list
pub entries_by_list : (lists : List DaqList) → all_entries lists ≡ flat_map (λ l. joined l.odts) lists
entries_by_list [] = refl
entries_by_list (l ∷ lists) = flat_map-append (λ odt. odt) l.odts (all_odts lists) ∙ ap (λ xs. joined l.odts ++ xs) (entries_by_list lists)

-- these ODTs have at least the entries of those
pub record Grows (was now : List (List (Option Element))) : Type 0 where
  pub odts : length was ≤ length now
  pub entries : (j : ℕ) → j < length was → length (get_or was j []) ≤ length (get_or now j [])

-- ODTs that stay the same have at least the entries that they had
pub same_grows : (was now : List (List (Option Element))) → was ≡ now → Grows was now
same_grows was now e = record { odts = omega (arith, ap length e); entries = λ j h. omega (arith, ap (λ (os : List (List (Option Element))). length (get_or os j [])) e) }

-- lists that have at least the entries of those keep a pointer in the tree
pub pointer_kept : (v w : DaqValue) (p : Option Pointer) → length v.lists ≤ length w.lists → ((i : ℕ) → i < length v.lists → Grows (list_at v i).odts (list_at w i).odts) → IsPointerOf v p → IsPointerOf w p
pointer_kept v w None more g h = tt
pointer_kept v w (Some p) more g h =
    let grows = g p.list h.list in
    let list = h.list in
    let odt = h.odt in
    let entry = h.entry in
    let odts = grows.odts in
    let entries = grows.entries p.odt odt in
    record { list = omega arith; odt = omega arith; entry = omega arith }

-- every list grows, where list i does
grown_by : (v : DaqValue) (i : ℕ) (l : DaqList) → Grows (list_at v i).odts l.odts → i < length v.lists → (k : ℕ) → k < length v.lists → Grows (list_at v k).odts (list_at (with_list v i l) k).odts
grown_by v i l g below k h =
    elim (cases_order k i) [
      | inl e ↦ subst (λ (n : ℕ). Grows (list_at v n).odts (list_at (with_list v i l) n).odts) (sym e) (subst (λ (x : DaqList). Grows (list_at v i).odts x.odts) (sym (get_or-set_same v.lists i l no_list below)) g)
      | inr o ↦ let other : k ≢ i = elim o [ inl a ↦ omega arith | inr a ↦ omega arith ] in same_grows _ _ (ap (λ (x : DaqList). x.odts) (sym (get_or-set_other v.lists i k l no_list other)))
    ]

-- list i gives way to a lawful one with room for all
pub lawful_with : (v : DaqValue) (i : ℕ) (l : DaqList) → IsDaq v → i < length v.lists → IsList l → length (all_odts v.lists) + length l.odts ≤ (limits_of v.class).odts + length (list_at v i).odts → length (all_entries v.lists) + length (joined l.odts) ≤ (limits_of v.class).entries + length (joined (list_at v i).odts) → All IsEntry (joined l.odts) → Grows (list_at v i).odts l.odts → IsDaq (with_list v i l)
lawful_with v i l h below lawful odts entries written grows =
    let lists : List DaqList = slice_set v.lists i l in
    let new = entries_by_list lists in
    let old = entries_by_list v.lists in
    record {
      lists = omega (arith, h.lists, length-set v.lists i l);
      odts = omega (arith, h.odts, length_set (λ (x : DaqList). x.odts) v.lists i l no_list below);
      entries = omega (arith, h.entries, ap length new, ap length old, length_set (λ (x : DaqList). joined x.odts) v.lists i l no_list below);
      each = All-set IsList v.lists i l lawful h.each;
      written = subst (All IsEntry) (sym new) (all_set IsEntry (λ (x : DaqList). joined x.odts) v.lists i l (subst (All IsEntry) old h.written) written);
      pointer = pointer_kept v (with_list v i l) v.pointer (omega (arith, length-set v.lists i l)) (grown_by v i l grows below) h.pointer;
    }

-- another last allocating command, another pointer
pub lawful_last : (v : DaqValue) (a : Option Allocation) → IsDaq v → IsDaq (record v { last = a })
lawful_last v a h = record { lists = h.lists; odts = h.odts; entries = h.entries; each = h.each; written = h.written; pointer = pointer_kept v (record v { last = a }) v.pointer (omega arith) (λ i k. same_grows _ _ refl) h.pointer }

-- lists stay lawful with another pointer that names an entry, or with none
pub lawful_pointer : (v : DaqValue) (p : Option Pointer) → IsDaq v → IsPointerOf v p → IsDaq (record v { pointer = p })
lawful_pointer v p h k = record { lists = h.lists; odts = h.odts; entries = h.entries; each = h.each; written = h.written; pointer = pointer_kept v (record v { pointer = p }) p (omega arith) (λ i below. same_grows _ _ refl) k }

-- a new list
pub lawful_new : IsList no_list
lawful_new = record { event = omega arith; prescaler_least = omega arith; prescaler_most = omega arith; priority = omega arith; since = omega arith; still = λ e. refl; fits = λ e. cc }

no_odts : (n : ℕ) → all_odts (replicate n no_list) ≡ []
no_odts zero = refl
no_odts (suc n) = no_odts n

-- new lists behind the others
pub lawful_added : (v : DaqValue) (n : ℕ) → IsDaq v → length v.lists + n ≤ (limits_of v.class).lists → IsDaq (record v { lists = v.lists ++ replicate n no_list })
lawful_added v n h few =
    let w : DaqValue = record v { lists = v.lists ++ replicate n no_list } in
    let odts : all_odts w.lists ≡ all_odts v.lists = flat_map-append (λ (x : DaqList). x.odts) v.lists (replicate n no_list) ∙ ap (λ xs. all_odts v.lists ++ xs) (no_odts n) ∙ append-nil (all_odts v.lists) in
    let entries : all_entries w.lists ≡ all_entries v.lists = ap joined odts in
    let long = length-append v.lists (replicate n no_list) in
    record {
      lists = omega (arith, long, length-replicate n no_list);
      odts = omega (arith, h.odts, ap length odts);
      entries = omega (arith, h.entries, ap length entries);
      each = All-append IsList v.lists (replicate n no_list) h.each (All-replicate IsList n no_list lawful_new);
      written = subst (All IsEntry) (sym entries) h.written;
      pointer = pointer_kept v w v.pointer (omega arith) (λ i below. same_grows _ _ (ap (λ (x : DaqList). x.odts) (sym (get_or_append_left v.lists (replicate n no_list) no_list i below)))) h.pointer;
    }

same_odts : (g : DaqList → DaqList) → ((l : DaqList) → (g l).odts ≡ l.odts) → (lists : List DaqList) → all_odts (map g lists) ≡ all_odts lists
same_odts g same [] = refl
same_odts g same (l ∷ lists) = ap (λ odts. odts ++ all_odts (map g lists)) (same l) ∙ ap (λ xs. l.odts ++ xs) (same_odts g same lists)

-- each list changes, but for its ODTs
pub lawful_map : (g : DaqList → DaqList) (v : DaqValue) → ((l : DaqList) → (g l).odts ≡ l.odts) → ((i : ℕ) → i < length v.lists → IsList (g (list_at v i))) → IsDaq v → IsDaq (record v { lists = map g v.lists })
lawful_map g v same each h =
    let w : DaqValue = record v { lists = map g v.lists } in
    let odts = same_odts g same v.lists in
    let entries : all_entries w.lists ≡ all_entries v.lists = ap joined odts in
    let long = length-map v.lists g in
    record {
      lists = omega (arith, h.lists, long);
      odts = omega (arith, h.odts, ap length odts);
      entries = omega (arith, h.entries, ap length entries);
      each = λ k d below. subst IsList (sym (get_or-map g v.lists k no_list d (omega (arith, long)))) (each k (omega (arith, long)));
      written = subst (All IsEntry) (sym entries) h.written;
      pointer = pointer_kept v w v.pointer (omega (arith, long)) (λ i below. same_grows _ _ (sym (same (list_at v i)) ∙ ap (λ (x : DaqList). x.odts) (sym (get_or-map g v.lists i no_list no_list below)))) h.pointer;
    }

-- the entries of list i are lawful
pub written_at_list : (v : DaqValue) (i : ℕ) → IsDaq v → i < length v.lists → All IsEntry (joined (list_at v i).odts)
written_at_list v i h below = all_part IsEntry (λ (x : DaqList). joined x.odts) v.lists i no_list below (subst (All IsEntry) (entries_by_list v.lists) h.written)

-- list i has another lawful mode
pub lawful_mode : (v : DaqValue) (i : ℕ) (l : DaqList) → IsDaq v → i < length v.lists → IsList l → l.odts ≡ (list_at v i).odts → IsDaq (with_list v i l)
lawful_mode v i l h below lawful same =
    lawful_with v i l h below lawful (omega (arith, h.odts, ap length same)) (omega (arith, h.entries, ap (λ (os : List (List (Option Element))). length (joined os)) same))
    (subst (λ (os : List (List (Option Element))). All IsEntry (joined os)) (sym same) (written_at_list v i h below)) (same_grows _ _ (sym same))

-- a list that is stopped may have any ODTs
pub lawful_odts : (l : DaqList) (os : List (List (Option Element))) → IsList l → l.running ≡ false → IsList (record l { odts = os })
lawful_odts l os h still = record { event = h.event; prescaler_least = h.prescaler_least; prescaler_most = h.prescaler_most; priority = h.priority; since = h.since; still = h.still; fits = λ e. cc }

-- list i, stopped, has other ODTs
pub lawful_grown : (v : DaqValue) (i : ℕ) (os : List (List (Option Element))) → IsDaq v → i < length v.lists → (list_at v i).running ≡ false → length (all_odts v.lists) + length os ≤ (limits_of v.class).odts + length (list_at v i).odts → length (all_entries v.lists) + length (joined os) ≤ (limits_of v.class).entries + length (joined (list_at v i).odts) → All IsEntry (joined os) → Grows (list_at v i).odts os → IsDaq (with_list v i (record (list_at v i) { odts = os }))
lawful_grown v i os h below still odts entries written grows =
    lawful_with v i (record (list_at v i) { odts = os }) h below (lawful_odts (list_at v i) os (h.each i no_list below) still) odts entries written grows

empty_odts : (n : ℕ) → joined (replicate {A = List (Option Element)} n []) ≡ []
empty_odts zero = refl
empty_odts (suc n) = empty_odts n

-- new ODTs of list i
pub lawful_more_odts : (v : DaqValue) (i n : ℕ) → IsDaq v → i < length v.lists → (list_at v i).running ≡ false → length (all_odts v.lists) + n ≤ (limits_of v.class).odts → IsDaq (with_list v i (record (list_at v i) { odts = (list_at v i).odts ++ replicate n [] }))
lawful_more_odts v i n h below still room =
    let os : List (List (Option Element)) = (list_at v i).odts in
    let new : List (List (Option Element)) = os ++ replicate n [] in
    let long = length-append os (replicate n []) in
    let entries : joined new ≡ joined os = flat_map-append (λ odt. odt) os (replicate n []) ∙ ap (λ xs. joined os ++ xs) (empty_odts n) ∙ append-nil (joined os) in
    let grows : Grows os new = record { odts = omega arith; entries = λ j k. omega (arith, ap length (get_or_append_left os (replicate n []) [] j k)) } in
    lawful_grown v i new h below still (omega (arith, long, length-replicate {A = List (Option Element)} n [])) (omega (arith, h.entries, ap length entries)) (subst (All IsEntry) (sym entries) (written_at_list v i h below)) grows

-- ODT j gives way to one with no fewer entries
grows_at : (os : List (List (Option Element))) (j : ℕ) (odt : List (Option Element)) → length (get_or os j []) ≤ length odt → Grows os (slice_set os j odt)
grows_at os j odt more = record {
  odts = omega (arith, length-set os j odt);
  entries = λ k below. elim (cases_order k j) [
    | inl e ↦ subst (λ (n : ℕ). length (get_or os n []) ≤ length (get_or (slice_set os j odt) n [])) (sym e) (let at : j < length os = omega arith in omega (arith, more, ap length (get_or-set_same os j odt [] at)))
    | inr o ↦ let other : k ≢ j = elim o [ inl a ↦ omega arith | inr a ↦ omega arith ] in omega (arith, ap length (get_or-set_other os j k odt [] other))
  ];
}

-- other entries in ODT j of list i, no fewer
pub lawful_entries : (v : DaqValue) (i j : ℕ) (odt : List (Option Element)) → IsDaq v → i < length v.lists → j < length (list_at v i).odts → (list_at v i).running ≡ false → length (odt_at v i j) ≤ length odt → length (all_entries v.lists) + length odt ≤ (limits_of v.class).entries + length (odt_at v i j) → All IsEntry odt → IsDaq (with_list v i (record (list_at v i) { odts = slice_set (list_at v i).odts j odt }))
lawful_entries v i j odt h below place still more room written =
    let os : List (List (Option Element)) = (list_at v i).odts in
    let counted = length_set (λ (x : List (Option Element)). x) os j odt [] place in
    lawful_grown v i (slice_set os j odt) h below still (omega (arith, h.odts, length-set os j odt)) (omega (arith, counted)) (all_set IsEntry (λ (x : List (Option Element)). x) os j odt (written_at_list v i h below) written) (grows_at os j odt more)

-- the entries of ODT j of list i are lawful
pub written_at_odt : (v : DaqValue) (i j : ℕ) → IsDaq v → i < length v.lists → j < length (list_at v i).odts → All IsEntry (odt_at v i j)
written_at_odt v i j h below place = all_part IsEntry (λ (x : List (Option Element)). x) (list_at v i).odts j [] place (written_at_list v i h below)

-- lists stay lawful with n unwritten entries more in an ODT of a stopped list, if there are then no more than the class has
pub lawful_more_entries : (v : DaqValue) (i j n : ℕ) → IsDaq v → i < length v.lists → j < length (list_at v i).odts → (list_at v i).running ≡ false → length (all_entries v.lists) + n ≤ (limits_of v.class).entries → IsDaq (with_list v i (record (list_at v i) { odts = slice_set (list_at v i).odts j (odt_at v i j ++ replicate n None) }))
lawful_more_entries v i j n h below place still room =
    let odt : List (Option Element) = odt_at v i j in
    let long : length (odt ++ replicate n None) ≡ length odt + n = omega (arith, length-append odt (replicate n None), length-replicate {A = Option Element} n None) in
    lawful_entries v i j (odt ++ replicate n None) h below place still (omega arith) (omega arith) (All-append IsEntry odt (replicate n None) (written_at_odt v i j h below place) (All-replicate IsEntry n None tt))

-- lists stay lawful where a lawful element is written into an entry of a stopped list
pub lawful_entry : (v : DaqValue) (i j k : ℕ) (e : Element) → IsDaq v → i < length v.lists → j < length (list_at v i).odts → (list_at v i).running ≡ false → IsEntry (Some e) → IsDaq (with_list v i (record (list_at v i) { odts = slice_set (list_at v i).odts j (slice_set (odt_at v i j) k (Some e)) }))
lawful_entry v i j k e h below place still lawful =
    let odt : List (Option Element) = odt_at v i j in
    let long = length-set odt k (Some e) in
    lawful_entries v i j (slice_set odt k (Some e)) h below place still (omega arith) (omega (arith, h.entries)) (All-set IsEntry odt k (Some e) lawful (written_at_odt v i j h below place))

-- an entry without its element
abbrev bare : Option Element → Option Element
bare entry = None

joined_bare : (os : List (List (Option Element))) → joined (map (map bare) os) ≡ map bare (joined os)
joined_bare [] = refl
joined_bare (o ∷ os) = ap (λ xs. map bare o ++ xs) (joined_bare os) ∙ sym (map-append bare o (joined os))

-- lists stay lawful where all entries of a stopped list lose their elements
pub lawful_bare : (v : DaqValue) (i : ℕ) → IsDaq v → i < length v.lists → (list_at v i).running ≡ false → IsDaq (with_list v i (record (list_at v i) { odts = map (map (λ entry. None)) (list_at v i).odts }))
lawful_bare v i h below still =
    let os : List (List (Option Element)) = (list_at v i).odts in
    let new : List (List (Option Element)) = map (map bare) os in
    let entries = joined_bare os in
    let grows : Grows os new = record { odts = omega (arith, length-map os (map bare)); entries = λ j k. omega (arith, ap length (get_or-map (map bare) os j [] [] k), length-map (get_or os j []) bare) } in
    lawful_grown v i new h below still (omega (arith, h.odts, length-map os (map bare))) (omega (arith, h.entries, ap length entries, length-map (joined os) bare)) (subst (All IsEntry) (sym entries) (All-map IsEntry bare (joined os) (λ k d b. tt))) grows

still_by : (lists : List DaqList) (i : ℕ) → i < length lists → list_any (λ l. l.running) lists ≡ false → (b : Bool) → (get_or lists i no_list).running ≡ b → b ≡ false
still_by lists i below none false e = refl
still_by lists i below none true e = let some = list_any_at (λ (l : DaqList). l.running) lists i no_list below e in cc

-- no list runs where none is found running
pub stands_still : (lists : List DaqList) (i : ℕ) → i < length lists → list_any (λ l. l.running) lists ≡ false → (get_or lists i no_list).running ≡ false
stands_still lists i below none = still_by lists i below none (get_or lists i no_list).running refl

moved_by_test : (v : DaqValue) (p : Pointer) → IsPointer v p → (b : Bool) → nat_lt (p.entry + 1) (length (odt_at v p.list p.odt)) ≡ b → IsPointerOf v (if b then Some (record p { entry = p.entry + 1 }) else None)
moved_by_test v p h false e = tt
moved_by_test v p h true e =
    let more : p.entry + 1 < length (odt_at v p.list p.odt) = grind (arith, nat_tests) in
    record { list = h.list; odt = h.odt; entry = more }

-- the pointer moved on is in the tree
pub moved_in : (v : DaqValue) (p : Pointer) → IsPointer v p → IsPointerOf v (moved_on v p)
moved_in v p h = moved_by_test v p h (nat_lt (p.entry + 1) (length (odt_at v p.list p.odt))) refl

-- the mode of a lawful list, with other values that are lawful
pub lawful_bound : (l : DaqList) (m : Mode) (event prescaler priority : ℕ) (stamp : Stamp) → list_of m l.odts ≡ l → IsList l → l.running ≡ false → event < 2 ^ 16 → 1 ≤ prescaler → prescaler ≤ 255 → priority ≤ 255 → IsList (list_of (record m { event = event; prescaler = prescaler; priority = priority; stamp = stamp }) l.odts)
lawful_bound l m event prescaler priority stamp is h still a b c d =
    let running = ap (λ (x : DaqList). x.running) is in
    let since : m.since ≡ 0 = ap (λ (x : DaqList). x.since) is ∙ h.still still in
    record { event = a; prescaler_least = b; prescaler_most = c; priority = d; since = omega arith; still = λ e. since; fits = λ e. cc }

-- a lawful list that is stopped, its count of events 0, is lawful, selected or not
pub lawful_stopped : (l : DaqList) (m : Mode) (selected : Bool) → list_of m l.odts ≡ l → IsList l → IsList (list_of (record m { running = false; selected = selected; since = 0 }) l.odts)
lawful_stopped l m selected is h =
    let event = ap (λ (x : DaqList). x.event) is in
    let prescaler = ap (λ (x : DaqList). x.prescaler) is in
    let priority = ap (λ (x : DaqList). x.priority) is in
    record { event = omega (arith, h.event); prescaler_least = omega (arith, h.prescaler_least); prescaler_most = omega (arith, h.prescaler_most); priority = omega (arith, h.priority); since = omega (arith, h.prescaler_least); still = λ e. refl; fits = λ e. cc }

-- a lawful list that is started, its count of events 0, is lawful, if its ODTs have room
pub lawful_started : (l : DaqList) (m : Mode) (selected : Bool) → list_of m l.odts ≡ l → IsList l → FitsPackets l.stamp l.odts → IsList (list_of (record m { running = true; selected = selected; since = 0 }) l.odts)
lawful_started l m selected is h small =
    let event = ap (λ (x : DaqList). x.event) is in
    let prescaler = ap (λ (x : DaqList). x.prescaler) is in
    let priority = ap (λ (x : DaqList). x.priority) is in
    record { event = omega (arith, h.event); prescaler_least = omega (arith, h.prescaler_least); prescaler_most = omega (arith, h.prescaler_most); priority = omega (arith, h.priority); since = omega (arith, h.prescaler_least); still = λ e. refl; fits = λ e. subst (λ (s : Stamp). FitsPackets s l.odts) (sym (ap (λ (x : DaqList). x.stamp) is)) small }

-- a lawful list that is selected, or is no longer, is lawful
pub lawful_selected : (l : DaqList) (m : Mode) (selected : Bool) → list_of m l.odts ≡ l → IsList l → IsList (list_of (record m { selected = selected }) l.odts)
lawful_selected l m selected is h =
    let k : IsList (list_of m l.odts) = subst IsList (sym is) h in
    record { event = k.event; prescaler_least = k.prescaler_least; prescaler_most = k.prescaler_most; priority = k.priority; since = k.since; still = k.still; fits = k.fits }

-- a list is cleared in two steps
pub cleared_twice : (d v w : DaqValue) (i : ℕ) (m : Mode) → i < length d.lists → list_of m (list_at d i).odts ≡ list_at d i → v ≡ with_list d i (list_of (record m { running = false; selected = false; since = 0 }) (list_at d i).odts) → w ≡ with_list v i (record (list_at v i) { odts = map (map (λ entry. None)) (list_at v i).odts }) → w ≡ clear_daq_list_after i d
cleared_twice d v w i m below is first second =
    let odts : List (List (Option Element)) = (list_at d i).odts in
    let y : DaqList = list_of (record m { running = false; selected = false; since = 0 }) odts in
    let step : DaqList → DaqList = λ x. record x { odts = map (map (λ entry. None)) x.odts } in
    second
    ∙ ap (λ (u : DaqValue). with_list u i (step (list_at u i))) first
    ∙ ap (λ (x : DaqList). with_list (with_list d i y) i (step x)) (get_or-set_same d.lists i y no_list below)
    ∙ ap (λ (ls : List DaqList). let u : DaqValue = record d { lists = ls } in u) (set-set d.lists i y (step y))
    ∙ ap (λ (x : DaqList). with_list d i (cleared x)) is

-- the pointer of a lawful value is in the tree
pub pointer_in : (v : DaqValue) (p : Pointer) → IsDaq v → v.pointer ≡ Some p → IsPointer v p
pointer_in v p h e = subst (IsPointerOf v) e h.pointer

lawful_synchronised_by : (l : DaqList) → IsList l → (stop : Bool) (chosen : Bool) → l.selected ≡ chosen → (start : Bool) → (start ≡ true → l.selected ≡ true → FitsPackets l.stamp l.odts) → IsList (record (if stop then stopped l else (if not chosen then l else (if start then started l else stopped l))) { selected = false })
lawful_synchronised_by l h true chosen e start small = record { event = h.event; prescaler_least = h.prescaler_least; prescaler_most = h.prescaler_most; priority = h.priority; since = omega (arith, h.prescaler_least); still = λ k. refl; fits = λ k. cc }
lawful_synchronised_by l h false false e start small = record { event = h.event; prescaler_least = h.prescaler_least; prescaler_most = h.prescaler_most; priority = h.priority; since = h.since; still = h.still; fits = h.fits }
lawful_synchronised_by l h false true e true small = record { event = h.event; prescaler_least = h.prescaler_least; prescaler_most = h.prescaler_most; priority = h.priority; since = omega (arith, h.prescaler_least); still = λ k. refl; fits = λ k. small refl e }
lawful_synchronised_by l h false true e false small = record { event = h.event; prescaler_least = h.prescaler_least; prescaler_most = h.prescaler_most; priority = h.priority; since = omega (arith, h.prescaler_least); still = λ k. refl; fits = λ k. cc }

-- a stopped or started list, as START_STOP_SYNCH leaves it
pub lawful_synchronised : (mode : ℕ) (l : DaqList) → IsList l → (mode ≡ 1 → l.selected ≡ true → FitsPackets l.stamp l.odts) → IsList (record (synchronised mode l) { selected = false })
lawful_synchronised mode l h small = lawful_synchronised_by l h (mode == 0) l.selected refl (mode == 1) (λ e. small (eqb-true mode 1 e))

lawful_counted_by : (l : DaqList) → IsList l → (runs on : Bool) → l.running ≡ runs → IsList (if runs && on then record l { since = (l.since + 1) % l.prescaler } else l)
lawful_counted_by l h false on e = h
lawful_counted_by l h true false e = h
lawful_counted_by l h true true e = record { event = h.event; prescaler_least = h.prescaler_least; prescaler_most = h.prescaler_most; priority = h.priority; since = omega (arith, h.prescaler_least); still = λ k. cc; fits = h.fits }

-- a list after an event
pub lawful_counted : (channel : ℕ) (l : DaqList) → IsList l → IsList (counted channel l)
lawful_counted channel l h = lawful_counted_by l h l.running (l.event == channel) refl

-- the lists that modes and ODTs are, one by one
pub mode_lawful : (ms : List Mode) (os : List (List (List (Option Element)))) (k : ℕ) (d : Mode) → length ms ≡ length os → All IsList (lists_of ms os) → k < length ms → IsList (list_of (get_or ms k d) (get_or os k []))
mode_lawful ms os k d same each below =
    subst IsList (list_of_is ms os k same ∙ ap (λ (m : Mode). list_of m (get_or os k [])) (default_free ms k new_mode d below)) (each k no_list (omega (arith, length-lists ms os same)))

synchronised_odts_by : (l : DaqList) (stop chosen start : Bool) → (if stop then stopped l else (if not chosen then l else (if start then started l else stopped l))).odts ≡ l.odts
synchronised_odts_by l true chosen start = refl
synchronised_odts_by l false false start = refl
synchronised_odts_by l false true true = refl
synchronised_odts_by l false true false = refl

-- neither changes a list's ODTs
pub synchronised_odts : (mode : ℕ) (l : DaqList) → (synchronised mode l).odts ≡ l.odts
synchronised_odts mode l = synchronised_odts_by l (mode == 0) l.selected (mode == 1)

counted_odts_by : (l : DaqList) (n : ℕ) (b : Bool) → (if b then record l { since = n } else l).odts ≡ l.odts
counted_odts_by l n true = refl
counted_odts_by l n false = refl

-- an event leaves the ODTs of a list as they are
pub counted_odts : (channel : ℕ) (l : DaqList) → (counted channel l).odts ≡ l.odts
counted_odts channel l = counted_odts_by l ((l.since + 1) % l.prescaler) (counts channel l)

-- a written entry's pointer, moved on, is in the tree
pub grows_entry : (v : DaqValue) (p : Pointer) (e : Element) → IsPointer v p → IsPointerOf (with_list v p.list (record (list_at v p.list) { odts = slice_set (list_at v p.list).odts p.odt (slice_set (odt_at v p.list p.odt) p.entry (Some e)) })) (moved_on v p)
grows_entry v p e h =
    let odts : List (List (Option Element)) = (list_at v p.list).odts in
    let odt : List (Option Element) = odt_at v p.list p.odt in
    let l : DaqList = record (list_at v p.list) { odts = slice_set odts p.odt (slice_set odt p.entry (Some e)) } in
    let grows : Grows odts l.odts = grows_at odts p.odt (slice_set odt p.entry (Some e)) (omega (arith, length-set odt p.entry (Some e))) in
    pointer_kept v (with_list v p.list l) (moved_on v p) (omega (arith, length-set v.lists p.list l)) (grown_by v p.list l grows h.list) (moved_in v p h)

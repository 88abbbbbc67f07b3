-- What is written is what the set of address and byte says.
use Rattle.std.proofs.Common.{◌≡◌, ℕ, ◌+◌, ◌-◌, ◌<◌, ◌≤◌, ◌≢◌, Bool, true, false, ◌⊎◌, inl, inr, List, [], length, get_or, slice_index, Option, Some, None, ap, sym, ◌∙◌, arith, refl, subst}
use Rattle.std.specs.Prelude.{◌↔◌, if◌then◌else◌}
use Rattle.xcp_packet.specs.declared.Code.TheVariants.{AccessDenied, WriteProtected}
use Rattle.std.proofs.lemmas.Bool.{cases_lt, cases_eq}
use Rattle.std.proofs.lemmas.List.{ext_get_or, get_or-set_same, get_or-set_other, length-set}
use Rattle.std.proofs.lemmas.List.Elements.{All-get_or, All-from_get_or}
use Rattle.xcp_memory.specs.Layout.{IsLayout, signals_extent}
use Rattle.xcp_memory.specs.Memory.{Stands, Tool, SameNumbers, Writes}
use Rattle.xcp_memory.specs.Pages.{PagesValue, SegmentPages, IsPages, segment_at, no_segment, no_pages, xcp_page}
use Rattle.xcp_memory.specs.ComputedAccess.{is_inside, segment_of, lies_inside_by, place_in, overwritten, segment_written, written_by, pages_written, write_refusal_by, write_refusal}
use Rattle.xcp_memory.specs.private.RangeInSegment.{LiesOnPages}
use Rattle.xcp_memory.proofs.AreaLaws.{inside_lies}
use Rattle.xcp_memory.proofs.OverwriteLemmas.{now_stands, still_stands, had_stood}
use Rattle.xcp_memory.proofs.PageLemmas.{length-overwritten}
use Rattle.xcp_memory.proofs.RangeLemmas.{located}
use Rattle.xcp_memory.proofs.ReadLaws.{tool_sized, one_byte}

-- the tool's page of a segment that was written
page_written : (s : SegmentPages) (place : ℕ) (bytes : List ℕ) → s.xcp < length s.pages → xcp_page (segment_written s place bytes) ≡ overwritten (xcp_page s) place bytes
page_written s place bytes h = get_or-set_same s.pages s.xcp (overwritten (xcp_page s) place bytes) [] h

-- a write over a page keeps all but its bytes
numbers_written : (s : SegmentPages) (place : ℕ) (bytes : List ℕ) → s.xcp < length s.pages → place + length bytes ≤ length (xcp_page s) → SameNumbers s (segment_written s place bytes)
numbers_written s place bytes h k =
    record {
      ecu = refl;
      xcp = refl;
      freeze = refl;
      count = length-set s.pages s.xcp (overwritten (xcp_page s) place bytes);
      sizes = λ p.
          elim (cases_eq p s.xcp) [
            | inl e ↦ subst (λ q. length (get_or (segment_written s place bytes).pages q []) ≡ length (get_or s.pages q [])) (sym e) (ap length (page_written s place bytes h) ∙ length-overwritten (xcp_page s) bytes place k)
            | inr e ↦ ap length (get_or-set_other s.pages s.xcp p (overwritten (xcp_page s) place bytes) [] e)
          ];
    }

same_numbers : (s : SegmentPages) → SameNumbers s s
same_numbers s = record { ecu = refl; xcp = refl; freeze = refl; count = refl; sizes = λ p. refl }

-- the pages after a write in segment i
abbrev after : PagesValue → ℕ → List ℕ → ℕ → PagesValue
after v a bytes i = written_by (Some i) v a bytes

at_same : (v : PagesValue) (a : ℕ) (bytes : List ℕ) (i : ℕ) → i < length v.segments → segment_at (after v a bytes i) i ≡ segment_written (segment_at v i) (place_in v.layout i a) bytes
at_same v a bytes i h = get_or-set_same v.segments i (segment_written (segment_at v i) (place_in v.layout i a) bytes) no_pages h

at_other : (v : PagesValue) (a : ℕ) (bytes : List ℕ) (i j : ℕ) → j ≢ i → segment_at (after v a bytes i) j ≡ segment_at v j
at_other v a bytes i j h = get_or-set_other v.segments i j (segment_written (segment_at v i) (place_in v.layout i a) bytes) no_pages h

-- a fact of each segment after a write in segment i: of the one that is written, and of the others
each_after : (P : ℕ → SegmentPages → Type 0) (v : PagesValue) (a : ℕ) (bytes : List ℕ) (i j : ℕ) → i < length v.segments → P i (segment_written (segment_at v i) (place_in v.layout i a) bytes) → P j (segment_at v j) → P j (segment_at (after v a bytes i) j)
each_after P v a bytes i j h new old =
    elim (cases_eq j i) [
      | inl e ↦ subst (λ k. P k (segment_at (after v a bytes i) k)) (sym e) (subst (P i) (sym (at_same v a bytes i h)) new)
      | inr e ↦ subst (P j) (sym (at_other v a bytes i j e)) old
    ]

-- the written page has the segment's place for the range
room : (v : PagesValue) (a n i : ℕ) → LiesOnPages v a n i → a + n ≤ (get_or v.layout.segments i no_segment).address + length (xcp_page (segment_at v i))
room v a n i l = omega (arith, l.to, l.xcp_size)

-- outside the range the bytes of each segment stay
kept : (v : PagesValue) (a : ℕ) (bytes : List ℕ) (i j b y : ℕ) → LiesOnPages v a (length bytes) i → (b < a) ⊎ (a + length bytes ≤ b) → Stands (get_or v.layout.segments j no_segment).address (xcp_page (segment_at v j)) b y → Stands (get_or v.layout.segments j no_segment).address (xcp_page (segment_at (after v a bytes i) j)) b y
kept v a bytes i j b y l o =
    let s = (get_or v.layout.segments i no_segment).address in
    each_after (λ j t. Stands (get_or v.layout.segments j no_segment).address (xcp_page (segment_at v j)) b y → Stands (get_or v.layout.segments j no_segment).address (xcp_page t) b y) v a bytes i j l.paged
    (λ h. subst (λ xs. Stands s xs b y) (sym (page_written (segment_at v i) (place_in v.layout i a) bytes l.xcp)) (still_stands s a b y (xcp_page (segment_at v i)) bytes l.from (room v a (length bytes) i l) o h))
    (λ h. h)

-- and none comes
came : (v : PagesValue) (a : ℕ) (bytes : List ℕ) (i j b y : ℕ) → LiesOnPages v a (length bytes) i → (b < a) ⊎ (a + length bytes ≤ b) → Stands (get_or v.layout.segments j no_segment).address (xcp_page (segment_at (after v a bytes i) j)) b y → Stands (get_or v.layout.segments j no_segment).address (xcp_page (segment_at v j)) b y
came v a bytes i j b y l o =
    let s = (get_or v.layout.segments i no_segment).address in
    each_after (λ j t. Stands (get_or v.layout.segments j no_segment).address (xcp_page t) b y → Stands (get_or v.layout.segments j no_segment).address (xcp_page (segment_at v j)) b y) v a bytes i j l.paged
    (λ h. had_stood s a b y (xcp_page (segment_at v i)) bytes l.from (room v a (length bytes) i l) o (subst (λ xs. Stands s xs b y) (page_written (segment_at v i) (place_in v.layout i a) bytes l.xcp) h))
    (λ h. h)

-- the pages after a write are those of the relation
writes_by : (v : PagesValue) (a : ℕ) (bytes : List ℕ) (i : ℕ) → IsPages v → segment_of v.layout a (length bytes) ≡ Some i → Writes v a bytes (after v a bytes i)
writes_by v a bytes i f e =
    let n = length bytes in
    let l = located v a n i f e in
    let s = (get_or v.layout.segments i no_segment).address in
    let to = room v a n i l in
    let page : xcp_page (segment_at (after v a bytes i) i) ≡ overwritten (xcp_page (segment_at v i)) (place_in v.layout i a) bytes = ap (λ (t : SegmentPages). xcp_page t) (at_same v a bytes i l.paged) ∙ page_written (segment_at v i) (place_in v.layout i a) bytes l.xcp in
    record {
      inside = inside_lies v.layout a n (ap (λ o. lies_inside_by o v.layout a n) e);
      each = λ k h. inl (i, record { there = l.there; stands = subst (λ xs. Stands s xs (a + k) (slice_index bytes k)) (sym page) (now_stands s a (a + k) (slice_index bytes k) (xcp_page (segment_at v i)) bytes l.from to (record { from = omega arith; below = omega arith; stands = ap (λ q. get_or bytes q 0) (omega arith) })) });
      others = λ b y o. (
        λ t. elim t [
          | inl h ↦ inl (h.0, record { there = h.1.there; stands = kept v a bytes i h.0 b y l o h.1.stands })
          | inr h ↦ inr h
        ],
        λ t. elim t [
          | inl h ↦ inl (h.0, record { there = h.1.there; stands = came v a bytes i h.0 b y l o h.1.stands })
          | inr h ↦ inr h
        ],
      );
      pages = λ j p h. each_after (λ j t. p ≢ (segment_at v j).xcp → get_or t.pages p [] ≡ get_or (segment_at v j).pages p []) v a bytes i j l.paged (λ o. get_or-set_other (segment_at v i).pages (segment_at v i).xcp p (overwritten (xcp_page (segment_at v i)) (place_in v.layout i a) bytes) [] o) (λ o. refl) h;
      layout = refl;
      signals = refl;
      count = length-set v.segments i (segment_written (segment_at v i) (place_in v.layout i a) bytes);
      numbers = λ j. each_after (λ j t. SameNumbers (segment_at v j) t) v a bytes i j l.paged (numbers_written (segment_at v i) (place_in v.layout i a) bytes l.xcp (omega (arith, l.from))) (same_numbers (segment_at v j));
    }

-- the same pages with other segments
abbrev with : PagesValue → List SegmentPages → PagesValue
with v segments = record v { segments = segments }

-- a write keeps the sizes of pages
is_pages_after : (v : PagesValue) (a : ℕ) (bytes : List ℕ) (segments : List SegmentPages) → IsPages v → Writes v a bytes (with v segments) → IsPages (with v segments)
is_pages_after v a bytes segments f h = record {
  count = h.count ∙ f.count;
  each = λ j k.
      (let old = f.each j (omega (arith, h.count)) in
      let same = h.numbers j in
      let size = length (get_or v.layout.segments j no_segment).bytes in
      record {
        count = same.count ∙ old.count;
        sized = All-from_get_or (λ p. length p ≡ size) (segment_at (with v segments) j).pages [] (λ p m. same.sizes p ∙ All-get_or (λ p. length p ≡ size) (segment_at v j).pages p [] (omega (arith, same.count)) old.sized);
        ecu = omega (arith, same.ecu, same.count, old.ecu);
        xcp = omega (arith, same.xcp, same.count, old.xcp);
      });
  signals = f.signals;
}

-- two pages that one write leads to have the same bytes for the tool
same_tool : (v : PagesValue) (a : ℕ) (bytes : List ℕ) (segments others : List SegmentPages) (b y : ℕ) → IsLayout v.layout → IsPages v → Writes v a bytes (with v segments) → Writes v a bytes (with v others) → Tool (with v segments) b y → Tool (with v others) b y
same_tool v a bytes segments others b y l f h k t =
    elim (cases_lt b a) [
      | inl m ↦ (k.others b y (inl m)).0 ((h.others b y (inl m)).1 t)
      | inr m ↦ elim (cases_lt b (a + length bytes)) [
        | inl n ↦
            (let q = b - a in
            let at : a + q ≡ b = omega arith in
            let inside : q < length bytes = omega arith in
            let w = is_pages_after v a bytes segments f h in
            let is : slice_index bytes q ≡ y = one_byte xcp_page (with v segments) b (slice_index bytes q) y l w (tool_sized (with v segments) w) (subst (λ c. Tool (with v segments) c (slice_index bytes q)) at (h.each q inside)) t in
            subst (λ z. Tool (with v others) b z) is (subst (λ c. Tool (with v others) c (slice_index bytes q)) at (k.each q inside)))
        | inr n ↦ (k.others b y (inr n)).0 ((h.others b y (inr n)).1 t)
      ]
    ]

-- so they have the same XCP pages
same_page : (v : PagesValue) (a : ℕ) (bytes : List ℕ) (segments others : List SegmentPages) (j : ℕ) → IsLayout v.layout → IsPages v → Writes v a bytes (with v segments) → Writes v a bytes (with v others) → j < length v.segments → xcp_page (segment_at (with v segments) j) ≡ xcp_page (segment_at (with v others) j)
same_page v a bytes segments others j l f h k m =
    let u = is_pages_after v a bytes segments f h in
    let w = is_pages_after v a bytes others f k in
    let s = (get_or v.layout.segments j no_segment).address in
    let xs = xcp_page (segment_at (with v segments) j) in
    let ys = xcp_page (segment_at (with v others) j) in
    let there : j < length v.layout.segments = omega (arith, f.count) in
    let long : length xs ≡ length ys = tool_sized (with v segments) u j (omega (arith, h.count)) ∙ sym (tool_sized (with v others) w j (omega (arith, k.count))) in
    ext_get_or 0 xs ys long (λ q o.
    (let back : q ≡ s + q - s = omega arith in
    let stands : (zs : List ℕ) → q < length zs → Stands s zs (s + q) (get_or zs q 0) = λ zs p. record { from = omega arith; below = omega arith; stands = ap (λ c. get_or zs c 0) back } in
    one_byte xcp_page (with v others) (s + q) (get_or xs q 0) (get_or ys q 0) l w (tool_sized (with v others) w)
    (same_tool v a bytes segments others (s + q) (get_or xs q 0) l f h k (inl (j, record { there = there; stands = stands xs o })))
    (inl (j, record { there = there; stands = stands ys (omega (arith, long)) }))))

-- segments with equal parts are equal
same_parts : (s t : SegmentPages) → s.pages ≡ t.pages → s.ecu ≡ t.ecu → s.xcp ≡ t.xcp → s.freeze ≡ t.freeze → s ≡ t
same_parts s t pages ecu xcp freeze =
    ap (λ p. let r : SegmentPages = record { pages = p; ecu = s.ecu; xcp = s.xcp; freeze = s.freeze } in r) pages
    ∙ ap (λ n. let r : SegmentPages = record { pages = t.pages; ecu = n; xcp = s.xcp; freeze = s.freeze } in r) ecu
    ∙ ap (λ n. let r : SegmentPages = record { pages = t.pages; ecu = t.ecu; xcp = n; freeze = s.freeze } in r) xcp
    ∙ ap (λ b. let r : SegmentPages = record { pages = t.pages; ecu = t.ecu; xcp = t.xcp; freeze = b } in r) freeze

same_segment : (v : PagesValue) (a : ℕ) (bytes : List ℕ) (segments others : List SegmentPages) (j : ℕ) → IsLayout v.layout → IsPages v → Writes v a bytes (with v segments) → Writes v a bytes (with v others) → j < length v.segments → segment_at (with v segments) j ≡ segment_at (with v others) j
same_segment v a bytes segments others j l f h k m =
    let s = segment_at (with v segments) j in
    let t = segment_at (with v others) j in
    let p = h.numbers j in
    let q = k.numbers j in
    let x = (segment_at v j).xcp in
    let page : get_or s.pages x [] ≡ get_or t.pages x [] = ap (λ n. get_or s.pages n []) (sym p.xcp) ∙ same_page v a bytes segments others j l f h k m ∙ ap (λ n. get_or t.pages n []) q.xcp in
    let pages : s.pages ≡ t.pages = ext_get_or [] s.pages t.pages (p.count ∙ sym q.count) (λ n o.
    elim (cases_eq n x) [
      | inl e ↦ ap (λ n. get_or s.pages n []) e ∙ page ∙ ap (λ n. get_or t.pages n []) (sym e)
      | inr e ↦ h.pages j n e ∙ sym (k.pages j n e)
    ]) in
    same_parts s t pages (p.ecu ∙ sym q.ecu) (p.xcp ∙ sym q.xcp) (p.freeze ∙ sym q.freeze)

-- a write leads to one value
one_write : (v : PagesValue) (a : ℕ) (bytes : List ℕ) (segments others : List SegmentPages) → IsLayout v.layout → IsPages v → Writes v a bytes (with v segments) → Writes v a bytes (with v others) → segments ≡ others
one_write v a bytes segments others l f h k =
    ext_get_or no_pages segments others (h.count ∙ sym k.count) (λ j o. same_segment v a bytes segments others j l f h k (omega (arith, h.count)))

-- nothing but the segments changes
only_segments : (v w : PagesValue) (a : ℕ) (bytes : List ℕ) → Writes v a bytes w → w ≡ with v w.segments
only_segments v w a bytes h =
    ap (λ l. let r : PagesValue = record { layout = l; segments = w.segments; signals = w.signals } in r) h.layout
    ∙ ap (λ xs. let r : PagesValue = record { layout = v.layout; segments = w.segments; signals = xs } in r) h.signals

refused : (c : Bool) → (if c then Some WriteProtected else Some AccessDenied) ≡ None → ⊥
refused true h = cc
refused false h = cc

written : (v w : PagesValue) (a : ℕ) (bytes : List ℕ) (o : Option ℕ) → IsLayout v.layout → IsPages v → segment_of v.layout a (length bytes) ≡ o → write_refusal_by o v a (length bytes) ≡ None → Writes v a bytes w ↔ (w ≡ written_by o v a bytes)
written v w a bytes (Some i) l f e r =
    let done = writes_by v a bytes i f e in (
      λ h.
          (let is = only_segments v w a bytes h in
          is ∙ ap (with v) (one_write v a bytes w.segments (after v a bytes i).segments l f (subst (λ u. Writes v a bytes u) is h) done)),
      λ h. subst (λ u. Writes v a bytes u) (sym h) done,
    )
written v w a bytes None l f e r = absurd (refused (is_inside a (length bytes) (signals_extent v.layout)) r)

-- a write that isn't refused leads to the pages that are computed, and to no others
pub tool_is_written : (v w : PagesValue) (a : ℕ) (bytes : List ℕ) → IsLayout v.layout → IsPages v → write_refusal v a (length bytes) ≡ None → Writes v a bytes w ↔ (w ≡ pages_written v a bytes)
tool_is_written v w a bytes l f r = written v w a bytes (segment_of v.layout a (length bytes)) l f refl r

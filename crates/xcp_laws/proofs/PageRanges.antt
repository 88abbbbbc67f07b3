-- The ranges of the commands on pages.
use Rattle.std.proofs.Common.{◌≡◌, ◌≢◌, ℕ, zero, suc, ◌<◌, ◌≤◌, Bool, true, false, [], ◌∷◌, length, get_or, refl, sym, ap, subst, nat_lt, nat_le, arith, inl, inr}
use Rattle.std.specs.Prelude.{◌↔◌, ◌==◌, ◌&&◌, ◌||◌, ◌⊎◌, not, bit_and, if◌then◌else◌}
use Rattle.std.specs.List.{list_any}
use Rattle.std.proofs.lemmas.Bool.Decides.{nat_tests}
use Rattle.std.proofs.lemmas.Nat.{and_le_r}
use Rattle.xcp_packet.specs.declared.Code.TheVariants.{ModeNotValid, SegmentNotValid, PageNotValid, OutOfRange, WriteProtected}
use Rattle.xcp_packet.specs.declared.Command.TheVariants as commands
use Rattle.xcp_packet.specs.declared.Reply.TheVariants as replies
use Rattle.xcp_memory.specs.Pages.{PagesValue, no_pages, segment_at}
use Rattle.xcp_memory.specs.PageSwitch.{concerned, gives_ecu, gives_xcp, is_of_all, is_switch_mode, lacks_page, names_none}
use Rattle.xcp_memory.specs.PageCopy.{content, lacks_segment}
use Rattle.xcp_memory.specs.Freeze.{is_segment_mode}
use Rattle.xcp_slave.specs.AcceptedCommands.{Concerns}
use Rattle.xcp_slave.specs.Outcomes.{Answer}
use Rattle.xcp_slave.specs.SlaveValue.{SlaveValue}
use Rattle.xcp_slave.proofs.ListInvariantLemmas.{is_true}
use Rattle.xcp_slave.proofs.RefusalCodeLemmas.{both-true}
use Rattle.xcp_laws.proofs.PositiveAnswers.{also, also-given, below, chained, codes-allow, implied, is, is-it, is_response, isnt, isnt-not, lastly, none-pass, not-false, positive, six, tests-allow, three, unless, within}
use Rattle.xcp_laws.specs.AskedCommands.{IsAsked, IsPositive, IsSwitchMode}

-- a test that holds of each number below n
each_below : ℕ → (ℕ → Bool) → Bool
each_below zero p = true
each_below (suc n) p = p n && each_below n p

last-or : (t : Bool) (n : ℕ) (p : ℕ → Bool) (m : ℕ) → (m == n) ≡ t → p n ≡ true → (m < n → p m ≡ true) → m < suc n → p m ≡ true
last-or true n p m e h k b = let same : m ≡ n = (is-it m n).0 e in subst (λ (x : ℕ). p x ≡ true) (sym same) h
last-or false n p m e h k b = let other : m ≢ n = (isnt m n).0 e in k (omega (arith, other, b))

at-below : (n : ℕ) (p : ℕ → Bool) (m : ℕ) → each_below n p ≡ true → m < n → p m ≡ true
unfolding each_below
at-below zero p m h b = absurd (omega (arith, b))
at-below (suc n) p m h b =
    let both = both-true (p n) (each_below n p) h in
    last-or (m == n) n p m refl both.0 (at-below n p m both.1) b

-- one of several numbers
first-or : (t : Bool) (m k : ℕ) (rest : Bool) (R : Type 0) → (m == k) ≡ t → (t || rest) ≡ true → (rest ≡ true → R) → (m ≡ k) ⊎ R
first-or true m k rest R e h f = inl ((is-it m k).0 e)
first-or false m k rest R e h f = inr (f h)

one-of : (m k : ℕ) (rest : Bool) (R : Type 0) → ((m == k) || rest) ≡ true → (rest ≡ true → R) → (m ≡ k) ⊎ R
one-of m k rest R h f = first-or (m == k) m k rest R refl h f

-- the modes of SET_CAL_PAGE

is_six : ℕ → Bool
is_six m = (m == 0x01) || ((m == 0x02) || ((m == 0x03) || ((m == 0x81) || ((m == 0x82) || (m == 0x83)))))

implies : Bool → Bool → Bool
implies a b = not a || b

modus : (a b : Bool) → implies a b ≡ true → a ≡ true → b ≡ true
unfolding implies
modus true b h e = h
modus false b h e = cc

six-modes : each_below 0x84 (λ m. implies (is_switch_mode m) (is_six m)) ≡ true
unfolding each_below implies is_six
six-modes = refl

all-six : (m : ℕ) → is_six m ≡ true → IsSwitchMode m
unfolding is_six
all-six m h =
    one-of m 0x01 _ _ h (λ h. one-of m 0x02 _ _ h (λ h. one-of m 0x03 _ _ h (λ h. one-of m 0x81 _ _ h (λ h. one-of m 0x82 _ _ h (λ h. (is-it m 0x83).0 h)))))

small-mode : (m k : ℕ) → (bit_and m k == m) ≡ true → m ≤ k
small-mode m k h = subst (λ (x : ℕ). x ≤ k) ((is-it (bit_and m k) m).0 h) (and_le_r m k)

named-mode : (m : ℕ) → is_switch_mode m ≡ true → IsSwitchMode m
named-mode m h =
    let small : m ≤ 0x83 = small-mode m 0x83 (both-true (bit_and m 0x83 == m) (gives_ecu m || gives_xcp m) h).0 in
    all-six m (modus (is_switch_mode m) (is_six m) (at-below 0x84 (λ m. implies (is_switch_mode m) (is_six m)) m six-modes (omega (arith, small))) h)

mode-of : (m : ℕ) → IsSwitchMode m → is_switch_mode m ≡ true
mode-of m (inl e) = ap is_switch_mode e
mode-of m (inr (inl e)) = ap is_switch_mode e
mode-of m (inr (inr (inl e))) = ap is_switch_mode e
mode-of m (inr (inr (inr (inl e)))) = ap is_switch_mode e
mode-of m (inr (inr (inr (inr (inl e))))) = ap is_switch_mode e
mode-of m (inr (inr (inr (inr (inr e))))) = ap is_switch_mode e

switch-mode : (m : ℕ) → (not (is_switch_mode m) ≡ false) ↔ IsSwitchMode m
switch-mode m = (λ h. named-mode m (is_true _ h), λ s. not-false _ (mode-of m s))

-- the modes of SET_SEGMENT_MODE and of GET_CAL_PAGE

is_two : ℕ → Bool
is_two m = (m == 0) || (m == 1)

two-modes : each_below 2 (λ m. implies (is_segment_mode m) (is_two m)) ≡ true
unfolding each_below implies is_two
two-modes = refl

one-of-two : (m k l : ℕ) → ((m == k) || (m == l)) ≡ true → (m ≡ k) ⊎ (m ≡ l)
one-of-two m k l h = one-of m k _ _ h (λ h. (is-it m l).0 h)

is-one : (m k l : ℕ) → (m ≡ k) ⊎ (m ≡ l) → ((m == k) || (m == l)) ≡ true
is-one m k l (inl e) = ap (λ (b : Bool). b || (m == l)) ((is-it m k).1 e)
is-one m k l (inr e) = grind (arith, nat_tests, e)

named-two : (m : ℕ) → is_segment_mode m ≡ true → (m ≡ 0) ⊎ (m ≡ 1)
unfolding is_two
named-two m h =
    let small : m ≤ 1 = small-mode m 1 h in
    one-of-two m 0 1 (modus (is_segment_mode m) (is_two m) (at-below 2 (λ m. implies (is_segment_mode m) (is_two m)) m two-modes (omega (arith, small))) h)

two-of : (m : ℕ) → (m ≡ 0) ⊎ (m ≡ 1) → is_segment_mode m ≡ true
two-of m (inl e) = ap is_segment_mode e
two-of m (inr e) = ap is_segment_mode e

freeze-mode : (m : ℕ) → (not (is_segment_mode m) ≡ false) ↔ ((m ≡ 0) ⊎ (m ≡ 1))
freeze-mode m = (λ h. named-two m (is_true _ h), λ s. not-false _ (two-of m s))

side-mode : (m k l : ℕ) → (not ((m == k) || (m == l)) ≡ false) ↔ ((m ≡ k) ⊎ (m ≡ l))
side-mode m k l = (λ h. one-of-two m k l (is_true _ h), λ s. not-false _ (is-one m k l s))

-- the pages of the segments that a switch concerns

-- there are these pages, if there is this segment
abbrev HasPages : PagesValue → ℕ → ℕ → ℕ → Type 0
HasPages v mode segment page = (i : ℕ) → i < length v.segments → Concerns mode segment i → page < length (segment_at v i).pages

alone : (b : Bool) → (b || false) ≡ false → b ≡ false
alone true h = h
alone false h = refl

and-alone : (b : Bool) → b ≡ false → (b || false) ≡ false
and-alone true h = h
and-alone false h = refl

same-page : (v : PagesValue) (page i k : ℕ) → i ≡ k → page < length (segment_at v k).pages → page < length (segment_at v i).pages
same-page v page i k e h = subst (λ (j : ℕ). page < length (segment_at v j).pages) (sym e) h

named-page : (v : PagesValue) (mode segment page i : ℕ) → bit_and mode 0x80 ≢ 0x80 → page < length (segment_at v segment).pages → Concerns mode segment i → page < length (segment_at v i).pages
named-page v mode segment page i n h (inl e) = absurd (n e)
named-page v mode segment page i n h (inr e) = same-page v page i segment e h

by-all : (t : Bool) (v : PagesValue) (mode segment page : ℕ) → is_of_all mode ≡ t → (bit_and mode 0x80 ≢ 0x80 → segment < length v.segments) → (list_any (lacks_page page) (if t then v.segments else segment_at v segment ∷ []) ≡ false) ↔ HasPages v mode segment page
by-all true v mode segment page e there =
    let each = none-pass (lacks_page page) v.segments no_pages in
    let bit : bit_and mode 0x80 ≡ 0x80 = (is-it _ _).0 e in
    (λ h i b c. (below page _).0 (each.0 h i b), λ h. each.1 (λ i b. (below page _).1 (h i b (inl bit))))
by-all false v mode segment page e there =
    let bit : bit_and mode 0x80 ≢ 0x80 = (isnt _ _).0 e in (
      λ h i b c. named-page v mode segment page i bit ((below page _).0 (alone _ h)) c,
      λ h. and-alone _ ((below page _).1 (h segment (there bit) (inr refl))),
    )

switch-pages : (v : PagesValue) (mode segment page : ℕ) → (bit_and mode 0x80 ≢ 0x80 → segment < length v.segments) → (list_any (lacks_page page) (concerned mode segment v) ≡ false) ↔ HasPages v mode segment page
switch-pages v mode segment page there = by-all (is_of_all mode) v mode segment page refl there

-- the commands

info-response : (b : Bool) (address pages : ℕ) → is_response (if b then replies.SegmentWord address else replies.SegmentStandard pages) ≡ true
info-response true address pages = refl
info-response false address pages = refl

pub set-cal-page : (v w : SlaveValue) (mode segment page : ℕ) (a : Answer) → IsAsked v (commands.SetCalPage mode segment page) a w → IsPositive a ↔ (IsSwitchMode mode × (bit_and mode 0x80 ≢ 0x80 → segment < length v.transfer.pages.segments) × ((i : ℕ) → i < length v.transfer.pages.segments → Concerns mode segment i → page < length (segment_at v.transfer.pages i).pages))
set-cal-page v w mode segment page a h =
    let p : PagesValue = v.transfer.pages in
    chained (positive (commands.SetCalPage mode segment page) v w a replies.Done refl refl h)
    (chained (codes-allow ((not (is_switch_mode mode), ModeNotValid) ∷ (names_none mode segment p, SegmentNotValid) ∷ (list_any (lacks_page page) (concerned mode segment p), PageNotValid) ∷ []))
    (chained (also (switch-mode mode)
    (also-given (chained (unless (not (is_of_all mode)) (nat_le (length p.segments) segment)) (implied (isnt-not (bit_and mode 0x80) 0x80) (below segment (length p.segments))))
    (λ there. lastly (switch-pages p mode segment page there)))) three))

pub get-cal-page : (v w : SlaveValue) (mode segment : ℕ) (a : Answer) → IsAsked v (commands.GetCalPage mode segment) a w → IsPositive a ↔ (((mode ≡ 1) ⊎ (mode ≡ 2)) × (segment < length v.transfer.pages.segments))
get-cal-page v w mode segment a h =
    chained (positive (commands.GetCalPage mode segment) v w a _ refl refl h)
    (chained (codes-allow ((not ((mode == 1) || (mode == 2)), ModeNotValid) ∷ (nat_le (length v.transfer.pages.segments) segment, SegmentNotValid) ∷ []))
    (also (side-mode mode 1 2) (lastly (below segment (length v.transfer.pages.segments)))))

pub get-segment-info : (v w : SlaveValue) (mode segment info mapping : ℕ) (a : Answer) → IsAsked v (commands.GetSegmentInfo mode segment info mapping) a w → IsPositive a ↔ ((mode ≤ 1) × (segment < length v.transfer.pages.segments) × (mode ≡ 0 → info ≤ 1))
get-segment-info v w mode segment info mapping a h =
    chained (positive (commands.GetSegmentInfo mode segment info mapping) v w a _ refl (info-response (mode == 0) _ _) h)
    (chained (tests-allow ((nat_lt 1 mode, replies.Error OutOfRange) ∷ (lacks_segment segment v.transfer.pages, replies.Error SegmentNotValid) ∷ ((mode == 0) && nat_lt 1 info, replies.Error OutOfRange) ∷ []))
    (chained (also (within mode 1) (also (below segment (length v.transfer.pages.segments)) (lastly (chained (unless (mode == 0) (nat_lt 1 info)) (implied (is-it mode 0) (within info 1)))))) three))

pub get-page-info : (v w : SlaveValue) (segment page : ℕ) (a : Answer) → IsAsked v (commands.GetPageInfo segment page) a w → IsPositive a ↔ ((segment < length v.transfer.pages.segments) × (page < length (segment_at v.transfer.pages segment).pages))
get-page-info v w segment page a h =
    chained (positive (commands.GetPageInfo segment page) v w a _ refl refl h)
    (chained (codes-allow ((lacks_segment segment v.transfer.pages, SegmentNotValid) ∷ (lacks_page page (segment_at v.transfer.pages segment), PageNotValid) ∷ []))
    (also (below segment (length v.transfer.pages.segments)) (lastly (below page (length (segment_at v.transfer.pages segment).pages)))))

pub set-segment-mode : (v w : SlaveValue) (mode segment : ℕ) (a : Answer) → IsAsked v (commands.SetSegmentMode mode segment) a w → IsPositive a ↔ (((mode ≡ 0) ⊎ (mode ≡ 1)) × (segment < length v.transfer.pages.segments))
set-segment-mode v w mode segment a h =
    chained (positive (commands.SetSegmentMode mode segment) v w a replies.Done refl refl h)
    (chained (codes-allow ((not (is_segment_mode mode), ModeNotValid) ∷ (lacks_segment segment v.transfer.pages, SegmentNotValid) ∷ []))
    (also (freeze-mode mode) (lastly (below segment (length v.transfer.pages.segments)))))

pub get-segment-mode : (v w : SlaveValue) (segment : ℕ) (a : Answer) → IsAsked v (commands.GetSegmentMode segment) a w → IsPositive a ↔ (segment < length v.transfer.pages.segments)
get-segment-mode v w segment a h =
    chained (positive (commands.GetSegmentMode segment) v w a _ refl refl h)
    (chained (codes-allow ((lacks_segment segment v.transfer.pages, SegmentNotValid) ∷ [])) (lastly (below segment (length v.transfer.pages.segments))))

pub copy-cal-page : (v w : SlaveValue) (source source_page target target_page : ℕ) (a : Answer) → IsAsked v (commands.CopyCalPage source source_page target target_page) a w → IsPositive a ↔ ((source < length v.transfer.pages.segments) × (source_page < length (segment_at v.transfer.pages source).pages) × (target < length v.transfer.pages.segments) × (target_page < length (segment_at v.transfer.pages target).pages) × (target_page ≢ 0) × (length (get_or (segment_at v.transfer.pages source).pages source_page []) ≡ length (get_or (segment_at v.transfer.pages target).pages target_page [])))
copy-cal-page v w source source_page target target_page a h =
    let p : PagesValue = v.transfer.pages in
    chained (positive (commands.CopyCalPage source source_page target target_page) v w a replies.Done refl refl h)
    (chained (codes-allow ((lacks_segment source p, SegmentNotValid) ∷ (lacks_page source_page (segment_at p source), PageNotValid) ∷ (lacks_segment target p, SegmentNotValid) ∷ (lacks_page target_page (segment_at p target), PageNotValid) ∷ (target_page == 0, WriteProtected) ∷ (not (length (content p source source_page) == length (content p target target_page)), OutOfRange) ∷ []))
    (chained (also (below source (length p.segments)) (also (below source_page (length (segment_at p source).pages)) (also (below target (length p.segments)) (also (below target_page (length (segment_at p target).pages)) (also (isnt target_page 0) (lastly (is (length (content p source source_page)) (length (content p target target_page))))))))) six))

pub set-request : (v w : SlaveValue) (mode id : ℕ) (a : Answer) → IsAsked v (commands.SetRequest mode id) a w → IsPositive a ↔ (mode ≡ 0x01)
set-request v w mode id a h =
    chained (positive (commands.SetRequest mode id) v w a replies.Done refl refl h)
    (chained (tests-allow ((not (mode == 0x01), replies.Error OutOfRange) ∷ [])) (lastly (is mode 0x01)))

-- Page numbers, FREEZE modes and signals that requests leave alone.
use Rattle.std.proofs.Common.{◌≡◌, ◌≢◌, ℕ, zero, suc, ◌<◌, Bool, true, false, List, [], ◌∷◌, length, get_or, map, slice_set, Option, Some, None, ap, ◌∙◌, refl, arith}
use Rattle.std.specs.Prelude.{◌==◌, not, if◌then◌else◌, bit_and}
use Rattle.std.proofs.lemmas.Bool.Decides.{nat_tests}
use Rattle.std.proofs.lemmas.List.{get_or-set_same, get_or-set_other}
use Rattle.xcp_packet.specs.CommandForms.{code}
use Rattle.xcp_packet.specs.declared.Command.{Command}
use Rattle.xcp_packet.specs.declared.Command.TheVariants as commands
use Rattle.xcp_packet.specs.declared.Code.TheVariants.{ModeNotValid, SegmentNotValid}
use Rattle.xcp_memory.specs.ComputedAccess.{written_by}
use Rattle.xcp_memory.specs.Freeze.{is_freeze, is_segment_mode, segment_frozen, set_freeze_refusal}
use Rattle.xcp_memory.specs.PageCopy.{content, lacks_segment, with_content}
use Rattle.xcp_memory.specs.PageSwitch.{is_of_all, segment_switched}
use Rattle.xcp_memory.specs.Pages.{PagesValue, SegmentPages, no_pages, segment_at, xcp_page}
use Rattle.xcp_transfer.specs.declared.Mta.{Mta}
use Rattle.xcp_transfer.specs.declared.Mta.TheVariants.{Nowhere, Memory, Text}
use Rattle.xcp_transfer.specs.Downloads.{next_row}
use Rattle.xcp_transfer.specs.MtaAccess.{written_at}
use Rattle.xcp_transfer.specs.TransferValue.{BlockValue, TransferValue}
use Rattle.xcp_slave.specs.declared.request.Request.{Request}
use Rattle.xcp_slave.specs.declared.request.Request.TheVariants as requests
use Rattle.xcp_slave.specs.Outcomes.{Answer}
use Rattle.xcp_slave.specs.AcceptedCommands.{Accepts}
use Rattle.xcp_slave.specs.CodesByEffect.{HandsNothing, IsBeside, IsNone, mode_codes, switch_codes}
use Rattle.xcp_slave.specs.Rows.{row}
use Rattle.xcp_slave.specs.SlaveValue.{SlaveValue}
use Rattle.xcp_slave.specs.Step.{Answers, found_by}
use Rattle.xcp_slave.proofs.AcceptedCommandLaws.{accepted}
use Rattle.xcp_slave.proofs.ListInvariantLemmas.{equal, is_below, none-holds}
use Rattle.xcp_slave.proofs.PageLaws.{set-keeps}
use Rattle.xcp_slave.proofs.TransferInvariantLemmas.{none-refused}
use Rattle.xcp_slave.proofs.UnaffectedPartLaws.{drains-part, fires-part, packet-part, stores-part}
use Rattle.xcp_slave.proofs.StepLaws.{hands-part}

-- a part of a segment that no content of its pages changes
Beside : {A : Type 0} → (SegmentPages → A) → Type 0
Beside h = (s : SegmentPages) (pages : List (List ℕ)) → h (record s { pages = pages }) ≡ h s

-- what each segment keeps, the segments keep
all-keep : {A : Type 0} (h : SegmentPages → A) (f : SegmentPages → SegmentPages) → ((s : SegmentPages) → h (f s) ≡ h s) → (xs : List SegmentPages) (i : ℕ) → h (get_or (map f xs) i no_pages) ≡ h (get_or xs i no_pages)
all-keep h f k [] i = refl
all-keep h f k (x ∷ xs) zero = k x
all-keep h f k (x ∷ xs) (suc i) = all-keep h f k xs i

written_by-part : {A : Type 0} (h : SegmentPages → A) → Beside h → (o : Option ℕ) (p : PagesValue) (a : ℕ) (bytes : List ℕ) (i : ℕ) → h (segment_at (written_by o p a bytes) i) ≡ h (segment_at p i)
unfolding Beside
written_by-part h k None p a bytes i = refl
written_by-part h k (Some j) p a bytes i = set-keeps h p.segments j i _ (k (segment_at p j) _)

written_at-part : {A : Type 0} (h : SegmentPages → A) → Beside h → (p : PagesValue) (m : Mta) (bytes : List ℕ) (i : ℕ) → h (segment_at (written_at p m bytes) i) ≡ h (segment_at p i)
written_at-part h k p Nowhere bytes i = refl
written_at-part h k p (Memory a) bytes i = written_by-part h k _ p a bytes i
written_at-part h k p (Text id place) bytes i = refl

-- whichever of two values it is
chosen-part : {A : Type 0} (h : SegmentPages → A) (t : Bool) (x y : TransferValue) (i : ℕ) (s : SegmentPages) → h (segment_at x.pages i) ≡ h s → h (segment_at y.pages i) ≡ h s → h (segment_at (if t then x else y).pages i) ≡ h s
chosen-part h true x y i s a b = a
chosen-part h false x y i s a b = b

next-part : {A : Type 0} (h : SegmentPages → A) → Beside h → (o : Option BlockValue) (remaining : ℕ) (bytes : List ℕ) (t : TransferValue) (i : ℕ) → h (segment_at (next_row o remaining bytes t).after.pages i) ≡ h (segment_at t.pages i)
next-part h k None remaining bytes t i = refl
next-part h k (Some b) remaining bytes t i = chosen-part h _ _ _ i (segment_at t.pages i) (written_at-part h k t.pages (Memory b.address) _ i) refl

switched-part : {A : Type 0} (h : SegmentPages → A) (mode segment page : ℕ) → ((s : SegmentPages) → h (segment_switched mode page s) ≡ h s) → (xs : List SegmentPages) (i : ℕ) (all : Bool) → h (get_or (if all then map (segment_switched mode page) xs else slice_set xs segment (segment_switched mode page (get_or xs segment no_pages))) i no_pages) ≡ h (get_or xs i no_pages)
switched-part h mode segment page k xs i true = all-keep h (segment_switched mode page) k xs i
switched-part h mode segment page k xs i false = set-keeps h xs segment i _ (k (get_or xs segment no_pages))

frozen-if : {A : Type 0} (h : SegmentPages → A) → Beside h → (s : SegmentPages) (b : Bool) → h (if b then with_content s 0 (xcp_page s) else s) ≡ h s
unfolding Beside
frozen-if h k s true = k s _
frozen-if h k s false = refl

frozen-part : {A : Type 0} (h : SegmentPages → A) → Beside h → (p : PagesValue) (i : ℕ) → h (get_or (map segment_frozen p.segments) i no_pages) ≡ h (segment_at p i)
frozen-part h k p i = all-keep h segment_frozen (λ s. frozen-if h k s s.freeze) p.segments i

-- FREEZE modes

freeze-beside : Beside (λ s. s.freeze)
unfolding Beside
freeze-beside s pages = refl

row-mode : (c : Command) (v : SlaveValue) (i : ℕ) → IsNone mode_codes (code c) → (segment_at (row c (found_by c v)).after.transfer.pages i).freeze ≡ (segment_at v.transfer.pages i).freeze
row-mode (commands.SetSegmentMode mode segment) v i h = cc
row-mode (commands.SetCalPage mode segment page) v i h = switched-part (λ s. s.freeze) mode segment page (λ s. refl) v.transfer.pages.segments i (is_of_all mode)
row-mode (commands.CopyCalPage source source_page target target_page) v i h = set-keeps (λ s. s.freeze) v.transfer.pages.segments target i (with_content (segment_at v.transfer.pages target) target_page (content v.transfer.pages source source_page)) refl
row-mode (commands.Download n bytes) v i h = chosen-part (λ s. s.freeze) _ _ _ i (segment_at v.transfer.pages i) (written_at-part (λ s. s.freeze) freeze-beside v.transfer.pages v.transfer.mta _ i) refl
row-mode (commands.DownloadNext remaining bytes) v i h = next-part (λ s. s.freeze) freeze-beside v.transfer.block remaining bytes.items v.transfer i
row-mode (commands.DownloadMax bytes) v i h = written_at-part (λ s. s.freeze) freeze-beside v.transfer.pages v.transfer.mta _ i
row-mode (commands.ShortDownload n extension address bytes) v i h = written_at-part (λ s. s.freeze) freeze-beside v.transfer.pages (Memory address) _ i
row-mode (commands.ModifyBits s ma mx) v i h = written_at-part (λ s. s.freeze) freeze-beside v.transfer.pages v.transfer.mta _ i
row-mode _ v i h = refl

-- a request that is no SET_SEGMENT_MODE keeps each segment's mode
pub mode-kept : (v : SlaveValue) (q : Request) (a : Answer) (w : SlaveValue) (i : ℕ) → IsBeside mode_codes q → Answers v q a w → (segment_at w.transfer.pages i).freeze ≡ (segment_at v.transfer.pages i).freeze
mode-kept v (requests.Command p) a w i b k = packet-part (λ x. (segment_at x.transfer.pages i).freeze) (IsNone mode_codes) v p.items a w refl (λ c h. row-mode c v i h) b k
mode-kept v (requests.Event channel signals) a w i b k = fires-part (λ x. (segment_at x.transfer.pages i).freeze) channel signals.items v a w (λ o lost. refl) k
mode-kept v requests.Drain a w i b k = drains-part (λ x. (segment_at x.transfer.pages i).freeze) v.outbox v a w (λ o. refl) k
mode-kept v requests.FinishStore a w i b k = stores-part (λ x. (segment_at x.transfer.pages i).freeze) v a w (frozen-part (λ s. s.freeze) freeze-beside v.transfer.pages i) k
mode-kept v requests.Hangup a w i b k = ap (λ (x : SlaveValue). (segment_at x.transfer.pages i).freeze) k.1
mode-kept v (requests.Time time) a w i b k = ap (λ (x : SlaveValue). (segment_at x.transfer.pages i).freeze) k.1
mode-kept v (requests.Signals place bytes) a w i b k = hands-part (λ x. (segment_at x.transfer.pages i).freeze) place bytes.items v a w refl k

-- page numbers

ecu-beside : Beside (λ s. s.ecu)
unfolding Beside
ecu-beside s pages = refl

row-ecu : (c : Command) (v : SlaveValue) (i : ℕ) → IsNone switch_codes (code c) → (segment_at (row c (found_by c v)).after.transfer.pages i).ecu ≡ (segment_at v.transfer.pages i).ecu
row-ecu (commands.SetCalPage mode segment page) v i h = cc
row-ecu (commands.SetSegmentMode mode segment) v i h = set-keeps (λ s. s.ecu) v.transfer.pages.segments segment i (record (segment_at v.transfer.pages segment) { freeze = is_freeze mode }) refl
row-ecu (commands.CopyCalPage source source_page target target_page) v i h = set-keeps (λ s. s.ecu) v.transfer.pages.segments target i (with_content (segment_at v.transfer.pages target) target_page (content v.transfer.pages source source_page)) refl
row-ecu (commands.Download n bytes) v i h = chosen-part (λ s. s.ecu) _ _ _ i (segment_at v.transfer.pages i) (written_at-part (λ s. s.ecu) ecu-beside v.transfer.pages v.transfer.mta _ i) refl
row-ecu (commands.DownloadNext remaining bytes) v i h = next-part (λ s. s.ecu) ecu-beside v.transfer.block remaining bytes.items v.transfer i
row-ecu (commands.DownloadMax bytes) v i h = written_at-part (λ s. s.ecu) ecu-beside v.transfer.pages v.transfer.mta _ i
row-ecu (commands.ShortDownload n extension address bytes) v i h = written_at-part (λ s. s.ecu) ecu-beside v.transfer.pages (Memory address) _ i
row-ecu (commands.ModifyBits s ma mx) v i h = written_at-part (λ s. s.ecu) ecu-beside v.transfer.pages v.transfer.mta _ i
row-ecu _ v i h = refl

ecu-number : (v : SlaveValue) (q : Request) (a : Answer) (w : SlaveValue) (i : ℕ) → IsBeside switch_codes q → Answers v q a w → (segment_at w.transfer.pages i).ecu ≡ (segment_at v.transfer.pages i).ecu
ecu-number v (requests.Command p) a w i b k = packet-part (λ x. (segment_at x.transfer.pages i).ecu) (IsNone switch_codes) v p.items a w refl (λ c h. row-ecu c v i h) b k
ecu-number v (requests.Event channel signals) a w i b k = fires-part (λ x. (segment_at x.transfer.pages i).ecu) channel signals.items v a w (λ o lost. refl) k
ecu-number v requests.Drain a w i b k = drains-part (λ x. (segment_at x.transfer.pages i).ecu) v.outbox v a w (λ o. refl) k
ecu-number v requests.FinishStore a w i b k = stores-part (λ x. (segment_at x.transfer.pages i).ecu) v a w (frozen-part (λ s. s.ecu) ecu-beside v.transfer.pages i) k
ecu-number v requests.Hangup a w i b k = ap (λ (x : SlaveValue). (segment_at x.transfer.pages i).ecu) k.1
ecu-number v (requests.Time time) a w i b k = ap (λ (x : SlaveValue). (segment_at x.transfer.pages i).ecu) k.1
ecu-number v (requests.Signals place bytes) a w i b k = hands-part (λ x. (segment_at x.transfer.pages i).ecu) place bytes.items v a w refl k

xcp-beside : Beside (λ s. s.xcp)
unfolding Beside
xcp-beside s pages = refl

row-xcp : (c : Command) (v : SlaveValue) (i : ℕ) → IsNone switch_codes (code c) → (segment_at (row c (found_by c v)).after.transfer.pages i).xcp ≡ (segment_at v.transfer.pages i).xcp
row-xcp (commands.SetCalPage mode segment page) v i h = cc
row-xcp (commands.SetSegmentMode mode segment) v i h = set-keeps (λ s. s.xcp) v.transfer.pages.segments segment i (record (segment_at v.transfer.pages segment) { freeze = is_freeze mode }) refl
row-xcp (commands.CopyCalPage source source_page target target_page) v i h = set-keeps (λ s. s.xcp) v.transfer.pages.segments target i (with_content (segment_at v.transfer.pages target) target_page (content v.transfer.pages source source_page)) refl
row-xcp (commands.Download n bytes) v i h = chosen-part (λ s. s.xcp) _ _ _ i (segment_at v.transfer.pages i) (written_at-part (λ s. s.xcp) xcp-beside v.transfer.pages v.transfer.mta _ i) refl
row-xcp (commands.DownloadNext remaining bytes) v i h = next-part (λ s. s.xcp) xcp-beside v.transfer.block remaining bytes.items v.transfer i
row-xcp (commands.DownloadMax bytes) v i h = written_at-part (λ s. s.xcp) xcp-beside v.transfer.pages v.transfer.mta _ i
row-xcp (commands.ShortDownload n extension address bytes) v i h = written_at-part (λ s. s.xcp) xcp-beside v.transfer.pages (Memory address) _ i
row-xcp (commands.ModifyBits s ma mx) v i h = written_at-part (λ s. s.xcp) xcp-beside v.transfer.pages v.transfer.mta _ i
row-xcp _ v i h = refl

xcp-number : (v : SlaveValue) (q : Request) (a : Answer) (w : SlaveValue) (i : ℕ) → IsBeside switch_codes q → Answers v q a w → (segment_at w.transfer.pages i).xcp ≡ (segment_at v.transfer.pages i).xcp
xcp-number v (requests.Command p) a w i b k = packet-part (λ x. (segment_at x.transfer.pages i).xcp) (IsNone switch_codes) v p.items a w refl (λ c h. row-xcp c v i h) b k
xcp-number v (requests.Event channel signals) a w i b k = fires-part (λ x. (segment_at x.transfer.pages i).xcp) channel signals.items v a w (λ o lost. refl) k
xcp-number v requests.Drain a w i b k = drains-part (λ x. (segment_at x.transfer.pages i).xcp) v.outbox v a w (λ o. refl) k
xcp-number v requests.FinishStore a w i b k = stores-part (λ x. (segment_at x.transfer.pages i).xcp) v a w (frozen-part (λ s. s.xcp) xcp-beside v.transfer.pages i) k
xcp-number v requests.Hangup a w i b k = ap (λ (x : SlaveValue). (segment_at x.transfer.pages i).xcp) k.1
xcp-number v (requests.Time time) a w i b k = ap (λ (x : SlaveValue). (segment_at x.transfer.pages i).xcp) k.1
xcp-number v (requests.Signals place bytes) a w i b k = hands-part (λ x. (segment_at x.transfer.pages i).xcp) place bytes.items v a w refl k

-- a request that is no SET_CAL_PAGE keeps each segment's page numbers, of the controller and of the tool
pub numbers-kept : (v : SlaveValue) (q : Request) (a : Answer) (w : SlaveValue) (i : ℕ) → IsBeside switch_codes q → Answers v q a w → ((segment_at w.transfer.pages i).ecu ≡ (segment_at v.transfer.pages i).ecu) × ((segment_at w.transfer.pages i).xcp ≡ (segment_at v.transfer.pages i).xcp)
numbers-kept v q a w i b k = (ecu-number v q a w i b k, xcp-number v q a w i b k)

-- the signals

written_by-signals : (o : Option ℕ) (p : PagesValue) (a : ℕ) (bytes : List ℕ) → (written_by o p a bytes).signals ≡ p.signals
written_by-signals None p a bytes = refl
written_by-signals (Some i) p a bytes = refl

written_at-signals : (p : PagesValue) (m : Mta) (bytes : List ℕ) → (written_at p m bytes).signals ≡ p.signals
written_at-signals p Nowhere bytes = refl
written_at-signals p (Memory a) bytes = written_by-signals _ p a bytes
written_at-signals p (Text id place) bytes = refl

chosen-signals : (t : Bool) (x y : TransferValue) (s : List ℕ) → x.pages.signals ≡ s → y.pages.signals ≡ s → (if t then x else y).pages.signals ≡ s
chosen-signals true x y s a b = a
chosen-signals false x y s a b = b

next-signals : (o : Option BlockValue) (remaining : ℕ) (bytes : List ℕ) (t : TransferValue) → (next_row o remaining bytes t).after.pages.signals ≡ t.pages.signals
next-signals None remaining bytes t = refl
next-signals (Some b) remaining bytes t = chosen-signals _ _ _ t.pages.signals (written_at-signals t.pages (Memory b.address) _) refl

row-signals : (c : Command) (v : SlaveValue) → (row c (found_by c v)).after.transfer.pages.signals ≡ v.transfer.pages.signals
row-signals (commands.Download n bytes) v = chosen-signals _ _ _ v.transfer.pages.signals (written_at-signals v.transfer.pages v.transfer.mta _) refl
row-signals (commands.DownloadNext remaining bytes) v = next-signals v.transfer.block remaining bytes.items v.transfer
row-signals (commands.DownloadMax bytes) v = written_at-signals v.transfer.pages v.transfer.mta _
row-signals (commands.ShortDownload n extension address bytes) v = written_at-signals v.transfer.pages (Memory address) _
row-signals (commands.ModifyBits s ma mx) v = written_at-signals v.transfer.pages v.transfer.mta _
row-signals _ v = refl

-- a request that hands no signals over keeps them
pub signals-kept : (v : SlaveValue) (q : Request) (a : Answer) (w : SlaveValue) → HandsNothing q → Answers v q a w → w.transfer.pages.signals ≡ v.transfer.pages.signals
signals-kept v (requests.Command p) a w e k = packet-part (λ x. x.transfer.pages.signals) (λ n. Unit {0}) v p.items a w refl (λ c h. row-signals c v) tt k
signals-kept v (requests.Event channel signals) a w e k = absurd e
signals-kept v requests.Drain a w e k = drains-part (λ x. x.transfer.pages.signals) v.outbox v a w (λ o. refl) k
signals-kept v requests.FinishStore a w e k = stores-part (λ x. x.transfer.pages.signals) v a w refl k
signals-kept v requests.Hangup a w e k = ap (λ (x : SlaveValue). x.transfer.pages.signals) k.1
signals-kept v (requests.Time time) a w e k = ap (λ (x : SlaveValue). x.transfer.pages.signals) k.1
signals-kept v (requests.Signals place bytes) a w e k = absurd e

-- SET_SEGMENT_MODE

mode-led : (v w : SlaveValue) (mode segment i : ℕ) (bytes : List ℕ) → Accepts v (commands.SetSegmentMode mode segment) bytes w → segment_at w.transfer.pages i ≡ get_or (slice_set v.transfer.pages.segments segment (record (segment_at v.transfer.pages segment) { freeze = is_freeze mode })) i no_pages
mode-led v w mode segment i bytes h = ap (λ (x : SlaveValue). segment_at x.transfer.pages i) (accepted (commands.SetSegmentMode mode segment) v bytes w h).after

-- an accepted SET_SEGMENT_MODE gives its segment FREEZE mode, or takes it away, by bit 0 of the mode
pub mode-set : (v w : SlaveValue) (mode segment : ℕ) (bytes : List ℕ) → Accepts v (commands.SetSegmentMode mode segment) bytes w → (segment_at w.transfer.pages segment).freeze ≡ (bit_and mode 0x01 == 0x01)
mode-set v w mode segment bytes h =
    let p : PagesValue = v.transfer.pages in
    let k = accepted (commands.SetSegmentMode mode segment) v bytes w h in
    let a = none-holds ((not (is_segment_mode mode), ModeNotValid) ∷ (lacks_segment segment p, SegmentNotValid) ∷ []) (none-refused (set_freeze_refusal mode segment p) k.allowed) in
    ap (λ (s : SegmentPages). s.freeze) (mode-led v w mode segment segment bytes h ∙ get_or-set_same p.segments segment (record (segment_at p segment) { freeze = is_freeze mode }) no_pages (is_below _ _ a.1.0))

-- an accepted SET_SEGMENT_MODE changes no other segment
pub mode-others : (v w : SlaveValue) (mode segment i : ℕ) (bytes : List ℕ) → Accepts v (commands.SetSegmentMode mode segment) bytes w → i ≢ segment → segment_at w.transfer.pages i ≡ segment_at v.transfer.pages i
mode-others v w mode segment i bytes h d = mode-led v w mode segment i bytes h ∙ get_or-set_other v.transfer.pages.segments segment i _ no_pages d

-- an accepted SET_SEGMENT_MODE changes no byte of its segment's pages
pub mode-bytes : (v w : SlaveValue) (mode segment i : ℕ) (bytes : List ℕ) → Accepts v (commands.SetSegmentMode mode segment) bytes w → (segment_at w.transfer.pages i).pages ≡ (segment_at v.transfer.pages i).pages
mode-bytes v w mode segment i bytes h = ap (λ (s : SegmentPages). s.pages) (mode-led v w mode segment i bytes h) ∙ set-keeps (λ s. s.pages) v.transfer.pages.segments segment i (record (segment_at v.transfer.pages segment) { freeze = is_freeze mode }) refl

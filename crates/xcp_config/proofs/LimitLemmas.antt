-- Parts that were read of a table that passes its checks keep the limits of parts, but perhaps those of overlapping areas.
use Rattle.std.proofs.Common.{◌≡◌, not, ℕ, ◌+◌, Bool, true, false, List, length, map, ◌++◌, ◌∷◌, [], take, Some, None, Option, refl, sym, ◌∙◌, ap, sum_by, is_some, unwrap_or, nat_le, ◌==◌, ◌&&◌, codes, if◌then◌else◌, ℤ, pos, negsuc, arith}
use Rattle.std.proofs.lemmas.Bool.Decides.{nat_tests}
use Rattle.std.specs.List.{flat_map, enumerate_from, fold, list_all}
use Rattle.std.proofs.lemmas.List.{take-map, length-map}
use Rattle.std.proofs.lemmas.Simd.{map-map}
use Rattle.std.specs.Option.{option_and_then, option_map}
use Rattle.toml.specs.Data.{Data, get, as_str, as_integer}
use Rattle.xcp_memory.specs.declared.Class.{Class}
use Rattle.xcp_memory.specs.declared.Class.TheVariants.{Papers, Large}
use Rattle.xcp_memory.specs.declared.Key.{Key}
use Rattle.xcp_memory.specs.declared.Key.TheVariants as key
use Rattle.xcp_memory.specs.declared.Parts.{Parts}
use Rattle.xcp_memory.specs.declared.SegmentPart.{SegmentPart}
use Rattle.xcp_memory.specs.declared.EventPart.{EventPart}
use Rattle.xcp_memory.specs.declared.ClockPart.{ClockPart}
use Rattle.xcp_memory.specs.ClassLimits.{limits_of}
use Rattle.xcp_memory.specs.LayoutParts.{number, size, layout_from, areas, segment_of_part, event_of_part}
use Rattle.xcp_memory.specs.Layout.{SegmentValue, EventValue, ExtrasValue}
use Rattle.xcp_memory.specs.Limits.{Limit, first_fault as first_limit, clock_limits, own_limits, segment_limits, segments_limits, limits_in, signals_limits, event_limits, events_limits, apart_limits, is_within, is_printable, is_text, is_text_or_none, is_address, ends_in_time, text_limit, number_limit, least_limit, count_limits, id_limit, max_cto_limit, max_dto_limit, segment_counts, address_limit, pages_limit, signals_address_limit, signals_length_limit, event_counts, name_limit, cycle_limit, unit_limit, priority_limit}
use Rattle.xcp_memory.specs.declared.LayoutFault.{LayoutFault}
use Rattle.xcp_config.specs.declared.config_error.ConfigError.{ConfigError}
use Rattle.xcp_config.specs.declared.config_error.ConfigError.TheVariants as error
use Rattle.xcp_packet.specs.Rows.{first_holding}
use Rattle.xcp_config.specs.FaultNumbers.{error_of}
use Rattle.xcp_config.specs.TomlValues.{value_text, integer_of, bytes_in_hex, members_of, is_array_of_tables, byte_orders, checksums, classes, overloads}
use Rattle.xcp_config.specs.TableLayout.{layout_in, byte_order_of, checksum_in_table, class_of, class_in, a2l_in, File, Filed, data_by, file_key, segment_tables, clock_key, clock_in, clock_setting, clock_part, segments_of, signals_table, event_tables, address_of, size_of, pages_of, length_of, setting, segment_in, event_in}
use Rattle.xcp_config.specs.private.PartsRead.{ReadsPart, ReadSegment, Event, segment_read, segment_in_parts, event_read, event_written}
use Rattle.xcp_config.specs.TableChecks.{text_checks, name_checks, integer_checks, boolean_checks, if_there, data_checks, name_of_file_checks, content_checks, checks_of_bytes, bytes_checks, array_checks, table_checks, extras_checks, size_check, clock_key_checks, checks_of_clock, clock_checks, own_checks, size_checks, segment_checks, checks_in, segments_checks, end_checks, place_checks, signals_checks, event_checks, events_checks, limit_check}
use Rattle.xcp_packet.proofs.RowTestLemmas.{none_both, none_left}
use Rattle.xcp_config.proofs.ArrayMemberLemmas.{length-filed}

-- three limits that are kept, four, and five
three_kept : (a b c : Bool) (e f g : LayoutFault) → a ≡ true → b ≡ true → c ≡ true → (if not a then Some e else (if not b then Some f else (if not c then Some g else None))) ≡ None
three_kept a b c e f g h i j = rw (h, i, j) refl

four_kept : (a b c d : Bool) (e f g k : LayoutFault) → a ≡ true → b ≡ true → c ≡ true → d ≡ true → (if not a then Some e else (if not b then Some f else (if not c then Some g else (if not d then Some k else None)))) ≡ None
four_kept a b c d e f g k h i j l = rw (h, i, j, l) refl

five_kept : (a b c d e : Bool) (f g h i j : LayoutFault) → a ≡ true → b ≡ true → c ≡ true → d ≡ true → e ≡ true → (if not a then Some f else (if not b then Some g else (if not c then Some h else (if not d then Some i else (if not e then Some j else None))))) ≡ None
five_kept a b c d e f g h i j k l m n o = rw (k, l, m, n, o) refl

-- two limits on how many there are, and those of each
counted_kept : (a b : Bool) (e f : LayoutFault) (r : Option LayoutFault) → a ≡ true → b ≡ true → r ≡ None → (if not a then Some e else (if not b then Some f else r)) ≡ None
counted_kept a b e f r h i j = rw (h, i, j) refl

-- where three checks pass, the third does
third_passes : (a b c : Bool) (e f g : ConfigError) → (if not a then Some e else (if not b then Some f else (if not c then Some g else None))) ≡ None → c ≡ true
third_passes true true true e f g h = refl
third_passes true true false e f g h = cc
third_passes true false c e f g h = cc
third_passes false b c e f g h = cc

-- where four checks pass, the third and the fourth do
last_pass : (a b c d : Bool) (e f g i : ConfigError) → (if not a then Some e else (if not b then Some f else (if not c then Some g else (if not d then Some i else None)))) ≡ None → (c ≡ true) × (d ≡ true)
last_pass true true true true e f g i h = (refl, refl)
last_pass true true true false e f g i h = cc
last_pass true true false d e f g i h = cc
last_pass true false c d e f g i h = cc
last_pass false b c d e f g i h = cc

-- where two checks pass, both do
two_pass : (a b : Bool) (e f : ConfigError) → (if not a then Some e else (if not b then Some f else None)) ≡ None → (a ≡ true) × (b ≡ true)
two_pass true true e f h = (refl, refl)
two_pass true false e f h = cc
two_pass false b e f h = cc

one_passes : (a : Bool) (e : ConfigError) → (if not a then Some e else None) ≡ None → a ≡ true
one_passes true e h = refl
one_passes false e h = cc

-- the range of a text, of an integer and of data that pass
pub text_good : (k : Key) (most : ℕ) (v : Option Data) → first_holding (text_checks k (text_limit most k) v) ≡ None → is_text most (value_text v) ≡ true
unfolding text_checks
text_good k most v h = third_passes (is_some v) (is_some (option_and_then as_str v)) (is_text most (value_text v)) (error.Missing k) (error.Kind k) (error.Range k) h

-- an integer that passes its checks is within its limits
pub integer_good : (k : Key) (least most : ℕ) (v : Option Data) → first_holding (integer_checks k (number_limit least most k) v) ≡ None → is_within least most (integer_of v) ≡ true
unfolding integer_checks
integer_good k least most v h = third_passes (is_some v) (is_some (option_and_then as_integer v)) (is_within least most (integer_of v)) (error.Missing k) (error.Kind k) (error.Range k) h

-- data that pass their checks have one byte or more
pub data_good : (k : Key) (v : Option Data) → first_holding (data_checks k (least_limit k) v) ≡ None → nat_le 1 (length (bytes_in_hex v)) ≡ true
unfolding data_checks
data_good k v h = third_passes (is_some v) (is_some (option_and_then as_str v)) (nat_le 1 (length (bytes_in_hex v))) (error.Missing k) (error.Kind k) (error.Range k) h

-- how many members an array has that passes
array_good : (k : Key) (most : ℕ) (v : Option Data) → first_holding (array_checks k (count_limits most k) v) ≡ None → (nat_le 1 (length (members_of v)) ≡ true) × (nat_le (length (members_of v)) most ≡ true)
unfolding array_checks
array_good k most v h = last_pass (is_some v) (is_array_of_tables v) (nat_le 1 (length (members_of v))) (nat_le (length (members_of v)) most) (error.Missing k) (error.Kind k) (error.Range k) (error.TooMany k) h

-- the name of the A2L file
other_two : (a b c : Bool) → (a && b && c) ≡ true → (b && c) ≡ true
other_two true b c h = h
other_two false b c h = cc

some_or_none : (most : ℕ) (bytes : List ℕ) → is_text most bytes ≡ true → is_text_or_none most bytes ≡ true
some_or_none most bytes h = other_two (nat_le 1 (length bytes)) (nat_le (length bytes) most) (list_all is_printable bytes) h

name_kept : (v : Option Data) → first_holding (if_there (text_checks key.A2l (text_limit 64 key.A2l)) v) ≡ None → is_text_or_none 64 (value_text v) ≡ true
name_kept None h = refl
name_kept (Some d) h = some_or_none 64 (value_text (Some d)) (text_good key.A2l 64 (Some d) h)

a2l_kept : (t : Data) → first_holding (extras_checks t) ≡ None → is_text_or_none 64 (a2l_in t) ≡ true
unfolding extras_checks
a2l_kept t h =
    let a = if_there (text_checks key.A2l (text_limit 64 key.A2l)) (get (codes "a2l") t) in
    let b = if_there (boolean_checks key.UploadA2l) (get (codes "upload_a2l") t) in
    let c = if_there (name_checks key.Overload overloads) (get (codes "overload") t) in
    name_kept (get (codes "a2l") t) (none_both a b (none_both (a ++ b) c h).0).0

-- the clock
size_kept : (z : ℤ) → is_within 1 4 z ≡ true → is_within 0 4 z ≡ true
size_kept (pos n) h = grind (arith, nat_tests)
size_kept (negsuc n) h = h

keys_kept : (c : Data) → first_holding (clock_key_checks c) ≡ None → first_holding (clock_limits (clock_part c)) ≡ None
unfolding clock_key_checks
keys_kept c h =
    let a = integer_checks key.ClockSize (number_limit 1 4 key.ClockSize) (clock_setting (codes "size") 4 c) in
    let b = size_check (clock_part c).size in
    let d = integer_checks key.ClockUnit (number_limit 0 12 key.ClockUnit) (clock_setting (codes "unit") 3 c) in
    let e = integer_checks key.ClockTicks (number_limit 1 65535 key.ClockTicks) (clock_setting (codes "ticks") 1 c) in
    let three = none_both (a ++ b ++ d) e h in
    let two = none_both (a ++ b) d three.0 in
    let one = none_both a b two.0 in
    let size = size_kept (integer_of (clock_setting (codes "size") 4 c)) (integer_good key.ClockSize 1 4 (clock_setting (codes "size") 4 c) one.0) in
    let known = one_passes (not (number (clock_part c).size == 3)) (error.Range key.ClockSize) one.1 in
    let unit = integer_good key.ClockUnit 0 12 (clock_setting (codes "unit") 3 c) two.1 in
    let ticks = integer_good key.ClockTicks 1 65535 (clock_setting (codes "ticks") 1 c) three.1 in
    let fault : ℕ → ℕ → Key → ℤ → LayoutFault = λ least most k n. (number_limit least most k n).1 in
    four_kept _ _ _ _ (fault 0 4 key.ClockSize (clock_part c).size) (fault 0 4 key.ClockSize (clock_part c).size) (fault 0 12 key.ClockUnit (clock_part c).unit) (fault 1 65535 key.ClockTicks (clock_part c).ticks) size known unit ticks

table_kept : (v : Option Data) → first_holding (checks_of_clock v) ≡ None → first_holding (clock_limits (clock_in v)) ≡ None
table_kept None h = refl
table_kept (Some c) h = keys_kept c (none_both (table_checks key.Clock (Some c)) (clock_key_checks c) h).1

clock_kept : (t : Data) → first_holding (clock_checks t) ≡ None → first_holding (clock_limits (clock_in (clock_key t))) ≡ None
unfolding clock_checks
clock_kept t h = table_kept (clock_key t) h

own_by : (a b c d e : Bool) (f g k l m : LayoutFault) (r : Option LayoutFault) → a ≡ true → b ≡ true → c ≡ true → d ≡ true → e ≡ true → r ≡ None → (if not a then Some f else (if not b then Some g else (if not c then Some k else (if not d then Some l else (if not e then Some m else r))))) ≡ None
own_by a b c d e f g k l m r h i j n o p = rw (h, i, j, n, o, p) refl

-- the slave's own values
own_kept : (p : Parts) (files : List File) (t : Data) → ReadsPart p files t → first_holding (own_checks t) ≡ None → first_holding (own_limits p) ≡ None
unfolding own_checks
own_kept p files t r h =
    let a = text_checks key.Id id_limit (get (codes "id") t) in
    let b = integer_checks key.MaxCto max_cto_limit (get (codes "max_cto") t) in
    let c = integer_checks key.MaxDto max_dto_limit (get (codes "max_dto") t) in
    let d = name_checks key.ByteOrder byte_orders (byte_order_of t) in
    let e = name_checks key.Checksum checksums (checksum_in_table t) in
    let seven = none_both (a ++ b ++ c ++ d ++ e ++ extras_checks t ++ clock_checks t) (name_checks key.Class classes (class_of t)) h in
    let all = none_both (a ++ b ++ c ++ d ++ e ++ extras_checks t) (clock_checks t) seven.0 in
    let five = none_both (a ++ b ++ c ++ d ++ e) (extras_checks t) all.0 in
    let four = none_both (a ++ b ++ c ++ d) e five.0 in
    let three = none_both (a ++ b ++ c) d four.0 in
    let two = none_both (a ++ b) c three.0 in
    let one = none_both a b two.0 in
    let id = ap (is_text 64) r.id ∙ text_good key.Id 64 (get (codes "id") t) one.0 in
    let cto = ap (is_within 8 255) r.max_cto ∙ integer_good key.MaxCto 8 255 (get (codes "max_cto") t) one.1 in
    let dto = ap (is_within 8 255) r.max_dto ∙ integer_good key.MaxDto 8 255 (get (codes "max_dto") t) two.1 in
    let a2l = ap (λ (x : ExtrasValue). is_text_or_none 64 x.a2l) r.extras ∙ a2l_kept t five.1 in
    own_by _ _ _ _ _ _ _ _ _ _ _ id cto dto r.known a2l (ap (λ (x : ClockPart). first_holding (clock_limits x)) r.clock ∙ clock_kept t all.1)

-- the sum of what a list's elements are seen as
sum_map : {A B : Type 0} (f : B → ℕ) (g : A → B) (n : ℕ) (xs : List A) → fold (λ m x. m + f (g x)) n xs ≡ fold (λ m y. m + f y) n (map g xs)
sum_map f g n [] = refl
sum_map f g n (x ∷ xs) = sum_map f g (n + f (g x)) xs

-- as many bytes were read as are written, up to each place
sums : (ss : List SegmentPart) (ds : List Filed) (n : ℕ) → map segment_read ss ≡ map segment_in_parts ds → sum_by size (take n ss) ≡ sum_by size_of (take n ds)
sums ss ds n e =
    let f = sym (take-map segment_read n ss) ∙ ap (take n) e ∙ take-map segment_in_parts n ds in
    let bytes : ReadSegment → ℕ = λ s. length s.bytes in
    sum_map bytes segment_read 0 (take n ss) ∙ ap (sum_by bytes) f ∙ sym (sum_map bytes segment_in_parts 0 (take n ds))

-- the bytes of a segment that pass are one or more
content_good : (i : ℕ) (file : File) → first_holding (content_checks i file) ≡ None → nat_le 1 (length (unwrap_or file [])) ≡ true
unfolding content_checks
content_good i file h = (two_pass (is_some file) (nat_le 1 (length (unwrap_or file []))) (error.Missing (key.Data i)) (error.Range (key.Data i)) h).1

bytes_by : (i : ℕ) (v : Option Data) (d : Filed) → first_holding (checks_of_bytes i v d) ≡ None → nat_le 1 (length (data_by v d)) ≡ true
bytes_by i None d h = data_good (key.Data i) (get (codes "data") d.1) h
bytes_by i (Some name) d h = content_good i d.0 (none_both (name_of_file_checks i name d.1) (content_checks i d.0) h).1

bytes_good : (i : ℕ) (d : Filed) → first_holding (bytes_checks i d) ≡ None → nat_le 1 (size_of d) ≡ true
unfolding bytes_checks
bytes_good i d h = bytes_by i (file_key d.1) d h

-- one segment
segment_kept : (class : Class) (i m n : ℕ) (s : SegmentPart) (d : Filed) → m ≡ n → segment_read s ≡ segment_in_parts d → first_holding (segment_checks class i n d) ≡ None → first_holding (segment_limits class i m s) ≡ None
unfolding segment_checks
segment_kept class i m n s d q e h =
    let a = integer_checks (key.Address i) (address_limit i) (get (codes "address") d.1) in
    let b = bytes_checks i d in
    let c = size_checks class i n (address_of d.1) (size_of d) in
    let f = integer_checks (key.Pages i) (pages_limit i) (pages_of d.1) in
    let three = none_both (a ++ b ++ c) f h in
    let two = none_both (a ++ b) c three.0 in
    let one = none_both a b two.0 in
    let place = two_pass (nat_le n (limits_of class).bytes) (ends_in_time (address_of d.1) (size_of d)) (error.TooMany (key.Data i)) (error.Range (key.Address i)) two.1 in
    let address : s.address ≡ address_of d.1 = ap (λ (x : ReadSegment). x.address) e in
    let bytes : size s ≡ size_of d = ap (λ (x : ReadSegment). length x.bytes) e in
    let first = ap is_address address ∙ integer_good (key.Address i) 0 0xFFFF_FFFE (get (codes "address") d.1) one.0 in
    let second = ap (nat_le 1) bytes ∙ bytes_good i d one.1 in
    let third = ap (λ k. nat_le k (limits_of class).bytes) q ∙ place.0 in
    let fourth : ends_in_time s.address (size s) ≡ true = rw (address, bytes) place.1 in
    let fifth = ap (λ (x : ReadSegment). is_within 2 4 x.pages) e ∙ integer_good (key.Pages i) 2 4 (pages_of d.1) three.1 in
    five_kept _ _ _ _ _ _ _ _ _ _ first second third fourth fifth

-- the segments from one of them on
segments_from : (class : Class) (ss : List SegmentPart) (ds : List Filed) → ((n : ℕ) → sum_by size (take n ss) ≡ sum_by size_of (take n ds)) → (i : ℕ) (xs : List SegmentPart) (ys : List Filed) → map segment_read xs ≡ map segment_in_parts ys → first_holding (flat_map (checks_in class ds) (enumerate_from i ys)) ≡ None → first_holding (flat_map (limits_in class ss) (enumerate_from i xs)) ≡ None
segments_from class ss ds q i [] ys e h = refl
segments_from class ss ds q i (x ∷ xs) [] e h = cc
segments_from class ss ds q i (x ∷ xs) (y ∷ ys) e h =
    let head : segment_read x ≡ segment_in_parts y = cc in
    let tail : map segment_read xs ≡ map segment_in_parts ys = cc in
    let both = none_both (checks_in class ds (i, y)) (flat_map (checks_in class ds) (enumerate_from (i + 1) ys)) h in
    let here = segment_kept class i (sum_by size (take (i + 1) ss)) (sum_by size_of (take (i + 1) ds)) x y (q (i + 1)) head both.0 in
    none_left (limits_in class ss (i, x)) (flat_map (limits_in class ss) (enumerate_from (i + 1) xs)) here ∙ segments_from class ss ds q (i + 1) xs ys tail both.1

segments_kept : (p : Parts) (files : List File) (t : Data) → ReadsPart p files t → first_holding (segments_checks files t) ≡ None → first_holding (segments_limits p.class p.segments.items) ≡ None
unfolding segments_checks
segments_kept p files t r h =
    let ss = p.segments.items in
    let ds = segments_of files t in
    let class = class_in t in
    let most = (limits_of class).segments in
    let both = none_both (array_checks key.Segment (segment_counts class) (get (codes "segment") t)) (flat_map (checks_in class ds) (enumerate_from 0 ds)) h in
    let counts = array_good key.Segment most (get (codes "segment") t) both.0 in
    let n : length ss ≡ length (segment_tables t) = sym (length-map ss segment_read) ∙ ap length r.segments ∙ length-map ds segment_in_parts ∙ length-filed files (segment_tables t) in
    let each = segments_from class ss ds (λ k. sums ss ds k r.segments) 0 ss ds r.segments both.1 in
    ap (λ (k : Class). first_holding (segments_limits k ss)) r.class
    ∙ counted_kept (nat_le 1 (length ss)) (nat_le (length ss) most) _ _ _ (ap (nat_le 1) n ∙ counts.0) (ap (λ k. nat_le k most) n ∙ counts.1) each

-- a number of bytes of signals within the limit of a class is within that of the large one
pub few_signals : (class : Class) (n : ℤ) → is_within 1 (limits_of class).signals n ≡ true → is_within 1 16384 n ≡ true
few_signals Papers (pos n) h = grind (arith, nat_tests, h)
few_signals Papers (negsuc n) h = h
few_signals Large n h = h

signals_kept : (p : Parts) (files : List File) (t : Data) → ReadsPart p files t → first_holding (signals_checks t) ≡ None → first_holding (signals_limits p.class p.signals_address p.signals_length) ≡ None
unfolding signals_checks place_checks
signals_kept p files t r h =
    let s = signals_table t in
    let a = integer_checks key.SignalsAddress signals_address_limit (get (codes "address") s) in
    let most = (limits_of (class_in t)).signals in
    let b = integer_checks key.SignalsLength (signals_length_limit (class_in t)) (get (codes "length") s) in
    let c = end_checks (address_of s) (length_of s) in
    let both = none_both (table_checks key.Signals (get (codes "signals") t)) (place_checks (class_in t) s) h in
    let two = none_both (a ++ b) c both.1 in
    let one = none_both a b two.0 in
    let last = one_passes (ends_in_time (address_of s) (number (length_of s))) (error.Range key.SignalsAddress) two.1 in
    let first = ap is_address r.signals_address ∙ integer_good key.SignalsAddress 0 0xFFFF_FFFE (get (codes "address") s) one.0 in
    let second = ap (is_within 1 most) r.signals_length ∙ integer_good key.SignalsLength 1 most (get (codes "length") s) one.1 in
    let third : ends_in_time p.signals_address (number p.signals_length) ≡ true = rw (r.signals_address, r.signals_length) last in
    ap (λ (k : Class). first_holding (signals_limits k p.signals_address p.signals_length)) r.class ∙ three_kept _ _ _ _ _ _ first second third

-- one event channel
event_kept : (i : ℕ) (e : EventPart) (d : Data) → event_read e ≡ event_written d → first_holding (event_checks (i, d)) ≡ None → first_holding (event_limits (i, e)) ≡ None
unfolding event_checks
event_kept i e d q h =
    let a = text_checks (key.Name i) (name_limit i) (get (codes "name") d) in
    let b = integer_checks (key.Cycle i) (cycle_limit i) (setting (codes "cycle") d) in
    let c = integer_checks (key.Unit i) (unit_limit i) (setting (codes "unit") d) in
    let f = integer_checks (key.Priority i) (priority_limit i) (setting (codes "priority") d) in
    let three = none_both (a ++ b ++ c) f h in
    let two = none_both (a ++ b) c three.0 in
    let one = none_both a b two.0 in
    let name = ap (λ (x : Event). is_text 32 x.name) q ∙ text_good (key.Name i) 32 (get (codes "name") d) one.0 in
    let cycle = ap (λ (x : Event). is_within 0 255 x.cycle) q ∙ integer_good (key.Cycle i) 0 255 (setting (codes "cycle") d) one.1 in
    let unit = ap (λ (x : Event). is_within 0 255 x.unit) q ∙ integer_good (key.Unit i) 0 255 (setting (codes "unit") d) two.1 in
    let priority = ap (λ (x : Event). is_within 0 255 x.priority) q ∙ integer_good (key.Priority i) 0 255 (setting (codes "priority") d) three.1 in
    four_kept _ _ _ _ _ _ _ _ name cycle unit priority

events_from : (i : ℕ) (xs : List EventPart) (ys : List Data) → map event_read xs ≡ map event_written ys → first_holding (flat_map event_checks (enumerate_from i ys)) ≡ None → first_holding (flat_map event_limits (enumerate_from i xs)) ≡ None
events_from i [] ys e h = refl
events_from i (x ∷ xs) [] e h = cc
events_from i (x ∷ xs) (y ∷ ys) e h =
    let head : event_read x ≡ event_written y = cc in
    let tail : map event_read xs ≡ map event_written ys = cc in
    let both = none_both (event_checks (i, y)) (flat_map event_checks (enumerate_from (i + 1) ys)) h in
    none_left (event_limits (i, x)) (flat_map event_limits (enumerate_from (i + 1) xs)) (event_kept i x y head both.0) ∙ events_from (i + 1) xs ys tail both.1

events_kept : (p : Parts) (files : List File) (t : Data) → ReadsPart p files t → first_holding (events_checks t) ≡ None → first_holding (events_limits p.class p.events.items) ≡ None
unfolding events_checks
events_kept p files t r h =
    let es = p.events.items in
    let ds = event_tables t in
    let most = (limits_of (class_in t)).events in
    let both = none_both (array_checks key.Event (event_counts (class_in t)) (get (codes "event") t)) (flat_map event_checks (enumerate_from 0 ds)) h in
    let counts = array_good key.Event most (get (codes "event") t) both.0 in
    let n : length es ≡ length ds = sym (length-map es event_read) ∙ ap length r.events ∙ length-map ds event_written in
    let each = events_from 0 es ds r.events both.1 in
    ap (λ (k : Class). first_holding (events_limits k es)) r.class
    ∙ counted_kept (nat_le 1 (length es)) (nat_le (length es) most) _ _ _ (ap (nat_le 1) n ∙ counts.0) (ap (λ k. nat_le k most) n ∙ counts.1) each

-- what was read as a segment or an event channel of the layout
as_segment : ReadSegment → SegmentValue
as_segment s = record { address = number s.address; bytes = s.bytes; pages = number s.pages }

as_event : Event → EventValue
as_event e = record { name = e.name; cycle = number e.cycle; unit = number e.unit; priority = number e.priority }

-- the parts have the table's layout
pub layout_read : (p : Parts) (files : List File) (t : Data) → ReadsPart p files t → layout_from p ≡ layout_in files t
unfolding as_segment as_event
layout_read p files t r =
    let segments : map segment_of_part p.segments.items ≡ map segment_in (segments_of files t) =
    sym (map-map as_segment segment_read p.segments.items) ∙ ap (map as_segment) r.segments ∙ map-map as_segment segment_in_parts (segments_of files t) in
    let events : map event_of_part p.events.items ≡ map event_in (event_tables t) =
    sym (map-map as_event event_read p.events.items) ∙ ap (map as_event) r.events ∙ map-map as_event event_written (event_tables t) in
    rw (r.class, r.id, r.max_cto, r.max_dto, r.checksum, r.order, r.clock, segments, r.signals_address, r.signals_length, events, r.extras) refl

-- the areas decide, where all checks before theirs pass
pub areas_decide : (p : Parts) (files : List File) (t : Data) → ReadsPart p files t → first_holding (own_checks t ++ segments_checks files t ++ signals_checks t ++ events_checks t) ≡ None → first_limit p ≡ first_holding (apart_limits (areas (layout_in files t)))
areas_decide p files t r h =
    let all = none_both (own_checks t ++ segments_checks files t ++ signals_checks t) (events_checks t) h in
    let most = none_both (own_checks t ++ segments_checks files t) (signals_checks t) all.0 in
    let some = none_both (own_checks t) (segments_checks files t) most.0 in
    let a = own_limits p in
    let b = segments_limits p.class p.segments.items in
    let c = signals_limits p.class p.signals_address p.signals_length in
    let d = events_limits p.class p.events.items in
    let e = apart_limits (areas (layout_from p)) in
    let one = own_kept p files t r some.0 in
    let two = none_left a b one ∙ segments_kept p files t r some.1 in
    let three = none_left (a ++ b) c two ∙ signals_kept p files t r most.1 in
    let four = none_left (a ++ b ++ c) d three ∙ events_kept p files t r all.1 in
    none_left (a ++ b ++ c ++ d) e four ∙ ap (λ l. first_holding (apart_limits (areas l))) (layout_read p files t r)

-- the checks of the areas tell the first broken limit of theirs
pub overlaps : (ls : List Limit) (f : Option LayoutFault) → first_holding ls ≡ f → first_holding (map limit_check ls) ≡ option_map error_of f
overlaps [] f h = ap (option_map error_of) h
overlaps (l ∷ ls) f h =
    elim l.0 as (λ b. (if b then Some l.1 else first_holding ls) ≡ f → (if b then Some (error_of l.1) else first_holding (map limit_check ls)) ≡ option_map error_of f) [
      | true ↦ λ k. ap (option_map error_of) k
      | false ↦ λ k. overlaps ls f k
    ] h

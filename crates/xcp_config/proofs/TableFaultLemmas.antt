-- No check of a table tells that the text is no document, or that an allocation failed.
use Rattle.std.proofs.Common.{◌≡◌, ◌≢◌, ℕ, ◌+◌, take, sum_by, Bool, true, false, ◌&&◌, List, [], ◌∷◌, ◌++◌, map, codes, Option, Some, None, refl, sym, if◌then◌else◌}
use Rattle.std.specs.List.{list_all, flat_map, enumerate_from}
use Rattle.toml.specs.Data.{Data, get}
use Rattle.xcp_memory.specs.declared.Class.{Class}
use Rattle.xcp_memory.specs.declared.Key.{Key}
use Rattle.xcp_memory.specs.declared.Key.TheVariants as key
use Rattle.xcp_memory.specs.declared.LayoutFault.{LayoutFault}
use Rattle.xcp_memory.specs.declared.LayoutFault.TheVariants as limit
use Rattle.xcp_memory.specs.ClassLimits.{limits_of}
use Rattle.xcp_memory.specs.LayoutParts.{areas}
use Rattle.xcp_memory.specs.Limits.{Limit, count_limits, segment_counts, event_counts, apart_limits}
use Rattle.xcp_config.specs.declared.config_error.ConfigError.{ConfigError}
use Rattle.xcp_config.specs.declared.config_error.ConfigError.TheVariants.{Text, Missing, Kind, Range, Overlap, TooMany, Memory}
use Rattle.xcp_packet.specs.Rows.{first_holding}
use Rattle.xcp_config.specs.Check.{Check}
use Rattle.xcp_config.specs.FaultNumbers.{error_of}
use Rattle.xcp_config.specs.TomlValues.{classes, overloads}
use Rattle.xcp_memory.specs.Limits.{address_limit, pages_limit, text_limit}
use Rattle.xcp_config.specs.TableLayout.{File, Filed, file_key, address_of, size_of, pages_of, layout_in, class_of, class_in, clock_key, segments_of, event_tables}
use Rattle.xcp_config.specs.TableChecks.{text_checks, name_checks, integer_checks, data_checks, array_checks, table_checks, boolean_checks, if_there, extras_checks, checks_of_clock, clock_checks, clock_key_checks, own_checks, size_checks, name_of_file_checks, content_checks, checks_of_bytes, bytes_checks, segment_checks, checks_in, segments_checks, place_checks, signals_checks, event_checks, events_checks, limit_check, limit_checks, checks, first_table_fault}

-- a fault of a table
abbrev of_table : ConfigError → Bool
of_table Text = false
of_table (Missing k) = true
of_table (Kind k) = true
of_table (Range k) = true
of_table (Overlap a b) = true
of_table (TooMany k) = true
of_table Memory = false

-- checks whose faults are all of a table
abbrev all_of_table : List Check → Bool
all_of_table cs = list_all (λ (c : Check). of_table c.1) cs

both : (xs ys : List Check) → all_of_table xs ≡ true → all_of_table ys ≡ true → all_of_table (xs ++ ys) ≡ true
both [] ys h i = i
both (x ∷ xs) ys h i =
    elim (of_table x.1) as (λ b. (b && all_of_table xs) ≡ true → (b && all_of_table (xs ++ ys)) ≡ true) [
      | true ↦ λ k. both xs ys k i
      | false ↦ λ k. cc
    ] h

here : (a b : Bool) → (a && b) ≡ true → a ≡ true
here true b h = refl
here false b h = cc

behind : (a b : Bool) → (a && b) ≡ true → b ≡ true
behind true b h = h
behind false b h = cc

each : {A : Type 0} (f : A → List Check) → ((x : A) → all_of_table (f x) ≡ true) → (xs : List A) → all_of_table (flat_map f xs) ≡ true
each f h [] = refl
each f h (x ∷ xs) = both (f x) (flat_map f xs) (h x) (each f h xs)

first_told : (cs : List Check) (e : ConfigError) → all_of_table cs ≡ true → first_holding cs ≡ Some e → of_table e ≡ true
first_told [] e h k = cc
first_told (c ∷ cs) e h k =
    elim c.0 as (λ b. (if b then Some c.1 else first_holding cs) ≡ Some e → of_table e ≡ true) [
      | true ↦ λ m. let same : c.1 ≡ e = cc in rw (sym same) (here (of_table c.1) (all_of_table cs) h)
      | false ↦ λ m. first_told cs e (behind (of_table c.1) (all_of_table cs) h) m
    ] k

array_told : (k : Key) (n : ℕ) (v : Option Data) → all_of_table (array_checks k (count_limits n k) v) ≡ true
unfolding array_checks
array_told k n v = refl

there_told : (cs : Option Data → List Check) → ((d : Data) → all_of_table (cs (Some d)) ≡ true) → (v : Option Data) → all_of_table (if_there cs v) ≡ true
there_told cs h None = refl
there_told cs h (Some d) = h d

name_told : (d : Data) → all_of_table (text_checks key.A2l (text_limit 64 key.A2l) (Some d)) ≡ true
unfolding text_checks
name_told d = refl

upload_told : (d : Data) → all_of_table (boolean_checks key.UploadA2l (Some d)) ≡ true
unfolding boolean_checks
upload_told d = refl

overload_told : (d : Data) → all_of_table (name_checks key.Overload overloads (Some d)) ≡ true
unfolding name_checks
overload_told d = refl

extras_told : (t : Data) → all_of_table (extras_checks t) ≡ true
unfolding extras_checks
extras_told t =
    let a = text_checks key.A2l (text_limit 64 key.A2l) in
    let b = boolean_checks key.UploadA2l in
    let c = name_checks key.Overload overloads in
    let v = get (codes "a2l") t in
    let w = get (codes "upload_a2l") t in
    let x = get (codes "overload") t in
    both (if_there a v ++ if_there b w) (if_there c x) (both (if_there a v) (if_there b w) (there_told a name_told v) (there_told b upload_told w)) (there_told c overload_told x)

clock_told : (v : Option Data) → all_of_table (checks_of_clock v) ≡ true
unfolding clock_key_checks table_checks integer_checks
clock_told None = refl
clock_told (Some c) = refl

own_told : (t : Data) → all_of_table (own_checks t) ≡ true
unfolding own_checks text_checks name_checks integer_checks clock_checks
own_told t = both (extras_checks t ++ clock_checks t) (name_checks key.Class classes (class_of t)) (both (extras_checks t) (clock_checks t) (extras_told t) (clock_told (clock_key t))) refl

bytes_told : (i : ℕ) (v : Option Data) (s : Filed) → all_of_table (checks_of_bytes i v s) ≡ true
unfolding data_checks name_of_file_checks content_checks
bytes_told i None s = refl
bytes_told i (Some name) s = refl

segment_told : (class : Class) (ss : List Filed) (p : ℕ × Filed) → all_of_table (checks_in class ss p) ≡ true
unfolding segment_checks integer_checks bytes_checks
segment_told class ss (i, s) =
    let a = integer_checks (key.Address i) (address_limit i) (get (codes "address") s.1) in
    let b = bytes_checks i s in
    let c = size_checks class i (sum_by size_of (take (i + 1) ss)) (address_of s.1) (size_of s) in
    let d = integer_checks (key.Pages i) (pages_limit i) (pages_of s.1) in
    both (a ++ b ++ c) d (both (a ++ b) c (both a b refl (bytes_told i (file_key s.1) s)) refl) refl

segments_told : (files : List File) (t : Data) → all_of_table (segments_checks files t) ≡ true
unfolding segments_checks
segments_told files t =
    let ss = segments_of files t in
    let class = class_in t in
    both (array_checks key.Segment (segment_counts class) (get (codes "segment") t)) (flat_map (checks_in class ss) (enumerate_from 0 ss)) (array_told key.Segment (limits_of class).segments (get (codes "segment") t)) (each (checks_in class ss) (segment_told class ss) (enumerate_from 0 ss))

signals_told : (t : Data) → all_of_table (signals_checks t) ≡ true
unfolding signals_checks table_checks place_checks integer_checks
signals_told t = refl

event_told : (p : ℕ × Data) → all_of_table (event_checks p) ≡ true
unfolding event_checks text_checks integer_checks
event_told p = refl

events_told : (t : Data) → all_of_table (events_checks t) ≡ true
unfolding events_checks
events_told t =
    let es = event_tables t in
    both (array_checks key.Event (event_counts (class_in t)) (get (codes "event") t)) (flat_map event_checks (enumerate_from 0 es)) (array_told key.Event (limits_of (class_in t)).events (get (codes "event") t)) (each event_checks event_told (enumerate_from 0 es))

limit_told : (f : LayoutFault) → of_table (error_of f) ≡ true
limit_told (limit.Range k) = refl
limit_told (limit.Overlap a b) = refl
limit_told (limit.TooMany k) = refl

limits_told : (ls : List Limit) → all_of_table (map limit_check ls) ≡ true
limits_told [] = refl
limits_told (l ∷ ls) = rw (limit_told l.1) (limits_told ls)

overlaps_told : (files : List File) (t : Data) → all_of_table (limit_checks files t) ≡ true
unfolding limit_checks
overlaps_told files t = limits_told (apart_limits (areas (layout_in files t)))

told : (files : List File) (t : Data) → all_of_table (checks files t) ≡ true
unfolding checks
told files t =
    both (own_checks t ++ segments_checks files t ++ signals_checks t ++ events_checks t) (limit_checks files t)
    (both (own_checks t ++ segments_checks files t ++ signals_checks t) (events_checks t)
    (both (own_checks t ++ segments_checks files t) (signals_checks t)
    (both (own_checks t) (segments_checks files t) (own_told t) (segments_told files t))
    (signals_told t))
    (events_told t))
    (overlaps_told files t)

-- no table is refused as no document
pub not_text : (files : List File) (t : Data) → first_table_fault files t ≢ Some Text
not_text files t h = let bad : false ≡ true = first_told (checks files t) Text (told files t) h in cc

-- Where no segment names a file, files decide nothing.
use Rattle.std.proofs.Common.{◌≡◌, ℕ, suc, ◌+◌, ◌++◌, List, [], ◌∷◌, length, map, take, Option, None, refl, sym, ◌∙◌, ap, arith, sum_by}
use Rattle.std.specs.Prelude.{All}
use Rattle.std.specs.List.{flat_map, enumerate_from, fold}
use Rattle.std.proofs.lemmas.List.{take-map}
use Rattle.toml.specs.Data.{Data}
use Rattle.xcp_memory.specs.declared.Class.{Class}
use Rattle.xcp_memory.specs.Layout.{LayoutValue, SegmentValue}
use Rattle.xcp_memory.specs.LayoutParts.{areas, number}
use Rattle.xcp_memory.specs.Limits.{apart_limits}
use Rattle.xcp_packet.specs.Rows.{first_holding}
use Rattle.xcp_config.specs.Check.{Check}
use Rattle.xcp_config.specs.TomlValues.{integer_of}
use Rattle.xcp_config.specs.TableLayout.{File, Filed, filed, file_key, data_by, data_of, size_of, segment_in, segment_tables, class_in, layout_in, address_of, pages_of}
use Rattle.xcp_config.specs.TableChecks.{checks_of_bytes, bytes_checks, segment_checks, checks_in, segments_checks, limit_check, limit_checks, own_checks, signals_checks, events_checks, checks, first_table_fault}

abbrev NamesNone : Data → Type 0
NamesNone s = file_key s ≡ None

-- what has one value for a table with any file has one for each table of a list
same_each : {B : Type 0} (f : Filed → B) → ((file : File) (s : Data) → NamesNone s → f (file, s) ≡ f (None, s)) → (files : List File) (ss : List Data) → All NamesNone ss → map f (filed files ss) ≡ map f (filed [] ss)
same_each f one files [] h = refl
same_each f one [] (s ∷ ss) h = refl
same_each f one (file ∷ files) (s ∷ ss) h =
    let here = one file s (h 0 s (omega arith)) in
    let later = same_each f one files ss (λ k d l. h (suc k) d (omega (arith, l))) in
    λ i. here i ∷ later i

-- a segment's bytes
same_data : (file : File) (s : Data) → NamesNone s → data_of (file, s) ≡ data_of (None, s)
same_data file s h = ap (λ (v : Option Data). data_by v (file, s)) h ∙ sym (ap (λ (v : Option Data). data_by v (None, s)) h)

same_segment : (file : File) (s : Data) → NamesNone s → segment_in (file, s) ≡ segment_in (None, s)
same_segment file s h = ap (λ (bytes : List ℕ). record { address = number (address_of s); bytes = bytes; pages = number (integer_of (pages_of s)) }) (same_data file s h)

-- the layout
pub same_layout : (files : List File) (t : Data) → All NamesNone (segment_tables t) → layout_in files t ≡ layout_in [] t
same_layout files t h = ap (λ (ss : List SegmentValue). record (layout_in [] t) { segments = ss }) (same_each segment_in same_segment files (segment_tables t) h)

-- as many bytes up to each place
sum_map : {A B : Type 0} (f : B → ℕ) (g : A → B) (n : ℕ) (xs : List A) → fold (λ m x. m + f (g x)) n xs ≡ fold (λ m y. m + f y) n (map g xs)
sum_map f g n [] = refl
sum_map f g n (x ∷ xs) = sum_map f g (n + f (g x)) xs

same_sums : (files : List File) (ss : List Data) → All NamesNone ss → (n : ℕ) → sum_by size_of (take n (filed files ss)) ≡ sum_by size_of (take n (filed [] ss))
same_sums files ss h n =
    let long : List ℕ → ℕ = λ bytes. length bytes in
    let fronts = sym (take-map data_of n (filed files ss)) ∙ ap (take n) (same_each data_of same_data files ss h) ∙ take-map data_of n (filed [] ss) in
    sum_map long data_of 0 (take n (filed files ss)) ∙ ap (sum_by long) fronts ∙ sym (sum_map long data_of 0 (take n (filed [] ss)))

-- the checks of a segment
same_bytes : (i : ℕ) (file : File) (s : Data) → NamesNone s → bytes_checks i (file, s) ≡ bytes_checks i (None, s)
unfolding bytes_checks
same_bytes i file s h = ap (λ (v : Option Data). checks_of_bytes i v (file, s)) h ∙ sym (ap (λ (v : Option Data). checks_of_bytes i v (None, s)) h)

same_checks : (class : Class) (i m n : ℕ) (file : File) (s : Data) → m ≡ n → NamesNone s → segment_checks class i m (file, s) ≡ segment_checks class i n (None, s)
unfolding segment_checks
same_checks class i m n file s e h = rw (e, same_bytes i file s h, same_data file s h) refl

-- and of all
checks_from : (class : Class) (all other : List Filed) → ((n : ℕ) → sum_by size_of (take n all) ≡ sum_by size_of (take n other)) → (i : ℕ) (files : List File) (ss : List Data) → All NamesNone ss
    → flat_map (checks_in class all) (enumerate_from i (filed files ss)) ≡ flat_map (checks_in class other) (enumerate_from i (filed [] ss))
checks_from class all other q i files [] h = refl
checks_from class all other q i [] (s ∷ ss) h =
    let here = same_checks class i (sum_by size_of (take (i + 1) all)) (sum_by size_of (take (i + 1) other)) None s (q (i + 1)) (h 0 s (omega arith)) in
    let later = checks_from class all other q (i + 1) [] ss (λ k d l. h (suc k) d (omega (arith, l))) in
    λ j. here j ++ later j
checks_from class all other q i (file ∷ files) (s ∷ ss) h =
    let here = same_checks class i (sum_by size_of (take (i + 1) all)) (sum_by size_of (take (i + 1) other)) file s (q (i + 1)) (h 0 s (omega arith)) in
    let later = checks_from class all other q (i + 1) files ss (λ k d l. h (suc k) d (omega (arith, l))) in
    λ j. here j ++ later j

same_segments : (files : List File) (t : Data) → All NamesNone (segment_tables t) → segments_checks files t ≡ segments_checks [] t
unfolding segments_checks
same_segments files t h =
    let ss = segment_tables t in
    rw (checks_from (class_in t) (filed files ss) (filed [] ss) (same_sums files ss h) 0 files ss h) refl

same_limits : (files : List File) (t : Data) → All NamesNone (segment_tables t) → limit_checks files t ≡ limit_checks [] t
unfolding limit_checks
same_limits files t h = ap (λ (l : LayoutValue). map limit_check (apart_limits (areas l))) (same_layout files t h)

-- the first fault
pub same_fault : (files : List File) (t : Data) → All NamesNone (segment_tables t) → first_table_fault files t ≡ first_table_fault [] t
unfolding checks
same_fault files t h = ap (λ (cs : List Check × List Check). first_holding (own_checks t ++ cs.0 ++ signals_checks t ++ events_checks t ++ cs.1)) (λ i. (same_segments files t h i, same_limits files t h i))

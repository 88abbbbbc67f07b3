-- The first fault of an entry, and of entries that are looked at one by one.
use Rattle.std.proofs.Common.{◌≡◌, ℕ, ◌+◌, ◌<◌, suc, Bool, true, false, not, codes, List, [], ◌∷◌, ◌++◌, length, map, take, drop, Option, Some, None, inl, inr, refl, sym, ◌∙◌, ap, add-one, get_or, option_map, if◌then◌else◌}
use Rattle.std.specs.List.{flat_map, enumerate_from}
use Rattle.std.proofs.Math.Seq.{drop-cons}
use Rattle.std.proofs.lemmas.List.{take_more, get_or-map, length-map}
use Rattle.toml.specs.Data.{Data, get}
use Rattle.xcp_packet.specs.Rows.{first_holding}
use Rattle.xcp_packet.proofs.RowTestLemmas.{holding_left, none_left}
use Rattle.xcp_memory.specs.Layout.{LayoutValue}
use Rattle.xcp_describe.specs.declared.refusal.Why.{Why}
use Rattle.xcp_describe.specs.declared.refusal.Why.TheVariants.{Table}
use Rattle.xcp_describe.specs.declared.refusal.DescribeError.{DescribeError}
use Rattle.xcp_describe.specs.declared.refusal.DescribeError.TheVariants.{Host, Program, Parameter, Measurement}
use Rattle.xcp_describe.specs.EntryFaults.{axes_checks, parameter_checks, parameters_checks, parameters_in, placed_at}
use Rattle.xcp_describe.specs.Findings.{IsEntryFault}
use Rattle.xcp_describe.specs.declared.entry.Entry.{Entry}
use Rattle.xcp_describe.specs.declared.meaning.Meaning.{Meaning}
use Rattle.xcp_describe.specs.EntryValues.{is_array_or_none, mask_in}
use Rattle.xcp_describe.specs.Axes.{Form, form_of}
use Rattle.xcp_describe.specs.private.EntriesRead.{IsEntryRead, form_read}
use Rattle.xcp_describe.specs.private.Refusals.{IsEntryOrMemory, RefusesEntry}

-- the first fault, with its place
placed : (place : Why → DescribeError) (fs : List (Bool × Why)) → first_holding (map (placed_at place) fs) ≡ option_map place (first_holding fs)
placed place [] = refl
placed place (f ∷ fs) =
    elim f.0 as (λ b. (if b then Some (place f.1) else first_holding (map (placed_at place) fs)) ≡ option_map place (if b then Some f.1 else first_holding fs)) [
      | true ↦ refl
      | false ↦ placed place fs
    ]

-- a refusal is one of an entry, or want of memory
refusal_of : (e : DescribeError) → IsEntryFault e → IsEntryOrMemory e
refusal_of Host h = h
refusal_of (Program fault) h = absurd h
refusal_of (Parameter number why) h = tt
refusal_of (Measurement number why) h = tt

-- what refuses by the first fault, or for want of memory, is a refusal of an entry or want of memory
pub entry_or_memory : (first : Option DescribeError) (e : DescribeError) → RefusesEntry first e → IsEntryOrMemory e
entry_or_memory first e h = elim h [ inl m ↦ rw m refl | inr k ↦ refusal_of e k.0 ]

-- an element of a list, as one of the list that it is seen as
pub record Seen {A B : Type 0} (f : A → B) (xs : List A) (i : ℕ) (x : A) : Type 0 where
  pub below : i < length (map f xs)
  pub is : f x ≡ get_or (map f xs) i (f x)

-- element i of a list is seen as element i of what the list is seen as
pub seen : {A B : Type 0} (f : A → B) (xs : List A) (i : ℕ) (x : A) → i < length xs → x ≡ get_or xs i x → Seen f xs i x
seen f xs i x h e = record { below = rw length-map h; is = ap f e ∙ sym (get_or-map f xs i x (f x) h) }

map_push : {A B : Type 0} (f : A → B) (xs : List A) (x : A) → map f (xs ++ x ∷ []) ≡ map f xs ++ f x ∷ []
map_push f [] x = refl
map_push f (y ∷ ys) x = ap (λ zs. f y ∷ zs) (map_push f ys x)

-- a parameter that is read has its axes as its table has them
pub form_is : (d : Data) (e : Entry) (m : Meaning) → IsEntryRead true d e → m.bits ≡ mask_in d → form_read (record e { meaning = m }) ≡ form_of d
form_is d e m r bits = rw (r.name, r.count, r.columns, r.rows, bits, r.x_axis, r.y_axis) refl

-- one more name
pub one_more : {A B : Type 0} (f : A → B) (xs : List A) (i : ℕ) (x : A) → i < length xs → x ≡ get_or xs i x → map f (take (i + 1) xs) ≡ map f (take i xs) ++ f x ∷ []
one_more f xs i x h e = ap (map f) (take_more xs i x h ∙ ap (λ y. take i xs ++ y ∷ []) (sym e)) ∙ map_push f (take i xs) x

module _ {D : Type 0} (place : ℕ → Why → DescribeError) (faults : ℕ → D → List (Bool × Why)) where
  -- the faults of entry i, with its place
  abbrev pub numbered : ℕ × D → List (Bool × DescribeError)
  numbered (i, d) = map (placed_at (place i)) (faults i d)

  from_here : (ds : List D) (i : ℕ) (d : D) → i < length ds → d ≡ get_or ds i d → flat_map numbered (enumerate_from i (drop i ds)) ≡ numbered (i, d) ++ flat_map numbered (enumerate_from (i + 1) (drop (i + 1) ds))
  from_here ds i d h e =
      ap (λ xs. flat_map numbered (enumerate_from i xs)) (drop-cons ds i d h ∙ ap (λ y. y ∷ drop (suc i) ds) (sym e) ∙ ap (λ n. d ∷ drop n ds) (sym (add-one i)))

  -- entry i has no fault: the first one is among those behind it
  pub entry_passed : (ds : List D) (i : ℕ) (d : D) → i < length ds → d ≡ get_or ds i d → first_holding (faults i d) ≡ None → first_holding (flat_map numbered (enumerate_from i (drop i ds))) ≡ first_holding (flat_map numbered (enumerate_from (i + 1) (drop (i + 1) ds)))
  entry_passed ds i d h e k =
      ap first_holding (from_here ds i d h e)
      ∙ none_left (numbered (i, d)) (flat_map numbered (enumerate_from (i + 1) (drop (i + 1) ds))) (placed (place i) (faults i d) ∙ ap (option_map (place i)) k)

  -- entry i has a fault: it is the first one
  pub entry_failed : (ds : List D) (i : ℕ) (d : D) (w : Why) → i < length ds → d ≡ get_or ds i d → first_holding (faults i d) ≡ Some w → first_holding (flat_map numbered (enumerate_from i (drop i ds))) ≡ Some (place i w)
  entry_failed ds i d w h e k =
      ap first_holding (from_here ds i d h e)
      ∙ holding_left (numbered (i, d)) (flat_map numbered (enumerate_from (i + 1) (drop (i + 1) ds))) (place i w) (placed (place i) (faults i d) ∙ ap (option_map (place i)) k)

-- the faults of the parameters by themselves
abbrev own : LayoutValue → List Data → List (Bool × DescribeError)
own l ds = flat_map (parameter_checks l ds) (enumerate_from 0 ds)

-- the array of the parameters is there: the first fault is that of a parameter by itself, or of axes
there : (l : LayoutValue) (t : Data) → is_array_or_none (get (codes "parameter") t) ≡ true → first_holding (parameters_checks l t) ≡ first_holding (own l (parameters_in t) ++ axes_checks (map form_of (parameters_in t)))
unfolding parameters_checks
there l t a = ap (λ b. first_holding ((not b, Parameter 0 Table) ∷ own l (parameters_in t) ++ axes_checks (map form_of (parameters_in t)))) a

-- where the parameters are an array or none, the first fault that one has by itself is their first fault
pub own_fault_comes_first : (l : LayoutValue) (t : Data) (ds : List Data) (e : DescribeError) → is_array_or_none (get (codes "parameter") t) ≡ true → ds ≡ parameters_in t → first_holding (own l ds) ≡ Some e → first_holding (parameters_checks l t) ≡ Some e
own_fault_comes_first l t ds e a is h = there l t a ∙ holding_left (own l (parameters_in t)) (axes_checks (map form_of (parameters_in t))) e (ap (λ x. first_holding (own l x)) (sym is) ∙ h)

-- where the parameters are an array or none, and none has a fault by itself, their first fault is that of axes
pub axes_come_last : (l : LayoutValue) (t : Data) (ds : List Data) (ps : List Form) → is_array_or_none (get (codes "parameter") t) ≡ true → ds ≡ parameters_in t → ps ≡ map form_of ds → first_holding (own l ds) ≡ None → first_holding (parameters_checks l t) ≡ first_holding (axes_checks ps)
axes_come_last l t ds ps a is forms h =
    there l t a
    ∙ none_left (own l (parameters_in t)) (axes_checks (map form_of (parameters_in t))) (ap (λ x. first_holding (own l x)) (sym is) ∙ h)
    ∙ ap (λ x. first_holding (axes_checks x)) (sym (forms ∙ ap (map form_of) is))

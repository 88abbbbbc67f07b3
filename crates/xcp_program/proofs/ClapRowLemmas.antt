-- What holds of each row that clap makes of a subcommand's words: it has a value that its argument takes, which the words gave.
use Rattle.std.proofs.Common.{◌≡◌, ◌∙◌, ◌||◌, ◌++◌, Bool, true, false, not, refl, sym, ap, subst, true≢false, List, [], ◌∷◌, fold, Option, Some, None, IfSome, if◌then◌else◌, find, slice_get, bytes_eq, unwrap_or}
use Rattle.std.specs.List.{AllByRecursion, list_all}
use Rattle.std.proofs.lemmas.Slice.Eq.{bytes_eq-Decides}
use Rattle.clap.specs.Facts.{explicit_source}
use Rattle.clap.specs.Walk.{Row, Rule, Text, action_of, arg_by_id, at_row, default_rows, has_row, more_values, reading_by, stronger, takes_values, used, used_as, with_default, with_values, without}
use Rattle.clap.specs.Takes.{value_passes}
use Rattle.clap.specs.Kinds.{Kinds, or_else}
use Rattle.clap.proofs.WalkLemmas.{both}
use Rattle.clap.specs.Faults.{action_fault, use_fault}
use Rattle.clap.specs.declared.builder.action.ArgAction.{ArgAction}
use Rattle.clap.specs.declared.builder.action.ArgAction.TheVariants.{Set, SetTrue}
use Rattle.clap.specs.declared.parser.matches.ValueSource.{ValueSource}
use Rattle.clap.specs.declared.parser.matches.ValueSource.TheVariants.{CommandLine, DefaultValue}
use Rattle.clap.specs.declared.error.kind.ErrorKind.{ErrorKind}

-- a fault is one
pub no_kinds : (k : ErrorKind) (ks : Kinds) → k ∷ ks ≡ [] → ⊥
no_kinds k ks e = cc

-- where neither of two steps has a fault
pub parts : (a b : Kinds) → or_else a b ≡ [] → (a ≡ []) × (b ≡ [])
parts [] b e = (refl, e)
parts (k ∷ ks) b e = absurd (no_kinds k ks e)

-- ---- each row

-- a use of the argument that has no fault leaves rows of which P holds
abbrev pub Keeps : (Row → Type 0) → Rule → Type 0
Keeps P a = (again : Bool) (values : List Text) (rows : List Row) → use_fault again a values rows ≡ [] → AllByRecursion P rows → AllByRecursion P (used a values rows)

-- a rule that is found is one of them
pub found_rule : (Q : Rule → Type 0) (c : List Rule) → AllByRecursion Q c → (p : Rule → Bool) → IfSome (find p c) Q
found_rule Q [] h p = tt
found_rule Q (a ∷ rest) h p = go (p a) (found_rule Q rest h.1 p)
  where
    go : (b : Bool) → IfSome (find p rest) Q → IfSome (if b then Some a else find p rest) Q
    go true later = h.0
    go false later = later

module _ (P : Row → Type 0) where
  joined : (xs ys : List Row) → AllByRecursion P xs → AllByRecursion P ys → AllByRecursion P (xs ++ ys)
  joined [] ys v w = w
  joined (x ∷ xs) ys v w = (v.0, joined xs ys v.1 w)

  changed : (id : Text) (change : Row → List Row) (missing rows : List Row) → ((r : Row) → P r → AllByRecursion P (change r)) → AllByRecursion P missing → AllByRecursion P rows → AllByRecursion P (at_row id change missing rows)
  changed id change missing [] f m v = m
  changed id change missing (r ∷ rs) f m v = go (bytes_eq r.id id) (changed id change missing rs f m v.1)
    where
      go : (b : Bool) → AllByRecursion P (at_row id change missing rs) → AllByRecursion P (if b then change r ++ rs else r ∷ at_row id change missing rs)
      go true later = joined (change r) rs (f r v.0) v.1
      go false later = (v.0, later)

  pub found_row : (id : Text) (rows : List Row) → AllByRecursion P rows → IfSome (find (λ r. bytes_eq r.id id) rows) (λ r. P r × (bytes_eq r.id id ≡ true))
  found_row id [] v = tt
  found_row id (r ∷ rs) v = go (bytes_eq r.id id) refl (found_row id rs v.1)
    where
      go : (b : Bool) → bytes_eq r.id id ≡ b → IfSome (find (λ q. bytes_eq q.id id) rs) (λ q. P q × (bytes_eq q.id id ≡ true))
          → IfSome (if b then Some r else find (λ q. bytes_eq q.id id) rs) (λ q. P q × (bytes_eq q.id id ≡ true))
      go true e later = (v.0, e)
      go false e later = later

-- ---- rows that the words gave

-- the row's first value is one that the argument takes, and the words gave it; of a flag, which takes none, it is what stands for a use
pub record IsGiven (a : Rule) (r : Row) : Type 0 where
  pub text : Text
  pub value : slice_get r.values 0 ≡ Some text
  pub passes : value_passes a text ≡ true
  pub flag : takes_values a ≡ false → a.missing ≡ text ∷ []
  pub explicit : explicit_source r.source ≡ true

-- the same for the argument of the row's id
abbrev pub Good : List Rule → Row → Type 0
Good c r = IfSome (arg_by_id c r.id) (λ a. IsGiven a r)

first_stays : (xs ys : List Text) (t : Text) → slice_get xs 0 ≡ Some t → slice_get (xs ++ ys) 0 ≡ Some t
first_stays [] ys t e = cc
first_stays (x ∷ xs) ys t e = e

words_are_explicit : (s : Option ValueSource) → explicit_source (Some (stronger s CommandLine)) ≡ true
words_are_explicit None = refl
words_are_explicit (Some CommandLine) = refl
words_are_explicit (Some DefaultValue) = refl

more_is_good : (c : List Rule) (values : List Text) (r : Row) → Good c r → AllByRecursion (Good c) (more_values CommandLine values r)
more_is_good c values r h = (go (arg_by_id c r.id) h, tt)
  where
    go : (o : Option Rule) → IfSome o (λ a. IsGiven a r) → IfSome o (λ a. IsGiven a (record r { values = r.values ++ values; source = Some (stronger r.source CommandLine) }))
    go None h = tt
    go (Some a) h = record { text = h.text; value = first_stays r.values values h.text h.value; passes = h.passes; flag = h.flag; explicit = words_are_explicit r.source }

accepted : (b : Bool) (k : ErrorKind) → (if b then [] else k ∷ []) ≡ [] → b ≡ true
accepted true k e = refl
accepted false k e = absurd (no_kinds k [] e)

-- values of which the first passes keep the rows good
keeps_values : (c : List Rule) (a : Rule) → arg_by_id c a.id ≡ Some a → (x : Text) (xs : List Text) (rows : List Row) → value_passes a x ≡ true → (takes_values a ≡ false → a.missing ≡ x ∷ [])
    → AllByRecursion (Good c) rows → AllByRecursion (Good c) (with_values a.id (reading_by a) CommandLine (x ∷ xs) (without a.id rows))
keeps_values c a one x xs rows passes flag v =
    let row : IsGiven a (record { id = a.id; values = x ∷ xs; count = None; source = Some CommandLine; reading = reading_by a }) = record { text = x; value = refl; passes = passes; flag = flag; explicit = refl } in
    let fresh : IfSome (arg_by_id c a.id) (λ b. IsGiven b (record { id = a.id; values = x ∷ xs; count = None; source = Some CommandLine; reading = reading_by a })) =
    subst (λ (o : Option Rule). IfSome o (λ b. IsGiven b (record { id = a.id; values = x ∷ xs; count = None; source = Some CommandLine; reading = reading_by a }))) (sym one) row in
    let rest = changed (Good c) a.id (λ _. []) [] rows (λ r h. tt) tt v in
    changed (Good c) a.id (more_values CommandLine (x ∷ xs)) _ (without a.id rows) (more_is_good c (x ∷ xs)) (fresh, tt) rest

-- a use of an option with values does
pub keeps_set : (c : List Rule) (a : Rule) → arg_by_id c a.id ≡ Some a → action_of a ≡ Set → takes_values a ≡ true → ((again : Bool) (rows : List Row) → use_fault again a [] rows ≡ [] → ⊥) → Keeps (Good c) a
keeps_set c a one set takes wants again [] rows e v = absurd (wants again rows e)
keeps_set c a one set takes wants again (x ∷ xs) rows e v =
    let used_up = (parts _ (action_fault (action_of a) again a (x ∷ xs) rows) e).1 in
    let as_set : action_fault Set again a (x ∷ xs) rows ≡ [] = subst (λ (act : ArgAction). action_fault act again a (x ∷ xs) rows ≡ []) set used_up in
    let passes = accepted _ _ (parts _ _ (parts _ _ as_set).1).0 in
    let all = keeps_values c a one x xs rows passes (λ none. absurd (true≢false (sym takes ∙ none))) v in
    subst (λ (act : ArgAction). AllByRecursion (Good c) (used_as act a.id (reading_by a) (x ∷ xs) rows)) (sym set) all

-- and so does a flag, which takes no value, by the one that stands for a use
pub keeps_flag : (c : List Rule) (a : Rule) (x : Text) → arg_by_id c a.id ≡ Some a → action_of a ≡ SetTrue → a.missing ≡ x ∷ [] → value_passes a x ≡ true
    → ((again : Bool) (y : Text) (ys : List Text) (rows : List Row) → use_fault again a (y ∷ ys) rows ≡ [] → ⊥) → Keeps (Good c) a
keeps_flag c a x one set missing passes takes again (y ∷ ys) rows e v = absurd (takes again y ys rows e)
keeps_flag c a x one set missing passes takes again [] rows e v =
    let all = keeps_values c a one x [] rows passes (λ none. missing) v in
    let by_missing : AllByRecursion (Good c) (with_values a.id (reading_by a) CommandLine a.missing (without a.id rows)) =
    subst (λ (values : List Text). AllByRecursion (Good c) (with_values a.id (reading_by a) CommandLine values (without a.id rows))) (sym missing) all in
    subst (λ (act : ArgAction). AllByRecursion (Good c) (used_as act a.id (reading_by a) a.missing rows)) (sym set) by_missing

-- ---- rows with their defaults

-- the first row of an argument
abbrev pub row_for : Text → List Row → Option Row
row_for id = find (λ r. bytes_eq r.id id)

-- the row of a default
abbrev pub default_row : Rule → Text → Row
default_row a v = record { id = a.id; values = v ∷ []; count = None; source = Some DefaultValue; reading = reading_by a }

-- where there is a row of an id, and where there is none
some_there : (id : Text) (rows : List Row) (d : Row) → has_row id rows ≡ true → row_for id rows ≡ Some (unwrap_or (row_for id rows) d)
some_there id [] d e = absurd (true≢false (sym e))
some_there id (r ∷ rs) d e = go (bytes_eq r.id id) (some_there id rs d) e
  where
    go : (b : Bool) → (has_row id rs ≡ true → row_for id rs ≡ Some (unwrap_or (row_for id rs) d)) → (b || has_row id rs) ≡ true → (if b then Some r else row_for id rs) ≡ Some (unwrap_or (if b then Some r else row_for id rs) d)
    go true later e = refl
    go false later e = later e

added : (id : Text) (change : Row → List Row) (missing rows : List Row) → has_row id rows ≡ false → at_row id change missing rows ≡ rows ++ missing
added id change missing [] e = refl
added id change missing (r ∷ rs) e = go (bytes_eq r.id id) (added id change missing rs) e
  where
    go : (b : Bool) → (has_row id rs ≡ false → at_row id change missing rs ≡ rs ++ missing) → (b || has_row id rs) ≡ false → (if b then change r ++ rs else r ∷ at_row id change missing rs) ≡ r ∷ rs ++ missing
    go true later e = absurd (true≢false e)
    go false later e = ap (λ (l : List Row). r ∷ l) (later e)

not_behind : (p : Row → Bool) (rows : List Row) (r : Row) → p r ≡ false → find p (rows ++ r ∷ []) ≡ find p rows
not_behind p [] r e = ap (λ (b : Bool). if b then Some r else None) e
not_behind p (x ∷ xs) r e = ap (λ (o : Option Row). if p x then Some x else o) (not_behind p xs r e)

at_end : (p : Row → Bool) (rows : List Row) (r : Row) → p r ≡ true → find p (rows ++ r ∷ []) ≡ Some (unwrap_or (find p rows) r)
at_end p [] r e = ap (λ (b : Bool). if b then Some r else None) e
at_end p (x ∷ xs) r e = go (p x) (at_end p xs r e)
  where
    go : (b : Bool) → find p (xs ++ r ∷ []) ≡ Some (unwrap_or (find p xs) r) → (if b then Some x else find p (xs ++ r ∷ [])) ≡ Some (unwrap_or (if b then Some x else find p xs) r)
    go true later = refl
    go false later = later

-- the default of one argument leaves the first row of another
pub other_default : (id : Text) (b : Rule) (rows : List Row) → bytes_eq b.id id ≡ false → row_for id (with_default rows b) ≡ row_for id rows
other_default id b rows other = go (has_row b.id rows) refl
  where
    new : (d : List Text) → has_row b.id rows ≡ false → row_for id (default_rows b.id (reading_by b) d rows) ≡ row_for id rows
    new [] none = refl
    new (x ∷ xs) none =
        let r : Row = record { id = b.id; values = x ∷ xs; count = None; source = Some DefaultValue; reading = reading_by b } in
        ap (row_for id) (added b.id (more_values DefaultValue (x ∷ xs)) (r ∷ []) rows none) ∙ not_behind (λ q. bytes_eq q.id id) rows r other

    go : (h : Bool) → has_row b.id rows ≡ h → row_for id (if h then rows else default_rows b.id (reading_by b) b.defaults rows) ≡ row_for id rows
    go true e = refl
    go false e = new b.defaults e

-- and an argument with no default has none
no_default : (id : Text) (b : Rule) (rows : List Row) → b.defaults ≡ [] → row_for id (with_default rows b) ≡ row_for id rows
no_default id b rows e = go (has_row b.id rows)
  where
    go : (h : Bool) → row_for id (if h then rows else default_rows b.id (reading_by b) b.defaults rows) ≡ row_for id rows
    go true = refl
    go false = ap (λ (d : List Text). row_for id (default_rows b.id (reading_by b) d rows)) e

-- whether there is no text
abbrev pub is_none : List Text → Bool
is_none [] = true
is_none (v ∷ vs) = false

-- the rule is another argument's, or has no default
abbrev pub leaves_row : Text → Rule → Bool
leaves_row id b = not (bytes_eq b.id id) || is_none b.defaults

one_leaves : (id : Text) (b : Rule) (rows : List Row) → leaves_row id b ≡ true → row_for id (with_default rows b) ≡ row_for id rows
one_leaves id b rows e = go (bytes_eq b.id id) refl b.defaults refl e
  where
    go : (x : Bool) → bytes_eq b.id id ≡ x → (d : List Text) → b.defaults ≡ d → (not x || is_none d) ≡ true → row_for id (with_default rows b) ≡ row_for id rows
    go false other d same e = other_default id b rows other
    go true other [] same e = no_default id b rows same
    go true other (v ∷ vs) same e = absurd (true≢false (sym e))

-- the defaults of rules that are other arguments', or have none, leave an argument's first row
pub defaults_leave : (id : Text) (c : List Rule) (rows : List Row) → list_all (leaves_row id) c ≡ true → row_for id (fold with_default rows c) ≡ row_for id rows
defaults_leave id [] rows h = refl
defaults_leave id (b ∷ rest) rows h =
    let p = both (leaves_row id b) (list_all (leaves_row id) rest) h in
    defaults_leave id rest (with_default rows b) p.1 ∙ one_leaves id b rows p.0

-- an argument's own default is its row where the words gave none
own_default : (a : Rule) (v : Text) (rows : List Row) → a.defaults ≡ v ∷ [] → row_for a.id (with_default rows a) ≡ Some (unwrap_or (row_for a.id rows) (default_row a v))
own_default a v rows one = go (has_row a.id rows) refl
  where
    same : bytes_eq a.id a.id ≡ true
    same = (bytes_eq-Decides a.id a.id).1 refl

    new : has_row a.id rows ≡ false → row_for a.id (default_rows a.id (reading_by a) (v ∷ []) rows) ≡ Some (unwrap_or (row_for a.id rows) (default_row a v))
    new none = ap (row_for a.id) (added a.id (more_values DefaultValue (v ∷ [])) (default_row a v ∷ []) rows none) ∙ at_end (λ q. bytes_eq q.id a.id) rows (default_row a v) same

    go : (h : Bool) → has_row a.id rows ≡ h → row_for a.id (if h then rows else default_rows a.id (reading_by a) a.defaults rows) ≡ Some (unwrap_or (row_for a.id rows) (default_row a v))
    go true e = some_there a.id rows (default_row a v) e
    go false e = subst (λ (d : List Text). row_for a.id (default_rows a.id (reading_by a) d rows) ≡ Some (unwrap_or (row_for a.id rows) (default_row a v))) (sym one) (new e)

-- an argument's first row is that of the words, or its one default's, among rules that leave its row
pub default_among : (before after : List Rule) (a : Rule) (v : Text) (rows : List Row) → list_all (leaves_row a.id) before ≡ true → list_all (leaves_row a.id) after ≡ true → a.defaults ≡ v ∷ []
    → row_for a.id (fold with_default rows (before ++ a ∷ after)) ≡ Some (unwrap_or (row_for a.id rows) (default_row a v))
default_among [] after a v rows h k one = defaults_leave a.id after (with_default rows a) k ∙ own_default a v rows one
default_among (b ∷ rest) after a v rows h k one =
    let p = both (leaves_row a.id b) (list_all (leaves_row a.id) rest) h in
    default_among rest after a v (with_default rows b) p.1 k one ∙ ap (λ (o : Option Row). Some (unwrap_or o (default_row a v))) (one_leaves a.id b rows p.0)

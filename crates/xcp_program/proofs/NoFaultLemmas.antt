-- Words in which clap finds no fault name a replay with its file, a server with its file and its numbers, a description, or an audit.
use Rattle.std.proofs.Common.{◌≡◌, ◌==◌, ◌⊎◌, inl, inr, ◌∙◌, ◌||◌, ℕ, suc, length, Bool, codes, true, false, not, refl, sym, ap, subst, true≢false, List, [], ◌∷◌, ◌++◌, drop, fold, take, Option, Some, None, IfSome, is_some, if◌then◌else◌, option_and_then, option_map, find, slice_get, bytes_eq, unwrap_or}
use Rattle.std.specs.List.{AllByRecursion, list_all}
use Rattle.std.specs.Option.{option_map_or}
use Rattle.std.proofs.Math.Dec.{eqb-zero-suc}
use Rattle.std.proofs.lemmas.Slice.Eq.{bytes_eq-Decides}
use Rattle.clap.specs.Facts.{explicit_source}
use Rattle.clap.specs.Walk.{Held, Row, Rule, Text, answers_to, arg_by_id, finished, first_of, nothing_held, rows_after, settled, takes_values, walk, walk_from, with_default}
use Rattle.clap.specs.Simple.{Shape, argument_words, built, entered, help_rule, help_shape, label_of, names_of, rows_at, subcommand_of}
use Rattle.clap.specs.Kinds.{range_kinds}
use Rattle.clap.specs.Takes.{is_given, value_passes}
use Rattle.clap.specs.Faults.{check_fault, defaults_fault, entered_fault, fault_of, level_fault, settle_fault, walk_fault}
use Rattle.clap.specs.Values.{IsUnsignedIn}
use Rattle.clap.proofs.ValueTestLemmas.{accepts-Accepts}
use Rattle.clap.specs.declared.builder.value_parser.ValueParser.TheVariants.{Unsigned}
use Rattle.clap.specs.declared.error.kind.ErrorKind.TheVariants as kind
use Rattle.xcp_program.specs.CommandLine.{HasNumber, HasNumberIn, Numeric, chapter, cut_every, cycles, host_default, idle, named_port, patience, period, port, program, queue, tasks, tools}
use Rattle.xcp_program.specs.private.AppArguments.{AsksAudit, AsksDescription, AsksReplay, AsksRun, AsksSomething, HasFlag, IsChosen}
use Rattle.xcp_program.proofs.ClapRowLemmas.{Good, IsGiven, Keeps, default_row, defaults_leave, found_row, found_rule, keeps_flag, keeps_set, leaves_row, no_kinds, default_among, parts, row_for}
use Rattle.xcp_program.proofs.ClapWalkLemmas.{NoHelp, settles, walk_kept, walk_stops}

-- ---- the program as clap builds it: `replay`, `serve`, `describe`, `audit` and `help`, and the arguments of each

abbrev shape_at : List Shape → Shape
shape_at [] = help_shape
shape_at (s ∷ ss) = s

abbrev rule_at : List Rule → Rule
rule_at [] = help_rule
rule_at (r ∷ rs) = r

abbrev replay_shape : Shape
replay_shape = shape_at (built program).subs

abbrev serve_shape : Shape
serve_shape = shape_at (drop 1 (built program).subs)

abbrev help_of : Shape
help_of = shape_at (drop 4 (built program).subs)

abbrev describe_shape : Shape
describe_shape = shape_at (drop 2 (built program).subs)

abbrev audit_shape : Shape
audit_shape = shape_at (drop 3 (built program).subs)

-- the nth argument of a subcommand
abbrev nth : ℕ → Shape → Rule
nth n s = rule_at (drop n s.rules)

-- a flag takes no value
no_values : (n : ℕ) → range_kinds 0 0 (suc n) ≡ [] → ⊥
no_values n e = go (0 == suc n) (eqb-zero-suc n) e
  where
    go : (b : Bool) → b ≡ false → (if b then [] else kind.WrongNumberOfValues ∷ []) ≡ [] → ⊥
    go false f e = no_kinds _ _ e
    go true f e = true≢false f

-- a use of an option with no fault keeps the rows good, and so does `--help`, of which each use is a fault
keeps_replay : AllByRecursion (Keeps (Good replay_shape.rules)) replay_shape.rules
keeps_replay = (
  keeps_set replay_shape.rules (nth 0 replay_shape) refl refl refl (λ again rows e. no_kinds _ _ e),
  (
    keeps_set replay_shape.rules (nth 1 replay_shape) refl refl refl (λ again rows e. no_kinds _ _ e),
    (λ again values rows e v. v, tt),
  ),
)

keeps_serve : AllByRecursion (Keeps (Good serve_shape.rules)) serve_shape.rules
keeps_serve = (
  keeps_set serve_shape.rules (nth 0 serve_shape) refl refl refl (λ again rows e. no_kinds _ _ e),
  (
    keeps_set serve_shape.rules (nth 1 serve_shape) refl refl refl (λ again rows e. no_kinds _ _ e),
    (
      keeps_set serve_shape.rules (nth 2 serve_shape) refl refl refl (λ again rows e. no_kinds _ _ e),
      (
        keeps_flag serve_shape.rules (nth 3 serve_shape) (codes "true") refl refl refl refl (λ again y ys rows e. no_values (length ys) (parts _ _ e).0),
        (
          keeps_set serve_shape.rules (nth 4 serve_shape) refl refl refl (λ again rows e. no_kinds _ _ e),
          (
            keeps_set serve_shape.rules (nth 5 serve_shape) refl refl refl (λ again rows e. no_kinds _ _ e),
            (
              keeps_set serve_shape.rules (nth 6 serve_shape) refl refl refl (λ again rows e. no_kinds _ _ e),
              (
                keeps_set serve_shape.rules (nth 7 serve_shape) refl refl refl (λ again rows e. no_kinds _ _ e),
                (
                  keeps_set serve_shape.rules (nth 8 serve_shape) refl refl refl (λ again rows e. no_kinds _ _ e),
                  (
                    keeps_set serve_shape.rules (nth 9 serve_shape) refl refl refl (λ again rows e. no_kinds _ _ e),
                    (
                      keeps_set serve_shape.rules (nth 10 serve_shape) refl refl refl (λ again rows e. no_kinds _ _ e),
                      (
                        keeps_set serve_shape.rules (nth 11 serve_shape) refl refl refl (λ again rows e. no_kinds _ _ e),
                        (
                          keeps_flag serve_shape.rules (nth 12 serve_shape) (codes "true") refl refl refl refl (λ again y ys rows e. no_values (length ys) (parts _ _ e).0),
                          (
                            keeps_set serve_shape.rules (nth 13 serve_shape) refl refl refl (λ again rows e. no_kinds _ _ e),
                            (
                              keeps_set serve_shape.rules (nth 14 serve_shape) refl refl refl (λ again rows e. no_kinds _ _ e),
                              (
                                keeps_set serve_shape.rules (nth 15 serve_shape) refl refl refl (λ again rows e. no_kinds _ _ e),
                                (
                                  keeps_flag serve_shape.rules (nth 16 serve_shape) (codes "true") refl refl refl refl (λ again y ys rows e. no_values (length ys) (parts _ _ e).0),
                                  (
                                    keeps_flag serve_shape.rules (nth 17 serve_shape) (codes "true") refl refl refl refl (λ again y ys rows e. no_values (length ys) (parts _ _ e).0),
                                    (λ again values rows e v. v, tt),
                                  ),
                                ),
                              ),
                            ),
                          ),
                        ),
                      ),
                    ),
                  ),
                ),
              ),
            ),
          ),
        ),
      ),
    ),
  ),
)

keeps_describe : AllByRecursion (Keeps (Good describe_shape.rules)) describe_shape.rules
keeps_describe = (
  keeps_set describe_shape.rules (nth 0 describe_shape) refl refl refl (λ again rows e. no_kinds _ _ e),
  (
    keeps_set describe_shape.rules (nth 1 describe_shape) refl refl refl (λ again rows e. no_kinds _ _ e),
    (
      keeps_set describe_shape.rules (nth 2 describe_shape) refl refl refl (λ again rows e. no_kinds _ _ e),
      (
        keeps_flag describe_shape.rules (nth 3 describe_shape) (codes "true") refl refl refl refl (λ again y ys rows e. no_values (length ys) (parts _ _ e).0),
        (
          keeps_flag describe_shape.rules (nth 4 describe_shape) (codes "true") refl refl refl refl (λ again y ys rows e. no_values (length ys) (parts _ _ e).0),
          (λ again values rows e v. v, tt),
        ),
      ),
    ),
  ),
)

keeps_audit : AllByRecursion (Keeps (Good audit_shape.rules)) audit_shape.rules
keeps_audit = (
  keeps_set audit_shape.rules (nth 0 audit_shape) refl refl refl (λ again rows e. no_kinds _ _ e),
  (
    keeps_set audit_shape.rules (nth 1 audit_shape) refl refl refl (λ again rows e. no_kinds _ _ e),
    (
      keeps_set audit_shape.rules (nth 2 audit_shape) refl refl refl (λ again rows e. no_kinds _ _ e),
      (
        keeps_flag audit_shape.rules (nth 3 audit_shape) (codes "true") refl refl refl refl (λ again y ys rows e. no_values (length ys) (parts _ _ e).0),
        (λ again values rows e v. v, tt),
      ),
    ),
  ),
)

-- ---- below a subcommand

-- the rows that the words gave it, and the same with the defaults
abbrev given_rows : Shape → List Text → List Row
given_rows s words = (settled s.rules (walk s.rules [] nothing_held words).held).rows

abbrev all_rows : Shape → List Text → List Row
all_rows s words = rows_after s.rules [] words

module _ (s : Shape) (words : List Text) (kept : AllByRecursion (Keeps (Good s.rules)) s.rules) (e : level_fault s [] nothing_held words false [] ≡ []) where
  abbrev held : Held
  held = (walk s.rules [] nothing_held words).held

  steps : (walk_fault s [] (walk_from nothing_held) words ≡ []) × (settle_fault s.rules s.args_override_self held ≡ []) × (check_fault s (finished s.rules held) false ≡ [])
  steps =
      let a = parts (walk_fault s [] (walk_from nothing_held) words) _ e in
      let b = parts (settle_fault s.rules s.args_override_self held) _ a.1 in
      let d = parts (defaults_fault (settled s.rules held).rows s.rules) _ b.1 in
      (a.0, b.0, d.1)

  pub checked : check_fault s (all_rows s words) false ≡ []
  checked = steps.2

  rows_are_good : AllByRecursion (Good s.rules) (given_rows s words)
  rows_are_good =
      let good : (p : Rule → Bool) → IfSome (find p s.rules) (Keeps (Good s.rules)) = found_rule (Keeps (Good s.rules)) s.rules kept in
      settles (Good s.rules) s.rules s.args_override_self good held steps.1 (walk_kept (Good s.rules) s [] good words (walk_from nothing_held) steps.0 tt)

  -- the row that the words gave an argument is good
  pub row_is_good : (a : Rule) → arg_by_id s.rules a.id ≡ Some a → IfSome (row_for a.id (given_rows s words)) (IsGiven a)
  row_is_good a one = go (row_for a.id (given_rows s words)) (found_row (Good s.rules) a.id (given_rows s words) rows_are_good)
    where
      by_id : (r : Row) → Good s.rules r → bytes_eq r.id a.id ≡ true → IsGiven a r
      by_id r good same =
          let found : arg_by_id s.rules r.id ≡ Some a = ap (arg_by_id s.rules) ((bytes_eq-Decides r.id a.id).0 same) ∙ one in
          subst (λ (o : Option Rule). IfSome o (λ b. IsGiven b r)) found good

      go : (o : Option Row) → IfSome o (λ r. Good s.rules r × (bytes_eq r.id a.id ≡ true)) → IfSome o (IsGiven a)
      go None h = tt
      go (Some r) h = by_id r h.0 h.1

-- ---- an option in the rows

-- an option with its text: given, or by its default; of a flag that is given it is what stands for a use
pub record Stands (a : Rule) (rows : List Row) (default : Option Text) : Type 0 where
  pub text : Text
  pub value : first_of a.id rows ≡ Some text
  pub passes : value_passes a text ≡ true
  pub flag : is_given a.id rows ≡ true → takes_values a ≡ false → a.missing ≡ text ∷ []
  pub otherwise : is_given a.id rows ≡ false → default ≡ Some text

-- as the row says
stands : (a : Rule) (rows : List Row) (default : Option Text) (r : Row) → row_for a.id rows ≡ Some r → IsGiven a r → Stands a rows default
stands a rows default r found h = record {
  text = h.text;
  value = ap (option_and_then (λ q. slice_get q.values 0)) found ∙ h.value;
  passes = h.passes;
  flag = λ given. h.flag;
  otherwise = λ none. absurd (true≢false (sym h.explicit ∙ sym (ap (λ (o : Option Row). option_map_or (λ q. explicit_source q.source) o false) found) ∙ none));
}

-- an option that is wanted and has no default
wanted_stands : (a : Rule) (rows all : List Row) → row_for a.id all ≡ row_for a.id rows → IfSome (row_for a.id rows) (IsGiven a) → is_given a.id all ≡ true → Stands a all None
wanted_stands a rows all same good given = go (row_for a.id rows) refl good
  where
    go : (o : Option Row) → row_for a.id rows ≡ o → IfSome o (IsGiven a) → Stands a all None
    go None e h = absurd (true≢false (sym given ∙ ap (λ (o : Option Row). option_map_or (λ q. explicit_source q.source) o false) (same ∙ e)))
    go (Some r) e h = stands a all None r (same ∙ e) h

-- an option with a default
default_stands : (a : Rule) (v : Text) (rows all : List Row) → row_for a.id all ≡ Some (unwrap_or (row_for a.id rows) (default_row a v)) → IfSome (row_for a.id rows) (IsGiven a) → value_passes a v ≡ true → Stands a all (Some v)
default_stands a v rows all same good passes = go (row_for a.id rows) refl good
  where
    go : (o : Option Row) → row_for a.id rows ≡ o → IfSome o (IsGiven a) → Stands a all (Some v)
    go None e h = record {
      text = v;
      value = ap (option_and_then (λ q. slice_get q.values 0)) (same ∙ ap (λ (o : Option Row). Some (unwrap_or o (default_row a v))) e);
      passes = passes;
      flag = λ given. absurd (true≢false (sym given ∙ ap (λ (o : Option Row). option_map_or (λ q. explicit_source q.source) o false) (same ∙ ap (λ (o : Option Row). Some (unwrap_or o (default_row a v))) e)));
      otherwise = λ none. refl;
    }
    go (Some r) e h = stands a all (Some v) r (same ∙ ap (λ (o : Option Row). Some (unwrap_or o (default_row a v))) e) h

-- an option that needn't be given and has no default: it stands, or nothing does
abbrev MayStand : Rule → List Row → Type 0
MayStand a rows = Stands a rows None ⊎ ((is_given a.id rows ≡ false) × (first_of a.id rows ≡ None))

choice_stands : (a : Rule) (rows all : List Row) → row_for a.id all ≡ row_for a.id rows → IfSome (row_for a.id rows) (IsGiven a) → MayStand a all
choice_stands a rows all same good = go (row_for a.id rows) refl good
  where
    go : (o : Option Row) → row_for a.id rows ≡ o → IfSome o (IsGiven a) → MayStand a all
    go None e h = inr (ap (λ (o : Option Row). option_map_or (λ q. explicit_source q.source) o false) (same ∙ e), ap (option_and_then (λ q. slice_get q.values 0)) (same ∙ e))
    go (Some r) e h = inl (stands a all None r (same ∙ e) h)

-- ---- an option of a subcommand whose words have no fault

module _ (s : Shape) (words : List Text) (kept : AllByRecursion (Keeps (Good s.rules)) s.rules) (e : level_fault s [] nothing_held words false [] ≡ []) where
  by_words : (a : Rule) → arg_by_id s.rules a.id ≡ Some a → list_all (leaves_row a.id) s.rules ≡ true → is_given a.id (all_rows s words) ≡ true → Stands a (all_rows s words) None
  by_words a one leaves given = wanted_stands a (given_rows s words) (all_rows s words) (defaults_leave a.id s.rules (given_rows s words) leaves) (row_is_good s words kept e a one) given

  by_choice : (a : Rule) → arg_by_id s.rules a.id ≡ Some a → list_all (leaves_row a.id) s.rules ≡ true
      → MayStand a (all_rows s words)
  by_choice a one leaves = choice_stands a (given_rows s words) (all_rows s words) (defaults_leave a.id s.rules (given_rows s words) leaves) (row_is_good s words kept e a one)

  by_default : (before after : List Rule) (a : Rule) (v : Text) → before ++ a ∷ after ≡ s.rules → list_all (leaves_row a.id) before ≡ true → list_all (leaves_row a.id) after ≡ true → a.defaults ≡ v ∷ []
      → arg_by_id s.rules a.id ≡ Some a → value_passes a v ≡ true → Stands a (all_rows s words) (Some v)
  by_default before after a v whole front back own one passes =
      let row : row_for a.id (all_rows s words) ≡ Some (unwrap_or (row_for a.id (given_rows s words)) (default_row a v)) =
      ap (λ (c : List Rule). row_for a.id (fold with_default (given_rows s words) c)) (sym whole) ∙ default_among before after a v (given_rows s words) front back own in
      default_stands a v (given_rows s words) (all_rows s words) row (row_is_good s words kept e a one) passes

-- ---- an option's number, a flag, a choice

one_wanted : (g : Bool) → (if (not g || false) then kind.MissingRequiredArgument ∷ [] else []) ≡ [] → g ≡ true
one_wanted true e = refl
one_wanted false e = absurd (no_kinds _ _ e)

two_wanted : (g h : Bool) → (if (not g || (not h || false)) then kind.MissingRequiredArgument ∷ [] else []) ≡ [] → (g ≡ true) × (h ≡ true)
two_wanted true true e = (refl, refl)
two_wanted true false e = absurd (no_kinds _ _ e)
two_wanted false h e = absurd (no_kinds _ _ e)

-- an option of a subcommand with its text has its number
number_among : (s : Shape) (command : Text) (words : List Text) → (rows_at s words).0 ≡ command → (rows_at s words).1 ≡ all_rows s words → (a : Rule) (o : Numeric) → a.id ≡ o.name
    → ((text : Text) → value_passes a text ≡ true → IsUnsignedIn o.least o.most text)
    → Stands a (all_rows s words) o.default → (n : ℕ) × HasNumberIn (Some (rows_at s words)) command o n
number_among s command words named all a o same bounds h =
    let range = bounds h.text h.passes in
    let value : first_of o.name (rows_at s words).1 ≡ Some h.text = ap (first_of o.name) all ∙ subst (λ (id : Text). first_of id (all_rows s words) ≡ Some h.text) same h.value in
    let otherwise : is_given o.name (all_rows s words) ≡ false → o.default ≡ Some h.text =
    subst (λ (id : Text). is_given id (all_rows s words) ≡ false → o.default ≡ Some h.text) same h.otherwise in (
      _,
      record {
        spelt = record { text = h.text; value = record { name = ap Some named; value = value }; digits = range.0; number = refl };
        least = range.2;
        most = range.3;
        otherwise = λ none. otherwise (sym (ap (is_given o.name) all) ∙ none);
      },
    )

-- and so one of `serve`
number_stands : (words : List Text) (a : Rule) (o : Numeric) → a.id ≡ o.name → ((text : Text) → value_passes a text ≡ true → IsUnsignedIn o.least o.most text)
    → Stands a (all_rows serve_shape words) o.default → (n : ℕ) × HasNumber (Some (rows_at serve_shape words)) o n
number_stands words = number_among serve_shape (codes "serve") words refl refl

some_text : (a b : Text) → Some a ≡ Some b → b ≡ a
some_text a b e = cc

one_value : (a b : Text) → a ∷ [] ≡ b ∷ [] → b ≡ a
one_value a b e = cc

-- a flag of a subcommand says whether it was given
flag_among : (s : Shape) (command : Text) (words : List Text) → (rows_at s words).0 ≡ command → (rows_at s words).1 ≡ all_rows s words → (a : Rule) → takes_values a ≡ false → a.missing ≡ codes "true" ∷ []
    → Stands a (all_rows s words) (Some (codes "false")) → HasFlag (Some (rows_at s words)) command a.id
flag_among s command words named all a none missing h = go (is_given a.id (all_rows s words)) refl
  where
    value : (text : Text) → h.text ≡ text → first_of a.id (rows_at s words).1 ≡ Some text
    value text is = ap (first_of a.id) all ∙ h.value ∙ ap Some is

    go : (g : Bool) → is_given a.id (all_rows s words) ≡ g → HasFlag (Some (rows_at s words)) command a.id
    go true e = inl (record { name = ap Some named; value = value (codes "true") (one_value _ _ (sym missing ∙ h.flag e none)) }, ap (is_given a.id) all ∙ e)
    go false e = inr (record { name = ap Some named; value = value (codes "false") (some_text _ _ (h.otherwise e)) }, ap (is_given a.id) all ∙ e)

no_text : (a : Text) → Some a ≡ None → ⊥
no_text a e = cc

-- an option that needn't be given, and has no default
choice_among : (s : Shape) (command : Text) (words : List Text) → (rows_at s words).0 ≡ command → (rows_at s words).1 ≡ all_rows s words → (a : Rule)
    → MayStand a (all_rows s words) → IsChosen (Some (rows_at s words)) command a.id
choice_among s command words named all a (inl h) = go (is_given a.id (all_rows s words)) refl
  where
    go : (g : Bool) → is_given a.id (all_rows s words) ≡ g → IsChosen (Some (rows_at s words)) command a.id
    go true e = inl (h.text, record { text = record { name = ap Some named; value = ap (first_of a.id) all ∙ h.value }; given = ap (is_given a.id) all ∙ e })
    go false e = absurd (no_text _ (sym (h.otherwise e)))
choice_among s command words named all a (inr h) = inr (ap (is_given a.id) all ∙ h.0, λ text has. no_text text (sym has.value ∙ ap (first_of a.id) all ∙ h.1))

-- ---- `replay`

module _ (words : List Text) (e : level_fault replay_shape [] nothing_held words false [] ≡ []) where
  layout_given : is_given (codes "config") (all_rows replay_shape words) ≡ true
  layout_given = one_wanted _ (checked replay_shape words keeps_replay e)

  layout_stands : Stands (nth 0 replay_shape) (all_rows replay_shape words) None
  layout_stands = by_words replay_shape words keeps_replay e (nth 0 replay_shape) refl refl layout_given

  pages_stand : MayStand (nth 1 replay_shape) (all_rows replay_shape words)
  pages_stand = by_choice replay_shape words keeps_replay e (nth 1 replay_shape) refl refl

  replay_asked : AsksReplay (Some (rows_at replay_shape words))
  replay_asked = record {
    file = layout_stands.text;
    config = record { text = record { name = refl; value = layout_stands.value }; given = layout_given };
    flash = choice_among replay_shape (codes "replay") words refl refl (nth 1 replay_shape) pages_stand;
  }

-- ---- `serve`

module _ (words : List Text) (e : level_fault serve_shape [] nothing_held words false [] ≡ []) where
  wants : (is_given (codes "config") (all_rows serve_shape words) ≡ true) × (is_given (codes "port") (all_rows serve_shape words) ≡ true)
  wants = two_wanted _ _ (checked serve_shape words keeps_serve e)

  config_stands : Stands (nth 0 serve_shape) (all_rows serve_shape words) None
  config_stands = by_words serve_shape words keeps_serve e (nth 0 serve_shape) refl refl wants.0

  port_stands : Stands (nth 1 serve_shape) (all_rows serve_shape words) None
  port_stands = by_words serve_shape words keeps_serve e (nth 1 serve_shape) refl refl wants.1

  address_stands : Stands (nth 2 serve_shape) (all_rows serve_shape words) (Some host_default)
  address_stands = by_default serve_shape words keeps_serve e (take 2 serve_shape.rules) (drop 3 serve_shape.rules) (nth 2 serve_shape) host_default refl refl refl refl refl refl

  stay_stands : Stands (nth 3 serve_shape) (all_rows serve_shape words) (Some (codes "false"))
  stay_stands = by_default serve_shape words keeps_serve e (take 3 serve_shape.rules) (drop 4 serve_shape.rules) (nth 3 serve_shape) (codes "false") refl refl refl refl refl refl

  tools_stands : Stands (nth 4 serve_shape) (all_rows serve_shape words) tools.default
  tools_stands = by_default serve_shape words keeps_serve e (take 4 serve_shape.rules) (drop 5 serve_shape.rules) (nth 4 serve_shape) (codes "1") refl refl refl refl refl refl

  tasks_stands : Stands (nth 5 serve_shape) (all_rows serve_shape words) tasks.default
  tasks_stands = by_default serve_shape words keeps_serve e (take 5 serve_shape.rules) (drop 6 serve_shape.rules) (nth 5 serve_shape) (codes "1") refl refl refl refl refl refl

  cycles_stands : Stands (nth 6 serve_shape) (all_rows serve_shape words) cycles.default
  cycles_stands = by_default serve_shape words keeps_serve e (take 6 serve_shape.rules) (drop 7 serve_shape.rules) (nth 6 serve_shape) (codes "100") refl refl refl refl refl refl

  chapter_stands : Stands (nth 7 serve_shape) (all_rows serve_shape words) chapter.default
  chapter_stands = by_default serve_shape words keeps_serve e (take 7 serve_shape.rules) (drop 8 serve_shape.rules) (nth 7 serve_shape) (codes "65536") refl refl refl refl refl refl

  period_stands : Stands (nth 8 serve_shape) (all_rows serve_shape words) period.default
  period_stands = by_default serve_shape words keeps_serve e (take 8 serve_shape.rules) (drop 9 serve_shape.rules) (nth 8 serve_shape) (codes "0") refl refl refl refl refl refl

  patience_stands : Stands (nth 9 serve_shape) (all_rows serve_shape words) patience.default
  patience_stands = by_default serve_shape words keeps_serve e (take 9 serve_shape.rules) (drop 10 serve_shape.rules) (nth 9 serve_shape) (codes "60") refl refl refl refl refl refl

  written_stands : MayStand (nth 10 serve_shape) (all_rows serve_shape words)
  written_stands = by_choice serve_shape words keeps_serve e (nth 10 serve_shape) refl refl

  kept_stands : MayStand (nth 11 serve_shape) (all_rows serve_shape words)
  kept_stands = by_choice serve_shape words keeps_serve e (nth 11 serve_shape) refl refl

  pace_stands : Stands (nth 12 serve_shape) (all_rows serve_shape words) (Some (codes "false"))
  pace_stands = by_default serve_shape words keeps_serve e (take 12 serve_shape.rules) (drop 13 serve_shape.rules) (nth 12 serve_shape) (codes "false") refl refl refl refl refl refl

  queue_stands : Stands (nth 13 serve_shape) (all_rows serve_shape words) queue.default
  queue_stands = by_default serve_shape words keeps_serve e (take 13 serve_shape.rules) (drop 14 serve_shape.rules) (nth 13 serve_shape) (codes "0") refl refl refl refl refl refl

  idle_stands : Stands (nth 14 serve_shape) (all_rows serve_shape words) idle.default
  idle_stands = by_default serve_shape words keeps_serve e (take 14 serve_shape.rules) (drop 15 serve_shape.rules) (nth 14 serve_shape) (codes "0") refl refl refl refl refl refl

  cut_every_stands : Stands (nth 15 serve_shape) (all_rows serve_shape words) cut_every.default
  cut_every_stands = by_default serve_shape words keeps_serve e (take 15 serve_shape.rules) (drop 16 serve_shape.rules) (nth 15 serve_shape) (codes "1") refl refl refl refl refl refl

  no_stdin_stands : Stands (nth 16 serve_shape) (all_rows serve_shape words) (Some (codes "false"))
  no_stdin_stands = by_default serve_shape words keeps_serve e (take 16 serve_shape.rules) (drop 17 serve_shape.rules) (nth 16 serve_shape) (codes "false") refl refl refl refl refl refl

  udp_stands : Stands (nth 17 serve_shape) (all_rows serve_shape words) (Some (codes "false"))
  udp_stands = by_default serve_shape words keeps_serve e (take 17 serve_shape.rules) (drop 18 serve_shape.rules) (nth 17 serve_shape) (codes "false") refl refl refl refl refl refl

  serve_asked : AsksRun (Some (rows_at serve_shape words))
  serve_asked =
      let p = number_stands words (nth 1 serve_shape) port refl (λ text h. accepts-Accepts false (Unsigned 1024 65535) text h) port_stands in
      let t = number_stands words (nth 4 serve_shape) tools refl (λ text h. accepts-Accepts false (Unsigned 1 4) text h) tools_stands in
      let k = number_stands words (nth 5 serve_shape) tasks refl (λ text h. accepts-Accepts false (Unsigned 0 6) text h) tasks_stands in
      let n = number_stands words (nth 6 serve_shape) cycles refl (λ text h. accepts-Accepts false (Unsigned 1 1000) text h) cycles_stands in
      let m = number_stands words (nth 7 serve_shape) chapter refl (λ text h. accepts-Accepts false (Unsigned 1 65536) text h) chapter_stands in
      let ms = number_stands words (nth 8 serve_shape) period refl (λ text h. accepts-Accepts false (Unsigned 0 1000) text h) period_stands in
      let s = number_stands words (nth 9 serve_shape) patience refl (λ text h. accepts-Accepts false (Unsigned 1 3600) text h) patience_stands in
      let q = number_stands words (nth 13 serve_shape) queue refl (λ text h. accepts-Accepts false (Unsigned 0 64) text h) queue_stands in
      let i = number_stands words (nth 14 serve_shape) idle refl (λ text h. accepts-Accepts false (Unsigned 0 86400) text h) idle_stands in
      let c = number_stands words (nth 15 serve_shape) cut_every refl (λ text h. accepts-Accepts false (Unsigned 1 3600) text h) cut_every_stands in
      inr (record {
        file = config_stands.text;
        address = address_stands.text;
        p = p.0;
        t = t.0;
        k = k.0;
        n = n.0;
        m = m.0;
        ms = ms.0;
        s = s.0;
        q = q.0;
        i = i.0;
        c = c.0;
        config = record { text = record { name = refl; value = config_stands.value }; given = wants.0 };
        host = record { text = record { name = refl; value = address_stands.value }; otherwise = λ none. some_text _ _ (address_stands.otherwise none) };
        stay = flag_among serve_shape (codes "serve") words refl refl (nth 3 serve_shape) refl refl stay_stands;
        port = p.1;
        tools = t.1;
        tasks = k.1;
        cycles = n.1;
        chapter = m.1;
        period = ms.1;
        patience = s.1;
        queue = q.1;
        idle = i.1;
        cut_every = c.1;
        journal = choice_among serve_shape (codes "serve") words refl refl (nth 10 serve_shape) written_stands;
        flash = choice_among serve_shape (codes "serve") words refl refl (nth 11 serve_shape) kept_stands;
        pace = flag_among serve_shape (codes "serve") words refl refl (nth 12 serve_shape) refl refl pace_stands;
        no_stdin = flag_among serve_shape (codes "serve") words refl refl (nth 16 serve_shape) refl refl no_stdin_stands;
        udp = flag_among serve_shape (codes "serve") words refl refl (nth 17 serve_shape) refl refl udp_stands;
      })

-- ---- `describe`

module _ (words : List Text) (e : level_fault describe_shape [] nothing_held words false [] ≡ []) where
  file_given : is_given (codes "config") (all_rows describe_shape words) ≡ true
  file_given = one_wanted _ (checked describe_shape words keeps_describe e)

  file_stands : Stands (nth 0 describe_shape) (all_rows describe_shape words) None
  file_stands = by_words describe_shape words keeps_describe e (nth 0 describe_shape) refl refl file_given

  host_stands : Stands (nth 1 describe_shape) (all_rows describe_shape words) (Some host_default)
  host_stands = by_default describe_shape words keeps_describe e (take 1 describe_shape.rules) (drop 2 describe_shape.rules) (nth 1 describe_shape) host_default refl refl refl refl refl refl

  named_port_stands : Stands (nth 2 describe_shape) (all_rows describe_shape words) named_port.default
  named_port_stands = by_default describe_shape words keeps_describe e (take 2 describe_shape.rules) (drop 3 describe_shape.rules) (nth 2 describe_shape) (codes "5555") refl refl refl refl refl refl

  check_stands : Stands (nth 3 describe_shape) (all_rows describe_shape words) (Some (codes "false"))
  check_stands = by_default describe_shape words keeps_describe e (take 3 describe_shape.rules) (drop 4 describe_shape.rules) (nth 3 describe_shape) (codes "false") refl refl refl refl refl refl

  described_udp_stands : Stands (nth 4 describe_shape) (all_rows describe_shape words) (Some (codes "false"))
  described_udp_stands = by_default describe_shape words keeps_describe e (take 4 describe_shape.rules) (drop 5 describe_shape.rules) (nth 4 describe_shape) (codes "false") refl refl refl refl refl refl

  description_asked : AsksDescription (Some (rows_at describe_shape words))
  description_asked =
      let p = number_among describe_shape (codes "describe") words refl refl (nth 2 describe_shape) named_port refl (λ text h. accepts-Accepts false (Unsigned 1024 65535) text h) named_port_stands in
      record {
        file = file_stands.text;
        address = host_stands.text;
        p = p.0;
        config = record { text = record { name = refl; value = file_stands.value }; given = file_given };
        host = record { text = record { name = refl; value = host_stands.value }; otherwise = λ none. some_text _ _ (host_stands.otherwise none) };
        port = p.1;
        check = flag_among describe_shape (codes "describe") words refl refl (nth 3 describe_shape) refl refl check_stands;
        udp = flag_among describe_shape (codes "describe") words refl refl (nth 4 describe_shape) refl refl described_udp_stands;
      }

-- ---- `audit`

module _ (words : List Text) (e : level_fault audit_shape [] nothing_held words false [] ≡ []) where
  both_given : (is_given (codes "config") (all_rows audit_shape words) ≡ true) × (is_given (codes "file") (all_rows audit_shape words) ≡ true)
  both_given = two_wanted _ _ (checked audit_shape words keeps_audit e)

  option_stands : Stands (nth 0 audit_shape) (all_rows audit_shape words) None
  option_stands = by_words audit_shape words keeps_audit e (nth 0 audit_shape) refl refl both_given.0

  journal_stands : Stands (nth 1 audit_shape) (all_rows audit_shape words) None
  journal_stands = by_words audit_shape words keeps_audit e (nth 1 audit_shape) refl refl both_given.1

  begun_stands : MayStand (nth 2 audit_shape) (all_rows audit_shape words)
  begun_stands = by_choice audit_shape words keeps_audit e (nth 2 audit_shape) refl refl

  lines_stands : Stands (nth 3 audit_shape) (all_rows audit_shape words) (Some (codes "false"))
  lines_stands = by_default audit_shape words keeps_audit e (take 3 audit_shape.rules) (drop 4 audit_shape.rules) (nth 3 audit_shape) (codes "false") refl refl refl refl refl refl

  audit_asked : AsksAudit (Some (rows_at audit_shape words))
  audit_asked = record {
    file = option_stands.text;
    journal = journal_stands.text;
    config = record { text = record { name = refl; value = option_stands.value }; given = both_given.0 };
    place = record { text = record { name = refl; value = journal_stands.value }; given = both_given.1 };
    flash = choice_among audit_shape (codes "audit") words refl refl (nth 2 audit_shape) begun_stands;
    lines = flag_among audit_shape (codes "audit") words refl refl (nth 3 audit_shape) refl refl lines_stands;
  }

-- ---- the program's own words

first_true : (b : Bool) → (b || false) ≡ true → b ≡ true
first_true true e = refl
first_true false e = e

turned : (xs ys : List ℕ) → bytes_eq xs ys ≡ false → (bytes_eq ys xs || false) ≡ true → ⊥
turned xs ys e h = true≢false (sym ((bytes_eq-Decides xs ys).1 (sym ((bytes_eq-Decides ys xs).0 (first_true (bytes_eq ys xs) h)))) ∙ e)

wanted : (rows : List Row) (has : Bool) → check_fault (built program).top rows has ≡ [] → has ≡ true
wanted rows true e = refl
wanted rows false e = absurd (no_kinds _ _ e)

entered_asks : (stop : Option (Text × List Text)) → NoHelp stop → entered_fault (built program) stop ≡ [] → is_some (entered (built program) stop) ≡ true → AsksSomething (entered (built program) stop)
entered_asks None n f h = absurd (true≢false (sym h))
entered_asks (Some p) n f h = go (answers_to p.0 (label_of replay_shape)) (answers_to p.0 (label_of serve_shape)) (answers_to p.0 (label_of describe_shape)) (answers_to p.0 (label_of audit_shape)) (answers_to p.0 (label_of help_of)) (turned p.0 (codes "help") n) f h
  where
    named : Bool → Bool → Bool → Bool → Bool → Option Shape
    named x y d a z = if x then Some replay_shape else (if y then Some serve_shape else (if d then Some describe_shape else (if a then Some audit_shape else (if z then Some help_of else None))))

    go : (x y d a z : Bool) → (z ≡ true → ⊥)
        → option_map_or (λ s. level_fault s [] nothing_held p.1 false []) (named x y d a z) [] ≡ []
        → is_some (option_map (λ s. rows_at s p.1) (named x y d a z)) ≡ true
        → AsksSomething (option_map (λ s. rows_at s p.1) (named x y d a z))
    go true y d a z other f h = inl (inl (replay_asked p.1 f))
    go false true d a z other f h = inl (serve_asked p.1 f)
    go false false true a z other f h = inr (inl (description_asked p.1 f))
    go false false false true z other f h = inr (inr (audit_asked p.1 f))
    go false false false false true other f h = absurd (other refl)
    go false false false false false other f h = absurd (true≢false (sym h))

-- words without a fault ask for something
pub words_ask : (words : List Text) → fault_of program words ≡ [] → AsksSomething (subcommand_of program words)
words_ask words e =
    let a = built program in
    let args = argument_words program words in
    let end = walk a.top.rules (names_of a) nothing_held args in
    let w = parts (walk_fault a.top (names_of a) (walk_from nothing_held) args) _ e in
    let b = parts (entered_fault a end.stopped) _ w.1 in
    let c = parts (settle_fault a.top.rules a.top.args_override_self end.held) _ b.1 in
    let d = parts (defaults_fault (settled a.top.rules end.held).rows a.top.rules) _ c.1 in
    entered_asks end.stopped (walk_stops a.top (names_of a) refl args (walk_from nothing_held) w.0 tt) b.0 (wanted (finished a.top.rules end.held) (is_some (entered a end.stopped)) d.1)

-- What clap's matches say of the options of a subcommand.
use Rattle.std.proofs.Common.{◌≡◌, ◌≤◌, ◌<◌, ◌||◌, inl, inr, arith, ℕ, Bool, true, false, true≢false, if◌then◌else◌, cond, codes, List, [], ◌∷◌, map, Option, Some, None, slice_index, IfSome, Bor, Box, string_bytes, refl, sym, ◌∙◌, ap, subst}
use Rattle.std.specs.List.{find}
use Rattle.std.specs.Str.{bytes_eq}
use Rattle.std.specs.Prelude.{is_some}
use Rattle.std.specs.Option.{option_map, option_and_then, option_map_or}
use Rattle.std.specs.Box.{box_value}
use Rattle.clap.specs.Facts.{Entry, explicit_source}
use Rattle.clap.specs.declared.parser.matches.Found.{Found}
use Rattle.clap.specs.declared.parser.matches.MatchedArg.{MatchedArg}
use Rattle.clap.specs.declared.parser.matches.ValueSource.{ValueSource}
use Rattle.clap.specs.Takes.{is_given}
use Rattle.clap.specs.Walk.{row_of}
use Rattle.clap.specs.Words.{Row, Text, first_of, matched_of, rows_of, subcommand_rows}
use Rattle.clap.specs.declared.parser.matches.SubCommand.{SubCommand}
use Rattle.clap.specs.declared.parser.matches.ArgMatches.TheViews.{out-SubCommand}
use Rattle.std.specs.Str.Parse.{digits_value, without_leading_plus}
use Rattle.xcp_program.specs.CommandLine.{Asks, AsksFew, AsksTooMany, GivesOneFile, HasFlash, HasGiven, HasJournal, HasNumber, HasNumberIn, HasText, HasTwoFiles, IsOneFile, Numeric, Spells, SpellsIn, cut_every, few, gives, gives_to_stay, idle, most_tools, one, patience, queue, tools}
use Rattle.xcp_program.specs.private.AppArguments.{IsChosen}
use Rattle.xcp_program.specs.declared.purpose.Options.{Options}
use Rattle.xcp_program.specs.declared.purpose.Options.TheVariants.{Audit, Describe, Replay, Serve, Stay}

-- the name that stands beside a subcommand's rows
pub name_beside_rows : {Z : Type 0} (o : Option (Box SubCommand Z)) → option_map (λ p. p.0) (subcommand_rows o) ≡ option_map (λ b. (out-SubCommand (box_value b)).name.now) o
name_beside_rows None = refl
name_beside_rows (Some b) = refl

-- an option's text by the rows alone
by_rows : (option : Text) (found : Option (Text × List Row)) → option_and_then (λ p. first_of option p.1) found ≡ option_and_then (first_of option) (option_map (λ p. p.1) found)
by_rows option None = refl
by_rows option (Some p) = refl

-- the text that was found is that of the option
pub text_found : (command option : Text) (found : Option (Text × List Row)) (rows : List Row) (r : Option (Bor Text)) → option_map (λ p. p.0) found ≡ Some command → option_map (λ p. p.1) found ≡ Some rows
    → option_map (λ s. s.now) r ≡ first_of option rows → IfSome r (λ s. HasText found command option s.now)
text_found command option found rows None h i j = tt
text_found command option found rows (Some s) h i j = record {
  name = h;
  value = by_rows option found ∙ ap (option_and_then (first_of option)) i ∙ sym j;
}

-- where none was found, there is none
pub no_text_found : (command option : Text) (found : Option (Text × List Row)) (rows : List Row) (r : Option (Bor Text)) → option_map (λ p. p.1) found ≡ Some rows → option_map (λ s. s.now) r ≡ first_of option rows → r ≡ None
    → (text : Text) → ¬ (HasText found command option text)
no_text_found command option found rows r i j e text h =
    let value = sym h.value ∙ by_rows option found ∙ ap (option_and_then (first_of option)) i ∙ sym j ∙ ap (option_map (λ s. s.now)) e in
    cc

some_is : (a b : Text) → Some a ≡ Some b → a ≡ b
some_is a b e = cc

-- an option has one text
pub same_text : {command option a b : Text} {found : Option (Text × List Row)} → HasText found command option a → HasText found command option b → a ≡ b
same_text {command} {option} {a} {b} h k = some_is a b (sym h.value ∙ k.value)

-- and so one number
pub same_number : (found : Option (Text × List Row)) (command option : Text) (n m : ℕ) → SpellsIn found command option n → SpellsIn found command option m → n ≡ m
same_number found command option n m h k = h.number ∙ ap (λ (t : Text). digits_value 10 (without_leading_plus t)) (same_text h.value k.value) ∙ sym k.number

-- the number that an option's text spells is the one that it has
pub has_spelt_in : (found : Option (Text × List Row)) (command : Text) (o : Numeric) (n m : ℕ) → HasNumberIn found command o n → SpellsIn found command o.name m → HasNumberIn found command o m
has_spelt_in found command o n m h k = subst (λ (x : ℕ). HasNumberIn found command o x) (same_number found command o.name n m h.spelt k) h

-- the number that the text of an option of `serve` spells is the one that it has
pub has_spelt : (found : Option (Text × List Row)) (o : Numeric) (n m : ℕ) → HasNumber found o n → Spells found o.name m → HasNumber found o m
has_spelt found = has_spelt_in found (codes "serve")

-- nothing is two subcommands
pub named_apart : (a b : Text) (found : Option (Text × List Row)) → option_map (λ p. p.0) found ≡ Some a → option_map (λ p. p.0) found ≡ Some b → (a ≡ b → ⊥) → ⊥
named_apart a b found h k apart = apart (some_is a b (sym h ∙ k))

-- `replay` is another name than `serve`
pub no_replay : codes "replay" ≡ codes "serve" → ⊥
no_replay e = cc

-- `describe` is another name than `serve`
pub no_description : codes "describe" ≡ codes "serve" → ⊥
no_description e = cc

-- `audit` is another name than `serve`
pub no_audit : codes "audit" ≡ codes "serve" → ⊥
no_audit e = let first : 97 ≡ 115 = ap (λ (t : Text). slice_index t 0) e in absurd (omega (arith, first))

-- ---- how many tools a server may have, by whether it is over UDP and whether it stays

-- one that ends has few
pub few_ending : (u s : Bool) (t : ℕ) → t ≤ (if u then one else (if s then tools.most else few)) → (s ≡ true → ⊥) → t ≤ few
few_ending true s t most ends = omega arith
few_ending false true t most ends = absurd (ends refl)
few_ending false false t most ends = most

-- one over UDP has one at most
pub one_over_udp : (u s : Bool) (t : ℕ) → t ≤ (if u then one else (if s then tools.most else few)) → u ≡ true → t ≤ one
one_over_udp true s t most e = most
one_over_udp false s t most e = absurd (true≢false (sym e))

-- so many of one that isn't over UDP and ends are as many as it may have
most_ending : (u s : Bool) (t : ℕ) → t ≤ few → u ≡ false → (s ≡ true → ⊥) → t ≤ (if u then one else (if s then tools.most else few))
most_ending true s t most tcp ends = absurd (true≢false tcp)
most_ending false true t most tcp ends = absurd (ends refl)
most_ending false false t most tcp ends = most

-- and so are so many of one that stays
most_staying : (u s : Bool) (t : ℕ) → t ≤ tools.most → (u ≡ true → t ≤ one) → s ≡ true → t ≤ (if u then one else (if s then tools.most else few))
most_staying true s t most alone stays = alone refl
most_staying false true t most alone stays = most
most_staying false false t most alone stays = absurd (true≢false (sym stays))

last_false : (a b : Bool) → (a || b) ≡ false → b ≡ false
last_false true b e = absurd (true≢false e)
last_false false b e = e

sixth_false : (a b c d e f : Bool) → (a || (b || (c || (d || (e || f))))) ≡ false → f ≡ false
sixth_false a b c d e f none = last_false e f (last_false d (e || f) (last_false c (d || (e || f)) (last_false b (c || (d || (e || f))) (last_false a (b || (c || (d || (e || f)))) none))))

-- no option of a server that stays is given, and so no `--udp`
no_udp : (found : Option (Text × List Row)) → gives_to_stay found ≡ false → gives (codes "udp") found ≡ false
no_udp found none = sixth_false (gives patience.name found) (gives queue.name found) (gives idle.name found) (gives cut_every.name found) (gives (codes "no-stdin") found) (gives (codes "udp") found) none

-- the tools that the words give are no more than the server may have
pub within_most : (found : Option (Text × List Row)) (n : ℕ) → AsksFew found → Spells found tools.name n → n ≤ most_tools found
within_most found n asked h = subst (λ (x : ℕ). x ≤ most_tools found) (same_number found (codes "serve") tools.name asked.number n asked.tools.spelt h) asked.few

-- they aren't too many then
pub not_above : (found : Option (Text × List Row)) (n : ℕ) → Spells found tools.name n → n ≤ most_tools found → AsksTooMany found → ⊥
not_above found n h most many = above n many.number (most_tools found) (same_number found (codes "serve") tools.name n many.number h many.tools.spelt) most many.many
  where
    above : (a b m : ℕ) → a ≡ b → a ≤ m → m < b → ⊥
    above a b m same most many = omega arith

-- what is asked for has not too many tools
pub not_too_many : (found : Option (Text × List Row)) (o : Options) → Asks found o → AsksTooMany found → ⊥
not_too_many found (Replay config flash) h many = named_apart (codes "replay") (codes "serve") found h.config.text.name many.tools.spelt.value.name no_replay
not_too_many found (Serve config host p t k n m ms journal flash pace) h many = not_above found t h.tools.spelt (most_ending _ _ t h.few (no_udp found h.others) h.ends) many
not_too_many found (Stay config host p t k ms s q i c unread journal flash pace udp) h many =
    not_above found t h.tools.spelt (most_staying _ _ t h.tools.most (λ over. h.alone (sym h.udp ∙ over)) h.stays) many
not_too_many found (Describe config host p check udp) h many = named_apart (codes "describe") (codes "serve") found h.config.text.name many.tools.spelt.value.name no_description
not_too_many found (Audit config file flash lines) h many = named_apart (codes "audit") (codes "serve") found h.config.text.name many.tools.spelt.value.name no_audit

-- an option that needn't be given has its text because the words give it
pub chosen : {found : Option (Text × List Row)} {command option text : Text} → IsChosen found command option → HasText found command option text → HasGiven found command option text
chosen {found} {command} {option} (inl given) h = subst (HasGiven found command option) (same_text given.1.text h) given.1
chosen (inr none) h = absurd (none.1 _ h)

-- the texts of the files of which one is named twice are those that the words give
pub one_file : {found : Option (Text × List Row)} {journal flash : Text} → GivesOneFile found → HasGiven found (codes "serve") (codes "journal") journal → HasGiven found (codes "serve") (codes "flash") flash → IsOneFile journal flash
one_file {found} {journal} {flash} one h k = subst (λ (a : Text). IsOneFile a flash) (same_text one.journal.text h.text) (subst (λ (b : Text). IsOneFile one.written b) (same_text one.flash.text k.text) one.same)

-- where no file is named twice, the names are of two files
apart : (found : Option (Text × List Row)) (journal flash : Text) → HasJournal found (Some journal) → HasFlash found (codes "serve") (Some flash) → ¬ (GivesOneFile found) → ¬ (IsOneFile journal flash)
apart found journal flash h k none same = none (record { written = journal; stored = flash; journal = h; flash = k; same = same })

-- what is asked for has two files, if any, and the words name none twice
pub files_apart : (found : Option (Text × List Row)) (o : Options) → Asks found o → HasTwoFiles o × (¬ (GivesOneFile found))
files_apart found (Replay config flash) h = (tt, λ one. named_apart (codes "replay") (codes "serve") found h.config.text.name one.journal.text.name no_replay)
files_apart found (Serve config host p t k n m ms (Some journal) (Some flash) pace) h = (apart found (string_bytes journal) (string_bytes flash) h.journal h.flash h.apart, h.apart)
files_apart found (Serve config host p t k n m ms (Some journal) None pace) h = (tt, h.apart)
files_apart found (Serve config host p t k n m ms None flash pace) h = (tt, h.apart)
files_apart found (Stay config host p t k ms s q i c unread (Some journal) (Some flash) pace udp) h = (apart found (string_bytes journal) (string_bytes flash) h.journal h.flash h.apart, h.apart)
files_apart found (Stay config host p t k ms s q i c unread (Some journal) None pace udp) h = (tt, h.apart)
files_apart found (Stay config host p t k ms s q i c unread None flash pace udp) h = (tt, h.apart)
files_apart found (Describe config host p check udp) h = (tt, λ one. named_apart (codes "describe") (codes "serve") found h.config.text.name one.journal.text.name no_description)
files_apart found (Audit config file flash lines) h = (tt, λ one. named_apart (codes "audit") (codes "serve") found h.config.text.name one.journal.text.name no_audit)

-- whether the words give an option, by the entry that was found for it
given_in : (id : Text) (es : List Entry) → option_map_or (λ r. explicit_source r.source) (find (λ r. bytes_eq r.id id) (map row_of es)) false ≡ option_map_or (λ a. explicit_source a.source) (option_map (λ e. e.1) (find (λ e. bytes_eq e.0.now id) es)) false
given_in id [] = refl
given_in id (e ∷ es) = go (bytes_eq e.0.now id) (given_in id es)
  where
    go : (b : Bool) → option_map_or (λ r. explicit_source r.source) (find (λ r. bytes_eq r.id id) (map row_of es)) false ≡ option_map_or (λ a. explicit_source a.source) (option_map (λ x. x.1) (find (λ x. bytes_eq x.0.now id) es)) false
        → option_map_or (λ r. explicit_source r.source) (cond b (Some (row_of e)) (find (λ r. bytes_eq r.id id) (map row_of es))) false ≡ option_map_or (λ a. explicit_source a.source) (option_map (λ x. x.1) (cond b (Some e) (find (λ x. bytes_eq x.0.now id) es))) false
    go true h = refl
    go false h = h

-- the same of the rows of a subcommand
pub gives_as : (id : Text) (found : Option (Text × List Row)) (f : Found) → option_map (λ p. p.1) found ≡ Some (rows_of f) → gives id found ≡ option_map_or (λ a. explicit_source a.source) (matched_of f id) false
gives_as id None f e = cc
gives_as id (Some p) f e = ap (is_given id) (rows_are p.1 (rows_of f) e) ∙ given_in id f.entries.items
  where
    rows_are : (a b : List Row) → Some a ≡ Some b → a ≡ b
    rows_are a b e = cc

-- an option that has no entry isn't given
pub not_there : (m : Option MatchedArg) (there : Bool) → there ≡ is_some m → there ≡ false → there ≡ option_map_or (λ a. explicit_source a.source) m false
not_there None there e f = f
not_there (Some a) there e f = cc

-- and one that has is, where its value is no default
pub is_there : (m : Option MatchedArg) (there : Bool) (source : Option ValueSource) (r : Bool) → there ≡ is_some m → there ≡ true → source ≡ option_and_then (λ a. a.source) m → r ≡ explicit_source source → r ≡ option_map_or (λ a. explicit_source a.source) m false
is_there None there source r e t s is = cc
is_there (Some a) there source r e t s is = is ∙ ap explicit_source s

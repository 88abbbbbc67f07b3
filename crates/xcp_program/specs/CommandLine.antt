-- The words of the command line, as clap reads them.
use Rattle.std.specs.Prelude.{◌≡◌, ◌⊎◌, ◌≤◌, ◌<◌, ◌||◌, if◌then◌else◌, ⊤, ℕ, Bool, List, [], ◌∷◌, ◌++◌, true, false, codes, not, is_some, Option, Some, None, string_bytes}
use Rattle.std.specs.Option.{option_map, option_and_then, option_map_or}
use Rattle.std.specs.Str.Parse.{IsNumeral, digits_value, without_leading_plus}
use Rattle.clap.specs.Takes.{is_given}
use Rattle.clap.specs.Words.{App, IsAmong, Kinds, Row, Rule, Text, first_of, kind_of, new_app, new_rule, with_rule, with_subcommand}
use Rattle.xcp_program.specs.declared.purpose.Options.{Options}
use Rattle.xcp_program.specs.declared.purpose.Options.TheVariants.{Audit, Describe, Replay, Serve, Stay}
use Rattle.xcp_program.specs.declared.purpose.OptionsFault.{OptionsFault}
use Rattle.xcp_program.specs.declared.purpose.OptionsFault.TheVariants.{Memory, NotForStay, OneFile, OnlyForJournal, OnlyForStay, TooManyTools, Words}
use Rattle.xcp_program.specs.declared.words.Unasked.{Unasked}
use Rattle.xcp_program.specs.declared.words.Unasked.TheVariants as unasked
use Rattle.clap.specs.declared.error.kind.ErrorKind.TheVariants.{DisplayHelp, DisplayVersion}
use Rattle.clap.specs.declared.error.Error.{Error}
use Rattle.clap.specs.declared.builder.ArgAction.TheVariants.{Set, SetTrue}
use Rattle.clap.specs.declared.builder.value_parser.ValueParser.TheVariants.{Unsigned}

-- `--config FILE`, which has to be there
abbrev pub config_rule : Rule
config_rule = record (new_rule (codes "config")) { long = Some (codes "config"); action = Some Set; value_names = 1; required = true }

-- an option of `serve` that has a number: its name, the bounds of the number, and the number's text where it isn't given
pub record Numeric : Type 0 where
  pub name : Text
  pub least : ℕ
  pub most : ℕ
  pub default : Option Text

abbrev pub port : Numeric
port = record { name = codes "port"; least = 1024; most = 65535; default = None }

abbrev pub tools : Numeric
tools = record { name = codes "tools"; least = 1; most = 4; default = Some (codes "1") }

-- the most tools of a server that ends, and of one over UDP
abbrev pub few : ℕ
few = 2

abbrev pub one : ℕ
one = 1

abbrev pub tasks : Numeric
tasks = record { name = codes "tasks"; least = 0; most = 6; default = Some (codes "1") }

abbrev pub cycles : Numeric
cycles = record { name = codes "cycles"; least = 1; most = 1000; default = Some (codes "100") }

abbrev pub chapter : Numeric
chapter = record { name = codes "chapter"; least = 1; most = 65536; default = Some (codes "65536") }

abbrev pub period : Numeric
period = record { name = codes "period"; least = 0; most = 1000; default = Some (codes "0") }

abbrev pub patience : Numeric
patience = record { name = codes "patience"; least = 1; most = 3600; default = Some (codes "60") }

abbrev pub queue : Numeric
queue = record { name = codes "queue"; least = 0; most = 64; default = Some (codes "0") }

abbrev pub idle : Numeric
idle = record { name = codes "idle"; least = 0; most = 86400; default = Some (codes "0") }

abbrev pub cut_every : Numeric
cut_every = record { name = codes "cut-every"; least = 1; most = 3600; default = Some (codes "1") }

-- `--NAME NUMBER`, which has to be there where it has no default
abbrev pub numeric_rule : Numeric → Rule
numeric_rule o = record (new_rule o.name) {
  long = Some o.name;
  action = Some Set;
  value_names = 1;
  parser = Some (Unsigned o.least o.most);
  defaults = option_map_or (λ v. v ∷ []) o.default [];
  required = not (is_some o.default);
}

-- `--host HOST`, which needn't be there
abbrev pub host_default : Text
host_default = codes "127.0.0.1"

abbrev pub host_rule : Rule
host_rule = record (new_rule (codes "host")) { long = Some (codes "host"); action = Some Set; value_names = 1; defaults = host_default ∷ [] }

-- `--NAME`, a flag
abbrev pub flag_rule : Text → Rule
flag_rule name = record (new_rule name) { long = Some name; action = Some SetTrue }

-- `--NAME TEXT`, which needn't be there and has no default
abbrev pub choice_rule : Text → Rule
choice_rule name = record (new_rule name) { long = Some name; action = Some Set; value_names = 1 }

-- `replay --config FILE [--flash FILE]`
abbrev pub replay_app : App
replay_app = with_rule (with_rule (new_app (codes "replay")) config_rule) (choice_rule (codes "flash"))

-- `serve --config FILE --port PORT [--host HOST] [--stay] [--tools T] [--tasks K] [--cycles N] [--chapter M] [--period MS] [--patience S]
-- [--journal FILE] [--flash FILE] [--pace] [--queue N] [--idle S] [--cut-every S] [--no-stdin] [--udp]`
abbrev pub serve_app : App
serve_app = with_rule (with_rule (with_rule (with_rule (with_rule (with_rule (with_rule (with_rule (with_rule (with_rule (with_rule (with_rule (with_rule (with_rule (with_rule (with_rule (with_rule (with_rule (new_app (codes "serve"))
    config_rule) (numeric_rule port)) host_rule) (flag_rule (codes "stay"))) (numeric_rule tools)) (numeric_rule tasks)) (numeric_rule cycles)) (numeric_rule chapter)) (numeric_rule period)) (numeric_rule patience))
    (choice_rule (codes "journal"))) (choice_rule (codes "flash"))) (flag_rule (codes "pace"))) (numeric_rule queue)) (numeric_rule idle)) (numeric_rule cut_every)) (flag_rule (codes "no-stdin"))) (flag_rule (codes "udp"))

-- the port that a description names
abbrev pub named_port : Numeric
named_port = record { name = codes "port"; least = 1024; most = 65535; default = Some (codes "5555") }

-- `describe --config FILE [--host HOST] [--port PORT] [--check] [--udp]`
abbrev pub describe_app : App
describe_app = with_rule (with_rule (with_rule (with_rule (with_rule (new_app (codes "describe")) config_rule) host_rule) (numeric_rule named_port)) (flag_rule (codes "check"))) (flag_rule (codes "udp"))

-- `FILE`, which has to be there
abbrev pub file_rule : Rule
file_rule = record (new_rule (codes "file")) { action = Some Set; value_names = 1; required = true }

-- `audit --config FILE FILE [--flash FILE] [--lines]`
abbrev pub audit_app : App
audit_app = with_rule (with_rule (with_rule (with_rule (new_app (codes "audit")) config_rule) file_rule) (choice_rule (codes "flash"))) (flag_rule (codes "lines"))

abbrev pub with_a_version : App → App
with_a_version a = record a { top = record a.top { has_version = true } }

abbrev pub with_a_subcommand_wanted : App → App
with_a_subcommand_wanted a = record a { top = record a.top { subcommand_required = true } }

-- the program, which has a version and wants one of its subcommands
abbrev pub program : App
program = with_subcommand (with_subcommand (with_subcommand (with_subcommand (with_a_subcommand_wanted (with_a_version (new_app (codes "xcpd")))) replay_app.top) serve_app.top) describe_app.top) audit_app.top

-- the words after a subcommand give this option
abbrev pub gives : Text → Option (Text × List Row) → Bool
gives option found = option_map_or (λ p. is_given option p.1) found false

-- a subcommand of this name was named, and its option has this text: the first that the words give it, or its default
pub record HasText (found : Option (Text × List Row)) (command option text : Text) : Type 0 where
  pub name : option_map (λ p. p.0) found ≡ Some command
  pub value : option_and_then (λ p. first_of option p.1) found ≡ Some text

-- the same of one that the words give
pub record HasGiven (found : Option (Text × List Row)) (command option word : Text) : Type 0 where
  pub text : HasText found command option word
  pub given : gives option found ≡ true

-- an option that needn't be given: its text if the words give it
abbrev pub HasChoice : Option (Text × List Row) → Text → Text → Option Text → Type 0
HasChoice found command option None = gives option found ≡ false
HasChoice found command option (Some text) = HasGiven found command option text

-- the same of `--config`
abbrev pub HasFile : Option (Text × List Row) → Text → Text → Type 0
HasFile found command file = HasGiven found command (codes "config") file

-- the words give the file that keeps the stored pages, or none
abbrev pub HasFlash : Option (Text × List Row) → Text → Option Text → Type 0
HasFlash found command flash = HasChoice found command (codes "flash") flash

-- a subcommand with its rows is a replay with this configuration file, and this file of stored pages
pub record IsReplay (found : Option (Text × List Row)) (file : Text) (stored : Option Text) : Type 0 where
  pub config : HasFile found (codes "replay") file
  pub flash : HasFlash found (codes "replay") stored

-- an option of a subcommand has a text of decimal digits (a plus may stand before them), and this is their number
pub record SpellsIn (found : Option (Text × List Row)) (command option : Text) (n : ℕ) : Type 0 where
  pub text : Text
  pub value : HasText found command option text
  pub digits : IsNumeral 10 (without_leading_plus text)
  pub number : n ≡ digits_value 10 (without_leading_plus text)

-- the same, in the option's bounds; where the words don't give the option, the text is its default (an option with none is given)
pub record HasNumberIn (found : Option (Text × List Row)) (command : Text) (o : Numeric) (n : ℕ) : Type 0 where
  pub spelt : SpellsIn found command o.name n
  pub least : o.least ≤ n
  pub most : n ≤ o.most
  pub otherwise : gives o.name found ≡ false → o.default ≡ Some spelt.text

-- the same of an option of `serve`
abbrev pub Spells : Option (Text × List Row) → Text → ℕ → Type 0
Spells found option n = SpellsIn found (codes "serve") option n

abbrev pub HasNumber : Option (Text × List Row) → Numeric → ℕ → Type 0
HasNumber found o n = HasNumberIn found (codes "serve") o n

-- `--host` of a subcommand has this text; where the words don't give it, that is its default
pub record HasHost (found : Option (Text × List Row)) (command host : Text) : Type 0 where
  pub text : HasText found command (codes "host") host
  pub otherwise : gives (codes "host") found ≡ false → host ≡ host_default

-- the words give the flag `--stay`
abbrev pub Stays : Option (Text × List Row) → Type 0
Stays found = gives (codes "stay") found ≡ true

-- The most tools that a server may have by the words: one with the flag `--udp`, else two without `--stay`, else as many as the option has.
abbrev pub most_tools : Option (Text × List Row) → ℕ
most_tools found = if gives (codes "udp") found then one else (if gives (codes "stay") found then tools.most else few)

-- the words give the file of a server's journal, or none
abbrev pub HasJournal : Option (Text × List Row) → Option Text → Type 0
HasJournal found journal = HasChoice found (codes "serve") (codes "journal") journal

-- the words give an option that only a server that stays has
abbrev pub gives_to_stay : Option (Text × List Row) → Bool
gives_to_stay found = gives patience.name found || (gives queue.name found || (gives idle.name found || (gives cut_every.name found || (gives (codes "no-stdin") found || gives (codes "udp") found))))

-- they don't ask that a journal is cut that is written to no file
abbrev pub CutsAJournal : Option (Text × List Row) → Type 0
CutsAJournal found = (gives cut_every.name found ≡ false) ⊎ (gives (codes "journal") found ≡ true)

-- The journal's file is that of the stored pages, or one that is written beside it: the new pages before they take the place of the old
-- ones, or what says that a server keeps them.
abbrev pub IsOneFile : Text → Text → Type 0
IsOneFile journal flash = (journal ≡ flash) ⊎ (journal ≡ flash ++ codes ".new") ⊎ (journal ≡ flash ++ codes ".lock")

-- the words give a server's two files, and name one file twice
pub record GivesOneFile (found : Option (Text × List Row)) : Type 0 where
  pub written : Text
  pub stored : Text
  pub journal : HasJournal found (Some written)
  pub flash : HasFlash found (codes "serve") (Some stored)
  pub same : IsOneFile written stored

-- a subcommand with its rows is a server that ends, with this configuration file, this host, these numbers, this file for its journal, this
-- one for the stored pages, and with or without the flag `--pace`
pub record IsServe (found : Option (Text × List Row)) (file address : Text) (p t k n m ms : ℕ) (written stored : Option Text) (paced : Bool) : Type 0 where
  pub config : HasFile found (codes "serve") file
  pub host : HasHost found (codes "serve") address
  pub port : HasNumber found port p
  pub tools : HasNumber found tools t
  pub few : t ≤ few
  pub tasks : HasNumber found tasks k
  pub cycles : HasNumber found cycles n
  pub chapter : HasNumber found chapter m
  pub period : HasNumber found period ms
  pub journal : HasJournal found written
  pub flash : HasFlash found (codes "serve") stored
  pub pace : gives (codes "pace") found ≡ paced
  pub ends : ¬ (Stays found)
  -- the words give no option that only a server that stays has
  pub others : gives_to_stay found ≡ false
  pub apart : ¬ (GivesOneFile found)

-- a subcommand with its rows is a server that stays, likewise, with or without the flags `--no-stdin` and `--udp`
pub record IsStay (found : Option (Text × List Row)) (file address : Text) (p t k ms s q i c : ℕ) (unread : Bool) (written stored : Option Text) (paced over_udp : Bool) : Type 0 where
  pub config : HasFile found (codes "serve") file
  pub host : HasHost found (codes "serve") address
  pub port : HasNumber found port p
  pub tools : HasNumber found tools t
  pub alone : over_udp ≡ true → t ≤ one
  pub tasks : HasNumber found tasks k
  pub period : HasNumber found period ms
  pub patience : HasNumber found patience s
  pub queue : HasNumber found queue q
  pub idle : HasNumber found idle i
  pub cut_every : HasNumber found cut_every c
  pub no_stdin : gives (codes "no-stdin") found ≡ unread
  pub journal : HasJournal found written
  pub flash : HasFlash found (codes "serve") stored
  pub pace : gives (codes "pace") found ≡ paced
  pub udp : gives (codes "udp") found ≡ over_udp
  pub stays : Stays found
  -- the words give no option that only a server that ends has
  pub others : (gives cycles.name found ≡ false) × (gives chapter.name found ≡ false)
  pub cuts : CutsAJournal found
  pub apart : ¬ (GivesOneFile found)

-- Why words in which clap finds no fault are refused: five records, of which no two hold, in the order in which the program looks.

-- a subcommand with its rows is a server, with more tools than it may have
pub record AsksTooMany (found : Option (Text × List Row)) : Type 0 where
  pub number : ℕ
  pub tools : HasNumber found tools number
  pub many : most_tools found < number

-- a subcommand with its rows is a server, with no more tools than it may have
pub record AsksFew (found : Option (Text × List Row)) : Type 0 where
  pub number : ℕ
  pub tools : HasNumber found tools number
  pub few : number ≤ most_tools found

-- a subcommand with its rows is a server that ends, with few tools and an option that only a server that stays has
pub record AsksToStay (found : Option (Text × List Row)) : Type 0 where
  pub few : AsksFew found
  pub ends : ¬ (Stays found)
  pub given : gives_to_stay found ≡ true

-- a subcommand with its rows is a server that stays, with few tools and an option that only a server that ends has
pub record AsksToEnd (found : Option (Text × List Row)) : Type 0 where
  pub few : AsksFew found
  pub stays : Stays found
  pub given : (gives cycles.name found ≡ true) ⊎ (gives chapter.name found ≡ true)

-- a subcommand with its rows is a server that stays, with few tools and no such option, but with `--cut-every` and no file for its journal
pub record AsksToCut (found : Option (Text × List Row)) : Type 0 where
  pub few : AsksFew found
  pub stays : Stays found
  pub others : (gives cycles.name found ≡ false) × (gives chapter.name found ≡ false)
  pub given : gives cut_every.name found ≡ true
  pub journal : gives (codes "journal") found ≡ false

-- a subcommand with its rows is a server that ends, and is refused for none of these
pub record EndsWell (found : Option (Text × List Row)) : Type 0 where
  pub few : AsksFew found
  pub ends : ¬ (Stays found)
  pub others : gives_to_stay found ≡ false

-- a subcommand with its rows is a server that stays, likewise
pub record StaysWell (found : Option (Text × List Row)) : Type 0 where
  pub few : AsksFew found
  pub stays : Stays found
  pub others : (gives cycles.name found ≡ false) × (gives chapter.name found ≡ false)
  pub cuts : CutsAJournal found

-- a subcommand with its rows is a server that is refused for none of these, but for one file that is named twice
pub record AsksForOneFile (found : Option (Text × List Row)) : Type 0 where
  pub fits : EndsWell found ⊎ StaysWell found
  pub one : GivesOneFile found

-- words in which clap finds no fault are refused for this
abbrev pub IsRefusedFor : Option (Text × List Row) → OptionsFault → Type 0
IsRefusedFor found Memory = ⊥
IsRefusedFor found (Words e) = ⊥
IsRefusedFor found TooManyTools = AsksTooMany found
IsRefusedFor found NotForStay = AsksToEnd found
IsRefusedFor found OnlyForStay = AsksToStay found
IsRefusedFor found OnlyForJournal = AsksToCut found
IsRefusedFor found OneFile = AsksForOneFile found

-- a subcommand with its rows is a description by this configuration file, for this host and port, with or without the flags `--check` and
-- `--udp`
pub record IsDescription (found : Option (Text × List Row)) (file address : Text) (p : ℕ) (checked over_udp : Bool) : Type 0 where
  pub config : HasFile found (codes "describe") file
  pub host : HasHost found (codes "describe") address
  pub port : HasNumberIn found (codes "describe") named_port p
  pub flag : gives (codes "check") found ≡ checked
  pub udp : gives (codes "udp") found ≡ over_udp

-- a subcommand with its rows is an audit of this journal by this configuration file and this file of stored pages, with or without the
-- flag `--lines`
pub record IsAudit (found : Option (Text × List Row)) (file word : Text) (stored : Option Text) (lines : Bool) : Type 0 where
  pub config : HasFile found (codes "audit") file
  pub journal : HasGiven found (codes "audit") (codes "file") word
  pub flash : HasFlash found (codes "audit") stored
  pub flag : gives (codes "lines") found ≡ lines

-- what a subcommand with its rows asks for
abbrev pub Asks : Option (Text × List Row) → Options → Type 0
Asks found (Replay config flash) = IsReplay found (string_bytes config) (option_map string_bytes flash)
Asks found (Serve config host p t k n m ms journal flash pace) = IsServe found (string_bytes config) (string_bytes host) p t k n m ms (option_map string_bytes journal) (option_map string_bytes flash) pace
Asks found (Stay config host p t k ms s q i c unread journal flash pace udp) = IsStay found (string_bytes config) (string_bytes host) p t k ms s q i c unread (option_map string_bytes journal) (option_map string_bytes flash) pace udp
Asks found (Describe config host p check udp) = IsDescription found (string_bytes config) (string_bytes host) p check udp
Asks found (Audit config file flash lines) = IsAudit found (string_bytes config) (string_bytes file) (option_map string_bytes flash) lines

-- each number is in its option's bounds, and the tools of a server that ends are few, and one at most over UDP
abbrev pub InRange : Options → Type 0
InRange (Replay config flash) = ⊤
InRange (Serve config host p t k n m ms journal flash pace) = (port.least ≤ p) × (p ≤ port.most) × (tools.least ≤ t) × (t ≤ few) × (tasks.least ≤ k) × (k ≤ tasks.most) × (cycles.least ≤ n) × (n ≤ cycles.most)
    × (chapter.least ≤ m) × (m ≤ chapter.most) × (period.least ≤ ms) × (ms ≤ period.most)
InRange (Stay config host p t k ms s q i c unread journal flash pace udp) = (port.least ≤ p) × (p ≤ port.most) × (tools.least ≤ t) × (t ≤ tools.most) × (tasks.least ≤ k) × (k ≤ tasks.most) × (period.least ≤ ms) × (ms ≤ period.most)
    × (patience.least ≤ s) × (s ≤ patience.most) × (queue.least ≤ q) × (q ≤ queue.most) × (idle.least ≤ i) × (i ≤ idle.most) × (cut_every.least ≤ c) × (c ≤ cut_every.most)
    × (udp ≡ true → t ≤ one)
InRange (Describe config host p check udp) = (named_port.least ≤ p) × (p ≤ named_port.most)
InRange (Audit config file flash lines) = ⊤

-- the files of the journal and of the stored pages that are asked for are two, and the journal's is none that is written beside the other
abbrev pub HasTwoFiles : Options → Type 0
HasTwoFiles (Serve config host p t k n m ms (Some journal) (Some flash) pace) = ¬ (IsOneFile (string_bytes journal) (string_bytes flash))
HasTwoFiles (Stay config host p t k ms s q i c unread (Some journal) (Some flash) pace udp) = ¬ (IsOneFile (string_bytes journal) (string_bytes flash))
HasTwoFiles _ = ⊤

-- Why the words ask for nothing, by the kinds of error of the first fault that clap finds in them (a wish for help is one), and by the
-- subcommand that they name, with its rows: the error has one of these kinds; or clap finds no fault, and the tools are too many, an option
-- doesn't apply, or one file is named twice. Memory: an allocation may fail at any place.
abbrev pub IsMistake : Kinds → Option (Text × List Row) → OptionsFault → Type 0
IsMistake kinds found Memory = Unit {0}
IsMistake kinds found (Words e) = IsAmong (kind_of e) kinds
IsMistake kinds found TooManyTools = (kinds ≡ []) × AsksTooMany found
IsMistake kinds found NotForStay = (kinds ≡ []) × AsksToEnd found
IsMistake kinds found OnlyForStay = (kinds ≡ []) × AsksToStay found
IsMistake kinds found OnlyForJournal = (kinds ≡ []) × AsksToCut found
IsMistake kinds found OneFile = (kinds ≡ []) × AsksForOneFile found

-- the number of a fault of the words
abbrev pub number_of : OptionsFault → ℕ
number_of Memory = 1
number_of (Words e) = 2
number_of TooManyTools = 3
number_of NotForStay = 4
number_of OnlyForStay = 5
number_of OnlyForJournal = 6
number_of OneFile = 7

-- what `options` answers, as the program tells it
abbrev pub unasked_of : OptionsFault → Unasked
unasked_of Memory = unasked.Memory
unasked_of (Words e) = unasked.Words e
unasked_of TooManyTools = unasked.TooManyTools
unasked_of NotForStay = unasked.NotForStay
unasked_of OnlyForStay = unasked.OnlyForStay
unasked_of OnlyForJournal = unasked.OnlyForJournal
unasked_of OneFile = unasked.OneFile

-- Why words that the system gave ask for nothing, as the program tells it, by the same kinds and rows: NoText is no fault of such words.
abbrev pub IsUnaskedFor : Kinds → Option (Text × List Row) → Unasked → Type 0
IsUnaskedFor kinds found unasked.Memory = ⊤
IsUnaskedFor kinds found unasked.NoText = ⊥
IsUnaskedFor kinds found (unasked.Words e) = IsMistake kinds found (Words e)
IsUnaskedFor kinds found unasked.TooManyTools = IsMistake kinds found TooManyTools
IsUnaskedFor kinds found unasked.NotForStay = IsMistake kinds found NotForStay
IsUnaskedFor kinds found unasked.OnlyForStay = IsMistake kinds found OnlyForStay
IsUnaskedFor kinds found unasked.OnlyForJournal = IsMistake kinds found OnlyForJournal
IsUnaskedFor kinds found unasked.OneFile = IsMistake kinds found OneFile

-- clap's error is a wish, for help or for the version, and no mistake
abbrev pub IsWish : Error → Type 0
IsWish e = (kind_of e ≡ DisplayHelp) ⊎ (kind_of e ≡ DisplayVersion)

-- the status with which the program ends where it is asked nothing: 0 after a wish, 1 where the words are wrong, 4 where an allocation failed
abbrev pub EndsWith : Unasked → ℕ → Type 0
EndsWith unasked.Memory n = n ≡ 4
EndsWith unasked.NoText n = n ≡ 1
EndsWith unasked.TooManyTools n = n ≡ 1
EndsWith unasked.NotForStay n = n ≡ 1
EndsWith unasked.OnlyForStay n = n ≡ 1
EndsWith unasked.OnlyForJournal n = n ≡ 1
EndsWith unasked.OneFile n = n ≡ 1
EndsWith (unasked.Words e) n = (IsWish e × (n ≡ 0)) ⊎ ((¬ (IsWish e)) × (n ≡ 1))

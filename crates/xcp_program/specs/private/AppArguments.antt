-- What the four commands of the program ask for.
use Rattle.std.specs.Prelude.{◌≡◌, ◌⊎◌, ℕ, List, Option, codes, true, false}
use Rattle.clap.specs.Words.{App, Row, Text, new_app, with_rule, with_subcommand}
use Rattle.xcp_program.specs.declared.purpose.OptionsFault.{OptionsFault}
use Rattle.xcp_program.specs.declared.purpose.OptionsFault.TheVariants.{Memory, NotForStay, OneFile, OnlyForJournal, OnlyForStay, TooManyTools, Words}
use Rattle.xcp_program.specs.CommandLine.{AsksForOneFile, AsksToCut, AsksToEnd, AsksToStay, AsksTooMany, HasFile, HasGiven, HasHost, HasNumber, HasNumberIn, HasText, gives}
use Rattle.xcp_program.specs.CommandLine.{chapter, choice_rule, config_rule, cut_every, cycles, flag_rule, host_rule, idle, named_port, numeric_rule, patience, period, port, queue, replay_app, serve_app, tasks, tools, with_a_subcommand_wanted, with_a_version}

-- `serve` with the first four of its options
abbrev pub placed_app : App
placed_app = with_rule (with_rule (with_rule (with_rule (new_app (codes "serve")) config_rule) (numeric_rule port)) host_rule) (flag_rule (codes "stay"))

-- `serve` with the four after these
abbrev pub counted_app : App
counted_app = with_rule (with_rule (with_rule (with_rule placed_app (numeric_rule tools)) (numeric_rule tasks)) (numeric_rule cycles)) (numeric_rule chapter)

-- `serve` with the five after these: what only a server that stays has stands behind them, but for its patience
abbrev pub kept_app : App
kept_app = with_rule (with_rule (with_rule (with_rule (with_rule counted_app (numeric_rule period)) (numeric_rule patience)) (choice_rule (codes "journal"))) (choice_rule (codes "flash"))) (flag_rule (codes "pace"))

-- the program with its first two subcommands
abbrev pub front_app : App
front_app = with_subcommand (with_subcommand (with_a_subcommand_wanted (with_a_version (new_app (codes "xcpd")))) replay_app.top) serve_app.top

-- the text of a subcommand's flag says whether the words give it
abbrev pub HasFlag : Option (Text × List Row) → Text → Text → Type 0
HasFlag found command flag = (HasText found command flag (codes "true") × (gives flag found ≡ true)) ⊎ (HasText found command flag (codes "false") × (gives flag found ≡ false))

-- an option that needn't be given: it has its text, or the words don't give it and it has none
abbrev pub IsChosen : Option (Text × List Row) → Text → Text → Type 0
IsChosen found command option = ((text : Text) × HasGiven found command option text) ⊎ ((gives option found ≡ false) × ((text : Text) → ¬ (HasText found command option text)))

-- it is a replay: its options, each with its text
pub record AsksReplay (found : Option (Text × List Row)) : Type 0 where
  pub file : Text
  pub config : HasFile found (codes "replay") file
  pub flash : IsChosen found (codes "replay") (codes "flash")

-- it is a server: all its options, each with its text or number
pub record AsksServe (found : Option (Text × List Row)) : Type 0 where
  pub file : Text
  pub address : Text
  pub p : ℕ
  pub t : ℕ
  pub k : ℕ
  pub n : ℕ
  pub m : ℕ
  pub ms : ℕ
  pub s : ℕ
  pub q : ℕ
  pub i : ℕ
  pub c : ℕ
  pub config : HasFile found (codes "serve") file
  pub host : HasHost found (codes "serve") address
  pub stay : HasFlag found (codes "serve") (codes "stay")
  pub port : HasNumber found port p
  pub tools : HasNumber found tools t
  pub tasks : HasNumber found tasks k
  pub cycles : HasNumber found cycles n
  pub chapter : HasNumber found chapter m
  pub period : HasNumber found period ms
  pub patience : HasNumber found patience s
  pub queue : HasNumber found queue q
  pub idle : HasNumber found idle i
  pub cut_every : HasNumber found cut_every c
  pub journal : IsChosen found (codes "serve") (codes "journal")
  pub flash : IsChosen found (codes "serve") (codes "flash")
  pub pace : HasFlag found (codes "serve") (codes "pace")
  pub no_stdin : HasFlag found (codes "serve") (codes "no-stdin")
  pub udp : HasFlag found (codes "serve") (codes "udp")

-- it is an audit: its options, its file and its flag, each with its text
pub record AsksAudit (found : Option (Text × List Row)) : Type 0 where
  pub file : Text
  pub journal : Text
  pub config : HasFile found (codes "audit") file
  pub place : HasGiven found (codes "audit") (codes "file") journal
  pub flash : IsChosen found (codes "audit") (codes "flash")
  pub lines : HasFlag found (codes "audit") (codes "lines")

-- it is a description: its options, each with its text or number
pub record AsksDescription (found : Option (Text × List Row)) : Type 0 where
  pub file : Text
  pub address : Text
  pub p : ℕ
  pub config : HasFile found (codes "describe") file
  pub host : HasHost found (codes "describe") address
  pub port : HasNumberIn found (codes "describe") named_port p
  pub check : HasFlag found (codes "describe") (codes "check")
  pub udp : HasFlag found (codes "describe") (codes "udp")

-- it is a replay or a server, and it is one of the four
abbrev pub AsksRun : Option (Text × List Row) → Type 0
AsksRun found = AsksReplay found ⊎ AsksServe found

abbrev pub AsksSomething : Option (Text × List Row) → Type 0
AsksSomething found = AsksRun found ⊎ (AsksDescription found ⊎ AsksAudit found)

-- why words in which clap finds no fault ask for nothing
abbrev pub IsAskedRefusal : Option (Text × List Row) → OptionsFault → Type 0
IsAskedRefusal found Memory = Unit {0}
IsAskedRefusal found (Words e) = ⊥
IsAskedRefusal found TooManyTools = AsksTooMany found
IsAskedRefusal found NotForStay = AsksToEnd found
IsAskedRefusal found OnlyForStay = AsksToStay found
IsAskedRefusal found OnlyForJournal = AsksToCut found
IsAskedRefusal found OneFile = AsksForOneFile found

use Rattle.std.proofs.Common.{◌≡◌, ◌⊎◌, refl, inl, inr, List, [], map, Option, Result, Ok, Err, IfOk, IfErr, ◌∙◌, ap, sym, subst, string_bytes}
use Rattle.std.proofs.lemmas.Result.{IfErr-weaker, IfOk-weaker}
use Rattle.clap.specs.Words.{App, HasKind, Kinds, Row, Text, fault_of, kind_of, is_simple, is_simple_and_free, subcommand_of, subcommand_rows_of, takes}
use Rattle.clap.specs.declared.error.Error.{Error}
use Rattle.clap.specs.declared.error.kind.ErrorKind.TheVariants.{OutOfMemory}
use Rattle.xcp_program.specs.CommandLine.{Asks, AsksForOneFile, AsksToCut, AsksToEnd, AsksToStay, AsksTooMany, IsMistake, IsRefusedFor, program}
use Rattle.xcp_program.specs.private.AppArguments.{AsksSomething, IsAskedRefusal}
use Rattle.xcp_program.specs.declared.purpose.Options.{Options}
use Rattle.xcp_program.specs.declared.purpose.OptionsFault.{OptionsFault}
use Rattle.xcp_program.specs.declared.purpose.OptionsFault.TheVariants.{Memory, NotForStay, OneFile, OnlyForJournal, OnlyForStay, TooManyTools, Words}
use Rattle.xcp_program.proofs.CommandLineLemmas.{files_apart, not_too_many}
use Rattle.xcp_program.proofs.NoFaultLemmas.{words_ask}
use Rattle.xcp_program.proofs.RefusalLemmas.{told}
use Rattle.xcp_program.proofs.command_line.options.Goals as goal

-- what holds anyway holds of an Ok
of_ok : {A : Type 0} (r : Result Options OptionsFault) → A → IfOk r (λ o. A)
of_ok (Ok o) a = a
of_ok (Err e) a = tt

-- what the words name asks for something, and so do the matches
of_matches : (found named : Option (Text × List Row)) → found ≡ named → AsksSomething named → AsksSomething found
of_matches found named same r = subst AsksSomething (sym same) r

-- and what the matches ask for, the words do
of_words : (found named : Option (Text × List Row)) (r : Result Options OptionsFault) → found ≡ named → IfOk r (λ o. Asks found o) → IfOk r (λ o. Asks named o)
of_words found named r same h = subst (λ (f : Option (Text × List Row)). IfOk r (λ o. Asks f o)) same h

-- clap's error says that memory ran out, or is a mistake
of_error : (kinds : Kinds) (found : Option (Text × List Row)) (e : Error) (f : OptionsFault) → HasKind kinds e → (kind_of e ≡ OutOfMemory → f ≡ Memory) → (f ≡ Memory) ⊎ (f ≡ Words e) → IsMistake kinds found f
of_error kinds found e f has memory which =
    let spent : f ≡ Memory → IsMistake kinds found f = λ same. subst (IsMistake kinds found) (sym same) tt in
    elim which [
      | inl same ↦ spent same
      | inr same ↦ elim has [
        | inl out ↦ spent (memory out)
        | inr among ↦ subst (IsMistake kinds found) (sym same) among
      ]
    ]

-- a refusal of words in which clap finds no fault is one of six
of_refusal : (found : Option (Text × List Row)) (f : OptionsFault) → IsAskedRefusal found f → (f ≡ Memory) ⊎ (f ≡ TooManyTools) ⊎ (f ≡ NotForStay) ⊎ (f ≡ OnlyForStay) ⊎ (f ≡ OnlyForJournal) ⊎ (f ≡ OneFile)
of_refusal found Memory h = inl refl
of_refusal found (Words e) h = absurd h
of_refusal found TooManyTools h = inr (inl refl)
of_refusal found NotForStay h = inr (inr (inl refl))
of_refusal found OnlyForStay h = inr (inr (inr (inl refl)))
of_refusal found OnlyForJournal h = inr (inr (inr (inr (inl refl))))
of_refusal found OneFile h = inr (inr (inr (inr (inr refl))))

-- and says why, of the rows that the words have
to_mistake : (found named : Option (Text × List Row)) (kinds : Kinds) → found ≡ named → kinds ≡ [] → (f : OptionsFault) → IsAskedRefusal found f → IsMistake kinds named f
to_mistake found named kinds same none Memory h = tt
to_mistake found named kinds same none (Words e) h = absurd h
to_mistake found named kinds same none TooManyTools h = (none, subst AsksTooMany same h)
to_mistake found named kinds same none NotForStay h = (none, subst AsksToEnd same h)
to_mistake found named kinds same none OnlyForStay h = (none, subst AsksToStay same h)
to_mistake found named kinds same none OnlyForJournal h = (none, subst AsksToCut same h)
to_mistake found named kinds same none OneFile h = (none, subst AsksForOneFile same h)

pub asked-requires : goal.asked-requires
asked-requires c =
    let words = map string_bytes c.args.words.now in
    let program_is = c.in_ok-command.ensures in
    let none : fault_of program words ≡ [] = sym (ap (λ (a : App). fault_of a words) program_is) ∙ c.in-Ok.ensures.kinds (ap is_simple_and_free program_is) in
    let same : subcommand_rows_of c.in-Ok.matches ≡ subcommand_of program words =
    (c.in-Ok.ensures.matches (ap is_simple program_is)).1 ∙ ap (λ (a : App). subcommand_of a words) program_is in
    of_matches _ _ same (words_ask words none)

pub returns-in-Ok-clause-asked : goal.returns-in-Ok-clause-asked
returns-in-Ok-clause-asked c =
    let words = map string_bytes c.args.words.now in
    let program_is = c.in_ok-command.ensures in
    let same : subcommand_rows_of c.in-Ok.matches ≡ subcommand_of program words =
    (c.in-Ok.ensures.matches (ap is_simple program_is)).1 ∙ ap (λ (a : App). subcommand_of a words) program_is in
    of_words _ _ c.asked.result same c.asked.ensures.asked

pub returns-in-Ok-clause-refused : goal.returns-in-Ok-clause-refused
returns-in-Ok-clause-refused c = IfErr-weaker c.asked.result _ _ (λ e h taken. of_refusal (subcommand_rows_of c.in-Ok.matches) e h) c.asked.ensures.refused

pub returns-in-Ok-clause-few : goal.returns-in-Ok-clause-few
returns-in-Ok-clause-few c =
    let named = subcommand_of program (map string_bytes c.args.words.now) in
    IfOk-weaker c.asked.result _ _ (λ o h. not_too_many named o h) (returns-in-Ok-clause-asked c)

pub returns-in-Ok-clause-apart : goal.returns-in-Ok-clause-apart
returns-in-Ok-clause-apart c =
    let named = subcommand_of program (map string_bytes c.args.words.now) in
    IfOk-weaker c.asked.result _ _ (λ o h. files_apart named o h) (returns-in-Ok-clause-asked c)

-- so do the words, whose rows are those of the matches
told_of : (found named : Option (Text × List Row)) (r : Result Options OptionsFault) → found ≡ named → IfOk r (λ o. Asks found o) → IfErr r (λ e. IsAskedRefusal found e) → (f : OptionsFault) → IsRefusedFor named f → (r ≡ Err f) ⊎ (r ≡ Err Memory)
told_of found named r same h k f because = told found r h k f (subst (λ (o : Option (Text × List Row)). IsRefusedFor o f) (sym same) because)

pub returns-in-Ok-clause-told : goal.returns-in-Ok-clause-told
returns-in-Ok-clause-told c =
    let words = map string_bytes c.args.words.now in
    let program_is = c.in_ok-command.ensures in
    let same : subcommand_rows_of c.in-Ok.matches ≡ subcommand_of program words =
    (c.in-Ok.ensures.matches (ap is_simple program_is)).1 ∙ ap (λ (a : App). subcommand_of a words) program_is in
    λ taken f because. told_of _ _ c.asked.result same c.asked.ensures.asked c.asked.ensures.refused f because

pub returns-in-Ok-clause-taken : goal.returns-in-Ok-clause-taken
returns-in-Ok-clause-taken c =
    let words = map string_bytes c.args.words.now in
    let program_is = c.in_ok-command.ensures in
    let none : fault_of program words ≡ [] = sym (ap (λ (a : App). fault_of a words) program_is) ∙ c.in-Ok.ensures.kinds (ap is_simple_and_free program_is) in
    of_ok c.asked.result none

pub returns-in-Ok-clause-mistake : goal.returns-in-Ok-clause-mistake
returns-in-Ok-clause-mistake c =
    let words = map string_bytes c.args.words.now in
    let program_is = c.in_ok-command.ensures in
    let none : fault_of program words ≡ [] = sym (ap (λ (a : App). fault_of a words) program_is) ∙ c.in-Ok.ensures.kinds (ap is_simple_and_free program_is) in
    let same : subcommand_rows_of c.in-Ok.matches ≡ subcommand_of program words =
    (c.in-Ok.ensures.matches (ap is_simple program_is)).1 ∙ ap (λ (a : App). subcommand_of a words) program_is in
    IfErr-weaker c.asked.result _ _ (λ e h. to_mistake _ _ _ same none e h) c.asked.ensures.refused

pub returns-in-Err-clause-mistake : goal.returns-in-Err-clause-mistake
returns-in-Err-clause-mistake c =
    let words = map string_bytes c.args.words.now in
    let program_is = c.in_ok-command.ensures in
    let has : HasKind (fault_of program words) c.in-Err.e =
    subst (λ (a : App). HasKind (fault_of a words) c.in-Err.e) program_is (c.in-Err.ensures.kinds (ap is_simple_and_free program_is)) in
    of_error (fault_of program words) _ c.in-Err.e c.fault_of.result has c.fault_of.ensures.memory c.fault_of.ensures.which

pub returns-in-Err-clause-refused : goal.returns-in-Err-clause-refused
returns-in-Err-clause-refused c =
    let words = map string_bytes c.args.words.now in
    λ taken. inl (c.fault_of.ensures.memory (c.in-Err.ensures.passes (ap (λ (a : App). takes a words) c.in_ok-command.ensures ∙ taken)))

pub returns-in-Err-clause-told : goal.returns-in-Err-clause-told
returns-in-Err-clause-told c =
    let words = map string_bytes c.args.words.now in
    λ taken f because. inr (ap Err (c.fault_of.ensures.memory (c.in-Err.ensures.passes (ap (λ (a : App). takes a words) c.in_ok-command.ensures ∙ taken))))

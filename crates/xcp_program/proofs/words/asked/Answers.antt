use Rattle.std.proofs.Common.{◌≡◌, ◌⊎◌, inl, inr, ◌∙◌, List, Result, Ok, Err, map, string_bytes, true, ap, sym, subst}
use Rattle.std.proofs.lemmas.Result.{err_from_is_err_and}
use Rattle.clap.specs.Words.{Text, subcommand_of, takes}
use Rattle.xcp_program.specs.CommandLine.{IsRefusedFor, program, unasked_of}
use Rattle.xcp_program.specs.declared.purpose.Options.{Options}
use Rattle.xcp_program.specs.declared.purpose.OptionsFault.{OptionsFault}
use Rattle.xcp_program.specs.declared.purpose.OptionsFault.TheVariants.{Memory, NotForStay, OneFile, OnlyForJournal, OnlyForStay, TooManyTools}
use Rattle.xcp_program.specs.declared.words.Unasked.{Unasked}
use Rattle.xcp_program.specs.declared.words.Unasked.TheVariants as unasked
use Rattle.xcp_program.proofs.words.asked.Goals as goal

-- a fault of words that clap takes, and how it is told
abbrev IsRefusal : OptionsFault → Type 0
IsRefusal f = (f ≡ Memory) ⊎ (f ≡ TooManyTools) ⊎ (f ≡ NotForStay) ⊎ (f ≡ OnlyForStay) ⊎ (f ≡ OnlyForJournal) ⊎ (f ≡ OneFile)

abbrev IsTold : Unasked → Type 0
IsTold e = (e ≡ unasked.Memory) ⊎ (e ≡ unasked.TooManyTools) ⊎ (e ≡ unasked.NotForStay) ⊎ (e ≡ unasked.OnlyForStay) ⊎ (e ≡ unasked.OnlyForJournal) ⊎ (e ≡ unasked.OneFile)

-- where clap takes the words that were seen, which are those that were given, the fault is one of six
spent : (seen given : List Text) (fault : OptionsFault) → seen ≡ given → (takes program seen ≡ true → IsRefusal fault) → takes program given ≡ true → IsTold (unasked_of fault)
spent seen given fault same one_of_six taken = elim (one_of_six (subst (λ words. takes program words ≡ true) (sym same) taken)) [
  | inl memory ↦ inl (ap unasked_of memory)
  | inr (inl many) ↦ inr (inl (ap unasked_of many))
  | inr (inr (inl ends)) ↦ inr (inr (inl (ap unasked_of ends)))
  | inr (inr (inr (inl stays))) ↦ inr (inr (inr (inl (ap unasked_of stays))))
  | inr (inr (inr (inr (inl cuts)))) ↦ inr (inr (inr (inr (inl (ap unasked_of cuts)))))
  | inr (inr (inr (inr (inr one)))) ↦ inr (inr (inr (inr (inr (ap unasked_of one)))))
]

-- and the same of the error that is told
told : (e u : Unasked) → e ≡ u → IsTold u → IsTold e
told e u same one_of_six = subst IsTold (sym same) one_of_six

-- what is asked for isn't refused
never : (seen given : List Text) (r : Result Options OptionsFault) (o : Options) → seen ≡ given → r ≡ Ok o → (takes program seen ≡ true → (f : OptionsFault) → IsRefusedFor (subcommand_of program seen) f → (r ≡ Err f) ⊎ (r ≡ Err Memory))
    → takes program given ≡ true → (f : OptionsFault) → IsRefusedFor (subcommand_of program given) f → ⊥
never seen given r o same was told taken f because =
    elim (told (subst (λ words. takes program words ≡ true) (sym same) taken) f (subst (λ words. IsRefusedFor (subcommand_of program words) f) (sym same) because)) [
      | inl e ↦ ok_is_no_err o f (sym was ∙ e)
      | inr e ↦ ok_is_no_err o Memory (sym was ∙ e)
    ]
  where
    ok_is_no_err : (o : Options) (f : OptionsFault) → Ok o ≡ Err f → ⊥
    ok_is_no_err o f e = cc

pub returns-in_ok-options-in-Ok-clause-told : goal.returns-in_ok-options-in-Ok-clause-told
returns-in_ok-options-in-Ok-clause-told c =
    let same = ap (λ words. map string_bytes words) c.as_slice.ensures.value in
    rw c.in-Ok.is (λ taken f because. absurd (never _ _ _ _ same (c.in_ok-options-in-Ok.was {u = tt}) c.options.ensures.told taken f because))

pub returns-in_err-options-in-Ok-clause-refused : goal.returns-in_err-options-in-Ok-clause-refused
returns-in_err-options-in-Ok-clause-refused c =
    let r = c.from_residual in
    let p = err_from_is_err_and r.result r.ensures.1 in
    let same = ap (λ words. map string_bytes words) c.as_slice.ensures.value in
    rw (p.1, c.in-Ok.is) (λ taken. told _ _ p.2 (spent _ _ _ same c.in_err-options-in-Ok.ensures.refused taken))

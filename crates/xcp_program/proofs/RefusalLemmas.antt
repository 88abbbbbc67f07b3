-- Words in which clap finds no fault are refused for one reason at most, and what is asked for is refused for none.
use Rattle.std.proofs.Common.{◌≡◌, ◌⊎◌, inl, inr, Bool, true, false, true≢false, codes, List, Option, Result, Ok, Err, IfOk, IfErr, refl, sym, ◌∙◌, ap}
use Rattle.clap.specs.Words.{Row, Text}
use Rattle.xcp_program.specs.CommandLine.{Asks, AsksFew, AsksForOneFile, AsksToCut, AsksToEnd, AsksToStay, AsksTooMany, CutsAJournal, IsRefusedFor, chapter, cycles, gives}
use Rattle.xcp_program.specs.private.AppArguments.{IsAskedRefusal}
use Rattle.xcp_program.specs.declared.purpose.Options.{Options}
use Rattle.xcp_program.specs.declared.purpose.Options.TheVariants.{Audit, Describe, Replay, Serve, Stay}
use Rattle.xcp_program.specs.declared.purpose.OptionsFault.{OptionsFault}
use Rattle.xcp_program.specs.declared.purpose.OptionsFault.TheVariants.{Memory, NotForStay, OneFile, OnlyForJournal, OnlyForStay, TooManyTools, Words}
use Rattle.xcp_program.proofs.CommandLineLemmas.{files_apart, named_apart, no_audit, no_description, no_replay, not_above, not_too_many}

-- a text is given or isn't
both : {b : Bool} → b ≡ true → b ≡ false → ⊥
both is isnt = true≢false (sym is ∙ isnt)

-- ---- one reason at most

module _ (found : Option (Text × List Row)) where
  many_few : AsksTooMany found → AsksFew found → ⊥
  many_few a b = not_above found b.number b.tools.spelt b.few a

  many_one : AsksTooMany found → AsksForOneFile found → ⊥
  many_one a b = elim b.fits [
    | inl ends ↦ many_few a ends.few
    | inr stays ↦ many_few a stays.few
  ]

  -- no option that only a server that ends has, and one
  others_end : (gives cycles.name found ≡ false) × (gives chapter.name found ≡ false) → AsksToEnd found → ⊥
  others_end none a = elim a.given [
    | inl one ↦ both one none.0
    | inr one ↦ both one none.1
  ]

  end_one : AsksToEnd found → AsksForOneFile found → ⊥
  end_one a b = elim b.fits [
    | inl ends ↦ ends.ends a.stays
    | inr stays ↦ others_end stays.others a
  ]

  stay_one : AsksToStay found → AsksForOneFile found → ⊥
  stay_one a b = elim b.fits [
    | inl ends ↦ both a.given ends.others
    | inr stays ↦ a.ends stays.stays
  ]

  -- a journal is cut that is written, and one that isn't
  cuts_cut : CutsAJournal found → AsksToCut found → ⊥
  cuts_cut cuts a = elim cuts [
    | inl none ↦ both a.given none
    | inr journal ↦ both journal a.journal
  ]

  cut_one : AsksToCut found → AsksForOneFile found → ⊥
  cut_one a b = elim b.fits [
    | inl ends ↦ ends.ends a.stays
    | inr stays ↦ cuts_cut stays.cuts a
  ]

  one_refusal : (e f : OptionsFault) → IsAskedRefusal found e → IsRefusedFor found f → (e ≡ f) ⊎ (e ≡ Memory)
  one_refusal e Memory h k = absurd k
  one_refusal e (Words w) h k = absurd k
  one_refusal Memory f h k = inr refl
  one_refusal (Words w) f h k = absurd h
  one_refusal TooManyTools TooManyTools h k = inl refl
  one_refusal TooManyTools NotForStay h k = absurd (many_few h k.few)
  one_refusal TooManyTools OnlyForStay h k = absurd (many_few h k.few)
  one_refusal TooManyTools OnlyForJournal h k = absurd (many_few h k.few)
  one_refusal TooManyTools OneFile h k = absurd (many_one h k)
  one_refusal NotForStay TooManyTools h k = absurd (many_few k h.few)
  one_refusal NotForStay NotForStay h k = inl refl
  one_refusal NotForStay OnlyForStay h k = absurd (k.ends h.stays)
  one_refusal NotForStay OnlyForJournal h k = absurd (others_end k.others h)
  one_refusal NotForStay OneFile h k = absurd (end_one h k)
  one_refusal OnlyForStay TooManyTools h k = absurd (many_few k h.few)
  one_refusal OnlyForStay NotForStay h k = absurd (h.ends k.stays)
  one_refusal OnlyForStay OnlyForStay h k = inl refl
  one_refusal OnlyForStay OnlyForJournal h k = absurd (h.ends k.stays)
  one_refusal OnlyForStay OneFile h k = absurd (stay_one h k)
  one_refusal OnlyForJournal TooManyTools h k = absurd (many_few k h.few)
  one_refusal OnlyForJournal NotForStay h k = absurd (others_end h.others k)
  one_refusal OnlyForJournal OnlyForStay h k = absurd (k.ends h.stays)
  one_refusal OnlyForJournal OnlyForJournal h k = inl refl
  one_refusal OnlyForJournal OneFile h k = absurd (cut_one h k)
  one_refusal OneFile TooManyTools h k = absurd (many_one k h)
  one_refusal OneFile NotForStay h k = absurd (end_one k h)
  one_refusal OneFile OnlyForStay h k = absurd (stay_one k h)
  one_refusal OneFile OnlyForJournal h k = absurd (cut_one k h)
  one_refusal OneFile OneFile h k = inl refl

  -- ---- none of what is asked for

  -- a server is no other subcommand
  not_end : (o : Options) → Asks found o → AsksToEnd found → ⊥
  not_end (Replay config flash) h a = named_apart (codes "replay") (codes "serve") found h.config.text.name a.few.tools.spelt.value.name no_replay
  not_end (Serve config host p t k n m ms journal flash pace) h a = h.ends a.stays
  not_end (Stay config host p t k ms s q i c unread journal flash pace udp) h a = others_end h.others a
  not_end (Describe config host p check udp) h a = named_apart (codes "describe") (codes "serve") found h.config.text.name a.few.tools.spelt.value.name no_description
  not_end (Audit config file flash lines) h a = named_apart (codes "audit") (codes "serve") found h.config.text.name a.few.tools.spelt.value.name no_audit

  not_stay : (o : Options) → Asks found o → AsksToStay found → ⊥
  not_stay (Replay config flash) h a = named_apart (codes "replay") (codes "serve") found h.config.text.name a.few.tools.spelt.value.name no_replay
  not_stay (Serve config host p t k n m ms journal flash pace) h a = both a.given h.others
  not_stay (Stay config host p t k ms s q i c unread journal flash pace udp) h a = a.ends h.stays
  not_stay (Describe config host p check udp) h a = named_apart (codes "describe") (codes "serve") found h.config.text.name a.few.tools.spelt.value.name no_description
  not_stay (Audit config file flash lines) h a = named_apart (codes "audit") (codes "serve") found h.config.text.name a.few.tools.spelt.value.name no_audit

  not_cut : (o : Options) → Asks found o → AsksToCut found → ⊥
  not_cut (Replay config flash) h a = named_apart (codes "replay") (codes "serve") found h.config.text.name a.few.tools.spelt.value.name no_replay
  not_cut (Serve config host p t k n m ms journal flash pace) h a = h.ends a.stays
  not_cut (Stay config host p t k ms s q i c unread journal flash pace udp) h a = cuts_cut h.cuts a
  not_cut (Describe config host p check udp) h a = named_apart (codes "describe") (codes "serve") found h.config.text.name a.few.tools.spelt.value.name no_description
  not_cut (Audit config file flash lines) h a = named_apart (codes "audit") (codes "serve") found h.config.text.name a.few.tools.spelt.value.name no_audit

  unrefused : (o : Options) (f : OptionsFault) → Asks found o → IsRefusedFor found f → ⊥
  unrefused o Memory h k = k
  unrefused o (Words e) h k = k
  unrefused o TooManyTools h k = not_too_many found o h k
  unrefused o NotForStay h k = not_end o h k
  unrefused o OnlyForStay h k = not_stay o h k
  unrefused o OnlyForJournal h k = not_cut o h k
  unrefused o OneFile h k = (files_apart found o h).1 k.one

  -- so a fault comes where the words are refused for it, but for want of memory
  pub told : (r : Result Options OptionsFault) → IfOk r (λ o. Asks found o) → IfErr r (λ e. IsAskedRefusal found e) → (f : OptionsFault) → IsRefusedFor found f → (r ≡ Err f) ⊎ (r ≡ Err Memory)
  told (Ok o) h k f because = absurd (unrefused o f h because)
  told (Err e) h k f because = elim (one_refusal e f k because) [
    | inl same ↦ inl (ap Err same)
    | inr memory ↦ inr (ap Err memory)
  ]

use Rattle.std.proofs.Common.{true≢false, sym}
use Rattle.xcp_program.proofs.CommandLineLemmas.{chosen, one_file}
use Rattle.xcp_program.proofs.server_words.gives_one_file.Goals as goal

pub returns-in-Some-text_in : goal.returns-in-Some-text_in
returns-in-Some-text_in c =
    let journal = chosen c.requires.journal c.in-Some.ensures.some in
    let flash = chosen c.requires.flash c.in-Some-text_in.ensures.some in (
      λ yes. record { written = c.in-Some.journal.now; stored = c.in-Some-text_in.flash.now; journal = journal; flash = flash; same = c.is_one_file.ensures.0 yes },
      λ one. c.is_one_file.ensures.1 (one_file one journal flash),
    )

pub returns-in-None-text_in : goal.returns-in-None-text_in
returns-in-None-text_in c = (λ yes. absurd (true≢false (sym yes)), λ one. absurd (c.text_in-in-Some.ensures.none c.in-None-text_in.is one.stored one.flash.text))

pub returns-in-None : goal.returns-in-None
returns-in-None c = (λ yes. absurd (true≢false (sym yes)), λ one. absurd (c.text_in.ensures.none c.in-None.is one.written one.journal.text))

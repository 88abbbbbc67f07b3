use Rattle.std.proofs.Common.{◌≡◌, inl, inr, [], Option, None, MatchOption, Bor, ◌∙◌, codes, sym, subst, append-nil}
use Rattle.std.specs.Str.Pattern.{FindsTextPrefix}
use Rattle.clap.specs.Words.{Text}
use Rattle.xcp_program.specs.CommandLine.{IsOneFile}
use Rattle.xcp_program.proofs.server_words.is_one_file.Goals as goal

-- a text that doesn't begin with another is neither that one nor that one with more behind it
none_behind : (X : Bor Text → Type 0) (journal flash : Text) (r : Option (Bor Text)) → MatchOption r (FindsTextPrefix flash journal None) X → r ≡ None → IsOneFile journal flash → ⊥
none_behind X journal flash r found none same =
    let lacks = subst (λ (o : Option (Bor Text)). MatchOption o (FindsTextPrefix flash journal None) X) none found in
    elim same [
      | inl same ↦ lacks [] (same ∙ sym (append-nil flash))
      | inr (inl new) ↦ lacks (codes ".new") new
      | inr (inr lock) ↦ lacks (codes ".lock") lock
    ]

pub returns-in_default-2 : goal.returns-in_default-2
returns-in_default-2 c = (λ e. cc, λ same. absurd (none_behind _ c.args.journal.now c.args.flash.now c.strip_prefix.result c.strip_prefix.ensures.cases c.in_default.is same))

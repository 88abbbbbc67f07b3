use Rattle.std.proofs.Common.{length, sym, ◌∙◌, ap}
use Rattle.std.proofs.lemmas.List.{length-map}
use Rattle.xcp_config.specs.TableChecks.{first_table_fault}
use Rattle.xcp_describe.specs.Findings.{refused_entry}
use Rattle.xcp_describe.specs.FindingsText.{findings_text}
use Rattle.xcp_describe.specs.UnreadKeys.{unread_keys}
use Rattle.xcp_describe.specs.private.TableKeys.{keys_of, placed}
use Rattle.xcp_describe.proofs.CleanLemmas.{checked_is_found}
use Rattle.xcp_describe.proofs.checking.findings_of.Goals as goal

pub returns-in-Ok-text_of-clause-found : goal.returns-in-Ok-text_of-clause-found
returns-in-Ok-text_of-clause-found c =
    let keys = c.in-Ok.ensures ∙ ap unread_keys c.requires.is in
    checked_is_found _ _ _ _ (record {
      members = c.requires.members;
      document = c.requires.parsed;
      fault = c.in_ok-fault.ensures.fault ∙ ap (first_table_fault c.args.files.now) c.requires.is;
      unread = c.len.ensures ∙ sym c.as_slice.ensures.len ∙ ap length c.as_slice.ensures.value ∙ sym (length-map c.in-Ok.unread.items placed) ∙ ap length keys;
      refused = c.in_ok-fault.ensures.entry;
      first = c.in_ok-fault.ensures.first ∙ ap (refused_entry c.args.files.now c.in_ok-fault.fault) c.requires.is;
      told =
          c.in-Ok-text_of.ensures
          ∙ ap (λ ks. findings_text c.in_ok-fault.fault ks c.in_ok-fault.refused) (ap keys_of c.as_slice.ensures.value ∙ keys);
    })

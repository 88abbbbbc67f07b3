use Rattle.std.proofs.Common.{◌∙◌, sym}
use Rattle.clap.specs.Words.{found_of, matched_of, subcommand_rows_of}
use Rattle.xcp_program.proofs.CommandLineLemmas.{gives_as, is_there, not_there}
use Rattle.xcp_program.proofs.server_words.gives.Goals as goal

pub returns-then-contains_id : goal.returns-then-contains_id
returns-then-contains_id c =
    let f = found_of c.in-Some.found.now in
    is_there (matched_of f c.args.option.now) c.contains_id.result c.value_source.result c.is_explicit.result c.contains_id.ensures c.if-contains_id.true c.value_source.ensures c.is_explicit.ensures ∙ sym (gives_as c.args.option.now (subcommand_rows_of c.args.matches.now) f c.in-Some.ensures.rows)

pub returns-else-contains_id : goal.returns-else-contains_id
returns-else-contains_id c =
    let f = found_of c.in-Some.found.now in
    not_there (matched_of f c.args.option.now) c.contains_id.result c.contains_id.ensures c.if-contains_id.false ∙ sym (gives_as c.args.option.now (subcommand_rows_of c.args.matches.now) f c.in-Some.ensures.rows)

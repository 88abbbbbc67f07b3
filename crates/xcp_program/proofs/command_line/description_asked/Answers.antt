use Rattle.std.proofs.Common.{rules, codes, string_bytes, ◌∙◌}
use Rattle.xcp_program.specs.CommandLine.{HasText, named_port}
use Rattle.clap.specs.Words.{subcommand_rows_of}
use Rattle.xcp_program.proofs.CommandLineLemmas.{has_spelt_in, same_text}
use Rattle.xcp_program.proofs.command_line.description_asked.Goals as goal

pub returns-clause-asked : goal.returns-clause-asked
returns-clause-asked c =
    let found = subcommand_rows_of c.args.matches.now in
    let asked = c.requires in
    let p = has_spelt_in found (codes "describe") named_port asked.p c.decimal_in.result asked.port c.decimal_in.ensures in
    let file : HasText found (codes "describe") (codes "config") (string_bytes c.in_ok-config.config) = search rules in
    let host : HasText found (codes "describe") (codes "host") (string_bytes c.in_ok-host.host) = search rules in
    record {
      config = record { text = file; given = asked.config.given };
      host = record { text = host; otherwise = λ none. same_text host asked.host.text ∙ asked.host.otherwise none };
      port = p;
      flag = search rules;
      udp = search rules;
    }

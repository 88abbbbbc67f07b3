use Rattle.std.proofs.Common.{arith, rules, sym, ◌∙◌}
use Rattle.clap.specs.Words.{subcommand_rows_of}
use Rattle.xcp_program.specs.CommandLine.{cut_every, idle, patience, period, port, queue, tasks, tools}
use Rattle.xcp_program.proofs.CommandLineLemmas.{has_spelt, one_over_udp, within_most}
use Rattle.xcp_program.proofs.server_words.stay_asked.Goals as goal

pub number_in-requires-8 : goal.number_in-requires-8
number_in-requires-8 c =
    let asked = c.requires.asks in
    (asked.c, asked.cut_every.spelt, omega (arith, asked.cut_every.most))

pub returns-clause-asked : goal.returns-clause-asked
returns-clause-asked c =
    let found = subcommand_rows_of c.args.matches.now in
    let asked = c.requires.asks in
    record {
      config = search rules;
      host = search rules;
      port = has_spelt found port asked.p c.number_in.result asked.port c.number_in.ensures;
      tools = has_spelt found tools asked.t c.number_in-2.result asked.tools c.number_in-2.ensures;
      alone = λ over. one_over_udp _ _ _ (within_most found c.number_in-2.result c.requires.few c.number_in-2.ensures) (sym c.has_flag-3.ensures ∙ over);
      tasks = has_spelt found tasks asked.k c.number_in-3.result asked.tasks c.number_in-3.ensures;
      period = has_spelt found period asked.ms c.number_in-4.result asked.period c.number_in-4.ensures;
      patience = has_spelt found patience asked.s c.number_in-5.result asked.patience c.number_in-5.ensures;
      queue = has_spelt found queue asked.q c.number_in-6.result asked.queue c.number_in-6.ensures;
      idle = has_spelt found idle asked.i c.number_in-7.result asked.idle c.number_in-7.ensures;
      cut_every = has_spelt found cut_every asked.c c.number_in-8.result asked.cut_every c.number_in-8.ensures;
      no_stdin = search rules;
      journal = search rules;
      flash = search rules;
      pace = search rules;
      udp = search rules;
      stays = c.requires.stays;
      others = search rules;
      cuts = search rules;
      apart = search rules;
    }

use Rattle.std.proofs.Common.{◌≡◌, ℕ, Result, Err, inr, ap, ◌∙◌, subst}
use Rattle.xcp_memory.specs.Layout.{LayoutValue}
use Rattle.xcp_slave.specs.SlaveValue.{SlaveValue, layout_of, opening}
use Rattle.xcp_slave.specs.Run.{Run, requests_of}
use Rattle.xcp_framing.specs.Desk.{DeskValue}
use Rattle.xcp_script.specs.Replay.{EndsShort, OfLines, Replayed, TellsAnswers, asked}
use Rattle.xcp_script.specs.AnswerText.{answers_text}
use Rattle.xcp_script.specs.declared.ReplayError.{ReplayError}
use Rattle.xcp_script.specs.declared.ReplayError.TheVariants as errors
use Rattle.xcp_program.proofs.replaying.answer_script.Goals as goal

pub returns-clause-answered : goal.returns-clause-answered
returns-clause-answered g c =
    let desk : DeskValue = c.replay_on.new.desk in
    let same : layout_of c.new-desk.result.slave ≡ c.args.layout = ap (λ (d : DeskValue). layout_of d.slave) c.new-desk.ensures ∙ ap (λ (v : SlaveValue). layout_of v) c.in-Ok.ensures in
    record {
      exchanges = desk.exchanges;
      slave = desk.slave;
      run = subst (λ (l : LayoutValue). Run (opening l) desk.exchanges desk.slave) same c.replay_on.ensures.run;
      asked = subst (λ (l : LayoutValue). OfLines (g.R.Read.remaining c.args.reader.now.inner) (λ lines. Replayed l.max_cto lines c.replay_on.result (requests_of desk.exchanges))) same c.replay_on.ensures.replayed;
      written = c.replay_on.ensures.told;
    }

pub returns-clause-memory : goal.returns-clause-memory
returns-clause-memory g c = λ h.
    let desk : DeskValue = c.replay_on.new.desk in
    let script = g.R.Read.remaining c.args.reader.now.inner in
    let old = g.W.Write.contents c.args.writer.now.inner in
    let new = g.W.Write.contents c.replay_on.new.writer.inner in
    let same : layout_of c.new-desk.result.slave ≡ c.args.layout = ap (λ (d : DeskValue). layout_of d.slave) c.new-desk.ensures ∙ ap (λ (v : SlaveValue). layout_of v) c.in-Ok.ensures in
    inr (record {
      answers = record {
        exchanges = desk.exchanges;
        slave = desk.slave;
        run = subst (λ (l : LayoutValue). Run (opening l) desk.exchanges desk.slave) same c.replay_on.ensures.run;
        asked = subst (λ (l : LayoutValue). OfLines script (λ lines. Replayed l.max_cto lines (Err errors.Memory) (requests_of desk.exchanges))) same
            (subst (λ (r : Result ℕ ReplayError). OfLines script (λ lines. Replayed (layout_of c.new-desk.result.slave).max_cto lines r (requests_of desk.exchanges))) h c.replay_on.ensures.replayed);
        written = subst (λ (r : Result ℕ ReplayError). TellsAnswers r old new (answers_text desk.exchanges)) h c.replay_on.ensures.told;
      };
      short = subst (λ (l : LayoutValue). OfLines script (λ lines. EndsShort (asked l.max_cto lines) desk.exchanges old new)) same (c.replay_on.ensures.memory h);
    })

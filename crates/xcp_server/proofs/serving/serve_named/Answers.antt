use Rattle.std.proofs.Common.{◌≡◌, ◌∷◌, [], ◌++◌, ap, subst, sym, ◌∙◌}
use Rattle.std.specs.Prelude.{MatchResult}
use Rattle.xcp_memory.specs.Layout.{LayoutValue}
use Rattle.xcp_locked.specs.LockedSlave.{LockedValue}
use Rattle.xcp_server.specs.Report.{IsMismatch, IsReport, given_in, given_open}
use Rattle.xcp_server.proofs.serving.serve_named.Goals as goal

pub returns : goal.returns
returns g c =
    let closing = c.in-Ok.closing in
    let same = c.conclude-told.ensures.same in
    let told = subst (λ (l : LayoutValue). MatchResult c.conclude-told.result (IsReport l closing) (IsMismatch l closing)) (sym c.requires.name.2) c.conclude-told.ensures.told in
    let journal : c.into_journal-journal.result.entries ≡ closing.locked.journal = c.into_journal-journal.ensures ∙ ap (λ l. l.journal) same.locked in
    let written = subst (λ (l : LockedValue). g.S.Scribe.wrote c.write_open-scribe.result (given_in closing.chapters.items ++ given_open l ∷ [])) same.locked (c.write_open-scribe.ensures (given_in closing.chapters.items) c.in-Ok.ensures.leaves.written) in
    record {
      served = record {
        closing = closing;
        closes = c.in-Ok.ensures.closes;
        frames = c.in-Ok.ensures.frames;
        hangup = c.in-Ok.ensures.leaves.hangup;
        run = c.in-Ok.ensures.leaves.run;
        reached = c.in-Ok.ensures.leaves.reached;
        told = told;
        journal = journal;
        left = ap (λ v. v.items) same.left;
        written = written;
      };
    }

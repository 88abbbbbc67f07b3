use Rattle.std.proofs.Common.{◌≡◌, ◌++◌, List, ℕ, rules, ap, ◌∙◌, subst}
use Rattle.std.specs.Io.KnownBytes.{Appends}
use Rattle.sha2.specs.Hashers.{Holds256}
use Rattle.xcp_framing.specs.Prefix.{AppendsFront}
use Rattle.std.specs.Prelude.{Some}
use Rattle.xcp_record.specs.declared.roster.Roster.{Roster}
use Rattle.xcp_record.specs.FileFormat.{head, journal_magic, roster_bytes}
use Rattle.xcp_record.proofs.HeadLemmas.{head_parts}
use Rattle.xcp_record.proofs.RecordLemmas.{on_err}
use Rattle.xcp_record.proofs.recorder.begin.Goals as goal

-- the magic with the layout and the roster behind it is the head
is_head : (r : Roster) (layout first second third : List ℕ) → first ≡ journal_magic 2 → second ≡ first ++ layout → third ≡ second ++ roster_bytes r → third ≡ head (Some r) layout
is_head r layout first second third begins goes_on ends = ends ∙ ap (λ (b : List ℕ). b ++ roster_bytes r) (goes_on ∙ ap (λ (b : List ℕ). b ++ layout) begins) ∙ head_parts r layout

pub returns-in_err-write_all-clause-front : goal.returns-in_err-write_all-clause-front
returns-in_err-write_all-clause-front g c =
    let layout = c.args.layout.now in
    let old = g.W.Write.contents c.args.writer.now.inner in
    let now = g.W.Write.contents c.write_all.new.self.inner in
    let whole = is_head c.args.roster layout c.extend_from_slice.new.self.items c.extend_from_slice-2.new.self.items c.extend_from_slice-3.new.self.items (search rules) (search rules) (search rules) in
    on_err c.from_residual-in_err-write_all.result (AppendsFront old now (head (Some c.args.roster) layout)) (subst (AppendsFront old now) (c.deref.ensures.value ∙ whole) (c.in_err-write_all.ensures {u = tt}).front)

pub returns-clause-written : goal.returns-clause-written
returns-clause-written g c =
    let layout = c.args.layout.now in
    let whole = is_head c.args.roster layout c.extend_from_slice.new.self.items c.extend_from_slice-2.new.self.items c.extend_from_slice-3.new.self.items (search rules) (search rules) (search rules) in
    subst (Appends (g.W.Write.contents c.args.writer.now.inner) (g.W.Write.contents c.write_all.new.self.inner)) (c.deref.ensures.value ∙ whole) (c.in_ok-write_all.ensures {u = tt}).ok

pub returns-clause-held : goal.returns-clause-held
returns-clause-held g c =
    let layout = c.args.layout.now in
    let whole = is_head c.args.roster layout c.extend_from_slice.new.self.items c.extend_from_slice-2.new.self.items c.extend_from_slice-3.new.self.items (search rules) (search rules) (search rules) in
    subst (Holds256 _) whole (c.update.ensures _ c.requires.fresh)

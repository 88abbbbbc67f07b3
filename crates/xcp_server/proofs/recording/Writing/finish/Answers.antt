use Rattle.std.proofs.Common.{rules, ◌≡◌, ◌≤◌, false, ap, length, sym, subst, take, ◌∙◌}
use Rattle.std.specs.Prelude.{Option, Some}
use mathlib.Core.List.{IsPrefix}
use Rattle.xcp_locked.specs.Excerpts.{ExcerptsValue, HandingValue, KeepsPace, excerpts_of}
use Rattle.xcp_server.specs.Report.{given_in}
use Rattle.xcp_server.specs.private.WrittenChapters.{given_by}
use Rattle.xcp_server.proofs.WrittenChapterLemmas.{front_of_front, given_front, no_longer}
use Rattle.xcp_server.proofs.recording.Writing.finish.Goals as goal

pub write_rest-requires : goal.write_rest-requires
write_rest-requires g c =
    let e = c.in-Some-Some.excerpts in
    let h = c.in-Some-Some.handing in
    let cs = c.args.chapters.now in
    let scribe = c.self.inside.scribe in
    let same = c.follow.ensures.same in
    let taken : c.self.inside.excerpts ≡ Some e = search rules in
    let handed : c.args.handing ≡ Some h = search rules in
    let of_handed : IsPrefix e.taken h.given = subst (λ (x : HandingValue). IsPrefix e.taken x.given) same.1 (subst (λ (x : ExcerptsValue). IsPrefix x.taken c.follow.new.handing.given) same.0 c.follow.ensures.first) in
    let pace = subst (λ (x : Option HandingValue). KeepsPace false x cs) handed c.requires.pace in
    let front = front_of_front e.taken h.given (excerpts_of cs) of_handed pace.first in
    let count : c.count.result ≡ length e.taken = c.count.ensures ∙ ap (λ (x : ExcerptsValue). length x.taken) same.0 in
    let wrote = subst (λ (x : Option ExcerptsValue). g.S.Scribe.wrote scribe (given_by x)) taken c.self.invariant in
    let given = subst (λ z. g.S.Scribe.wrote scribe z) (given_front e.taken cs front) wrote in (
      subst (λ n. n ≤ length cs) (sym count) (no_longer e.taken cs front),
      subst (λ n. g.S.Scribe.wrote scribe (given_in (take n cs))) (sym count) given,
    )

use Rattle.std.proofs.Common.{◌≡◌, ◌≤◌, nat_eq, length, take, subst, arith}
use Rattle.std.proofs.lemmas.List.{length-take}
use Rattle.std.specs.Prelude.{MatchBool}
use Rattle.xcp_datagrams.specs.Datagrams.{IsWholeFrames}
use Rattle.xcp_datagrams.specs.Letters.{LetterValue}
use Rattle.xcp_datagrams.proofs.FrontLemmas.{whole_where}
use Rattle.xcp_datagrams.proofs.letter.Letter.open.Goals as goal

pub returns-in-Some-clause-whole : goal.returns-in-Some-clause-whole
returns-in-Some-clause-whole c =
    let l = c.self.inside in
    let m = c.args.max_cto in
    let n = c.in-Some.end in
    let same = c.deref.ensures.value in
    subst (λ (v : LetterValue). MatchBool (nat_eq n l.size) (IsWholeFrames m v.bytes) (¬ (IsWholeFrames m v.bytes))) c.self.view_is
    (whole_where m n l.size (take l.size l.bytes.items) (rw same at c.in-Some.ensures.fits) (grind (arith, length-take l.size l.bytes.items)) (rw same at c.in-Some.ensures.within) (rw same at c.in-Some.ensures.left))

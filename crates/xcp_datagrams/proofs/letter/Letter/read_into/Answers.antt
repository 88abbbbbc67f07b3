use Rattle.std.proofs.Common.{◌≡◌, ◌≤◌, ◌+◌, ◌-◌, ℕ, drop, take, sym, ap, ◌∙◌, arith}
use Rattle.std.proofs.lemmas.List.{drop-drop, drop-take}
use Rattle.xcp_datagrams.specs.Letters.{LetterValue}
use Rattle.xcp_datagrams.proofs.letter.Letter.read_into.Goals as goal

pub returns-clause-left : goal.returns-clause-left
returns-clause-left c =
    let l = c.self.inside in
    let n = c.min-count.result in
    let b = l.bytes.items in
    let within : n ≤ l.end - l.at = grind arith in
    let behind : drop (l.at + n) b ≡ drop n (drop l.at b) = sym (drop-drop n l.at b ∙ ap (λ (i : ℕ). drop i b) (omega arith)) in
    let less : l.end - (l.at + n) ≡ (l.end - l.at) - n = omega (arith, within) in
    let whole : n + ((l.end - l.at) - n) ≡ l.end - l.at = omega (arith, within) in
    ap (take (l.end - (l.at + n))) behind
    ∙ ap (λ (i : ℕ). take i (drop n (drop l.at b))) less
    ∙ sym (drop-take n ((l.end - l.at) - n) (drop l.at b))
    ∙ ap (λ (i : ℕ). drop n (take i (drop l.at b))) whole
    ∙ ap (λ (v : LetterValue). drop n v.unread) c.self.view_is
